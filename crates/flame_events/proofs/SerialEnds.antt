-- The serial run comes to the first fault that should be, or to a field after all functions; and its fields are ideal.
use Rattle.std.proofs.Common.{◌≡◌, ℕ, ◌<◌, ◌≤◌, ◌⊎◌, inl, inr, ⊎_elim, Bool, true, false, cond, List, [], ◌∷◌, Option, Some, None, Result, Ok, Err, refl, sym, ap, ◌∙◌, arith, subst}
use Rattle.std.specs.Prelude.{not, ◌==◌, slice_get}
use Rattle.std.specs.Option.{option_or}
use Rattle.std.proofs.lemmas.Bool.{cases_lt, cases_Bool, eq-eqb, ne_eqb, lt-ltb, le-ltb, or_parts, false≢true}
use Rattle.flame_spec.specs.Before.{before, function_count}
use Rattle.flame_spec.specs.Below.{is_in}
use Rattle.flame_spec.specs.Functions.{Place, functions}
use Rattle.flame_spec.specs.ModelOrder.{model_order, left_over}
use Rattle.std.specs.List.{filter}
use Rattle.std.proofs.lemmas.Option.{none-some, same_Some}
use Rattle.flame_rows.specs.Bags.{ascending}
use Rattle.flame_rows.proofs.Lists.{slice_get-some}
use Rattle.flame_world.specs.declared.faults.SimFault.{SimFault}
use Rattle.flame_world.specs.AgentRuns.{least_fault}
use Rattle.flame_world.specs.Fields.{Field}
use Rattle.flame_world.specs.Iterations.{Round, taking, outcome_in, unless_faulted, step_at, step, and_on, steps}
use Rattle.flame_events.proofs.Weights.{Rows}
use Rattle.flame_events.proofs.Spots.{Spot, leaves, pool_at, enters_before, writes_before}
use Rattle.flame_events.proofs.Holding.{Ideal, inflow, takes, IsIdealAt, IsIdeal, Holds, meets_agents, meets_board, same_fields}
use Rattle.flame_events.proofs.Serial.{is_in-self, is_in-later, is_in-cases, IsOrdered, order_is_ordered, order_is_whole, IsDone, nothing_done, done_more, stepped_at, stepped, before_of, taken_at, met, ideal, should_fault, first_should, all_of, HoldsAfter, is_function, IsEnd, Sends, moved_by, holds-moved_by, taking_is, over_same}

-- ---- where all functions are done, whatever list says so

pub holds_all : (round : Round) (start : Spot → Rows) (t : Ideal) (done : List ℕ) (a : Field)
    → HoldsAfter round start t (λ f. is_in f done) a
    → IsDone round.source.model done
    → ((f : ℕ) → f < function_count round.source.model → is_in f done ≡ true)
    → HoldsAfter round start t (is_function round) a
holds_all round start t done a h is whole =
    subst (λ (d : ℕ → Bool). HoldsAfter round start t d a) (λ i f. same f i) h
  where
    same : (f : ℕ) → is_in f done ≡ is_function round f
    same f = ⊎_elim
        (λ (less : f < function_count round.source.model). whole f less ∙ sym (lt-ltb f (function_count round.source.model) less))
        (λ (over : function_count round.source.model ≤ f).
        ⊎_elim
        (λ (e : is_in f done ≡ true). let less = is.below f e in absurd (omega (arith, less, over)))
        (λ (e : is_in f done ≡ false). e ∙ sym (le-ltb f (function_count round.source.model) over))
        (cases_Bool (is_in f done)))
        (cases_lt f (function_count round.source.model))

-- ---- an end is told by what should be

pub one_end : (round : Round) (start : Spot → Rows) (t : Ideal) (fault : Option SimFault) (x y : Result Field SimFault)
    → IsEnd round start t fault x → IsEnd round start t fault y → x ≡ y
one_end round start t fault (Ok a) (Ok b) h k =
    ap Ok (same_fields round start t a b (λ f. not (is_function round f)) (all_of t (is_function round)) (λ m. all_of t (is_function round)) h.1 k.1)
one_end round start t fault (Ok a) (Err y) h k = absurd (none-some y (sym h.0 ∙ k))
one_end round start t fault (Err x) (Ok b) h k = absurd (none-some x (sym k.0 ∙ h))
one_end round start t fault (Err x) (Err y) h k = ap Err (same_Some x y (sym h ∙ k))

-- ---- the serial run

end_by : (round : Round) (start : Spot → Rows) (t : Ideal) (found rest : Option SimFault) (a : Field) (go : Field → Result Field SimFault)
    → IsEnd round start t rest (go a) → IsEnd round start t (option_or found rest) (and_on (unless_faulted found a) go)
end_by round start t None rest a go h = h
end_by round start t (Some fault) rest a go h = refl

module _ (round : Round) (field : Field) (sends : Sends round (ideal round field)) where
  abbrev pub start : Spot → Rows
  start p = pool_at round.source.model field.pools p

  abbrev t : Ideal
  t = ideal round field

  -- what the serial run finds at f, where it is about to run
  record Facing (done fs : List ℕ) (a : Field) : Type 0 where
    pub holds : HoldsAfter round start t (λ f. is_in f done) a
    pub is : IsDone round.source.model done
    pub ordered : IsOrdered round.source.model done fs
    pub agrees : (g : ℕ) → is_in g done ≡ false → met round field g ≡ before_of round fs a g
    pub whole : (g : ℕ) → g < function_count round.source.model → (is_in g done ≡ true) ⊎ (is_in g fs ≡ true)

  module _ (f : ℕ) (done fs : List ℕ) (a : Field) (facing : Facing done (f ∷ fs) a) where
    below : f < function_count round.source.model
    below = facing.ordered.1

    found : (place : Place) × (slice_get (functions round.source.model) f ≡ Some place)
    found = slice_get-some (functions round.source.model) f below

    meets : met round field f ≡ a
    meets = facing.agrees f facing.ordered.0 ∙ ap (λ b. cond b a (before_of round fs (stepped round f a) f)) (eq-eqb f f refl)

    run_is : t.run f ≡ outcome_in round f a
    run_is = ap (outcome_in round f) meets

    agents_are : t.agents f ≡ taking round f found.0 a
    agents_are = ap (λ b. taken_at (slice_get (functions round.source.model) f) round f b) meets ∙ ap (λ o. taken_at o round f a) found.1

    all_there : (g : ℕ) → g < function_count round.source.model → before round.source.model g f ≡ true → all_of t (λ g. is_in g done) g ≡ t.agents g
    all_there g less stands = ap (λ b. cond b (t.agents g) []) (facing.ordered.2 g less stands)

    ideal_agents : t.agents f ≡ filter (takes round f) (ascending (inflow round.source.model start t (leaves round.source.model f)))
    ideal_agents =
        agents_are ∙ taking_is round f found.0 a found.1
        ∙ meets_agents round start t a (λ f. not (is_in f done)) (all_of t (λ g. is_in g done)) (λ m. all_of t (λ g. is_in g done)) facing.holds f
        (ap not facing.ordered.0)
        (λ g less same. all_there g less (enters_before round.source.model g f less below same))

    ideal_at : IsIdealAt round start t f
    ideal_at = record {
      agents = ideal_agents;
      run = λ boards agree memory.
          over_same round f boards a.boards
          (λ m less reads. agree m reads ∙ sym
          (meets_board round start t a (λ f. not (is_in f done)) (all_of t (λ g. is_in g done)) (λ m. all_of t (λ g. is_in g done)) facing.holds m less
          (λ g gl writes. all_there g gl (writes_before round.source.model g f m gl below writes reads))))
          memory
          ∙ ap (λ run. run memory) (sym run_is);
    }

    moved_is : stepped round f a ≡ moved_by round f found.0 (t.run f) (t.agents f) a
    moved_is =
        ap (λ o. stepped_at o round f a) found.1
        ∙ (λ i. moved_by round f found.0 (sym run_is i) (sym agents_are i) a)

    next : Facing (f ∷ done) fs (stepped round f a)
    next = record {
      holds = subst (HoldsAfter round start t (λ g. is_in g (f ∷ done))) (sym moved_is)
          (holds-moved_by round start t sends done facing.is a facing.holds f found.0 found.1 below facing.ordered.0 facing.ordered.2);
      is = done_more round.source.model done f facing.is below facing.ordered.2;
      ordered = facing.ordered.3;
      agrees = λ g out.
          let parts = or_parts (f == g) (is_in g done) out in
          facing.agrees g parts.1
          ∙ ap (λ b. cond b a (before_of round fs (stepped round f a) g))
          (ne_eqb g f (λ same. false≢true (sym parts.0 ∙ eq-eqb f g (sym same))));
      whole = λ g less. ⊎_elim
          (λ (old : is_in g done ≡ true). inl (is_in-later g f done old))
          (λ (later : is_in g (f ∷ fs) ≡ true). ⊎_elim
          (λ (same : g ≡ f). inl (subst (λ k. is_in k (f ∷ done) ≡ true) (sym same) (is_in-self f done)))
          (λ (rest : is_in g fs ≡ true). inr rest)
          (is_in-cases g f fs later))
          (facing.whole g less);
    }

    step_is : step round f a ≡ unless_faulted (should_fault round t f) (stepped round f a)
    step_is =
        ap (λ o. step_at o round f a) found.1
        ∙ (λ i. unless_faulted (least_fault round.iteration f (sym run_is i) (sym agents_are i)) (stepped_at (sym found.1 i) round f a))

  serial : (fs done : List ℕ) (a : Field) → Facing done fs a
      → IsEnd round start t (first_should round t fs) (steps round fs a) × ((f : ℕ) → is_in f fs ≡ true → IsIdealAt round start t f)
  serial [] done a facing = (
    (
      refl,
      holds_all round start t done a facing.holds facing.is
          (λ f less. ⊎_elim (λ (e : is_in f done ≡ true). e) (λ (e : false ≡ true). absurd (false≢true e)) (facing.whole f less)),
    ),
    λ f e. absurd (false≢true e),
  )
  serial (f ∷ fs) done a facing =
      let rest = serial fs (f ∷ done) (stepped round f a) (next f done fs a facing) in (
        subst (λ (r : Result Field SimFault). IsEnd round start t (first_should round t (f ∷ fs)) (and_on r (steps round fs))) (sym (step_is f done fs a facing))
            (end_by round start t (should_fault round t f) (first_should round t fs) (stepped round f a) (steps round fs) rest.0),
        λ g e. ⊎_elim
            (λ (same : g ≡ f). subst (IsIdealAt round start t) (sym same) (ideal_at f done fs a facing))
            (λ (later : is_in g fs ≡ true). rest.1 g later)
            (is_in-cases g f fs e),
      )

  pub serial_end : Holds round start t field (λ f. true) (λ g. []) (λ m g. []) → left_over round.source.model ≡ None
      → IsEnd round start t (first_should round t (model_order round.source.model)) (steps round (model_order round.source.model) field)
      × IsIdeal round start t
  serial_end begins none =
      let model = round.source.model in
      let whole = order_is_whole model none in
      let both = serial (model_order model) [] field (record {
        holds = begins;
        is = nothing_done model;
        ordered = order_is_ordered model;
        agrees = λ g out. refl;
        whole = λ g less. inr (whole g less);
      }) in
      (both.0, λ f less. both.1 f (whole f less))
