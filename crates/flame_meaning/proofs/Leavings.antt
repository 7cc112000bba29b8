-- What an outcome tells of the progress that was left.
use Rattle.std.proofs.Common.{◌≡◌, ◌⊎◌, inl, inr, ℕ, ◌≤◌, List, [], refl, sym, ap, ◌∙◌, subst, Bool, true, false, cond, Option, Some, None, arith}
use Rattle.std.specs.Prelude.{ℤ, pos, Ok, Err, Result, All, length, slice_get}
use Rattle.flame_spec.specs.declared.outcomes.Source.{Source}
use Rattle.flame_spec.specs.declared.outcomes.Effect.{Effect}
use Rattle.flame_spec.specs.declared.outcomes.Outcome.TheVariants.{Ended}
use Rattle.flame_spec.specs.declared.faults.Fault.{Fault}
use Rattle.flame_spec.specs.Definitions.{helpers, body_of}
use Rattle.flame_spec.specs.Functions.{functions, Place}
use Rattle.flame_spec.specs.HelperFaults.{deepest_calls}
use Rattle.flame_spec.specs.Trees.{Expressions, no_parts, part}
use Rattle.flame_meaning.specs.Scenes.{Scene, Progress}
use Rattle.flame_meaning.specs.Expressions.{holds, value_of, on_value, all_value, any_value}
use Rattle.flame_meaning.specs.Ends.{End, went_on, broke, continued, returned, faulted}
use Rattle.flame_meaning.specs.Statements.{meanings}
use Rattle.flame_meaning.specs.HelperCalls.{helper_calls}
use Rattle.flame_meaning.specs.Outcomes.{scene_of, start, ended, finished, outcome_at}
use Rattle.flame_meaning.specs.Kept.{IsKept, IsKeptByPaying, Leaves}
use Rattle.flame_meaning.specs.OutcomeLaws.{RowsHaveWidths, FuelNeverRises, TruthIsZeroOrOne, IsMessage, IsAgent}
use Rattle.flame_meaning.proofs.Keeps.{statements_keep}
use Rattle.flame_meaning.proofs.Turns.{Falls, fuel_kept, calls_fall}
use Rattle.flame_meaning.proofs.Widened.{Widens, widths_kept, widths_paid}

-- the effect is what was left by way of the fact holds
record Left (R : Progress → Progress → Type 0) (s : Progress) (effect : Effect) : Type 0 where
  progress : Progress
  kept : R s progress
  fuel : effect.fuel ≡ progress.fuel
  sent : effect.sent ≡ progress.sent
  born : effect.born ≡ progress.born
  memory : (row : List ℤ) → effect.memory ≡ Some row → row ≡ progress.memory

left_here :
    (R : Progress → Progress → Type 0) (s t : Progress) (effect : Effect)
    → R s t
    → ended (Some t.memory) t ≡ Ended effect
    → Left R s effect
left_here R s t effect h e =
    let same : record { memory = Some t.memory; sent = t.sent; born = t.born; fuel = t.fuel } ≡ effect = cc in
    record {
      progress = t;
      kept = h;
      fuel = sym (ap (λ x. x.fuel) same);
      sent = sym (ap (λ x. x.sent) same);
      born = sym (ap (λ x. x.born) same);
      memory = λ row is. let m = ap (λ x. x.memory) same in cc;
    }

gone_here :
    (R : Progress → Progress → Type 0) (s t : Progress) (effect : Effect)
    → R s t
    → ended None t ≡ Ended effect
    → Left R s effect
gone_here R s t effect h e =
    let same : record { memory = None; sent = t.sent; born = t.born; fuel = t.fuel } ≡ effect = cc in
    record {
      progress = t;
      kept = h;
      fuel = sym (ap (λ x. x.fuel) same);
      sent = sym (ap (λ x. x.sent) same);
      born = sym (ap (λ x. x.born) same);
      memory = λ row is. let m = ap (λ x. x.memory) same in cc;
    }

left_by :
    (R : Progress → Progress → Type 0) (s : Progress) (e : End) (effect : Effect)
    → Leaves R s e
    → finished e ≡ Ended effect
    → Left R s effect
left_by R s (went_on t) effect h e = left_here R s t effect h e
left_by R s (broke t) effect h e = left_here R s t effect h e
left_by R s (continued t) effect h e = left_here R s t effect h e
left_by R s (returned v t) effect h e = by_test (holds v) e
  where
    by_test : (b : Bool) → cond b (ended None t) (ended (Some t.memory) t) ≡ Ended effect → Left R s effect
    by_test true g = gone_here R s t effect h g
    by_test false g = left_here R s t effect h g
left_by R s (faulted fault) effect h e = cc

outcome_left :
    (source : Source) (R : Progress → Progress → Type 0)
    → IsKept source.model R
    → ((constants : List ℤ) (iteration : ℤ) → IsKeptByPaying (helper_calls source.model (helpers source.model source.units) constants iteration) R)
    → (place : Option Place) (memory : List ℤ) (readings : List (List (List ℤ))) (constants : List ℤ) (iteration : ℤ) (fuel : ℕ)
    (effect : Effect)
    → outcome_at place source memory readings constants iteration fuel ≡ Ended effect
    → Left R (start memory fuel) effect
outcome_left source R kept paid None memory readings constants iteration fuel effect e =
    left_by R (start memory fuel) (went_on (start memory fuel)) effect (kept.same (start memory fuel)) e
outcome_left source R kept paid (Some place) memory readings constants iteration fuel effect e =
    let scene = scene_of source place readings constants iteration in
    left_by R (start memory fuel) (meanings (body_of source.units place.function) scene (start memory fuel)) effect
    (statements_keep source.model scene.answers R kept (paid constants iteration) (body_of source.units place.function) scene (start memory fuel)
    (record { same_model = refl; same_calls = refl })) e

none_yet : {X : Type 0} (P : X → Type 0) → All P []
none_yet P = λ k d less. absurd (omega arith)

pub rows_have_widths : RowsHaveWidths
rows_have_widths source function memory readings constants iteration fuel effect e =
    let l = outcome_left source (Widens source.model) (widths_kept source.model)
    (λ constants iteration. widths_paid source.model _)
    (slice_get (functions source.model) function) memory readings constants iteration fuel effect e in
    record {
      kept = λ row is. ap length (l.memory row is) ∙ l.kept.memory;
      sent = subst (All (IsMessage source.model)) (sym l.sent) (l.kept.sent (none_yet (IsMessage source.model)));
      born = subst (All (IsAgent source.model)) (sym l.born) (l.kept.born (none_yet (IsAgent source.model)));
    }

pub fuel_never_rises : FuelNeverRises
fuel_never_rises source function memory readings constants iteration fuel effect e =
    let l = outcome_left source Falls (fuel_kept source.model)
    (λ constants iteration. calls_fall deepest_calls source.model (helpers source.model source.units) constants iteration)
    (slice_get (functions source.model) function) memory readings constants iteration fuel effect e in
    let h : l.progress.fuel ≤ fuel = l.kept in
    subst (λ n. n ≤ fuel) (sym l.fuel) h

-- ---- truth

all_truth :
    (parts : Expressions) (scene : Scene) (s : Progress) (v : ℤ)
    → all_value parts scene s ≡ Ok v
    → (v ≡ pos 0) ⊎ (v ≡ pos 1)
all_truth no_parts scene s v e = let same : v ≡ pos 1 = cc in inr same
all_truth (part e parts) scene s v h = by_value (value_of e scene s) h (all_truth parts scene s v)
  where
    by_test :
        (b : Bool)
        → cond b (all_value parts scene s) (Ok (pos 0)) ≡ Ok v
        → (all_value parts scene s ≡ Ok v → (v ≡ pos 0) ⊎ (v ≡ pos 1))
        → (v ≡ pos 0) ⊎ (v ≡ pos 1)
    by_test true g more = more g
    by_test false g more = let same : v ≡ pos 0 = cc in inl same

    by_value :
        (r : Result ℤ Fault)
        → on_value r (λ w. cond (holds w) (all_value parts scene s) (Ok (pos 0))) ≡ Ok v
        → (all_value parts scene s ≡ Ok v → (v ≡ pos 0) ⊎ (v ≡ pos 1))
        → (v ≡ pos 0) ⊎ (v ≡ pos 1)
    by_value (Ok w) g more = by_test (holds w) g more
    by_value (Err fault) g more = cc

any_truth :
    (parts : Expressions) (scene : Scene) (s : Progress) (v : ℤ)
    → any_value parts scene s ≡ Ok v
    → (v ≡ pos 0) ⊎ (v ≡ pos 1)
any_truth no_parts scene s v e = let same : v ≡ pos 0 = cc in inl same
any_truth (part e parts) scene s v h = by_value (value_of e scene s) h (any_truth parts scene s v)
  where
    by_test :
        (b : Bool)
        → cond b (Ok (pos 1)) (any_value parts scene s) ≡ Ok v
        → (any_value parts scene s ≡ Ok v → (v ≡ pos 0) ⊎ (v ≡ pos 1))
        → (v ≡ pos 0) ⊎ (v ≡ pos 1)
    by_test true g more = let same : v ≡ pos 1 = cc in inr same
    by_test false g more = more g

    by_value :
        (r : Result ℤ Fault)
        → on_value r (λ w. cond (holds w) (Ok (pos 1)) (any_value parts scene s)) ≡ Ok v
        → (any_value parts scene s ≡ Ok v → (v ≡ pos 0) ⊎ (v ≡ pos 1))
        → (v ≡ pos 0) ⊎ (v ≡ pos 1)
    by_value (Ok w) g more = by_test (holds w) g more
    by_value (Err fault) g more = cc

pub truth_is_zero_or_one : TruthIsZeroOrOne
truth_is_zero_or_one parts scene s v (inl e) = all_truth parts scene s v e
truth_is_zero_or_one parts scene s v (inr e) = any_truth parts scene s v e
