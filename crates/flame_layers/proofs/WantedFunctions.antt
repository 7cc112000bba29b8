-- The functions that are still run, and those of a layer among them.
use Rattle.std.proofs.Common.{◌≡◌, ℕ, ◌<◌, ◌⊎◌, inl, inr, ⊎_elim, Bool, true, false, cond, List, [], ◌∷◌, Option, Some, None, refl, sym, ap, ◌∙◌, arith, subst}
use Rattle.std.specs.Prelude.{◌==◌, not, is_some, option_map, nat_lt}
use Rattle.std.specs.List.{filter}
use Rattle.std.proofs.lemmas.Bool.{and_parts, or_parts, eqb-true, cases_Bool, ltb-true, true≢false, false≢true}
use Rattle.std.proofs.lemmas.List.FromFn.{get_or-map-range_with_len}
use Rattle.std.proofs.lemmas.Option.{none-some}
use Rattle.flame_spec.specs.declared.models.Model.{Model}
use Rattle.flame_spec.specs.Before.{before, function_count}
use Rattle.flame_spec.specs.Below.{all_below, is_in}
use Rattle.flame_spec.specs.Layers.{layer}
use Rattle.flame_spec.specs.ModelOrder.{model_order, left_over}
use Rattle.flame_spec.proofs.FirstBelow.{is_in-all_below}
use Rattle.flame_spec.proofs.Heights.{layer_rises}
use Rattle.flame_world.specs.declared.faults.SimFault.{SimFault}
use Rattle.flame_events.specs.CoreStates.{Core}
use Rattle.flame_events.specs.CoreEnds.{least_fault_rank, unfaulted, wanted}
use Rattle.flame_events.proofs.Ends.{unfaulted-cons}
use Rattle.flame_events.proofs.LeastRanks.{lower_ranks_are_wanted}
use Rattle.flame_events.proofs.Serial.{is_in-self, is_in-later, is_in-cases, IsOrdered, order_is_ordered}
use Rattle.flame_layers.specs.declared.stops.Stop.{Stop}
use Rattle.flame_layers.specs.LayerFunctions.{layer_of, still_run}
use Rattle.flame_layers.proofs.FaultedStops.{faults_in}

-- ---- lists of numbers

pub below_in : (test : ℕ → Bool) (n g : ℕ) → is_in g (all_below test n) ≡ true → (g < n) × (test g ≡ true)
below_in test n g within =
    let both = and_parts (nat_lt g n) (test g) (sym (is_in-all_below test n g) ∙ within) in
    (ltb-true g n both.0, both.1)

-- each number is in the list once
abbrev pub AreApart : List ℕ → Type 0
AreApart [] = Unit {0}
AreApart (f ∷ fs) = (is_in f fs ≡ false) × AreApart fs

pub apart_else : (f g : ℕ) (fs : List ℕ) → is_in f fs ≡ false → is_in g fs ≡ true → g ≡ f → ⊥
apart_else f g fs out within same = false≢true (sym out ∙ ap (λ h. is_in h fs) (sym same) ∙ within)

pub out_else : (f g : ℕ) (fs : List ℕ) → is_in g (f ∷ fs) ≡ false → (g ≡ f → ⊥) × (is_in g fs ≡ false)
out_else f g fs out =
    let parts = or_parts (f == g) (is_in g fs) out in
    ((λ same. true≢false (sym (ap (λ h. is_in h (f ∷ fs)) same ∙ is_in-self f fs) ∙ out)), parts.1)

pub not_in : (g : ℕ) (fs : List ℕ) → (is_in g fs ≡ true → ⊥) → is_in g fs ≡ false
not_in g fs never = ⊎_elim
    (λ (e : is_in g fs ≡ true). absurd (never e))
    (λ (e : is_in g fs ≡ false). e)
    (cases_Bool (is_in g fs))

pub in_filter : (test : ℕ → Bool) (g : ℕ) (fs : List ℕ) → is_in g (filter test fs) ≡ true → (test g ≡ true) × (is_in g fs ≡ true)
in_filter test g [] within = absurd (false≢true within)
in_filter test g (f ∷ fs) within = by (test f) refl within (in_filter test g fs)
  where
    by : (b : Bool) → test f ≡ b → is_in g (cond b (f ∷ filter test fs) (filter test fs)) ≡ true
        → (is_in g (filter test fs) ≡ true → (test g ≡ true) × (is_in g fs ≡ true)) → (test g ≡ true) × (is_in g (f ∷ fs) ≡ true)
    by true is within more = ⊎_elim
        (λ (same : g ≡ f). (ap test same ∙ is, subst (λ h. is_in h (f ∷ fs) ≡ true) (sym same) (is_in-self f fs)))
        (λ (later : is_in g (filter test fs) ≡ true). let rest = more later in (rest.0, is_in-later g f fs rest.1))
        (is_in-cases g f (filter test fs) within)
    by false is within more = let rest = more within in (rest.0, is_in-later g f fs rest.1)

pub to_filter : (test : ℕ → Bool) (g : ℕ) (fs : List ℕ) → test g ≡ true → is_in g fs ≡ true → is_in g (filter test fs) ≡ true
to_filter test g [] passes within = absurd (false≢true within)
to_filter test g (f ∷ fs) passes within = by (test f) refl (to_filter test g fs passes)
  where
    by : (b : Bool) → test f ≡ b → (is_in g fs ≡ true → is_in g (filter test fs) ≡ true) → is_in g (cond b (f ∷ filter test fs) (filter test fs)) ≡ true
    by true is more = ⊎_elim
        (λ (same : g ≡ f). subst (λ h. is_in h (f ∷ filter test fs) ≡ true) (sym same) (is_in-self f (filter test fs)))
        (λ (later : is_in g fs ≡ true). is_in-later g f (filter test fs) (more later))
        (is_in-cases g f fs within)
    by false is more = ⊎_elim
        (λ (same : g ≡ f). absurd (false≢true (sym is ∙ ap test (sym same) ∙ passes)))
        (λ (later : is_in g fs ≡ true). more later)
        (is_in-cases g f fs within)

apart_filter : (test : ℕ → Bool) (fs : List ℕ) → AreApart fs → AreApart (filter test fs)
apart_filter test [] apart = tt
apart_filter test (f ∷ fs) apart = by (test f) (apart_filter test fs apart.1)
  where
    by : (b : Bool) → AreApart (filter test fs) → AreApart (cond b (f ∷ filter test fs) (filter test fs))
    by true rest = (not_in f (filter test fs) (λ within. true≢false (sym (in_filter test f fs within).1 ∙ apart.0)), rest)
    by false rest = rest

-- ---- model order

ordered_new : (model : Model) (done fs : List ℕ) (g : ℕ) → IsOrdered model done fs → is_in g fs ≡ true → is_in g done ≡ false
ordered_new model done [] g ordered within = absurd (false≢true within)
ordered_new model done (f ∷ fs) g ordered within = ⊎_elim
    (λ (same : g ≡ f). ap (λ h. is_in h done) same ∙ ordered.0)
    (λ (later : is_in g fs ≡ true). (or_parts (f == g) (is_in g done) (ordered_new model (f ∷ done) fs g ordered.3 later)).1)
    (is_in-cases g f fs within)

ordered_apart : (model : Model) (done fs : List ℕ) → IsOrdered model done fs → AreApart fs
ordered_apart model done [] ordered = tt
ordered_apart model done (f ∷ fs) ordered = (
  not_in f fs (λ within. true≢false (sym (is_in-self f done) ∙ ordered_new model (f ∷ done) fs f ordered.3 within)),
  ordered_apart model (f ∷ done) fs ordered.3,
)

ordered_below : (model : Model) (done fs : List ℕ) (g : ℕ) → IsOrdered model done fs → is_in g fs ≡ true → g < function_count model
ordered_below model done [] g ordered within = absurd (false≢true within)
ordered_below model done (f ∷ fs) g ordered within = ⊎_elim
    (λ (same : g ≡ f). subst (λ h. h < function_count model) (sym same) ordered.1)
    (λ (later : is_in g fs ≡ true). ordered_below model (f ∷ done) fs g ordered.3 later)
    (is_in-cases g f fs within)

-- ---- the functions before the first that is faulted

-- of a list that begins with f
unfaulted_by : (core : Core) (f : ℕ) (fs : List ℕ) (P : List ℕ → Type 0) → ((fault : SimFault) → faults_in core f ≡ Some fault → P [])
    → (faults_in core f ≡ None → P (f ∷ unfaulted core fs)) → P (unfaulted core (f ∷ fs))
unfaulted_by core f fs P faulted not_yet = subst P (sym (unfaulted-cons core f fs)) (by (faults_in core f) refl)
  where
    by : (o : Option SimFault) → faults_in core f ≡ o → P (cond (not (is_some (faults_in core f))) (f ∷ unfaulted core fs) [])
    by None is = subst (λ o. P (cond (not (is_some o)) (f ∷ unfaulted core fs) [])) (sym is) (not_yet is)
    by (Some fault) is = subst (λ o. P (cond (not (is_some o)) (f ∷ unfaulted core fs) [])) (sym is) (faulted fault is)

pub unfaulted_none : (core : Core) (g : ℕ) (fs : List ℕ) → is_in g (unfaulted core fs) ≡ true → faults_in core g ≡ None
unfaulted_none core g [] within = absurd (false≢true within)
unfaulted_none core g (f ∷ fs) within =
    unfaulted_by core f fs (λ l. is_in g l ≡ true → faults_in core g ≡ None)
    (λ fault is e. absurd (false≢true e))
    (λ is e. ⊎_elim
    (λ (same : g ≡ f). ap (faults_in core) same ∙ is)
    (λ (later : is_in g (unfaulted core fs) ≡ true). unfaulted_none core g fs later)
    (is_in-cases g f (unfaulted core fs) e))
    within

pub unfaulted_in : (core : Core) (g : ℕ) (fs : List ℕ) → is_in g (unfaulted core fs) ≡ true → is_in g fs ≡ true
unfaulted_in core g [] within = absurd (false≢true within)
unfaulted_in core g (f ∷ fs) within =
    unfaulted_by core f fs (λ l. is_in g l ≡ true → is_in g (f ∷ fs) ≡ true)
    (λ fault is e. absurd (false≢true e))
    (λ is e. ⊎_elim
    (λ (same : g ≡ f). subst (λ h. is_in h (f ∷ fs) ≡ true) (sym same) (is_in-self f fs))
    (λ (later : is_in g (unfaulted core fs) ≡ true). is_in-later g f fs (unfaulted_in core g fs later))
    (is_in-cases g f (unfaulted core fs) e))
    within

apart_unfaulted : (core : Core) (fs : List ℕ) → AreApart fs → AreApart (unfaulted core fs)
apart_unfaulted core [] apart = tt
apart_unfaulted core (f ∷ fs) apart =
    unfaulted_by core f fs AreApart (λ fault is. tt)
    (λ is. (not_in f (unfaulted core fs) (λ within. true≢false (sym (unfaulted_in core f fs within) ∙ apart.0)), apart_unfaulted core fs apart.1))

-- what stands before one of them is another one, or comes earlier
unfaulted_closed : (core : Core) (model : Model) (done fs : List ℕ) (f g : ℕ) → IsOrdered model done fs → is_in f (unfaulted core fs) ≡ true
    → g < function_count model → before model g f ≡ true → (is_in g done ≡ true) ⊎ (is_in g (unfaulted core fs) ≡ true)
unfaulted_closed core model done [] f g ordered within less stands = absurd (false≢true within)
unfaulted_closed core model done (h ∷ fs) f g ordered within less stands =
    unfaulted_by core h fs (λ l. is_in f l ≡ true → (is_in g done ≡ true) ⊎ (is_in g l ≡ true))
    (λ fault is e. absurd (false≢true e))
    (λ is e. ⊎_elim
    (λ (same : f ≡ h). inl (ordered.2 g less (subst (λ k. before model g k ≡ true) same stands)))
    (λ (later : is_in f (unfaulted core fs) ≡ true). ⊎_elim
    (λ (early : is_in g (h ∷ done) ≡ true). ⊎_elim
    (λ (same : g ≡ h). inr (subst (λ k. is_in k (h ∷ unfaulted core fs) ≡ true) (sym same) (is_in-self h (unfaulted core fs))))
    (λ (old : is_in g done ≡ true). inl old)
    (is_in-cases g h done early))
    (λ (other : is_in g (unfaulted core fs) ≡ true). inr (is_in-later g h (unfaulted core fs) other))
    (unfaulted_closed core model (h ∷ done) fs f g ordered.3 later less stands))
    (is_in-cases f h (unfaulted core fs) e))
    within

-- when more are faulted they are fewer
pub unfaulted_fewer : (core next : Core) → ((g : ℕ) (fault : SimFault) → faults_in core g ≡ Some fault → faults_in next g ≡ Some fault)
    → (fs : List ℕ) (g : ℕ) → is_in g (unfaulted next fs) ≡ true → is_in g (unfaulted core fs) ≡ true
unfaulted_fewer core next stay [] g within = absurd (false≢true within)
unfaulted_fewer core next stay (f ∷ fs) g within =
    unfaulted_by next f fs (λ l. is_in g l ≡ true → is_in g (unfaulted core (f ∷ fs)) ≡ true)
    (λ fault is e. absurd (false≢true e))
    (λ none e.
    unfaulted_by core f fs (λ l. is_in g l ≡ true)
    (λ fault is. absurd (none-some fault (sym none ∙ stay f fault is)))
    (λ is. ⊎_elim
    (λ (same : g ≡ f). subst (λ k. is_in k (f ∷ unfaulted core fs) ≡ true) (sym same) (is_in-self f (unfaulted core fs)))
    (λ (later : is_in g (unfaulted next fs) ≡ true). is_in-later g f (unfaulted core fs) (unfaulted_fewer core next stay fs g later))
    (is_in-cases g f (unfaulted next fs) e)))
    within

-- ---- those that are wanted

pub wanted_apart : (model : Model) (core : Core) → AreApart (wanted model core)
wanted_apart model core = apart_unfaulted core (model_order model) (ordered_apart model [] (model_order model) (order_is_ordered model))

pub wanted_below : (model : Model) (core : Core) (g : ℕ) → is_in g (wanted model core) ≡ true → g < function_count model
wanted_below model core g within = ordered_below model [] (model_order model) g (order_is_ordered model) (unfaulted_in core g (model_order model) within)

pub wanted_closed : (model : Model) (core : Core) (f g : ℕ) → is_in f (wanted model core) ≡ true → g < function_count model → before model g f ≡ true
    → is_in g (wanted model core) ≡ true
wanted_closed model core f g within less stands = ⊎_elim
    (λ (none : is_in g [] ≡ true). absurd (false≢true none))
    (λ (there : is_in g (wanted model core) ≡ true). there)
    (unfaulted_closed core model [] (model_order model) f g (order_is_ordered model) within less stands)

pub still_is_wanted : (model : Model) (core : Core) (stop : Option Stop) → least_fault_rank model core ≡ option_map (λ (stop : Stop). stop.rank) stop
    → still_run model stop ≡ wanted model core
still_is_wanted model core None is = sym ((lower_ranks_are_wanted model core).1 is)
still_is_wanted model core (Some stop) is = sym ((lower_ranks_are_wanted model core).0 stop.rank is)

-- ---- layers

pub layer_is : (model : Model) (g : ℕ) → g < function_count model → layer_of model g ≡ layer (function_count model) (before model) g
layer_is model g less = get_or-map-range_with_len (layer (function_count model) (before model)) 0 (function_count model) g g 0 less (omega arith)

pub layers_rise : (model : Model) (f g : ℕ) → left_over model ≡ None → f < function_count model → g < function_count model → before model f g ≡ true
    → layer_of model f < layer_of model g
layers_rise model f g none fl gl stands =
    omega (arith, layer_is model f fl, layer_is model g gl, layer_rises (function_count model) (before model) none f g fl gl stands)

-- those of them that are of this layer
abbrev pub wanted_in : Model → Core → ℕ → List ℕ
wanted_in model core here = filter (λ f. layer_of model f == here) (wanted model core)

pub here_apart : (model : Model) (core : Core) (here : ℕ) → AreApart (wanted_in model core here)
here_apart model core here = apart_filter (λ f. layer_of model f == here) (wanted model core) (wanted_apart model core)

pub record IsHere (model : Model) (core : Core) (here f : ℕ) : Type 0 where
  pub wants : is_in f (wanted model core) ≡ true
  pub below : f < function_count model
  pub layer_is : layer_of model f ≡ here

pub is_here : (model : Model) (core : Core) (here f : ℕ) → is_in f (wanted_in model core here) ≡ true → IsHere model core here f
is_here model core here f within =
    let both = in_filter (λ f. layer_of model f == here) f (wanted model core) within in
    record { wants = both.1; below = wanted_below model core f both.1; layer_is = eqb-true (layer_of model f) here both.0 }
