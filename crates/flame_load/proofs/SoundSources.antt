-- Sources whose function files have no fault, and those that have one.
use Rattle.std.proofs.Common.{◌≡◌, Some, Result, Ok, Err, sym, subst}
use Rattle.std.specs.Prelude.{IsTrue, IfOk}
use Rattle.flame_spec.specs.declared.faults.CheckFault.{CheckFault}
use Rattle.flame_spec.specs.declared.outcomes.Source.{Source}
use Rattle.flame_spec.specs.CheckFaults.{check_faults}
use Rattle.flame_spec.specs.Counted.{is_counted}
use Rattle.flame_spec.specs.Lists.{first}
use Rattle.flame_check.specs.declared.checking.Checked.{Checked}
use Rattle.flame_load.specs.declared.faults.LoadFail.{LoadFail}
use Rattle.flame_load.specs.declared.faults.LoadFail.TheVariants.{RefusedModel}
use Rattle.flame_load.specs.declared.faults.LoadFault.TheVariants.{Check}
use Rattle.flame_load.specs.CheckedSources.{IsChecked}
use Rattle.flame_load.specs.LoadAnswers.{Gives}
use Rattle.flame_load.specs.LoadedSources.{checked_source, planned_source, sound_source}
use Rattle.flame_load.specs.LoadRefusals.{of_model}
use Rattle.flame_load.proofs.KnownOrRefused.{faultless, refuses}
use Rattle.flame_load.proofs.Leftovers.{stops_first, gives_behind}

-- where the function files have no fault, what is planned comes behind
pub sound_source_behind :
    {Z : Type 0} (view : Z → Source) (result : Result Z LoadFail) (source : Source) (checked : Checked)
    → IsChecked source checked
    → Gives view result (planned_source source)
    → Gives view result (sound_source source)
sound_source_behind view result source checked is given =
    gives_behind view result (checked_source source) planned_source source
    (faultless (λ fault. of_model (Check fault) source.model) (check_faults source.model source.units) source is.faultless)
    given

-- where they have one, it is the refusal
pub sound_source_refused :
    (source : Source) (fault : CheckFault)
    → first (check_faults source.model source.units) ≡ Some fault
    → (sound_source source).answer ≡ Err (of_model (Check fault) source.model)
sound_source_refused source fault found =
    stops_first (RefusedModel (Check fault) source.model) (checked_source source) planned_source
    (refuses (λ f. of_model (Check f) source.model) (first (check_faults source.model source.units)) source fault found)

-- what is the source has a model that can be numbered, as the source has
pub counted_as_source :
    {E : Type 0} (result : Result Source E) (source : Source)
    → IfOk result (λ made. made ≡ source)
    → IsTrue (is_counted source.model)
    → IfOk result (λ made. IsTrue (is_counted made.model))
counted_as_source (Ok made) source same counted = subst (λ (s : Source). IsTrue (is_counted s.model)) (sym same) counted
counted_as_source (Err fail) source same counted = tt
