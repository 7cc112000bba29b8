-- The least fault of pieces, one after another.
use Rattle.std.proofs.Common.{◌≡◌, List, [], ◌∷◌, ◌++◌, Option, Some, None, refl}
use Rattle.std.specs.Option.{option_or}
use Rattle.std.specs.List.{filter_map, cons_option}
use Rattle.flame_spec.specs.Lists.{first}
use Rattle.flame_spec.proofs.Numbered.{first-cons_option_nil}
use Rattle.flame_world.specs.declared.faults.SimFault.{SimFault}
use Rattle.flame_events.specs.CoreStates.{Work, fault_in}

pub fault_more : (works : List Work) (work : Work) → fault_in (works ++ work ∷ []) ≡ option_or (fault_in works) work.fault
fault_more [] work = first-cons_option_nil work.fault
fault_more (next ∷ works) work = step next.fault (fault_more works work)
  where
    step : (one : Option SimFault) → fault_in (works ++ work ∷ []) ≡ option_or (fault_in works) work.fault
        → first (cons_option one (filter_map (λ (w : Work). w.fault) (works ++ work ∷ [])))
        ≡ option_or (first (cons_option one (filter_map (λ (w : Work). w.fault) works))) work.fault
    step None rest = rest
    step (Some fault) rest = refl
