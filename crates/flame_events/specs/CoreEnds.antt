-- When a core is complete, and what it then comes to.
use Rattle.std.specs.Prelude.{ℕ, List, Bool, is_some, not, take_while}
use Rattle.std.specs.Prelude.{Option, position}
use Rattle.std.specs.List.{filter_map}
use Rattle.flame_spec.specs.declared.models.Model.{Model}
use Rattle.flame_spec.specs.Lists.{first}
use Rattle.flame_spec.specs.ModelOrder.{model_order}
use Rattle.flame_world.specs.declared.faults.SimFault.{SimFault}
use Rattle.flame_world.specs.declared.turns.Turn.{Turn}
use Rattle.flame_world.specs.Iterations.{Round, unless_faulted, turn_of}
use Rattle.flame_events.specs.CoreStates.{Core, fault_of, status_of}
use Rattle.flame_events.specs.LegalEvents.{are_shut}

-- the function is faulted [own]
abbrev pub is_faulted : Core → ℕ → Bool
is_faulted core function = is_some (fault_of (status_of core function))

-- the least rank of a faulted function [own]
abbrev pub least_fault_rank : Model → Core → Option ℕ
least_fault_rank model core = position (is_faulted core) (model_order model)

-- these functions up to the first that is faulted, which is left out with all after it [own]
abbrev pub unfaulted : Core → List ℕ → List ℕ
unfaulted core functions = take_while (λ function. not (is_faulted core function)) functions

-- the functions that are wanted: those of a rank below the least rank of a faulted function, and without one all [own]
abbrev pub wanted : Model → Core → List ℕ
wanted model core = unfaulted core (model_order model)

-- a core is complete where all wanted functions are shut [own]
abbrev pub is_complete : Model → Core → Bool
is_complete model core = are_shut core (wanted model core)

-- the fault of the first of these functions that is faulted [own]
abbrev pub first_fault : Core → List ℕ → Option SimFault
first_fault core functions = first (filter_map (λ function. fault_of (status_of core function)) functions)

-- what a complete core comes to: the fault of the faulted function of the least rank, or the world and the boards [own]
abbrev pub ending : Round → Core → Turn
ending round core =
    turn_of round.constants (unless_faulted (first_fault core (model_order round.source.model)) core.field)
