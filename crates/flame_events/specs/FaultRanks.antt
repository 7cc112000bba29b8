-- Laws of the least rank of a faulted function: what it leaves wanted, and whose fault comes first.
use Rattle.std.specs.Prelude.{◌≡◌, ℕ, take, slice_get, Some, None}
use Rattle.flame_spec.specs.declared.models.Model.{Model}
use Rattle.flame_spec.specs.ModelOrder.{model_order}
use Rattle.flame_world.specs.declared.faults.SimFault.{SimFault}
use Rattle.flame_events.specs.CoreStates.{fault_of, Core, status_of}
use Rattle.flame_events.specs.CoreEnds.{least_fault_rank, wanted, first_fault}

-- where functions are faulted, the wanted ones are those before the least rank of these, in model order; where none is,
-- they are all of model order [own]
abbrev pub LowerRanksAreWanted : Type 0
LowerRanksAreWanted =
    (model : Model) (core : Core)
    → ((rank : ℕ) → least_fault_rank model core ≡ Some rank → wanted model core ≡ take rank (model_order model))
    × (least_fault_rank model core ≡ None → wanted model core ≡ model_order model)

-- the function of this rank is faulted, and its fault is the first in model order [own]
pub record HasFirstFault (model : Model) (core : Core) (rank : ℕ) : Type 0 where
  pub function : ℕ
  pub fault : SimFault
  pub there : slice_get (model_order model) rank ≡ Some function
  pub own : fault_of (status_of core function) ≡ Some fault
  pub first : first_fault core (model_order model) ≡ Some fault

-- where functions are faulted, the first fault is that of the least rank; where none is, there is no first fault [own]
abbrev pub LeastRankHasFirstFault : Type 0
LeastRankHasFirstFault =
    (model : Model) (core : Core)
    → ((rank : ℕ) → least_fault_rank model core ≡ Some rank → HasFirstFault model core rank)
    × (least_fault_rank model core ≡ None → first_fault core (model_order model) ≡ None)
