-- How far functions are by rank.
use Rattle.std.specs.Prelude.{◌≡◌, ℕ, List, length, take_while}
use Rattle.flame_spec.specs.declared.models.Model.{Model}
use Rattle.flame_spec.specs.ModelOrder.{model_order}
use Rattle.flame_events.specs.CoreEnds.{least_fault_rank}
use Rattle.flame_events.specs.CoreStates.{Core, is_shut, status_of}
use Rattle.flame_core.specs.declared.ranks.Ranks.{Ranks}

-- how many of these functions are shut before the first that is not [own]
abbrev pub shut_first : Core → List ℕ → ℕ
shut_first core functions = length (take_while (λ function. is_shut (status_of core function)) functions)

-- how many functions are shut by rank, before the first that is not [own]
abbrev pub shut_ranks : Model → Core → ℕ
shut_ranks model core = shut_first core (model_order model)

-- it tells how many are shut before the first that is not, and the least rank of one that is faulted [own]
pub record AreRanksOf (model : Model) (core : Core) (ranks : Ranks) : Type 0 where
  pub shut_is : ranks.shut ≡ shut_ranks model core
  pub fault_is : ranks.fault ≡ least_fault_rank model core
