-- Accepted sources, of which all later definitions speak.
use Rattle.std.specs.Prelude.{◌≡◌, ◌==◌, [], length, Bool, None, IsTrue}
use Rattle.std.specs.List.{list_all}
use Rattle.flame_spec.specs.declared.models.AgentType.{AgentType}
use Rattle.flame_spec.specs.declared.outcomes.Source.{Source}
use Rattle.flame_spec.specs.WellFormed.{is_well_formed}
use Rattle.flame_spec.specs.NameFaults.{name_faults}
use Rattle.flame_spec.specs.States.{start_states}
use Rattle.flame_spec.specs.ModelOrder.{left_over}
use Rattle.flame_spec.specs.CheckFaults.{check_faults}

-- the type has one start state [own]
abbrev pub has_one_start : AgentType → Bool
has_one_start type = length (start_states type.functions) == 1

-- a model and its function files are accepted where the model is well formed, its names have no fault, the function
-- files have no check fault, model order leaves no function over, and each agent type has one start state [own]
pub record IsAccepted (source : Source) : Type 0 where
  pub formed : IsTrue (is_well_formed source.model)
  pub named : name_faults source.model ≡ []
  pub checked : check_faults source.model source.units ≡ []
  pub ordered : left_over source.model ≡ None
  pub started : IsTrue (list_all has_one_start source.model.agents)
