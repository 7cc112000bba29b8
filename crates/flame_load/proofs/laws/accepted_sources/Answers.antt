-- What is loaded is accepted, and what is accepted is loaded.
use Rattle.flame_load.proofs.AcceptedLoads.{loaded_are_accepted, accepted_are_loaded}
use Rattle.flame_load.proofs.laws.accepted_sources.Goals as goal

pub returns-clause-loaded : goal.returns-clause-loaded
returns-clause-loaded c =
    loaded_are_accepted c.well_formed_wide.ensures c.formed_files.ensures.formed c.start_states_of_types.ensures.one

pub returns-clause-accepted : goal.returns-clause-accepted
returns-clause-accepted c = accepted_are_loaded
