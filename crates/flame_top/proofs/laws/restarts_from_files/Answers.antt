use Rattle.flame_top.proofs.FileRestarts.{runs_restart_from_files, runs_restart_from_own_files}
use Rattle.flame_top.proofs.laws.restarts_from_files.Goals as goal

pub returns-clause-any : goal.returns-clause-any
returns-clause-any c =
    runs_restart_from_files c.restarted_runs.ensures c.written_stages.ensures c.read_populations_fit.ensures
    c.accepted_sources.ensures.loaded c.written_numbers.ensures c.only_inputs.ensures

pub returns-clause-own : goal.returns-clause-own
returns-clause-own c =
    runs_restart_from_own_files c.restarted_runs.ensures c.written_stages.ensures c.read_populations_fit.ensures
    c.accepted_sources.ensures.loaded c.written_numbers.ensures c.only_inputs.ensures c.iterated_runs.ensures
