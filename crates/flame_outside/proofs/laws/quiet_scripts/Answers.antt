use Rattle.flame_outside.proofs.ScriptLemmas.{reads_stand_aside, calm_scripts}
use Rattle.flame_outside.proofs.laws.quiet_scripts.Goals as goal

pub returns-clause-reads : goal.returns-clause-reads
returns-clause-reads c = reads_stand_aside

pub returns-clause-calm : goal.returns-clause-calm
returns-clause-calm c = calm_scripts
