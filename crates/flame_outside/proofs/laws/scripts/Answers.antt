use Rattle.flame_outside.proofs.ScriptLemmas.{no_acts_stand, lone_acts, one_more_act, whole_scripts, scripts_join}
use Rattle.flame_outside.proofs.laws.scripts.Goals as goal

pub returns-clause-no_acts : goal.returns-clause-no_acts
returns-clause-no_acts c = no_acts_stand

pub returns-clause-lone : goal.returns-clause-lone
returns-clause-lone c = lone_acts

pub returns-clause-one_more : goal.returns-clause-one_more
returns-clause-one_more c = one_more_act

pub returns-clause-whole : goal.returns-clause-whole
returns-clause-whole c = whole_scripts

pub returns-clause-join : goal.returns-clause-join
returns-clause-join c = scripts_join
