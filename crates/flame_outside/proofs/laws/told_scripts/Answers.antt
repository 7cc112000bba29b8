use Rattle.flame_outside.proofs.TellingLemmas.{whole_is_told, first_is_told}
use Rattle.flame_outside.proofs.laws.told_scripts.Goals as goal

pub returns-clause-whole : goal.returns-clause-whole
returns-clause-whole c = whole_is_told

pub returns-clause-first : goal.returns-clause-first
returns-clause-first c = first_is_told
