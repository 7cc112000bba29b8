-- The numbers of the faults climb.
use Rattle.std.proofs.Common.{length}
use Rattle.flame_words.specs.UsageFaults.{usage_faults}
use Rattle.flame_words.specs.UsageLaws.{words_at_fault}
use Rattle.flame_words.proofs.FaultNumbers.{numbered, climbs_increasing, climbs_within}
use Rattle.flame_words.proofs.laws.one_fault_a_word.Goals as goal

pub returns-clause-order : goal.returns-clause-order
returns-clause-order c = λ words.
    climbs_increasing 0 (length words) (words_at_fault (usage_faults words)) (numbered words)

pub returns-clause-words : goal.returns-clause-words
returns-clause-words c = λ words.
    climbs_within 0 (length words) (words_at_fault (usage_faults words)) (numbered words)
