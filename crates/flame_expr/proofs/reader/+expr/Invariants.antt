use Rattle.std.proofs.Common.{◌+◌, ◌-◌, ◌*◌, length}
use Rattle.flame_expr.specs.ExpressionGrammar.{Conjuncts, Disjuncts}
use Rattle.flame_expr.proofs.Readings.{LinksOn, PartsOn}
use Rattle.flame_expr.proofs.reader.+expr.Given as goal

abbrev pub decreases-form_at : goal.decreases-form_at
decreases-form_at l = (length l.tokens.now - l.at) * 32 + 2 * l.level + 3

abbrev pub decreases-chain : goal.decreases-chain
decreases-chain l = (length l.tokens.now - l.at) * 32 + 2 * l.level + 4

abbrev pub decreases-tail : goal.decreases-tail
decreases-tail l = (length l.tokens.now - l.at) * 32 + 20

abbrev pub decreases-conjunction : goal.decreases-conjunction
decreases-conjunction l = (length l.tokens.now - l.at) * 32 + 12

abbrev pub decreases-conjuncts : goal.decreases-conjuncts
decreases-conjuncts l = (length l.tokens.now - l.at) * 32 + 20

abbrev pub decreases-disjunction : goal.decreases-disjunction
decreases-disjunction l = (length l.tokens.now - l.at) * 32 + 14

abbrev pub decreases-disjuncts : goal.decreases-disjuncts
decreases-disjuncts l = (length l.tokens.now - l.at) * 32 + 20

abbrev pub decreases-unary : goal.decreases-unary
decreases-unary l = (length l.tokens.now - l.at) * 32 + 2

abbrev pub decreases-primary : goal.decreases-primary
decreases-primary l = (length l.tokens.now - l.at) * 32 + 1

abbrev pub decreases-word_form : goal.decreases-word_form
decreases-word_form l = (length l.tokens.now - l.at) * 32

abbrev pub decreases-subscript : goal.decreases-subscript
decreases-subscript l = (length l.tokens.now - l.at) * 32

abbrev pub decreases-closed : goal.decreases-closed
decreases-closed l = (length l.tokens.now - l.at) * 32 + 20

abbrev pub invariant-tail-loop-op : goal.invariant-tail-loop-op
invariant-tail-loop-op l = LinksOn l.level l.tokens l.fn.at l.place l.found.items

abbrev pub decreases-tail-loop-op : goal.decreases-tail-loop-op
decreases-tail-loop-op l = length l.tokens - l.place

abbrev pub invariant-conjuncts-parts : goal.invariant-conjuncts-parts
invariant-conjuncts-parts l = PartsOn 4 Conjuncts l.tokens l.fn.at l.place l.found.items

abbrev pub decreases-conjuncts-parts : goal.decreases-conjuncts-parts
decreases-conjuncts-parts l = length l.tokens - l.place

abbrev pub invariant-disjuncts-parts : goal.invariant-disjuncts-parts
invariant-disjuncts-parts l = PartsOn 5 Disjuncts l.tokens l.fn.at l.place l.found.items

abbrev pub decreases-disjuncts-parts : goal.decreases-disjuncts-parts
decreases-disjuncts-parts l = length l.tokens - l.place
