-- Each way out and each call, by the laws of the tree where they are needed.
use Rattle.std.proofs.Common.{rules}
use Rattle.flame_spec.specs.declared.trees.Expr.{the_lemmas}
use Rattle.flame_spec.proofs.same_trees.+same_expression.Goals as goal

pub ExprSame::same-same-requires : goal.ExprSame::same-same-requires
ExprSame::same-same-requires t c = search rules

pub ExprSame::same-same-requires-then-n-m-2 : goal.ExprSame::same-same-requires-then-n-m-2
ExprSame::same-same-requires-then-n-m-2 t c = search rules

pub ExprSame::same-same-requires-then-same : goal.ExprSame::same-same-requires-then-same
ExprSame::same-same-requires-then-same t c = search rules

pub ExprSame::same-same-requires-then-n-m-3 : goal.ExprSame::same-same-requires-then-n-m-3
ExprSame::same-same-requires-then-n-m-3 t c = search rules

pub ExprSame::same-same-requires-then-n-m-4 : goal.ExprSame::same-same-requires-then-n-m-4
ExprSame::same-same-requires-then-n-m-4 t c = search rules

pub ExprSame::same-same-requires-then-e-f : goal.ExprSame::same-same-requires-then-e-f
ExprSame::same-same-requires-then-e-f t c κs = search (rules, the_lemmas)

pub ExprSame::same-same-requires-then-n-m-5 : goal.ExprSame::same-same-requires-then-n-m-5
ExprSame::same-same-requires-then-n-m-5 t c = search rules

pub ExprSame::same-same-requires-then-same-3 : goal.ExprSame::same-same-requires-then-same-3
ExprSame::same-same-requires-then-same-3 t c = search rules

pub ExprSame::same-same-requires-then-e-f-2 : goal.ExprSame::same-same-requires-then-e-f-2
ExprSame::same-same-requires-then-e-f-2 t c κs = search (rules, the_lemmas)

pub ExprSame::same-same-requires-in-Unary-Unary : goal.ExprSame::same-same-requires-in-Unary-Unary
ExprSame::same-same-requires-in-Unary-Unary t c κs = search rules

pub ExprSame::same-same-requires-then-same-5 : goal.ExprSame::same-same-requires-then-same-5
ExprSame::same-same-requires-then-same-5 t c κs = search (rules, the_lemmas)

pub ExprSame::same-same-requires-in-Chain-Chain : goal.ExprSame::same-same-requires-in-Chain-Chain
ExprSame::same-same-requires-in-Chain-Chain t c κs = search (rules, the_lemmas)

pub ExprSame::same-same-requires-then-same-6 : goal.ExprSame::same-same-requires-then-same-6
ExprSame::same-same-requires-then-same-6 t c κs = search (rules, the_lemmas)

pub ExprSame::same-same-requires-in-All-All : goal.ExprSame::same-same-requires-in-All-All
ExprSame::same-same-requires-in-All-All t c κs = search (rules, the_lemmas)

pub ExprSame::same-same-requires-in-Any-Any : goal.ExprSame::same-same-requires-in-Any-Any
ExprSame::same-same-requires-in-Any-Any t c κs = search (rules, the_lemmas)

pub ExprSame::same-returns-in-Number-Number : goal.ExprSame::same-returns-in-Number-Number
ExprSame::same-returns-in-Number-Number t c = search rules

pub ExprSame::same-returns-then-n-m : goal.ExprSame::same-returns-then-n-m
ExprSame::same-returns-then-n-m t c = search rules

pub ExprSame::same-returns-else-n-m : goal.ExprSame::same-returns-else-n-m
ExprSame::same-returns-else-n-m t c = search rules

pub ExprSame::same-returns-then-same : goal.ExprSame::same-returns-then-same
ExprSame::same-returns-then-same t c = search rules

pub ExprSame::same-returns-else-same : goal.ExprSame::same-returns-else-same
ExprSame::same-returns-else-same t c = search rules

pub ExprSame::same-returns-then-n-m-3 : goal.ExprSame::same-returns-then-n-m-3
ExprSame::same-returns-then-n-m-3 t c = search rules

pub ExprSame::same-returns-else-n-m-3 : goal.ExprSame::same-returns-else-n-m-3
ExprSame::same-returns-else-n-m-3 t c = search rules

pub ExprSame::same-returns-then-e-f : goal.ExprSame::same-returns-then-e-f
ExprSame::same-returns-then-e-f t c = search (rules, the_lemmas)

pub ExprSame::same-returns-else-e-f : goal.ExprSame::same-returns-else-e-f
ExprSame::same-returns-else-e-f t c = search rules

pub ExprSame::same-returns-then-e-f-2 : goal.ExprSame::same-returns-then-e-f-2
ExprSame::same-returns-then-e-f-2 t c = search (rules, the_lemmas)

pub ExprSame::same-returns-else-e-f-2 : goal.ExprSame::same-returns-else-e-f-2
ExprSame::same-returns-else-e-f-2 t c = search rules

pub ExprSame::same-returns-then-same-5 : goal.ExprSame::same-returns-then-same-5
ExprSame::same-returns-then-same-5 t c = search (rules, the_lemmas)

pub ExprSame::same-returns-else-same-5 : goal.ExprSame::same-returns-else-same-5
ExprSame::same-returns-else-same-5 t c = search rules

pub ExprSame::same-returns-then-same-6 : goal.ExprSame::same-returns-then-same-6
ExprSame::same-returns-then-same-6 t c = search (rules, the_lemmas)

pub ExprSame::same-returns-else-same-6 : goal.ExprSame::same-returns-else-same-6
ExprSame::same-returns-else-same-6 t c = search (rules, the_lemmas)

pub ExprSame::same-returns-in-All-All : goal.ExprSame::same-returns-in-All-All
ExprSame::same-returns-in-All-All t c = search (rules, the_lemmas)

pub ExprSame::same-returns-in-Any-Any : goal.ExprSame::same-returns-in-Any-Any
ExprSame::same-returns-in-Any-Any t c = search (rules, the_lemmas)

pub ExprSame::same-returns-in_default : goal.ExprSame::same-returns-in_default
ExprSame::same-returns-in_default t c = search rules

pub ExprSame::same-returns-in_default-2 : goal.ExprSame::same-returns-in_default-2
ExprSame::same-returns-in_default-2 t c = search rules

pub ExprSame::same-returns-in_default-3 : goal.ExprSame::same-returns-in_default-3
ExprSame::same-returns-in_default-3 t c = search rules

pub ExprSame::same-returns-in_default-4 : goal.ExprSame::same-returns-in_default-4
ExprSame::same-returns-in_default-4 t c = search rules

pub ExprSame::same-returns-in_default-5 : goal.ExprSame::same-returns-in_default-5
ExprSame::same-returns-in_default-5 t c = search rules

pub ExprSame::same-returns-in_default-6 : goal.ExprSame::same-returns-in_default-6
ExprSame::same-returns-in_default-6 t c = search rules

pub ExprSame::same-returns-in_default-7 : goal.ExprSame::same-returns-in_default-7
ExprSame::same-returns-in_default-7 t c = search rules

pub ExprSame::same-returns-in_default-8 : goal.ExprSame::same-returns-in_default-8
ExprSame::same-returns-in_default-8 t c = search rules

pub ExprSame::same-returns-in_default-9 : goal.ExprSame::same-returns-in_default-9
ExprSame::same-returns-in_default-9 t c = search rules

pub ExprSame::same-returns-in_default-10 : goal.ExprSame::same-returns-in_default-10
ExprSame::same-returns-in_default-10 t c = search rules

pub LinkSame::same-eq-requires : goal.LinkSame::same-eq-requires
LinkSame::same-eq-requires t c = search rules

pub LinkSame::same-same-requires : goal.LinkSame::same-same-requires
LinkSame::same-same-requires t c = search (rules, the_lemmas)

pub LinkSame::same-returns-then-self-other : goal.LinkSame::same-returns-then-self-other
LinkSame::same-returns-then-self-other t c = search rules

pub LinkSame::same-returns-else-self-other : goal.LinkSame::same-returns-else-self-other
LinkSame::same-returns-else-self-other t c = search rules
