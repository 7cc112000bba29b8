-- Each way out and each call, by the laws of the tree where they are needed.
use Rattle.std.proofs.Common.{rules}
use Rattle.flame_spec.specs.declared.trees.Stmt.{the_lemmas}
use Rattle.flame_spec.proofs.same_trees.+same_statement.Goals as goal

pub ArmSame::same-same-requires : goal.ArmSame::same-same-requires
ArmSame::same-same-requires t c = search rules

pub ArmSame::same-same-requires-then-same : goal.ArmSame::same-same-requires-then-same
ArmSame::same-same-requires-then-same t c κs = search (rules, the_lemmas)

pub ArmSame::same-returns-then-same : goal.ArmSame::same-returns-then-same
ArmSame::same-returns-then-same t c = search rules

pub ArmSame::same-returns-else-same : goal.ArmSame::same-returns-else-same
ArmSame::same-returns-else-same t c = search rules

pub HeadSame::same-same-requires : goal.HeadSame::same-same-requires
HeadSame::same-same-requires t c κs = search (rules, the_lemmas)

pub HeadSame::same-same-requires-then-same : goal.HeadSame::same-same-requires-then-same
HeadSame::same-same-requires-then-same t c κs = search rules

pub HeadSame::same-same-requires-then-same-2 : goal.HeadSame::same-same-requires-then-same-2
HeadSame::same-same-requires-then-same-2 t c κs = search rules

pub HeadSame::same-returns-then-same-2 : goal.HeadSame::same-returns-then-same-2
HeadSame::same-returns-then-same-2 t c = search rules

pub HeadSame::same-returns-else-same-2 : goal.HeadSame::same-returns-else-same-2
HeadSame::same-returns-else-same-2 t c = search rules

pub StmtSame::same-same-requires : goal.StmtSame::same-same-requires
StmtSame::same-same-requires t c κs = search rules

pub StmtSame::same-same-requires-in-Assign-Assign : goal.StmtSame::same-same-requires-in-Assign-Assign
StmtSame::same-same-requires-in-Assign-Assign t c = search rules

pub StmtSame::same-same-requires-then-n-m : goal.StmtSame::same-same-requires-then-n-m
StmtSame::same-same-requires-then-n-m t c = search rules

pub StmtSame::same-same-requires-then-same : goal.StmtSame::same-same-requires-then-same
StmtSame::same-same-requires-then-same t c κs = search rules

pub StmtSame::same-same-requires-in-Block-Block : goal.StmtSame::same-same-requires-in-Block-Block
StmtSame::same-same-requires-in-Block-Block t c κs = search (rules, the_lemmas)

pub StmtSame::same-same-requires-in-If-If : goal.StmtSame::same-same-requires-in-If-If
StmtSame::same-same-requires-in-If-If t c κs = search (rules, the_lemmas)

pub StmtSame::same-same-requires-then-same-2 : goal.StmtSame::same-same-requires-then-same-2
StmtSame::same-same-requires-then-same-2 t c κs = search (rules, the_lemmas)

pub StmtSame::same-same-requires-then-n-m-2 : goal.StmtSame::same-same-requires-then-n-m-2
StmtSame::same-same-requires-then-n-m-2 t c = search rules

pub StmtSame::same-same-requires-then-same-3 : goal.StmtSame::same-same-requires-then-same-3
StmtSame::same-same-requires-then-same-3 t c κs = search (rules, the_lemmas)

pub StmtSame::same-same-requires-then-n-m-3 : goal.StmtSame::same-same-requires-then-n-m-3
StmtSame::same-same-requires-then-n-m-3 t c κs = search (rules, the_lemmas)

pub StmtSame::same-same-requires-then-same-4 : goal.StmtSame::same-same-requires-then-same-4
StmtSame::same-same-requires-then-same-4 t c κs = search (rules, the_lemmas)

pub StmtSame::same-same-requires-then-n-m-4 : goal.StmtSame::same-same-requires-then-n-m-4
StmtSame::same-same-requires-then-n-m-4 t c κs = search (rules, the_lemmas)

pub StmtSame::same-same-requires-then-same-5 : goal.StmtSame::same-same-requires-then-same-5
StmtSame::same-same-requires-then-same-5 t c = search rules

pub StmtSame::same-same-requires-then-n-m-5 : goal.StmtSame::same-same-requires-then-n-m-5
StmtSame::same-same-requires-then-n-m-5 t c = search rules

pub StmtSame::same-same-requires-then-same-6 : goal.StmtSame::same-same-requires-then-same-6
StmtSame::same-same-requires-then-same-6 t c κs = search (rules, the_lemmas)

pub StmtSame::same-same-requires-then-i-j : goal.StmtSame::same-same-requires-then-i-j
StmtSame::same-same-requires-then-i-j t c = search rules

pub StmtSame::same-same-requires-in-Return-Return : goal.StmtSame::same-same-requires-in-Return-Return
StmtSame::same-same-requires-in-Return-Return t c = search rules

pub StmtSame::same-returns-in-Empty-Empty : goal.StmtSame::same-returns-in-Empty-Empty
StmtSame::same-returns-in-Empty-Empty t c = search rules

pub StmtSame::same-returns-in-Declare-Declare : goal.StmtSame::same-returns-in-Declare-Declare
StmtSame::same-returns-in-Declare-Declare t c = search rules

pub StmtSame::same-returns-in-Assign-Assign : goal.StmtSame::same-returns-in-Assign-Assign
StmtSame::same-returns-in-Assign-Assign t c = search rules

pub StmtSame::same-returns-then-same : goal.StmtSame::same-returns-then-same
StmtSame::same-returns-then-same t c = search rules

pub StmtSame::same-returns-else-same : goal.StmtSame::same-returns-else-same
StmtSame::same-returns-else-same t c = search rules

pub StmtSame::same-returns-in-Block-Block : goal.StmtSame::same-returns-in-Block-Block
StmtSame::same-returns-in-Block-Block t c = search (rules, the_lemmas)

pub StmtSame::same-returns-then-same-2 : goal.StmtSame::same-returns-then-same-2
StmtSame::same-returns-then-same-2 t c = search (rules, the_lemmas)

pub StmtSame::same-returns-else-same-2 : goal.StmtSame::same-returns-else-same-2
StmtSame::same-returns-else-same-2 t c = search (rules, the_lemmas)

pub StmtSame::same-returns-then-same-3 : goal.StmtSame::same-returns-then-same-3
StmtSame::same-returns-then-same-3 t c = search (rules, the_lemmas)

pub StmtSame::same-returns-else-same-3 : goal.StmtSame::same-returns-else-same-3
StmtSame::same-returns-else-same-3 t c = search rules

pub StmtSame::same-returns-then-same-4 : goal.StmtSame::same-returns-then-same-4
StmtSame::same-returns-then-same-4 t c = search (rules, the_lemmas)

pub StmtSame::same-returns-else-same-4 : goal.StmtSame::same-returns-else-same-4
StmtSame::same-returns-else-same-4 t c = search (rules, the_lemmas)

pub StmtSame::same-returns-then-same-5 : goal.StmtSame::same-returns-then-same-5
StmtSame::same-returns-then-same-5 t c = search rules

pub StmtSame::same-returns-else-same-5 : goal.StmtSame::same-returns-else-same-5
StmtSame::same-returns-else-same-5 t c = search (rules, the_lemmas)

pub StmtSame::same-returns-then-i-j : goal.StmtSame::same-returns-then-i-j
StmtSame::same-returns-then-i-j t c = search rules

pub StmtSame::same-returns-else-i-j : goal.StmtSame::same-returns-else-i-j
StmtSame::same-returns-else-i-j t c = search (rules, the_lemmas)

pub StmtSame::same-returns-in-Return-Return : goal.StmtSame::same-returns-in-Return-Return
StmtSame::same-returns-in-Return-Return t c = search rules

pub StmtSame::same-returns-in-Break-Break : goal.StmtSame::same-returns-in-Break-Break
StmtSame::same-returns-in-Break-Break t c = search rules

pub StmtSame::same-returns-in-Continue-Continue : goal.StmtSame::same-returns-in-Continue-Continue
StmtSame::same-returns-in-Continue-Continue t c = search rules

pub StmtSame::same-returns-in_default : goal.StmtSame::same-returns-in_default
StmtSame::same-returns-in_default t c = search rules

pub StmtSame::same-returns-in_default-2 : goal.StmtSame::same-returns-in_default-2
StmtSame::same-returns-in_default-2 t c = search rules

pub StmtSame::same-returns-in_default-3 : goal.StmtSame::same-returns-in_default-3
StmtSame::same-returns-in_default-3 t c = search rules

pub StmtSame::same-returns-in_default-4 : goal.StmtSame::same-returns-in_default-4
StmtSame::same-returns-in_default-4 t c = search rules

pub StmtSame::same-returns-in_default-5 : goal.StmtSame::same-returns-in_default-5
StmtSame::same-returns-in_default-5 t c = search rules

pub StmtSame::same-returns-in_default-6 : goal.StmtSame::same-returns-in_default-6
StmtSame::same-returns-in_default-6 t c = search rules

pub StmtSame::same-returns-in_default-7 : goal.StmtSame::same-returns-in_default-7
StmtSame::same-returns-in_default-7 t c = search rules

pub StmtSame::same-returns-in_default-8 : goal.StmtSame::same-returns-in_default-8
StmtSame::same-returns-in_default-8 t c = search rules

pub StmtSame::same-returns-in_default-9 : goal.StmtSame::same-returns-in_default-9
StmtSame::same-returns-in_default-9 t c = search rules

pub StmtSame::same-returns-in_default-10 : goal.StmtSame::same-returns-in_default-10
StmtSame::same-returns-in_default-10 t c = search rules

pub StmtSame::same-returns-in_default-11 : goal.StmtSame::same-returns-in_default-11
StmtSame::same-returns-in_default-11 t c = search rules

pub StmtSame::same-returns-in_default-12 : goal.StmtSame::same-returns-in_default-12
StmtSame::same-returns-in_default-12 t c = search rules

pub StmtSame::same-returns-in_default-13 : goal.StmtSame::same-returns-in_default-13
StmtSame::same-returns-in_default-13 t c = search rules
