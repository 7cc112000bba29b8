-- Each step by what it says itself, and the turns by the laws of rows.
use Rattle.std.proofs.Common.{rules, arith}
use Rattle.std.proofs.lemmas.Grind.{common_steps}
use Rattle.flame_sense.proofs.Rows.{more_behind, none_behind}
use Rattle.flame_sense.proofs.arguments.values_of.Goals as goal

pub new-values-requires : goal.new-values-requires
new-values-requires c κs = search rules

pub loop-e-init : goal.loop-e-init
loop-e-init c = grind (arith, common_steps, more_behind, none_behind)

pub offset_bounds-arguments-e-index : goal.offset_bounds-arguments-e-index
offset_bounds-arguments-e-index c = search rules

pub bounds-arguments-e-index : goal.bounds-arguments-e-index
bounds-arguments-e-index c = search rules

pub argument_values-requires : goal.argument_values-requires
argument_values-requires c = search rules

pub branch-numbers-requires : goal.branch-numbers-requires
branch-numbers-requires c κs = search rules

pub from_residual-requires : goal.from_residual-requires
from_residual-requires c κs = search rules

pub drop-values-requires : goal.drop-values-requires
drop-values-requires c κs = search rules

pub returns-in_err-numbers : goal.returns-in_err-numbers
returns-in_err-numbers c = search rules

pub values-requires : goal.values-requires
values-requires c = search rules

pub extend_from_slice-requires : goal.extend_from_slice-requires
extend_from_slice-requires c κs = search rules

pub branch-extend_from_slice-requires : goal.branch-extend_from_slice-requires
branch-extend_from_slice-requires c κs = search rules

pub from_residual-requires-in_err-extend_from_slice-in-Ok : goal.from_residual-requires-in_err-extend_from_slice-in-Ok
from_residual-requires-in_err-extend_from_slice-in-Ok c κs = search rules

pub drop-numbers-inside-requires : goal.drop-numbers-inside-requires
drop-numbers-inside-requires c κs = search rules

pub drop-values-requires-in_err-extend_from_slice-in-Ok : goal.drop-values-requires-in_err-extend_from_slice-in-Ok
drop-values-requires-in_err-extend_from_slice-in-Ok c κs = search rules

pub returns-in_err-extend_from_slice-in-Ok : goal.returns-in_err-extend_from_slice-in-Ok
returns-in_err-extend_from_slice-in-Ok c = search rules

pub drop-numbers-inside-requires-in-Ok : goal.drop-numbers-inside-requires-in-Ok
drop-numbers-inside-requires-in-Ok c κs = search rules

pub drop-values-requires-in-Err : goal.drop-values-requires-in-Err
drop-values-requires-in-Err c κs = search rules

pub returns-in-Err : goal.returns-in-Err
returns-in-Err c = grind (arith, common_steps, more_behind, none_behind)

pub loop-e-smaller : goal.loop-e-smaller
loop-e-smaller c = search rules

pub loop-e-preserved : goal.loop-e-preserved
loop-e-preserved c = grind (arith, common_steps, more_behind, none_behind)

pub of-requires : goal.of-requires
of-requires c = search rules

pub returns : goal.returns
returns c = grind (arith, common_steps, more_behind, none_behind)
