-- Programs may be shared between threads.
use denote.Param.Send.{IsSync, plain_sync, sendable, view_sync}
use denote.Param.SendFields.{as_row_sync, declared_sync, variants_sync}
use Rattle.std.proofs.Crossing.{crosses}
use Rattle.flame_rows.proofs.boxes.Boxed.TheSendSync.{the_sync as boxed-sync}
use Rattle.flame_rows.proofs.seqs.Seq.TheSendSync.{the_sync as seq-sync}
use Rattle.flame_rows.proofs.texts.Text.TheSendSync.{the_sync as text-sync}
use Rattle.flame_ops.proofs.integers.Op.TheSendSync.{the_sync as op-sync, the_field_sync as op-field}
use Rattle.flame_spec.specs.contracts.conditions.Condition as condition
use Rattle.flame_spec.specs.contracts.models.AgentType as agent
use Rattle.flame_spec.specs.contracts.models.Function as function
use Rattle.flame_spec.specs.contracts.models.Input as input
use Rattle.flame_spec.specs.contracts.models.Model as model
use Rattle.flame_spec.specs.contracts.outcomes.Source as source
use Rattle.flame_spec.specs.contracts.trees.Def as def
use Rattle.flame_spec.specs.contracts.trees.Assign as assign
use Rattle.flame_spec.specs.contracts.trees.Expr as expression
use Rattle.flame_spec.specs.contracts.trees.Item as item
use Rattle.flame_spec.specs.contracts.trees.Stmt as statement
use Rattle.flame_spec.specs.contracts.trees.Subscript as subscript
use Rattle.flame_spec.specs.contracts.trees.Unit as unit
use Rattle.flame_spec.specs.contracts.trees.Value as value
use Rattle.flame_spec.proofs.conditions.Operand.TheSendSync.{the_sync as operand-sync, the_field_sync as operand-field}
use Rattle.flame_spec.proofs.trees.Sign.TheSendSync.{the_sync as sign-sync, the_field_sync as sign-field}
use Rattle.flame_spec.proofs.trees.Expr.TheLaws.TheKnot.{sync-Expr, sync-Subscript}
use Rattle.flame_cond.specs.contracts.forms.Test as test
use Rattle.flame_cond.proofs.periods.Period.TheSendSync.{the_field_sync as period-field}
use Rattle.flame_cond.proofs.forms.Term.TheSendSync.{the_sync as term-sync, the_field_sync as term-field}
use Rattle.flame_spec.proofs.conditions.Condition.TheLaws.TheKnot.{sync-Condition}
use Rattle.flame_spec.proofs.models.MessageType.TheSendSync.{the_sync as message-sync}
use Rattle.flame_spec.proofs.models.Sort.TheSendSync.{the_sync as sort-sync}
use Rattle.flame_spec.proofs.models.TimeUnit.TheSendSync.{the_sync as time-sync}
use Rattle.flame_spec.proofs.models.Variable.TheSendSync.{the_sync as variable-sync}
use Rattle.flame_spec.proofs.trees.Parameter.TheSendSync.{the_sync as parameter-sync}
use Rattle.flame_spec.proofs.trees.Stmt.TheLaws.TheKnot.{sync-Stmt}
use Rattle.flame_cond.specs.contracts.conditions.Cond as cond
use Rattle.flame_cond.specs.contracts.filters.Filter as filter
use Rattle.flame_cond.proofs.forms.Test.TheLaws.TheKnot.{sync-Test}
use Rattle.flame_cond.proofs.keys.SortBy.TheSendSync.{the_sync as key-sync}
use Rattle.flame_code.proofs.codes.Code.TheSendSync.{the_sync as code-sync}
use Rattle.flame_code.proofs.helpers.Helpers.TheSendSync.{the_sync as helpers-sync}
use Rattle.flame_depend.proofs.plans.Plan.TheSendSync.{the_sync as plan-sync, the_field_sync as plan-field}
use Rattle.flame_route.proofs.routes.Routes.TheSendSync.{the_sync as routes-sync, the_field_sync as routes-field}
use Rattle.flame_program.specs.contracts.program.Program as program
use Rattle.flame_program.specs.contracts.parts.Parts as parts
use Rattle.flame_program.specs.contracts.reading.Selector as selector

condition-sync : IsSync condition.the_row
condition-sync = as_row_sync condition.the_field (sync-Condition op-field operand-field boxed-sync text-sync (search sendable))

expression-field : IsSync (expression.the_field).row
expression-field =
    sync-Expr
    (search (op-field, sign-field, sign-sync, boxed-sync, seq-sync, text-sync, as_row_sync, sendable) depth 8)
    (search (op-field, sign-field, sign-sync, boxed-sync, seq-sync, text-sync, as_row_sync, sendable) depth 8)
    (search (op-field, sign-field, sign-sync, boxed-sync, seq-sync, text-sync, as_row_sync, sendable) depth 8)
    (search (op-field, sign-field, sign-sync, boxed-sync, seq-sync, text-sync, as_row_sync, sendable) depth 8)
    (search (op-field, sign-field, sign-sync, boxed-sync, seq-sync, text-sync, as_row_sync, sendable) depth 8)
    (search (op-field, sign-field, sign-sync, boxed-sync, seq-sync, text-sync, as_row_sync, sendable) depth 8)
    (search (op-field, sign-field, sign-sync, boxed-sync, seq-sync, text-sync, as_row_sync, sendable) depth 8)

expression-sync : IsSync expression.the_row
expression-sync = as_row_sync expression.the_field expression-field

subscript-field : IsSync (subscript.the_field).row
subscript-field =
    sync-Subscript
    (search (op-field, sign-field, sign-sync, boxed-sync, seq-sync, text-sync, as_row_sync, sendable) depth 8)
    (search (op-field, sign-field, sign-sync, boxed-sync, seq-sync, text-sync, as_row_sync, sendable) depth 8)
    (search (op-field, sign-field, sign-sync, boxed-sync, seq-sync, text-sync, as_row_sync, sendable) depth 8)
    (search (op-field, sign-field, sign-sync, boxed-sync, seq-sync, text-sync, as_row_sync, sendable) depth 8)
    (search (op-field, sign-field, sign-sync, boxed-sync, seq-sync, text-sync, as_row_sync, sendable) depth 8)
    (search (op-field, sign-field, sign-sync, boxed-sync, seq-sync, text-sync, as_row_sync, sendable) depth 8)
    (search (op-field, sign-field, sign-sync, boxed-sync, seq-sync, text-sync, as_row_sync, sendable) depth 8)

value-field : IsSync (value.the_field).row
value-field = search (expression-field, expression-sync, seq-sync, text-sync, sendable) depth 12

assign-field : IsSync (assign.the_field).row
assign-field = search (value-field, subscript-field, op-field, text-sync, sendable) depth 12

value-sync : IsSync value.the_row
value-sync = search (declared_sync, variants_sync, as_row_sync, expression-sync, seq-sync, text-sync, sendable) depth 20

item-sync : IsSync item.the_row
item-sync = search (declared_sync, variants_sync, as_row_sync, value-sync, seq-sync, text-sync, sendable) depth 20

statement-sync : IsSync statement.the_row
statement-sync =
    as_row_sync statement.the_field (sync-Stmt
    (search (item-sync, assign-field, expression-sync, expression-field, boxed-sync, seq-sync, text-sync, sendable) depth 12)
    (search (item-sync, assign-field, expression-sync, expression-field, boxed-sync, seq-sync, text-sync, sendable) depth 12)
    (search (item-sync, assign-field, expression-sync, expression-field, boxed-sync, seq-sync, text-sync, sendable) depth 12)
    (search (item-sync, assign-field, expression-sync, expression-field, boxed-sync, seq-sync, text-sync, sendable) depth 12)
    (search (item-sync, assign-field, expression-sync, expression-field, boxed-sync, seq-sync, text-sync, sendable) depth 12)
    (search (item-sync, assign-field, expression-sync, expression-field, boxed-sync, seq-sync, text-sync, sendable) depth 12)
    (search (item-sync, assign-field, expression-sync, expression-field, boxed-sync, seq-sync, text-sync, sendable) depth 12)
    (search (item-sync, assign-field, expression-sync, expression-field, boxed-sync, seq-sync, text-sync, sendable) depth 12)
    (search (item-sync, assign-field, expression-sync, expression-field, boxed-sync, seq-sync, text-sync, sendable) depth 12)
    (search (item-sync, assign-field, expression-sync, expression-field, boxed-sync, seq-sync, text-sync, sendable) depth 12))

input-sync : IsSync input.the_row
input-sync = search (declared_sync, variants_sync, as_row_sync, text-sync, condition-sync, sort-sync, sendable) depth 20

function-sync : IsSync function.the_row
function-sync = search (declared_sync, variants_sync, as_row_sync, text-sync, condition-sync, seq-sync, input-sync, sendable) depth 20

agent-sync : IsSync agent.the_row
agent-sync = search (text-sync, seq-sync, variable-sync, function-sync, sendable) depth 20

model-sync : IsSync model.the_row
model-sync = search (text-sync, seq-sync, time-sync, message-sync, agent-sync, sendable) depth 20

def-sync : IsSync def.the_row
def-sync = search (declared_sync, variants_sync, as_row_sync, text-sync, seq-sync, parameter-sync, statement-sync, sendable) depth 20

unit-sync : IsSync unit.the_row
unit-sync = search (seq-sync, def-sync, sendable) depth 20

pub source-sync : IsSync source.the_row
source-sync = search (declared_sync, variants_sync, as_row_sync, seq-sync, model-sync, unit-sync, sendable) depth 20

test-sync : IsSync test.the_row
test-sync = as_row_sync test.the_field (sync-Test op-field term-field boxed-sync period-field (search sendable))

cond-sync : IsSync cond.the_row
cond-sync = search (view_sync, declared_sync, test-sync, sendable) depth 20

filter-sync : IsSync filter.the_row
filter-sync = search (view_sync, declared_sync, test-sync, sendable) depth 20

selector-sync : IsSync selector.the_row
selector-sync = search (declared_sync, variants_sync, as_row_sync, filter-sync, key-sync, sendable) depth 20

parts-sync : IsSync parts.the_row
parts-sync = search (declared_sync, variants_sync, as_row_sync, code-sync, helpers-sync, cond-sync, selector-sync, routes-sync, seq-sync, sendable) depth 20

pub program-sync : IsSync program.the_row
program-sync = search (view_sync, declared_sync, variants_sync, as_row_sync, source-sync, plan-sync, parts-sync, sendable) depth 20
