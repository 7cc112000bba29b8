-- Each level is less deep; on one level a condition calls an operation, which calls both its sides, which call the inner
-- conditions.
use Rattle.std.proofs.Common.{◌+◌, ◌*◌}
use Rattle.serde_json.specs.Data.{depth}
use Rattle.serde_json.specs.View.{view}
use Rattle.flame_xmml.specs.ValueData.{data_of}
use Rattle.flame_xmml.proofs.condition.+condition.Given as goal

abbrev pub decreases-condition : goal.decreases-condition
decreases-condition l = 4 * depth (data_of l.value) + 3

abbrev pub decreases-operation : goal.decreases-operation
decreases-operation l = 4 * depth (view l.value.now) + 2

abbrev pub decreases-sides : goal.decreases-sides
decreases-sides l = 4 * depth (view l.value.now) + 1

abbrev pub decreases-inner_at : goal.decreases-inner_at
decreases-inner_at l = 4 * depth (view l.value.now)
