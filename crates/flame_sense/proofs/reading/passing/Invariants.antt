use Rattle.std.proofs.Common.{◌≡◌, take}
use Rattle.std.specs.List.{filter}
use Rattle.flame_spec.specs.Views.{is_read}
use Rattle.flame_sense.specs.StandsFor.{rows_seen}
use Rattle.flame_sense.proofs.reading.passing.Given as goal

abbrev pub invariant-loop-row : goal.invariant-loop-row
invariant-loop-row l =
    rows_seen l.rows.items ≡ filter (is_read l.agent l.message l.input.filter l.memory) (take l.row-index l.board)
