-- Each write takes the next bytes, and one that was interrupted takes none.
use Rattle.std.proofs.Common.{rules}
use Rattle.flame_outside.proofs.TransferLemmas.{Appends-more, Appends-same}
use Rattle.flame_outside.proofs.transfer.write_whole.Goals as goal
use Rattle.flame_outside.proofs.transfer.write_whole.Goals.{in-Ok, in-Err+in-Interrupted}

pub writes-preserved : goal.writes-preserved
writes-preserved g c =
    let before = c.writes.invariant.1 in
    elim c.match-write.branch [
      | in-Ok w ↦ (search rules, Appends-more _ _ _ _ _ _ _ w.done-is before w.in-Ok.ensures.bytes)
      | in-Err+in-Interrupted w ↦
          (search rules, Appends-same _ _ _ _ _ _ w.done-is before w.in-Err.ensures.bytes)
    ]
