-- Each read gives the next bytes, and one that was interrupted gives none.
use Rattle.std.proofs.Common.{rules}
use Rattle.flame_outside.proofs.TransferLemmas.{Consumes-more, Consumes-same}
use Rattle.flame_outside.proofs.transfer.read_front.Goals as goal
use Rattle.flame_outside.proofs.transfer.read_front.Goals.{in-Ok, in-Err+in-Interrupted}

pub reads-preserved : goal.reads-preserved
reads-preserved g c =
    let before = c.reads.invariant.1 in
    elim c.match-read_more.branch [
      | in-Ok w ↦
          (search rules, Consumes-more _ _ _ _ _ c.read_more.ensures.stays before w.in-Ok.ensures.taken)
      | in-Err+in-Interrupted w ↦
          (search rules, Consumes-same _ _ _ _ _ w.in-Err.ensures.err before w.in-Err.ensures.err_keeps)
    ]
