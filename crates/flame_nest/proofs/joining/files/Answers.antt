use Rattle.flame_nest.proofs.Walks.{files-more, there-more}
use Rattle.flame_nest.proofs.joining.files.Goals as goal

pub loop-wide-preserved : goal.loop-wide-preserved
loop-wide-preserved c = record {
  joined =
      files-more
      c.args.wides.now
      c.loop-wide.wide-index
      c.wide-item.result
      c.wide-item.result
      c.loop-wide.there
      _
      _
      c.items.result.now
      c.loop-wide-test.true
      c.wide-item.is
      c.loop-wide.invariant.joined
      c.loop-wide.invariant.there
      c.items.ensures
      c.in_ok-put_new.ensures;
  there =
      λ name.
      there-more
      c.args.wides.now
      c.loop-wide.wide-index
      c.wide-item.result
      c.wide-item.result
      c.loop-wide.there
      _
      c.items-in-loop-wide.result.now
      name
      c.loop-wide-test.true
      c.wide-item.is
      (c.loop-wide.invariant.there name)
      c.items-in-loop-wide.ensures
      c.in_ok-note.ensures;
}
