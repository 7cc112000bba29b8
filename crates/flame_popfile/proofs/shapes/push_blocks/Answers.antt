use Rattle.std.proofs.Common.{◌<◌, ◌∙◌, length, arith}
use Rattle.flame_popfile.specs.ShapeTexts.{shape_text}
use Rattle.flame_popfile.proofs.TailLists.{block_more}
use Rattle.flame_popfile.proofs.shapes.push_blocks.Goals as goal

pub loop-rest-preserved : goal.loop-rest-preserved
loop-rest-preserved c =
    let rest = c.loop-rest.rest.now in
    let block = c.split_at.result.0.now in
    let some : 0 < length block =
    omega (arith, c.split_at.ensures.front_len, c.min.ensures, c.together-size.ensures, c.loop-rest-test.true) in
    block_more (shape_text c.args.shape.now) c.loop-rest.bytes.items _ c.loop-rest.more block c.split_at.result.1.now rest
    c.split_at.ensures.by_index.0 some c.in_ok-push_block.ensures
    ∙ c.loop-rest.invariant
