use Rattle.std.proofs.Common.{refl, ap, ◌∙◌}
use Rattle.flame_code.specs.Feeds.{at_start}
use Rattle.flame_code.proofs.FeedMoves.{has_feeder, at_start-map}
use Rattle.flame_view.specs.Cursors.{fed_of}
use Rattle.flame_view.proofs.inputs.ViewsFeed.begin.Goals as goal

pub returns : goal.returns
returns c =
    let cursors = c.self.inside.cursors.items in
    let here = c.index_mut.result.now in
    let within = has_feeder fed_of cursors c.args.self.now c.args.input c.self.view_is c.requires in
    at_start-map fed_of cursors c.args.input here within c.index_mut.ensures.value (record { view = here.view; passed = 0 }) refl
    ∙ ap (at_start c.args.input) c.self.view_is
