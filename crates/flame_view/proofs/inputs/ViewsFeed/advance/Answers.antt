use Rattle.std.proofs.Common.{◌+◌, ◌<◌, ◌≤◌, length, arith, refl, sym, ap, ◌∙◌}
use Rattle.std.proofs.lemmas.Bool.{lt-ltb, le-ltb}
use Rattle.flame_code.specs.Feeds.{at_next, has_next}
use Rattle.flame_code.proofs.FeedMoves.{has_feeder, has_next-map, at_next-more, at_next-none}
use Rattle.flame_view.specs.Cursors.{fed_of}
use Rattle.flame_view.proofs.inputs.ViewsFeed.advance.Goals as goal

pub returns-then-cursor-len-clause-moved : goal.returns-then-cursor-len-clause-moved
returns-then-cursor-len-clause-moved c =
    let cursors = c.self.inside.cursors.items in
    let here = c.index_mut-cursor.result.now in
    let within = has_feeder fed_of cursors c.args.self.now c.args.input c.self.view_is c.requires in
    let less : here.passed < length here.view = omega (arith, c.len.ensures, c.if-cursor-len.true) in
    at_next-more fed_of cursors c.args.input here within c.index_mut-cursor.ensures.value (record { view = here.view; passed = here.passed + 1 }) refl (lt-ltb _ _ less)
    ∙ ap (at_next c.args.input) c.self.view_is

pub returns-clause-there : goal.returns-clause-there
returns-clause-there c =
    let cursors = c.self.inside.cursors.items in
    let here = c.index_mut-cursor.result.now in
    let within = has_feeder fed_of cursors c.args.self.now c.args.input c.self.view_is c.requires in
    let least : length here.view ≤ here.passed = omega (arith, c.len.ensures, c.if-cursor-len.false) in
    sym (has_next-map fed_of cursors c.args.input here within c.index_mut-cursor.ensures.value ∙ le-ltb _ _ least)
    ∙ ap (has_next c.args.input) c.self.view_is

pub returns-clause-moved : goal.returns-clause-moved
returns-clause-moved c =
    let cursors = c.self.inside.cursors.items in
    let here = c.index_mut-cursor.result.now in
    let within = has_feeder fed_of cursors c.args.self.now c.args.input c.self.view_is c.requires in
    let least : length here.view ≤ here.passed = omega (arith, c.len.ensures, c.if-cursor-len.false) in
    at_next-none fed_of cursors c.args.input here within c.index_mut-cursor.ensures.value (le-ltb _ _ least)
    ∙ ap (at_next c.args.input) c.self.view_is
