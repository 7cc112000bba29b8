-- One function more.
use Rattle.std.proofs.Common.{ap, ◌∙◌, refl, take, map}
use Rattle.std.specs.Prelude.{◌==◌, ◌&&◌, ◌||◌, slice_get}
use Rattle.std.specs.List.{list_any}
use Rattle.std.specs.Str.{bytes_eq}
use Rattle.flame_depend.specs.PlacedFunctions.{shown}
use Rattle.flame_depend.specs.Links.{adds_at}
use Rattle.flame_depend.proofs.Gets.{test_more, shown_at}
use Rattle.flame_depend.proofs.links.adding.Goals as goal

pub loop-i-preserved : goal.loop-i-preserved
loop-i-preserved c = λ q f.
    let places = map shown c.args.places.now in
    let i = c.loop-i.i in
    c.in_ok-note_all.ensures q f
    ∙ ap (λ b. b || ((i == f) && list_any (bytes_eq q) c.items.result.now)) (c.loop-i.invariant q f)
    ∙ ap (λ names. adds_at (slice_get (take i places) f) q || ((i == f) && list_any (bytes_eq q) names)) c.items.ensures
    ∙ test_more (λ o. adds_at o q) refl places i (shown c.index-places-i.result) f (shown_at c.args.places.now i c.index-places-i.result c.loop-i-test.true c.index-places-i.is)
