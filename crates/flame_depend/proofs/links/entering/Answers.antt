-- One function more.
use Rattle.std.proofs.Common.{◌<◌, ◌++◌, ◌∷◌, [], Option, ap, ◌∙◌, subst, map, arith, cond, length, refl}
use Rattle.std.specs.Str.{bytes_eq}
use Rattle.std.proofs.lemmas.Option.{slice_get_read}
use Rattle.flame_spec.specs.Functions.{Place}
use Rattle.flame_depend.specs.PlacedFunctions.{shown}
use Rattle.flame_depend.specs.FunctionTables.{listed}
use Rattle.flame_depend.specs.Links.{IsOfTypes}
use Rattle.flame_depend.proofs.Gets.{shown_at}
use Rattle.flame_depend.proofs.Entering.{entering_more}
use Rattle.flame_depend.proofs.links.entering.Goals as goal

pub index_mut-requires : goal.index_mut-requires
index_mut-requires c =
    let at = shown_at c.args.places.now c.loop-i.i c.index-places-i.result c.loop-i-test.true c.index-places-i.is in
    let P : Option Place → Type 0 = IsOfTypes c.args.types in
    let of : c.index-places-i.result.agent < c.args.types = subst P at (c.requires.within c.loop-i.i) in
    omega (arith, of, c.loop-i.invariant.len)

pub loop-i-preserved : goal.loop-i-preserved
loop-i-preserved c =
    let at = shown_at c.args.places.now c.loop-i.i c.index-places-i.result c.loop-i-test.true c.index-places-i.is in
    let P : Option Place → Type 0 = IsOfTypes c.args.types in
    let of : c.index-places-i.result.agent < c.args.types = subst P at (c.requires.within c.loop-i.i) in
    let old = c.index_mut.result.now in
    entering_more c.args.types (map shown c.args.places.now) c.loop-i.tables.items c.loop-i.i (shown c.index-places-i.result) old c.note.new.table c.loop-i.invariant at
    (slice_get_read c.loop-i.tables.items (length c.loop-i.tables.items) c.index-places-i.result.agent old refl (omega (arith, of, c.loop-i.invariant.len)) c.index_mut.ensures.value)
    (λ q. c.in_ok-note.ensures q ∙ ap (λ name. cond (bytes_eq q name) (listed old q ++ c.loop-i.i ∷ []) (listed old q)) c.as_str.ensures)
