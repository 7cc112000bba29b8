use mir.Syntax.{w32}
use mir.Val.{SFits}
use Rattle.std.proofs.Common.{◌≡◌, ◌<◌, length, vec_len, Some, slice_get, sym, ap, ◌∙◌, arith, rules}
use Rattle.std.proofs.lemmas.Int.{to_z-of_z}
use Rattle.std.proofs.lemmas.Option.{slice_get_read}
use Rattle.flame_index.specs.Indexes.{values_of}
use Rattle.flame_index.proofs.Entered.{laid_length, laid_values}
use Rattle.flame_index.proofs.indexes.Index.probe.Goals as goal

pub index-requires : goal.index-requires
index-requires g c =
    let inside = c.self.inside in
    let long : vec_len inside.values ≡ length inside.values.items = search rules in
    let size = laid_length inside.values.items inside.places.items c.self.invariant.0 c.args.self.now.entries (ap (λ t. t.entries) c.self.view_is) in
    omega (arith, long, size, c.requires.within)

pub returns-clause-value : goal.returns-clause-value
returns-clause-value g c =
    let inside = c.self.inside in
    let laid = ap (λ t. t.entries) c.self.view_is in
    let size = laid_length inside.values.items inside.places.items c.self.invariant.0 c.args.self.now.entries laid in
    let same : values_of c.args.self.now ≡ inside.values.items = laid_values inside.values.items inside.places.items c.self.invariant.0 c.args.self.now.entries laid in
    let within : c.args.at < length inside.values.items = omega (arith, size, c.requires.within) in
    let fits : SFits w32 c.index.result.now = search rules in
    ap (λ values. slice_get values c.args.at) same
    ∙ slice_get_read inside.values.items (length inside.values.items) c.args.at c.index.result.now (λ i. length inside.values.items) within c.index.ensures
    ∙ ap Some (sym (to_z-of_z w32 c.index.result.now fits))
