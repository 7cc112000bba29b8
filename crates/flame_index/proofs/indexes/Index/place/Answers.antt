use Rattle.std.proofs.Common.{◌≡◌, ◌<◌, length, get_or, vec_len, slice_get, sym, ap, ◌∙◌, subst, arith, rules}
use Rattle.std.proofs.lemmas.Option.{slice_get_read}
use Rattle.flame_index.specs.FrozenBoards.{messages_on}
use Rattle.flame_index.specs.Indexes.{places_of}
use Rattle.flame_index.proofs.Entered.{laid_length, laid_places}
use Rattle.flame_index.proofs.Ordered.{index_stays_within}
use Rattle.flame_index.proofs.indexes.Index.place.Goals as goal

pub index-requires : goal.index-requires
index-requires c =
    let inside = c.self.inside in
    let long : vec_len inside.places ≡ length inside.places.items = search rules in
    let even : length inside.values.items ≡ length inside.places.items = c.self.invariant.0 in
    let size = laid_length inside.values.items inside.places.items even c.args.self.now.entries (ap (λ t. t.entries) c.self.view_is) in
    omega (arith, long, even, size, c.requires)

pub returns-clause-place : goal.returns-clause-place
returns-clause-place c =
    let inside = c.self.inside in
    let even : length inside.values.items ≡ length inside.places.items = c.self.invariant.0 in
    let laid = ap (λ t. t.entries) c.self.view_is in
    let size = laid_length inside.values.items inside.places.items even c.args.self.now.entries laid in
    let same : places_of c.args.self.now ≡ inside.places.items = laid_places inside.values.items inside.places.items even c.args.self.now.entries laid in
    let within : c.args.at < length inside.places.items = omega (arith, even, size, c.requires) in
    ap (λ places. slice_get places c.args.at) same
    ∙ slice_get_read inside.places.items (length inside.places.items) c.args.at c.index.result.now (λ i. length inside.places.items) within c.index.ensures

pub returns-clause-within : goal.returns-clause-within
returns-clause-within c board stands =
    let inside = c.self.inside in
    let even : length inside.values.items ≡ length inside.places.items = c.self.invariant.0 in
    let laid = ap (λ t. t.entries) c.self.view_is in
    let size = laid_length inside.values.items inside.places.items even c.args.self.now.entries laid in
    let same : places_of c.args.self.now ≡ inside.places.items = laid_places inside.values.items inside.places.items even c.args.self.now.entries laid in
    let within : c.args.at < length (places_of c.args.self.now) = omega (arith, even, size, ap length same, c.requires) in
    subst (λ place. place < length (messages_on board))
    (ap (λ places. get_or places c.args.at c.index.result.now) same ∙ sym c.index.ensures)
    (index_stays_within c.args.self.now board stands c.args.at c.index.result.now within)
