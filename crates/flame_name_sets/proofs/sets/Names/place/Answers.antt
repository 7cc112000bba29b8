-- The place among the keys is that among the names.
use Rattle.std.proofs.Common.{◌∙◌, ap, sym}
use Rattle.std.specs.List.{position_or_len}
use Rattle.std.specs.Str.{bytes_eq}
use Rattle.flame_name_sets.proofs.Places.{place-found, place-missing}
use Rattle.flame_name_sets.proofs.sets.Names.place.Goals as goal

pub returns-in-Some : goal.returns-in-Some
returns-in-Some c =
    let state = c.args.name.now in
    place-found (λ name. name.now) state c.self.inside.names.keys c.in-Some.place (sym c.in-Some.ensures.index)
    ∙ ap (position_or_len (λ other. bytes_eq other state)) c.self.view_is

pub returns-in-None : goal.returns-in-None
returns-in-None c =
    let state = c.args.name.now in
    c.len.ensures.len
    ∙ place-missing (λ name. name.now) state c.self.inside.names.keys (sym c.in-None.ensures.index)
    ∙ ap (position_or_len (λ other. bytes_eq other state)) c.self.view_is
