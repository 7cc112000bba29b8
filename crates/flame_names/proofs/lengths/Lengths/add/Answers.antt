use Rattle.std.proofs.Common.{◌≡◌, ◌∙◌, sym, ap, None, map, ◌++◌, ◌∷◌, [], to_z, of_z, w32}
use Rattle.std.specs.Map.{lookup}
use Rattle.std.specs.Str.{bytes_eq}
use Rattle.std.proofs.lemmas.List.{map_push}
use Rattle.std.proofs.lemmas.Int.{to_z-of_z}
use Rattle.indexmap.proofs.CallerLemmas.{insert_entry-new}
use Rattle.flame_name_sets.specs.NameTables.{look}
use Rattle.flame_name_sets.proofs.Tables.{look-map}
use Rattle.flame_names.proofs.lengths.Lengths.add.Goals as goal

pub returns : goal.returns
returns c =
    let entries = c.self.inside.lengths.entries in
    let length = to_z w32 (of_z w32 c.args.length) in
    let none : lookup (λ key. bytes_eq c.args.name.now key.now) entries ≡ None =
    sym (look-map c.args.name.now entries) ∙ ap (look c.args.name.now) c.self.view_is ∙ c.requires in
    ap
    (map (λ entry. (entry.0.now, entry.1)))
    (c.in_ok-insert.ensures.entries
    ∙ insert_entry-new (λ x y. bytes_eq x.now y.now) c.self.inside.lengths c.args.name length none)
    ∙ map_push (λ entry. (entry.0.now, entry.1)) entries (c.args.name, length)
    ∙ ap (λ table. table ++ (c.args.name.now, length) ∷ []) c.self.view_is
    ∙ ap (λ z. c.args.self.now ++ (c.args.name.now, z) ∷ []) (to_z-of_z w32 c.args.length c.ranges.length)
