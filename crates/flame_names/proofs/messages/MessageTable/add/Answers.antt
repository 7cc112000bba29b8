use Rattle.std.proofs.Common.{◌≡◌, ◌∙◌, sym, ap, None, map, ◌++◌, ◌∷◌, []}
use Rattle.std.specs.Map.{lookup}
use Rattle.std.specs.Str.{bytes_eq}
use Rattle.std.proofs.lemmas.List.{map_push}
use Rattle.indexmap.proofs.CallerLemmas.{insert_entry-new}
use Rattle.flame_name_sets.specs.NameTables.{look}
use Rattle.flame_name_sets.proofs.Tables.{look-map}
use Rattle.flame_names.proofs.messages.MessageTable.add.Goals as goal

pub returns : goal.returns
returns c =
    let entries = c.self.inside.messages.entries in
    let none : lookup (λ key. bytes_eq c.args.name.now key.now) entries ≡ None =
    sym (look-map c.args.name.now entries) ∙ ap (look c.args.name.now) c.self.view_is ∙ c.requires in
    ap
    (map (λ entry. (entry.0.now, entry.1)))
    (c.in_ok-insert.ensures.entries
    ∙ insert_entry-new (λ x y. bytes_eq x.now y.now) c.self.inside.messages c.args.name c.args.variables none)
    ∙ map_push (λ entry. (entry.0.now, entry.1)) entries (c.args.name, c.args.variables)
    ∙ ap (λ table. table ++ (c.args.name.now, c.args.variables) ∷ []) c.self.view_is
