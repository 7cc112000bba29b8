use Rattle.std.proofs.Common.{◌≡◌, ◌∙◌, ◌+◌, ◌++◌, ◌∷◌, [], false, min, sym, ap}
use Rattle.std.specs.Option.{is_some}
use Rattle.std.specs.Map.{lookup}
use Rattle.std.specs.Str.{bytes_eq}
use Rattle.std.proofs.lemmas.List.{map_push}
use Rattle.flame_rows.proofs.Truths.{is_some-false}
use Rattle.indexmap.proofs.CallerLemmas.{insert_entry-new}
use Rattle.flame_spec.specs.declared.models.Variable.{Variable}
use Rattle.flame_spec.specs.Columns.{width, width_of}
use Rattle.flame_spec.specs.KnownNames.{is_among, variable_names}
use Rattle.flame_names.specs.VariableTables.{variables_in_table, counted}
use Rattle.flame_names.proofs.Arrays.{there-is}
use Rattle.flame_names.proofs.Widths.{width-push, counted-more}
use Rattle.flame_names.proofs.variables.Variables.add.Goals as goal

-- the table has one variable more
table_more : (c : goal.After-self-1)
    → variables_in_table c.insert.new.self.entries
    ≡ variables_in_table c.self.inside.lengths.entries ++ c.args.variable.now ∷ []
table_more c =
    let entries = c.self.inside.lengths.entries in
    let name = c.as_str.result.now in
    let length = c.args.variable.now.length in
    let absent : is_some (lookup (λ key. bytes_eq name key.now) entries) ≡ false =
    sym (there-is name entries)
    ∙ ap (λ variables. is_among name (variable_names variables)) c.self.view_is
    ∙ ap (λ n. is_among n (variable_names c.args.self.now)) c.as_str.ensures
    ∙ c.requires in
    ap
    variables_in_table
    (c.in_ok-insert.ensures.entries
    ∙ insert_entry-new (λ x y. bytes_eq x.now y.now) c.self.inside.lengths c.as_str.result length (is_some-false _ absent))
    ∙ map_push
    (λ entry. let v : Variable = record { name = entry.0.now; length = entry.1 } in v)
    entries
    (c.as_str.result, length)
    ∙ ap
    (λ n. variables_in_table entries ++ (let v : Variable = record { name = n; length = length } in v) ∷ [])
    c.as_str.ensures

pub invariant_of-self-2 : goal.invariant_of-self-2
invariant_of-self-2 c =
    let variables = variables_in_table c.self.inside.lengths.entries in
    let variable = c.args.variable.now in
    c.saturating_add-self-inside.ensures
    ∙ ap (λ w. min (w + c.from.result) 18446744073709551615) c.self.invariant
    ∙ ap (λ w. min (counted (width variables) + w) 18446744073709551615) (c.from.ensures ∙ c.width.ensures)
    ∙ counted-more (width variables) (width_of variable)
    ∙ ap counted (sym (width-push variables variable) ∙ ap width (sym (table_more c)))

pub returns : goal.returns
returns c = table_more c ∙ ap (λ variables. variables ++ c.args.variable.now ∷ []) c.self.view_is
