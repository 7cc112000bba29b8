-- The numbered body of a C function that runs a function of the model.
use Rattle.std.proofs.Common.{◌≡◌, ℕ, List, [], ap, sym, ◌∙◌, cond, Some}
use Rattle.flame_spec.specs.declared.models.Model.{Model}
use Rattle.flame_spec.specs.declared.outcomes.Widths.{Widths}
use Rattle.flame_spec.specs.declared.trees.Parameter.{Parameter}
use Rattle.flame_spec.specs.declared.trees.Unit as file
use Rattle.flame_spec.specs.CheckFaults.{check_faults, definition_faults}
use Rattle.flame_spec.specs.Definitions.{Definition, definitions, body_in, body_of, is_for}
use Rattle.flame_spec.specs.Functions.{Place}
use Rattle.flame_spec.specs.Scopes.{at_entry, after_parameters}
use Rattle.flame_spec.specs.Trees.{Statements, no_more}
use Rattle.std.specs.Prelude.{find}
use Rattle.flame_lookup.specs.Sources.{BodyPlace, context_at}
use Rattle.flame_body.specs.declared.slots.SlotStmt.{SlotStmt}
use Rattle.flame_body.specs.FunctionBodies.{NumberedBody, function_body, widths_in, words_of}
use Rattle.flame_body.specs.NumberedTrees.{numbered_statements}
use Rattle.flame_numbering.specs.WordPlaces.{words_at}
use Rattle.flame_check.proofs.Clean.{Runs, bare, clean_run}

-- where its words stand
abbrev pub standing_by : Model → List file.Unit → Place → Definition → BodyPlace
standing_by model units place d = record {
  sources = record { model = model; units = units };
  runs = Some place;
  file = d.file;
}

-- its statements are those of the function
body_is :
    (model : Model) (units : List file.Unit) (number : ℕ) (place : Place) (d : Definition)
    → Runs model units number place d
    → body_of units place.function ≡ d.body
body_is model units number place d runs =
    ap (λ b. cond b no_more (body_in (find (is_for place.function) (definitions units)))) runs.busy
    ∙ ap body_in runs.found

-- its tree
tree_is :
    (model : Model) (units : List file.Unit) (number : ℕ) (place : Place) (d : Definition) (standing : BodyPlace)
    → check_faults model units ≡ []
    → Runs model units number place d
    → standing ≡ standing_by model units place d
    → numbered_statements (words_at standing) (after_parameters at_entry d.parameters) d.body
    ≡ numbered_statements (words_of model units (Some place)) at_entry (body_of units place.function)
tree_is model units number place d standing clean runs is =
    ap (λ (s : BodyPlace). numbered_statements (words_at s) (after_parameters at_entry d.parameters) d.body) is
    ∙ ap
    (λ (parameters : List Parameter).
    numbered_statements (words_of model units (Some place)) (after_parameters at_entry parameters) d.body)
    (bare model units number place d clean runs)
    ∙ ap
    (λ (body : Statements). numbered_statements (words_of model units (Some place)) at_entry body)
    (sym (body_is model units number place d runs))

-- its body
pub function_body_is :
    (model : Model) (units : List file.Unit) (number : ℕ) (place : Place) (d : Definition) (standing : BodyPlace)
    (widths : Widths) (body : NumberedBody)
    → check_faults model units ≡ []
    → Runs model units number place d
    → standing ≡ standing_by model units place d
    → widths ≡ widths_in model (Some place)
    → body ≡ record {
      function = number;
      widths = widths;
      tree = numbered_statements (words_at standing) (after_parameters at_entry d.parameters) d.body;
    }
    → body ≡ function_body model units number place
function_body_is model units number place d standing widths body clean runs is wide e =
    let tree = numbered_statements (words_at standing) (after_parameters at_entry d.parameters) d.body in
    let with_widths : Widths → NumberedBody = λ w. record { function = number; widths = w; tree = tree } in
    let with_tree : List SlotStmt → NumberedBody =
    λ t. record { function = number; widths = widths_in model (Some place); tree = t } in
    e ∙ ap with_widths wide ∙ ap with_tree (tree_is model units number place d standing clean runs is)

-- it has no faults
pub function_clean :
    (model : Model) (units : List file.Unit) (number : ℕ) (place : Place) (d : Definition) (standing : BodyPlace)
    → check_faults model units ≡ []
    → Runs model units number place d
    → standing ≡ standing_by model units place d
    → definition_faults (context_at standing) d ≡ []
function_clean model units number place d standing clean runs is =
    ap (λ (s : BodyPlace). definition_faults (context_at s) d) is ∙ clean_run model units number place d clean runs
