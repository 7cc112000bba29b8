use Rattle.std.proofs.Common.{◌≡◌, ◌∙◌, ap, map}
use Rattle.std.specs.List.{filter}
use Rattle.std.specs.Str.{bytes_eq}
use Rattle.flame_spec.specs.Definitions.{definitions, helpers}
use Rattle.flame_spec.specs.Functions.{functions, functions_from}
use Rattle.flame_spec.specs.Lists.{numbered_where}
use Rattle.flame_lookup.specs.WordsFound.{definition_found}
use Rattle.flame_lookup.specs.WordTables.{helps_beside}
use Rattle.flame_lookup.proofs.sources.Tables.of.Goals as goal

pub invariant_of-result : goal.invariant_of-result
invariant_of-result c =
    let in_order : c.in_ok-functions.functions ≡ functions c.args.model.now =
    c.in_ok-functions.ensures ∙ ap (functions_from 0) c.items.ensures in
    let all : map definition_found c.in_ok-defined.defined.all.items ≡ definitions c.args.units.now =
    c.in_ok-defined.ensures.listed ∙ ap definitions c.items-2.ensures in
    let helping :
    filter (helps_beside c.in_ok-functions.functions) (map definition_found c.in_ok-defined.defined.all.items)
    ≡ helpers c.args.model.now c.args.units.now =
    ap (λ places. filter (helps_beside places) (map definition_found c.in_ok-defined.defined.all.items)) in_order
    ∙ ap (filter (helps_beside (functions c.args.model.now))) all in
    record {
      constants = c.in_ok-lists.ensures.constants;
      messages = c.in_ok-lists.ensures.messages;
      agents = c.in_ok-lists.ensures.agents;
      in_order = in_order;
      all = all;
      named = λ word. c.in_ok-defined.ensures.named word
          ∙ ap (λ units. numbered_where (λ d. bytes_eq d.name word) (definitions units)) c.items-2.ensures;
      helping = c.in_ok-helpers.ensures.listed ∙ helping;
      helped = λ word. c.in_ok-helpers.ensures.named word ∙ ap (numbered_where (λ d. bytes_eq d.name word)) helping;
    }
