-- The text has the bytes, and what is answered is made of what was read.
use Rattle.std.proofs.Common.{ℕ, List, length, subst, rules, w32, SFits, ap, ◌∙◌}
use Rattle.std.specs.Prelude.{option_map}
use Rattle.std.proofs.lemmas.Int.{to_z-of_z}
use Rattle.std.proofs.lemmas.Str.{is_utf8-from_IsUtf8}
use Rattle.json.specs.Lex.{tokens}
use Rattle.flame_rows.specs.RowVectors.{rows_of}
use Rattle.flame_rows.proofs.BagLaws.{bags_of-rows}
use Rattle.flame_tokens.specs.PopulationTrees.{IsWhole, values_or}
use Rattle.flame_tokens.proofs.populations.read.Goals as goal

pub returns : goal.returns
returns c =
    let model = c.args.model.now in
    let found = c.in_ok-itno.field-0 in
    let constants = option_map (λ values. values.items) found.constants in
    let text = c.in-Ok.ensures.cases in
    let fits : SFits w32 c.number_or.result = search rules in
    record {
      utf8 = is_utf8-from_IsUtf8 c.args.bytes.now text.1;
      itno_read = found.itno;
      constants_read = constants;
      dealt = rows_of found.agents;
      itno_same = to_z-of_z w32 c.number_or.result fits ∙ c.number_or.ensures;
      constants_same =
          c.in_ok-constants.ensures
          ∙ ap (λ (names : List (List ℕ)). values_or (length names) constants) c.items.ensures;
      agents_same = c.in_ok-agents.ensures ∙ bags_of-rows found.agents;
      whole =
          subst (λ (bytes : List ℕ). IsWhole model found.itno constants (rows_of found.agents) (tokens bytes)) text.0
          c.in_ok-itno.ensures;
    }
