-- The tokens of the parts, one behind another.
use Rattle.std.proofs.Common.{◌≡◌, ◌++◌, ◌∷◌, List, Bool, subst, sym, ap, ap₂, ◌∙◌, codes}
use Rattle.std.specs.Prelude.{option_map}
use Rattle.json.specs.Token.{Token, begin_object, key}
use Rattle.json.specs.Tree.{json_tokens}
use Rattle.flame_tokens.specs.MemberTrees.{keyed}
use Rattle.flame_rows.specs.RowVectors.{rows_of}
use Rattle.flame_tokens.specs.PopulationTrees.{version_trees, is_two, itno_trees, environment_trees, boards_trees, HasAgents}
use Rattle.flame_tokens.proofs.MoreConstants.{states_closed}
use Rattle.flame_tokens.proofs.states.states_in.Goals as goal

pub returns : goal.returns
returns c =
    let model = c.args.model.now in
    let names = model.constants in
    let version = c.in_ok-version.version in
    let itno = c.in_ok-itno.itno in
    let constants = option_map (λ values. values.items) c.in_ok-constants.constants in
    let same : c.unwrap_or-two.result ≡ is_two version = c.unwrap_or-two.ensures in
    let before = c.in_ok-itno.third.now in
    let behind = c.in_ok-constants.fourth.now in
    let environment =
    subst
    (λ (two : Bool). key before ∷ c.itno_at.new.reader
    ≡ keyed (environment_trees two names constants) ++ key behind ∷ c.environment_at.new.reader)
    same c.in_ok-constants.ensures.tokens in
    let read =
    subst
    (λ (two : Bool). HasAgents two model.agents c.environment_at.new.reader c.agents_at.new.reader
    (rows_of c.in_ok-agents.agents))
    same c.in_ok-agents.ensures.agents in
    let boards = c.in_ok-boards.ensures in
    let first = version_trees version in
    let second = itno_trees itno in
    let third = environment_trees (is_two version) names constants in
    record {
      contents = record { version = version; agents = read.tree; boards = boards.boards };
      tokens =
          ap (λ (ts : List Token). begin_object ∷ ts)
          (c.in_ok-first.ensures
          ∙ c.in_ok-version.ensures
          ∙ ap (λ (ts : List Token). keyed first ++ ts)
          (c.in_ok-itno.ensures.tokens
          ∙ ap (λ (ts : List Token). keyed second ++ ts)
          (environment
          ∙ ap (λ (ts : List Token). keyed third ++ ts)
          (ap₂ (λ name (ts : List Token). key name ∷ ts) c.in_ok-agents.ensures.key
          (read.tokens ∙ ap (λ (ts : List Token). json_tokens read.tree ++ ts) boards.tokens)))))
          ∙ sym
          (states_closed first second third (boards_trees boards.boards) (codes "agents") read.tree c.boards.new.reader);
      are = record {
        itno_is = c.in_ok-itno.ensures.itno;
        constants_are = c.in_ok-constants.ensures.constants;
        agents_are = read.are;
        boards_are = boards.passed;
      };
    }
