use Rattle.std.proofs.Common.{◌≡◌, ◌∙◌, ◌++◌, ◌∷◌, [], List, ℕ, Bool, take, sym, ap}
use Rattle.std.specs.Prelude.{◌||◌}
use Rattle.std.proofs.lemmas.List.{map_more, take_more}
use Rattle.std.proofs.lemmas.Result.{err_from_is_err_and}
use Rattle.std.proofs.lemmas.List.Folds.{list_any-append}
use Rattle.std.specs.Str.{bytes_eq}
use Rattle.flame_spec.specs.KnownNames.{is_among}
use Rattle.flame_spec.specs.Paths.{at_number}
use Rattle.flame_spec.specs.NameFaults.{type_names, function_names, names_of_functions, agent_faults}
use Rattle.flame_spec.proofs.FaultLists.{FailsFirst-member}
use Rattle.flame_names.specs.PlacePaths.{text_of}
use Rattle.flame_names.specs.TableScopes.{declared_of}
use Rattle.flame_names.proofs.Rests.{none-member}
use Rattle.flame_names.proofs.Sharing.{names_of_functions-push}
use Rattle.flame_names.proofs.agents.add_agents.Goals as goal

pub returns-in_err-add_agent-clause-first : goal.returns-in_err-add_agent-clause-first
returns-in_err-add_agent-clause-first c =
    let p = err_from_is_err_and c.from_residual.result c.from_residual.ensures.1 in
    let declared = declared_of c.args.tables.now in
    let path = text_of c.args.place.now in
    let agents = c.args.agents.now in
    let i = c.loop-i.i in
    let agent = c.index-agents-i.result in
    let taken : List ℕ → Bool = λ name. is_among name c.loop-i.shared in
    let same : taken ≡ (λ name. is_among name (names_of_functions (take i agents))) =
    λ j name. c.loop-i.invariant.shared name j in
    rw
    (p.1, p.2)
    (FailsFirst-member
    _
    (λ i type.
    agent_faults
    declared
    (type_names (take i agents))
    (λ name. is_among name (names_of_functions (take i agents)))
    (at_number path i)
    type)
    agents
    i
    agent
    _
    (agent_faults declared c.loop-i.types taken (at_number path i) agent)
    c.loop-i-test.true
    c.loop-i.invariant.rest
    (ap (λ types. agent_faults declared types taken (at_number path i) agent) c.loop-i.invariant.types
    ∙ ap (λ test. agent_faults declared (type_names (take i agents)) test (at_number path i) agent) same
    ∙ ap
    (agent_faults
    declared
    (type_names (take i agents))
    (λ name. is_among name (names_of_functions (take i agents)))
    (at_number path i))
    c.index-agents-i.is)
    c.in_err-add_agent.ensures.first)

pub loop-i-preserved : goal.loop-i-preserved
loop-i-preserved c =
    let declared = declared_of c.args.tables.now in
    let path = text_of c.args.place.now in
    let agents = c.args.agents.now in
    let i = c.loop-i.i in
    let agent = c.index-agents-i.result in
    let taken : List ℕ → Bool = λ name. is_among name c.loop-i.shared in
    let same : taken ≡ (λ name. is_among name (names_of_functions (take i agents))) =
    λ j name. c.loop-i.invariant.shared name j in
    record {
      types =
          c.in_ok-add_agent.ensures.names
          ∙ ap (λ types. types ++ agent.name ∷ []) c.loop-i.invariant.types
          ∙ ap (λ a. type_names (take i agents) ++ a.name ∷ []) c.index-agents-i.is
          ∙ sym (map_more (λ type. type.name) agents i agent c.loop-i-test.true);
      shared = λ name.
          c.in_ok-add_agent.ensures.functions name
          ∙ ap (λ b. b || is_among name (function_names agent.functions)) (c.loop-i.invariant.shared name)
          ∙ sym (list_any-append (bytes_eq name) (names_of_functions (take i agents)) (function_names agent.functions))
          ∙ ap (is_among name) (sym (names_of_functions-push (take i agents) agent))
          ∙ ap
          (λ types. is_among name (names_of_functions types))
          (ap (λ a. take i agents ++ a ∷ []) c.index-agents-i.is
          ∙ sym (take_more agents i agent c.loop-i-test.true));
      rest =
          c.loop-i.invariant.rest
          ∙ none-member
          (λ i type.
          agent_faults
          declared
          (type_names (take i agents))
          (λ name. is_among name (names_of_functions (take i agents)))
          (at_number path i)
          type)
          agents
          i
          agent
          (agent_faults declared c.loop-i.types taken (at_number path i) agent)
          c.loop-i-test.true
          (ap (λ types. agent_faults declared types taken (at_number path i) agent) c.loop-i.invariant.types
          ∙ ap (λ test. agent_faults declared (type_names (take i agents)) test (at_number path i) agent) same
          ∙ ap
          (agent_faults
          declared
          (type_names (take i agents))
          (λ name. is_among name (names_of_functions (take i agents)))
          (at_number path i))
          c.index-agents-i.is)
          c.in_ok-add_agent.ensures.none;
    }
