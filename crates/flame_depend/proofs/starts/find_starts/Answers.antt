-- One type more.
use Rattle.std.proofs.Common.{◌≡◌, ℕ, List, [], ◌∷◌, ◌++◌, length, take, get_or, map, ap, sym, ◌∙◌, arith}
use Rattle.std.proofs.lemmas.List.{map-append, take_more}
use Rattle.flame_spec.specs.declared.models.AgentType.{AgentType}
use Rattle.flame_spec.specs.States.{start_states}
use Rattle.flame_depend.specs.Plans.{lone, starts_of}
use Rattle.flame_depend.proofs.Planning.{one_lone, many_more}
use Rattle.flame_depend.proofs.starts.find_starts.Goals as goal

pub loop-i-preserved : goal.loop-i-preserved
loop-i-preserved c =
    let agents = c.args.agents.now in
    let i = c.loop-i.i in
    let agent = c.index-agents-i.result in
    let is : agent ≡ get_or agents i agent = c.index-agents-i.is in
    let states : c.in_ok-states.states.items ≡ start_states agent.functions = c.in_ok-states.ensures ∙ ap start_states c.items.ensures in
    let same : start_states (get_or agents i agent).functions ≡ start_states agent.functions = ap (λ (a : AgentType). start_states a.functions) (sym is) in
    let one : length c.in_ok-states.states.items ≡ 1 = omega (arith, c.requires.some i agent c.loop-i-test.true, ap (length {A = List ℕ}) same, ap (length {A = List ℕ}) states, c.len.ensures, c.if-len-gt1.false) in
    record {
      lone = ap (map lone) c.in_ok-append.ensures.items ∙ map-append lone c.loop-i.starts.items c.in_ok-states.states.items
          ∙ ap (λ xs. xs ++ map lone c.in_ok-states.states.items) c.loop-i.invariant.lone
          ∙ ap (λ xs. map starts_of (take i agents) ++ xs) (one_lone c.in_ok-states.states.items one ∙ ap (λ xs. xs ∷ []) (states ∙ ap (λ (a : AgentType). start_states a.functions) is))
          ∙ sym (ap (map starts_of) (take_more agents i agent c.loop-i-test.true) ∙ map-append starts_of (take i agents) (get_or agents i agent ∷ []));
      many = c.loop-i.invariant.many ∙ many_more agents i agent c.loop-i-test.true (omega (arith, one, ap (length {A = List ℕ}) same, ap (length {A = List ℕ}) states));
    }
