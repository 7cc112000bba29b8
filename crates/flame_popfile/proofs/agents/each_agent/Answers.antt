-- A member's faults come before those of the members behind it.
use Rattle.std.proofs.Common.{◌≡◌, ℕ, ◌+◌, List, [], ◌∷◌, ◌++◌, map, take, drop, take_all, refl, sym, ap, subst, ◌∙◌, arith}
use Rattle.std.specs.Prelude.{replicate}
use Rattle.std.proofs.lemmas.List.{length-map}
use Rattle.serde_json.specs.Data.{Data}
use Rattle.serde_json.specs.View.{view}
use Rattle.flame_spec.specs.FirstFaults.{FailsFirst}
use Rattle.flame_spec.specs.Lists.{each_from}
use Rattle.flame_spec.specs.Paths.{at_number}
use Rattle.flame_spec.proofs.FaultLists.{FailsFirst-append, Reads-passed}
use Rattle.flame_popfile.specs.declared.faults.PopFault.{PopFault}
use Rattle.flame_popfile.specs.PopulationAgents.{agents_of}
use Rattle.flame_popfile.specs.PopulationFaults.{agent_faults, taken_names}
use Rattle.flame_xmml.specs.ValuePlaces.{path_of}
use Rattle.flame_popfile.specs.DealtAgents.{AreDealt}
use Rattle.flame_rows.specs.RowVectors.{rows_of}
use Rattle.flame_rows.proofs.BagLaws.{bags_of-rows}
use Rattle.flame_popfile.proofs.Dealing.{bags_dealt, nobody_dealt, dealt_more}
use Rattle.flame_popfile.proofs.MemberFaults.{next_member, no_member, taken_members}
use Rattle.flame_popfile.proofs.PlacePaths.{path_of-Member}
use Rattle.flame_popfile.proofs.TakenNames.{taken_none, taken_more}
use Rattle.flame_popfile.proofs.agents.each_agent.Goals as goal

pub loop-number-init : goal.loop-number-init
loop-number-init c = record {
  faults = refl;
  names = c.new-earlier.ensures ∙ sym (taken_none c.args.format);
  dealt =
      subst (AreDealt c.args.format c.args.kinds.now [])
      (sym (c.in_ok-dealt.ensures ∙ ap (λ n. replicate n []) c.count.ensures))
      (nobody_dealt c.args.format c.args.kinds.now);
}

pub add_agent-requires : goal.add_agent-requires
add_agent-requires c =
    sym (length-map c.loop-number.dealt.items _) ∙ c.loop-number.invariant.dealt.count

pub loop-number-preserved : goal.loop-number-preserved
loop-number-preserved c =
    let datas = map view c.args.values.now in
    let i = c.loop-number.number in
    let value = c.index-values-number.result in
    let path = path_of c.args.place.now in
    let faults : ℕ → Data → List PopFault =
    λ number value.
    agent_faults c.args.format c.args.kinds.now (taken_names c.args.format (take number datas)) (at_number path number)
    value in
    let none : faults i (view value) ≡ [] =
    ap (λ earlier. agent_faults c.args.format c.args.kinds.now earlier (at_number path i) (view value))
    (sym c.loop-number.invariant.names)
    ∙ ap (λ path. agent_faults c.args.format c.args.kinds.now c.loop-number.earlier path (view value))
    (sym (path_of-Member c.args.place i))
    ∙ c.in_ok-add_agent.ensures.passes in
    let taken = taken_members view c.args.values.now i value c.loop-number-test.true c.index-values-number.is in
    record {
      faults =
          c.loop-number.invariant.faults
          ∙ next_member faults view c.args.values.now i value c.loop-number-test.true c.index-values-number.is
          ∙ ap (λ l. l ++ each_from faults (i + 1) (map view (drop (i + 1) c.args.values.now))) none;
      names =
          c.in_ok-add_agent.ensures.names
          ∙ ap (λ l. l ++ taken_names c.args.format (view value ∷ [])) c.loop-number.invariant.names
          ∙ sym (taken_more c.args.format (take i datas) (view value))
          ∙ ap (taken_names c.args.format) (sym taken);
      dealt =
          subst (λ l. AreDealt c.args.format c.args.kinds.now l (rows_of c.add_agent.new.dealt)) (sym taken)
          (dealt_more c.args.format c.args.kinds.now (take i datas) (view value) (rows_of c.loop-number.dealt)
          (rows_of c.add_agent.new.dealt) c.loop-number.invariant.dealt c.in_ok-add_agent.ensures.agents);
    }

pub returns-in_err-add_agent : goal.returns-in_err-add_agent
returns-in_err-add_agent c =
    let datas = map view c.args.values.now in
    let i = c.loop-number.number in
    let value = c.index-values-number.result in
    let path = path_of c.args.place.now in
    let faults : ℕ → Data → List PopFault =
    λ number value.
    agent_faults c.args.format c.args.kinds.now (taken_names c.args.format (take number datas)) (at_number path number)
    value in
    let fails : FailsFirst (faults i (view value)) c.in_err-add_agent.field-0.0 =
    subst (λ l. FailsFirst l c.in_err-add_agent.field-0.0)
    (ap (λ path. agent_faults c.args.format c.args.kinds.now c.loop-number.earlier path (view value))
    (path_of-Member c.args.place i)
    ∙ ap (λ earlier. agent_faults c.args.format c.args.kinds.now earlier (at_number path i) (view value))
    c.loop-number.invariant.names)
    c.in_err-add_agent.ensures.passes in
    Reads-passed _ _ _ c.from_residual-in_err-add_agent.result c.from_residual-in_err-add_agent.ensures.1
    (subst (λ l. FailsFirst l c.in_err-add_agent.field-0.0)
    (sym
    (c.loop-number.invariant.faults
    ∙ next_member faults view c.args.values.now i value c.loop-number-test.true c.index-values-number.is))
    (FailsFirst-append _ (faults i (view value)) _ fails))

pub returns : goal.returns
returns c =
    let datas = map view c.args.values.now in
    let i = c.loop-number.number in (
      c.loop-number.invariant.faults ∙ no_member _ view c.args.values.now i c.loop-number-test.false,
      c.in_ok-bags_of.ensures
          ∙ bags_of-rows c.loop-number.dealt
          ∙ bags_dealt c.args.format c.args.kinds.now (take i datas) (rows_of c.loop-number.dealt) c.loop-number.invariant.dealt
          ∙ ap (agents_of c.args.format c.args.kinds.now)
          (take_all i datas (omega (arith, length-map c.args.values.now view, c.loop-number-test.false))),
    )
