-- The variables are those of the type.
use Rattle.std.proofs.Common.{◌++◌, ◌∷◌, [], ◌∙◌, codes, option_map, sym, ap, ap₂, subst}
use Rattle.serde_json.specs.View.{view}
use Rattle.flame_spec.specs.declared.models.AgentType.{AgentType}
use Rattle.flame_spec.specs.declared.models.Variable.{Variable}
use Rattle.flame_spec.specs.FirstFaults.{FailsFirst}
use Rattle.flame_spec.proofs.FaultLists.{Passes-passed}
use Rattle.flame_popfile.specs.PopulationAgents.{memory_of}
use Rattle.flame_popfile.specs.PopulationFaults.{memory_faults}
use Rattle.flame_popfile.specs.PopulationParts.{optional, called}
use Rattle.flame_xmml.specs.ValuePlaces.{path_of}
use Rattle.flame_popfile.proofs.agents.add_memory.Goals as goal

pub memory_at-requires : goal.memory_at-requires
memory_at-requires c = λ name.
    let same = c.items-variables.ensures ∙ ap (λ (type : AgentType). type.memory) c.agent-agent.ensures in
    c.lengths.ensures name
    ∙ ap
    (λ variables. option_map (λ (variable : Variable). variable.length)
    (called (λ (variable : Variable). variable.name) variables name))
    (sym same)

pub returns-in_err-memory_at-clause-passes : goal.returns-in_err-memory_at-clause-passes
returns-in_err-memory_at-clause-passes c =
    let same = c.items-variables.ensures ∙ ap (λ (type : AgentType). type.memory) c.agent-agent.ensures in
    Passes-passed _ _ c.from_residual.result c.from_residual.ensures.1
    (subst
    (λ variables. FailsFirst
    (optional (memory_faults variables) (codes "memory") (path_of c.args.place.now) (view c.args.value.now))
    c.in_err-memory_at.field-0.0)
    same c.in_err-memory_at.ensures)

pub returns-clause-passes : goal.returns-clause-passes
returns-clause-passes c =
    let same = c.items-variables.ensures ∙ ap (λ (type : AgentType). type.memory) c.agent-agent.ensures in
    ap
    (λ variables.
    optional (memory_faults variables) (codes "memory") (path_of c.args.place.now) (view c.args.value.now))
    (sym same)
    ∙ c.in_ok-memory_at.ensures

pub returns-clause-added : goal.returns-clause-added
returns-clause-added c =
    let same = c.items-variables.ensures ∙ ap (λ (type : AgentType). type.memory) c.agent-agent.ensures in
    c.in_ok-push.ensures.items
    ∙ ap (λ row. c.args.rows.now.items ++ row ∷ []) (c.in_ok-row.ensures ∙ ap₂ memory_of same c.part.ensures.value)
