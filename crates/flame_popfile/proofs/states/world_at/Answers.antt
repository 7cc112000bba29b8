-- The faults of the environment come before those of the agents.
use Rattle.std.proofs.Common.{◌∙◌, ℕ, List, codes, sym, ap, ap₂, subst}
use Rattle.serde_json.specs.View.{view}
use Rattle.flame_rows.proofs.Lists.{append-nils}
use Rattle.flame_spec.specs.declared.models.AgentType.{AgentType}
use Rattle.flame_spec.specs.FirstFaults.{FailsFirst}
use Rattle.flame_spec.proofs.FaultLists.{FailsFirst-append, FailsFirst-behind, Reads-passed}
use Rattle.flame_xmml.specs.ValueParts.{part}
use Rattle.flame_popfile.specs.PopulationAgents.{constants_of, agents_of}
use Rattle.flame_popfile.specs.PopulationFaults.{environment_faults, agents_faults}
use Rattle.flame_popfile.specs.PopulationParts.{optional, list_faults, members_of}
use Rattle.flame_xmml.specs.ValuePlaces.{path_of}
use Rattle.flame_popfile.proofs.StartParts.{world_from}
use Rattle.flame_popfile.proofs.states.world_at.Goals as goal

pub returns-in_err-constants : goal.returns-in_err-constants
returns-in_err-constants c =
    Reads-passed _ _ _ c.from_residual.result c.from_residual.ensures.1
    (FailsFirst-append _ _ _ (subst
    (λ (names : List (List ℕ)). FailsFirst
    (optional (environment_faults c.args.format names) (codes "environment") (path_of c.args.place.now)
    (view c.args.states.now))
    c.in_err-constants.field-0.0)
    c.items-names.ensures c.in_err-constants.ensures))

pub returns-in_err-agents : goal.returns-in_err-agents
returns-in_err-agents c =
    let none =
    ap (λ (names : List (List ℕ)). optional (environment_faults c.args.format names) (codes "environment") (path_of c.args.place.now)
    (view c.args.states.now))
    (sym c.items-names.ensures)
    ∙ c.in_ok-constants.ensures.0 in
    Reads-passed _ _ _ c.from_residual-in_err-agents.result c.from_residual-in_err-agents.ensures.1
    (FailsFirst-behind _ _ _ none (subst
    (λ (types : List AgentType). FailsFirst
    (optional (list_faults (agents_faults c.args.format types)) (codes "agents") (path_of c.args.place.now)
    (view c.args.states.now))
    c.in_err-agents.field-0.0)
    (c.in_ok-kinds.ensures ∙ c.items-types.ensures) c.in_err-agents.ensures))

pub returns : goal.returns
returns c =
    let states = view c.args.states.now in
    let names = c.items-names.ensures in
    let types = c.in_ok-kinds.ensures ∙ c.items-types.ensures in (
      append-nils _ _
          (ap (λ (names : List (List ℕ)). optional (environment_faults c.args.format names) (codes "environment") (path_of c.args.place.now)
          states)
          (sym names)
          ∙ c.in_ok-constants.ensures.0)
          (ap (λ (types : List AgentType). optional (list_faults (agents_faults c.args.format types)) (codes "agents") (path_of c.args.place.now)
          states)
          (sym types)
          ∙ c.in_ok-agents.ensures.0),
      ap₂ world_from
          (c.in_ok-constants.ensures.1
          ∙ ap (λ (names : List (List ℕ)). constants_of c.args.format names (part (codes "environment") states)) names)
          (c.in_ok-agents.ensures.1
          ∙ ap (λ (types : List AgentType). agents_of c.args.format types (members_of (part (codes "agents") states))) types),
    )
