-- What a member has wrong with its name comes before what its type finds wrong.
use Rattle.std.proofs.Common.{◌++◌, [], ◌∙◌, Some, sym, ap, arith}
use Rattle.serde_json.specs.View.{view}
use Rattle.flame_spec.proofs.FaultLists.{FailsFirst-append, FailsFirst-behind, Passes-same, Passes-passed}
use Rattle.flame_xmml.specs.ValuePlaces.{path_of}
use Rattle.flame_popfile.specs.PopulationFaults.{content_faults}
use Rattle.flame_popfile.proofs.Dealing.{type_within, parts_found, added_at}
use Rattle.flame_popfile.proofs.agents.add_named.Goals as goal

pub index_mut-requires : goal.index_mut-requires
index_mut-requires c =
    omega (
      arith,
      type_within c.args.kinds.now (view c.args.value.now) c.in_ok-kind.kind.now c.in_ok-kind.ensures.kind,
      c.requires,
      c.number.ensures,
    )

pub returns-in_err-kind-clause-passes : goal.returns-in_err-kind-clause-passes
returns-in_err-kind-clause-passes c =
    Passes-passed _ _ c.from_residual.result c.from_residual.ensures.1 (FailsFirst-append _ _ _ c.in_err-kind.ensures.first)

pub returns-in_err-add_content-clause-passes : goal.returns-in_err-add_content-clause-passes
returns-in_err-add_content-clause-passes c =
    Passes-same c.from_residual-in_err-add_content.result
    (parts_found c.args.format c.args.kinds.now c.args.earlier.now (path_of c.args.place.now) (view c.args.value.now)
    c.in_ok-kind.kind.now c.in_ok-kind.ensures.kind)
    (Passes-passed _ _ c.from_residual-in_err-add_content.result c.from_residual-in_err-add_content.ensures.1
    (FailsFirst-behind _ _ _ c.in_ok-kind.ensures.none c.in_err-add_content.ensures.passes))

pub returns-clause-passes : goal.returns-clause-passes
returns-clause-passes c =
    parts_found c.args.format c.args.kinds.now c.args.earlier.now (path_of c.args.place.now) (view c.args.value.now)
    c.in_ok-kind.kind.now c.in_ok-kind.ensures.kind
    ∙ ap (λ faults. faults
    ++ content_faults c.args.format c.in_ok-kind.kind.now.1 (path_of c.args.place.now) (view c.args.value.now))
    c.in_ok-kind.ensures.none
    ∙ c.in_ok-add_content.ensures.passes

pub returns-clause-agents : goal.returns-clause-agents
returns-clause-agents c =
    added_at c.args.format c.args.kinds.now (view c.args.value.now) c.args.dealt.now.items c.number.result
    c.in_ok-kind.kind.now.1 c.index_mut.result.now _ c.requires
    (c.in_ok-kind.ensures.kind ∙ ap (λ number. Some (number, c.in_ok-kind.kind.now.1)) (sym c.number.ensures))
    c.index_mut.ensures.value c.in_ok-add_content.ensures.added
