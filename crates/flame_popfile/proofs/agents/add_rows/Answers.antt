-- The width is that of the type.
use Rattle.std.proofs.Common.{◌++◌, ◌∙◌, ℕ, map, codes, sym, ap, subst}
use Rattle.serde_json.specs.View.{view}
use Rattle.flame_spec.specs.FirstFaults.{FailsFirst}
use Rattle.flame_spec.proofs.FaultLists.{Passes-passed}
use Rattle.flame_xmml.specs.ValueParts.{part}
use Rattle.flame_popfile.specs.PopulationFaults.{rows_faults}
use Rattle.flame_popfile.specs.PopulationParts.{optional, members_of, numbers_of}
use Rattle.flame_xmml.specs.ValuePlaces.{path_of}
use Rattle.flame_popfile.proofs.agents.add_rows.Goals as goal

pub returns-in_err-add_rows_at-clause-passes : goal.returns-in_err-add_rows_at-clause-passes
returns-in_err-add_rows_at-clause-passes c =
    Passes-passed _ _ c.from_residual.result c.from_residual.ensures.1
    (subst
    (λ (wide : ℕ). FailsFirst
    (optional (rows_faults wide) (codes "rows") (path_of c.args.place.now) (view c.args.value.now))
    c.in_err-add_rows_at.field-0.0)
    c.wide.ensures c.in_err-add_rows_at.ensures.passes)

pub returns-clause-passes : goal.returns-clause-passes
returns-clause-passes c =
    ap
    (λ (wide : ℕ). optional (rows_faults wide) (codes "rows") (path_of c.args.place.now) (view c.args.value.now))
    (sym c.wide.ensures)
    ∙ c.in_ok-add_rows_at.ensures.passes

pub returns-clause-added : goal.returns-clause-added
returns-clause-added c =
    c.in_ok-add_rows_at.ensures.added
    ∙ ap
    (λ (wide : ℕ). c.args.rows.now.items
    ++ map (numbers_of wide) (members_of (part (codes "rows") (view c.args.value.now))))
    c.wide.ensures
