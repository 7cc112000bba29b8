-- The faults of a part come before those of the parts behind it.
use Rattle.std.proofs.Common.{[], ◌∙◌, sym, ap, ap₂, subst, w32, SFits, rules}
use Rattle.std.proofs.lemmas.Int.{to_z-of_z}
use Rattle.serde_json.specs.View.{view}
use Rattle.flame_rows.proofs.Lists.{append-nils}
use Rattle.flame_spec.specs.FirstFaults.{FailsFirst}
use Rattle.flame_spec.proofs.FaultLists.{FailsFirst-append, FailsFirst-behind, Reads-passed}
use Rattle.flame_popfile.specs.declared.formats.Format.{Format}
use Rattle.flame_popfile.specs.PopulationFaults.{world_faults}
use Rattle.flame_popfile.specs.PopulationStarts.{world_of}
use Rattle.flame_xmml.specs.ValuePlaces.{path_of}
use Rattle.flame_popfile.proofs.StartParts.{start_from}
use Rattle.flame_popfile.proofs.states.start_in.Goals as goal

pub within_limit-requires : goal.within_limit-requires
within_limit-requires c =
    let fits : SFits w32 c.in_ok-itno.itno = search rules in
    to_z-of_z w32 c.in_ok-itno.itno fits ∙ c.in_ok-itno.ensures.1

pub returns-in_err-format : goal.returns-in_err-format
returns-in_err-format c =
    Reads-passed _ _ _ c.from_residual.result c.from_residual.ensures.1 (FailsFirst-append _ _ _ c.in_err-format.ensures)

pub returns-in_err-itno : goal.returns-in_err-itno
returns-in_err-itno c =
    Reads-passed _ _ _ c.from_residual-in_err-itno.result c.from_residual-in_err-itno.ensures.1
    (FailsFirst-behind _ _ _ c.in_ok-format.ensures.0 (FailsFirst-append _ _ _ c.in_err-itno.ensures))

pub returns-in_err-world : goal.returns-in_err-world
returns-in_err-world c =
    let same = c.in_ok-format.ensures.1 in
    let here =
    subst
    (λ (format : Format). FailsFirst (world_faults format c.args.model.now (path_of c.args.place.now) (view c.args.states.now))
    c.in_err-world.field-0.0)
    same c.in_err-world.ensures in
    Reads-passed _ _ _ c.from_residual-in_err-world.result c.from_residual-in_err-world.ensures.1
    (FailsFirst-behind _ _ _ c.in_ok-format.ensures.0 (FailsFirst-behind _ _ _ c.in_ok-itno.ensures.0 (FailsFirst-append _ _ _ here)))

pub returns-in_err-within_limit : goal.returns-in_err-within_limit
returns-in_err-within_limit c =
    let none =
    ap (λ (format : Format). world_faults format c.args.model.now (path_of c.args.place.now) (view c.args.states.now))
    (sym c.in_ok-format.ensures.1)
    ∙ c.in_ok-world.ensures.0 in
    Reads-passed _ _ _ c.from_residual-in_err-within_limit.result c.from_residual-in_err-within_limit.ensures.1
    (FailsFirst-behind _ _ _ c.in_ok-format.ensures.0 (FailsFirst-behind _ _ _ c.in_ok-itno.ensures.0 (FailsFirst-behind _ _ _ none c.in_err-within_limit.ensures)))

pub returns : goal.returns
returns c =
    let fits : SFits w32 c.in_ok-itno.itno = search rules in
    let none =
    ap (λ (format : Format). world_faults format c.args.model.now (path_of c.args.place.now) (view c.args.states.now))
    (sym c.in_ok-format.ensures.1)
    ∙ c.in_ok-world.ensures.0 in
    let world =
    c.in_ok-world.ensures.1
    ∙ ap (λ (format : Format). world_of format c.args.model.now (view c.args.states.now)) c.in_ok-format.ensures.1 in (
      append-nils _ _ c.in_ok-format.ensures.0
          (append-nils _ _ c.in_ok-itno.ensures.0 (append-nils _ _ none c.in_ok-within_limit.ensures)),
      ap₂ start_from (to_z-of_z w32 c.in_ok-itno.itno fits ∙ c.in_ok-itno.ensures.1) world,
    )
