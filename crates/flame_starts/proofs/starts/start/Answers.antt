-- What was read holds the start, since the names of an accepted model have no fault.
use Rattle.std.proofs.Common.{subst, rules, w32, SFits, sym, ◌∙◌}
use Rattle.std.specs.Prelude.{ℤ}
use Rattle.std.proofs.lemmas.Int.{to_z-of_z}
use Rattle.flame_spec.specs.declared.outcomes.Source.{Source}
use Rattle.flame_tokens.specs.PopulationTrees.{IsPopulation}
use Rattle.flame_starts.specs.HeldStarts.{HoldsStart}
use Rattle.flame_starts.proofs.HeldPopulations.{LeavesSome, start_with, population_held}
use Rattle.flame_starts.proofs.starts.start.Goals as goal

pub returns : goal.returns
returns c =
    let model = c.args.program.now.model in
    let turns = c.args.turns in
    let bytes = c.args.bytes.now in
    let found = c.in_ok-itno.field-0 in
    let fits : SFits w32 found.itno = search rules in
    let same = to_z-of_z w32 found.itno fits in
    let read =
    subst (λ (source : Source). IsPopulation source.model found.itno found.constants found.agents bytes)
    c.source.ensures.same c.in_ok-itno.ensures in
    let leaves = subst (LeavesSome turns) same (sym c.leaves_some.ensures ∙ c.if-not-leaves_some.false) in
    subst (λ (z : ℤ). HoldsStart model turns bytes (start_with z found.constants found.agents)) (sym same)
    (population_held model turns bytes found.itno found.constants found.agents c.source.ensures.accepted.named read
    leaves)
