-- The boards of a function that has a piece are shared, and nothing changes.
use Rattle.std.proofs.Common.{◌≡◌, ◌≤◌, Some, IfOk, length, map, sym, subst}
use Rattle.std.specs.Prelude.{slice_get}
use Rattle.std.proofs.lemmas.Result.{IfOk-weaker}
use Rattle.flame_spec.specs.Functions.{Place, functions}
use Rattle.flame_index.specs.FrozenBoards.{shared_messages}
use Rattle.flame_agent.specs.FunctionFits.{AreBoardsFor}
use Rattle.flame_events.specs.CoreStates.{status_of, works_of}
use Rattle.flame_field.specs.KeptPools.{AreDealt}
use Rattle.flame_progress.specs.KeptCores.{core_of}
use Rattle.flame_round.specs.Choices.{choice_at}
use Rattle.flame_core.specs.SeenCores.{Seen}
use Rattle.flame_core.proofs.Inside.{seen_of}
use Rattle.flame_core.proofs.Comings.{reached_fits, stands_still}
use Rattle.flame_core.proofs.InOrders.{reached_in_order}
use Rattle.flame_core.proofs.TakenIn.{fed_of, has_begun}
use Rattle.flame_core.proofs.cores.Core.boards.Goals as goal

pub input_boards-requires-clause-fed : goal.input_boards-requires-clause-fed
input_boards-requires-clause-fed c =
    let inside = c.self.inside in
    let seen = seen_of inside.program.now inside.world inside.iteration inside.fuel inside.pieces inside.progress in
    let reached = c.self.invariant.reached in
    fed_of inside.program.now.model inside.pieces inside.progress (reached_fits seen reached)
    (reached_in_order seen reached) c.args.function

pub input_boards-requires-clause-began : goal.input_boards-requires-clause-began
input_boards-requires-clause-began c =
    let works = λ (s : Seen). works_of (status_of s.core c.args.function) in
    has_begun (core_of c.self.inside.progress) c.args.function
    (subst (λ (s : Seen). 1 ≤ length (works s)) (sym c.self.view_is) c.requires)

pub returns-clause-wide : goal.returns-clause-wide
returns-clause-wide c =
    let inside = c.self.inside in
    let seen = seen_of inside.program.now inside.world inside.iteration inside.fuel inside.pieces inside.progress in
    let fits = (reached_fits seen c.self.invariant.reached).field.boards in
    let P : Seen → Type 0 = λ s. IfOk c.input_boards.result (λ boards. (place : Place)
    → slice_get (functions s.source.model) c.args.function ≡ Some place
    → AreBoardsFor s.source.model place.function.inputs (map shared_messages boards)) in
    subst P c.self.view_is
    (IfOk-weaker c.input_boards.result _ _ (λ boards wide place at. wide place at fits) c.input_boards.ensures.wide)

pub invariant_of-self : goal.invariant_of-self
invariant_of-self c =
    let inside = c.self.inside in
    let seen = seen_of inside.program.now inside.world inside.iteration inside.fuel inside.pieces inside.progress in
    stands_still seen inside.progress c.input_boards.new.progress inside.counts inside.counts inside.ranks c.self.invariant
    (c.input_boards.ensures.kept inside.counts c.self.invariant.tallies)
    (subst (AreDealt (choice_at inside.program.now.model inside.iteration)) (sym c.input_boards.ensures.pools) c.self.invariant.dealt)
