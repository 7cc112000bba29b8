-- A board is complete, and what waited for it is told.
use Rattle.std.proofs.Common.{◌≡◌, ◌<◌, List, true, length, refl, sym, subst, arith, length-set}
use Rattle.std.specs.Prelude.{ℕ, slice_set, slice_index_or}
use Rattle.std.proofs.lemmas.List.{length-map}
use Rattle.flame_events.specs.CoreStates.{Core}
use Rattle.flame_events.specs.LegalEvents.{outputs_of}
use Rattle.flame_pieces.specs.declared.statuses.Status.{Status}
use Rattle.flame_pieces.specs.declared.statuses.Status.TheVariants.{Waiting}
use Rattle.flame_pieces.specs.KeptStatuses.{HasOutputs}
use Rattle.flame_progress.specs.declared.counts.Counts.{Counts}
use Rattle.flame_progress.specs.declared.progress.Progress.{Progress}
use Rattle.flame_field.specs.KeptBoards.{is_board_frozen}
use Rattle.flame_progress.specs.KeptCores.{core_of, HasOutputsAt}
use Rattle.flame_progress.specs.KeptCounts.{Counted}
use Rattle.flame_progress.proofs.Tallied.{came, counted_frozen, mark_set}
use Rattle.flame_progress.proofs.events.freeze.Goals as goal

same_outputs : (old new : Progress) → new.statuses.items ≡ old.statuses.items
    → (f : ℕ) (outputs : List ℕ) → HasOutputsAt old f outputs → HasOutputsAt new f outputs
same_outputs old new same f outputs has =
    let P : List Status → Type 0 = λ l. HasOutputs outputs (slice_index_or l f Waiting) in subst P (sym same) has

pub returns-clause-came : goal.returns-clause-came
returns-clause-came c = λ round pieces tallies legal.
    let model = round.source.model in
    let core = core_of c.args.progress.now in
    let m = c.args.message in
    let less : m < length core.frozen = omega (arith, c.requires.known, length-map c.args.progress.now.field.boards.items is_board_frozen) in
    let next : Core = record core { frozen = slice_set core.frozen m true } in
    let P : Counts → Type 0 = λ counts. Counted model next counts in
    came model c.args.progress.now c.freeze.new.self c.args.counts.now c.freeze-2.new.self next c.freeze.ensures.core
    refl (length-set core.frozen m true)
    (λ g has. same_outputs c.args.progress.now c.freeze.new.self c.freeze.ensures.statuses g (outputs_of model g) has) tallies
    (subst P (sym c.freeze-2.ensures)
    (counted_frozen model core next c.args.counts.now m (omega (arith, c.requires.known, tallies.messages))
    (mark_set core.frozen m less) refl tallies.counted))
