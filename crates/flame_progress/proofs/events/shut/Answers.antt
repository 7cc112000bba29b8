-- A function is done, and what waited for it is told where it is shut.
use Rattle.std.proofs.Common.{◌≡◌, ◌<◌, true, false, length, refl, sym, ap, ◌∙◌, subst, arith, length-set, get_or-set_same}
use Rattle.std.specs.Prelude.{slice_set}
use Rattle.std.proofs.lemmas.List.{length-map}
use Rattle.flame_events.specs.CoreStates.{Status, Waiting, Core, is_shut, fault_in, status_of, works_of}
use Rattle.flame_events.specs.EventSteps.{done_with}
use Rattle.flame_events.specs.LegalEvents.{outputs_of}
use Rattle.flame_pieces.specs.KeptStatuses.{status_of as kept_status}
use Rattle.flame_progress.specs.declared.counts.Counts.{Counts}
use Rattle.flame_progress.specs.KeptCores.{core_of}
use Rattle.flame_progress.specs.KeptCounts.{Counted}
use Rattle.flame_progress.proofs.Known.{may_shut_is}
use Rattle.flame_progress.proofs.Tallied.{came, counted_kept, counted_shut, status_kept, status_shut}
use Rattle.flame_progress.proofs.events.shut.Goals as goal

pub returns-else-is_shut-clause-came : goal.returns-else-is_shut-clause-came
returns-else-is_shut-clause-came c = λ round pieces tallies legal.
    let model = round.source.model in
    let core = core_of c.args.progress.now in
    let f = c.args.function in
    let v : Status = done_with (fault_in (works_of (status_of core f))) in
    let less : f < length core.statuses = omega (arith, c.requires.known, length-map c.args.progress.now.statuses.items kept_status) in
    let next : Core = record core { statuses = slice_set core.statuses f v } in
    let now : is_shut v ≡ false =
    ap is_shut (sym (get_or-set_same core.statuses f v Waiting less))
    ∙ ap (λ (k : Core). is_shut (status_of k f)) (sym c.shut.ensures.core) ∙ sym c.if-is_shut.ensures in
    let was : is_shut (status_of core f) ≡ false = ap is_shut (may_shut_is (outputs_of model f) (status_of core f) legal) in
    came model c.args.progress.now c.shut.new.self c.args.counts.now c.args.counts.now next c.shut.ensures.core
    (length-set core.statuses f v) refl (λ g has. c.shut.ensures.outputs g (outputs_of model g) has) tallies
    (counted_kept model core next c.args.counts.now (status_kept is_shut core.statuses f v less (now ∙ sym was)) refl tallies.counted)

pub returns-then-is_shut-clause-came : goal.returns-then-is_shut-clause-came
returns-then-is_shut-clause-came c = λ round pieces tallies legal.
    let model = round.source.model in
    let core = core_of c.args.progress.now in
    let f = c.args.function in
    let v : Status = done_with (fault_in (works_of (status_of core f))) in
    let less : f < length core.statuses = omega (arith, c.requires.known, length-map c.args.progress.now.statuses.items kept_status) in
    let next : Core = record core { statuses = slice_set core.statuses f v } in
    let now : is_shut v ≡ true =
    ap is_shut (sym (get_or-set_same core.statuses f v Waiting less))
    ∙ ap (λ (k : Core). is_shut (status_of k f)) (sym c.shut.ensures.core) ∙ sym c.if-is_shut.ensures in
    let P : Counts → Type 0 = λ counts. Counted model next counts in
    came model c.args.progress.now c.shut.new.self c.args.counts.now c.shut-then-is_shut.new.self next c.shut.ensures.core
    (length-set core.statuses f v) refl (λ g has. c.shut.ensures.outputs g (outputs_of model g) has) tallies
    (subst P (sym c.shut-then-is_shut.ensures)
    (counted_shut model core next c.args.counts.now f (omega (arith, c.requires.known, tallies.functions))
    (status_shut core.statuses f v less now) refl tallies.counted))
