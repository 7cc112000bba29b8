-- The first that is faulted gives its fault.
use Rattle.std.proofs.Common.{◌≡◌, ◌∙◌, ◌+◌, ◌<◌, true, false, ap, drop, length, sym, arith}
use Rattle.std.specs.Prelude.{slice_index_or}
use Rattle.std.proofs.lemmas.List.{drop_all, length-map, drop_more}
use Rattle.flame_events.specs.CoreEnds.{first_fault, is_faulted}
use Rattle.flame_events.specs.CoreStates.{Core, fault_of, status_of}
use Rattle.flame_events.proofs.Ends.{first_fault-cons}
use Rattle.flame_pieces.specs.KeptStatuses.{status_of as kept_status}
use Rattle.flame_progress.specs.declared.progress.Progress.{Progress}
use Rattle.flame_progress.specs.KeptCores.{core_of}
use Rattle.flame_progress.proofs.Cores.{status_at}
use Rattle.flame_core.proofs.Faulting.{faulted_within, or_here, or_later}
use Rattle.flame_core.proofs.ending.taken_first.Goals as goal

pub index_mut-requires : goal.index_mut-requires
index_mut-requires c =
    let progress = c.loop-function.progress in
    let core = core_of progress in
    let function = slice_index_or c.args.functions.now c.loop-function.function-index 0 in
    let within = faulted_within core.statuses function (sym c.if-is_faulted.ensures) in
    omega (arith, within, length-map progress.statuses.items kept_status, progress.statuses.ok.0)

pub returns-then-is_faulted-clause-fault : goal.returns-then-is_faulted-clause-fault
returns-then-is_faulted-clause-fault c =
    let progress = c.loop-function.progress in
    let core = core_of c.args.progress.now in
    let functions = c.args.functions.now in
    let place = c.loop-function.function-index in
    let function = slice_index_or functions place 0 in
    let old = c.loop-function.invariant in
    let same : core_of progress ≡ core = ap core_of old.same in
    let faulted : is_faulted core function ≡ true = ap (λ (k : Core). is_faulted k function) (sym same) ∙ sym c.if-is_faulted.ensures in
    let within = faulted_within (core_of progress).statuses function (sym c.if-is_faulted.ensures) in
    let less : function < length progress.statuses.items = omega (arith, within, length-map progress.statuses.items kept_status) in
    c.taken_fault.ensures
    ∙ ap fault_of (status_at progress.statuses.items function c.index_mut.result.now less c.index_mut.ensures.value)
    ∙ ap (λ (k : Core). fault_of (status_of k function)) same
    ∙ sym (or_here (fault_of (status_of core function)) (first_fault core (drop (place + 1) functions)) faulted)
    ∙ sym (first_fault-cons core function (drop (place + 1) functions))
    ∙ sym (ap (first_fault core) (drop_more functions place 0 c.loop-function-test.true))
    ∙ old.rest

pub loop-function-preserved : goal.loop-function-preserved
loop-function-preserved c =
    let core = core_of c.args.progress.now in
    let functions = c.args.functions.now in
    let place = c.loop-function.function-index in
    let function = slice_index_or functions place 0 in
    let old = c.loop-function.invariant in
    let sound : is_faulted core function ≡ false =
    ap (λ (p : Progress). is_faulted (core_of p) function) (sym old.same) ∙ sym c.if-is_faulted.ensures in
    record {
      same = old.same;
      rest =
          sym (ap (first_fault core) (drop_more functions place 0 c.loop-function-test.true)
          ∙ first_fault-cons core function (drop (place + 1) functions)
          ∙ or_later (fault_of (status_of core function)) (first_fault core (drop (place + 1) functions)) sound)
          ∙ old.rest;
    }

pub returns-clause-fault : goal.returns-clause-fault
returns-clause-fault c =
    let core = core_of c.args.progress.now in
    let functions = c.args.functions.now in
    sym (ap (first_fault core) (drop_all c.loop-function.function-index functions (omega arith))) ∙ c.loop-function.invariant.rest
