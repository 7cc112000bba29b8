use Rattle.std.proofs.Common.{◌≡◌, map, sym, ap, ◌∙◌, subst}
use Rattle.std.specs.Prelude.{Some, slice_set}
use Rattle.std.proofs.lemmas.List.{map-set}
use Rattle.flame_spec.specs.Below.{HasNoTwice}
use Rattle.flame_events.specs.CoreStates.{part_in}
use Rattle.flame_pieces.specs.KeptWorks.{work_of, outputs_in}
use Rattle.flame_progress.specs.KeptWorkEvents.{without}
use Rattle.flame_progress.proofs.Known.{outputs_kept}
use Rattle.flame_field.proofs.Written.{got_is, map-kept, on_err}
use Rattle.flame_progress.proofs.handing.hand_over_piece.Goals as goal

pub hand_over-requires-clause-once : goal.hand_over-requires-clause-once
hand_over-requires-clause-once c =
    subst (λ w. HasNoTwice (outputs_in w)) (sym c.index_mut.ensures.value)
    (c.requires.once c.args.piece c.index_mut.result.now c.requires.there)

pub returns-in_err-hand_over-clause-outputs : goal.returns-in_err-hand_over-clause-outputs
returns-in_err-hand_over-clause-outputs c = λ outputs all.
    outputs_kept c.args.works.now.items c.args.piece c.index_mut.result.now c.hand_over.new.work outputs
    c.requires.there c.index_mut.ensures.value c.in_err-hand_over.ensures.outputs all

pub returns-in_err-hand_over-clause-same_works : goal.returns-in_err-hand_over-clause-same_works
returns-in_err-hand_over-clause-same_works c =
    on_err _ (
    map-kept work_of c.args.works.now.items c.args.piece c.index_mut.result.now c.hand_over.new.work
    c.requires.there c.index_mut.ensures.value c.in_err-hand_over.ensures.same_work
    )

pub returns-clause-board : goal.returns-clause-board
returns-clause-board c = λ outputs work rows all there part.
    let works = c.args.works.now.items in
    let old = c.index_mut.result.now in
    let outs : outputs_in old ≡ outputs = ap outputs_in c.index_mut.ensures.value ∙ all c.args.piece old c.requires.there in
    let is : work_of old ≡ work = got_is work_of works c.args.piece old work c.index_mut.ensures.value there in
    let own : part_in (outputs_in old) (work_of old).parts c.args.message ≡ Some rows =
    (λ i. part_in (outs i) (is i).parts c.args.message) ∙ part in
    c.in_ok-hand_over.ensures.board rows own

pub returns-clause-works : goal.returns-clause-works
returns-clause-works c = λ outputs work all there.
    let works = c.args.works.now.items in
    let old = c.index_mut.result.now in
    let outs : outputs_in old ≡ outputs = ap outputs_in c.index_mut.ensures.value ∙ all c.args.piece old c.requires.there in
    let is : work_of old ≡ work = got_is work_of works c.args.piece old work c.index_mut.ensures.value there in
    map-set work_of works c.args.piece c.hand_over.new.work
    ∙ ap (slice_set (map work_of works) c.args.piece)
    (c.in_ok-hand_over.ensures.work ∙ (λ i. without (outs i) c.args.message (is i)))

pub returns-clause-outputs : goal.returns-clause-outputs
returns-clause-outputs c = λ outputs all.
    outputs_kept c.args.works.now.items c.args.piece c.index_mut.result.now c.hand_over.new.work outputs
    c.requires.there c.index_mut.ensures.value c.in_ok-hand_over.ensures.outputs all
