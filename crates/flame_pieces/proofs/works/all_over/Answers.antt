-- Whether all pieces are over, one after another.
use Rattle.std.proofs.Common.{◌≡◌, ℕ, ◌+◌, List, true, false, take, length, get_or, ◌<◌, sym, ap, ◌∙◌, subst, arith}
use Rattle.std.specs.List.{All, list_all}
use Rattle.std.proofs.lemmas.Bool.{and_from}
use Rattle.std.proofs.lemmas.Grind.{common_steps}
use Rattle.std.proofs.lemmas.List.Folds.{list_all_at, list_all_more, list_all-map}
use Rattle.flame_spec.specs.Below.{HasNoTwice}
use Rattle.flame_events.specs.LegalEvents.{is_over}
use Rattle.flame_pieces.specs.declared.works.Work.{Work}
use Rattle.flame_pieces.specs.KeptWorks.{work_of, outputs_in}
use Rattle.flame_pieces.proofs.works.all_over.Goals as goal

-- what is known of the piece at hand
at_hand : (outputs : List ℕ) (works : List Work) (k : ℕ) (work : Work) → HasNoTwice outputs → All (λ w. outputs_in w ≡ outputs) works
    → k < length works → work ≡ get_or works k work
    → (HasNoTwice (outputs_in work) × (is_over outputs (work_of (get_or works k work)) ≡ is_over (outputs_in work) (work_of work)))
at_hand outputs works k work once all within is =
    let same : outputs_in work ≡ outputs = ap outputs_in is ∙ all k work within in (
      subst HasNoTwice (sym same) once,
      ap (λ w. is_over outputs (work_of w)) (sym is) ∙ ap (λ o. is_over o (work_of work)) (sym same),
    )

pub returns-then-not-is_over : goal.returns-then-not-is_over
returns-then-not-is_over c = λ outputs once all.
    let works = c.args.works.now in
    let k = c.loop-work.work-index in
    let known = at_hand outputs works k c.work-item.result once all c.loop-work-test.true c.work-item.is in
    let over : c.is_over.result ≡ false = grind (arith, common_steps) in
    sym (list_all-map (is_over outputs) work_of works
    ∙ list_all_at (λ w. is_over outputs (work_of w)) works k c.work-item.result c.loop-work-test.true
    (known.1 ∙ sym (c.is_over.ensures known.0) ∙ over))

pub loop-work-preserved : goal.loop-work-preserved
loop-work-preserved c = λ outputs once all.
    let works = c.args.works.now in
    let k = c.loop-work.work-index in
    let known = at_hand outputs works k c.work-item.result once all c.loop-work-test.true c.work-item.is in
    let over : c.is_over.result ≡ true = grind (arith, common_steps) in
    let so_far = sym (list_all-map (is_over outputs) work_of (take k works)) ∙ c.loop-work.invariant outputs once all in
    list_all-map (is_over outputs) work_of (take (k + 1) works)
    ∙ list_all_more (λ w. is_over outputs (work_of w)) works k c.work-item.result c.loop-work-test.true
    ∙ and_from (list_all (λ w. is_over outputs (work_of w)) (take k works)) (is_over outputs (work_of (get_or works k c.work-item.result)))
    so_far (known.1 ∙ sym (c.is_over.ensures known.0) ∙ over)
