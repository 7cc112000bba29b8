-- One agent more has left, which ended.
use Rattle.std.proofs.Common.{[], ◌∷◌, ◌++◌, sym, ap, ◌∙◌, append-nil}
use Rattle.std.specs.List.{cons_option}
use Rattle.flame_spec.specs.declared.outcomes.Outcome.TheVariants.{Ended}
use Rattle.flame_leaving.specs.declared.leavings.Leaving.{Leaving}
use Rattle.flame_leaving.proofs.Additions.{left-next}
use Rattle.flame_leaving.proofs.LeastFaults.{least_of-none}
use Rattle.flame_leaving.proofs.leavings.Leaving.add_ended.Goals as goal

pub returns-in_ok-push-in-Some : goal.returns-in_ok-push-in-Some
returns-in_ok-push-in-Some c = λ iteration function run agents own effect is memory left.
    let old = c.args.self.now in
    let counted = c.count.ensures in
    left-next iteration function run agents own (Ended effect) old _ is left (ap (λ (l : Leaving). l.ran) counted)
    (c.in_ok-push-in-Some.ensures.items
    ∙ ap (λ (l : Leaving). l.survivors.items ++ c.in-Some.memory ∷ []) counted
    ∙ ap (λ kept. old.survivors.items ++ cons_option kept []) (sym c.in-Some.is ∙ sym memory))
    (ap (λ (l : Leaving). l.sent.items) counted) (ap (λ (l : Leaving). l.born.items) counted)
    (ap (λ (l : Leaving). l.fault) counted ∙ sym (least_of-none old.fault))

pub returns-in-None : goal.returns-in-None
returns-in-None c = λ iteration function run agents own effect is memory left.
    let old = c.args.self.now in
    let counted = c.count.ensures in
    left-next iteration function run agents own (Ended effect) old _ is left (ap (λ (l : Leaving). l.ran) counted)
    (ap (λ (l : Leaving). l.survivors.items) counted
    ∙ sym (append-nil old.survivors.items)
    ∙ ap (λ kept. old.survivors.items ++ cons_option kept []) (sym c.in-None.is ∙ sym memory))
    (ap (λ (l : Leaving). l.sent.items) counted) (ap (λ (l : Leaving). l.born.items) counted)
    (ap (λ (l : Leaving). l.fault) counted ∙ sym (least_of-none old.fault))
