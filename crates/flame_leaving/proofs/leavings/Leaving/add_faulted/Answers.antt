-- One agent more has left, which faulted.
use Rattle.std.proofs.Common.{◌≡◌, ◌∙◌, sym, ap, append-nil, w32}
use Rattle.std.proofs.lemmas.Int.{to_z-of_z}
use Rattle.flame_spec.specs.declared.outcomes.Outcome.TheVariants.{Faulted}
use Rattle.flame_world.specs.AgentRuns.{fault_by}
use Rattle.flame_leaving.specs.declared.leavings.Leaving.{Leaving}
use Rattle.flame_leaving.specs.WholeLaws.{least_of}
use Rattle.flame_leaving.proofs.Additions.{left-next}
use Rattle.flame_leaving.proofs.leavings.Leaving.add_faulted.Goals as goal

pub returns : goal.returns
returns c = λ run agents is left.
    let old = c.args.self.now in
    let counted = c.count.ensures in
    let more = c.in_ok-fail.ensures in
    let same = ap (λ (l : Leaving). l.fault) counted in
    let fault : c.fail.new.self.fault
    ≡ least_of old.fault (fault_by c.args.iteration c.args.function c.args.memory.now (Faulted c.args.fault)) =
    cc (more.fault, same, to_z-of_z w32 c.args.iteration c.ranges.iteration) in
    left-next c.args.iteration c.args.function run agents c.args.memory.now (Faulted c.args.fault) old c.fail.new.self is
    left (more.ran ∙ ap (λ (l : Leaving). l.ran) counted)
    (more.survivors ∙ ap (λ (l : Leaving). l.survivors.items) counted ∙ sym (append-nil old.survivors.items))
    (more.sent ∙ ap (λ (l : Leaving). l.sent.items) counted) (more.born ∙ ap (λ (l : Leaving). l.born.items) counted)
    fault
