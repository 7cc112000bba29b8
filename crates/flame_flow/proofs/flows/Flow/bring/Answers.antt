-- A share is settled, or the flow is short.
use Rattle.std.proofs.Common.{◌≡◌, ℕ, ◌<◌, List, [], true, false, sym, ap, ◌∙◌, subst}
use Rattle.std.specs.Prelude.{slice_index}
use Rattle.std.proofs.lemmas.Bool.{true≢false, ltb-true}
use Rattle.flame_spec.specs.declared.outcomes.Source.{Source}
use Rattle.flame_spec.specs.Before.{function_count}
use Rattle.flame_world.specs.Shares.{piece_of}
use Rattle.flame_core.specs.CoreCalls.{CanAbsorb}
use Rattle.flame_flow.specs.FlowCalls.{CanSettle, Settled, BecameShort}
use Rattle.flame_flow.specs.Goings.{GoesOn}
use Rattle.flame_flow.specs.KeptGoings.{going_of}
use Rattle.flame_flow.specs.KeptWays.{IsWaysOf}
use Rattle.flame_flow.specs.QuietCores.{AreLeft}
use Rattle.flame_flow.specs.SeenFlows.{SeenFlow, start_of}
use Rattle.flame_flow.proofs.FlowSteps.{legal_more, settled_all}
use Rattle.flame_flow.proofs.Left.{left_quiet}
use Rattle.flame_flow.proofs.Tellings.{grown_source, grown_start}
use Rattle.flame_flow.proofs.flows.Flow.bring.Goals as goal

pub settle-requires-clause-can : goal.settle-requires-clause-can
settle-requires-clause-can c = subst (λ (s : SeenFlow). CanAbsorb s.seen c.args.share) (sym c.self.view_is) c.requires.can

pub settle-requires-clause-ways : goal.settle-requires-clause-ways
settle-requires-clause-ways c = c.self.invariant.ways_are

pub settle-requires-clause-over : goal.settle-requires-clause-over
settle-requires-clause-over c = c.self.invariant.over (ap (λ (s : SeenFlow). s.short) c.self.view_is ∙ c.requires.long)

pub invariant_of-self : goal.invariant_of-self
invariant_of-self c =
    let f = c.self.inside in
    let long : f.short ≡ false = ap (λ (s : SeenFlow). s.short) c.self.view_is ∙ c.requires.long in
    let piece = piece_of c.args.share in
    let was : piece.number < slice_index f.begun.items piece.function =
    subst (λ (s : SeenFlow). piece.number < slice_index s.begun piece.function) (sym c.self.view_is)
    (ltb-true piece.number (slice_index c.args.self.now.begun piece.function) c.requires.begun) in
    let same = grown_source f.going.told c.settle.new.going.told c.in-Ok.ensures.grown in
    record {
      ways_are = subst (λ (s : Source). IsWaysOf s.model f.ways) (sym same) c.self.invariant.ways_are;
      long = c.self.invariant.long ∙ sym (ap (λ (s : Source). function_count s.model) same);
      over = λ e. c.in-Ok.ensures.over;
      goes = λ e. subst (λ (s : Source). GoesOn s.model f.begun.items [] [] (going_of c.settle.new.going)) (sym same)
          (c.in-Ok.ensures.goes f.begun.items was (c.self.invariant.goes long));
    }

pub invariant_of-self-in-Err : goal.invariant_of-self-in-Err
invariant_of-self-in-Err c =
    let f = c.self.inside in
    let same = grown_source f.going.told c.settle.new.going.told c.in-Err.ensures.grown in
    record {
      ways_are = subst (λ (s : Source). IsWaysOf s.model f.ways) (sym same) c.self.invariant.ways_are;
      long = c.self.invariant.long ∙ sym (ap (λ (s : Source). function_count s.model) same);
      over = λ e. absurd (true≢false e);
      goes = λ e. absurd (true≢false e);
    }

pub returns-in-Ok-clause-ok : goal.returns-in-Ok-clause-ok
returns-in-Ok-clause-ok c =
    let f = c.self.inside in
    let told = f.going.told in
    let last = c.settle.new.going.told in
    let long : f.short ≡ false = ap (λ (s : SeenFlow). s.short) c.self.view_is ∙ c.requires.long in
    let piece = piece_of c.args.share in
    let begun = subst (λ (s : SeenFlow). CanSettle s c.args.share) (sym c.self.view_is) c.requires in
    let was : piece.number < slice_index f.begun.items piece.function = ltb-true piece.number (slice_index f.begun.items piece.function) begun.begun in
    let settled = c.in-Ok.ensures.settled in
    let all = settled_all told last c.args.share settled in
    let same = grown_source told last c.in-Ok.ensures.grown in
    let goes = c.in-Ok.ensures.goes f.begun.items was (c.self.invariant.goes long) in
    let P : SeenFlow → Type 0 = λ s. Settled c.args.share s (record { seen = last.seen; history = last.history; begun = f.begun.items; short = f.short }) in
    subst P c.self.view_is
    (record {
      can = record { long = long; begun = begun.begun; can = settled.whole.can };
      further = settled.on.more;
      kinds = settled.on.kinds;
      legal = legal_more told last _ c.program-before.ensures.told c.program-after.ensures.told all;
      left = λ i. record { seen = (all i).seen; history = (all i).history; begun = f.begun.items; short = f.short };
      quiet = left_quiet last.seen.source.model last.seen.core
          (subst (λ (s : Source). AreLeft s.model [] [] [] last.seen.core) (sym same)
          (subst (λ (over : List ℕ). AreLeft told.seen.source.model over [] [] last.seen.core) c.in-Ok.ensures.over goes.left));
    })

pub returns-in-Err-clause-err : goal.returns-in-Err-clause-err
returns-in-Err-clause-err c =
    let f = c.self.inside in
    let told = f.going.told in
    let last = c.settle.new.going.told in
    let grown = c.in-Err.ensures.grown in
    let P : SeenFlow → Type 0 = λ s. BecameShort s (record { seen = last.seen; history = last.history; begun = f.begun.items; short = true }) in
    subst P c.self.view_is
    (record {
      more = grown.more;
      legal = legal_more told last grown.more c.program-before.ensures.told c.program-after-in-Err.ensures.told grown.left;
      left = λ i. record { seen = (grown.left i).seen; history = (grown.left i).history; begun = f.begun.items; short = true };
    })

pub returns-in-Ok-clause-start : goal.returns-in-Ok-clause-start
returns-in-Ok-clause-start c =
    grown_start c.self.inside.going.told c.settle.new.going.told c.in-Ok.ensures.grown ∙ ap (λ (s : SeenFlow). start_of s.seen) c.self.view_is

pub returns-in-Err-clause-start : goal.returns-in-Err-clause-start
returns-in-Err-clause-start c =
    grown_start c.self.inside.going.told c.settle.new.going.told c.in-Err.ensures.grown ∙ ap (λ (s : SeenFlow). start_of s.seen) c.self.view_is
