-- An event comes, or nothing changes.
use Rattle.std.proofs.Common.{[], ◌∷◌, refl, sym, ap, ◌∙◌, subst, arith, w32, rules, SFits}
use Rattle.std.specs.Prelude.{ℤ, ◌^◌}
use Rattle.std.proofs.lemmas.Bool.{ltb-true}
use Rattle.std.proofs.lemmas.Int.{to_z-of_z}
use Rattle.flame_spec.specs.Before.{before, function_count}
use Rattle.flame_field.specs.KeptPools.{AreDealt}
use Rattle.flame_events.specs.EventSteps.{after}
use Rattle.flame_progress.specs.KeptCores.{core_of}
use Rattle.flame_round.specs.Choices.{choice_at}
use Rattle.flame_core.specs.CoreCalls.{allows, Refused}
use Rattle.flame_core.specs.SeenCores.{Seen, round_in, when_came}
use Rattle.flame_progress.specs.Tallying.{Came}
use Rattle.flame_core.proofs.Inside.{seen_of, ready_in}
use Rattle.flame_core.proofs.Comings.{one_leads, seen_so, seen_when, stands_on, stands_still}
use Rattle.flame_core.proofs.Done.{no_memory_is}
use Rattle.flame_core.proofs.LeastRanks.{order_few}
use Rattle.flame_core.proofs.ShutRanks.{ranks_last}
use Rattle.flame_core.proofs.cores.Core.step.Goals as goal

pub returns-then-not-allows : goal.returns-then-not-allows
returns-then-not-allows c = record { ok = tt; err = (sym c.if-not-allows.ensures, refl) }

pub happen-requires-clause-ready : goal.happen-requires-clause-ready
happen-requires-clause-ready c =
    let inside = c.self.inside in
    let fits : SFits w32 inside.iteration = search rules in
    ready_in _ inside.world inside.iteration inside.fuel inside.pieces inside.progress inside.counts inside.ranks c.self.invariant refl
    (to_z-of_z w32 inside.iteration fits)

pub happen-requires-clause-legal : goal.happen-requires-clause-legal
happen-requires-clause-legal c = ap (λ (s : Seen). allows s c.args.event) c.self.view_is ∙ sym c.if-not-allows.ensures

pub invariant_of-self : goal.invariant_of-self
invariant_of-self c =
    let inside = c.self.inside in
    let model = inside.program.now.model in
    let seen = seen_of inside.program.now inside.world inside.iteration inside.fuel inside.pieces inside.progress in
    let kept : Came model (core_of inside.progress) c.happen.new.progress c.happen.new.counts = c.in_err-happen.ensures.err in
    let fits : SFits w32 inside.iteration = search rules in
    stands_still seen inside.progress c.happen.new.progress inside.counts c.happen.new.counts inside.ranks c.self.invariant kept
    (subst (λ j. AreDealt (choice_at model j) c.happen.new.progress.field.pools) (to_z-of_z w32 inside.iteration fits) c.in_err-happen.ensures.dealt)

pub follow-requires-clause-few : goal.follow-requires-clause-few
follow-requires-clause-few c =
    let model = c.self.inside.program.now.model in
    omega (arith, order_few (function_count model) (before model), ltb-true (function_count model) (2 ^ 32) c.self.invariant.numbered)

pub follow-requires-clause-shut : goal.follow-requires-clause-shut
follow-requires-clause-shut c =
    let inside = c.self.inside in
    let seen = seen_of inside.program.now inside.world inside.iteration inside.fuel inside.pieces inside.progress in
    let legal = ap (λ (s : Seen). allows s c.args.event) c.self.view_is ∙ sym c.if-not-allows.ensures in
    let next = after (round_in seen) inside.pieces (core_of inside.progress) c.args.event in
    let fits : SFits w32 inside.iteration = search rules in
    let P : ℤ → Type 0 = λ j. Came inside.program.now.model
    (after (record (round_in seen) { iteration = j }) inside.pieces (core_of inside.progress) c.args.event)
    c.happen.new.progress c.happen.new.counts in
    let made : Came inside.program.now.model next c.happen.new.progress c.happen.new.counts =
    subst P (to_z-of_z w32 inside.iteration fits) c.in_ok-happen.ensures.ok in
    omega (
      arith,
      c.self.invariant.ranked.shut_is,
      ranks_last (round_in seen) inside.pieces (core_of inside.progress) (core_of c.happen.new.progress) c.args.event legal made.core,
    )

pub invariant_of-self-2 : goal.invariant_of-self-2
invariant_of-self-2 c =
    let inside = c.self.inside in
    let model = inside.program.now.model in
    let seen = seen_of inside.program.now inside.world inside.iteration inside.fuel inside.pieces inside.progress in
    let legal = ap (λ (s : Seen). allows s c.args.event) c.self.view_is ∙ sym c.if-not-allows.ensures in
    let next = after (round_in seen) inside.pieces (core_of inside.progress) c.args.event in
    let fits : SFits w32 inside.iteration = search rules in
    let P : ℤ → Type 0 = λ j. Came inside.program.now.model
    (after (record (round_in seen) { iteration = j }) inside.pieces (core_of inside.progress) c.args.event)
    c.happen.new.progress c.happen.new.counts in
    let made : Came inside.program.now.model next c.happen.new.progress c.happen.new.counts =
    subst P (to_z-of_z w32 inside.iteration fits) c.in_ok-happen.ensures.ok in
    stands_on seen inside.progress c.happen.new.progress inside.counts c.happen.new.counts inside.ranks c.follow.new.self (c.args.event ∷ []) next
    c.self.invariant
    (one_leads (round_in seen) inside.pieces (core_of inside.progress) c.args.event legal) made
    (subst (λ j. AreDealt (choice_at model j) c.happen.new.progress.field.pools) (to_z-of_z w32 inside.iteration fits) c.in_ok-happen.ensures.dealt)
    (record {
      shut_is = c.follow.ensures.shut;
      fault_is =
          c.follow.ensures.fault (round_in seen) inside.pieces (core_of inside.progress) refl legal made.core
          c.self.invariant.ranked.fault_is;
    })

pub returns-in_err-happen-clause-err : goal.returns-in_err-happen-clause-err
returns-in_err-happen-clause-err c =
    let inside = c.self.inside in
    let seen = seen_of inside.program.now inside.world inside.iteration inside.fuel inside.pieces inside.progress in
    let kept : Came inside.program.now.model (core_of inside.progress) c.happen.new.progress c.happen.new.counts =
    c.in_err-happen.ensures.err in
    no_memory_is c.from_residual.result
    (Refused c.args.event c.args.self.now (record seen { core = core_of c.happen.new.progress })) c.from_residual.ensures.1 (
      sym c.if-not-allows.ensures,
      c.in_err-happen.ensures.takes,
      seen_so seen (core_of c.happen.new.progress) kept.core ∙ c.self.view_is,
    )

pub returns-clause-ok : goal.returns-clause-ok
returns-clause-ok c =
    let inside = c.self.inside in
    let seen = seen_of inside.program.now inside.world inside.iteration inside.fuel inside.pieces inside.progress in
    let next = after (round_in seen) inside.pieces (core_of inside.progress) c.args.event in
    let fits : SFits w32 inside.iteration = search rules in
    let P : ℤ → Type 0 = λ j. Came inside.program.now.model
    (after (record (round_in seen) { iteration = j }) inside.pieces (core_of inside.progress) c.args.event)
    c.happen.new.progress c.happen.new.counts in
    let made : Came inside.program.now.model next c.happen.new.progress c.happen.new.counts =
    subst P (to_z-of_z w32 inside.iteration fits) c.in_ok-happen.ensures.ok in
    record {
      legal = sym c.if-not-allows.ensures;
      left = seen_when seen (c.args.event ∷ []) (core_of c.happen.new.progress) made.core ∙ ap (when_came (c.args.event ∷ [])) c.self.view_is;
    }
