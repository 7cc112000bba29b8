use Rattle.std.proofs.Common.{ap, arith, sym, subst, ◌∙◌, List, ℕ}
use Rattle.std.specs.Prelude.{ℤ, slice_get}
use Rattle.std.proofs.lemmas.Grind.{common_steps}
use Rattle.flame_field.specs.declared.pools.Pool.{Pool}
use Rattle.flame_field.specs.KeptPools.{IsDealt}
use Rattle.flame_round.proofs.Dealt.{AnyDealt, each-pushed, each-written}
use Rattle.flame_round.proofs.opening.begun.Goals as goal

pub returns-clause-dealt : goal.returns-clause-dealt
returns-clause-dealt c choose state pool at =
    each-written (λ (p : Pool). (choose : List ℤ → ℕ) → IsDealt choose p) c.loop-state.pools.items c.args.start c.of.result
    c.loop-state.invariant.dealt c.of.ensures.dealt state pool
    (ap (λ (ps : List Pool). slice_get ps state) (sym c.exchanged-none.ensures.now) ∙ at) (choose state)

pub loop-state-preserved : goal.loop-state-preserved
loop-state-preserved c = record {
  none = grind (arith, common_steps);
  count = grind (arith, common_steps);
  dealt =
      subst AnyDealt (sym c.in_ok-push.ensures.items)
      (each-pushed (λ (p : Pool). (choose : List ℤ → ℕ) → IsDealt choose p) c.loop-state.pools.items c.empty.result
      c.loop-state.invariant.dealt c.empty.ensures.dealt);
}
