use Rattle.std.proofs.Common.{arith, ◌≡◌, ◌+◌, ◌-◌, ℕ, None, sym, ◌∙◌, subst, drop}
use Rattle.flame_meaning.specs.Scenes.{local_value}
use Rattle.flame_sense.specs.StandsFor.{visible}
use Rattle.flame_sense.proofs.Locals.{looked_past}
use Rattle.flame_sense.proofs.scene.newest.Goals as goal

pub loop-at-preserved : goal.loop-at-preserved
loop-at-preserved c =
    let back : c.loop-at.at - 1 + 1 ≡ c.loop-at.at = omega arith in
    let IsNewer : ℕ → Type 0 = λ n. local_value c.args.word.now (visible (drop n c.args.locals.now)) ≡ None in
    record {
      within = omega arith;
      newer =
          looked_past c.args.word.now c.args.locals.now (c.loop-at.at - 1) _ (omega arith)
          (sym c.eq.ensures ∙ c.if-eq.false) (subst IsNewer (sym back) c.loop-at.invariant.newer);
    }
