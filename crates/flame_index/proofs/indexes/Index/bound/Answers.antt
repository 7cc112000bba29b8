use mir.Syntax.{w32}
use mir.Val.{SFits, to_z, of_z}
use Rattle.std.proofs.Common.{◌≡◌, ℕ, ◌+◌, ◌-◌, ◌/◌, true, false, sym, ap, ◌∙◌, subst, arith, rules}
use Rattle.std.proofs.lemmas.Int.{to_z-of_z}
use Rattle.std.specs.Prelude.{ℤ}
use Rattle.flame_index.specs.FrozenBoards.{messages_on}
use Rattle.flame_index.specs.Indexes.{values_of}
use Rattle.flame_index.specs.IndexBodies.{is_passed}
use Rattle.flame_index.proofs.Searching.{values_ascend, passed_to, left_from, IsLeft, left_above, left_below}
use Rattle.flame_index.proofs.indexes.Index.bound.Goals as goal

pub loop-low-preserved-then-is_passed : goal.loop-low-preserved-then-is_passed
loop-low-preserved-then-is_passed g c =
    let index = c.args.self.now in
    let now = c.loop-low in
    let middle : ℕ = now.low + (now.high - now.low) / 2 in
    let wanted : ℤ = to_z w32 (of_z w32 c.args.wanted) in
    let fits : SFits w32 c.probe.result = search rules in
    let passed : is_passed c.args.through wanted c.probe.result ≡ true =
    ap (is_passed c.args.through wanted) (sym (to_z-of_z w32 c.probe.result fits)) ∙ sym c.is_passed.ensures ∙ c.if-is_passed.true in
    let up = values_ascend index (messages_on c.args.board.now) c.requires.stands c.requires.ascending in
    record {
      order = omega (arith, c.loop-low-test.true);
      within = now.invariant.within;
      passed = passed_to (values_of index) c.args.through wanted up middle c.probe.result c.probe.ensures.value passed;
      stays = now.invariant.stays;
      spare = λ d less.
          subst (λ n. IsLeft d c.args.steps.now n (middle + 1) now.high) (sym c.probe.ensures.step)
          (left_above d c.args.steps.now now.steps now.low now.high c.loop-low-test.true (now.invariant.spare d less));
    }

pub loop-low-preserved : goal.loop-low-preserved
loop-low-preserved g c =
    let index = c.args.self.now in
    let now = c.loop-low in
    let middle : ℕ = now.low + (now.high - now.low) / 2 in
    let wanted : ℤ = to_z w32 (of_z w32 c.args.wanted) in
    let fits : SFits w32 c.probe.result = search rules in
    let stays : is_passed c.args.through wanted c.probe.result ≡ false =
    ap (is_passed c.args.through wanted) (sym (to_z-of_z w32 c.probe.result fits)) ∙ sym c.is_passed.ensures ∙ c.if-is_passed.false in
    let up = values_ascend index (messages_on c.args.board.now) c.requires.stands c.requires.ascending in
    record {
      order = omega arith;
      within = omega (arith, c.loop-low-test.true, now.invariant.within);
      passed = now.invariant.passed;
      stays = left_from (values_of index) c.args.through wanted up middle c.probe.result c.probe.ensures.value stays;
      spare = λ d less.
          subst (λ n. IsLeft d c.args.steps.now n now.low middle) (sym c.probe.ensures.step)
          (left_below d c.args.steps.now now.steps now.low now.high c.loop-low-test.true (now.invariant.spare d less));
    }
