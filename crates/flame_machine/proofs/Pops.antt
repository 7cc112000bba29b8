-- What values that were taken from the stack change in turns: nothing.
use Rattle.std.proofs.Common.{◌≡◌, ℕ, ◌≤◌, ◌∷◌, List, length, take, drop, refl, sym, subst}
use Rattle.std.specs.Prelude.{ℤ, Result, Ok, Err, Some, reverse, nat_le}
use Rattle.std.proofs.lemmas.Bool.{cond-true, le-leb}
use Rattle.flame_ops.specs.declared.integers.Cause.{Cause}
use Rattle.flame_ops.specs.declared.integers.Op.{Op}
use Rattle.flame_ops.specs.Integers.{applied, negated}
use Rattle.flame_spec.specs.declared.outcomes.Widths.{Widths}
use Rattle.flame_code.specs.declared.instrs.Instr.TheVariants.{Neg}
use Rattle.flame_code.specs.Feeds.{Fed}
use Rattle.flame_code.specs.Machine.{Given, StepEnd, stuck, push_held, operate, with_row, act}
use Rattle.flame_machine.specs.declared.steps.MachineStep.{MachineStep}
use Rattle.flame_machine.specs.MachineFrames.{Held, framed, Additions, config}
use Rattle.flame_machine.specs.MachineSteps.{Stepped, StepsBy}

held-popped : (line : ℕ) (o : Result ℤ Cause) (stack s : List ℤ) (place : ℕ) (low : Held) (locals memory : List ℤ) (added : Additions) (feeds : List Fed)
    → push_held line o stack (config place (framed low locals memory) added feeds) ≡ push_held line o stack (config place (framed (record low { stack = s }) locals memory) added feeds)
held-popped line (Ok v) stack s place low locals memory added feeds = refl
held-popped line (Err cause) stack s place low locals memory added feeds = refl

pub operated : (old mid low new : Held) (v w : ℤ) (op : Op) (line : ℕ) (o : Result ℤ Cause) (result : MachineStep)
    → old ≡ record mid { stack = w ∷ mid.stack } → mid ≡ record low { stack = v ∷ low.stack } → o ≡ applied op v w
    → StepsBy (push_held line o low.stack) low new result → StepsBy (operate op line) old new result
operated old mid low new v w op line o result first second same does place locals memory added feeds =
    let after = framed new locals memory in
    subst (λ (x : Held). Stepped place (operate op line (config place (framed x locals memory) added feeds)) after added feeds result) (sym first)
    (subst (λ (x : Held). Stepped place (operate op line (config place (framed (record x { stack = w ∷ x.stack }) locals memory) added feeds)) after added feeds result) (sym second)
    (subst (λ x. Stepped place (push_held line x low.stack (config place (framed (record low { stack = w ∷ v ∷ low.stack }) locals memory) added feeds)) after added feeds result) same
    (subst (λ (t : StepEnd). Stepped place t after added feeds result) (held-popped line o low.stack (w ∷ v ∷ low.stack) place low locals memory added feeds) (does place locals memory added feeds))))

-- so many values are there
pub row_there : (n : ℕ) (stack : List ℤ) (go : List ℤ → List ℤ → StepEnd) → n ≤ length stack → with_row n stack go ≡ go (reverse (take n stack)) (drop n stack)
row_there n stack go le = cond-true (nat_le n (length stack)) (go (reverse (take n stack)) (drop n stack)) stuck (le-leb n (length stack) le)

pub negated_top : (given : Given) (w : Widths) (old low new : Held) (v : ℤ) (line : ℕ) (o : Result ℤ Cause) (result : MachineStep)
    → old ≡ record low { stack = v ∷ low.stack } → o ≡ negated v
    → StepsBy (push_held line o low.stack) low new result → StepsBy (act given w (Some (Neg line))) old new result
negated_top given w old low new v line o result first same does place locals memory added feeds =
    let after = framed new locals memory in
    subst (λ (x : Held). Stepped place (act given w (Some (Neg line)) (config place (framed x locals memory) added feeds)) after added feeds result) (sym first)
    (subst (λ x. Stepped place (push_held line x low.stack (config place (framed (record low { stack = v ∷ low.stack }) locals memory) added feeds)) after added feeds result) same
    (subst (λ (t : StepEnd). Stepped place t after added feeds result) (held-popped line o low.stack (v ∷ low.stack) place low locals memory added feeds) (does place locals memory added feeds)))
