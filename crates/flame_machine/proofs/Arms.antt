-- How the program's step comes to the turn of its instruction.
use Rattle.std.proofs.Common.{◌≡◌, ℕ, ◌+◌, ◌<◌, ◌==◌, List, length, take, Bool, true, false, ◌&&◌, Some, refl, sym, ap, ◌∙◌, subst, arith, ⊎_elim}
use Rattle.std.specs.Prelude.{ℤ, if◌then◌else◌}
use Rattle.std.proofs.lemmas.Bool.{cond-true, cond-false, cases_Bool}
use Rattle.std.proofs.Math.Bool.{and-false}
use Rattle.flame_rows.proofs.Truths.{eqb-above}
use Rattle.flame_spec.specs.declared.outcomes.Widths.{Widths}
use Rattle.flame_code.specs.declared.instrs.Instr.{Instr}
use Rattle.flame_code.specs.declared.instrs.Instr.TheVariants.{Enter, Next, Field, FieldAt, Send, Bear}
use Rattle.flame_code.specs.Feeds.{Fed, at_start, at_next, has_next}
use Rattle.flame_code.specs.Routines.{IsWithin}
use Rattle.flame_code.specs.Machine.{Given, on, deliver, act}
use Rattle.flame_machine.specs.declared.steps.MachineStep.{MachineStep}
use Rattle.flame_machine.specs.declared.steps.MachineStep.TheVariants as turned
use Rattle.flame_machine.specs.MachineFrames.{Held, Framed, framed, Additions, nothing_added, config}
use Rattle.flame_machine.specs.MachineSteps.{seen, adds_nothing, told, Stepped, StepsBy}
use Rattle.flame_machine.proofs.Inputs.{first-at_start, first-at_next, has_next-first}

pub in_arm : (place : ℕ) (given : Given) (w : Widths) (old : Framed) (added : Additions) (feeds : List Fed) (new : Framed) (more : Additions) (result : MachineStep) (instr i : Instr)
    → instr ≡ i → Stepped place (act given w (Some i) (config place old added feeds)) new more feeds result → Stepped place (act given w (Some instr) (config place old added feeds)) new more feeds result
in_arm place given w old added feeds new more result instr i e s = subst (λ x. Stepped place (act given w (Some x) (config place old added feeds)) new more feeds result) (sym e) s

pub by_arm : (place : ℕ) (given : Given) (w : Widths) (old new : Held) (locals memory : List ℤ) (added : Additions) (feeds : List Fed) (result : MachineStep) (instr i : Instr)
    → instr ≡ i → StepsBy (act given w (Some i)) old new result
    → Stepped place (act given w (Some instr) (config place (framed old locals memory) added feeds)) (framed new locals memory) added feeds result
by_arm place given w old new locals memory added feeds result instr i e does =
    in_arm place given w (framed old locals memory) added feeds (framed new locals memory) added result instr i e (does place locals memory added feeds)

-- a code that sees messages adds them, and one that sees agent types those
pub sees_messages : (w : Widths) {m : ℕ} {instr : Instr} → instr ≡ Send m → IsWithin w instr → adds_nothing w ≡ false
sees_messages w {m = m} e h =
    let lt : m < length w.messages = subst (IsWithin w) e h in
    ap (λ b. b && (length w.agents == 0)) (eqb-above (length w.messages) 0 (omega arith))

pub sees_agents : (w : Widths) {a : ℕ} {instr : Instr} → instr ≡ Bear a → IsWithin w instr → adds_nothing w ≡ false
sees_agents w {a = a} e h =
    let lt : a < length w.agents = subst (IsWithin w) e h in
    ap (λ b. (length w.messages == 0) && b) (eqb-above (length w.agents) 0 (omega arith)) ∙ and-false (length w.messages == 0)

told-all : (w : Widths) (added : Additions) → adds_nothing w ≡ false → told w added ≡ added
unfolding told
told-all w added e = cond-false (adds_nothing w) nothing_added added e

pub told-none : (w : Widths) (added : Additions) → adds_nothing w ≡ true → told w added ≡ nothing_added
unfolding told
told-none w added e = cond-true (adds_nothing w) nothing_added added e

cond-same : (b : Bool) (a : Additions) → (if b then a else a) ≡ a
cond-same true a = refl
cond-same false a = refl

pub told-nothing : (w : Widths) → told w nothing_added ≡ nothing_added
unfolding told
told-nothing w = cond-same (adds_nothing w) nothing_added

-- a run that began with nothing added tells all that it adds
pub told-whole : (w : Widths) (before after : Additions) → before ≡ nothing_added → (adds_nothing w ≡ true → after ≡ before) → told w after ≡ after
told-whole w before after none quiet =
    ⊎_elim (λ t. told-none w after t ∙ sym (quiet t ∙ none)) (λ e. told-all w after e) (cases_Bool (adds_nothing w))

pub adding_arm : (place : ℕ) (given : Given) (w : Widths) (old new : Framed) (added more : Additions) (feeds : List Fed) (result : MachineStep) (instr i : Instr)
    → adds_nothing w ≡ false → instr ≡ i → Stepped place (act given w (Some i) (config place old added feeds)) new more feeds result
    → Stepped place (act given w (Some instr) (config place old (told w added) feeds)) new (told w more) feeds result
adding_arm place given w old new added more feeds result instr i sees e s =
    subst (λ (a : Additions). Stepped place (act given w (Some instr) (config place old a feeds)) new (told w more) feeds result) (sym (told-all w added sees))
    (subst (λ (a : Additions). Stepped place (act given w (Some instr) (config place old added feeds)) new a feeds result) (sym (told-all w more sees))
    (in_arm place given w old added feeds new more result instr i e s))

pub enter_within : (w : Widths) {i : ℕ} {instr : Instr} → instr ≡ Enter i → IsWithin w instr → i < length w.inputs
enter_within w e h = subst (IsWithin w) e h

pub next_within : (w : Widths) {l i t : ℕ} {instr : Instr} → instr ≡ Next l i t → IsWithin w instr → i < length w.inputs
next_within w e h = subst (IsWithin w) e h

pub field_within : (w : Widths) {i v : ℕ} {instr : Instr} → instr ≡ Field i v → IsWithin w instr → i < length w.inputs
field_within w e h = (subst (IsWithin w) e h).0

pub field_at_within : (w : Widths) {l i c n : ℕ} {instr : Instr} → instr ≡ FieldAt l i c n → IsWithin w instr → i < length w.inputs
field_at_within w e h = (subst (IsWithin w) e h).0

module _ (place : ℕ) (given : Given) (w : Widths) (old : Framed) (added : Additions) (feeds after : List Fed) (instr : Instr) where
  pub entered : (i : ℕ) → instr ≡ Enter i → IsWithin w instr → after ≡ at_start i feeds
      → Stepped place (act given w (Some instr) (config place old added (seen w feeds))) old added (seen w after) turned.On
  entered i e within moved =
      let first : at_start i (seen w feeds) ≡ seen w after = sym (first-at_start (length w.inputs) i feeds (enter_within w e within)) ∙ ap (take (length w.inputs)) (sym moved) in
      subst (λ x. act given w (Some x) (config place old added (seen w feeds)) ≡ on (config (place + 1) old added (seen w after))) (sym e)
      (ap (λ (fs : List Fed). on (config (place + 1) old added fs)) first)

module _ (place : ℕ) (given : Given) (w : Widths) (old new : Held) (locals memory : List ℤ) (added : Additions) (feeds after : List Fed) (instr : Instr) (result : MachineStep) where
  pub delivered : (l i t : ℕ) → instr ≡ Next l i t → IsWithin w instr → after ≡ at_next i feeds → StepsBy (deliver (has_next i feeds) l t) old new result
      → Stepped place (act given w (Some instr) (config place (framed old locals memory) added (seen w feeds))) (framed new locals memory) added (seen w after) result
  delivered l i t e within moved does =
      let lt = next_within w e within in
      subst (λ x. Stepped place (act given w (Some x) (config place (framed old locals memory) added (seen w feeds))) (framed new locals memory) added (seen w after) result) (sym e)
      (subst (λ (fs : List Fed). Stepped place (deliver (has_next i (seen w feeds)) l t (config place (framed old locals memory) added fs)) (framed new locals memory) added (seen w after) result)
      (ap (take (length w.inputs)) moved ∙ first-at_next (length w.inputs) i feeds lt)
      (subst (λ (b : Bool). Stepped place (deliver b l t (config place (framed old locals memory) added (seen w after))) (framed new locals memory) added (seen w after) result)
      (sym (has_next-first (length w.inputs) i feeds lt)) (does place locals memory added (seen w after))))
