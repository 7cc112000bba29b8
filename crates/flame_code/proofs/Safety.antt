-- A step of valid code is possible, keeps what the run stands on, and spends what is left of it.
use Rattle.std.proofs.Common.{◌≡◌, ◌≢◌, ℕ, zero, suc, ◌+◌, ◌-◌, ◌*◌, ◌<◌, ◌≤◌, Bool, true, false, cond, List, [], ◌∷◌, ◌++◌, length, take, drop, Option, Some, None, refl, sym, ap, ◌∙◌, subst, arith, ⊎_elim, length-drop}
use Rattle.std.specs.Prelude.{ℤ, pos, negsuc, Result, Ok, Err, slice_get, slice_set, slice_index, reverse, nat_le}
use Rattle.std.specs.Ordering.{int_eq}
use Rattle.std.proofs.lemmas.Bool.{cases_lt, cond-true, le-leb, lt-ltb, le-ltb}
use Rattle.std.proofs.lemmas.Option.{slice_get_within}
use Rattle.std.proofs.lemmas.List.{length-set}
use Rattle.std.proofs.Math.Nat.{mul-le-mul_right}
use Rattle.flame_ops.specs.declared.integers.Cause.{Cause}
use Rattle.flame_ops.specs.declared.integers.Op.{Op}
use Rattle.flame_ops.specs.declared.integers.Op.TheVariants as op
use Rattle.flame_ops.specs.Integers.{applied, negated, truth}
use Rattle.flame_spec.specs.declared.outcomes.Sent.{Sent}
use Rattle.flame_spec.specs.declared.outcomes.Born.{Born}
use Rattle.flame_spec.specs.Conditions.{number_at}
use Rattle.flame_code.specs.declared.instrs.Instr.{Instr}
use Rattle.flame_code.specs.declared.instrs.Instr.TheVariants.{Push, Dup, Drop, Loc, SetLoc, Mem, SetMem, MemAt, SetMemAt}
use Rattle.flame_code.specs.declared.instrs.Instr.TheVariants.{Const, Iter, Field, FieldAt, Neg, Not, Add, Sub, Mul, Div, Rem}
use Rattle.flame_code.specs.declared.instrs.Instr.TheVariants.{Lt, Gt, Le, Ge, Eq, Ne, Jump, JumpZero, JumpNotZero, Pay}
use Rattle.flame_code.specs.declared.instrs.Instr.TheVariants.{Enter, Next, Leave, Send, Bear, Call, Return}
use Rattle.flame_code.specs.Feeds.{with_come, with_more, at_start, has_next, at_next, field}
use Rattle.flame_code.specs.InputRows.{rows_of, HaveWidths}
use Rattle.flame_code.specs.Routines.{Routine, takes_and_leaves, takes, leaves, goes_on, target, Delivered, passed, jumped}
use Rattle.flame_code.specs.Validity.{Moves, Path, starts, goes, jumps, SpendsFuel, GoesForward, IsValid}
use Rattle.flame_code.specs.Machine.{Locals, set_local, Given, Config, returned, faulted, StepEnd, on, over, calls, stuck}
use Rattle.flame_code.specs.Machine.{next, goto, with_top, with_two, with_row, push_held, operate, element_of, with_element, push_found, pay_from, deliver, act, step}
use Rattle.flame_code.specs.Meanings.{resumed}
use Rattle.flame_code.specs.OnPath.{AreCurrent, IsOnPath}
use Rattle.flame_code.proofs.InputMoves.{rows-at_start, rows-at_next, stays_current, left_current, comes_current, field_there}

-- ---- what is left of a run

-- how far the end of a stretch without fuel is at most: a `Pay` ends it, and a `Next` ends it or leaves its loop
abbrev pub rank_at : ℕ → Option Instr → ℕ → ℕ
rank_at n (Some (Pay l)) p = 0
rank_at n (Some (Next l i t)) p = 2 * (n - t) + 2
rank_at n instr p = 2 * (n - p) + 1

abbrev pub span : Routine → ℕ
span r = 2 * length r.instrs + 3

abbrev pub left : Routine → ℕ → ℕ → ℕ
left r p fuel = fuel * span r + rank_at (length r.instrs) (slice_get r.instrs p) p

-- ---- words for turns

-- what a step leaves
record Goes (r : Routine) (c d : Config) : Type 0 where
  stands : IsOnPath r d
  falls : left r d.place d.fuel < left r c.place c.fuel
  less : d.fuel ≤ c.fuel
  rows : rows_of d.feeds ≡ rows_of c.feeds

-- what a call leaves, to go on from with the value on the stack
record GoesBack (r : Routine) (c : Config) (helper : ℕ) (d : Config) : Type 0 where
  stands : (v : ℤ) (f : ℕ) → IsOnPath r (resumed v f d)
  falls : (f : ℕ) → f ≤ d.fuel → left r d.place f < left r c.place c.fuel
  less : d.fuel < c.fuel
  named : (line n : ℕ) × (slice_get r.instrs c.place ≡ Some (Call line helper n))
  rows : rows_of d.feeds ≡ rows_of c.feeds

-- what a run that is over leaves
record Leaves (c d : Config) : Type 0 where
  less : d.fuel ≤ c.fuel
  rows : rows_of d.feeds ≡ rows_of c.feeds

abbrev StepsTo : Routine → Config → StepEnd → Type 0
StepsTo r c (on d) = Goes r c d
StepsTo r c (over (returned v d)) = Leaves c d
StepsTo r c (over (faulted f)) = Unit {0}
StepsTo r c (calls h args d) = GoesBack r c h d
StepsTo r c stuck = ⊥

module _ (P : StepEnd → Type 0) where
  top_of : (stack : List ℤ) (go : ℤ → List ℤ → StepEnd) → 1 ≤ length stack
      → ((v : ℤ) (rest : List ℤ) → length stack ≡ suc (length rest) → P (go v rest)) → P (with_top stack go)
  top_of [] go le all = absurd (omega arith)
  top_of (v ∷ rest) go le all = all v rest refl

  two_of : (stack : List ℤ) (go : ℤ → ℤ → List ℤ → StepEnd) → 2 ≤ length stack
      → ((v w : ℤ) (rest : List ℤ) → length stack ≡ suc (suc (length rest)) → P (go v w rest)) → P (with_two stack go)
  two_of [] go le all = absurd (omega arith)
  two_of (w ∷ []) go le all = absurd (omega arith)
  two_of (w ∷ v ∷ rest) go le all = all v w rest refl

  row_of : (n : ℕ) (stack : List ℤ) (go : List ℤ → List ℤ → StepEnd) → n ≤ length stack
      → ((row rest : List ℤ) → length stack ≡ length rest + n → P (go row rest)) → P (with_row n stack go)
  row_of n stack go le all =
      subst P (sym (cond-true (nat_le n (length stack)) (go (reverse (take n stack)) (drop n stack)) stuck (le-leb n (length stack) le)))
      (all (reverse (take n stack)) (drop n stack) (omega (arith, length-drop n stack)))

  by_test : (b : Bool) (s t : StepEnd) → P s → P t → P (cond b s t)
  by_test true s t p q = p
  by_test false s t p q = q

module _ (r : Routine) (valid : IsValid r) where
  some_instr : (code : List Instr) (p : ℕ) → p < length code → (i : Instr) × (slice_get code p ≡ Some i)
  some_instr [] p h = absurd (omega arith)
  some_instr (i ∷ is) zero h = (i, refl)
  some_instr (i ∷ is) (suc p) h = some_instr is p (omega arith)

  -- behind an instruction that goes on there is another one
  more_code : (p : ℕ) (i : Instr) → slice_get r.instrs p ≡ Some i → goes_on i ≡ true → p + 1 < length r.instrs
  more_code p i at g =
      let w : p < length r.instrs = slice_get_within r.instrs p i at in
      ⊎_elim (λ lt. lt)
      (λ le. let e : p + 1 ≡ length r.instrs = omega arith in
      let last : i ≡ Return = let a : Some i ≡ Some Return = sym at ∙ valid.ends p e in cc in
      absurd (let bad : false ≡ true = ap goes_on (sym last) ∙ g in cc))
      (cases_lt (p + 1) (length r.instrs))

  rank_here : (p : ℕ) (i : Instr) → p < length r.instrs → slice_get r.instrs p ≡ Some i → GoesForward p i
      → ((t : ℕ) → target i ≡ Some t → t < length r.instrs) → rank_at (length r.instrs) (Some i) p ≤ 2 * (length r.instrs - p) + 1
  rank_here p (Pay l) w at f lands = omega arith
  rank_here p (Next l i t) w at f lands = let b = lands t refl in omega arith
  rank_here p i w at f lands = omega arith

  rank_most : (p : ℕ) → p < length r.instrs → rank_at (length r.instrs) (slice_get r.instrs p) p ≤ 2 * (length r.instrs - p) + 1
  rank_most p w =
      let i = some_instr r.instrs p w in
      subst (λ o. rank_at (length r.instrs) o p ≤ 2 * (length r.instrs - p) + 1) (sym i.1)
      (rank_here p i.0 w i.1 (valid.forward p i.0 i.1) (λ t e. valid.lands p t i.0 i.1 e))

  -- a jump back lands where less is left
  rank_back : (p t : ℕ) (j : Instr) → p < length r.instrs → slice_get r.instrs t ≡ Some j → SpendsFuel p j → rank_at (length r.instrs) (Some j) t < 2 * (length r.instrs - p) + 1
  rank_back p t (Pay l) w at s = omega arith
  rank_back p t (Next l i u) w at s = let b = valid.lands t u (Next l i u) at refl in omega arith
  rank_back p t j w at s = absurd s

  -- fuel that is paid leaves less, wherever the run goes on
  paid_falls : (p t f g : ℕ) → t < length r.instrs → f < g → left r t f < left r p g
  paid_falls p t f g w h =
      let m = rank_most t w in
      let x : suc f * span r ≤ g * span r = mul-le-mul_right (span r) (let s : suc f ≤ g = omega arith in s) in
      let y : suc f * span r ≡ f * span r + span r = omega arith in
      omega arith

  module _ (c : Config) (stands : IsOnPath r c) (i : Instr) (at : slice_get r.instrs c.place ≡ Some i) where
    here : c.place < length r.instrs
    here = slice_get_within r.instrs c.place i at

    rank_c : rank_at (length r.instrs) (slice_get r.instrs c.place) c.place ≡ rank_at (length r.instrs) (Some i) c.place
    rank_c = ap (λ o. rank_at (length r.instrs) o c.place) at

    -- on to the next place
    later : (d : Config) → goes_on i ≡ true → rank_at (length r.instrs) (Some i) c.place ≡ 2 * (length r.instrs - c.place) + 1
        → d.place ≡ c.place + 1 → d.fuel ≡ c.fuel → Moves r.widths i (length c.stack) (length d.stack)
        → AreCurrent (passed i stands.delivered) d.feeds → length d.memory ≡ length c.memory → rows_of d.feeds ≡ rows_of c.feeds → Goes r c d
    later d on_ rank place fuel moves current memory rows = record {
      stands = record {
        delivered = passed i stands.delivered;
        path = subst (λ p. Path r p (length d.stack) (passed i stands.delivered)) (sym place) (goes stands.path at on_ moves);
        current = current;
        memory = memory ∙ stands.memory;
        rows = subst (HaveWidths r.widths.inputs) (sym rows) stands.rows;
      };
      falls =
          let m = rank_most d.place (let w = more_code c.place i at on_ in omega arith) in
          let w = here in
          let k = rank_c in
          let e = ap (λ f. f * span r) fuel in
          omega arith;
      less = omega arith;
      rows = rows;
    }

    -- on to the next place with one unit of fuel less
    later_paid : (d : Config) → goes_on i ≡ true
        → d.place ≡ c.place + 1 → d.fuel < c.fuel → Moves r.widths i (length c.stack) (length d.stack)
        → AreCurrent (passed i stands.delivered) d.feeds → length d.memory ≡ length c.memory → rows_of d.feeds ≡ rows_of c.feeds → Goes r c d
    later_paid d on_ place fuel moves current memory rows = record {
      stands = record {
        delivered = passed i stands.delivered;
        path = subst (λ p. Path r p (length d.stack) (passed i stands.delivered)) (sym place) (goes stands.path at on_ moves);
        current = current;
        memory = memory ∙ stands.memory;
        rows = subst (HaveWidths r.widths.inputs) (sym rows) stands.rows;
      };
      falls = paid_falls c.place d.place d.fuel c.fuel (let w = more_code c.place i at on_ in omega arith) fuel;
      less = omega arith;
      rows = rows;
    }

    -- to the target
    to_target : (d : Config) → target i ≡ Some d.place → rank_at (length r.instrs) (slice_get r.instrs d.place) d.place < rank_at (length r.instrs) (Some i) c.place
        → d.fuel ≡ c.fuel → Moves r.widths i (length c.stack) (length d.stack)
        → AreCurrent (jumped i stands.delivered) d.feeds → length d.memory ≡ length c.memory → rows_of d.feeds ≡ rows_of c.feeds → Goes r c d
    to_target d aims rank fuel moves current memory rows = record {
      stands = record {
        delivered = jumped i stands.delivered;
        path = jumps stands.path at aims moves;
        current = current;
        memory = memory ∙ stands.memory;
        rows = subst (HaveWidths r.widths.inputs) (sym rows) stands.rows;
      };
      falls = let k = rank_c in let e = ap (λ f. f * span r) fuel in omega arith;
      less = omega arith;
      rows = rows;
    }

    -- a jump leaves less
    jump_rank : (t : ℕ) → target i ≡ Some t → rank_at (length r.instrs) (Some i) c.place ≡ 2 * (length r.instrs - c.place) + 1
        → rank_at (length r.instrs) (slice_get r.instrs t) t < rank_at (length r.instrs) (Some i) c.place
    jump_rank t aims rank =
        let w = here in
        let b = valid.lands c.place t i at aims in
        ⊎_elim (λ lt. let m = rank_most t b in omega arith)
        (λ le. let j = some_instr r.instrs t b in
        let s = rank_back c.place t j.0 here j.1 (valid.spends c.place t i j.0 at aims le j.1) in
        subst (λ o. rank_at (length r.instrs) o t < rank_at (length r.instrs) (Some i) c.place) (sym j.1) (omega arith))
        (cases_lt c.place t)

    -- on to the next place, with the same inputs
    plain : (stack : List ℤ) (locals : Locals) (memory : List ℤ) (sent : List Sent) (born : List Born) → goes_on i ≡ true
        → rank_at (length r.instrs) (Some i) c.place ≡ 2 * (length r.instrs - c.place) + 1
        → Moves r.widths i (length c.stack) (length stack) → AreCurrent (passed i stands.delivered) c.feeds → length memory ≡ length c.memory
        → Goes r c (record c { place = c.place + 1; stack = stack; locals = locals; memory = memory; sent = sent; born = born })
    plain stack locals memory sent born on_ rank moves current same =
        later (record c { place = c.place + 1; stack = stack; locals = locals; memory = memory; sent = sent; born = born }) on_ rank refl refl moves current same refl

    pushes : (stack : List ℤ) → goes_on i ≡ true
        → rank_at (length r.instrs) (Some i) c.place ≡ 2 * (length r.instrs - c.place) + 1
        → Moves r.widths i (length c.stack) (length stack) → AreCurrent (passed i stands.delivered) c.feeds
        → StepsTo r c (next stack c)
    pushes stack on_ rank moves current = plain stack c.locals c.memory c.sent c.born on_ rank moves current refl

    held : (line : ℕ) (o : Result ℤ Cause) (stack : List ℤ) → goes_on i ≡ true
        → rank_at (length r.instrs) (Some i) c.place ≡ 2 * (length r.instrs - c.place) + 1
        → Moves r.widths i (length c.stack) (suc (length stack)) → AreCurrent (passed i stands.delivered) c.feeds
        → StepsTo r c (push_held line o stack c)
    held line (Ok v) stack on_ rank moves current = pushes (v ∷ stack) on_ rank moves current
    held line (Err cause) stack on_ rank moves current = tt

    element_ok : (line : ℕ) (o : Option ℕ) (go : ℕ → StepEnd) → ((v : ℕ) → o ≡ Some v → StepsTo r c (go v)) → StepsTo r c (with_element line o go)
    element_ok line None go all = tt
    element_ok line (Some v) go all = all v refl

    found : (o : Option ℤ) (stack : List ℤ) (x : ℤ) → o ≡ Some x → goes_on i ≡ true
        → rank_at (length r.instrs) (Some i) c.place ≡ 2 * (length r.instrs - c.place) + 1
        → Moves r.widths i (length c.stack) (suc (length stack)) → AreCurrent (passed i stands.delivered) c.feeds
        → StepsTo r c (push_found o stack c)
    found o stack x e on_ rank moves current =
        subst (λ o. StepsTo r c (push_found o stack c)) (sym e) (pushes (x ∷ stack) on_ rank moves current)

    paid : (f line : ℕ) (e : Config) (go : Config → StepEnd) → f ≡ c.fuel → ((k : ℕ) → k < c.fuel → StepsTo r c (go (record e { fuel = k }))) → StepsTo r c (pay_from f line e go)
    paid zero line e go same all = tt
    paid (suc f) line e go same all = all f (omega arith)

    jumps_to : (t : ℕ) (stack : List ℤ) → target i ≡ Some t
        → rank_at (length r.instrs) (Some i) c.place ≡ 2 * (length r.instrs - c.place) + 1
        → Moves r.widths i (length c.stack) (length stack) → AreCurrent (jumped i stands.delivered) c.feeds → StepsTo r c (goto t stack c)
    jumps_to t stack aims rank moves current =
        to_target (record c { place = t; stack = stack }) aims (jump_rank t aims rank) refl moves current refl refl

  element_in : (b n : ℕ) (k : ℤ) (v : ℕ) → element_of b n k ≡ Some v → v < b + n
  element_in b n (pos k) v e =
      let some : Option ℕ = Some (b + k) in
      let none : Option ℕ = None in
      ⊎_elim (λ lt. let w : Some (b + k) ≡ Some v = sym (ap (λ t. cond t some none) (lt-ltb k n lt)) ∙ e in let same : b + k ≡ v = cc in omega arith)
      (λ le. absurd (let w : none ≡ Some v = sym (ap (λ t. cond t some none) (le-ltb k n le)) ∙ e in cc))
      (cases_lt k n)
  element_in b n (negsuc k) v e = cc

  -- ORDER INSTRUCTIONS
  module _ (g : Given) (c : Config) (stands : IsOnPath r c) where
    abbrev At : Instr → Type 0
    At i = slice_get r.instrs c.place ≡ Some i

    operates : (o : Op) (line : ℕ) (i : Instr) → At i → takes_and_leaves r.widths i ≡ (2, 1) → goes_on i ≡ true
        → rank_at (length r.instrs) (Some i) c.place ≡ 2 * (length r.instrs - c.place) + 1
        → AreCurrent (passed i stands.delivered) c.feeds → StepsTo r c (operate o line c)
    operates o line i at moves on_ rank current =
        let pops : takes r.widths i ≤ length c.stack = valid.pops stands.path at in
        let t : takes r.widths i ≡ 2 = ap (λ (m : ℕ × ℕ). m.0) moves in
        let l : leaves r.widths i ≡ 1 = ap (λ (m : ℕ × ℕ). m.1) moves in
        two_of (StepsTo r c) c.stack _ (omega arith)
        (λ v w rest e. held c stands i at line (applied o v w) rest on_ rank (omega arith) current)

    moves : (i : Instr) → At i → StepsTo r c (act g r.widths (Some i) c)
    moves (Push n) at = pushes c stands (Push n) at (n ∷ c.stack) refl refl (omega arith) stands.current
    moves Dup at =
        let pops = valid.pops stands.path at in
        top_of (StepsTo r c) c.stack _ pops (λ v rest e. pushes c stands Dup at (v ∷ v ∷ rest) refl refl (omega arith) stands.current)
    moves Drop at =
        let pops = valid.pops stands.path at in
        top_of (StepsTo r c) c.stack _ pops (λ v rest e. pushes c stands Drop at rest refl refl (omega arith) stands.current)
    moves (Loc s) at = pushes c stands (Loc s) at (c.locals s ∷ c.stack) refl refl (omega arith) stands.current
    moves (SetLoc s) at =
        let pops = valid.pops stands.path at in
        top_of (StepsTo r c) c.stack _ pops
        (λ v rest e. plain c stands (SetLoc s) at rest (set_local s v c.locals) c.memory c.sent c.born refl refl (omega arith) stands.current refl)
    moves (Mem m) at = pushes c stands (Mem m) at (number_at c.memory m ∷ c.stack) refl refl (omega arith) stands.current
    moves (SetMem m) at =
        let pops = valid.pops stands.path at in
        top_of (StepsTo r c) c.stack _ pops
        (λ v rest e. plain c stands (SetMem m) at rest c.locals (slice_set c.memory m v) c.sent c.born refl refl (omega arith) stands.current (length-set c.memory m v))
    moves (MemAt l b n) at =
        let pops = valid.pops stands.path at in
        top_of (StepsTo r c) c.stack _ pops
        (λ k rest e. element_ok c stands (MemAt l b n) at l (element_of b n k) _
        (λ m _. pushes c stands (MemAt l b n) at (number_at c.memory m ∷ rest) refl refl (omega arith) stands.current))
    moves (SetMemAt l b n) at =
        let pops = valid.pops stands.path at in
        two_of (StepsTo r c) c.stack _ pops
        (λ k v rest e. element_ok c stands (SetMemAt l b n) at l (element_of b n k) _
        (λ m _. plain c stands (SetMemAt l b n) at rest c.locals (slice_set c.memory m v) c.sent c.born refl refl (omega arith) stands.current (length-set c.memory m v)))
    moves (Const b) at = pushes c stands (Const b) at (number_at g.constants b ∷ c.stack) refl refl (omega arith) stands.current
    moves Iter at = pushes c stands Iter at (g.iteration ∷ c.stack) refl refl (omega arith) stands.current
    moves (Field i v) at =
        let x = field_there r.widths.inputs stands.delivered c.feeds i v stands.rows stands.current (valid.reading i stands.path at refl) (valid.within c.place (Field i v) at).1 in
        found c stands (Field i v) at (field i v c.feeds) c.stack x.0 x.1 refl refl (omega arith) stands.current
    moves (FieldAt l i b n) at =
        let pops = valid.pops stands.path at in
        let within = (valid.within c.place (FieldAt l i b n) at).1 in
        top_of (StepsTo r c) c.stack _ pops
        (λ k rest e. element_ok c stands (FieldAt l i b n) at l (element_of b n k) _
        (λ v here.
        let lt = element_in b n k v here in
        let x = field_there r.widths.inputs stands.delivered c.feeds i v stands.rows stands.current (valid.reading i stands.path at refl) (let w : v < slice_index r.widths.inputs i = omega arith in w) in
        found c stands (FieldAt l i b n) at (field i v c.feeds) rest x.0 x.1 refl refl (omega arith) stands.current))
    moves (Neg l) at =
        let pops = valid.pops stands.path at in
        top_of (StepsTo r c) c.stack _ pops (λ v rest e. held c stands (Neg l) at l (negated v) rest refl refl (omega arith) stands.current)
    moves Not at =
        let pops = valid.pops stands.path at in
        top_of (StepsTo r c) c.stack _ pops (λ v rest e. pushes c stands Not at (truth (int_eq v (pos 0)) ∷ rest) refl refl (omega arith) stands.current)
    moves (Add l) at = operates op.Add l (Add l) at refl refl refl stands.current
    moves (Sub l) at = operates op.Sub l (Sub l) at refl refl refl stands.current
    moves (Mul l) at = operates op.Mul l (Mul l) at refl refl refl stands.current
    moves (Div l) at = operates op.Div l (Div l) at refl refl refl stands.current
    moves (Rem l) at = operates op.Rem l (Rem l) at refl refl refl stands.current
    moves Lt at = operates op.Lt 0 Lt at refl refl refl stands.current
    moves Gt at = operates op.Gt 0 Gt at refl refl refl stands.current
    moves Le at = operates op.Le 0 Le at refl refl refl stands.current
    moves Ge at = operates op.Ge 0 Ge at refl refl refl stands.current
    moves Eq at = operates op.Eq 0 Eq at refl refl refl stands.current
    moves Ne at = operates op.Ne 0 Ne at refl refl refl stands.current
    moves (Jump t) at = jumps_to c stands (Jump t) at t c.stack refl refl (omega arith) stands.current
    moves (JumpZero t) at =
        let pops = valid.pops stands.path at in
        top_of (StepsTo r c) c.stack _ pops
        (λ v rest e. by_test (StepsTo r c) (int_eq v (pos 0)) _ _
        (jumps_to c stands (JumpZero t) at t rest refl refl (omega arith) stands.current)
        (pushes c stands (JumpZero t) at rest refl refl (omega arith) stands.current))
    moves (JumpNotZero t) at =
        let pops = valid.pops stands.path at in
        top_of (StepsTo r c) c.stack _ pops
        (λ v rest e. by_test (StepsTo r c) (int_eq v (pos 0)) _ _
        (pushes c stands (JumpNotZero t) at rest refl refl (omega arith) stands.current)
        (jumps_to c stands (JumpNotZero t) at t rest refl refl (omega arith) stands.current))
    moves (Pay l) at =
        paid c stands (Pay l) at c.fuel l c _ refl
        (λ k less. later_paid c stands (Pay l) at (record c { place = c.place + 1; fuel = k }) refl refl less (omega arith) stands.current refl refl)
    moves (Enter i) at =
        later c stands (Enter i) at (record c { place = c.place + 1; feeds = at_start i c.feeds }) refl refl refl refl (omega arith)
        (stays_current (with_come 0) i stands.delivered c.feeds stands.current) refl (rows-at_start i c.feeds)
    moves (Next l i t) at = delivered_by (has_next i c.feeds) refl
      where
        delivered_by : (b : Bool) → has_next i c.feeds ≡ b → StepsTo r c (deliver b l t (record c { feeds = at_next i c.feeds }))
        delivered_by true came =
            paid c stands (Next l i t) at c.fuel l (record c { feeds = at_next i c.feeds }) _ refl
            (λ k less. later_paid c stands (Next l i t) at (record c { place = c.place + 1; feeds = at_next i c.feeds; fuel = k }) refl refl less (omega arith)
            (comes_current i stands.delivered c.feeds stands.current came) refl (rows-at_next i c.feeds))
        delivered_by false none =
            to_target c stands (Next l i t) at (record c { place = t; feeds = at_next i c.feeds }) refl
            (let m = rank_most t (valid.lands c.place t (Next l i t) at refl) in omega arith)
            refl (omega arith) (stays_current with_more i stands.delivered c.feeds stands.current) refl (rows-at_next i c.feeds)
    moves (Leave i) at =
        later c stands (Leave i) at (record c { place = c.place + 1 }) refl refl refl refl (omega arith)
        (left_current i stands.delivered c.feeds stands.current) refl refl
    moves (Send m) at =
        let pops = valid.pops stands.path at in
        row_of (StepsTo r c) (slice_index r.widths.messages m) c.stack
        (λ row rest. next rest (record c { sent = c.sent ++ record { message = m; row = row } ∷ [] })) pops
        (λ row rest e. plain c stands (Send m) at rest c.locals c.memory (c.sent ++ record { message = m; row = row } ∷ []) c.born refl refl (omega arith) stands.current refl)
    moves (Bear a) at =
        let pops = valid.pops stands.path at in
        row_of (StepsTo r c) (slice_index r.widths.agents a) c.stack
        (λ row rest. next rest (record c { born = c.born ++ record { agent = a; row = row } ∷ [] })) pops
        (λ row rest e. plain c stands (Bear a) at rest c.locals c.memory c.sent (c.born ++ record { agent = a; row = row } ∷ []) refl refl (omega arith) stands.current refl)
    moves (Call l h n) at =
        let pops = valid.pops stands.path at in
        row_of (StepsTo r c) n c.stack _ pops
        (λ args rest e. paid c stands (Call l h n) at c.fuel l c (λ d. calls h args (record d { place = d.place + 1; stack = rest })) refl
        (λ k less. record {
          stands = λ v f. record {
            delivered = stands.delivered;
            path = goes stands.path at refl (let m : Moves r.widths (Call l h n) (length c.stack) (suc (length rest)) = omega arith in m);
            current = stands.current;
            memory = stands.memory;
            rows = stands.rows;
          };
          falls = λ f le. paid_falls c.place (c.place + 1) f c.fuel (more_code c.place (Call l h n) at refl) (omega arith);
          less = less;
          named = (l, n, at);
          rows = refl;
        }))
    moves Return at =
        let pops = valid.pops stands.path at in
        top_of (StepsTo r c) c.stack _ pops (λ v rest e. record { less = omega arith; rows = refl })

  -- paths lead to places of the code
  pub path_within : (p h : ℕ) (d : Delivered) → Path r p h d → p < length r.instrs
  path_within p h d starts = valid.some
  path_within p h d (goes {p = q} {i = i} path at on_ m) = more_code q i at on_
  path_within p h d (jumps {p = q} {t = t} {i = i} path at aims m) = valid.lands q t i at aims

  turns_to : (g : Given) (c : Config) → IsOnPath r c → StepsTo r c (step g r c)
  turns_to g c stands =
      let i = some_instr r.instrs c.place (path_within c.place (length c.stack) stands.delivered stands.path) in
      subst (λ o. StepsTo r c (act g r.widths o c)) (sym i.1) (moves g c stands i.0 i.1)

  -- ---- what steps keep

  pub not_stuck : (g : Given) (c : Config) → IsOnPath r c → step g r c ≢ stuck
  not_stuck g c stands e = subst (StepsTo r c) e (turns_to g c stands)

  module _ (g : Given) (c d : Config) (stands : IsOnPath r c) (e : step g r c ≡ on d) where
    goes_to : Goes r c d
    goes_to = subst (StepsTo r c) e (turns_to g c stands)

    pub on_stands : IsOnPath r d
    on_stands = goes_to.stands

    pub on_falls : left r d.place d.fuel < left r c.place c.fuel
    on_falls = goes_to.falls

    pub on_less : d.fuel ≤ c.fuel
    on_less = goes_to.less

  module _ (g : Given) (c d : Config) (h : ℕ) (args : List ℤ) (stands : IsOnPath r c) (e : step g r c ≡ calls h args d) where
    goes_back : GoesBack r c h d
    goes_back = subst (StepsTo r c) e (turns_to g c stands)

    pub back_stands : (v : ℤ) (f : ℕ) → IsOnPath r (resumed v f d)
    back_stands = goes_back.stands

    pub back_falls : (f : ℕ) → f ≤ d.fuel → left r d.place f < left r c.place c.fuel
    back_falls = goes_back.falls

    pub back_less : d.fuel < c.fuel
    back_less = goes_back.less

    pub back_named : (line n : ℕ) × (slice_get r.instrs c.place ≡ Some (Call line h n))
    back_named = goes_back.named

  module _ (g : Given) (c d : Config) (v : ℤ) (stands : IsOnPath r c) (e : step g r c ≡ over (returned v d)) where
    leaves_it : Leaves c d
    leaves_it = subst (StepsTo r c) e (turns_to g c stands)

    pub over_less : d.fuel ≤ c.fuel
    over_less = leaves_it.less
