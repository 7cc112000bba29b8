-- How parts that are read from place to place make longer ones.
use Rattle.std.proofs.Common.{◌≡◌, ℕ, ◌+◌, ◌≤◌, List, [], ◌∷◌, length, drop, sym, subst, arith, true, Result, Ok, Err, IfErr, IsErrAnd}
use Rattle.flame_lex.specs.declared.token.Token.{Token}
use Rattle.flame_expr.specs.declared.lexemes.Lexeme.{Lexeme}
use Rattle.flame_rows.specs.declared.fails.Fail.{Fail}
use Rattle.flame_expr.specs.declared.faults.ParseFault.{ParseFault}
use Rattle.flame_expr.specs.Lexemes.{first, is_real}
use Rattle.flame_expr.specs.ViablePrefixes.{Form, Symbol, form, both, right_side, left, Goes, expand, in_turn}
use Rattle.flame_expr.specs.ReadParts.{onto, Passes, Halts, Ended, Stopped, Fails}
use Rattle.flame_expr.proofs.Walk.{at_form, at_both}
use Rattle.flame_expr.proofs.Parts.{PassesAny, HaltsAny, any_pass, one_pass, any_halt, one_halt, any_heads, pasts, clean, none, ends_here, joins_on, fine, enter_pass, enter_halt, pass_here, halt_here, pass_then, halt_then, halt_before, pass_weaker, halt_weaker, nothing_pass}
use Rattle.flame_expr.proofs.Places.{behind-drop, fails_weaker}

-- one of some rests is read up to a place, or stops there
pub record EndedAny (J : List Lexeme) (A : List (List Symbol)) (tokens : List Token) (at end : ℕ) : Type 0 where
  pub ahead : at ≤ end
  pub within : end ≤ length tokens
  pub passes : PassesAny J A (drop at tokens) (drop end tokens)

pub record StoppedAny (J : List Lexeme) (A : List (List Symbol)) (tokens : List Token) (at stop : ℕ) : Type 0 where
  pub ahead : at ≤ stop
  pub within : stop ≤ length tokens
  pub halts : HaltsAny J A (drop at tokens) (drop stop tokens)

pub any_ended : {J : List Lexeme} {X : List Symbol} {tokens : List Token} {at end : ℕ} → Ended J X tokens at end → EndedAny J (X ∷ []) tokens at end
any_ended {J} {X} {tokens} {at} {end} p = record { ahead = p.ahead; within = p.within; passes = any_pass J X (drop at tokens) (drop end tokens) p.passes }

pub one_ended : {J : List Lexeme} {X : List Symbol} {tokens : List Token} {at end : ℕ} → EndedAny J (X ∷ []) tokens at end → Ended J X tokens at end
one_ended {J} {X} {tokens} {at} {end} p = record { ahead = p.ahead; within = p.within; passes = one_pass J X (drop at tokens) (drop end tokens) p.passes }

pub any_stopped : {J : List Lexeme} {X : List Symbol} {tokens : List Token} {at stop : ℕ} → Stopped J X tokens at stop → StoppedAny J (X ∷ []) tokens at stop
any_stopped {J} {X} {tokens} {at} {stop} p = record { ahead = p.ahead; within = p.within; halts = any_halt J X (drop at tokens) (drop stop tokens) p.halts }

pub one_stopped : {J : List Lexeme} {X : List Symbol} {tokens : List Token} {at stop : ℕ} → StoppedAny J (X ∷ []) tokens at stop → Stopped J X tokens at stop
one_stopped {J} {X} {tokens} {at} {stop} p = record { ahead = p.ahead; within = p.within; halts = one_halt J X (drop at tokens) (drop stop tokens) p.halts }

-- past the lexeme that stands there
pub enter_ended : (J : List Lexeme) (A : List (List Symbol)) (tokens : List Token) (at end : ℕ) (a : Lexeme) → is_real a ≡ true → clean
    (any_heads A a) (joins_on a J) ≡ true → first (drop at tokens) ≡ a → EndedAny J (pasts (any_heads A a)) tokens (at + 1) end → EndedAny J A tokens at
    end
enter_ended J A tokens at end a r c f p = record {
  ahead = omega (arith, p.ahead);
  within = p.within;
  passes = enter_pass J A (drop at tokens) (drop end tokens) a r c f (subst (λ ts. PassesAny J (pasts (any_heads A a)) ts (drop end tokens)) (sym (behind-drop tokens at)) p.passes);
}

pub enter_stopped : (J : List Lexeme) (A : List (List Symbol)) (tokens : List Token) (at stop : ℕ) (a : Lexeme) → is_real a ≡ true → clean
    (any_heads A a) (joins_on a J) ≡ true → first (drop at tokens) ≡ a → StoppedAny J (pasts (any_heads A a)) tokens (at + 1) stop → StoppedAny J A
    tokens at stop
enter_stopped J A tokens at stop a r c f p = record {
  ahead = omega (arith, p.ahead);
  within = p.within;
  halts = enter_halt J A (drop at tokens) (drop stop tokens) a r c f (subst (λ ts. HaltsAny J (pasts (any_heads A a)) ts (drop stop tokens)) (sym (behind-drop tokens at)) p.halts);
}

pub here_ended : (J : List Lexeme) (A : List (List Symbol)) (tokens : List Token) (at : ℕ) → at ≤ length tokens → ends_here (any_heads A (first (drop at tokens))) ≡ true → EndedAny J A tokens at at
here_ended J A tokens at l c = record { ahead = omega arith; within = l; passes = pass_here J A (drop at tokens) c }

pub here_stopped : (J : List Lexeme) (X : List Symbol) (A : List (List Symbol)) (tokens : List Token) (at : ℕ) → at ≤ length tokens → none
    (any_heads (X ∷ A) (first (drop at tokens))) ≡ true → StoppedAny J (X ∷ A) tokens at at
here_stopped J X A tokens at l c = record { ahead = omega arith; within = l; halts = halt_here J (X ∷ A) (drop at tokens) (omega arith) c }

-- one part after another
pub ended_then : (J G : List Lexeme) (X Y : List Symbol) (tokens : List Token) (at mid end : ℕ) → fine J G Y ≡ true → Ended J X tokens at mid → Ended
    G Y tokens mid end → Ended G (onto X Y) tokens at end
ended_then J G X Y tokens at mid end c p q = record {
  ahead = omega (arith, p.ahead, q.ahead);
  within = q.within;
  passes = pass_then J G X Y (drop at tokens) (drop mid tokens) (drop end tokens) c p.passes q.passes;
}

pub stopped_then : (J G : List Lexeme) (X Y : List Symbol) (tokens : List Token) (at mid stop : ℕ) → fine J G Y ≡ true → Ended J X tokens at mid →
    Stopped G Y tokens mid stop → Stopped G (onto X Y) tokens at stop
stopped_then J G X Y tokens at mid stop c p q = record {
  ahead = omega (arith, p.ahead, q.ahead);
  within = q.within;
  halts = halt_then J G X Y (drop at tokens) (drop mid tokens) (drop stop tokens) c p.passes q.halts;
}

pub stopped_before : (J G : List Lexeme) (X Y : List Symbol) (tokens : List Token) (at stop : ℕ) → fine J G Y ≡ true → Stopped J X tokens at stop → Stopped G (onto X Y) tokens at stop
stopped_before J G X Y tokens at stop c p = record { ahead = p.ahead; within = p.within; halts = halt_before J G X Y (drop at tokens) (drop stop tokens) c p.halts }

pub ended_weaker : (J G : List Lexeme) (X : List Symbol) (tokens : List Token) (at end : ℕ) → fine J G [] ≡ true → Ended J X tokens at end → Ended G X tokens at end
ended_weaker J G X tokens at end c p = record { ahead = p.ahead; within = p.within; passes = pass_weaker J G X (drop at tokens) (drop end tokens) c p.passes }

pub stopped_weaker : (J G : List Lexeme) (X : List Symbol) (tokens : List Token) (at stop : ℕ) → fine J G [] ≡ true → Stopped J X tokens at stop → Stopped G X tokens at stop
stopped_weaker J G X tokens at stop c p = record { ahead = p.ahead; within = p.within; halts = halt_weaker J G X (drop at tokens) (drop stop tokens) c p.halts }

pub nothing_ended : (J : List Lexeme) (tokens : List Token) (at : ℕ) → at ≤ length tokens → Ended J [] tokens at at
nothing_ended J tokens at l = record { ahead = omega arith; within = l; passes = nothing_pass J (drop at tokens) }

-- by the lexeme that begins it, which leaves one rest
pub begin_ended : (J : List Lexeme) (X Y : List Symbol) (tokens : List Token) (at end : ℕ) (a : Lexeme) → is_real a ≡ true → clean
    (any_heads (X ∷ []) a) (joins_on a J) ≡ true → pasts (any_heads (X ∷ []) a) ≡ Y ∷ [] → first (drop at tokens) ≡ a → Ended J Y tokens (at + 1) end →
    Ended J X tokens at end
begin_ended J X Y tokens at end a r c g f p = one_ended (enter_ended J (X ∷ []) tokens at end a r c f (subst (λ A. EndedAny J A tokens (at + 1) end) (sym g) (any_ended p)))

pub begin_stopped : (J : List Lexeme) (X Y : List Symbol) (tokens : List Token) (at stop : ℕ) (a : Lexeme) → is_real a ≡ true → clean
    (any_heads (X ∷ []) a) (joins_on a J) ≡ true → pasts (any_heads (X ∷ []) a) ≡ Y ∷ [] → first (drop at tokens) ≡ a → Stopped J Y tokens (at + 1) stop
    → Stopped J X tokens at stop
begin_stopped J X Y tokens at stop a r c g f p = one_stopped (enter_stopped J (X ∷ []) tokens at stop a r c f (subst (λ A. StoppedAny J A tokens (at + 1) stop) (sym g) (any_stopped p)))

-- a nonterminal by its right side, where that is two parts in turn
pub form_passes : (J : List Lexeme) (n : Form) (x y : Symbol) (ts mid : List Token) → right_side n ≡ both x y → Passes J (x ∷ y ∷ []) ts mid → Passes J (form n ∷ []) ts mid
form_passes J n x y ts mid f p = record {
  shorter = p.shorter;
  goes = λ K e h. expand (subst (λ z. Goes (z ∷ K) ts e) (sym f) (in_turn (p.goes K e h)));
  bound = λ K e b h. p.bound K e b (at_both (subst (λ z. Goes (z ∷ K) ts e) f (at_form h)));
}

pub form_halts : (J : List Lexeme) (n : Form) (x y : Symbol) (ts stop : List Token) → right_side n ≡ both x y → Halts J (x ∷ y ∷ []) ts stop → Halts J (form n ∷ []) ts stop
form_halts J n x y ts stop f p = record {
  shorter = p.shorter;
  goes = λ K. expand (subst (λ z. Goes (z ∷ K) ts (left stop)) (sym f) (in_turn (p.goes K)));
  bound = λ K e b h. p.bound K e b (at_both (subst (λ z. Goes (z ∷ K) ts e) f (at_form h)));
}

pub form_ended : (J : List Lexeme) (n : Form) (x y : Symbol) (tokens : List Token) (at end : ℕ) → right_side n ≡ both x y → Ended J (x ∷ y ∷ []) tokens at end → Ended J (form n ∷ []) tokens at end
form_ended J n x y tokens at end f p = record { ahead = p.ahead; within = p.within; passes = form_passes J n x y (drop at tokens) (drop end tokens) f p.passes }

pub form_stopped : (J : List Lexeme) (n : Form) (x y : Symbol) (tokens : List Token) (at stop : ℕ) → right_side n ≡ both x y → Stopped J (x ∷ y ∷ [])
    tokens at stop → Stopped J (form n ∷ []) tokens at stop
form_stopped J n x y tokens at stop f p = record { ahead = p.ahead; within = p.within; halts = form_halts J n x y (drop at tokens) (drop stop tokens) f p.halts }

-- an error that is passed on
pub stops_by : {T : Type 0} {P Q : ℕ → Type 0} (r : Result T (Fail ParseFault)) (f : Fail ParseFault) → IsErrAnd r (λ e. e ≡ f) → ((n : ℕ) → P n → Q n) → Fails f P → IfErr r (λ e. Fails e Q)
stops_by (Ok x) f i g h = tt
stops_by {T} {P} {Q} (Err e) f i g h = subst (λ x. Fails x Q) (sym i) (fails_weaker f g h)
