-- Operators and signs, by the lists in which they stand.
use Rattle.std.proofs.Common.{◌≡◌, ℕ, zero, suc, List, [], ◌∷◌, ◌++◌, refl, subst, Bool, true, false, Option, Some, None}
use Rattle.std.specs.Prelude.{is_some, not}
use Rattle.std.proofs.lemmas.Bool.{false≢true}
use Rattle.flame_ops.specs.declared.integers.Op.{Op}
use Rattle.flame_spec.specs.declared.trees.SignKind.{SignKind}
use Rattle.flame_expr.specs.declared.lexemes.Lexeme.{Lexeme}
use Rattle.flame_expr.specs.OperatorLevels.{operators, signs, joins, op_of, sign_of}
use Rattle.flame_expr.proofs.LexemeFacts.{or, same, same_equal, among, everywhere}

-- each of these lexemes is so
abbrev pub Each : (Lexeme → Type 0) → List Lexeme → Type 0
Each P [] = Unit {0}
Each P (l ∷ ls) = P l × Each P ls

one_of_two :
    (P : Lexeme → Type 0) (l d : Lexeme) (here there : Bool)
    → same l d ≡ here
    → P l
    → (there ≡ true → P d)
    → or here there ≡ true
    → P d
one_of_two P l d true there is first more e = subst P (same_equal l d is) first
one_of_two P l d false there is first more e = more e

pub of_each : (P : Lexeme → Type 0) (ls : List Lexeme) (d : Lexeme) → Each P ls → among d ls ≡ true → P d
of_each P [] d each e = absurd (false≢true e)
of_each P (l ∷ ls) d each e = one_of_two P l d (same l d) (among d ls) refl each.0 (of_each P ls d each.1) e

-- where there is something, the other holds
other : {X : Type 0} (x : Option X) (y : X) (b : Bool) → x ≡ Some y → or (not (is_some x)) b ≡ true → b ≡ true
other (Some z) y b is h = h
other None y b is h = cc

abbrev listed : ℕ → Lexeme → Bool
listed k d = or (not (is_some (op_of k d))) (among d (operators k))

pub op_among : (k : ℕ) (d : Lexeme) (o : Op) → op_of k d ≡ Some o → among d (operators k) ≡ true
op_among zero d o e = other (op_of 0 d) o (among d (operators 0)) e (everywhere (listed 0) refl d)
op_among (suc zero) d o e = other (op_of 1 d) o (among d (operators 1)) e (everywhere (listed 1) refl d)
op_among (suc (suc zero)) d o e = other (op_of 2 d) o (among d (operators 2)) e (everywhere (listed 2) refl d)
op_among (suc (suc (suc zero))) d o e = other (op_of 3 d) o (among d (operators 3)) e (everywhere (listed 3) refl d)
op_among (suc (suc (suc (suc k)))) d o e = cc

abbrev sign_listed : Lexeme → Bool
sign_listed d = or (not (is_some (sign_of d))) (among d signs)

pub sign_among : (d : Lexeme) (s : SignKind) → sign_of d ≡ Some s → among d signs ≡ true
sign_among d s e = other (sign_of d) s (among d signs) e (everywhere sign_listed refl d)

among_behind : (d : Lexeme) (xs ys : List Lexeme) → among d ys ≡ true → among d (xs ++ ys) ≡ true
among_behind d [] ys h = h
among_behind d (x ∷ xs) ys h = either (same x d) (among_behind d xs ys h)
  where
    either : (a : Bool) {b : Bool} → b ≡ true → or a b ≡ true
    either true is = refl
    either false is = is

-- an operator of a level joins nothing below it, and joins the level
pub op_stops : (k : ℕ) (d : Lexeme) (o : Op) → op_of k d ≡ Some o → among d (joins k) ≡ false
op_stops zero d o e =
    of_each (λ l. among l (joins 0) ≡ false) (operators 0) d (refl, (refl, (refl, tt))) (op_among 0 d o e)
op_stops (suc zero) d o e =
    of_each (λ l. among l (joins 1) ≡ false) (operators 1) d (refl, (refl, tt)) (op_among 1 d o e)
op_stops (suc (suc zero)) d o e =
    of_each (λ l. among l (joins 2) ≡ false) (operators 2) d (refl, (refl, (refl, (refl, tt)))) (op_among 2 d o e)
op_stops (suc (suc (suc zero))) d o e =
    of_each (λ l. among l (joins 3) ≡ false) (operators 3) d (refl, (refl, tt)) (op_among 3 d o e)
op_stops (suc (suc (suc (suc k)))) d o e = cc

pub op_joins : (k : ℕ) (d : Lexeme) (o : Op) → op_of k d ≡ Some o → among d (joins (suc k)) ≡ true
op_joins k d o e = among_behind d (joins k) (operators k) (op_among k d o e)
