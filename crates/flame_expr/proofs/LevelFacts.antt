-- The levels of operators.
use Rattle.std.proofs.Common.{◌≡◌, ℕ, zero, suc, ◌<◌, [], ◌∷◌, refl, sym, arith, Bool, true, false, Some, None}
use Rattle.std.specs.Prelude.{is_some, not, Option}
use Rattle.std.proofs.lemmas.Bool.{false≢true, not-true}
use Rattle.flame_ops.specs.declared.integers.Op.{Op}
use Rattle.flame_spec.specs.declared.trees.SignKind.{SignKind}
use Rattle.flame_expr.specs.declared.lexemes.Lexeme.{Lexeme}
use Rattle.flame_expr.specs.declared.lexemes.Lexeme.TheVariants.{Nothing}
use Rattle.flame_expr.specs.Lexemes.{is_real}
use Rattle.flame_expr.specs.OperatorLevels.{operators, signs, op_of, sign_of, joins}
use Rattle.flame_expr.specs.ViablePrefixes.{form, level, one_of, many, tail}
use Rattle.flame_expr.proofs.LexemeFacts.{or, among, everywhere}
use Rattle.flame_expr.proofs.Operators.{of_each, op_among, sign_among}
use Rattle.flame_expr.proofs.Parts.{any_heads, pasts, clean, ends_here, joins_on, fine}

-- what joins a level, and more joins the next one
pub fine_tail : (k : ℕ) → k < 6 → fine (joins k) (joins (suc k)) (tail k ∷ []) ≡ true
fine_tail zero h = refl
fine_tail (suc zero) h = refl
fine_tail (suc (suc zero)) h = refl
fine_tail (suc (suc (suc zero))) h = refl
fine_tail (suc (suc (suc (suc zero)))) h = refl
fine_tail (suc (suc (suc (suc (suc zero))))) h = refl
fine_tail (suc (suc (suc (suc (suc (suc k)))))) h = absurd (omega arith)

-- one more operator of the level
abbrev pub Enters : ℕ → Lexeme → Type 0
Enters k d =
    (is_real d ≡ true)
    × (clean (any_heads ((tail k ∷ []) ∷ []) d) (joins_on d (joins (suc k))) ≡ true)
    × (pasts (any_heads ((tail k ∷ []) ∷ []) d) ≡ (form (level k) ∷ tail k ∷ []) ∷ [])

pub enters_tail : (k : ℕ) (d : Lexeme) (o : Op) → op_of k d ≡ Some o → Enters k d
enters_tail zero d o e =
    of_each (Enters 0) (operators 0) d ((refl, refl, refl), ((refl, refl, refl), ((refl, refl, refl), tt))) (op_among 0 d o e)
enters_tail (suc zero) d o e =
    of_each (Enters 1) (operators 1) d ((refl, refl, refl), ((refl, refl, refl), tt)) (op_among 1 d o e)
enters_tail (suc (suc zero)) d o e =
    of_each (Enters 2) (operators 2) d
    ((refl, refl, refl), ((refl, refl, refl), ((refl, refl, refl), ((refl, refl, refl), tt))))
    (op_among 2 d o e)
enters_tail (suc (suc (suc zero))) d o e =
    of_each (Enters 3) (operators 3) d ((refl, refl, refl), ((refl, refl, refl), tt)) (op_among 3 d o e)
enters_tail (suc (suc (suc (suc k)))) d o e = cc

-- no further operator of the level
abbrev no_op : ℕ → Lexeme → Bool
no_op k d = or (among d (operators k)) (ends_here (any_heads ((tail k ∷ []) ∷ []) d))

ends : (k : ℕ) → k < 6 → (d : Lexeme) → no_op k d ≡ true
ends zero h = everywhere (no_op 0) refl
ends (suc zero) h = everywhere (no_op 1) refl
ends (suc (suc zero)) h = everywhere (no_op 2) refl
ends (suc (suc (suc zero))) h = everywhere (no_op 3) refl
ends (suc (suc (suc (suc zero)))) h = everywhere (no_op 4) refl
ends (suc (suc (suc (suc (suc zero))))) h = everywhere (no_op 5) refl
ends (suc (suc (suc (suc (suc (suc k)))))) h = absurd (omega arith)

pub or_right : (a b : Bool) → or a b ≡ true → a ≡ false → b ≡ true
or_right true b h e = absurd (false≢true (sym e))
or_right false b h e = h

pub tail_ends : (k : ℕ) (d : Lexeme) → k < 6 → among d (operators k) ≡ false → ends_here (any_heads ((tail k ∷ []) ∷ []) d) ≡ true
tail_ends k d h n = or_right (among d (operators k)) (ends_here (any_heads ((tail k ∷ []) ∷ []) d)) (ends k h d) n

nothing : {X : Type 0} (x : Option X) (b : Bool) → x ≡ None → or (is_some x) b ≡ true → b ≡ true
nothing None b is h = h
nothing (Some y) b is h = cc

-- a lexeme with no operator in a chain of this level
abbrev unlisted : ℕ → Lexeme → Bool
unlisted k d = or (is_some (op_of k d)) (not (among d (operators k)))

pub none_among : (k : ℕ) (d : Lexeme) → k < 4 → op_of k d ≡ None → among d (operators k) ≡ false
none_among zero d h e = not-true _ (nothing (op_of 0 d) _ e (everywhere (unlisted 0) refl d))
none_among (suc zero) d h e = not-true _ (nothing (op_of 1 d) _ e (everywhere (unlisted 1) refl d))
none_among (suc (suc zero)) d h e = not-true _ (nothing (op_of 2 d) _ e (everywhere (unlisted 2) refl d))
none_among (suc (suc (suc zero))) d h e = not-true _ (nothing (op_of 3 d) _ e (everywhere (unlisted 3) refl d))
none_among (suc (suc (suc (suc k)))) d h e = absurd (omega arith)

pub sign_real : (d : Lexeme) (s : SignKind) → sign_of d ≡ Some s → is_real d ≡ true
sign_real Nothing s e = cc
sign_real d s e = refl

-- signs
abbrev pub EntersSigns : Lexeme → Type 0
EntersSigns d =
    (is_real d ≡ true)
    × (clean (any_heads ((many (one_of signs) ∷ []) ∷ []) d) (joins_on d signs) ≡ true)
    × (pasts (any_heads ((many (one_of signs) ∷ []) ∷ []) d) ≡ (many (one_of signs) ∷ []) ∷ [])

pub enters_signs : (d : Lexeme) (s : SignKind) → sign_of d ≡ Some s → EntersSigns d
enters_signs d s e =
    of_each EntersSigns signs d ((refl, refl, refl), ((refl, refl, refl), ((refl, refl, refl), tt))) (sign_among d s e)

abbrev no_sign : Lexeme → Bool
no_sign d = or (is_some (sign_of d)) (ends_here (any_heads ((many (one_of signs) ∷ []) ∷ []) d))

pub signs_end : (d : Lexeme) → sign_of d ≡ None → ends_here (any_heads ((many (one_of signs) ∷ []) ∷ []) d) ≡ true
signs_end d e = nothing (sign_of d) _ e (everywhere no_sign refl d)
