-- What a first step can have been.
use Rattle.std.proofs.Common.{◌≡◌, ◌⊎◌, inl, inr, ◌<◌, List, [], ◌∷◌, length, refl, arith}
use Rattle.flame_lex.specs.declared.token.Token.{Token}
use Rattle.flame_expr.specs.declared.lexemes.Lexeme.{Lexeme}
use Rattle.flame_expr.specs.Lexemes.{first, behind}
use Rattle.flame_expr.specs.ViablePrefixes.{Form, Symbol, lexeme, form, both, either, one_of, maybe, many, right_side, End, left, Goes, stay, match, expand, in_turn, first_part, second_part, this, later, with_it, without, more, enough}

pub at_form : {n : Form} {K : List Symbol} {ts : List Token} {e : End} → Goes (form n ∷ K) ts e → Goes (right_side n ∷ K) ts e
at_form stay = stay
at_form (expand h) = h

pub at_both : {x y : Symbol} {K : List Symbol} {ts : List Token} {e : End} → Goes (both x y ∷ K) ts e → Goes (x ∷ y ∷ K) ts e
at_both stay = stay
at_both (in_turn h) = h

pub at_either : {x y : Symbol} {K : List Symbol} {ts : List Token} {e : End} → Goes (either x y ∷ K) ts e → Goes (x ∷ K) ts e ⊎ Goes (y ∷ K) ts e
at_either stay = inl stay
at_either (first_part h) = inl h
at_either (second_part h) = inr h

pub at_maybe : {x : Symbol} {K : List Symbol} {ts : List Token} {e : End} → Goes (maybe x ∷ K) ts e → Goes (x ∷ K) ts e ⊎ Goes K ts e
at_maybe stay = inl stay
at_maybe (with_it h) = inl h
at_maybe (without h) = inr h

pub at_many : {x : Symbol} {K : List Symbol} {ts : List Token} {e : End} → Goes (many x ∷ K) ts e → Goes (x ∷ many x ∷ K) ts e ⊎ Goes K ts e
at_many stay = inl stay
at_many (more h) = inl h
at_many (enough h) = inr h

pub at_one : {l : Lexeme} {ls : List Lexeme} {K : List Symbol} {ts : List Token} {e : End} → Goes (one_of (l ∷ ls) ∷ K) ts e → Goes (lexeme l ∷ K) ts e ⊎ Goes (one_of ls ∷ K) ts e
at_one stay = inl stay
at_one (this h) = inl h
at_one (later h) = inr h

pub none_of : {K : List Symbol} {ts : List Token} {e : End} → Goes (one_of [] ∷ K) ts e → e ≡ left ts
none_of stay = refl

pub at_lexeme : {l : Lexeme} {K : List Symbol} {ts : List Token} {e : End} → Goes (lexeme l ∷ K) ts e → (e ≡ left ts) ⊎ ((0 < length ts) × (first ts ≡ l) × Goes K (behind ts) e)
at_lexeme stay = inl refl
at_lexeme (match f h) = inr (omega arith, f, h)
