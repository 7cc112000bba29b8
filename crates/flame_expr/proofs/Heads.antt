-- The rests that are left once the next lexeme is matched, computed.
use Rattle.std.proofs.Common.{◌≡◌, ◌⊎◌, inl, inr, ℕ, zero, suc, List, [], ◌∷◌, refl, sym, ap, ◌∙◌, Bool, true, false}
use Rattle.std.proofs.lemmas.Bool.{false≢true}
use Rattle.flame_lex.specs.declared.token.Token.{Token}
use Rattle.flame_expr.specs.declared.lexemes.Lexeme.{Lexeme}
use Rattle.flame_expr.specs.Lexemes.{first, behind, is_real}
use Rattle.flame_expr.specs.ViablePrefixes.{Symbol, lexeme, form, both, either, one_of, maybe, many, right_side, End, left, Goes, match, expand, in_turn, first_part, second_part, this, later, with_it, without, more, enough}
use Rattle.flame_expr.specs.ReadParts.{onto}
use Rattle.flame_expr.proofs.LexemeFacts.{same, same_equal, same_self}
use Rattle.flame_expr.proofs.Walk.{at_form, at_both, at_either, at_maybe, at_many, at_one, none_of, at_lexeme}

-- the lexeme is matched and this is left before what follows; or what follows has to match it; or nothing is known
pub data Head : Type 0 where
  past : List Symbol → Head
  through : Head
  unknown : List Symbol → Head

-- what is left behind a lexeme, which may be no token's, and may be the next one
abbrev pub if_fits : Bool → Bool → Lexeme → List Symbol → List Head
if_fits false b l X = unknown (lexeme l ∷ X) ∷ []
if_fits true true l X = past X ∷ []
if_fits true false l X = []

-- two lists, end to end
abbrev pub joined : {X : Type 0} → List X → List X → List X
joined [] ys = ys
joined (x ∷ xs) ys = x ∷ joined xs ys

abbrev pub heads : ℕ → List Symbol → Lexeme → List Head
heads zero X d = unknown X ∷ []
heads (suc f) [] d = through ∷ []
heads (suc f) (lexeme l ∷ X) d = if_fits (is_real l) (same l d) l X
heads (suc f) (form n ∷ X) d = heads f (right_side n ∷ X) d
heads (suc f) (both x y ∷ X) d = heads f (x ∷ y ∷ X) d
heads (suc f) (either x y ∷ X) d = joined (heads f (x ∷ X) d) (heads f (y ∷ X) d)
heads (suc f) (one_of [] ∷ X) d = []
heads (suc f) (one_of (l ∷ ls) ∷ X) d = joined (heads f (lexeme l ∷ X) d) (heads f (one_of ls ∷ X) d)
heads (suc f) (maybe x ∷ X) d = joined (heads f (x ∷ X) d) (heads f X d)
heads (suc f) (many x ∷ X) d = joined (heads f (x ∷ many x ∷ X) d) (heads f X d)

-- steps from a head
abbrev pub This : Head → List Symbol → List Token → End → Type 0
This (past X) K ts e = Goes (onto X K) (behind ts) e
This through K ts e = Goes K ts e
This (unknown X) K ts e = Goes (onto X K) ts e

-- steps from one of the heads
abbrev pub One : List Head → List Symbol → List Token → End → Type 0
One [] K ts e = ⊥
One (h ∷ hs) K ts e = This h K ts e ⊎ One hs K ts e

pub one_left : (xs ys : List Head) (K : List Symbol) (ts : List Token) (e : End) → One xs K ts e → One (joined xs ys) K ts e
one_left [] ys K ts e h = absurd h
one_left (x ∷ xs) ys K ts e h = elim h [ inl i ↦ inl i | inr i ↦ inr (one_left xs ys K ts e i) ]

pub one_right : (xs ys : List Head) (K : List Symbol) (ts : List Token) (e : End) → One ys K ts e → One (joined xs ys) K ts e
one_right [] ys K ts e h = h
one_right (x ∷ xs) ys K ts e h = inr (one_right xs ys K ts e h)

pub one_apart : (xs ys : List Head) (K : List Symbol) (ts : List Token) (e : End) → One (joined xs ys) K ts e → One xs K ts e ⊎ One ys K ts e
one_apart [] ys K ts e h = inr h
one_apart (x ∷ xs) ys K ts e h = elim h [ inl i ↦ inl (inl i) | inr i ↦ elim (one_apart xs ys K ts e i) [ inl j ↦ inl (inr j) | inr j ↦ inr j ] ]

abbrev pub Heads : List Head → List Symbol → List Token → End → Type 0
Heads hs K ts e = (e ≡ left ts) ⊎ One hs K ts e

pub left_heads : (xs ys : List Head) (K : List Symbol) (ts : List Token) (e : End) → Heads xs K ts e → Heads (joined xs ys) K ts e
left_heads xs ys K ts e h = elim h [ inl l ↦ inl l | inr i ↦ inr (one_left xs ys K ts e i) ]

pub right_heads : (xs ys : List Head) (K : List Symbol) (ts : List Token) (e : End) → Heads ys K ts e → Heads (joined xs ys) K ts e
right_heads xs ys K ts e h = elim h [ inl l ↦ inl l | inr i ↦ inr (one_right xs ys K ts e i) ]

fitting : (r b : Bool) (l : Lexeme) (X K : List Symbol) (ts : List Token) (e : End) → b ≡ true → Goes (lexeme l ∷ onto X K) ts e → Goes (onto X K) (behind ts) e → One (if_fits r b l X) K ts e
fitting false b l X K ts e f g h = inl g
fitting true true l X K ts e f g h = inl h
fitting true false l X K ts e f g h = absurd (false≢true f)

pub matched : (l : Lexeme) (K : List Symbol) (ts : List Token) (e : End) → is_real l ≡ true → l ≡ first ts → Goes K (behind ts) e → Goes (lexeme l ∷ K) ts e
matched l K [] e r f h = absurd (false≢true (ap is_real (sym f) ∙ r))
matched l K (token ∷ ts) e r f h = match (sym f) h

fitted : (r b : Bool) (l : Lexeme) (X K : List Symbol) (ts : List Token) (e : End) → is_real l ≡ r → same l (first ts) ≡ b → One (if_fits r b l X) K ts e → Goes (lexeme l ∷ onto X K) ts e
fitted false b l X K ts e r f h = elim h [ inl i ↦ i | inr i ↦ absurd i ]
fitted true true l X K ts e r f h = matched l (onto X K) ts e r (same_equal l (first ts) f) (elim h [ inl i ↦ i | inr i ↦ absurd i ])
fitted true false l X K ts e r f h = absurd h

same_first : (l d : Lexeme) → d ≡ l → same l d ≡ true
same_first l d f = rw f (same_self l)

-- steps forwards: they end here, or go on from one of the heads
pub all_heads : (f : ℕ) (X K : List Symbol) (ts : List Token) (e : End) → Goes (onto X K) ts e → Heads (heads f X (first ts)) K ts e
all_heads zero X K ts e h = inr (inl h)
all_heads (suc f) [] K ts e h = inr (inl h)
all_heads (suc f) (lexeme l ∷ X) K ts e h = elim (at_lexeme h) [ inl n ↦ inl n | inr p ↦ inr (fitting (is_real l) (same l (first ts)) l X K ts e (same_first l (first ts) p.1) h p.2) ]
all_heads (suc f) (form n ∷ X) K ts e h = all_heads f (right_side n ∷ X) K ts e (at_form h)
all_heads (suc f) (both x y ∷ X) K ts e h = all_heads f (x ∷ y ∷ X) K ts e (at_both h)
all_heads (suc f) (either x y ∷ X) K ts e h = elim (at_either h) [
  | inl i ↦ left_heads _ _ K ts e (all_heads f (x ∷ X) K ts e i)
  | inr i ↦ right_heads (heads f (x ∷ X) (first ts)) _ K ts e (all_heads f (y ∷ X) K ts e i)
]
all_heads (suc f) (one_of [] ∷ X) K ts e h = inl (none_of h)
all_heads (suc f) (one_of (l ∷ ls) ∷ X) K ts e h = elim (at_one h) [
  | inl i ↦ left_heads _ _ K ts e (all_heads f (lexeme l ∷ X) K ts e i)
  | inr i ↦ right_heads (heads f (lexeme l ∷ X) (first ts)) _ K ts e (all_heads f (one_of ls ∷ X) K ts e i)
]
all_heads (suc f) (maybe x ∷ X) K ts e h = elim (at_maybe h) [
  | inl i ↦ left_heads _ _ K ts e (all_heads f (x ∷ X) K ts e i)
  | inr i ↦ right_heads (heads f (x ∷ X) (first ts)) _ K ts e (all_heads f X K ts e i)
]
all_heads (suc f) (many x ∷ X) K ts e h = elim (at_many h) [
  | inl i ↦ left_heads _ _ K ts e (all_heads f (x ∷ many x ∷ X) K ts e i)
  | inr i ↦ right_heads (heads f (x ∷ many x ∷ X) (first ts)) _ K ts e (all_heads f X K ts e i)
]

-- backwards: what goes on from a head, as steps
pub from_heads : (f : ℕ) (X K : List Symbol) (ts : List Token) (e : End) → One (heads f X (first ts)) K ts e → Goes (onto X K) ts e
from_heads zero X K ts e h = elim h [ inl i ↦ i | inr i ↦ absurd i ]
from_heads (suc f) [] K ts e h = elim h [ inl i ↦ i | inr i ↦ absurd i ]
from_heads (suc f) (lexeme l ∷ X) K ts e h = fitted (is_real l) (same l (first ts)) l X K ts e refl refl h
from_heads (suc f) (form n ∷ X) K ts e h = expand (from_heads f (right_side n ∷ X) K ts e h)
from_heads (suc f) (both x y ∷ X) K ts e h = in_turn (from_heads f (x ∷ y ∷ X) K ts e h)
from_heads (suc f) (either x y ∷ X) K ts e h = elim (one_apart (heads f (x ∷ X) (first ts)) _ K ts e h) [
  | inl i ↦ first_part (from_heads f (x ∷ X) K ts e i)
  | inr i ↦ second_part (from_heads f (y ∷ X) K ts e i)
]
from_heads (suc f) (one_of [] ∷ X) K ts e h = absurd h
from_heads (suc f) (one_of (l ∷ ls) ∷ X) K ts e h = elim (one_apart (heads f (lexeme l ∷ X) (first ts)) _ K ts e h) [
  | inl i ↦ this (from_heads f (lexeme l ∷ X) K ts e i)
  | inr i ↦ later (from_heads f (one_of ls ∷ X) K ts e i)
]
from_heads (suc f) (maybe x ∷ X) K ts e h = elim (one_apart (heads f (x ∷ X) (first ts)) _ K ts e h) [
  | inl i ↦ with_it (from_heads f (x ∷ X) K ts e i)
  | inr i ↦ without (from_heads f X K ts e i)
]
from_heads (suc f) (many x ∷ X) K ts e h = elim (one_apart (heads f (x ∷ many x ∷ X) (first ts)) _ K ts e h) [
  | inl i ↦ more (from_heads f (x ∷ many x ∷ X) K ts e i)
  | inr i ↦ enough (from_heads f X K ts e i)
]
