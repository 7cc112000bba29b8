-- Lexemes compared by their numbers; ORDER MARKS.
use Rattle.std.proofs.Common.{◌≡◌, ℕ, zero, suc, List, [], ◌∷◌, refl, sym, ap, ◌∙◌, Bool, true, false, nat_eq, eq-eqb}
use Rattle.std.proofs.lemmas.Bool.{false≢true, eqb-true}
use Rattle.flame_expr.specs.declared.lexemes.Lexeme.{Lexeme}
use Rattle.flame_expr.specs.declared.lexemes.Lexeme.TheVariants.{Nothing, Word, Number, Start, Finish, Plus, Minus, Star, Slash, Percent, PlusPlus, MinusMinus, PlusSet, MinusSet, StarSet, SlashSet, PercentSet, Set, Same, Differs, Bang, Below, Above, AtMost, AtLeast, AndAnd, OrOr, Open, Close, OpenBrace, CloseBrace, OpenBracket, CloseBracket, Comma, Semicolon, Arrow, Int, Void, If, Else, While, For, Do, Return, Break, Continue}

abbrev pub number_of : Lexeme → ℕ
number_of Nothing = 0
number_of Word = 1
number_of Number = 2
number_of Start = 3
number_of Finish = 4
number_of Plus = 5
number_of Minus = 6
number_of Star = 7
number_of Slash = 8
number_of Percent = 9
number_of PlusPlus = 10
number_of MinusMinus = 11
number_of PlusSet = 12
number_of MinusSet = 13
number_of StarSet = 14
number_of SlashSet = 15
number_of PercentSet = 16
number_of Set = 17
number_of Same = 18
number_of Differs = 19
number_of Bang = 20
number_of Below = 21
number_of Above = 22
number_of AtMost = 23
number_of AtLeast = 24
number_of AndAnd = 25
number_of OrOr = 26
number_of Open = 27
number_of Close = 28
number_of OpenBrace = 29
number_of CloseBrace = 30
number_of Comma = 31
number_of Semicolon = 32
number_of Arrow = 33
number_of Int = 34
number_of Void = 35
number_of If = 36
number_of Else = 37
number_of While = 38
number_of For = 39
number_of Do = 40
number_of Return = 41
number_of Break = 42
number_of Continue = 43
number_of OpenBracket = 44
number_of CloseBracket = 45

abbrev pub all_lexemes : List Lexeme
all_lexemes =
    Nothing ∷ Word ∷ Number ∷ Start ∷ Finish ∷ Plus ∷ Minus ∷ Star ∷
    Slash ∷ Percent ∷ PlusPlus ∷ MinusMinus ∷ PlusSet ∷ MinusSet ∷ StarSet ∷ SlashSet ∷
    PercentSet ∷ Set ∷ Same ∷ Differs ∷ Bang ∷ Below ∷ Above ∷ AtMost ∷
    AtLeast ∷ AndAnd ∷ OrOr ∷ Open ∷ Close ∷ OpenBrace ∷ CloseBrace ∷ Comma ∷
    Semicolon ∷ Arrow ∷ Int ∷ Void ∷ If ∷ Else ∷ While ∷ For ∷
    Do ∷ Return ∷ Break ∷ Continue ∷ OpenBracket ∷ CloseBracket ∷ []

abbrev pub and : Bool → Bool → Bool
and true b = b
and false b = false

abbrev pub or : Bool → Bool → Bool
or true b = true
or false b = b

abbrev pub all_pass : {X : Type 0} → (X → Bool) → List X → Bool
all_pass p [] = true
all_pass p (x ∷ xs) = and (p x) (all_pass p xs)

abbrev pub at_number : List Lexeme → ℕ → Lexeme
at_number [] n = Nothing
at_number (l ∷ ls) zero = l
at_number (l ∷ ls) (suc n) = at_number ls n

at_number-number_of : (l : Lexeme) → at_number all_lexemes (number_of l) ≡ l
at_number-number_of Nothing = refl
at_number-number_of Word = refl
at_number-number_of Number = refl
at_number-number_of Start = refl
at_number-number_of Finish = refl
at_number-number_of Plus = refl
at_number-number_of Minus = refl
at_number-number_of Star = refl
at_number-number_of Slash = refl
at_number-number_of Percent = refl
at_number-number_of PlusPlus = refl
at_number-number_of MinusMinus = refl
at_number-number_of PlusSet = refl
at_number-number_of MinusSet = refl
at_number-number_of StarSet = refl
at_number-number_of SlashSet = refl
at_number-number_of PercentSet = refl
at_number-number_of Set = refl
at_number-number_of Same = refl
at_number-number_of Differs = refl
at_number-number_of Bang = refl
at_number-number_of Below = refl
at_number-number_of Above = refl
at_number-number_of AtMost = refl
at_number-number_of AtLeast = refl
at_number-number_of AndAnd = refl
at_number-number_of OrOr = refl
at_number-number_of Open = refl
at_number-number_of Close = refl
at_number-number_of OpenBrace = refl
at_number-number_of CloseBrace = refl
at_number-number_of Comma = refl
at_number-number_of Semicolon = refl
at_number-number_of Arrow = refl
at_number-number_of Int = refl
at_number-number_of Void = refl
at_number-number_of If = refl
at_number-number_of Else = refl
at_number-number_of While = refl
at_number-number_of For = refl
at_number-number_of Do = refl
at_number-number_of Return = refl
at_number-number_of Break = refl
at_number-number_of Continue = refl
at_number-number_of OpenBracket = refl
at_number-number_of CloseBracket = refl

pub and_left : (a b : Bool) → and a b ≡ true → a ≡ true
and_left true b e = refl
and_left false b e = absurd (false≢true e)

pub and_right : (a b : Bool) → and a b ≡ true → b ≡ true
and_right true b e = e
and_right false b e = absurd (false≢true e)

-- a lexeme, or none where the number is past the end
all_pass_at : (p : Lexeme → Bool) (ls : List Lexeme) (n : ℕ) → p Nothing ≡ true → all_pass p ls ≡ true → p (at_number ls n) ≡ true
all_pass_at p [] n z e = z
all_pass_at p (l ∷ ls) zero z e = and_left (p l) (all_pass p ls) e
all_pass_at p (l ∷ ls) (suc n) z e = all_pass_at p ls n z (and_right (p l) (all_pass p ls) e)

-- what a test of each lexeme says of any
pub everywhere : (p : Lexeme → Bool) → all_pass p all_lexemes ≡ true → (l : Lexeme) → p l ≡ true
everywhere p e l = rw (sym (at_number-number_of l)) (all_pass_at p all_lexemes (number_of l) (and_left (p Nothing) _ e) e)

abbrev pub same : Lexeme → Lexeme → Bool
same l d = nat_eq (number_of l) (number_of d)

pub same_equal : (l d : Lexeme) → same l d ≡ true → l ≡ d
same_equal l d e = sym (at_number-number_of l) ∙ ap (at_number all_lexemes) (eqb-true (number_of l) (number_of d) e) ∙ at_number-number_of d

pub same_self : (l : Lexeme) → same l l ≡ true
same_self l = eq-eqb (number_of l) (number_of l) refl

abbrev pub among : Lexeme → List Lexeme → Bool
among d [] = false
among d (l ∷ ls) = or (same l d) (among d ls)

pub or_false : (a b : Bool) → a ≡ false → b ≡ false → or a b ≡ false
or_false true b e f = e
or_false false b e f = f

different : (l d : Lexeme) (b : Bool) → same l d ≡ b → (d ≡ l → ⊥) → b ≡ false
different l d true e h = absurd (h (sym (same_equal l d e)))
different l d false e h = refl

-- a lexeme that is none of these
abbrev pub IsNone : Lexeme → List Lexeme → Type 0
IsNone d [] = Unit {0}
IsNone d (l ∷ ls) = (d ≡ l → ⊥) × IsNone d ls

pub not_among : (d : Lexeme) (ls : List Lexeme) → IsNone d ls → among d ls ≡ false
not_among d [] h = refl
not_among d (l ∷ ls) h = or_false (same l d) (among d ls) (different l d (same l d) refl h.0) (not_among d ls h.1)
