-- Where primaries end, and where they stop.
use Rattle.std.proofs.Common.{◌≡◌, ℕ, ◌+◌, ◌≤◌, List, [], ◌∷◌, length, drop, refl, arith, true}
use Rattle.flame_lex.specs.declared.token.Token.{Token}
use Rattle.flame_expr.specs.declared.lexemes.Lexeme.{Lexeme}
use Rattle.flame_expr.specs.declared.lexemes.Lexeme.TheVariants.{Word, Number, Open, Close, OpenBracket, CloseBracket, Arrow}
use Rattle.flame_expr.specs.Lexemes.{first}
use Rattle.flame_expr.specs.OperatorLevels.{joins, joins_index, signs}
use Rattle.flame_expr.specs.ViablePrefixes.{Symbol, lexeme, form, level, primary, expr, index, one_of, many}
use Rattle.flame_expr.specs.ReadParts.{Ended, Stopped}
use Rattle.flame_expr.proofs.LexemeFacts.{or, among, everywhere, IsNone, not_among}
use Rattle.flame_expr.proofs.Places.{there}
use Rattle.flame_expr.proofs.Parts.{any_heads, ends_here, none}
use Rattle.flame_expr.proofs.Likeness.{alike_ended, alike_stopped}
use Rattle.flame_expr.proofs.Ends.{EndedAny, StoppedAny, EndedAny, any_ended, one_ended, any_stopped, one_stopped, here_ended, here_stopped, enter_ended, enter_stopped, begin_ended, begin_stopped, ended_then, stopped_then, stopped_before, ended_weaker, stopped_weaker, form_ended, form_stopped, nothing_ended}
use Rattle.flame_expr.proofs.LevelFacts.{or_right}

index_ends : (d : Lexeme) → (d ≡ OpenBracket → ⊥) → ends_here (any_heads ((index ∷ []) ∷ []) d) ≡ true
index_ends d n =
    or_right (among d (OpenBracket ∷ [])) (ends_here (any_heads ((index ∷ []) ∷ []) d))
    (everywhere (λ d. or (among d (OpenBracket ∷ [])) (ends_here (any_heads ((index ∷ []) ∷ []) d))) refl d) (not_among d (OpenBracket ∷ []) (n, tt))

-- the rests behind the word of a primary
abbrev names : List (List Symbol)
names = (index ∷ []) ∷ (lexeme Arrow ∷ lexeme Word ∷ index ∷ []) ∷ (lexeme Open ∷ lexeme Close ∷ []) ∷ []

word_ended : (tokens : List Token) (at end : ℕ) → first (drop at tokens) ≡ Word → EndedAny (joins 0) names tokens (at + 1) end → Ended (joins 0) (form primary ∷ []) tokens at end
word_ended tokens at end a h = one_ended (enter_ended (joins 0) ((form primary ∷ []) ∷ []) tokens at end Word refl refl a h)

word_stopped : (tokens : List Token) (at n : ℕ) → first (drop at tokens) ≡ Word → StoppedAny (joins 0) names tokens (at + 1) n → Stopped (joins 0) (form primary ∷ []) tokens at n
word_stopped tokens at n a h = one_stopped (enter_stopped (joins 0) ((form primary ∷ []) ∷ []) tokens at n Word refl refl a h)

-- behind the arrow: a word, and an index where there is one
pub field_word_stopped : (tokens : List Token) (at n : ℕ) → first (drop at tokens) ≡ Word → first (drop (at + 1) tokens) ≡ Arrow → Stopped []
    (lexeme Word ∷ []) tokens (at + 1 + 1) n → Stopped (joins 0) (form primary ∷ []) tokens at n
field_word_stopped tokens at n a b h =
    word_stopped tokens at n a
    (enter_stopped _ _ _ _ _ Arrow refl refl b
    (any_stopped (stopped_before [] (joins 0) (lexeme Word ∷ []) (index ∷ []) tokens (at + 1 + 1) n refl h)))

pub field_index_stopped : (tokens : List Token) (at mid n : ℕ) → first (drop at tokens) ≡ Word → first (drop (at + 1) tokens) ≡ Arrow → Ended []
    (lexeme Word ∷ []) tokens (at + 1 + 1) mid → Stopped joins_index (index ∷ []) tokens mid n → Stopped (joins 0) (form primary ∷ []) tokens at n
field_index_stopped tokens at mid n a b g h =
    word_stopped tokens at n a
    (enter_stopped _ _ _ _ _ Arrow refl refl b
    (any_stopped
    (stopped_then [] (joins 0) (lexeme Word ∷ []) (index ∷ []) tokens (at + 1 + 1) mid n refl g
    (stopped_weaker joins_index (joins 0) (index ∷ []) tokens mid n refl h))))

pub field_ended : (tokens : List Token) (at mid end : ℕ) → first (drop at tokens) ≡ Word → first (drop (at + 1) tokens) ≡ Arrow → Ended []
    (lexeme Word ∷ []) tokens (at + 1 + 1) mid → Ended joins_index (index ∷ []) tokens mid end → Ended (joins 0) (form primary ∷ []) tokens at end
field_ended tokens at mid end a b g h =
    word_ended tokens at end a
    (enter_ended _ _ _ _ _ Arrow refl refl b
    (any_ended
    (ended_then [] (joins 0) (lexeme Word ∷ []) (index ∷ []) tokens (at + 1 + 1) mid end refl g
    (ended_weaker joins_index (joins 0) (index ∷ []) tokens mid end refl h))))

pub get_stopped : (tokens : List Token) (at n : ℕ) → first (drop at tokens) ≡ Word → first (drop (at + 1) tokens) ≡ Open → Stopped []
    (lexeme Close ∷ []) tokens (at + 1 + 1) n → Stopped (joins 0) (form primary ∷ []) tokens at n
get_stopped tokens at n a b h = word_stopped tokens at n a (enter_stopped _ _ _ _ _ Open refl refl b (any_stopped (stopped_weaker [] (joins 0) (lexeme Close ∷ []) tokens (at + 1 + 1) n refl h)))

pub get_ended : (tokens : List Token) (at end : ℕ) → first (drop at tokens) ≡ Word → first (drop (at + 1) tokens) ≡ Open → Ended []
    (lexeme Close ∷ []) tokens (at + 1 + 1) end → Ended (joins 0) (form primary ∷ []) tokens at end
get_ended tokens at end a b h = word_ended tokens at end a (enter_ended _ _ _ _ _ Open refl refl b (any_ended (ended_weaker [] (joins 0) (lexeme Close ∷ []) tokens (at + 1 + 1) end refl h)))

-- behind a word where neither an arrow nor a bracket follows: an index where there is one
names_alike : (d : Lexeme) → (d ≡ Arrow → ⊥) → (d ≡ Open → ⊥) → any_heads ((index ∷ []) ∷ []) d ≡ any_heads names d
names_alike Arrow a b = absurd (a refl)
names_alike Open a b = absurd (b refl)
names_alike d a b = refl

pub name_ended : (tokens : List Token) (at end : ℕ) → first (drop at tokens) ≡ Word → (first (drop (at + 1) tokens) ≡ Arrow → ⊥) →
    (first (drop (at + 1) tokens) ≡ Open → ⊥) → Ended joins_index (index ∷ []) tokens (at + 1) end → Ended (joins 0) (form primary ∷ []) tokens at end
name_ended tokens at end a m n h =
    word_ended tokens at end a
    (alike_ended (joins 0) ((index ∷ []) ∷ []) names tokens (at + 1) end (omega arith) (omega arith) (names_alike (first (drop (at + 1) tokens)) m n)
    (any_ended (ended_weaker joins_index (joins 0) (index ∷ []) tokens (at + 1) end refl h)))

pub name_stopped : (tokens : List Token) (at n : ℕ) → first (drop at tokens) ≡ Word → (first (drop (at + 1) tokens) ≡ Arrow → ⊥) →
    (first (drop (at + 1) tokens) ≡ Open → ⊥) → Stopped joins_index (index ∷ []) tokens (at + 1) n → Stopped (joins 0) (form primary ∷ []) tokens at n
name_stopped tokens at s a m n h =
    word_stopped tokens at s a
    (alike_stopped (joins 0) ((index ∷ []) ∷ []) names tokens (at + 1) s (omega arith) (omega arith) (names_alike (first (drop (at + 1) tokens)) m n)
    (any_stopped (stopped_weaker joins_index (joins 0) (index ∷ []) tokens (at + 1) s refl h)))

-- an index: none, or one in its brackets
pub no_index_ended : (tokens : List Token) (at : ℕ) → at ≤ length tokens → (first (drop at tokens) ≡ OpenBracket → ⊥) → Ended joins_index (index ∷ []) tokens at at
no_index_ended tokens at h n = one_ended (here_ended joins_index ((index ∷ []) ∷ []) tokens at h (index_ends (first (drop at tokens)) n))

abbrev inside_index : List Symbol
inside_index = expr ∷ lexeme CloseBracket ∷ []

pub index_ended : (tokens : List Token) (at close end : ℕ) → first (drop at tokens) ≡ OpenBracket → Ended (joins 6) (expr ∷ []) tokens (at + 1) close
    → Ended [] (lexeme CloseBracket ∷ []) tokens close end → Ended joins_index (index ∷ []) tokens at end
index_ended tokens at close end a g h =
    begin_ended joins_index (index ∷ []) inside_index tokens at end OpenBracket refl refl refl a
    (ended_weaker [] joins_index inside_index tokens (at + 1) end refl
    (ended_then (joins 6) [] (expr ∷ []) (lexeme CloseBracket ∷ []) tokens (at + 1) close end refl g h))

pub index_stopped : (tokens : List Token) (at n : ℕ) → first (drop at tokens) ≡ OpenBracket → Stopped (joins 6) (expr ∷ []) tokens (at + 1) n → Stopped joins_index (index ∷ []) tokens at n
index_stopped tokens at n a h =
    begin_stopped joins_index (index ∷ []) inside_index tokens at n OpenBracket refl refl refl a
    (stopped_weaker [] joins_index inside_index tokens (at + 1) n refl
    (stopped_before (joins 6) [] (expr ∷ []) (lexeme CloseBracket ∷ []) tokens (at + 1) n refl h))

pub index_end_stopped : (tokens : List Token) (at close n : ℕ) → first (drop at tokens) ≡ OpenBracket → Ended (joins 6) (expr ∷ []) tokens (at + 1)
    close → Stopped [] (lexeme CloseBracket ∷ []) tokens close n → Stopped joins_index (index ∷ []) tokens at n
index_end_stopped tokens at close n a g h =
    begin_stopped joins_index (index ∷ []) inside_index tokens at n OpenBracket refl refl refl a
    (stopped_weaker [] joins_index inside_index tokens (at + 1) n refl
    (stopped_then (joins 6) [] (expr ∷ []) (lexeme CloseBracket ∷ []) tokens (at + 1) close n refl g h))

pub number_ended : (tokens : List Token) (at : ℕ) → first (drop at tokens) ≡ Number → Ended (joins 0) (form primary ∷ []) tokens at (at + 1)
number_ended tokens at a = let t = there tokens at Number a refl in begin_ended (joins 0) (form primary ∷ []) [] tokens at (at + 1) Number refl refl refl a (nothing_ended (joins 0) tokens (at + 1) (omega (arith, t)))

starts : (d : Lexeme) → IsNone d (Number ∷ Word ∷ Open ∷ []) → none (any_heads ((form primary ∷ []) ∷ []) d) ≡ true
starts d n =
    or_right (among d (Number ∷ Word ∷ Open ∷ [])) _
    (everywhere (λ d. or (among d (Number ∷ Word ∷ Open ∷ [])) (none (any_heads ((form primary ∷ []) ∷ []) d))) refl d)
    (not_among d (Number ∷ Word ∷ Open ∷ []) n)

pub none_stopped : (tokens : List Token) (at : ℕ) → at ≤ length tokens → IsNone (first (drop at tokens)) (Number ∷ Word ∷ Open ∷ []) → Stopped (joins 0) (form primary ∷ []) tokens at at
none_stopped tokens at h n = one_stopped (here_stopped (joins 0) (form primary ∷ []) [] tokens at h (starts (first (drop at tokens)) n))

pub brackets_ended : (tokens : List Token) (at end : ℕ) → first (drop at tokens) ≡ Open → Ended [] (expr ∷ lexeme Close ∷ []) tokens (at + 1) end → Ended (joins 0) (form primary ∷ []) tokens at end
brackets_ended tokens at end a h =
    begin_ended (joins 0) (form primary ∷ []) (expr ∷ lexeme Close ∷ []) tokens at end Open refl refl refl a
    (ended_weaker [] (joins 0) (expr ∷ lexeme Close ∷ []) tokens (at + 1) end refl h)

pub brackets_stopped : (tokens : List Token) (at n : ℕ) → first (drop at tokens) ≡ Open → Stopped [] (expr ∷ lexeme Close ∷ []) tokens (at + 1) n → Stopped (joins 0) (form primary ∷ []) tokens at n
brackets_stopped tokens at n a h =
    begin_stopped (joins 0) (form primary ∷ []) (expr ∷ lexeme Close ∷ []) tokens at n Open refl refl refl a
    (stopped_weaker [] (joins 0) (expr ∷ lexeme Close ∷ []) tokens (at + 1) n refl h)

-- signs before a primary
pub unary_ended : (tokens : List Token) (at mid end : ℕ) → Ended signs (many (one_of signs) ∷ []) tokens at mid → Ended (joins 0) (form primary ∷ [])
    tokens mid end → Ended (joins 0) (form (level 0) ∷ []) tokens at end
unary_ended tokens at mid end x y =
    form_ended (joins 0) (level 0) (many (one_of signs)) (form primary) tokens at end refl
    (ended_then signs (joins 0) (many (one_of signs) ∷ []) (form primary ∷ []) tokens at mid end refl x y)

pub unary_stopped : (tokens : List Token) (at mid n : ℕ) → Ended signs (many (one_of signs) ∷ []) tokens at mid → Stopped (joins 0)
    (form primary ∷ []) tokens mid n → Stopped (joins 0) (form (level 0) ∷ []) tokens at n
unary_stopped tokens at mid n x y =
    form_stopped (joins 0) (level 0) (many (one_of signs)) (form primary) tokens at n refl
    (stopped_then signs (joins 0) (many (one_of signs) ∷ []) (form primary ∷ []) tokens at mid n refl x y)

-- what stands in brackets, and the bracket behind it
pub closed_stopped : (tokens : List Token) (at n : ℕ) → Stopped (joins 6) (expr ∷ []) tokens at n → Stopped [] (expr ∷ lexeme Close ∷ []) tokens at n
closed_stopped tokens at n x = stopped_before (joins 6) [] (expr ∷ []) (lexeme Close ∷ []) tokens at n refl x

pub close_stopped : (tokens : List Token) (at mid n : ℕ) → Ended (joins 6) (expr ∷ []) tokens at mid → Stopped [] (lexeme Close ∷ []) tokens mid n → Stopped [] (expr ∷ lexeme Close ∷ []) tokens at n
close_stopped tokens at mid n x y = stopped_then (joins 6) [] (expr ∷ []) (lexeme Close ∷ []) tokens at mid n refl x y

pub closed_ended : (tokens : List Token) (at mid end : ℕ) → Ended (joins 6) (expr ∷ []) tokens at mid → Ended [] (lexeme Close ∷ []) tokens mid end → Ended [] (expr ∷ lexeme Close ∷ []) tokens at end
closed_ended tokens at mid end x y = ended_then (joins 6) [] (expr ∷ []) (lexeme Close ∷ []) tokens at mid end refl x y

-- a bracket, and what stands behind it
pub open_stopped : (tokens : List Token) (at n : ℕ) → Stopped [] (lexeme Open ∷ []) tokens at n → Stopped [] (lexeme Open ∷ expr ∷ lexeme Close ∷ []) tokens at n
open_stopped tokens at n x = stopped_before [] [] (lexeme Open ∷ []) (expr ∷ lexeme Close ∷ []) tokens at n refl x

pub opened_stopped : (tokens : List Token) (at mid n : ℕ) → Ended [] (lexeme Open ∷ []) tokens at mid → Stopped [] (expr ∷ lexeme Close ∷ []) tokens
    mid n → Stopped [] (lexeme Open ∷ expr ∷ lexeme Close ∷ []) tokens at n
opened_stopped tokens at mid n x y = stopped_then [] [] (lexeme Open ∷ []) (expr ∷ lexeme Close ∷ []) tokens at mid n refl x y

pub opened_ended : (tokens : List Token) (at mid end : ℕ) → Ended [] (lexeme Open ∷ []) tokens at mid → Ended [] (expr ∷ lexeme Close ∷ []) tokens mid
    end → Ended [] (lexeme Open ∷ expr ∷ lexeme Close ∷ []) tokens at end
opened_ended tokens at mid end x y = ended_then [] [] (lexeme Open ∷ []) (expr ∷ lexeme Close ∷ []) tokens at mid end refl x y
