-- The tokens of what is printed are read back where an end without tokens stands behind it.
use Rattle.std.proofs.Common.{◌≡◌, ℕ, Bool, true, false, cond, ◌&&◌, List, [], ◌∷◌, ◌++◌, refl, sym, ap, ap₂, ◌∙◌, append_assoc, append-nil}
use Rattle.json.specs.Token.{Token, begin_object, end_object, begin_array, end_array, key, string, number, boolean, null, bad}
use Rattle.json.specs.Word.{ends_word, word}
use Rattle.json.specs.Lex.{Lexeme, token, comma, string_token, lex, between, fresh, punctuate, tokens}
use Rattle.json.specs.Print.{escape, quoted, token_text, begins, ends, separator, print_from, print, IsPrintable, ArePrintable}
use Rattle.json.proofs.Printed.Strings.{content-escape, lex-escape}
use Rattle.json.proofs.Printed.Numbers.{lex-number, in_word-ended}
use Rattle.json.proofs.Printed.Tokens.{tokens-print}

-- what ends the word before it and holds no lexeme
abbrev pub IsEnd : List ℕ → Type 0
IsEnd end = (ends_word end ≡ true) × (lex between end ≡ [])

-- a line feed is an end
pub line_feed_ends : IsEnd (10 ∷ [])
unfolding lex
line_feed_ends = (refl, refl)

-- after a value stands a comma, a closing bracket or the end
value_ends : (end : List ℕ) → ends_word end ≡ true → (ts : List Token) → ends_word (print_from true ts ++ end) ≡ true
unfolding print_from
value_ends end h [] = h
value_ends end h (begin_object ∷ ts) = refl
value_ends end h (end_object ∷ ts) = refl
value_ends end h (begin_array ∷ ts) = refl
value_ends end h (end_array ∷ ts) = refl
value_ends end h (key s ∷ ts) = refl
value_ends end h (string s ∷ ts) = refl
value_ends end h (number s ∷ ts) = refl
value_ends end h (boolean b ∷ ts) = refl
value_ends end h (null ∷ ts) = refl
value_ends end h (bad ∷ ts) = refl

lex-quoted : (s r : List ℕ) → lex between (quoted s ++ r) ≡ token (string s) ∷ lex between r
unfolding lex
lex-quoted s r =
    ap (λ l. lex between (34 ∷ l)) (append_assoc (escape s) (34 ∷ []) r)
    ∙ ap₂ (λ o l. token (string_token o) ∷ l) (content-escape s r) (lex-escape s r)

-- behind the same token, the same lexemes stay the same
same_behind :
    (t : Token) (r s : List ℕ)
    → IsPrintable t
    → lex between r ≡ lex between s
    → (ends t ≡ true → (ends_word r ≡ true) × (ends_word s ≡ true))
    → lex between (token_text t ++ r) ≡ lex between (token_text t ++ s)
unfolding lex word
same_behind begin_object r s h same ended = ap (λ l. token begin_object ∷ l) same
same_behind end_object r s h same ended = ap (λ l. token end_object ∷ l) same
same_behind begin_array r s h same ended = ap (λ l. token begin_array ∷ l) same
same_behind end_array r s h same ended = ap (λ l. token end_array ∷ l) same
same_behind (key k) r s h same ended =
    ap (lex between) (append_assoc (quoted k) (58 ∷ []) r)
    ∙ lex-quoted k (58 ∷ r)
    ∙ ap (λ l. token (string k) ∷ Lexeme.colon ∷ l) same
    ∙ sym (ap (lex between) (append_assoc (quoted k) (58 ∷ []) s) ∙ lex-quoted k (58 ∷ s))
same_behind (string k) r s h same ended =
    lex-quoted k r ∙ ap (λ l. token (string k) ∷ l) same ∙ sym (lex-quoted k s)
same_behind (number n) r s h same ended =
    lex-number n r h (ended refl).0
    ∙ ap (λ l. token (number n) ∷ l) same
    ∙ sym (lex-number n s h (ended refl).1)
same_behind (boolean true) r s h same ended =
    let both = ended refl in
    ap₂ (λ b l. token (cond b (boolean true) bad) ∷ l) (both.0 ∙ sym both.1)
    (in_word-ended r both.0 ∙ same ∙ sym (in_word-ended s both.1))
same_behind (boolean false) r s h same ended =
    let both = ended refl in
    ap₂ (λ b l. token (cond b (boolean false) bad) ∷ l) (both.0 ∙ sym both.1)
    (in_word-ended r both.0 ∙ same ∙ sym (in_word-ended s both.1))
same_behind null r s h same ended =
    let both = ended refl in
    ap₂ (λ b l. token (cond b null bad) ∷ l) (both.0 ∙ sym both.1)
    (in_word-ended r both.0 ∙ same ∙ sym (in_word-ended s both.1))
same_behind bad r s h same ended = absurd h

behind_comma :
    (b : Bool) (r s : List ℕ) → lex between r ≡ lex between s
    → lex between (cond b (44 ∷ []) [] ++ r) ≡ lex between (cond b (44 ∷ []) [] ++ s)
unfolding lex
behind_comma true r s same = ap (λ l. comma ∷ l) same
behind_comma false r s same = same

-- an end adds no lexeme to what is printed
lexemes_before :
    (end : List ℕ) → IsEnd end → (after : Bool) (ts : List Token) → ArePrintable ts
    → lex between (print_from after ts ++ end) ≡ lex between (print_from after ts)
unfolding print_from lex ArePrintable
lexemes_before end is after [] h = is.1
lexemes_before end is after (t ∷ ts) h =
    let rest = print_from (ends t) ts in
    ap (lex between)
    (append_assoc (separator after t) (token_text t ++ rest) end
    ∙ ap (λ l. separator after t ++ l) (append_assoc (token_text t) rest end))
    ∙ behind_comma (after && begins t) (token_text t ++ (rest ++ end)) (token_text t ++ rest)
    (same_behind t (rest ++ end) rest h.0 (lexemes_before end is (ends t) ts h.1)
    (λ e. (
      ap (λ b. ends_word (print_from b ts ++ end)) e ∙ value_ends end is.0 ts,
      ap (λ b. ends_word (print_from b ts)) e
          ∙ ap ends_word (sym (append-nil (print_from true ts)))
          ∙ value_ends [] refl ts,
    )))

-- the tokens before an end are those that were printed
pub tokens_before :
    (end : List ℕ) → IsEnd end → (ts : List Token) → ArePrintable ts → tokens (print ts ++ end) ≡ ts
tokens_before end is ts h = ap (punctuate fresh) (lexemes_before end is false ts h) ∙ tokens-print ts h
