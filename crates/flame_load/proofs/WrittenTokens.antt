-- The numbers of a text's tokens are within int.
use Rattle.std.proofs.Common.{◌≡◌, ℕ, ◌≤◌, Bool, true, false, cond, List, [], ◌∷◌, ◌++◌, drop, Option, Some, None, refl, sym, subst, arith}
use Rattle.std.specs.Prelude.{ℤ, pos, neg_ℤ, nat_le, take_while}
use Rattle.std.specs.Option.{option_map, option_and_then, option_map_or}
use Rattle.std.specs.Str.{bytes_eq}
use Rattle.std.proofs.lemmas.Bool.{leb-true}
use Rattle.std.proofs.lemmas.Int.{ints}
use Rattle.flame_ops.specs.Ascii.{is_word_byte}
use Rattle.flame_lex.specs.declared.token.Kind.TheVariants.{Word, Number, Mark, Key, Start, Finish}
use Rattle.flame_lex.specs.declared.token.Token.{Token}
use Rattle.flame_lex.specs.ByteRuns.{is_space_or_tab, is_minus, first_is, behind}
use Rattle.flame_lex.specs.DefineLines.{behind_minus, behind_name, definition, is_idle, names_word, number_on, signed, small_value}
use Rattle.flame_lex.specs.LexPieces.{Form, blank, comment, line_comment, include_line, define_line, lexeme, Here, Stands}
use Rattle.flame_lex.specs.Lexing.{Piece, Before, nothing, past, here, IsCut, found_of, known_after, token_at, tokens_of, Lexes}
use Rattle.flame_lex.specs.Numerals.{number_value}
use Rattle.flame_expr.specs.Lexemes.{value_of}
use Rattle.flame_meaning.specs.RangeLaws.{IsInt, IfAny, Each}

-- each number of these tokens
abbrev pub AreIntTokens : List Token → Type 0
AreIntTokens tokens = Each (λ (token : Token). IsInt (value_of token.kind)) tokens

joined_tokens : (xs ys : List Token) → AreIntTokens xs → AreIntTokens ys → AreIntTokens (xs ++ ys)
joined_tokens [] ys are more = more
joined_tokens (x ∷ xs) ys are more = (are.0, joined_tokens xs ys are.1 more)

small_int : (z : ℤ) (n : ℕ) → z ≡ pos n → n ≤ 2147483647 → IsInt z
small_int z n is small = grind (arith, ints)

signed_int : (minus : Bool) (n : ℕ) → n ≤ 2147483647 → IsInt (cond minus (neg_ℤ (pos n)) (pos n))
signed_int true n small = grind (arith, ints)
signed_int false n small = grind (arith, ints)

-- ---- define lines

where_true : {X : Type 0} (P : X → Type 0) (b : Bool) (o : Option X) → IfAny P o → IfAny P (cond b o None)
where_true P true o is = is
where_true P false o is = tt

of_made : {X : Type 0} (value : X → ℤ) (make : ℤ → X) → ((z : ℤ) → value (make z) ≡ z) → (o : Option ℤ) → IfAny IsInt o → IfAny (λ x. IsInt (value x)) (option_map make o)
of_made value make same None is = tt
of_made value make same (Some z) is = subst IsInt (sym (same z)) is

value_found : (bytes : List ℕ) (o : Option ℕ) → IfAny IsInt (option_map (signed bytes) (option_and_then (λ n. cond (nat_le n 2147483647) (Some n) None) o))
value_found bytes None = tt
value_found bytes (Some n) = by_test (nat_le n 2147483647) refl
  where
    by_test : (b : Bool) → nat_le n 2147483647 ≡ b → IfAny IsInt (option_map (signed bytes) (cond b (Some n) None))
    by_test true is = signed_int (first_is is_minus bytes) n (leb-true n 2147483647 is)
    by_test false is = tt

number_found : (bytes : List ℕ) → IfAny IsInt (number_on bytes)
number_found bytes =
    where_true IsInt (is_idle (behind is_word_byte (behind_minus bytes)))
    (option_map (signed bytes) (small_value (take_while is_word_byte (behind_minus bytes))))
    (value_found bytes (number_value (take_while is_word_byte (behind_minus bytes))))

definition_says : (bytes : List ℕ) → IfAny (λ said. IsInt said.value) (definition bytes)
definition_says bytes =
    where_true _ (names_word bytes) _
    (of_made (λ said. said.value) _ (λ z. refl) (number_on (behind is_space_or_tab (behind_name bytes)))
    (number_found (behind is_space_or_tab (behind_name bytes))))

-- ---- pieces

-- the words that have a number have one of int
abbrev KnowInts : (List ℕ → Option ℤ) → Type 0
KnowInts known = (word : List ℕ) → IfAny IsInt (known word)

known_ints : (known : List ℕ → Option ℤ) (place : Here) (form : Form) (text rest : List ℕ) → KnowInts known → Stands place form text rest → KnowInts (known_after (found_of form) known)
known_ints known place blank text rest are stands word = are word
known_ints known place comment text rest are stands word = are word
known_ints known place line_comment text rest are stands word = are word
known_ints known place include_line text rest are stands word = are word
known_ints known place (lexeme kind) text rest are stands word = are word
known_ints known place (define_line said) text rest are stands word = by_test (bytes_eq word said.name)
  where
    by_test : (b : Bool) → IfAny IsInt (cond b (Some said.value) (known word))
    by_test true = subst (IfAny (λ said. IsInt said.value)) stands.2.says (definition_says (drop 7 text))
    by_test false = are word

word_int : (o : Option ℤ) (name : List ℕ) → IfAny IsInt o → IsInt (value_of (option_map_or Number o (Word name)))
word_int None name is = refl
word_int (Some z) name is = is

piece_ints : (before : Before) (form : Form) (text rest : List ℕ) → KnowInts before.known → Stands (here before) form text rest → AreIntTokens (token_at before (found_of form))
piece_ints before blank text rest are stands = tt
piece_ints before comment text rest are stands = tt
piece_ints before line_comment text rest are stands = tt
piece_ints before include_line text rest are stands = tt
piece_ints before (define_line said) text rest are stands = tt
piece_ints before (lexeme (Word name)) text rest are stands = (word_int (before.known name) name (are name), tt)
piece_ints before (lexeme (Number n)) text rest are stands = (small_int n stands.1.value stands.1.same stands.1.small, tt)
piece_ints before (lexeme (Mark number)) text rest are stands = (refl, tt)
piece_ints before (lexeme (Key number)) text rest are stands = (refl, tt)
piece_ints before (lexeme (Start name)) text rest are stands = (refl, tt)
piece_ints before (lexeme (Finish name)) text rest are stands = (refl, tt)

cut_ints : (before : Before) (pieces : List Piece) (bytes rest : List ℕ) → KnowInts before.known → IsCut before pieces bytes rest → AreIntTokens (tokens_of before pieces)
cut_ints before [] bytes rest are cut = tt
cut_ints before (piece ∷ pieces) bytes rest are cut =
    joined_tokens (token_at before (found_of piece.form)) (tokens_of (past before piece) pieces)
    (piece_ints before piece.form piece.text cut.0 are cut.2)
    (cut_ints (past before piece) pieces cut.0 rest
    (known_ints before.known (here before) piece.form piece.text cut.0 are cut.2) cut.3)

pub lexed_ints : (bytes : List ℕ) (tokens : List Token) → Lexes bytes tokens → AreIntTokens tokens
lexed_ints bytes tokens lexed = subst AreIntTokens (sym lexed.2) (cut_ints nothing lexed.0 bytes [] (λ word. tt) lexed.1)
