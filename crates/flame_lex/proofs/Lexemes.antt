-- Words and numbers at the front of some bytes.
use Rattle.std.proofs.Common.{◌≡◌, ℕ, zero, suc, ◌<◌, ◌≤◌, true, Bool, List, [], ◌∷◌, take, drop, length, refl, sym}
use Rattle.std.proofs.Common.{◌∙◌, arith, get_or}
use Rattle.std.specs.Char.{is_ascii_digit}
use Rattle.std.specs.List.{take_while, prefix_len}
use Rattle.std.specs.Prelude.{ℤ}
use Rattle.std.proofs.lemmas.Bool.{or_left, or_right}
use Rattle.std.proofs.lemmas.List.{take-append-drop, length-take}
use Rattle.std.proofs.lemmas.List.Folds.{length-prefix_len}
use Rattle.flame_ops.specs.Ascii.{begins_word, is_word_byte}
use Rattle.flame_lex.specs.declared.token.Kind.{Kind}
use Rattle.flame_lex.specs.declared.token.Kind.TheVariants.{Word, Number, Mark, Key, Start, Finish}
use Rattle.flame_lex.specs.declared.fault.LexFault.{LexFault}
use Rattle.flame_lex.specs.declared.fault.LexFault.TheVariants.{BadByte, BadNumber, BigNumber, OpenComment, Directive}
use Rattle.flame_lex.specs.declared.fault.LexFault.TheVariants.{BadDefine}
use Rattle.flame_lex.specs.ByteRuns.{first_is}
use Rattle.flame_lex.specs.Numerals.{IsNumber}
use Rattle.flame_lex.specs.SourceWords.{IsWord, IsWordKind}
use Rattle.flame_lex.specs.LexPieces.{Here, IsNumeral, IsLexeme}
use Rattle.flame_lex.specs.LexFaults.{IsFault}
use Rattle.flame_lex.specs.LexSteps.{IsToken, IsNumberFault}
use Rattle.flame_lex.proofs.Runs.{run_front}

-- how many letters, digits and `_` stand at the front
abbrev pub word_count : List ℕ → ℕ
word_count bytes = length (take_while is_word_byte bytes)

pub first_is-at : (p : ℕ → Bool) (bytes : List ℕ) → 0 < length bytes → first_is p bytes ≡ p (get_or bytes 0 0)
first_is-at p [] h = absurd (omega arith)
first_is-at p (b ∷ bytes) h = refl

pub word_count-within : (bytes : List ℕ) → word_count bytes ≤ length bytes
word_count-within bytes = omega (arith, length-take (prefix_len is_word_byte bytes) bytes)

first_passes : (bytes : List ℕ) → first_is is_word_byte bytes ≡ true → 0 < word_count bytes
first_passes [] h = cc
first_passes (b ∷ bytes) h = rw (length-prefix_len is_word_byte (b ∷ bytes)) (rw h (omega arith))

pub word_passes : (bytes : List ℕ) → first_is begins_word bytes ≡ true → first_is is_word_byte bytes ≡ true
word_passes [] h = h
word_passes (b ∷ bytes) h = or_left _ _ h

pub digit_passes : (bytes : List ℕ) → first_is is_ascii_digit bytes ≡ true → first_is is_word_byte bytes ≡ true
digit_passes [] h = h
digit_passes (b ∷ bytes) h = or_right (begins_word b) _ h

first_is-take : (p : ℕ → Bool) (n : ℕ) (bytes : List ℕ) → 0 < n → first_is p (take n bytes) ≡ first_is p bytes
first_is-take p zero bytes h = absurd (omega arith)
first_is-take p (suc n) [] h = refl
first_is-take p (suc n) (b ∷ bytes) h = refl

pub is_word : (bytes : List ℕ) → first_is begins_word bytes ≡ true
    → IsWord (take (word_count bytes) bytes) (drop (word_count bytes) bytes)
is_word bytes h = record {
  first = first_is-take begins_word (word_count bytes) bytes (first_passes bytes (word_passes bytes h)) ∙ h;
  run = run_front is_word_byte bytes;
}

pub is_numeral : (bytes : List ℕ) → first_is is_ascii_digit bytes ≡ true
    → IsNumeral (take (word_count bytes) bytes) (drop (word_count bytes) bytes)
is_numeral bytes h = record {
  first = first_is-take is_ascii_digit (word_count bytes) bytes (first_passes bytes (digit_passes bytes h)) ∙ h;
  run = run_front is_word_byte bytes;
}

word_lexeme : (kind : Kind) (text rest : List ℕ) → IsWord text rest → IsWordKind kind text → IsLexeme kind text rest
word_lexeme (Word name) text rest w k = (w, k.0, k.1)
word_lexeme (Number n) text rest w k = absurd k
word_lexeme (Mark number) text rest w k = absurd k
word_lexeme (Key number) text rest w k = (w, k)
word_lexeme (Start name) text rest w k = (w, k)
word_lexeme (Finish name) text rest w k = (w, k)

pub word_token : (kind : Kind) (bytes : List ℕ) → first_is begins_word bytes ≡ true
    → IsWordKind kind (take (word_count bytes) bytes) → IsToken kind bytes (word_count bytes)
word_token kind bytes h k = record {
  more = first_passes bytes (word_passes bytes h);
  within = word_count-within bytes;
  lexeme = word_lexeme kind _ _ (is_word bytes h) k;
}

pub number_token : (n : ℤ) (bytes : List ℕ) → first_is is_ascii_digit bytes ≡ true
    → IsNumber n (take (word_count bytes) bytes) → IsToken (Number n) bytes (word_count bytes)
number_token n bytes h k = record {
  more = first_passes bytes (digit_passes bytes h);
  within = word_count-within bytes;
  lexeme = (is_numeral bytes h, k);
}

pub number_fault : (site : Here) (place : ℕ) (bytes : List ℕ) (fault : LexFault)
    → first_is is_ascii_digit bytes ≡ true → IsNumberFault place (take (word_count bytes) bytes) fault
    → IsFault site place bytes fault
number_fault site place bytes (BadNumber at) h k = (
  k.0,
  take (word_count bytes) bytes,
  record {
    rest = drop (word_count bytes) bytes;
    parts = sym (take-append-drop (word_count bytes) bytes);
    numeral = is_numeral bytes h;
  },
  k.1,
)
number_fault site place bytes (BigNumber at) h k = (
  k.0,
  take (word_count bytes) bytes,
  record {
    rest = drop (word_count bytes) bytes;
    parts = sym (take-append-drop (word_count bytes) bytes);
    numeral = is_numeral bytes h;
  },
  k.1,
)
number_fault site place bytes (BadByte at) h k = absurd k
number_fault site place bytes (OpenComment at) h k = absurd k
number_fault site place bytes (Directive at) h k = absurd k
number_fault site place bytes (BadDefine at) h k = absurd k
