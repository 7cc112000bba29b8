-- Texts that begin or end with others.
use Rattle.std.proofs.Common.{◌≡◌, ℕ, zero, suc, ◌<◌, ◌≤◌, true, List, [], ◌∷◌, ◌++◌, take, drop, length, refl, sym}
use Rattle.std.proofs.Common.{ap, ◌∙◌, arith, get_or}
use Rattle.std.specs.List.{list_all}
use Rattle.std.specs.Prelude.{IsAscii, IsUtf8}
use Rattle.std.proofs.lemmas.Bool.{and_parts}
use Rattle.std.proofs.lemmas.Bool.Decides.{nat_tests}
use Rattle.std.proofs.lemmas.List.{take-append-drop, take_at}
use Rattle.std.proofs.lemmas.Slice.Eq.{bytes_eq-Decides}
use Rattle.std.proofs.lemmas.Str.{IsUtf8-from_ascii}
use Rattle.flame_ops.specs.Ascii.{is_word_byte}
use Rattle.flame_lex.specs.ByteRuns.{begins}

pub begins_two : (bytes : List ℕ) (a b : ℕ) → 2 ≤ length bytes → get_or bytes 0 0 ≡ a → get_or bytes 1 0 ≡ b
    → begins bytes (a ∷ b ∷ []) ≡ true
begins_two [] a b h x y = absurd (omega arith)
begins_two (c ∷ []) a b h x y = absurd (omega arith)
begins_two (c ∷ d ∷ bytes) a b h x y = (bytes_eq-Decides (a ∷ b ∷ []) (c ∷ d ∷ [])).1 (rw (sym x, sym y) refl)

pub begins_parts : (bytes text : List ℕ) → begins bytes text ≡ true → bytes ≡ text ++ drop (length text) bytes
begins_parts bytes text h =
    sym (take-append-drop (length text) bytes)
    ∙ ap (λ l. l ++ drop (length text) bytes) (sym ((bytes_eq-Decides text (take (length text) bytes)).0 h))

pub begins_from : (bytes text rest : List ℕ) → bytes ≡ text ++ rest → begins bytes text ≡ true
begins_from bytes text rest e =
    (bytes_eq-Decides text (take (length text) bytes)).1 (sym (ap (take (length text)) e
    ∙ take_at text rest (length text) refl))

word_byte-ascii : (b : ℕ) → is_word_byte b ≡ true → b < 128
word_byte-ascii b h = grind (arith, nat_tests)

word-IsAscii : (word : List ℕ) → list_all is_word_byte word ≡ true → IsAscii word
word-IsAscii [] h i = omega arith
word-IsAscii (b ∷ word) h zero = word_byte-ascii b (and_parts (is_word_byte b) (list_all is_word_byte word) h).0
word-IsAscii (b ∷ word) h (suc i) = word-IsAscii word (and_parts (is_word_byte b) (list_all is_word_byte word) h).1 i

pub word-IsUtf8 : (word : List ℕ) → list_all is_word_byte word ≡ true → IsUtf8 word
word-IsUtf8 word h = IsUtf8-from_ascii word (word-IsAscii word h)
