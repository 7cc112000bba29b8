-- Names stand in texts as they are.
use Rattle.std.proofs.Common.{◌≡◌, ◌⊎◌, ℕ, ◌<◌, ◌≤◌, List, [], ◌∷◌, ◌++◌, true, ◌==◌, IsUtf8, codes, refl, sym, ap₂, subst, arith, inl, inr}
use Rattle.std.specs.Prelude.{nat_le}
use Rattle.std.specs.List.{list_all}
use Rattle.std.specs.Char.{is_ascii_digit, is_ascii_alphabetic}
use Rattle.std.specs.Int.{is_in_range}
use Rattle.std.proofs.lemmas.Bool.{and_parts, and_from, or_cases, eqb-true, leb-true, lt-ltb}
use Rattle.json.specs.Print.{escape, escape_byte}
use Rattle.json.proofs.Printed.Strings.{escape_byte_plain}
use Rattle.json.proofs.Printed.Utf8.{are_ascii, IsUtf8-are_ascii}
use Rattle.flame_ops.specs.Ascii.{begins_word, is_word_byte}
use Rattle.flame_spec.specs.Names.{is_name}

-- a name that needs no escape
pub record IsPlain (name : List ℕ) : Type 0 where
  pub same : escape name ≡ name
  pub utf8 : IsUtf8 name

-- a byte that needs no escape
record IsPlainByte (byte : ℕ) : Type 0 where
  same : escape_byte byte ≡ byte ∷ []
  small : byte < 128

line_plain : IsPlainByte 95
unfolding escape_byte
line_plain = record { same = refl; small = omega arith }

-- a byte of a range above the quote that does not hold the backslash
in_range :
    (low high byte : ℕ)
    → is_in_range low high byte ≡ true
    → 48 ≤ low
    → high < 128
    → (high < 92) ⊎ (92 < low)
    → IsPlainByte byte
in_range low high byte within above below other =
    let both = and_parts (nat_le low byte) (nat_le byte high) within in
    let from = leb-true low byte both.0 in
    let to = leb-true byte high both.1 in
    let slash : byte ≡ 92 → ⊥ = λ e. elim other [ inl less ↦ omega arith | inr more ↦ omega arith ] in
    record {
      same = escape_byte_plain byte (λ e. omega arith) slash (omega arith);
      small = omega arith;
    }

letter_plain : (byte : ℕ) → is_ascii_alphabetic byte ≡ true → IsPlainByte byte
letter_plain byte h =
    elim (or_cases (is_in_range 65 90 byte) (is_in_range 97 122 byte) h) [
      | inl big ↦ in_range 65 90 byte big (omega arith) (omega arith) (inl (omega arith))
      | inr small ↦ in_range 97 122 byte small (omega arith) (omega arith) (inr (omega arith))
    ]

word_plain : (byte : ℕ) → is_word_byte byte ≡ true → IsPlainByte byte
word_plain byte h =
    elim (or_cases (begins_word byte) (is_ascii_digit byte) h) [
      | inl begins ↦ elim (or_cases (is_ascii_alphabetic byte) (byte == 95) begins) [
        | inl letter ↦ letter_plain byte letter
        | inr line ↦ subst IsPlainByte (sym (eqb-true byte 95 line)) line_plain
      ]
      | inr digit ↦ in_range 48 57 byte digit (omega arith) (omega arith) (inl (omega arith))
    ]

words_same : (name : List ℕ) → list_all is_word_byte name ≡ true → escape name ≡ name
words_same [] h = refl
words_same (byte ∷ name) h =
    let both = and_parts _ _ h in
    ap₂ (λ (a b : List ℕ). a ++ b) (word_plain byte both.0).same (words_same name both.1)

words_ascii : (name : List ℕ) → list_all is_word_byte name ≡ true → are_ascii name ≡ true
words_ascii [] h = refl
words_ascii (byte ∷ name) h =
    let both = and_parts _ _ h in
    and_from _ _ (lt-ltb byte 128 (word_plain byte both.0).small) (words_ascii name both.1)

-- a name of a model is plain
pub name_plain : (name : List ℕ) → is_name name ≡ true → IsPlain name
name_plain name h =
    let words = (and_parts _ _ h).1 in
    record { same = words_same name words; utf8 = IsUtf8-are_ascii name (words_ascii name words) }

-- ---- the keys

pub states_plain : IsPlain (codes "states")
unfolding escape_byte
states_plain = record { same = refl; utf8 = IsUtf8-are_ascii _ refl }

pub version_plain : IsPlain (codes "version")
unfolding escape_byte
version_plain = record { same = refl; utf8 = IsUtf8-are_ascii _ refl }

pub itno_plain : IsPlain (codes "itno")
unfolding escape_byte
itno_plain = record { same = refl; utf8 = IsUtf8-are_ascii _ refl }

pub environment_plain : IsPlain (codes "environment")
unfolding escape_byte
environment_plain = record { same = refl; utf8 = IsUtf8-are_ascii _ refl }

pub agents_plain : IsPlain (codes "agents")
unfolding escape_byte
agents_plain = record { same = refl; utf8 = IsUtf8-are_ascii _ refl }

pub boards_plain : IsPlain (codes "boards")
unfolding escape_byte
boards_plain = record { same = refl; utf8 = IsUtf8-are_ascii _ refl }

pub name_key_plain : IsPlain (codes "name")
unfolding escape_byte
name_key_plain = record { same = refl; utf8 = IsUtf8-are_ascii _ refl }

pub memory_plain : IsPlain (codes "memory")
unfolding escape_byte
memory_plain = record { same = refl; utf8 = IsUtf8-are_ascii _ refl }

pub rows_plain : IsPlain (codes "rows")
unfolding escape_byte
rows_plain = record { same = refl; utf8 = IsUtf8-are_ascii _ refl }

pub messages_plain : IsPlain (codes "messages")
unfolding escape_byte
messages_plain = record { same = refl; utf8 = IsUtf8-are_ascii _ refl }
