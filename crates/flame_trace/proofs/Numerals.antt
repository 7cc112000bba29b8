-- Numbers that are written, and read again.
use Rattle.std.proofs.Common.{◌≡◌, ℕ, zero, suc, ◌+◌, ◌*◌, ◌<◌, ◌≤◌, ◌^◌, Bool, true, false, cond, not, ◌&&◌, ◌||◌, List, [], ◌∷◌, ◌++◌, length, get_or}
use Rattle.std.proofs.Common.{Some, None, arith, rules, refl, sym, ap, ◌∙◌, eq-eqb, ne_eqb, leb-true, le-leb, fold}
use Rattle.std.specs.Prelude.{◌==◌, ◌/◌, ◌%◌, ℤ, pos, negsuc, nat_le, nat_lt, All}
use Rattle.std.specs.Char.{digit_value, is_ascii_digit}
use Rattle.std.specs.Fmt.{digit_glyph, digits_onto, digits, decimal, signed_decimal}
use Rattle.std.specs.List.{list_all, slice_split}
use Rattle.std.proofs.lemmas.Bool.{and_parts, and_from, eqb-true, true≢false}
use Rattle.std.proofs.lemmas.Fmt.{digits_decimal, digits_value-decimal, decimal-digits_value, decimal_nonempty, first_decimal, decimal_digit}
use Rattle.std.proofs.lemmas.List.Elements.{All-cons, All-nil}
use Rattle.std.proofs.lemmas.List.Splits.{slice_split_none, slice_split_at}
use Rattle.std.proofs.lemmas.Str.Parse.{IsNumeralModel, numerals_by_fold}
use Rattle.flame_trace.specs.TraceLines.{is_numeral, number_within, numeral_value}

-- ---- digits

own : IsNumeralModel (λ digits. list_all is_ascii_digit digits ≡ true) numeral_value
own =
    numerals_by_fold _ (search rules) (λ value digits. fold (λ value digit. 10 * value + digit_value digit) value digits)
    (search rules)

leads_by : (test : Bool) (first : ℕ) (further : List ℕ) → (first == 48) ≡ test
    → (first ≡ 48 → length (first ∷ further) ≡ 1)
    → (not test || (length further == 0)) ≡ true
leads_by false first further is lead = refl
leads_by true first further is lead =
    let one : length further ≡ 0 = omega (arith, lead (eqb-true first 48 is)) in eq-eqb (length further) 0 one

is_numeral-from : (word : List ℕ) → list_all is_ascii_digit word ≡ true → 0 < length word
    → (get_or word 0 0 ≡ 48 → length word ≡ 1)
    → is_numeral word ≡ true
is_numeral-from [] all filled lead = absurd (omega arith)
is_numeral-from (first ∷ further) all filled lead =
    and_from (list_all is_ascii_digit (first ∷ further)) (not (first == 48) || (length further == 0)) all
    (leads_by (first == 48) first further refl lead)

leads_to : (test : Bool) (first : ℕ) (further : List ℕ) → (first == 48) ≡ test
    → (not test || (length further == 0)) ≡ true
    → first ≡ 48
    → length (first ∷ further) ≡ 1
leads_to true first further is lead nought = let none = eqb-true (length further) 0 lead in omega (arith, none)
leads_to false first further is lead nought = absurd (true≢false (sym (eq-eqb first 48 nought) ∙ is))

-- digits without a leading zero
record IsNumeralText (word : List ℕ) : Type 0 where
  all : list_all is_ascii_digit word ≡ true
  filled : 0 < length word
  lead : get_or word 0 0 ≡ 48 → length word ≡ 1

is_numeral-parts : (word : List ℕ) → is_numeral word ≡ true → IsNumeralText word
is_numeral-parts [] is = absurd (true≢false (sym is))
is_numeral-parts (first ∷ further) is =
    let both = and_parts (list_all is_ascii_digit (first ∷ further)) (not (first == 48) || (length further == 0)) is in
    record {
      all = both.0;
      filled = omega arith;
      lead = leads_to (first == 48) first further refl both.1;
    }

decimal-lead : (n : ℕ) → n < 2 ^ 64 → get_or (decimal n) 0 0 ≡ 48 → length (decimal n) ≡ 1
decimal-lead zero small lead = ap length (decimal_digit 0 (omega arith))
decimal-lead (suc n) small lead = let more = first_decimal (suc n) (omega arith) small in absurd (omega (arith, more, lead))

-- ---- numbers

both_hold : (word : List ℕ) (least most n : ℕ) → is_numeral word ≡ true → numeral_value word ≡ n → least ≤ n → n ≤ most
    → (is_numeral word && nat_le least (numeral_value word) && nat_le (numeral_value word) most) ≡ true
both_hold word least most n is value low high =
    let one : nat_le least (numeral_value word) ≡ true = le-leb least (numeral_value word) (omega (arith, value)) in
    let two : nat_le (numeral_value word) most ≡ true = le-leb (numeral_value word) most (omega (arith, value)) in
    and_from (is_numeral word && nat_le least (numeral_value word)) (nat_le (numeral_value word) most)
    (and_from (is_numeral word) (nat_le least (numeral_value word)) is one) two

-- what is written of a number is read as this number
pub number_within-decimal : (least most n : ℕ) → least ≤ n → n ≤ most → n < 2 ^ 64
    → number_within least most (decimal n) ≡ Some n
number_within-decimal least most n low high small =
    let value : numeral_value (decimal n) ≡ n = digits_value-decimal own n small in
    let is : is_numeral (decimal n) ≡ true =
    is_numeral-from (decimal n) (digits_decimal own n small) (decimal_nonempty n small) (decimal-lead n small) in
    ap (λ (test : Bool). cond test (Some (numeral_value (decimal n))) None) (both_hold (decimal n) least most n is value low high)
    ∙ ap Some value

-- a word that is read as a number is what is written of it
pub record IsReadAs (least most : ℕ) (word : List ℕ) (n : ℕ) : Type 0 where
  pub is : word ≡ decimal n
  pub low : least ≤ n
  pub high : n ≤ most

read_by : (test : Bool) (least most : ℕ) (word : List ℕ) (n : ℕ)
    → (is_numeral word && nat_le least (numeral_value word) && nat_le (numeral_value word) most) ≡ test
    → cond test (Some (numeral_value word)) None ≡ Some n
    → most < 2 ^ 64
    → IsReadAs least most word n
read_by false least most word n tests e small = cc
read_by true least most word n tests e small =
    let one = and_parts (is_numeral word && nat_le least (numeral_value word)) (nat_le (numeral_value word) most) tests in
    let two = and_parts (is_numeral word) (nat_le least (numeral_value word)) one.0 in
    let value : numeral_value word ≡ n = cc in
    let low = leb-true least (numeral_value word) two.1 in
    let high = leb-true (numeral_value word) most one.1 in
    let text = is_numeral-parts word two.0 in
    let written : decimal (numeral_value word) ≡ word =
    decimal-digits_value own word text.all text.filled text.lead (omega (arith, high, small)) in
    record {
      is = sym written ∙ ap decimal value;
      low = omega (arith, low, value);
      high = omega (arith, high, value);
    }

pub number_within-some : (least most : ℕ) (word : List ℕ) (n : ℕ) → number_within least most word ≡ Some n → most < 2 ^ 64
    → IsReadAs least most word n
number_within-some least most word n e small =
    read_by (is_numeral word && nat_le least (numeral_value word) && nat_le (numeral_value word) most) least most word n refl e
    small

-- ---- bytes that no number has

-- none of these bytes is this one
abbrev pub Lacks : ℕ → List ℕ → Type 0
Lacks byte bytes = All (λ other. (other == byte) ≡ false) bytes

glyph_by : (test : Bool) (byte d : ℕ) → byte < 48 → (cond test (48 + d) (87 + d) == byte) ≡ false
glyph_by true byte d below = ne_eqb (48 + d) byte (λ e. omega arith)
glyph_by false byte d below = ne_eqb (87 + d) byte (λ e. omega arith)

lacks_by : (test : Bool) (byte : ℕ) (one two : List ℕ) → Lacks byte one → Lacks byte two → Lacks byte (cond test one two)
lacks_by true byte one two a b = a
lacks_by false byte one two a b = b

onto-lacks : (k byte n : ℕ) (behind : List ℕ) → byte < 48 → Lacks byte behind → Lacks byte (digits_onto k 10 false n behind)
onto-lacks zero byte n behind below lacks = lacks
onto-lacks (suc k) byte n behind below lacks =
    let glyph = digit_glyph false (n % 10) in
    let more : Lacks byte (glyph ∷ behind) =
    All-cons (λ other. (other == byte) ≡ false) glyph behind (glyph_by (nat_lt (n % 10) 10) byte (n % 10) below) lacks in
    lacks_by (n / 10 == 0) byte (glyph ∷ behind) (digits_onto k 10 false (n / 10) (glyph ∷ behind)) more
    (onto-lacks k byte (n / 10) (glyph ∷ behind) below more)

-- a byte below the digits stands in no number that is written, however great it is
pub decimal-lacks : (byte n : ℕ) → byte < 48 → Lacks byte (decimal n)
unfolding digits
decimal-lacks byte n below = onto-lacks 64 byte n [] below (All-nil (λ other. (other == byte) ≡ false))

pub signed-lacks : (byte : ℕ) (z : ℤ) → byte < 48 → (45 == byte) ≡ false → Lacks byte (signed_decimal z)
signed-lacks byte (pos n) below minus = decimal-lacks byte n below
signed-lacks byte (negsuc n) below minus =
    All-cons (λ other. (other == byte) ≡ false) 45 (decimal (suc n)) minus (decimal-lacks byte (suc n) below)

-- ---- parts

-- a part that lacks the byte, with no such byte behind it
pub split-last : (byte : ℕ) (part : List ℕ) → Lacks byte part → slice_split (λ other. other == byte) part ≡ part ∷ []
split-last byte part lacks = slice_split_none (λ other. other == byte) part lacks

-- a part that lacks the byte, up to one
pub split-part : (byte : ℕ) (part rest : List ℕ) → Lacks byte part
    → slice_split (λ other. other == byte) (part ++ byte ∷ rest) ≡ part ∷ slice_split (λ other. other == byte) rest
split-part byte part rest lacks =
    slice_split_at (λ other. other == byte) part byte rest lacks (eq-eqb byte byte refl)
