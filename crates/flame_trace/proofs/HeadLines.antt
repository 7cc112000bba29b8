-- Line 1, as it is written and read again.
use Rattle.std.proofs.Common.{◌≡◌, ℕ, ◌≤◌, Bool, true, false, cond, ◌&&◌, List, [], ◌∷◌, ◌++◌}
use Rattle.std.proofs.Common.{Option, Some, None, arith, refl, sym, ap, ap₂, ◌∙◌, codes}
use Rattle.std.specs.Prelude.{pos}
use Rattle.std.specs.Fmt.{decimal}
use Rattle.std.specs.List.{join_with_byte}
use Rattle.std.specs.Str.{bytes_eq}
use Rattle.std.proofs.lemmas.Bool.{and_parts}
use Rattle.std.proofs.lemmas.List.Splits.{join_with_byte-slice_split}
use Rattle.flame_rows.proofs.Bytes.{bytes_eq-true}
use Rattle.flame_trace.specs.declared.heads.Head.{Head}
use Rattle.flame_trace.specs.TraceLines.{words, number_within, head_with, head_in, head_of}
use Rattle.flame_trace.specs.TraceTexts.{head_line}
use Rattle.flame_trace.proofs.Numerals.{number_within-decimal, number_within-some}
use Rattle.flame_trace.proofs.EventLines.{words-last, words-number}

-- ---- written and read

-- the numbers of line 1 are within their bounds
pub record IsHeadOf (i p f : ℕ) : Type 0 where
  pub first : 1 ≤ i
  pub last : i ≤ 2147483647
  pub some : 1 ≤ p
  pub few : p ≤ 64
  pub enough : f ≤ 1000000000

head_words : (i p f : ℕ)
    → words (head_line (pos i) p f)
    ≡ codes "trace" ∷ codes "iteration" ∷ decimal i ∷ codes "pieces" ∷ decimal p ∷ codes "fuel" ∷ decimal f ∷ []
head_words i p f =
    ap (λ (further : List (List ℕ)). codes "trace" ∷ codes "iteration" ∷ further)
    (words-number i (codes "pieces " ++ (decimal p ++ (codes " fuel " ++ decimal f)))
    ∙ ap (λ (further : List (List ℕ)). decimal i ∷ codes "pieces" ∷ further)
    (words-number p (codes "fuel " ++ decimal f)
    ∙ ap (λ (further : List (List ℕ)). decimal p ∷ codes "fuel" ∷ further) (words-last f)))

-- what is written as line 1 says these numbers
pub head_of-head_line : (i p f : ℕ) → IsHeadOf i p f
    → head_of (head_line (pos i) p f) ≡ Some (record { iteration = i; pieces = p; fuel = f })
head_of-head_line i p f is =
    let one = number_within-decimal 1 2147483647 i is.first is.last (omega (arith, is.last)) in
    let two = number_within-decimal 1 64 p is.some is.few (omega (arith, is.few)) in
    let three = number_within-decimal 0 1000000000 f (omega arith) is.enough (omega (arith, is.enough)) in
    ap head_in (head_words i p f)
    ∙ ap₂ (λ (i p : Option ℕ). head_with i p (number_within 0 1000000000 (decimal f))) one two
    ∙ ap (λ (f : Option ℕ). head_with (Some i) (Some p) f) three

-- ---- read and written

-- a line that says these numbers is that of these numbers, which are within their bounds
pub record IsLineOf (line : List ℕ) (head : Head) : Type 0 where
  pub within : IsHeadOf head.iteration head.pieces head.fuel
  pub is : line ≡ head_line (pos head.iteration) head.pieces head.fuel

-- three numbers that are there
record AreThere (i p f : Option ℕ) (head : Head) : Type 0 where
  iteration : i ≡ Some head.iteration
  pieces : p ≡ Some head.pieces
  fuel : f ≡ Some head.fuel

there : (i p f : Option ℕ) (head : Head) → head_with i p f ≡ Some head → AreThere i p f head
there (Some i) (Some p) (Some f) head e =
    let is : record { iteration = i; pieces = p; fuel = f } ≡ head = cc in
    record {
      iteration = ap (λ (h : Head). Some h.iteration) is;
      pieces = ap (λ (h : Head). Some h.pieces) is;
      fuel = ap (λ (h : Head). Some h.fuel) is;
    }
there None p f head e = absurd (cc)
there (Some i) None f head e = absurd (cc)
there (Some i) (Some p) None head e = absurd (cc)

-- seven words
abbrev join_seven : List ℕ → List ℕ → List ℕ → List ℕ → List ℕ → List ℕ → List ℕ → List ℕ
join_seven trace iteration i pieces p fuel f =
    join_with_byte 32 (trace ∷ iteration ∷ i ∷ pieces ∷ p ∷ fuel ∷ f ∷ [])

named : (trace iteration i pieces p fuel f : List ℕ)
    → (bytes_eq trace (codes "trace")
    && bytes_eq iteration (codes "iteration")
    && bytes_eq pieces (codes "pieces")
    && bytes_eq fuel (codes "fuel"))
    ≡ true
    → join_seven trace iteration i pieces p fuel f
    ≡ join_seven (codes "trace") (codes "iteration") i (codes "pieces") p (codes "fuel") f
named trace iteration i pieces p fuel f tests =
    let one =
    and_parts
    (bytes_eq trace (codes "trace") && bytes_eq iteration (codes "iteration") && bytes_eq pieces (codes "pieces"))
    (bytes_eq fuel (codes "fuel")) tests in
    let two =
    and_parts (bytes_eq trace (codes "trace") && bytes_eq iteration (codes "iteration")) (bytes_eq pieces (codes "pieces"))
    one.0 in
    let three = and_parts (bytes_eq trace (codes "trace")) (bytes_eq iteration (codes "iteration")) two.0 in
    ap₂ (λ (a b : List ℕ). join_seven a b i pieces p fuel f) (bytes_eq-true trace (codes "trace") three.0)
    (bytes_eq-true iteration (codes "iteration") three.1)
    ∙ ap₂ (λ (a b : List ℕ). join_seven (codes "trace") (codes "iteration") i a p b f)
    (bytes_eq-true pieces (codes "pieces") two.1) (bytes_eq-true fuel (codes "fuel") one.1)

head_by : (test : Bool) (trace iteration i pieces p fuel f : List ℕ) (head : Head)
    → (bytes_eq trace (codes "trace")
    && bytes_eq iteration (codes "iteration")
    && bytes_eq pieces (codes "pieces")
    && bytes_eq fuel (codes "fuel"))
    ≡ test
    → cond test (head_with (number_within 1 2147483647 i) (number_within 1 64 p) (number_within 0 1000000000 f)) None
    ≡ Some head
    → IsLineOf (join_seven trace iteration i pieces p fuel f) head
head_by false trace iteration i pieces p fuel f head tests e = absurd (cc)
head_by true trace iteration i pieces p fuel f head tests e =
    let all = there (number_within 1 2147483647 i) (number_within 1 64 p) (number_within 0 1000000000 f) head e in
    let one = number_within-some 1 2147483647 i head.iteration all.iteration (omega arith) in
    let two = number_within-some 1 64 p head.pieces all.pieces (omega arith) in
    let three = number_within-some 0 1000000000 f head.fuel all.fuel (omega arith) in
    record {
      within = record {
        first = one.low;
        last = one.high;
        some = two.low;
        few = two.high;
        enough = three.high;
      };
      is =
          named trace iteration i pieces p fuel f tests
          ∙ ap₂
          (λ (a b : List ℕ). join_seven (codes "trace") (codes "iteration") a (codes "pieces") b (codes "fuel") f)
          one.is two.is
          ∙ ap
          (λ (c : List ℕ).
          join_seven (codes "trace") (codes "iteration") (decimal head.iteration) (codes "pieces") (decimal head.pieces)
          (codes "fuel") c)
          three.is;
    }

head_in-line : (line : List (List ℕ)) (head : Head) → head_in line ≡ Some head → IsLineOf (join_with_byte 32 line) head
head_in-line (trace ∷ iteration ∷ i ∷ pieces ∷ p ∷ fuel ∷ f ∷ []) head e =
    head_by
    (bytes_eq trace (codes "trace")
    && bytes_eq iteration (codes "iteration")
    && bytes_eq pieces (codes "pieces")
    && bytes_eq fuel (codes "fuel"))
    trace iteration i pieces p fuel f head refl e
head_in-line [] head e = absurd (cc)
head_in-line (a ∷ []) head e = absurd (cc)
head_in-line (a ∷ b ∷ []) head e = absurd (cc)
head_in-line (a ∷ b ∷ c ∷ []) head e = absurd (cc)
head_in-line (a ∷ b ∷ c ∷ d ∷ []) head e = absurd (cc)
head_in-line (a ∷ b ∷ c ∷ d ∷ f ∷ []) head e = absurd (cc)
head_in-line (a ∷ b ∷ c ∷ d ∷ f ∷ g ∷ []) head e = absurd (cc)
head_in-line (a ∷ b ∷ c ∷ d ∷ f ∷ g ∷ h ∷ more ∷ further) head e = absurd (cc)

-- a line that says which iteration it is is line 1 of its text
pub head_of-line : (line : List ℕ) (head : Head) → head_of line ≡ Some head → IsLineOf line head
head_of-line line head e =
    let is = head_in-line (words line) head e in
    record { within = is.within; is = sym (join_with_byte-slice_split 32 line) ∙ is.is }
