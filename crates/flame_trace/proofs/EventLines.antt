-- Lines that are written, and read again.
use Rattle.std.proofs.Common.{◌≡◌, ℕ, ◌<◌, Bool, true, false, cond, List, [], ◌∷◌, ◌++◌}
use Rattle.std.proofs.Common.{Option, Some, None, arith, refl, sym, ap, ap₂, ◌∙◌, subst, codes}
use Rattle.std.specs.Prelude.{option_and_then}
use Rattle.std.specs.Fmt.{decimal}
use Rattle.std.specs.List.{join_with_byte}
use Rattle.std.specs.Str.{bytes_eq}
use Rattle.std.proofs.lemmas.List.Splits.{join_with_byte-slice_split}
use Rattle.flame_rows.proofs.Bytes.{bytes_eq-true}
use Rattle.flame_events.specs.declared.events.Event.{Event}
use Rattle.flame_events.specs.declared.events.Event.TheVariants as event
use Rattle.flame_trace.specs.TraceLines.{words, number_of}
use Rattle.flame_trace.specs.TraceLines.{event_of_one, event_of_two, event_of_three, event_in, event_of}
use Rattle.flame_trace.specs.TraceTexts.{event_line}
use Rattle.flame_trace.specs.TraceLaws.{IsNumberedEvent}
use Rattle.flame_trace.proofs.Numerals.{number_within-decimal, number_within-some, decimal-lacks, split-last, split-part}

-- ---- written and read

number_of-decimal : (n : ℕ) → n < 4294967296 → number_of (decimal n) ≡ Some n
number_of-decimal n small = number_within-decimal 0 4294967295 n (omega arith) (omega arith) (omega arith)

pub words-last : (n : ℕ) → words (decimal n) ≡ decimal n ∷ []
words-last n = split-last 32 (decimal n) (decimal-lacks 32 n (omega arith))

pub words-number : (n : ℕ) (rest : List ℕ) → words (decimal n ++ 32 ∷ rest) ≡ decimal n ∷ words rest
words-number n rest = split-part 32 (decimal n) rest (decimal-lacks 32 n (omega arith))

of_one : (name : List ℕ) (f : ℕ) → f < 4294967296
    → event_in (name ∷ words (decimal f)) ≡ event_of_one name f
of_one name f small =
    ap (λ (further : List (List ℕ)). event_in (name ∷ further)) (words-last f)
    ∙ ap (option_and_then (λ f. event_of_one name f)) (number_of-decimal f small)

of_two : (name : List ℕ) (f k : ℕ) → f < 4294967296 → k < 4294967296
    → event_in (name ∷ words (decimal f ++ 32 ∷ decimal k)) ≡ event_of_two name f k
of_two name f k small less =
    ap (λ (further : List (List ℕ)). event_in (name ∷ further))
    (words-number f (decimal k) ∙ ap (λ (further : List (List ℕ)). decimal f ∷ further) (words-last k))
    ∙ ap (option_and_then (λ f. option_and_then (λ k. event_of_two name f k) (number_of (decimal k)))) (number_of-decimal f small)
    ∙ ap (option_and_then (λ k. event_of_two name f k)) (number_of-decimal k less)

of_three : (name : List ℕ) (f k m : ℕ) → f < 4294967296 → k < 4294967296 → m < 4294967296
    → event_in (name ∷ words (decimal f ++ 32 ∷ (decimal k ++ 32 ∷ decimal m))) ≡ event_of_three name f k m
of_three name f k m small less least =
    ap (λ (further : List (List ℕ)). event_in (name ∷ further))
    (words-number f (decimal k ++ 32 ∷ decimal m)
    ∙ ap (λ (further : List (List ℕ)). decimal f ∷ further)
    (words-number k (decimal m) ∙ ap (λ (further : List (List ℕ)). decimal k ∷ further) (words-last m)))
    ∙ ap
    (option_and_then
    (λ f.
    option_and_then (λ k. option_and_then (λ m. event_of_three name f k m) (number_of (decimal m))) (number_of (decimal k))))
    (number_of-decimal f small)
    ∙ ap (option_and_then (λ k. option_and_then (λ m. event_of_three name f k m) (number_of (decimal m))))
    (number_of-decimal k less)
    ∙ ap (option_and_then (λ m. event_of_three name f k m)) (number_of-decimal m least)

-- the line of an event tells this event
pub event_of-event_line : (told : Event) → IsNumberedEvent told → event_of (event_line told) ≡ Some told
event_of-event_line (event.Open f) small = of_one (codes "open") f small
event_of-event_line (event.Agent f k) small = of_two (codes "agent") f k small.0 small.1
event_of-event_line (event.HandIn f k m) small = of_three (codes "handin") f k m small.0 small.1 small.2
event_of-event_line (event.Shut f) small = of_one (codes "shut") f small
event_of-event_line (event.Freeze m) small = of_one (codes "freeze") m small

-- ---- read and written

-- a line that tells an event is that of this event, and 32 bits hold its numbers
pub record IsLineOfEvent (line : List ℕ) (told : Event) : Type 0 where
  pub is : line ≡ event_line told
  pub numbered : IsNumberedEvent told

of_event : (line : List ℕ) (event told : Event) → line ≡ event_line event → IsNumberedEvent event → event ≡ told
    → IsLineOfEvent line told
of_event line event told is numbered same =
    subst (IsLineOfEvent line) same (record { is = is; numbered = numbered })

-- what is there, and what comes of it
record Found {X Y : Type 0} (f : X → Option Y) (o : Option X) (y : Y) : Type 0 where
  x : X
  is : o ≡ Some x
  gives : f x ≡ Some y

found : {X Y : Type 0} (f : X → Option Y) (o : Option X) (y : Y) → option_and_then f o ≡ Some y → Found f o y
found f None y e = absurd (cc)
found f (Some x) y e = record { x = x; is = refl; gives = e }

one_by : (opens shuts freezes : Bool) (name : List ℕ) (f : ℕ) (told : Event)
    → f < 4294967296
    → bytes_eq name (codes "open") ≡ opens
    → bytes_eq name (codes "shut") ≡ shuts
    → bytes_eq name (codes "freeze") ≡ freezes
    → cond opens (Some (event.Open f)) (cond shuts (Some (event.Shut f)) (cond freezes (Some (event.Freeze f)) None)) ≡ Some told
    → IsLineOfEvent (name ++ 32 ∷ decimal f) told
one_by true shuts freezes name f told small o s z e =
    of_event (name ++ 32 ∷ decimal f) (event.Open f) told
    (ap (λ (text : List ℕ). text ++ 32 ∷ decimal f) (bytes_eq-true name (codes "open") o)) small (cc)
one_by false true freezes name f told small o s z e =
    of_event (name ++ 32 ∷ decimal f) (event.Shut f) told
    (ap (λ (text : List ℕ). text ++ 32 ∷ decimal f) (bytes_eq-true name (codes "shut") s)) small (cc)
one_by false false true name f told small o s z e =
    of_event (name ++ 32 ∷ decimal f) (event.Freeze f) told
    (ap (λ (text : List ℕ). text ++ 32 ∷ decimal f) (bytes_eq-true name (codes "freeze") z)) small (cc)
one_by false false false name f told small o s z e = absurd (cc)

one_line : (name : List ℕ) (f : ℕ) (told : Event) → f < 4294967296 → event_of_one name f ≡ Some told
    → IsLineOfEvent (name ++ 32 ∷ decimal f) told
one_line name f told small e =
    one_by (bytes_eq name (codes "open")) (bytes_eq name (codes "shut")) (bytes_eq name (codes "freeze")) name f told small
    refl refl refl e

two_by : (test : Bool) (name : List ℕ) (f k : ℕ) (told : Event)
    → f < 4294967296
    → k < 4294967296
    → bytes_eq name (codes "agent") ≡ test
    → cond test (Some (event.Agent f k)) None ≡ Some told
    → IsLineOfEvent (name ++ 32 ∷ (decimal f ++ 32 ∷ decimal k)) told
two_by true name f k told small less is e =
    of_event (name ++ 32 ∷ (decimal f ++ 32 ∷ decimal k)) (event.Agent f k) told
    (ap (λ (text : List ℕ). text ++ 32 ∷ (decimal f ++ 32 ∷ decimal k)) (bytes_eq-true name (codes "agent") is))
    (small, less) (cc)
two_by false name f k told small less is e = absurd (cc)

three_by : (test : Bool) (name : List ℕ) (f k m : ℕ) (told : Event)
    → f < 4294967296
    → k < 4294967296
    → m < 4294967296
    → bytes_eq name (codes "handin") ≡ test
    → cond test (Some (event.HandIn f k m)) None ≡ Some told
    → IsLineOfEvent (name ++ 32 ∷ (decimal f ++ 32 ∷ (decimal k ++ 32 ∷ decimal m))) told
three_by true name f k m told small less least is e =
    of_event (name ++ 32 ∷ (decimal f ++ 32 ∷ (decimal k ++ 32 ∷ decimal m))) (event.HandIn f k m) told
    (ap (λ (text : List ℕ). text ++ 32 ∷ (decimal f ++ 32 ∷ (decimal k ++ 32 ∷ decimal m)))
    (bytes_eq-true name (codes "handin") is))
    (small, less, least) (cc)
three_by false name f k m told small less least is e = absurd (cc)

-- a word that is read as a number is what is written of it, and 32 bits hold it
record IsWordOf (word : List ℕ) (n : ℕ) : Type 0 where
  is : word ≡ decimal n
  small : n < 4294967296

word_of : (word : List ℕ) (n : ℕ) → number_of word ≡ Some n → IsWordOf word n
word_of word n e =
    let read = number_within-some 0 4294967295 word n e (omega arith) in
    record { is = read.is; small = omega (arith, read.high) }

event_in-line : (line : List (List ℕ)) (told : Event) → event_in line ≡ Some told → IsLineOfEvent (join_with_byte 32 line) told
event_in-line [] told e = absurd (cc)
event_in-line (name ∷ []) told e = absurd (cc)
event_in-line (name ∷ f ∷ []) told e =
    let one = found (λ f. event_of_one name f) (number_of f) told e in
    let first = word_of f one.x one.is in
    subst (λ (text : List ℕ). IsLineOfEvent (name ++ 32 ∷ text) told) (sym first.is)
    (one_line name one.x told first.small one.gives)
event_in-line (name ∷ f ∷ k ∷ []) told e =
    let one = found (λ f. option_and_then (λ k. event_of_two name f k) (number_of k)) (number_of f) told e in
    let two = found (λ k. event_of_two name one.x k) (number_of k) told one.gives in
    let first = word_of f one.x one.is in
    let second = word_of k two.x two.is in
    subst (λ (text : List ℕ). IsLineOfEvent (name ++ 32 ∷ text) told)
    (ap₂ (λ (front rest : List ℕ). front ++ 32 ∷ rest) (sym first.is) (sym second.is))
    (two_by (bytes_eq name (codes "agent")) name one.x two.x told first.small second.small refl two.gives)
event_in-line (name ∷ f ∷ k ∷ m ∷ []) told e =
    let one =
    found
    (λ f. option_and_then (λ k. option_and_then (λ m. event_of_three name f k m) (number_of m)) (number_of k))
    (number_of f) told e in
    let two = found (λ k. option_and_then (λ m. event_of_three name one.x k m) (number_of m)) (number_of k) told one.gives in
    let three = found (λ m. event_of_three name one.x two.x m) (number_of m) told two.gives in
    let first = word_of f one.x one.is in
    let second = word_of k two.x two.is in
    let third = word_of m three.x three.is in
    subst (λ (text : List ℕ). IsLineOfEvent (name ++ 32 ∷ text) told)
    (ap₂ (λ (front rest : List ℕ). front ++ 32 ∷ rest) (sym first.is)
    (ap₂ (λ (front rest : List ℕ). front ++ 32 ∷ rest) (sym second.is) (sym third.is)))
    (three_by (bytes_eq name (codes "handin")) name one.x two.x three.x told first.small second.small third.small refl
    three.gives)
event_in-line (name ∷ f ∷ k ∷ m ∷ more ∷ further) told e = absurd (cc)

-- a line that tells an event
pub event_of-line : (line : List ℕ) (told : Event) → event_of line ≡ Some told → IsLineOfEvent line told
event_of-line line told e =
    subst (λ (text : List ℕ). IsLineOfEvent text told) (join_with_byte-slice_split 32 line) (event_in-line (words line) told e)
