-- The verdict by whole lists of lines is the verdict from line to line.
use Rattle.std.proofs.Common.{◌≡◌, ℕ, suc, ◌+◌, Bool, true, false, cond, List, [], ◌∷◌, ◌++◌, length, take, drop}
use Rattle.std.proofs.Common.{Option, Some, None, arith, refl, sym, ap, ap₂, ◌∙◌}
use Rattle.std.specs.Prelude.{◌==◌, slice_get, take_while, unwrap_or, not}
use Rattle.std.specs.List.{slice_split, onto_first, join_with_byte, prefix_len, cons_option}
use Rattle.std.proofs.lemmas.List.Splits.{join_with_byte-slice_split}
use Rattle.flame_spec.specs.declared.models.Model.{Model}
use Rattle.flame_spec.specs.declared.outcomes.Source.{Source}
use Rattle.flame_spec.specs.Lists.{each_from, first}
use Rattle.flame_world.specs.declared.verdicts.Verdict.{Verdict}
use Rattle.flame_world.specs.declared.verdicts.Verdict.TheVariants.{Form, Illegal}
use Rattle.flame_world.specs.Iterations.{Round}
use Rattle.flame_events.specs.declared.events.Event.{Event}
use Rattle.flame_events.specs.CoreStates.{Core}
use Rattle.flame_events.specs.EventSteps.{after, replay}
use Rattle.flame_events.specs.LegalEvents.{is_legal}
use Rattle.flame_popfile.specs.declared.starts.Start.{Start}
use Rattle.flame_trace.specs.TraceLines.{line_feed, parts, all_but_last, head_of, event_of, is_end}
use Rattle.flame_trace.specs.TraceVerdicts.{event_lines, events_in, event_answer, event_answers, end_verdict, end_verdict_at}
use Rattle.flame_trace.specs.TraceVerdicts.{verdict_behind, verdict_under, verdict_of, verdict}
use Rattle.flame_trace.specs.TraceSteps.{where_legal, onward}

-- ---- lists

-- a list has parts, however it is split
pub record Parted {X : Type 0} (parts : List (List X)) : Type 0 where
  pub part : List X
  pub further : List (List X)
  pub is : parts ≡ part ∷ further

parted_onto : {X : Type 0} (x : X) (parts : List (List X)) → Parted parts → Parted (onto_first x parts)
parted_onto x parts some = record {
  part = x ∷ some.part;
  further = some.further;
  is = ap (onto_first x) some.is;
}

parted_by : {X : Type 0} (test : Bool) (x : X) (parts : List (List X)) → Parted parts → Parted (cond test ([] ∷ parts) (onto_first x parts))
parted_by true x parts some = record { part = []; further = parts; is = refl }
parted_by false x parts some = parted_onto x parts some

pub split-parted : {X : Type 0} (p : X → Bool) (xs : List X) → Parted (slice_split p xs)
split-parted p [] = record { part = []; further = []; is = refl }
split-parted p (x ∷ xs) = parted_by (p x) x (slice_split p xs) (split-parted p xs)

-- what each element gives with its number, where that of the next number is known
each_from-next : {X Y : Type 0} (f g : ℕ → X → List Y) (i : ℕ) (xs : List X)
    → ((k : ℕ) (x : X) → f (k + 1) x ≡ g k x)
    → each_from f (i + 1) xs ≡ each_from g i xs
each_from-next f g i [] same = refl
each_from-next f g i (x ∷ xs) same = ap₂ (λ front rest. front ++ rest) (same i x) (each_from-next f g (i + 1) xs same)

take_while-yes : {X : Type 0} (p : X → Bool) (x : X) (xs : List X) → p x ≡ true → take_while p (x ∷ xs) ≡ x ∷ take_while p xs
take_while-yes p x xs passes =
    ap (λ (test : Bool). take (cond test (1 + prefix_len p xs) 0) (x ∷ xs)) passes
    ∙ ap (λ (n : ℕ). take n (x ∷ xs)) (let e : 1 + prefix_len p xs ≡ suc (prefix_len p xs) = omega arith in e)

take_while-no : {X : Type 0} (p : X → Bool) (x : X) (xs : List X) → p x ≡ false → take_while p (x ∷ xs) ≡ []
take_while-no p x xs fails = ap (λ (test : Bool). take (cond test (1 + prefix_len p xs) 0) (x ∷ xs)) fails

-- ---- the lines of events

-- the answer of a line among these, in the core to which the lines before it lead
abbrev answer_at : Round → ℕ → Core → ℕ → List (List ℕ) → ℕ → List ℕ → List Verdict
answer_at round pieces core events further place line =
    event_answer round.source.model (replay round pieces core (events_in (take place further))) (place + (events + 2))
    (event_of line)

-- the verdict on these lines of events, and on what stands behind them
abbrev verdict_on : Round → ℕ → Core → ℕ → List (List ℕ) → Option (List ℕ) → List ℕ → Verdict
verdict_on round pieces core events further end rest =
    unwrap_or (first (each_from (answer_at round pieces core events further) 0 further))
    (end_verdict_at round (events + length further) (replay round pieces core (events_in further)) end rest)

verdict_on-none : (round : Round) (pieces : ℕ) (core : Core) (events : ℕ) (end : Option (List ℕ)) (rest : List ℕ)
    → verdict_on round pieces core events [] end rest ≡ end_verdict_at round events core end rest
verdict_on-none round pieces core events end rest =
    ap (λ (n : ℕ). end_verdict_at round n core end rest) (let e : events + 0 ≡ events = omega arith in e)

unless_illegal : (test : Bool) (number : ℕ) (rest : List Verdict) (end : Verdict)
    → unwrap_or (first (cond test [] (Illegal number ∷ []) ++ rest)) end ≡ cond test (unwrap_or (first rest) end) (Illegal number)
unless_illegal true number rest end = refl
unless_illegal false number rest end = refl

-- the events of lines of which the first tells one
events_in-some : (line : List ℕ) (further : List (List ℕ)) (event : Event) → event_of line ≡ Some event
    → events_in (line ∷ further) ≡ event ∷ events_in further
events_in-some line further event some = ap (λ (o : Option Event). cons_option o (events_in further)) some

answer_at-next : (round : Round) (pieces : ℕ) (core : Core) (events : ℕ) (line : List ℕ) (further : List (List ℕ)) (event : Event)
    → event_of line ≡ Some event
    → (place : ℕ) (other : List ℕ)
    → answer_at round pieces core events (line ∷ further) (place + 1) other
    ≡ answer_at round pieces (after round pieces core event) (events + 1) further place other
answer_at-next round pieces core events line further event some place other =
    let one : place + 1 ≡ suc place = omega arith in
    let number : place + 1 + (events + 2) ≡ place + (events + 1 + 2) = omega arith in
    ap₂ (λ (c : Core) (n : ℕ). event_answer round.source.model c n (event_of other))
    (ap (λ (n : ℕ). replay round pieces core (events_in (take n (line ∷ further)))) one
    ∙ ap (replay round pieces core) (events_in-some line (take place further) event some))
    number

verdict_on-some : (round : Round) (pieces : ℕ) (core : Core) (events : ℕ) (line : List ℕ) (further : List (List ℕ))
    (end : Option (List ℕ)) (rest : List ℕ) (event : Event)
    → event_of line ≡ Some event
    → unwrap_or (first (each_from (answer_at round pieces core events (line ∷ further)) 1 further))
    (end_verdict_at round (events + length (line ∷ further)) (replay round pieces core (events_in (line ∷ further))) end rest)
    ≡ verdict_on round pieces (after round pieces core event) (events + 1) further end rest
verdict_on-some round pieces core events line further end rest event some =
    let number : events + length (line ∷ further) ≡ events + 1 + length further = omega arith in
    ap₂ (λ (answers : List Verdict) (last : Verdict). unwrap_or (first answers) last)
    (each_from-next (answer_at round pieces core events (line ∷ further))
    (answer_at round pieces (after round pieces core event) (events + 1) further) 0 further
    (answer_at-next round pieces core events line further event some))
    (ap₂ (λ (n : ℕ) (c : Core). end_verdict_at round n c end rest) number
    (ap (replay round pieces core) (events_in-some line further event some)))

-- a line more
verdict_on-more : (round : Round) (pieces : ℕ) (core : Core) (events : ℕ) (line : List ℕ) (further : List (List ℕ))
    (end : Option (List ℕ)) (rest : List ℕ) (o : Option Event)
    → event_of line ≡ o
    → verdict_on round pieces core events (line ∷ further) end rest
    ≡ where_legal round.source.model core (events + 2) o
    (λ event. verdict_on round pieces (after round pieces core event) (events + 1) further end rest)
verdict_on-more round pieces core events line further end rest None none =
    let number : 0 + (events + 2) ≡ events + 2 = omega arith in
    let answers = each_from (answer_at round pieces core events (line ∷ further)) 1 further in
    let last = end_verdict_at round (events + length (line ∷ further)) (replay round pieces core (events_in (line ∷ further))) end rest in
    ap
    (λ (o : Option Event). unwrap_or (first (event_answer round.source.model core (0 + (events + 2)) o ++ answers)) last)
    none
    ∙ ap (λ (n : ℕ). Form n) number
verdict_on-more round pieces core events line further end rest (Some event) some =
    let number : 0 + (events + 2) ≡ events + 2 = omega arith in
    let answers = each_from (answer_at round pieces core events (line ∷ further)) 1 further in
    let last = end_verdict_at round (events + length (line ∷ further)) (replay round pieces core (events_in (line ∷ further))) end rest in
    ap
    (λ (o : Option Event). unwrap_or (first (event_answer round.source.model core (0 + (events + 2)) o ++ answers)) last)
    some
    ∙ unless_illegal (is_legal round.source.model core event) (0 + (events + 2)) answers last
    ∙ ap₂ (λ (found : Verdict) (n : ℕ). cond (is_legal round.source.model core event) found (Illegal n))
    (verdict_on-some round pieces core events line further end rest event some) number

-- what follows may be told in another way
where_legal-same : (model : Model) (core : Core) (number : ℕ) (o : Option Event) (f g : Event → Verdict)
    → ((event : Event) → f event ≡ g event)
    → where_legal model core number o f ≡ where_legal model core number o g
where_legal-same model core number None f g same = refl
where_legal-same model core number (Some event) f g same =
    ap (λ (found : Verdict). cond (is_legal model core event) found (Illegal number)) (same event)

-- ---- parts of a text

-- the verdict on these parts, by whole lists
abbrev verdict_by_lists : Round → ℕ → Core → ℕ → List (List ℕ) → List (List ℕ) → List (List ℕ) → Verdict
verdict_by_lists round pieces core events events_told further left =
    verdict_on round pieces core events events_told (slice_get further (length events_told))
    (join_with_byte line_feed (drop (length events_told + 1) left))

-- the two verdicts on these parts are one, wherever they begin
abbrev IsSameVerdict : Round → ℕ → List (List ℕ) → Type 0
IsSameVerdict round pieces left =
    (core : Core) (events : ℕ)
    → verdict_by_lists round pieces core events (event_lines (all_but_last left)) (all_but_last left) left
    ≡ onward round pieces core events left

same_by : (round : Round) (pieces : ℕ) (line next : List ℕ) (further : List (List ℕ)) (test : Bool)
    → is_end line ≡ test
    → IsSameVerdict round pieces (next ∷ further)
    → IsSameVerdict round pieces (line ∷ next ∷ further)
same_by round pieces line next further true is same core events =
    let left = line ∷ next ∷ further in
    let shown = all_but_last left in
    ap (λ (told : List (List ℕ)). verdict_by_lists round pieces core events told shown left)
    (take_while-no (λ other. not (is_end other)) line (all_but_last (next ∷ further)) (ap not is))
    ∙ verdict_on-none round pieces core events (Some line) (join_with_byte line_feed (next ∷ further))
    ∙ sym
    (ap
    (λ (test : Bool).
    cond test (end_verdict round events core line (join_with_byte line_feed (next ∷ further)))
    (where_legal round.source.model core (events + 2) (event_of line)
    (λ event. onward round pieces (after round pieces core event) (events + 1) (next ∷ further))))
    is)
same_by round pieces line next further false is same core events =
    let left = line ∷ next ∷ further in
    let shown = all_but_last left in
    let told = event_lines (all_but_last (next ∷ further)) in
    let one : suc (length told) + 1 ≡ suc (length told + 1) = omega arith in
    ap (λ (lines : List (List ℕ)). verdict_by_lists round pieces core events lines shown left)
    (take_while-yes (λ other. not (is_end other)) line (all_but_last (next ∷ further)) (ap not is))
    ∙ verdict_on-more round pieces core events line told (slice_get (all_but_last (next ∷ further)) (length told))
    (join_with_byte line_feed (drop (suc (length told) + 1) left)) (event_of line) refl
    ∙ where_legal-same round.source.model core (events + 2) (event_of line) _ _
    (λ event.
    ap
    (λ (n : ℕ).
    verdict_on round pieces (after round pieces core event) (events + 1) told
    (slice_get (all_but_last (next ∷ further)) (length told)) (join_with_byte line_feed (drop n left)))
    one
    ∙ same (after round pieces core event) (events + 1))
    ∙ sym
    (ap
    (λ (test : Bool).
    cond test (end_verdict round events core line (join_with_byte line_feed (next ∷ further)))
    (where_legal round.source.model core (events + 2) (event_of line)
    (λ event. onward round pieces (after round pieces core event) (events + 1) (next ∷ further))))
    is)

same_more : (round : Round) (pieces : ℕ) (line : List ℕ) (left : List (List ℕ))
    → IsSameVerdict round pieces left
    → IsSameVerdict round pieces (line ∷ left)
same_more round pieces line [] same =
    λ core events. verdict_on-none round pieces core events None (join_with_byte line_feed [])
same_more round pieces line (next ∷ further) same = same_by round pieces line next further (is_end line) refl same

same_verdict : (round : Round) (pieces : ℕ) (left : List (List ℕ)) → IsSameVerdict round pieces left
same_verdict round pieces [] =
    λ core events. verdict_on-none round pieces core events None (join_with_byte line_feed [])
same_verdict round pieces (line ∷ left) = same_more round pieces line left (same_verdict round pieces left)

-- ---- the whole

all_but_last-more : {X : Type 0} (x : List X) (parts : List (List X)) → Parted parts → all_but_last (x ∷ parts) ≡ x ∷ all_but_last parts
all_but_last-more x parts some =
    ap (λ left. all_but_last (x ∷ left)) some.is ∙ sym (ap (λ left. x ∷ all_but_last left) some.is)

-- a text without a line feed
pub verdict-whole : (source : Source) (start : Start) (bytes : List ℕ) → parts bytes ≡ bytes ∷ [] → verdict source start bytes ≡ Form 1
verdict-whole source start bytes whole =
    ap (λ (left : List (List ℕ)). verdict_of source start (all_but_last left) bytes) whole

-- a text with line 1
pub verdict-cut : (source : Source) (start : Start) (bytes line rest : List ℕ)
    → parts bytes ≡ line ∷ parts rest
    → verdict source start bytes ≡ verdict_under source start (head_of line) (all_but_last (parts rest)) bytes
verdict-cut source start bytes line rest cut =
    ap (λ (left : List (List ℕ)). verdict_of source start (all_but_last left) bytes) cut
    ∙ ap (λ (shown : List (List ℕ)). verdict_of source start shown bytes)
    (all_but_last-more line (parts rest) (split-parted (λ byte. byte == line_feed) rest))

-- the verdict on the lines behind line 1
pub verdict_behind-onward : (round : Round) (pieces : ℕ) (core : Core) (bytes line rest : List ℕ)
    → parts bytes ≡ line ∷ parts rest
    → verdict_behind round pieces core (all_but_last (parts rest)) bytes ≡ onward round pieces core 0 (parts rest)
verdict_behind-onward round pieces core bytes line rest cut =
    let shown = all_but_last (parts rest) in
    let told = event_lines shown in
    let none : length told ≡ 0 + length told = omega arith in
    let one : length told + 2 ≡ suc (length told + 1) = omega arith in
    ap₂
    (λ (n : ℕ) (left : List ℕ).
    unwrap_or (first (event_answers round pieces core told))
    (end_verdict_at round n (replay round pieces core (events_in told)) (slice_get shown (length told)) left))
    none
    (ap (λ (left : List (List ℕ)). join_with_byte line_feed (drop (length told + 2) left)) cut
    ∙ ap (λ (n : ℕ). join_with_byte line_feed (drop n (line ∷ parts rest))) one)
    ∙ same_verdict round pieces (parts rest) core 0

-- what a line leaves, with a line feed behind it
pub join-line : (line rest : List ℕ) → join_with_byte line_feed (line ∷ parts rest) ≡ line ++ line_feed ∷ rest
join-line line rest =
    let some = split-parted (λ byte. byte == line_feed) rest in
    ap (λ (left : List (List ℕ)). join_with_byte line_feed (line ∷ left)) some.is
    ∙ ap (λ (left : List (List ℕ)). line ++ line_feed ∷ join_with_byte line_feed left) (sym some.is)
    ∙ ap (λ (left : List ℕ). line ++ line_feed ∷ left) (join_with_byte-slice_split line_feed rest)

-- from line to line
pub onward-line : (round : Round) (pieces : ℕ) (core : Core) (events : ℕ) (line rest : List ℕ)
    → onward round pieces core events (line ∷ parts rest)
    ≡ cond (is_end line) (end_verdict round events core line rest)
    (where_legal round.source.model core (events + 2) (event_of line)
    (λ event. onward round pieces (after round pieces core event) (events + 1) (parts rest)))
onward-line round pieces core events line rest =
    let some = split-parted (λ byte. byte == line_feed) rest in
    ap (λ (left : List (List ℕ)). onward round pieces core events (line ∷ left)) some.is
    ∙ ap
    (λ (left : List (List ℕ)).
    cond (is_end line) (end_verdict round events core line (join_with_byte line_feed left))
    (where_legal round.source.model core (events + 2) (event_of line)
    (λ event. onward round pieces (after round pieces core event) (events + 1) left)))
    (sym some.is)
    ∙ ap
    (λ (left : List ℕ).
    cond (is_end line) (end_verdict round events core line left)
    (where_legal round.source.model core (events + 2) (event_of line)
    (λ event. onward round pieces (after round pieces core event) (events + 1) (parts rest))))
    (join_with_byte-slice_split line_feed rest)
