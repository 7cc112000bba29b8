-- What is written of an iteration has the verdict Yes.
use Rattle.std.proofs.Common.{◌≡◌, ℕ, ◌+◌, ◌≤◌, Bool, true, false, cond, not, List, [], ◌∷◌, ◌++◌, length}
use Rattle.std.proofs.Common.{Option, Some, arith, refl, sym, ap, ap₂, ◌∙◌, subst, append_assoc, codes}
use Rattle.std.specs.Prelude.{◌==◌, ℤ, pos, negsuc, ◌≤ℤ◌, All}
use Rattle.std.specs.Fmt.{decimal, signed_decimal}
use Rattle.std.specs.List.{list_all}
use Rattle.std.specs.Ordering.{int_eq}
use Rattle.std.proofs.lemmas.Bool.{and_parts, not-true}
use Rattle.std.proofs.lemmas.Bool.Decides.{Decides-int_eq}
use Rattle.std.proofs.lemmas.Int.{ints}
use Rattle.std.proofs.lemmas.List.Elements.{All-append, All-cons, All-nil, All-head, All-tail}
use Rattle.flame_rows.proofs.Bytes.{bytes_eq-same}
use Rattle.flame_ops.specs.declared.integers.Cause.{Cause}
use Rattle.flame_ops.specs.declared.integers.Cause.TheVariants.{Overflow, DivideByZero, Fuel, BadIndex}
use Rattle.flame_ops.specs.CauseNames.{name_of_cause}
use Rattle.flame_spec.specs.declared.outcomes.Source.{Source}
use Rattle.flame_world.specs.declared.faults.SimFault.{SimFault}
use Rattle.flame_world.specs.declared.turns.Turn.{Turn}
use Rattle.flame_world.specs.declared.turns.Turn.TheVariants.{Done, Faulted}
use Rattle.flame_world.specs.declared.verdicts.Verdict.TheVariants.{Yes, Illegal, OtherStart, Incomplete, OtherEnd}
use Rattle.flame_world.specs.Iterations.{Round, round_of, iteration}
use Rattle.flame_events.specs.declared.events.Event.{Event}
use Rattle.flame_events.specs.declared.events.Event.TheVariants as event
use Rattle.flame_events.specs.CoreStates.{Core, opening_core}
use Rattle.flame_events.specs.CoreEnds.{is_complete, ending}
use Rattle.flame_events.specs.EventSteps.{after, replay, are_legal}
use Rattle.flame_events.specs.EveryOrder.{EveryOrderIsTheIteration}
use Rattle.flame_events.specs.LegalEvents.{is_legal}
use Rattle.flame_popfile.specs.declared.starts.Start.{Start}
use Rattle.flame_trace.specs.declared.heads.Head.{Head}
use Rattle.flame_trace.specs.TraceLines.{parts, all_but_last, head_of, event_of, is_end}
use Rattle.flame_trace.specs.TraceTexts.{head_line, event_line, memory_words, fault_line, end_line, behind_end, line_text, events_text, trace_text}
use Rattle.flame_trace.specs.TraceVerdicts.{behind_answer, turn_verdict, end_verdict, verdict_behind, next_number, verdict_under, verdict}
use Rattle.flame_trace.specs.TraceLaws.{IsNumberedEvent, WrittenIsYes}
use Rattle.flame_trace.specs.TraceSteps.{where_legal, onward}
use Rattle.flame_trace.proofs.EventLines.{event_of-event_line}
use Rattle.flame_trace.proofs.Following.{onward-line, verdict-cut, verdict_behind-onward}
use Rattle.flame_trace.proofs.HeadLines.{IsHeadOf, head_of-head_line}
use Rattle.flame_trace.proofs.Numerals.{Lacks, decimal-lacks, signed-lacks, split-part}
use Rattle.flame_trace.proofs.Telling.{line_text-append}

-- ---- no line feed stands in a line

lacks_by : (byte : ℕ) (bytes : List ℕ) → list_all (λ other. not (other == byte)) bytes ≡ true → Lacks byte bytes
lacks_by byte [] all = All-nil (λ other. (other == byte) ≡ false)
lacks_by byte (x ∷ xs) all =
    let both = and_parts (not (x == byte)) (list_all (λ other. not (other == byte)) xs) all in
    All-cons (λ other. (other == byte) ≡ false) x xs (not-true (x == byte) both.0) (lacks_by byte xs both.1)

lacks-append : (xs ys : List ℕ) → Lacks 10 xs → Lacks 10 ys → Lacks 10 (xs ++ ys)
lacks-append xs ys one two = All-append (λ other. (other == 10) ≡ false) xs ys one two

number : (n : ℕ) → Lacks 10 (decimal n)
number n = decimal-lacks 10 n (omega arith)

word_behind : (xs : List ℕ) (n : ℕ) → Lacks 10 xs → Lacks 10 (xs ++ decimal n)
word_behind xs n lacks = lacks-append xs (decimal n) lacks (number n)

space_and : (xs : List ℕ) → Lacks 10 xs → Lacks 10 (codes " " ++ xs)
space_and xs lacks = lacks-append (codes " ") xs (lacks_by 10 (codes " ") refl) lacks

head_line-lacks : (i p f : ℕ) → Lacks 10 (head_line (pos i) p f)
head_line-lacks i p f =
    lacks-append (codes "trace iteration ") (decimal i ++ (codes " pieces " ++ (decimal p ++ (codes " fuel " ++ decimal f))))
    (lacks_by 10 (codes "trace iteration ") refl)
    (lacks-append (decimal i) (codes " pieces " ++ (decimal p ++ (codes " fuel " ++ decimal f))) (number i)
    (lacks-append (codes " pieces ") (decimal p ++ (codes " fuel " ++ decimal f)) (lacks_by 10 (codes " pieces ") refl)
    (lacks-append (decimal p) (codes " fuel " ++ decimal f) (number p)
    (word_behind (codes " fuel ") f (lacks_by 10 (codes " fuel ") refl)))))

event_line-lacks : (told : Event) → Lacks 10 (event_line told)
event_line-lacks (event.Open f) = word_behind (codes "open ") f (lacks_by 10 (codes "open ") refl)
event_line-lacks (event.Agent f k) =
    lacks-append (codes "agent ") (decimal f ++ (codes " " ++ decimal k)) (lacks_by 10 (codes "agent ") refl)
    (lacks-append (decimal f) (codes " " ++ decimal k) (number f) (space_and (decimal k) (number k)))
event_line-lacks (event.HandIn f k m) =
    lacks-append (codes "handin ") (decimal f ++ (codes " " ++ (decimal k ++ (codes " " ++ decimal m))))
    (lacks_by 10 (codes "handin ") refl)
    (lacks-append (decimal f) (codes " " ++ (decimal k ++ (codes " " ++ decimal m))) (number f)
    (space_and (decimal k ++ (codes " " ++ decimal m))
    (lacks-append (decimal k) (codes " " ++ decimal m) (number k) (space_and (decimal m) (number m)))))
event_line-lacks (event.Shut f) = word_behind (codes "shut ") f (lacks_by 10 (codes "shut ") refl)
event_line-lacks (event.Freeze m) = word_behind (codes "freeze ") m (lacks_by 10 (codes "freeze ") refl)

cause-lacks : (cause : Cause) → Lacks 10 (name_of_cause cause)
cause-lacks Overflow = lacks_by 10 (codes "Overflow") refl
cause-lacks DivideByZero = lacks_by 10 (codes "DivideByZero") refl
cause-lacks Fuel = lacks_by 10 (codes "Fuel") refl
cause-lacks BadIndex = lacks_by 10 (codes "BadIndex") refl

memory-lacks : (memory : List ℤ) → Lacks 10 (memory_words memory)
memory-lacks [] = All-nil (λ other. (other == 10) ≡ false)
memory-lacks (z ∷ zs) =
    lacks-append (codes " " ++ signed_decimal z) (memory_words zs)
    (space_and (signed_decimal z) (signed-lacks 10 z (omega arith) refl)) (memory-lacks zs)

fault_line-lacks : (fault : SimFault) → Lacks 10 (fault_line fault)
fault_line-lacks fault =
    lacks-append (codes "fault ")
    (decimal fault.function
    ++ (codes " " ++ (name_of_cause fault.cause ++ (codes " " ++ (decimal fault.line ++ memory_words fault.memory)))))
    (lacks_by 10 (codes "fault ") refl)
    (lacks-append (decimal fault.function)
    (codes " " ++ (name_of_cause fault.cause ++ (codes " " ++ (decimal fault.line ++ memory_words fault.memory))))
    (number fault.function)
    (space_and (name_of_cause fault.cause ++ (codes " " ++ (decimal fault.line ++ memory_words fault.memory)))
    (lacks-append (name_of_cause fault.cause) (codes " " ++ (decimal fault.line ++ memory_words fault.memory))
    (cause-lacks fault.cause)
    (space_and (decimal fault.line ++ memory_words fault.memory)
    (lacks-append (decimal fault.line) (memory_words fault.memory) (number fault.line)
    (memory-lacks fault.memory))))))

end_line-lacks : (turn : Turn) → Lacks 10 (end_line turn)
end_line-lacks (Done world boards) = lacks_by 10 (codes "done") refl
end_line-lacks (Faulted fault) = fault_line-lacks fault

-- ---- which line is the end

is_end-event_line : (told : Event) → is_end (event_line told) ≡ false
is_end-event_line (event.Open f) = refl
is_end-event_line (event.Agent f k) = refl
is_end-event_line (event.HandIn f k m) = refl
is_end-event_line (event.Shut f) = refl
is_end-event_line (event.Freeze m) = refl

is_end-end_line : (turn : Turn) → is_end (end_line turn) ≡ true
is_end-end_line (Done world boards) = refl
is_end-end_line (Faulted fault) = refl

-- ---- from line to line

parts-line : (line rest : List ℕ) → Lacks 10 line → parts (line_text line ++ rest) ≡ line ∷ parts rest
parts-line line rest lacks = ap parts (line_text-append line rest) ∙ split-part 10 line rest lacks

-- the verdict on a line that does not tell an end, and tells a legal event
onward-event : (round : Round) (pieces : ℕ) (core : Core) (events : ℕ) (told : Event) (rest : List ℕ)
    → IsNumberedEvent told
    → is_legal round.source.model core told ≡ true
    → onward round pieces core events (parts (line_text (event_line told) ++ rest))
    ≡ onward round pieces (after round pieces core told) (events + 1) (parts rest)
onward-event round pieces core events told rest small legal =
    let go = λ (event : Event). onward round pieces (after round pieces core event) (events + 1) (parts rest) in
    let line = event_line told in
    ap (onward round pieces core events) (parts-line line rest (event_line-lacks told))
    ∙ onward-line round pieces core events line rest
    ∙ ap
    (λ (test : Bool).
    cond test (end_verdict round events core line rest) (where_legal round.source.model core (events + 2) (event_of line) go))
    (is_end-event_line told)
    ∙ ap (λ (o : Option Event). where_legal round.source.model core (events + 2) o go) (event_of-event_line told small)
    ∙ ap (λ (test : Bool). cond test (go told) (Illegal (events + 2))) legal

-- the verdict on the line of the end
onward-end : (round : Round) (pieces : ℕ) (core : Core) (events : ℕ) (turn : Turn)
    → is_complete round.source.model core ≡ true
    → ending round core ≡ turn
    → onward round pieces core events
    (parts (line_text (end_line turn) ++ behind_end round.source.model round.iteration turn))
    ≡ Yes events
onward-end round pieces core events turn complete is =
    let line = end_line turn in
    let rest = behind_end round.source.model round.iteration turn in
    let go = λ (event : Event). onward round pieces (after round pieces core event) (events + 1) (parts rest) in
    ap (onward round pieces core events) (parts-line line rest (end_line-lacks turn))
    ∙ onward-line round pieces core events line rest
    ∙ ap
    (λ (test : Bool).
    cond test (end_verdict round events core line rest) (where_legal round.source.model core (events + 2) (event_of line) go))
    (is_end-end_line turn)
    ∙ ap₂
    (λ (test : Bool) (last : Turn).
    cond test (turn_verdict round.source.model round.iteration events last line rest) (Incomplete (events + 2)))
    complete is
    ∙ ap₂
    (λ (one two : Bool). cond (not one) (OtherEnd (events + 2)) (cond (not two) (behind_answer turn (events + 3)) (Yes events)))
    (bytes_eq-same line line refl) (bytes_eq-same rest rest refl)

onward-events : (round : Round) (pieces : ℕ) (turn : Turn) (told : List Event) (core : Core) (events : ℕ)
    → All IsNumberedEvent told
    → are_legal round pieces core told ≡ true
    → is_complete round.source.model (replay round pieces core told) ≡ true
    → ending round (replay round pieces core told) ≡ turn
    → onward round pieces core events
    (parts
    (events_text told ++ (line_text (end_line turn) ++ behind_end round.source.model round.iteration turn)))
    ≡ Yes (events + length told)
onward-events round pieces turn [] core events all legal complete is =
    onward-end round pieces core events turn complete is
    ∙ ap (λ (n : ℕ). Yes n) (let e : events ≡ events + 0 = omega arith in e)
onward-events round pieces turn (event ∷ told) core events all legal complete is =
    let behind = line_text (end_line turn) ++ behind_end round.source.model round.iteration turn in
    let both =
    and_parts (is_legal round.source.model core event) (are_legal round pieces (after round pieces core event) told) legal in
    let count : events + 1 + length told ≡ events + length (event ∷ told) = omega arith in
    ap (λ (text : List ℕ). onward round pieces core events (parts text))
    (append_assoc (line_text (event_line event)) (events_text told) behind)
    ∙ onward-event round pieces core events event (events_text told ++ behind) (All-head IsNumberedEvent event told all) both.0
    ∙ onward-events round pieces turn told (after round pieces core event) (events + 1)
    (All-tail IsNumberedEvent event told all) both.1 complete is
    ∙ ap (λ (n : ℕ). Yes n) count

-- ---- the whole

-- a whole number from 1 on
record IsPositive (z : ℤ) : Type 0 where
  n : ℕ
  is : z ≡ pos n
  first : 1 ≤ n
  last : n ≤ 2147483647

positive : (z : ℤ) → pos 1 ≤ℤ z → z ≤ℤ pos 2147483647 → IsPositive z
positive (pos n) low high = record { n = n; is = refl; first = omega (arith, ints); last = omega (arith, ints) }
positive (negsuc n) low high = absurd (omega (arith, ints))

written : (source : Source) (start : Start) (n pieces fuel : ℕ) (turn : Turn) (events : List Event)
    → next_number start ≡ pos n
    → IsHeadOf n pieces fuel
    → onward (round_of source start.world (next_number start) fuel) pieces (opening_core source.model start.world.agents) 0
    (parts
    (events_text events ++ (line_text (end_line turn) ++ behind_end source.model (next_number start) turn)))
    ≡ Yes (length events)
    → verdict source start (trace_text source.model (next_number start) pieces fuel turn events) ≡ Yes (length events)
written source start n pieces fuel turn events is within follows =
    let round : Round = round_of source start.world (next_number start) fuel in
    let core : Core = opening_core source.model start.world.agents in
    let line = head_line (next_number start) pieces fuel in
    let rest = events_text events ++ (line_text (end_line turn) ++ behind_end source.model (next_number start) turn) in
    let bytes = line_text line ++ rest in
    let same : line ≡ head_line (pos n) pieces fuel = ap (λ (z : ℤ). head_line z pieces fuel) is in
    let lacks : Lacks 10 line = subst (Lacks 10) (sym same) (head_line-lacks n pieces fuel) in
    let head : Head = record { iteration = n; pieces = pieces; fuel = fuel } in
    let says : head_of line ≡ Some head = ap head_of same ∙ head_of-head_line n pieces fuel within in
    let shown = all_but_last (parts rest) in
    let cut : parts bytes ≡ line ∷ parts rest = parts-line line rest lacks in
    let next : int_eq (pos n) (next_number start) ≡ true = (Decides-int_eq (pos n) (next_number start)).1 (sym is) in
    verdict-cut source start bytes line rest cut
    ∙ ap (λ (o : Option Head). verdict_under source start o shown bytes) says
    ∙ ap (λ (test : Bool). cond test (verdict_behind round pieces core shown bytes) (OtherStart 1)) next
    ∙ verdict_behind-onward round pieces core bytes line rest cut
    ∙ follows

pub written-yes : EveryOrderIsTheIteration → WrittenIsYes
written-yes every source start bytes count accepted long told =
    let number_now = next_number start in
    let round : Round = round_of source start.world number_now told.fuel in
    let core : Core = opening_core source.model start.world.agents in
    let turn = iteration source start.world number_now told.fuel in
    let number = positive number_now told.first told.last in
    let end : ending round (replay round told.pieces core told.events) ≡ turn =
    (every source start.world number_now told.fuel told.pieces told.events accepted long (omega (arith, told.some))
    told.lead.legal).0 told.lead.complete in
    let none : 0 + length told.events ≡ length told.events = omega arith in
    ap (verdict source start) told.written
    ∙ written source start number.n told.pieces told.fuel turn told.events number.is
    (record { first = number.first; last = number.last; some = told.some; few = told.few; enough = told.enough })
    (onward-events round told.pieces turn told.events core 0 told.numbered told.lead.legal told.lead.complete end
    ∙ ap (λ (n : ℕ). Yes n) none)
    ∙ ap (λ (n : ℕ). Yes n) told.counted
