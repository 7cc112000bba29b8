-- A text with the verdict Yes tells the iteration.
use Rattle.std.proofs.Common.{◌≡◌, ℕ, ◌+◌, Bool, true, false, cond, not, List, [], ◌∷◌, ◌++◌, length}
use Rattle.std.proofs.Common.{Option, Some, None, ⊎_elim, arith, refl, sym, ap, ap₂, ◌∙◌, append_assoc}
use Rattle.std.specs.Prelude.{ℤ, pos, All}
use Rattle.std.specs.List.{join_with_byte}
use Rattle.std.specs.Ordering.{int_eq}
use Rattle.std.specs.Str.{bytes_eq}
use Rattle.std.proofs.lemmas.Bool.{and_from}
use Rattle.std.proofs.lemmas.Bool.Decides.{Decides-int_eq}
use Rattle.std.proofs.lemmas.Int.{ints}
use Rattle.std.proofs.lemmas.List.Elements.{All-cons, All-nil}
use Rattle.std.proofs.lemmas.List.Splits.{join_with_byte-slice_split}
use Rattle.flame_rows.proofs.Bytes.{bytes_eq-true}
use Rattle.flame_spec.specs.declared.models.Model.{Model}
use Rattle.flame_spec.specs.declared.outcomes.Source.{Source}
use Rattle.flame_spec.specs.Accepted.{IsAccepted}
use Rattle.flame_world.specs.declared.turns.Turn.{Turn}
use Rattle.flame_world.specs.declared.turns.Turn.TheVariants.{Done, Faulted}
use Rattle.flame_world.specs.declared.verdicts.Verdict.{Verdict}
use Rattle.flame_world.specs.declared.verdicts.Verdict.TheVariants.{Yes, Form, OtherStart, Illegal, Incomplete, OtherEnd}
use Rattle.flame_world.specs.Iterations.{Round, round_of, iteration}
use Rattle.flame_events.specs.declared.events.Event.{Event}
use Rattle.flame_events.specs.CoreStates.{Core, opening_core}
use Rattle.flame_events.specs.CoreEnds.{is_complete, ending}
use Rattle.flame_events.specs.EventSteps.{after, replay, are_legal}
use Rattle.flame_events.specs.EveryOrder.{EveryOrderIsTheIteration}
use Rattle.flame_events.specs.LegalEvents.{is_legal}
use Rattle.flame_popfile.specs.declared.starts.Start.{Start}
use Rattle.flame_trace.specs.declared.heads.Head.{Head}
use Rattle.flame_trace.specs.TraceCuts.{IsCut}
use Rattle.flame_trace.specs.TraceLines.{line_feed, parts, all_but_last, head_of, event_of, is_end}
use Rattle.flame_trace.specs.TraceTexts.{head_line, event_line, end_line, behind_end, line_text, events_text}
use Rattle.flame_trace.specs.TraceVerdicts.{behind_answer, turn_verdict, end_verdict, verdict_behind, next_number, verdict_under}
use Rattle.flame_trace.specs.TraceLaws.{IsNumberedEvent, TellsIteration, YesTellsTheIteration}
use Rattle.flame_trace.specs.TraceSteps.{where_legal, onward}
use Rattle.flame_trace.proofs.Cutting.{cut-cases}
use Rattle.flame_trace.proofs.EventLines.{event_of-line}
use Rattle.flame_trace.proofs.Following.{join-line, verdict-whole, verdict-cut, verdict_behind-onward}
use Rattle.flame_trace.proofs.HeadLines.{head_of-line}

-- ---- the end

-- this is the end of the turn, and so many events
record IsEndOf (model : Model) (iteration : ℤ) (events count : ℕ) (turn : Turn) (line rest : List ℕ) : Type 0 where
  line_is : line ≡ end_line turn
  rest_is : rest ≡ behind_end model iteration turn
  counted : events ≡ count

behind_answer-not : (turn : Turn) (number count : ℕ) → behind_answer turn number ≡ Yes count → ⊥
behind_answer-not (Done world boards) number count e = cc
behind_answer-not (Faulted fault) number count e = cc

end_by : (same follows : Bool) (model : Model) (iteration : ℤ) (events count : ℕ) (turn : Turn) (line rest : List ℕ)
    → bytes_eq line (end_line turn) ≡ same
    → bytes_eq rest (behind_end model iteration turn) ≡ follows
    → cond (not same) (OtherEnd (events + 2)) (cond (not follows) (behind_answer turn (events + 3)) (Yes events)) ≡ Yes count
    → IsEndOf model iteration events count turn line rest
end_by false follows model iteration events count turn line rest a b e = absurd (cc)
end_by true false model iteration events count turn line rest a b e = absurd (behind_answer-not turn (events + 3) count e)
end_by true true model iteration events count turn line rest a b e = record {
  line_is = bytes_eq-true line (end_line turn) a;
  rest_is = bytes_eq-true rest (behind_end model iteration turn) b;
  counted = cc;
}

-- the core is complete, and this is its end
record EndsAs (round : Round) (events count : ℕ) (core : Core) (line rest : List ℕ) : Type 0 where
  complete : is_complete round.source.model core ≡ true
  end : IsEndOf round.source.model round.iteration events count (ending round core) line rest

ends_by : (test : Bool) (round : Round) (events count : ℕ) (core : Core) (line rest : List ℕ)
    → is_complete round.source.model core ≡ test
    → cond test (turn_verdict round.source.model round.iteration events (ending round core) line rest) (Incomplete (events + 2))
    ≡ Yes count
    → EndsAs round events count core line rest
ends_by false round events count core line rest is e = absurd (cc)
ends_by true round events count core line rest is e = record {
  complete = is;
  end =
      end_by (bytes_eq line (end_line (ending round core)))
      (bytes_eq rest (behind_end round.source.model round.iteration (ending round core))) round.source.model round.iteration
      events count (ending round core) line rest refl refl e;
}

-- ---- from line to line

-- these events lead from the core to its end, and the parts are what is written of them
record Goes (round : Round) (pieces : ℕ) (core : Core) (events count : ℕ) (left : List ℕ) : Type 0 where
  told : List Event
  numbered : All IsNumberedEvent told
  counted : events + length told ≡ count
  legal : are_legal round pieces core told ≡ true
  complete : is_complete round.source.model (replay round pieces core told) ≡ true
  written :
      left
      ≡ events_text told
      ++ (line_text (end_line (ending round (replay round pieces core told)))
      ++ behind_end round.source.model round.iteration (ending round (replay round pieces core told)))

-- a line, and what is behind it
pub line_text-append : (line rest : List ℕ) → line_text line ++ rest ≡ line ++ line_feed ∷ rest
line_text-append line rest = append_assoc line (line_feed ∷ []) rest

goes_at_end : (round : Round) (pieces : ℕ) (core : Core) (events count : ℕ) (line rest : List ℕ)
    → EndsAs round events count core line rest
    → Goes round pieces core events count (line ++ line_feed ∷ rest)
goes_at_end round pieces core events count line rest ends = record {
  told = [];
  numbered = All-nil IsNumberedEvent;
  counted = omega (arith, ends.end.counted);
  legal = refl;
  complete = ends.complete;
  written =
      ap₂ (λ (one two : List ℕ). one ++ line_feed ∷ two) ends.end.line_is ends.end.rest_is
      ∙ sym
      (line_text-append (end_line (ending round core))
      (behind_end round.source.model round.iteration (ending round core)));
}

goes_on : (round : Round) (pieces : ℕ) (core : Core) (events count : ℕ) (line rest : List ℕ) (event : Event)
    → event_of line ≡ Some event
    → is_legal round.source.model core event ≡ true
    → Goes round pieces (after round pieces core event) (events + 1) count rest
    → Goes round pieces core events count (line ++ line_feed ∷ rest)
goes_on round pieces core events count line rest event tells legal goes = record {
  told = event ∷ goes.told;
  numbered = All-cons IsNumberedEvent event goes.told (event_of-line line event tells).numbered goes.numbered;
  counted = omega (arith, goes.counted);
  legal =
      and_from (is_legal round.source.model core event) (are_legal round pieces (after round pieces core event) goes.told) legal
      goes.legal;
  complete = goes.complete;
  written =
      let last = ending round (replay round pieces (after round pieces core event) goes.told) in
      let behind = line_text (end_line last) ++ behind_end round.source.model round.iteration last in
      ap₂ (λ (one two : List ℕ). one ++ line_feed ∷ two) (event_of-line line event tells).is goes.written
      ∙ sym (line_text-append (event_line event) (events_text goes.told ++ behind))
      ∙ sym (append_assoc (line_text (event_line event)) (events_text goes.told) behind);
}

legal_by : (test : Bool) (number count : ℕ) (found : Verdict) → cond test found (Illegal number) ≡ Yes count
    → (test ≡ true) × (found ≡ Yes count)
legal_by true number count found e = (refl, e)
legal_by false number count found e = absurd (cc)

where_legal-yes : (round : Round) (pieces : ℕ) (core : Core) (events count : ℕ) (line rest : List ℕ) (o : Option Event)
    (go : Event → Verdict)
    → event_of line ≡ o
    → ((event : Event) → go event ≡ Yes count → Goes round pieces (after round pieces core event) (events + 1) count rest)
    → where_legal round.source.model core (events + 2) o go ≡ Yes count
    → Goes round pieces core events count (line ++ line_feed ∷ rest)
where_legal-yes round pieces core events count line rest None go tells more e = absurd (cc)
where_legal-yes round pieces core events count line rest (Some event) go tells more e =
    let parts = legal_by (is_legal round.source.model core event) (events + 2) count (go event) e in
    goes_on round pieces core events count line rest event tells parts.0 (more event parts.1)

-- wherever these parts begin, with the verdict Yes they are gone by
abbrev IsGoneBy : Round → ℕ → List (List ℕ) → Type 0
IsGoneBy round pieces left =
    (core : Core) (events count : ℕ)
    → onward round pieces core events left ≡ Yes count
    → Goes round pieces core events count (join_with_byte line_feed left)

gone_by : (test : Bool) (round : Round) (pieces : ℕ) (line next : List ℕ) (further : List (List ℕ))
    → is_end line ≡ test
    → IsGoneBy round pieces (next ∷ further)
    → (core : Core) (events count : ℕ)
    → cond test (end_verdict round events core line (join_with_byte line_feed (next ∷ further)))
    (where_legal round.source.model core (events + 2) (event_of line)
    (λ event. onward round pieces (after round pieces core event) (events + 1) (next ∷ further)))
    ≡ Yes count
    → Goes round pieces core events count (line ++ line_feed ∷ join_with_byte line_feed (next ∷ further))
gone_by true round pieces line next further is more core events count e =
    goes_at_end round pieces core events count line (join_with_byte line_feed (next ∷ further))
    (ends_by (is_complete round.source.model core) round events count core line
    (join_with_byte line_feed (next ∷ further)) refl e)
gone_by false round pieces line next further is more core events count e =
    where_legal-yes round pieces core events count line (join_with_byte line_feed (next ∷ further)) (event_of line)
    (λ event. onward round pieces (after round pieces core event) (events + 1) (next ∷ further)) refl
    (λ event yes_is. more (after round pieces core event) (events + 1) count yes_is) e

gone_more : (round : Round) (pieces : ℕ) (line : List ℕ) (left : List (List ℕ))
    → IsGoneBy round pieces left
    → IsGoneBy round pieces (line ∷ left)
gone_more round pieces line [] more = λ core events count e. absurd (cc)
gone_more round pieces line (next ∷ further) more =
    λ core events count e. gone_by (is_end line) round pieces line next further refl more core events count e

gone : (round : Round) (pieces : ℕ) (left : List (List ℕ)) → IsGoneBy round pieces left
gone round pieces [] = λ core events count e. absurd (cc)
gone round pieces (line ∷ left) = gone_more round pieces line left (gone round pieces left)

-- ---- the whole

-- line 1 says the next iteration
tells_by : (source : Source) (start : Start) (bytes line rest : List ℕ) (count : ℕ) (head : Head)
    → EveryOrderIsTheIteration
    → IsAccepted source
    → length start.world.agents ≡ length source.model.agents
    → IsCut line_feed bytes line rest
    → head_of line ≡ Some head
    → pos head.iteration ≡ next_number start
    → onward (round_of source start.world (next_number start) head.fuel) head.pieces
    (opening_core source.model start.world.agents) 0 (parts rest)
    ≡ Yes count
    → TellsIteration source start bytes count
tells_by source start bytes line rest count head every accepted long cut says next e =
    let round : Round = round_of source start.world (next_number start) head.fuel in
    let core : Core = opening_core source.model start.world.agents in
    let goes = gone round head.pieces (parts rest) core 0 count e in
    let is = head_of-line line head says in
    let turn = iteration source start.world (next_number start) head.fuel in
    let end : ending round (replay round head.pieces core goes.told) ≡ turn =
    (every source start.world (next_number start) head.fuel head.pieces goes.told accepted long (omega (arith, is.within.some))
    goes.legal).0 goes.complete in
    let behind : rest ≡ events_text goes.told ++ (line_text (end_line turn) ++ behind_end source.model (next_number start) turn) =
    sym (join_with_byte-slice_split line_feed rest)
    ∙ goes.written
    ∙ ap
    (λ (last : Turn).
    events_text goes.told ++ (line_text (end_line last) ++ behind_end source.model (next_number start) last))
    end in
    record {
      pieces = head.pieces;
      fuel = head.fuel;
      events = goes.told;
      numbered = goes.numbered;
      first = omega (arith, ints, is.within.first, next);
      last = omega (arith, ints, is.within.last, next);
      some = is.within.some;
      few = is.within.few;
      enough = is.within.enough;
      counted = omega (arith, goes.counted);
      lead = record { legal = goes.legal; complete = goes.complete };
      written =
          sym (join_with_byte-slice_split line_feed bytes)
          ∙ ap (join_with_byte line_feed) cut.parts
          ∙ join-line line rest
          ∙ ap₂ (λ (one two : List ℕ). one ++ line_feed ∷ two)
          (is.is ∙ ap (λ (number : ℤ). head_line number head.pieces head.fuel) next) behind
          ∙ sym
          (line_text-append (head_line (next_number start) head.pieces head.fuel)
          (events_text goes.told ++ (line_text (end_line turn) ++ behind_end source.model (next_number start) turn)));
    }

starts_by : (test : Bool) (found : Verdict) (count : ℕ) → cond test found (OtherStart 1) ≡ Yes count
    → (test ≡ true) × (found ≡ Yes count)
starts_by true found count e = (refl, e)
starts_by false found count e = absurd (cc)

tells_under : (source : Source) (start : Start) (bytes line rest : List ℕ) (count : ℕ) (o : Option Head)
    → EveryOrderIsTheIteration
    → IsAccepted source
    → length start.world.agents ≡ length source.model.agents
    → IsCut line_feed bytes line rest
    → head_of line ≡ o
    → verdict_under source start o (all_but_last (parts rest)) bytes ≡ Yes count
    → TellsIteration source start bytes count
tells_under source start bytes line rest count None every accepted long cut says e = absurd (cc)
tells_under source start bytes line rest count (Some head) every accepted long cut says e =
    let round : Round = round_of source start.world (next_number start) head.fuel in
    let core : Core = opening_core source.model start.world.agents in
    let both =
    starts_by (int_eq (pos head.iteration) (next_number start))
    (verdict_behind round head.pieces core (all_but_last (parts rest)) bytes) count e in
    tells_by source start bytes line rest count head every accepted long cut says
    ((Decides-int_eq (pos head.iteration) (next_number start)).0 both.0)
    (sym (verdict_behind-onward round head.pieces core bytes line rest cut.parts) ∙ both.1)

pub yes-tells : EveryOrderIsTheIteration → YesTellsTheIteration
yes-tells every source start bytes count accepted long e =
    ⊎_elim
    (λ (whole : parts bytes ≡ bytes ∷ []).
    let no_form : Form 1 ≡ Yes count = sym (verdict-whole source start bytes whole) ∙ e in absurd (cc no_form))
    (λ (cut : (line : List ℕ) × (rest : List ℕ) × IsCut line_feed bytes line rest).
    tells_under source start bytes cut.0 cut.1 count (head_of cut.0) every accepted long cut.2 refl
    (sym (verdict-cut source start bytes cut.0 cut.1 cut.2.parts) ∙ e))
    (cut-cases line_feed bytes)
