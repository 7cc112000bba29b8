-- What was recorded and written is a trace of the iteration that was ordered; and such a trace is replayed.
use Rattle.std.proofs.Common.{◌≡◌, ◌≤◌, ℕ, ℤ, List, ◌++◌, length, Bool, true, false, Option, Some, Result, Ok, Err, refl, sym, ap, ◌∙◌, subst, arith}
use Rattle.std.specs.Prelude.{All, pos, ◌+ℤ◌, ◌≤ℤ◌, IsTrue, map, string_bytes, nat_le}
use Rattle.std.proofs.lemmas.Int.{ints}
use Rattle.std.proofs.lemmas.Slice.Zip.{AllZip-long}
use Rattle.flame_outside.specs.Files.{Files}
use Rattle.flame_words.specs.declared.orders.Order.{Order}
use Rattle.flame_words.specs.declared.orders.Order.TheVariants.{Run, Check, Graph, Code, Trial, Migrate, Trace, Replay}
use Rattle.flame_words.specs.declared.orders.TraceOrder.{TraceOrder}
use Rattle.flame_words.specs.declared.faults.Usage.{Usage}
use Rattle.flame_words.specs.CommandLines.{order_of}
use Rattle.flame_words.specs.OrderLimits.{TraceIsWithin}
use Rattle.flame_spec.specs.declared.outcomes.Source.{Source}
use Rattle.flame_spec.specs.Accepted.{IsAccepted}
use Rattle.flame_spec.specs.Columns.{width}
use Rattle.flame_world.specs.declared.turns.Turn.{Turn}
use Rattle.flame_world.specs.declared.faults.SimFault.{SimFault}
use Rattle.flame_world.specs.Iterations.{iteration, round_of}
use Rattle.flame_world.specs.WorldFits.{AreWide, FitsModel}
use Rattle.flame_events.specs.declared.events.Event.{Event}
use Rattle.flame_events.specs.CoreStates.{opening_core}
use Rattle.flame_events.specs.CoreEnds.{is_complete}
use Rattle.flame_events.specs.EventSteps.{are_legal, replay}
use Rattle.flame_popfile.specs.declared.starts.Start.{Start}
use Rattle.flame_load.specs.FileReads.{within, file_in}
use Rattle.flame_load.specs.InputReads.{Reading, answer_behind, ◌>>=◌}
use Rattle.flame_load.specs.TextReads.{Reader}
use Rattle.flame_trace.specs.TraceLaws.{IsNumberedEvent, LeadToTheEnd, TellsIteration, WrittenIsYes}
use Rattle.flame_trace.specs.TraceTexts.{events_text, end_line, behind_end, line_text, trace_text}
use Rattle.flame_trace.specs.TraceVerdicts.{verdict, next_number}
use Rattle.flame_top.specs.Reports.{Report}
use Rattle.flame_top.specs.TraceReports.{Traced, IsTraceOf, next_turn, fault_of, trace_limit, replayed}
use Rattle.flame_top.specs.OrderReports.{source_read, start_read, trace_read, replay_start, replay_source, ordered}
use Rattle.flame_top.specs.TopLaws.{OrdersTrace, OneReportWithoutTraces, TracesAreReplayed}
use Rattle.flame_top.proofs.ReplayEndings.{file_gives}

-- ---- what is written

pub first_number : (itno : ℤ) → pos 0 ≤ℤ itno → pos 1 ≤ℤ (itno +ℤ pos 1)
first_number itno low = omega (arith, ints, low)

module _
    (written_is_yes : WrittenIsYes) (order : TraceOrder) (source : Source) (start : Start)
    (number : ℤ) (pieces : ℕ) (turn : Turn) (events : List Event) (text : List ℕ) (count : ℕ)
    (numbers : number ≡ next_number start)
    (workers : pieces ≡ order.workers)
    (accepted : IsAccepted source)
    (fits : FitsModel source.model start.world)
    (first : pos 0 ≤ℤ start.itno)
    (last : (start.itno +ℤ pos 1) ≤ℤ pos 2147483647)
    (limits : TraceIsWithin order)
    (came : turn ≡ iteration source start.world number order.fuel)
    (legal :
    IsTrue (are_legal (round_of source start.world number order.fuel) pieces (opening_core source.model start.world.agents) events))
    (complete :
    is_complete source.model
    (replay (round_of source start.world number order.fuel) pieces (opening_core source.model start.world.agents) events)
    ≡ true)
    (numbered : All IsNumberedEvent events)
    (written : text ≡ trace_text source.model number order.workers order.fuel turn events)
    (counted : count ≡ length events) where
  lead_at : LeadToTheEnd source start pieces order.fuel events
  lead_at = record {
    legal =
        subst
        (λ (n : ℤ). IsTrue (are_legal (round_of source start.world n order.fuel) pieces (opening_core source.model start.world.agents) events))
        numbers legal;
    complete =
        subst
        (λ (n : ℤ). is_complete source.model (replay (round_of source start.world n order.fuel) pieces (opening_core source.model start.world.agents) events) ≡ true)
        numbers complete;
  }

  lead : LeadToTheEnd source start order.workers order.fuel events
  lead = subst (λ (n : ℕ). LeadToTheEnd source start n order.fuel events) workers lead_at

  is_long : length start.world.agents ≡ length source.model.agents
  is_long = AllZip-long (λ type agents. AreWide (width type.memory) agents) source.model.agents start.world.agents fits.agents

  meant : turn ≡ iteration source start.world (next_number start) order.fuel
  meant = came ∙ ap (λ (n : ℤ). iteration source start.world n order.fuel) numbers

  is_text : text ≡ trace_text source.model (next_number start) order.workers order.fuel turn events
  is_text = written ∙ ap (λ (n : ℤ). trace_text source.model n order.workers order.fuel turn events) numbers

  tells : TellsIteration source start text count
  tells = record {
    pieces = order.workers;
    fuel = order.fuel;
    events = events;
    first = first_number start.itno first;
    last = last;
    some = limits.some_worker;
    few = limits.few_workers;
    enough = limits.fuel;
    numbered = numbered;
    counted = sym counted;
    lead = lead;
    written =
        is_text
        ∙ ap (λ (t : Turn). trace_text source.model (next_number start) order.workers order.fuel t events) meant;
  }

  -- the text is a trace of the iteration
  pub is_trace : IsTraceOf order source start (record { bytes = text; events = count })
  is_trace = record {
    yes = written_is_yes source start text count accepted is_long tells;
    behind = events_text events ++ (line_text (end_line turn) ++ behind_end source.model (next_number start) turn);
    head = is_text;
  }

  -- its fault is that of the iteration
  pub is_fault : (fault : Option SimFault) → fault ≡ fault_of turn → fault ≡ fault_of (next_turn order source start)
  is_fault fault same = same ∙ ap fault_of meant

-- ---- laws

-- words that do not order a trace have one report
ordered_alone :
    (read : Reader) (told : Files) (words : Result Order Usage) (trace other : Traced)
    → ¬ OrdersTrace words
    → ordered read told words trace ≡ ordered read told words other
ordered_alone read told (Ok (Run order)) trace other not = refl
ordered_alone read told (Ok (Check model)) trace other not = refl
ordered_alone read told (Ok (Graph model)) trace other not = refl
ordered_alone read told (Ok (Code model)) trace other not = refl
ordered_alone read told (Ok (Trial order)) trace other not = refl
ordered_alone read told (Ok (Migrate model pop out)) trace other not = refl
ordered_alone read told (Ok (Trace order)) trace other not = absurd (not tt)
ordered_alone read told (Ok (Replay model pop name)) trace other not = refl
ordered_alone read told (Err usage) trace other not = refl

pub one_report_without_traces : OneReportWithoutTraces
one_report_without_traces read words told trace other not =
    ordered_alone read told (order_of (map string_bytes words)) trace other not

-- what comes behind what is given
answer_given :
    {X : Type 0} (read : Reading (List ℕ) X) (next : X → Reading (List ℕ) Report) (x : X)
    → read.answer ≡ Ok x
    → (read >>= next).answer ≡ (next x).answer
unfolding ◌>>=◌
answer_given read next x given = ap (λ answer. answer_behind answer next) given

small_file : (most : ℕ) (bytes : List ℕ) → length bytes ≤ most → within most (Some bytes) ≡ Ok bytes
small_file most bytes small = go (nat_le (length bytes) most) refl
  where
    go : (is : Bool) → nat_le (length bytes) most ≡ is → within most (Some bytes) ≡ Ok bytes
    go true is = grind (arith, is)
    go false is = absurd (grind (arith, is, small))

pub traces_are_replayed : TracesAreReplayed
traces_are_replayed read told order source start trace name given_source given_start is there small =
    let found : file_in told trace_limit name ≡ Ok trace.bytes
    = ap (within trace_limit) there ∙ small_file trace_limit trace.bytes small in
    answer_given (source_read read told order.model) (λ s. replay_source told s order.pop name) source given_source
    ∙ answer_given (start_read told source 1 order.pop) (λ s. replay_start told source s name) start given_start
    ∙ answer_given (trace_read told name) (λ bytes. replayed name (verdict source start bytes)) trace.bytes
    (file_gives told name trace.bytes found)
    ∙ ap (λ v. (replayed name v).answer) is.yes
