-- What holds of each core that legal events lead to: lengths, that frozen boards have their writers shut, and what its pieces keep.
use Rattle.std.proofs.Common.{◌≡◌, ℕ, zero, suc, ◌<◌, ◌≤◌, ⊎_elim, true, false, List, [], ◌∷◌, length, map, Option, Some, None, refl, sym, ap, ◌∙◌, arith, subst, length-set}
use Rattle.std.specs.Prelude.{◌==◌, ◌&&◌, nat_lt, not, is_some, slice_get, slice_set, slice_index_or}
use Rattle.std.specs.List.{list_all, position_or_len}
use Rattle.std.proofs.lemmas.Bool.{and_parts, cases_Bool, cases_lt, ltb-true, lt-ltb, true≢false, false≢true, not-true}
use Rattle.std.proofs.lemmas.List.{length-map}
use Rattle.std.proofs.lemmas.Option.{slice_get_within}
use Rattle.flame_rows.proofs.Lists.{slice_index_or-map_one, slice_get-some}
use Rattle.flame_spec.specs.declared.models.Model.{Model}
use Rattle.flame_spec.specs.declared.outcomes.Outcome.{Outcome}
use Rattle.flame_spec.specs.declared.outcomes.Sent.{Sent}
use Rattle.flame_spec.specs.Before.{function_count}
use Rattle.flame_spec.specs.Below.{is_in}
use Rattle.flame_spec.specs.Functions.{Place, functions}
use Rattle.flame_meaning.specs.RangeLaws.{Each}
use Rattle.flame_world.specs.declared.faults.SimFault.{SimFault}
use Rattle.flame_world.specs.AgentRuns.{sent_by}
use Rattle.flame_world.specs.Fields.{Field}
use Rattle.flame_world.specs.Iterations.{Round, taking, outcome_in}
use Rattle.flame_meaning.specs.Outcomes.{outputs_at}
use Rattle.flame_events.specs.declared.events.Event.{Event}
use Rattle.flame_events.specs.declared.events.Event.TheVariants as event
use Rattle.flame_rows.specs.Cuts.{cut}
use Rattle.flame_events.specs.CoreStates.{Work, Status, Waiting, Open, is_waiting, is_shut, works_of, has_left, part_in, fault_in, Core, status_of, work_of, is_frozen, opening_core}
use Rattle.flame_events.specs.LegalEvents.{inputs_of, outputs_of, predecessors, are_shut, writers, may_open, may_hand_in, may_shut, may_freeze, is_legal}
use Rattle.flame_events.specs.EventSteps.{fresh_work, opened, with_sent, with_agent, with_work, ran_agent, ran_next, joined_board, handed_in, done_with, after, replay, are_legal}
use Rattle.flame_events.specs.CoreLaws.{EventsLeadTo, WhatBeganMayBegin, FrozenBoardsAreWritten, PiecesAreFewAndFilled, UnrunPiecesAreFresh, PartsAreKeptUntilAllRan, BoardsGatherWhatIsHandedIn}
use Rattle.flame_events.proofs.EvenCuts.{cuts_are_even}
use Rattle.flame_events.proofs.Weights.{Row, Rows}
use Rattle.flame_events.proofs.Spots.{output_named}
use Rattle.flame_events.proofs.Works.{each_set, kept_is_output, length-with_sent, all_of_list, without}
use Rattle.flame_events.proofs.Sound.{set_table, put_all, both_wait, can_open, opens_with, past_waiting}
use Rattle.flame_events.proofs.Legality.{may_shut_is, each_also, in_writers, put_true, frozen_cases}
use Rattle.flame_events.proofs.CoreWidths.{status_below}
use Rattle.flame_meaning.proofs.Eachs.{each_at, each_from}

pub record KeptWork (outs : List ℕ) (work : Work) : Type 0 where
  pub some : 0 < length work.agents
  pub long : length work.parts ≡ length outs
  pub fresh : work.ran ≡ 0 → work ≡ fresh_work outs work.agents
  pub left : has_left work ≡ true → list_all is_some work.parts ≡ true

pub record KeptWorks (outs : List ℕ) (pieces : ℕ) (works : List Work) : Type 0 where
  pub few : length works ≤ pieces
  pub each : Each (KeptWork outs) works

pub record MayBegin (model : Model) (core : Core) (f : ℕ) : Type 0 where
  pub earlier : are_shut core (predecessors model f) ≡ true
  pub fed : list_all (is_frozen core) (inputs_of model f) ≡ true

pub record KeptCore (model : Model) (pieces : ℕ) (core : Core) : Type 0 where
  pub long : length core.statuses ≡ function_count model
  pub marks : length core.frozen ≡ length model.messages
  pub begun : (f : ℕ) → is_waiting (status_of core f) ≡ false → MayBegin model core f
  pub written : (m : ℕ) → is_frozen core m ≡ true → are_shut core (writers model m) ≡ true
  pub works : (f : ℕ) → KeptWorks (outputs_of model f) pieces (works_of (status_of core f))

-- ---- the status of one function changes

kept_put : (model : Model) (pieces : ℕ) (core : Core) (f : ℕ) (v : Status) (b : Field) → KeptCore model pieces core → f < length core.statuses
    → (is_shut (status_of core f) ≡ true → is_shut v ≡ true) → MayBegin model core f → KeptWorks (outputs_of model f) pieces (works_of v)
    → KeptCore model pieces (record { statuses = slice_set core.statuses f v; field = b; frozen = core.frozen })
kept_put model pieces core f v b kept less shut may works =
    let P : ℕ → Status → Type 0 =
    λ g s. (is_shut (status_of core g) ≡ true → is_shut s ≡ true) × (is_waiting s ≡ false → MayBegin model core g) × KeptWorks (outputs_of model g) pieces (works_of s) in
    let facts : (g : ℕ) → P g (slice_index_or (slice_set core.statuses f v) g Waiting) = λ g.
    subst (P g) (sym (set_table core.statuses f v Waiting less g))
    (put_all P (status_of core) f v (shut, (λ e. may), works) (λ k apart. ((λ e. e), kept.begun k, kept.works k)) g) in
    let also : (numbers : List ℕ) → are_shut core numbers ≡ true → list_all (λ g. is_shut (slice_index_or (slice_set core.statuses f v) g Waiting)) numbers ≡ true =
    λ numbers all. each_also (λ g. is_shut (status_of core g)) (λ g. is_shut (slice_index_or (slice_set core.statuses f v) g Waiting)) numbers (λ g is. (facts g).0 is) all in
    record {
      long = length-set core.statuses f v ∙ kept.long;
      marks = kept.marks;
      begun = λ g waits. let was = (facts g).1 waits in record { earlier = also (predecessors model g) was.earlier; fed = was.fed };
      written = λ m frozen. also (writers model m) (kept.written m frozen);
      works = λ g. (facts g).2;
    }

kept_work : (model : Model) (pieces : ℕ) (core : Core) (f k : ℕ) (work new : Work) (b : Field) → KeptCore model pieces core
    → work_of core f k ≡ Some work → KeptWork (outputs_of model f) new
    → KeptCore model pieces (record { statuses = with_work core f k new; field = b; frozen = core.frozen })
kept_work model pieces core f k work new b kept at fine =
    let works = works_of (status_of core f) in
    let is = opens_with (status_of core f) k work at in
    kept_put model pieces core f (Open (slice_set works k new)) b kept (status_below core f k work at)
    (λ shut. absurd (false≢true (sym (ap is_shut is) ∙ shut)))
    (kept.begun f (ap is_waiting is))
    (record {
      few = omega (arith, length-set works k new, (kept.works f).few);
      each = each_set (KeptWork (outputs_of model f)) works k new (kept.works f).each fine;
    })

-- ---- a function is opened

cut_few : (pieces : ℕ) (agents : Rows) → length (cut pieces agents) ≤ pieces
cut_few zero agents = omega arith
cut_few (suc pieces) agents = (cuts_are_even agents (suc pieces) (omega arith)).few

pub cut_filled : (pieces : ℕ) (agents : Rows) → Each (λ bag. 0 < length bag) (cut pieces agents)
cut_filled zero agents = tt
cut_filled (suc pieces) agents =
    each_from (λ bag. 0 < length bag) (cut (suc pieces) agents) (λ k bag at. ((cuts_are_even agents (suc pieces) (omega arith)).filled k bag at).0)

fresh_is_some : (outs : List ℕ) (agents : Rows) → list_all is_some (fresh_work outs agents).parts ≡ true
fresh_is_some [] agents = refl
fresh_is_some (output ∷ outs) agents = fresh_is_some outs agents

length-fresh : (outs : List ℕ) (agents : Rows) → length (fresh_work outs agents).parts ≡ length outs
length-fresh [] agents = refl
length-fresh (output ∷ outs) agents = ap suc (length-fresh outs agents)

fresh_kept : (outs : List ℕ) (bags : List Rows) → Each (λ bag. 0 < length bag) bags → Each (KeptWork outs) (map (fresh_work outs) bags)
fresh_kept outs [] some = tt
fresh_kept outs (bag ∷ bags) some = (
  record { some = some.0; long = length-fresh outs bag; fresh = λ none. refl; left = λ more. fresh_is_some outs bag },
  fresh_kept outs bags some.1,
)

shut_before : (model : Model) (core : Core) (f : ℕ) → may_open model core f ≡ true → are_shut core (predecessors model f) ≡ true
shut_before model core f legal =
    let known = nat_lt f (function_count model) && is_waiting (status_of core f) in
    (and_parts known (are_shut core (predecessors model f)) (and_parts (known && are_shut core (predecessors model f)) (list_all (is_frozen core) (inputs_of model f)) legal).0).1

kept_opened : (round : Round) (pieces : ℕ) (core : Core) (f : ℕ) (place : Option Place) → KeptCore round.source.model pieces core
    → may_open round.source.model core f ≡ true → KeptCore round.source.model pieces (opened round pieces f place core)
kept_opened round pieces core f None kept legal = kept
kept_opened round pieces core f (Some place) kept legal =
    let model = round.source.model in
    let outs = outputs_of model f in
    let can = can_open model core f legal in
    let bags = cut pieces (taking round f place core.field) in
    kept_put model pieces core f (Open (map (fresh_work outs) bags)) (opened round pieces f (Some place) core).field kept (omega (arith, can.below, kept.long))
    (λ shut. absurd (both_wait (status_of core f) can.waits shut))
    (record { earlier = shut_before model core f legal; fed = can.fed })
    (record {
      few = omega (arith, length-map bags (fresh_work outs), cut_few pieces (taking round f place core.field));
      each = fresh_kept outs bags (cut_filled pieces (taking round f place core.field));
    })

-- ---- an agent runs

sent_is_some : (outs : List ℕ) (messages : List Sent) (parts : List (Option Rows)) → list_all is_some parts ≡ true → list_all is_some (with_sent outs messages parts) ≡ true
sent_is_some [] messages parts all = refl
sent_is_some (output ∷ outs) messages [] all = refl
sent_is_some (output ∷ outs) messages (None ∷ parts) all = absurd (false≢true all)
sent_is_some (output ∷ outs) messages (Some rows ∷ parts) all = sent_is_some outs messages parts all

kept_agent : (round : Round) (f : ℕ) (work : Work) (memory : Row) (outcome : Outcome) → KeptWork (outputs_of round.source.model f) work
    → slice_get work.agents work.ran ≡ Some memory → KeptWork (outputs_of round.source.model f) (with_agent round f work memory outcome)
kept_agent round f work memory outcome kept at =
    let outs = outputs_of round.source.model f in
    let there : has_left work ≡ true = lt-ltb work.ran (length work.agents) (slice_get_within work.agents work.ran memory at) in
    record {
      some = kept.some;
      long = length-with_sent outs (sent_by outcome) work.parts kept.long;
      fresh = λ none. absurd (omega (arith, none));
      left = λ more. sent_is_some outs (sent_by outcome) work.parts (kept.left there);
    }

kept_ran : (round : Round) (pieces : ℕ) (core : Core) (f k : ℕ) (place : Place) (work : Work) (memory : Option Row) → KeptCore round.source.model pieces core
    → work_of core f k ≡ Some work → slice_get work.agents work.ran ≡ memory → KeptCore round.source.model pieces (ran_agent round f k place work memory core)
kept_ran round pieces core f k place work None kept there at = kept
kept_ran round pieces core f k place work (Some memory) kept there at =
    let outs = outputs_of round.source.model f in
    let outcome = outcome_in round f core.field memory in
    kept_work round.source.model pieces core f k work (with_agent round f work memory outcome) (ran_agent round f k place work (Some memory) core).field kept there
    (kept_agent round f work memory outcome (each_at (KeptWork outs) (works_of (status_of core f)) k work (kept.works f).each there) at)

kept_next : (round : Round) (pieces : ℕ) (core : Core) (f k : ℕ) (place : Option Place) (work : Option Work) → KeptCore round.source.model pieces core
    → work_of core f k ≡ work → KeptCore round.source.model pieces (ran_next round f k place work core)
kept_next round pieces core f k None work kept there = kept
kept_next round pieces core f k (Some place) None kept there = kept
kept_next round pieces core f k (Some place) (Some work) kept there = kept_ran round pieces core f k place work (slice_get work.agents work.ran) kept there refl

-- ---- messages are handed in

kept_without : (outs : List ℕ) (m : ℕ) (work : Work) → KeptWork outs work → has_left work ≡ false → KeptWork outs (without outs m work)
kept_without outs m work kept over = record {
  some = kept.some;
  long = length-set work.parts (position_or_len (λ output. output == m) outs) None ∙ kept.long;
  fresh = λ none. absurd (true≢false (sym (lt-ltb work.ran (length work.agents) (omega (arith, none, kept.some))) ∙ over));
  left = λ more. absurd (true≢false (sym more ∙ over));
}

kept_joined : (model : Model) (pieces : ℕ) (core : Core) (f k m : ℕ) (work : Work) (part : Option Rows) → KeptCore model pieces core
    → work_of core f k ≡ Some work → has_left work ≡ false → KeptCore model pieces (joined_board f k m (outputs_of model f) work part core)
kept_joined model pieces core f k m work None kept there over = kept
kept_joined model pieces core f k m work (Some rows) kept there over =
    let outs = outputs_of model f in
    kept_work model pieces core f k work (without outs m work) (joined_board f k m outs work (Some rows) core).field kept there
    (kept_without outs m work (each_at (KeptWork outs) (works_of (status_of core f)) k work (kept.works f).each there) over)

kept_handed : (model : Model) (pieces : ℕ) (core : Core) (f k m : ℕ) (work : Option Work) → KeptCore model pieces core
    → work_of core f k ≡ work → may_hand_in (outputs_of model f) work m ≡ true → KeptCore model pieces (handed_in f k m (outputs_of model f) work core)
kept_handed model pieces core f k m None kept there legal = kept
kept_handed model pieces core f k m (Some work) kept there legal =
    let both = and_parts (not (has_left work)) (is_some (part_in (outputs_of model f) work.parts m)) legal in
    kept_joined model pieces core f k m work (part_in (outputs_of model f) work.parts m) kept there (not-true (has_left work) both.0)

-- ---- a function is done, or a board complete

done_works : (outs : List ℕ) (pieces : ℕ) (o : Option SimFault) → KeptWorks outs pieces (works_of (done_with o))
done_works outs pieces None = record { few = omega arith; each = tt }
done_works outs pieces (Some fault) = record { few = omega arith; each = tt }

pub open_there : (core : Core) (f : ℕ) (works : List Work) → status_of core f ≡ Open works → f < length core.statuses
open_there core f works is = ⊎_elim
    (λ (less : f < length core.statuses). less)
    (λ (over : length core.statuses ≤ f). absurd (true≢false (ap is_waiting (sym (past_waiting core.statuses f over) ∙ is))))
    (cases_lt f (length core.statuses))

kept_shut : (round : Round) (pieces : ℕ) (core : Core) (f : ℕ) → KeptCore round.source.model pieces core
    → may_shut (outputs_of round.source.model f) (status_of core f) ≡ true → KeptCore round.source.model pieces (after round pieces core (event.Shut f))
kept_shut round pieces core f kept legal =
    let outs = outputs_of round.source.model f in
    let is = (may_shut_is outs (status_of core f) legal).0 in
    let fault = fault_in (works_of (status_of core f)) in
    kept_put round.source.model pieces core f (done_with fault) core.field kept (open_there core f (works_of (status_of core f)) is)
    (λ shut. absurd (false≢true (sym (ap is_shut is) ∙ shut)))
    (kept.begun f (ap is_waiting is))
    (done_works outs pieces fault)

kept_frozen : (round : Round) (pieces : ℕ) (core : Core) (m : ℕ) → KeptCore round.source.model pieces core
    → may_freeze round.source.model core m ≡ true → KeptCore round.source.model pieces (after round pieces core (event.Freeze m))
kept_frozen round pieces core m kept legal =
    let model = round.source.model in
    let a = and_parts (nat_lt m (length model.messages) && not (is_frozen core m)) (are_shut core (writers model m)) legal in
    let b = and_parts (nat_lt m (length model.messages)) (not (is_frozen core m)) a.0 in
    let less : m < length core.frozen = omega (arith, ltb-true m (length model.messages) b.0, kept.marks) in
    let marks = set_table core.frozen m true false less in
    record {
      long = kept.long;
      marks = length-set core.frozen m true ∙ kept.marks;
      begun = λ f waits.
          let was = kept.begun f waits in
          record {
            earlier = was.earlier;
            fed = each_also (is_frozen core) (λ i. slice_index_or (slice_set core.frozen m true) i false) (inputs_of model f)
                (λ i old. marks i ∙ put_true (i == m) (is_frozen core i) old) was.fed;
          };
      written = λ i frozen. ⊎_elim
          (λ (same : i ≡ m). ap (λ n. are_shut core (writers model n)) same ∙ a.1)
          (λ (old : is_frozen core i ≡ true). kept.written i old)
          (frozen_cases core m i (sym (marks i) ∙ frozen));
      works = kept.works;
    }

-- ---- all events

kept_after : (round : Round) (pieces : ℕ) (core : Core) (e : Event) → KeptCore round.source.model pieces core
    → is_legal round.source.model core e ≡ true → KeptCore round.source.model pieces (after round pieces core e)
kept_after round pieces core (event.Open f) kept legal = kept_opened round pieces core f (slice_get (functions round.source.model) f) kept legal
kept_after round pieces core (event.Agent f k) kept legal =
    kept_next round pieces core f k (slice_get (functions round.source.model) f) (work_of core f k) kept refl
kept_after round pieces core (event.HandIn f k m) kept legal = kept_handed round.source.model pieces core f k m (work_of core f k) kept refl legal
kept_after round pieces core (event.Shut f) kept legal = kept_shut round pieces core f kept legal
kept_after round pieces core (event.Freeze m) kept legal = kept_frozen round pieces core m kept legal

kept_replay : (round : Round) (pieces : ℕ) (core : Core) (events : List Event) → KeptCore round.source.model pieces core
    → are_legal round pieces core events ≡ true → KeptCore round.source.model pieces (replay round pieces core events)
kept_replay round pieces core [] kept legal = kept
kept_replay round pieces core (e ∷ events) kept legal =
    let next = after round pieces core e in
    let both = and_parts (is_legal round.source.model core e) (are_legal round pieces next events) legal in
    kept_replay round pieces next events (kept_after round pieces core e kept both.0) both.1

kept_opening : (model : Model) (pieces : ℕ) (agents : List Rows) → KeptCore model pieces (opening_core model agents)
kept_opening model pieces agents = record {
  long = length-map (functions model) (λ place. Waiting);
  marks = length-map model.messages (λ message. false);
  begun = λ f waits. absurd (true≢false (sym (ap is_waiting (slice_index_or-map_one Waiting (functions model) f)) ∙ waits));
  written = λ m frozen. absurd (true≢false (sym frozen ∙ slice_index_or-map_one false model.messages m));
  works = λ f. subst (λ s. KeptWorks (outputs_of model f) pieces (works_of s)) (sym (slice_index_or-map_one Waiting (functions model) f)) (record { few = omega arith; each = tt });
}

pub kept_core : (round : Round) (pieces : ℕ) (core : Core) → EventsLeadTo round pieces core → KeptCore round.source.model pieces core
kept_core round pieces core led =
    subst (KeptCore round.source.model pieces) (sym led.leads.left)
    (kept_replay round pieces (opening_core round.source.model led.agents) led.events (kept_opening round.source.model pieces led.agents) led.leads.legal)

-- ---- the laws

pub what_began_may_begin : WhatBeganMayBegin
what_began_may_begin round pieces function core led begun =
    let may = (kept_core round pieces core led).begun function begun in
    (may.earlier, may.fed)

pub frozen_boards_are_written : FrozenBoardsAreWritten
frozen_boards_are_written round pieces message core led frozen = (kept_core round pieces core led).written message frozen

each_some : (outs : List ℕ) (works : List Work) → Each (KeptWork outs) works → Each (λ work. 0 < length work.agents) works
each_some outs [] all = tt
each_some outs (work ∷ works) all = (all.0.some, each_some outs works all.1)

pub pieces_are_few_and_filled : PiecesAreFewAndFilled
pieces_are_few_and_filled round pieces function core led =
    let works = (kept_core round pieces core led).works function in
    (works.few, each_some (outputs_of round.source.model function) (works_of (status_of core function)) works.each)

kept_piece : (round : Round) (pieces function piece : ℕ) (work : Work) (core : Core) → EventsLeadTo round pieces core
    → work_of core function piece ≡ Some work → KeptWork (outputs_of round.source.model function) work
kept_piece round pieces function piece work core led at =
    each_at (KeptWork (outputs_of round.source.model function)) (works_of (status_of core function)) piece work ((kept_core round pieces core led).works function).each at

pub unrun_pieces_are_fresh : UnrunPiecesAreFresh
unrun_pieces_are_fresh round pieces function piece work core led at none = (kept_piece round pieces function piece work core led at).fresh none

pub parts_are_kept_until_all_ran : PartsAreKeptUntilAllRan
parts_are_kept_until_all_ran round pieces function piece work core led at more = (kept_piece round pieces function piece work core led at).left more

pub boards_gather_what_is_handed_in : BoardsGatherWhatIsHandedIn
boards_gather_what_is_handed_in round pieces f k m core led legal = by_work (work_of core f k) refl legal
  where
    by_part : (work : Work) → work_of core f k ≡ Some work → (part : Option Rows) → part_in (outputs_of round.source.model f) work.parts m ≡ part
        → is_some part ≡ true → (m < length round.source.model.messages) × (is_frozen core m ≡ false)
    by_part work there None is some = absurd (false≢true some)
    by_part work there (Some rows) is some =
        let model = round.source.model in
        let kept = kept_core round pieces core led in
        let fine = kept_piece round pieces f k work core led there in
        let writes = kept_is_output (outputs_of model f) work.parts m rows fine.long is in
        let below : f < function_count model = omega (arith, status_below core f k work there, kept.long) in
        let place = slice_get-some (functions model) f below in
        let output = output_named model place.0 m (sym (ap (λ o. is_in m (outputs_at o model)) place.1) ∙ writes) in (
          slice_get_within model.messages m output.named.message output.named.there,
          ⊎_elim
              (λ (frozen : is_frozen core m ≡ true).
              absurd (false≢true (sym (ap is_shut (opens_with (status_of core f) k work there))
              ∙ all_of_list (λ g. is_shut (status_of core g)) (writers model m) f (kept.written m frozen) (in_writers model m f below writes))))
              (λ (gathers : is_frozen core m ≡ false). gathers)
              (cases_Bool (is_frozen core m)),
        )

    by_work : (work : Option Work) → work_of core f k ≡ work → may_hand_in (outputs_of round.source.model f) work m ≡ true
        → (m < length round.source.model.messages) × (is_frozen core m ≡ false)
    by_work None there may = absurd (false≢true may)
    by_work (Some work) there may =
        by_part work there (part_in (outputs_of round.source.model f) work.parts m) refl
        (and_parts (not (has_left work)) (is_some (part_in (outputs_of round.source.model f) work.parts m)) may).1
