-- Each legal event is one of those that are left.
use Rattle.std.proofs.Common.{◌≡◌, ℕ, zero, suc, ◌+◌, ◌<◌, ◌≤◌, ⊎_elim, Bool, true, false, cond, List, [], ◌∷◌, length, map, Option, Some, None, refl, sym, ap, ◌∙◌, arith, subst}
use Rattle.std.specs.Prelude.{◌==◌, ◌&&◌, nat_lt, not, is_some, sum_by, count_by, slice_get, slice_set, slice_index_or}
use Rattle.std.specs.List.{list_all, position_or_len}
use Rattle.std.proofs.lemmas.Bool.{and_parts, cases_Bool, cases_lt, ltb-true, true≢false, false≢true}
use Rattle.std.proofs.lemmas.List.Sums.{sum_by-cons, sum_by-set}
use Rattle.std.proofs.lemmas.Option.{slice_get_within}
use Rattle.flame_rows.specs.Bags.{merge}
use Rattle.flame_spec.specs.declared.outcomes.Outcome.{Outcome}
use Rattle.flame_spec.specs.declared.outcomes.Sent.{Sent}
use Rattle.flame_spec.specs.Functions.{Place, functions}
use Rattle.flame_world.specs.declared.faults.SimFault.{SimFault}
use Rattle.flame_world.specs.AgentRuns.{sent_by, messages_of}
use Rattle.flame_world.specs.Iterations.{Round, outcome_in, taking}
use Rattle.flame_events.specs.declared.events.Event.{Event}
use Rattle.flame_events.specs.declared.events.Event.TheVariants as event
use Rattle.flame_rows.specs.Cuts.{cut}
use Rattle.flame_rows.proofs.Lists.{slice_get-some}
use Rattle.flame_events.specs.CoreStates.{Work, Status, Waiting, Open, works_of, has_left, part_in, fault_in, Core, status_of, work_of, is_frozen}
use Rattle.flame_events.specs.LegalEvents.{outputs_of, are_shut, writers, may_open, may_run, may_hand_in, may_shut, may_freeze, is_legal}
use Rattle.flame_events.specs.EventSteps.{fresh_work, opened, with_sent, with_agent, with_work, ran_agent, ran_next, joined_board, handed_in, done_with, after, are_legal}
use Rattle.flame_events.specs.CoreFits.{FitsWork, FitsCore}
use Rattle.flame_events.specs.EventBounds.{turns_left, events_left, piece_events_left, pieces_left, is_of_piece, EventsRunOut, PieceEventsRunOut, LegalEventsAreBounded, PieceEventsAreBounded}
use Rattle.flame_events.proofs.Weights.{Row, Rows}
use Rattle.flame_events.proofs.Works.{past_end, without}
use Rattle.flame_events.proofs.Sound.{waiting_is, can_open, opens_with}
use Rattle.flame_events.proofs.Legality.{may_shut_is}
use Rattle.flame_events.proofs.CoreWidths.{status_below, fitting_cores_stay}
use Rattle.flame_events.proofs.KeptCores.{open_there}
use Rattle.flame_meaning.proofs.Eachs.{each_at}

-- ---- events of functions and boards

-- the status of a function changes
turned : (core : Core) (f : ℕ) (v : Status) → f < length core.statuses
    → sum_by turns_left (slice_set core.statuses f v) + turns_left (status_of core f) ≡ sum_by turns_left core.statuses + turns_left v
turned core f v less = sum_by-set turns_left core.statuses f v Waiting less

opened_once : (round : Round) (pieces : ℕ) (core : Core) (f : ℕ) (place : Option Place) → FitsCore round.source.model core
    → may_open round.source.model core f ≡ true → slice_get (functions round.source.model) f ≡ place
    → events_left (opened round pieces f place core) + 1 ≡ events_left core
opened_once round pieces core f None fits legal at =
    let can = can_open round.source.model core f legal in
    absurd (none_there (sym at ∙ (slice_get-some (functions round.source.model) f can.below).1))
  where
    none_there : {X : Type 0} {x : X} → None ≡ Some x → ⊥
    none_there e = cc
opened_once round pieces core f (Some place) fits legal at =
    let model = round.source.model in
    let can = can_open model core f legal in
    let v : Status = Open (map (fresh_work (outputs_of model f)) (cut pieces (taking round f place core.field))) in
    let was : turns_left (status_of core f) ≡ 2 = ap turns_left (waiting_is (status_of core f) can.waits) in
    omega (arith, turned core f v (omega (arith, can.below, fits.statuses)), was)

done_turns : (o : Option SimFault) → turns_left (done_with o) ≡ 0
done_turns None = refl
done_turns (Some fault) = refl

shut_once : (round : Round) (pieces : ℕ) (core : Core) (f : ℕ) → may_shut (outputs_of round.source.model f) (status_of core f) ≡ true
    → events_left (after round pieces core (event.Shut f)) + 1 ≡ events_left core
shut_once round pieces core f legal =
    let works = works_of (status_of core f) in
    let is = (may_shut_is (outputs_of round.source.model f) (status_of core f) legal).0 in
    let was : turns_left (status_of core f) ≡ 1 = ap turns_left is in
    omega (arith, turned core f (done_with (fault_in works)) (open_there core f works is), was, done_turns (fault_in works))

frozen_once : (round : Round) (pieces : ℕ) (core : Core) (m : ℕ) → FitsCore round.source.model core → may_freeze round.source.model core m ≡ true
    → events_left (after round pieces core (event.Freeze m)) + 1 ≡ events_left core
frozen_once round pieces core m fits legal =
    let model = round.source.model in
    let a = and_parts (nat_lt m (length model.messages) && not (is_frozen core m)) (are_shut core (writers model m)) legal in
    let b = and_parts (nat_lt m (length model.messages)) (not (is_frozen core m)) a.0 in
    let less : m < length core.frozen = omega (arith, ltb-true m (length model.messages) b.0, fits.frozen) in
    let mark : Bool → ℕ = λ frozen. cond (not frozen) 1 0 in
    let was : mark (is_frozen core m) ≡ 1 = ap (λ (t : Bool). let n : ℕ = cond t 1 0 in n) b.1 in
    let sums : sum_by mark (slice_set core.frozen m true) + mark (is_frozen core m) ≡ sum_by mark core.frozen + 0 = sum_by-set mark core.frozen m true false less in
    omega (arith, sums, was)

pub events_run_out : EventsRunOut
events_run_out round pieces core (event.Open f) fits legal kind = opened_once round pieces core f (slice_get (functions round.source.model) f) fits legal refl
events_run_out round pieces core (event.Agent f k) fits legal kind = absurd (true≢false kind)
events_run_out round pieces core (event.HandIn f k m) fits legal kind = absurd (true≢false kind)
events_run_out round pieces core (event.Shut f) fits legal kind = shut_once round pieces core f legal
events_run_out round pieces core (event.Freeze m) fits legal kind = frozen_once round pieces core m fits legal

-- ---- events of pieces

got_is : {X : Type 0} (xs : List X) (k : ℕ) (x : X) → slice_get xs k ≡ Some x → slice_index_or xs k x ≡ x
got_is [] k x at = refl
got_is (y ∷ xs) zero x at = cc
got_is (y ∷ xs) (suc k) x at = got_is xs k x at

-- a piece of an open function changes, of which one event less is left
module _ (core : Core) (f k : ℕ) (work new : Work) (there : work_of core f k ≡ Some work) where
  abbrev works : List Work
  works = works_of (status_of core f)

  abbrev v : Status
  v = Open (slice_set works k new)

  is_open : status_of core f ≡ Open works
  is_open = opens_with (status_of core f) k work there

  less : f < length core.statuses
  less = status_below core f k work there

  turns_stay : sum_by turns_left (with_work core f k new) ≡ sum_by turns_left core.statuses
  turns_stay = omega (arith, turned core f v less, ap turns_left is_open)

  pieces_fall : piece_events_left new + 1 ≡ piece_events_left work
      → sum_by (λ status. sum_by piece_events_left (works_of status)) (with_work core f k new) + 1 ≡ pieces_left core
  pieces_fall one =
      let within = slice_get_within works k work there in
      let inner = sum_by-set piece_events_left works k new work within in
      let old : piece_events_left (slice_index_or works k work) ≡ piece_events_left work = ap piece_events_left (got_is works k work there) in
      let outer = sum_by-set (λ status. sum_by piece_events_left (works_of status)) core.statuses f v Waiting less in
      omega (arith, inner, old, outer, one)

record RunsOut (core next : Core) : Type 0 where
  pub pieces : pieces_left next + 1 ≡ pieces_left core
  pub rest : events_left next ≡ events_left core

count-cons : (part : Option Rows) (parts : List (Option Rows)) → count_by is_some (part ∷ parts) ≡ cond (is_some part) 1 0 + count_by is_some parts
count-cons part parts = sum_by-cons (λ (p : Option Rows). cond (is_some p) 1 0) part parts

sent_count : (outs : List ℕ) (messages : List Sent) (parts : List (Option Rows)) → length parts ≡ length outs
    → count_by is_some (with_sent outs messages parts) ≡ count_by is_some parts
sent_count [] messages [] long = refl
sent_count [] messages (part ∷ parts) long = absurd (omega (arith, long))
sent_count (output ∷ outs) messages [] long = absurd (omega (arith, long))
sent_count (output ∷ outs) messages (part ∷ parts) long =
    let rest = sent_count outs messages parts (omega (arith, long)) in
    by part rest
  where
    by : (part : Option Rows) → count_by is_some (with_sent outs messages parts) ≡ count_by is_some parts
        → count_by is_some (with_sent (output ∷ outs) messages (part ∷ parts)) ≡ count_by is_some (part ∷ parts)
    by None rest = omega (arith, count-cons None (with_sent outs messages parts), rest, count-cons None parts)
    by (Some rows) rest = omega (arith, count-cons (Some (merge rows (messages_of messages output))) (with_sent outs messages parts), rest, count-cons (Some rows) parts)

agent_once : (round : Round) (f : ℕ) (work : Work) (memory : Row) (outcome : Outcome) → length work.parts ≡ length (outputs_of round.source.model f)
    → slice_get work.agents work.ran ≡ Some memory → piece_events_left (with_agent round f work memory outcome) + 1 ≡ piece_events_left work
agent_once round f work memory outcome long at =
    omega (arith, sent_count (outputs_of round.source.model f) (sent_by outcome) work.parts long, slice_get_within work.agents work.ran memory at)

agent_out : (round : Round) (core : Core) (f k : ℕ) (place : Place) (work : Work) (memory : Option Row) → FitsWork round.source.model f place.type work
    → work_of core f k ≡ Some work → has_left work ≡ true → slice_get work.agents work.ran ≡ memory
    → RunsOut core (ran_agent round f k place work memory core)
agent_out round core f k place work None fits there more at =
    absurd (none_there (sym at ∙ (slice_get-some work.agents work.ran (ltb-true work.ran (length work.agents) more)).1))
  where
    none_there : {X : Type 0} {x : X} → None ≡ Some x → ⊥
    none_there e = cc
agent_out round core f k place work (Some memory) fits there more at =
    let outcome = outcome_in round f core.field memory in
    let new = with_agent round f work memory outcome in
    record {
      pieces = pieces_fall core f k work new there (agent_once round f work memory outcome fits.parts at);
      rest = ap (λ n. n + count_by not core.frozen) (turns_stay core f k work new there);
    }

next_out : (round : Round) (core : Core) (f k : ℕ) (work : Option Work) → FitsCore round.source.model core
    → work_of core f k ≡ work → may_run work ≡ true → RunsOut core (ran_next round f k (slice_get (functions round.source.model) f) work core)
next_out round core f k None fits there may = absurd (false≢true may)
next_out round core f k (Some work) fits there may =
    let model = round.source.model in
    let place = slice_get-some (functions model) f (omega (arith, status_below core f k work there, fits.statuses)) in
    subst (λ o. RunsOut core (ran_next round f k o (Some work) core)) (sym place.1)
    (agent_out round core f k place.0 work (slice_get work.agents work.ran)
    (each_at (FitsWork model f place.0.type) (works_of (status_of core f)) k work (fits.works f place.0 place.1) there) there may refl)

none_count : (parts : List (Option Rows)) (p : ℕ) (rows : Rows) → slice_index_or parts p None ≡ Some rows
    → count_by is_some (slice_set parts p None) + 1 ≡ count_by is_some parts
none_count parts p rows at = ⊎_elim
    (λ (within : p < length parts).
    let here : Option Rows → ℕ = λ part. cond (is_some part) 1 0 in
    let was : here (slice_index_or parts p None) ≡ 1 = ap here at in
    let sums : sum_by here (slice_set parts p None) + here (slice_index_or parts p None) ≡ sum_by here parts + 0 = sum_by-set here parts p None None within in
    omega (arith, sums, was))
    (λ (over : length parts ≤ p). absurd (none_some (sym (past_end parts p over) ∙ at)))
    (cases_lt p (length parts))
  where
    none_some : None ≡ Some rows → ⊥
    none_some e = cc

part_out : (core : Core) (f k m : ℕ) (outs : List ℕ) (work : Work) (part : Option Rows) → work_of core f k ≡ Some work → part_in outs work.parts m ≡ part
    → is_some part ≡ true → RunsOut core (joined_board f k m outs work part core)
part_out core f k m outs work None there is some = absurd (false≢true some)
part_out core f k m outs work (Some rows) there is some =
    let fewer = none_count work.parts (position_or_len (λ output. output == m) outs) rows is in
    record {
      pieces = pieces_fall core f k work (without outs m work) there (omega (arith, fewer));
      rest = ap (λ n. n + count_by not core.frozen) (turns_stay core f k work (without outs m work) there);
    }

hand_in_out : (core : Core) (f k m : ℕ) (outs : List ℕ) (work : Option Work) → work_of core f k ≡ work → may_hand_in outs work m ≡ true
    → RunsOut core (handed_in f k m outs work core)
hand_in_out core f k m outs None there may = absurd (false≢true may)
hand_in_out core f k m outs (Some work) there may =
    part_out core f k m outs work (part_in outs work.parts m) there refl (and_parts (not (has_left work)) (is_some (part_in outs work.parts m)) may).1

both : (core next : Core) → RunsOut core next → (pieces_left next + 1 ≡ pieces_left core) × (events_left next ≡ events_left core)
both core next out = (out.pieces, out.rest)

pub piece_events_run_out : PieceEventsRunOut
piece_events_run_out round pieces core (event.Open f) fits legal kind = absurd (false≢true kind)
piece_events_run_out round pieces core (event.Agent f k) fits legal kind =
    both core (after round pieces core (event.Agent f k)) (next_out round core f k (work_of core f k) fits refl legal)
piece_events_run_out round pieces core (event.HandIn f k m) fits legal kind =
    both core (after round pieces core (event.HandIn f k m)) (hand_in_out core f k m (outputs_of round.source.model f) (work_of core f k) refl legal)
piece_events_run_out round pieces core (event.Shut f) fits legal kind = absurd (false≢true kind)
piece_events_run_out round pieces core (event.Freeze m) fits legal kind = absurd (false≢true kind)

-- ---- many events

abbrev counts : Event → ℕ
counts e = cond (not (is_of_piece e)) 1 0

pub legal_events_are_bounded : LegalEventsAreBounded
legal_events_are_bounded round pieces core [] fits legal = omega arith
legal_events_are_bounded round pieces core (e ∷ events) fits legal =
    let next = after round pieces core e in
    let may = and_parts (is_legal round.source.model core e) (are_legal round pieces next events) legal in
    let rest = legal_events_are_bounded round pieces next events (fitting_cores_stay round pieces core e fits may.0) may.1 in
    let sums : sum_by counts (e ∷ events) ≡ counts e + sum_by counts events = sum_by-cons counts e events in
    ⊎_elim
    (λ (piece : is_of_piece e ≡ true).
    let none : counts e ≡ 0 = ap (λ (b : Bool). let n : ℕ = cond (not b) 1 0 in n) piece in
    omega (arith, rest, sums, none, (piece_events_run_out round pieces core e fits may.0 piece).1))
    (λ (other : is_of_piece e ≡ false).
    let one : counts e ≡ 1 = ap (λ (b : Bool). let n : ℕ = cond (not b) 1 0 in n) other in
    omega (arith, rest, sums, one, events_run_out round pieces core e fits may.0 other))
    (cases_Bool (is_of_piece e))

pub piece_events_are_bounded : PieceEventsAreBounded
piece_events_are_bounded round pieces core [] fits legal all = omega arith
piece_events_are_bounded round pieces core (e ∷ events) fits legal all =
    let next = after round pieces core e in
    let may = and_parts (is_legal round.source.model core e) (are_legal round pieces next events) legal in
    let each = and_parts (is_of_piece e) (list_all is_of_piece events) all in
    let rest = piece_events_are_bounded round pieces next events (fitting_cores_stay round pieces core e fits may.0) may.1 each.1 in
    omega (arith, rest, (piece_events_run_out round pieces core e fits may.0 each.0).0)
