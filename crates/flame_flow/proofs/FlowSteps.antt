-- What the calls of a flow have from what it keeps.
use Rattle.std.proofs.Common.{◌≡◌, ℕ, ◌+◌, ◌<◌, Bool, true, false, cond, List, [], ◌∷◌, ◌++◌, drop, length, Option, Some, None, refl, sym, ap, ◌∙◌, subst, arith, length-set}
use Rattle.std.specs.Prelude.{◌==◌, slice_get, slice_index, slice_set}
use Rattle.std.proofs.lemmas.Bool.{true≢false, ltb-true, ltb-false}
use Rattle.std.proofs.lemmas.Slice.Zip.{AllZip-long}
use Rattle.flame_rows.proofs.Lists.{slice_get-some, slice_index-there}
use Rattle.flame_spec.specs.declared.models.Model.{Model}
use Rattle.flame_spec.specs.declared.outcomes.Source.{Source}
use Rattle.flame_spec.specs.Accepted.{IsAccepted}
use Rattle.flame_spec.specs.Before.{function_count}
use Rattle.flame_spec.specs.Functions.{functions}
use Rattle.flame_spec.specs.ModelOrder.{model_order}
use Rattle.flame_spec_laws.specs.NameLaws.{MessagesDiffer}
use Rattle.flame_world.specs.declared.shares.Share.{Share}
use Rattle.flame_world.specs.InputBoards.{boards_named}
use Rattle.flame_world.specs.Iterations.{Round, round_of}
use Rattle.flame_world.specs.Shares.{piece_of}
use Rattle.flame_events.specs.declared.events.Event.{Event}
use Rattle.flame_events.specs.declared.events.Event.TheVariants as event
use Rattle.flame_events.specs.CoreEnds.{least_fault_rank}
use Rattle.flame_events.specs.CoreStates.{works_of, Core, status_of, opening_core}
use Rattle.flame_events.specs.EventSteps.{are_legal}
use Rattle.flame_events.specs.Histories.{Leads}
use Rattle.flame_events.specs.LegalEvents.{is_legal, may_run}
use Rattle.flame_events.proofs.CoreWidths.{status_below}
use Rattle.flame_orders.specs.OneBeginning.{HaveOneBeginning}
use Rattle.flame_orders.proofs.Lasting.{runs}
use Rattle.flame_orders.proofs.OneBeginnings.{pieces_agree}
use Rattle.flame_core.specs.CoreCalls.{CanAbsorb}
use Rattle.flame_core.specs.SeenCores.{round_in, start_in}
use Rattle.flame_flow.specs.declared.goings.GoingOn.{GoingOn}
use Rattle.flame_flow.specs.declared.ways.Ways.{Ways}
use Rattle.flame_flow.specs.BegunPieces.{AreMarksOf}
use Rattle.flame_flow.specs.FlowCalls.{IsDueShare}
use Rattle.flame_flow.specs.FlowStates.{next_piece, is_rank_below}
use Rattle.flame_flow.specs.Goings.{GoesOn}
use Rattle.flame_flow.specs.KeptFlows.{IsKeptFlow}
use Rattle.flame_flow.specs.KeptWays.{IsWaysOf}
use Rattle.flame_flow.specs.QuietCores.{AreLeft, ArePiecesWhole}
use Rattle.flame_flow.specs.SeenFlows.{Start, start_of}
use Rattle.flame_flow.specs.ToldCores.{ToldCore, IsTold, told_on, SettledWhole, settling_events}
use Rattle.flame_flow.proofs.DueBoards.{boards_same}
use Rattle.flame_flow.proofs.Readiness.{Next, has_first, next_none, next_first, next_below, next_above, next_is, marks_begun, left_unrun, unrun_left}
use Rattle.flame_flow.proofs.Tellings.{legal-parts, told_again, told_known}

-- ---- which piece is next

first_of : (due : List ℕ) (rank : ℕ) → slice_get due 0 ≡ Some rank → (rest : List ℕ) × (due ≡ rank ∷ rest)
first_of [] rank at = absurd cc
first_of (r ∷ due) rank at = let same : r ≡ rank = cc in (due, ap (λ n. n ∷ due) same)

none_of : (due : List ℕ) → slice_get due 0 ≡ None → due ≡ []
none_of [] at = refl
none_of (r ∷ due) at = absurd cc

module _ (model : Model) (begun due : List ℕ) (core : Core) (marks : AreMarksOf model begun due core) where
  pub nothing_next : slice_get due 0 ≡ None → next_piece model begun core ≡ None
  nothing_next none = next_none model begun due core marks (none_of due none)

  pub something_next : (rank f : ℕ) → slice_get due 0 ≡ Some rank → f ≡ slice_index (model_order model) rank
      → is_rank_below (least_fault_rank model core) rank ≡ true → next_piece model begun core ≡ Some (f, slice_index begun f)
  something_next rank f at is below =
      let first = first_of due rank at in
      let has = has_first model begun due core marks rank first.0 first.1 in
      let same : has.function ≡ f = sym (slice_index-there (model_order model) rank has.function has.at) ∙ sym is in
      let there : slice_get (model_order model) rank ≡ Some f = has.at ∙ ap Some same in
      go first.0 first.1 there (least_fault_rank model core) refl below
    where
      go : (rest : List ℕ) → due ≡ rank ∷ rest → slice_get (model_order model) rank ≡ Some f → (o : Option ℕ) → least_fault_rank model core ≡ o → is_rank_below o rank ≡ true
          → next_piece model begun core ≡ Some (f, slice_index begun f)
      go rest list there None none below = next_first model begun due core marks rank rest list f there none
      go rest list there (Some least) some below = next_below model begun due core marks rank rest list f least there some (ltb-true rank least below)

  pub unwanted_next : (rank : ℕ) → slice_get due 0 ≡ Some rank → is_rank_below (least_fault_rank model core) rank ≡ false → next_piece model begun core ≡ None
  unwanted_next rank at above =
      let first = first_of due rank at in go first.0 first.1 (least_fault_rank model core) refl above
    where
      go : (rest : List ℕ) → due ≡ rank ∷ rest → (o : Option ℕ) → least_fault_rank model core ≡ o → is_rank_below o rank ≡ false → next_piece model begun core ≡ None
      go rest list None none above = absurd (true≢false above)
      go rest list (Some least) some above = next_above model begun due core marks rank rest list least some (ltb-false rank least above)

-- ---- a piece is begun

module _ (going : GoingOn) (ways : Ways) (begun : List ℕ) (short : Bool) (kept : IsKeptFlow going ways begun short) (is : IsTold going.told) (long : short ≡ false)
    (f k : ℕ) (next : let piece : ℕ × ℕ = (f, k) in next_piece going.told.seen.source.model begun going.told.seen.core ≡ Some piece) where
  abbrev model : Model
  model = going.told.seen.source.model

  abbrev core : Core
  core = going.told.seen.core

  pub next_known : Next model begun going.due core (kept.goes long).marks f k
  next_known = next_is model begun going.due core (kept.goes long).marks f k next

  pub next_there : f < length begun
  next_there =
      let found = slice_get-some (works_of (status_of core f)) k next_known.below in
      omega (arith, status_below core f k found.0 found.1, (told_known going.told is).fits.statuses, kept.long)

  pub next_due : 0 < length going.due
  next_due = omega (arith, ap length next_known.due_is)

  pub kept_begun : (last : GoingOn) (next_begun : List ℕ) (many : ℕ)
      → last.told ≡ going.told → last.over.items ≡ going.over.items
      → next_begun ≡ slice_set begun f (k + 1)
      → many ≡ length (works_of (status_of core f))
      → last.due ≡ cond (k + 1 == many) (drop 1 going.due) going.due
      → IsKeptFlow last ways next_begun short
  kept_begun last next_begun many told over marked all due =
      let goes = kept.goes long in
      let n = length (works_of (status_of core f)) in
      let next = next_known in
      let is_due : last.due ≡ cond (k + 1 == n) next.rest going.due =
      due ∙ (λ i. cond (k + 1 == all i) (drop 1 (next.due_is i)) going.due) in
      let marks = marks_begun model begun going.due core f k next.rank next.rest goes.marks next.due_is next.at next.piece next.below next_there in
      record {
        ways_are = subst (λ (t : ToldCore). IsWaysOf t.seen.source.model ways) (sym told) kept.ways_are;
        long =
            ap length marked ∙ length-set begun f (k + 1) ∙ kept.long
            ∙ sym (ap (λ (t : ToldCore). function_count t.seen.source.model) told);
        over = λ _. over ∙ kept.over long;
        goes = λ _. subst (λ (t : ToldCore). GoesOn t.seen.source.model next_begun [] [] (record { core = t.seen.core; due = last.due; over = last.over.items })) (sym told)
            (record {
              left = subst (λ (o : List ℕ). AreLeft model o [] [] core) (sym over) goes.left;
              whole = goes.whole;
              marks = subst (λ (b : List ℕ). AreMarksOf model b last.due core) (sym marked)
                  (subst (λ (d : List ℕ). AreMarksOf model (slice_set begun f (k + 1)) d core) (sym is_due) marks);
            });
      }

-- ---- what came, came legally

pub legal_more : (told last : ToldCore) (more : List Event) → IsTold told → IsTold last → last ≡ told_on more told
    → are_legal (round_in told.seen) told.seen.pieces told.seen.core more ≡ true
legal_more told last more is last_is left =
    let round = round_in told.seen in
    let all : are_legal round told.seen.pieces (start_in told.seen) (told.history ++ more) ≡ true =
    (λ i. are_legal (round_in (sym left i).seen) (sym left i).seen.pieces (start_in (sym left i).seen) (sym left i).history) ∙ last_is.leads.legal in
    ap (λ c. are_legal round told.seen.pieces c more) is.leads.left
    ∙ (legal-parts round told.seen.pieces (start_in told.seen) told.history more all).1

pub settled_all : (told last : ToldCore) (share : Share) → (settled : SettledWhole share told last)
    → last ≡ told_on (settling_events told.seen.source.model (piece_of share).function (piece_of share).number settled.whole.can.work ++ settled.on.more) told
settled_all told last share settled =
    settled.on.left ∙ ap (told_on settled.on.more) settled.whole.left
    ∙ told_again (settling_events told.seen.source.model (piece_of share).function (piece_of share).number settled.whole.can.work) settled.on.more told

-- ---- shares that are due

abbrev round_at : Start → Round
round_at start = round_of start.source start.world start.iteration start.fuel

pub due_absorbs : MessagesDiffer → (told : ToldCore) (share : Share) → IsTold told → IsAccepted told.seen.source → ArePiecesWhole told.seen.source.model told.seen.core
    → IsDueShare (start_of told.seen) share
    → is_legal told.seen.source.model told.seen.core (event.Agent (piece_of share).function (piece_of share).number) ≡ true
    → CanAbsorb told.seen share
due_absorbs differ told share is accepted whole due legal =
    let f = (piece_of share).function in
    let k = (piece_of share).number in
    let seen = told.seen in
    let round = round_in seen in
    let other = due.due.seen in
    let found = runs seen.core f k legal in
    let begun = due.due.is in
    let leads : Leads round seen.pieces (opening_core seen.source.model seen.world.agents) due.due.reached.events other.core =
    subst (λ (s : Start). Leads (round_at s) s.pieces (opening_core s.source.model s.world.agents) due.due.reached.events other.core) due.due.started due.due.reached.leads in
    let one : HaveOneBeginning round seen.pieces seen.pieces seen.core other.core = record {
      accepted = accepted;
      agents = seen.world.agents;
      has_bags = sym ((sym (AllZip-long _ seen.source.model.agents seen.world.agents is.fits.agents)));
      some = is.some;
      events = told.history;
      leads = is.leads;
      other_some = is.some;
      other_events = due.due.reached.events;
      other_leads = leads;
    } in
    let known = told_known told is in
    let agree = pieces_agree differ round seen.pieces f k found.work begun.work seen.core other.core one found.there begun.there in
    let source : other.source ≡ seen.source = ap (λ (s : Start). s.source) due.due.started in
    let boards = boards_same differ round seen.pieces f k seen.core other.core found.work begun.work one known.led
    (record { agents = seen.world.agents; events = due.due.reached.events; leads = leads }) found.there begun.there in
    record {
      work = found.work;
      there = found.there;
      agents = begun.agents ∙ sym agree;
      new = unrun_left round seen.pieces seen.core known.led whole f k found.work found.there found.left;
      setting = record {
        source = due.source;
        constants = due.constants;
        boards = due.due.read ∙ ap (λ (s : Source). boards_named (slice_get (functions s.model) f) s.model other.core.field.boards) source ∙ sym boards;
        iteration = due.iteration;
        fuel = due.fuel;
      };
    }

-- what can be absorbed has an agent that may run
pub absorbs_legal : (told : ToldCore) (share : Share) → IsTold told → ArePiecesWhole told.seen.source.model told.seen.core → CanAbsorb told.seen share
    → is_legal told.seen.source.model told.seen.core (event.Agent (piece_of share).function (piece_of share).number) ≡ true
absorbs_legal told share is whole can =
    ap may_run can.there
    ∙ left_unrun (round_in told.seen) told.seen.pieces told.seen.core (told_known told is).led whole (piece_of share).function (piece_of share).number can.work can.there can.new
