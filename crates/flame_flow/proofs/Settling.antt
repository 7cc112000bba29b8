-- What comes of a piece whose agents all run and which hands in all its messages.
use Rattle.std.proofs.Common.{◌≡◌, ℕ, zero, suc, ◌<◌, Bool, true, false, List, [], ◌∷◌, length, map, replicate, Some, None, refl, sym, ap, ◌∙◌, arith, subst}
use Rattle.std.specs.Prelude.{◌==◌, not, is_some, is_none, slice_index}
use Rattle.std.specs.List.{list_all, position_or_len}
use Rattle.std.proofs.lemmas.Bool.{and_from, and_parts, le-ltb, false≢true}
use Rattle.flame_rows.proofs.Lists.{slice_index_or-map_one, slice_get-some}
use Rattle.flame_meaning.specs.RangeLaws.{Each}
use Rattle.flame_meaning.proofs.Eachs.{each_at}
use Rattle.flame_spec.specs.Accepted.{IsAccepted}
use Rattle.flame_spec.specs.Below.{is_in}
use Rattle.flame_spec.specs.Functions.{functions}
use Rattle.flame_world.specs.Iterations.{Round, outcome_in}
use Rattle.flame_world.specs.AgentRuns.{sent_from}
use Rattle.flame_events.specs.declared.events.Event.{Event}
use Rattle.flame_events.specs.declared.events.Event.TheVariants as event
use Rattle.flame_events.specs.AbsorbedPieces.{agent_events, with_agents, ran_agents}
use Rattle.flame_events.specs.CoreStates.{Work, has_left, part_in, works_of, Core, status_of, work_of}
use Rattle.flame_events.specs.EventSteps.{fresh_work, with_sent, after, replay, are_legal}
use Rattle.flame_events.specs.HandedPieces.{hand_in_events, all_handed_in}
use Rattle.flame_events.specs.LegalEvents.{outputs_of, is_over, is_legal}
use Rattle.flame_events.proofs.Serial.{is_in-self}
use Rattle.flame_events.proofs.Works.{length-with_sent}
use Rattle.flame_events.proofs.Absorbing.{agents_run_at_once}
use Rattle.flame_events.proofs.CoreWidths.{status_below}
use Rattle.flame_events.proofs.HandedTogether.{parts_are_handed_in_at_once}
use Rattle.flame_events.proofs.KeptCores.{KeptWork, kept_core}
use Rattle.flame_orders.proofs.Gatherings.{all_sent}
use Rattle.flame_orders.proofs.OnceOutputs.{outputs_once}
use Rattle.flame_flow.specs.QuietCores.{ArePiecesWhole, AreLeft, IsQuiet}
use Rattle.flame_flow.specs.BegunPieces.{AreMarksOf}
use Rattle.flame_flow.specs.Goings.{GoesOn}
use Rattle.flame_flow.proofs.Left.{IsOfPieceOf, left_more, left_pieces, quiet_left}
use Rattle.flame_flow.proofs.Marked.{PieceBecame, piece_became, became_again, whole_became, marks_became}
use Rattle.flame_flow.proofs.GoneOn.{Known, known_after}

-- events of the model lead on
pub known_replay : (round : Round) (pieces : ℕ) (core : Core) (events : List Event) → Known round pieces core → are_legal round pieces core events ≡ true
    → Known round pieces (replay round pieces core events)
known_replay round pieces core [] known legal = known
known_replay round pieces core (e ∷ events) known legal =
    let next = after round pieces core e in
    let both = and_parts (is_legal round.source.model core e) (are_legal round pieces next events) legal in
    known_replay round pieces next events (known_after round pieces core e known both.0) both.1

of_agents : (f k n : ℕ) → Each (IsOfPieceOf f) (replicate n (event.Agent f k))
of_agents f k zero = tt
of_agents f k (suc n) = (refl, of_agents f k n)

of_hands : (f k : ℕ) (outs : List ℕ) → Each (IsOfPieceOf f) (hand_in_events outs f k)
of_hands f k [] = tt
of_hands f k (m ∷ outs) = (refl, of_hands f k outs)

all_pass : (test : ℕ → Bool) (numbers : List ℕ) → ((n : ℕ) → test n ≡ true) → list_all test numbers ≡ true
all_pass test [] passes = refl
all_pass test (n ∷ numbers) passes = and_from (test n) (list_all test numbers) (passes n) (all_pass test numbers passes)

-- all agents of the piece ran, and everything is handed in
record Done (outs : List ℕ) (work : Work) : Type 0 where
  pub ran : work.ran ≡ length work.agents
  pub parts : work.parts ≡ map (λ (output : ℕ). None) outs

done_over : (outs : List ℕ) (work : Work) → Done outs work → is_over outs work ≡ true
done_over outs work done = and_from (not (has_left work)) (list_all (λ m. is_none (part_in outs work.parts m)) outs)
    (ap not (le-ltb work.ran (length work.agents) (omega (arith, done.ran))))
    (all_pass (λ m. is_none (part_in outs work.parts m)) outs
    (λ m. ap (λ parts. is_none (part_in outs parts m)) done.parts ∙ ap is_none (slice_index_or-map_one None outs (position_or_len (λ output. output == m) outs))))

module _ (round : Round) (pieces : ℕ) (core : Core) (f k : ℕ) (work : Work) where
  abbrev outs : List ℕ
  outs = outputs_of round.source.model f

  abbrev mid : Core
  mid = replay round pieces core (agent_events f k work)

  abbrev last : Core
  last = replay round pieces mid (hand_in_events outs f k)

  -- its events are legal, and leave it over
  pub record Settling : Type 0 where
    pub agents_legal : are_legal round pieces core (agent_events f k work) ≡ true
    pub hands_legal : are_legal round pieces mid (hand_in_events outs f k) ≡ true
    pub known : Known round pieces last
    pub done : Work
    pub became : PieceBecame core last f k done
    pub over : is_over outs done ≡ true
    pub left : AreLeft round.source.model [] [] [] core → AreLeft round.source.model (f ∷ []) [] [] last

  pub settling : IsAccepted round.source → Known round pieces core → work_of core f k ≡ Some work → work.ran ≡ 0 → Settling
  settling accepted known there none =
      let model = round.source.model in
      let kept_cores = kept_core round pieces core known.led in
      let place = slice_get-some (functions model) f (omega (arith, status_below core f k work there, kept_cores.long)) in
      let kept = each_at (KeptWork outs) (works_of (status_of core f)) k work (kept_cores.works f).each there in
      let ran = agents_run_at_once round pieces f k place.0 work core place.1 there none kept.some in
      let one : Work = with_agents round f work core in
      let at_mid : Core = ran_agents round f k place.0 work core in
      let first : PieceBecame core at_mid f k one = piece_became core at_mid f k work one there refl in
      let fresh : work ≡ fresh_work outs work.agents = kept.fresh none in
      let sent = sent_from (outcome_in round f core.field) work.agents in
      let long : length one.parts ≡ length outs = length-with_sent outs sent work.parts kept.long in
      let all : list_all is_some one.parts ≡ true =
      ap (λ (w : Work). list_all is_some (with_sent outs sent w.parts)) fresh ∙ all_sent outs outs sent refl in
      let over : has_left one ≡ false = le-ltb (length work.agents) (length work.agents) (omega arith) in
      let handed = parts_are_handed_in_at_once round pieces f k one at_mid first.there over long all (outputs_once round.source accepted f) in
      let two : Work = record one { parts = map (λ output. None) outs } in
      let at_last : Core = all_handed_in outs f k one at_mid in
      let second : PieceBecame at_mid at_last f k two = piece_became at_mid at_last f k one two first.there refl in
      let is_last : last ≡ at_last = ap (λ c. replay round pieces c (hand_in_events outs f k)) ran.1 ∙ handed.1 in
      let hands : are_legal round pieces mid (hand_in_events outs f k) ≡ true = ap (λ c. are_legal round pieces c (hand_in_events outs f k)) ran.1 ∙ handed.0 in
      let known_mid = known_replay round pieces core (agent_events f k work) known ran.0 in
      record {
        agents_legal = ran.0;
        hands_legal = hands;
        known = known_replay round pieces mid (hand_in_events outs f k) known_mid hands;
        done = two;
        became = subst (λ c. PieceBecame core c f k two) (sym is_last) (became_again core at_mid at_last f k one two first second);
        over = done_over outs two (record { ran = refl; parts = refl });
        left = λ none_left.
            left_pieces round pieces mid (hand_in_events outs f k) f (f ∷ []) [] [] known_mid.led hands (of_hands f k outs) (self f)
            (left_pieces round pieces core (agent_events f k work) f (f ∷ []) [] [] known.led ran.0 (of_agents f k (length work.agents)) (self f)
            (left_more model core [] [] [] (f ∷ []) [] [] (λ n is. absurd (false≢true is)) (λ n is. is) (λ n is. is) none_left));
      }
    where
      self : (f : ℕ) → is_in f (f ∷ []) ≡ true
      self f = is_in-self f []

  -- so a flow goes on with its function, which may be over
  pub settling_goes : (begun due : List ℕ) → Settling → IsQuiet round.source.model core → ArePiecesWhole round.source.model core → AreMarksOf round.source.model begun due core
      → k < slice_index begun f
      → GoesOn round.source.model begun [] [] (record { core = last; due = due; over = f ∷ [] })
  settling_goes begun due settled quiet whole marks was = record {
    left = settled.left (quiet_left round.source.model core quiet);
    whole = whole_became round.source.model core last f k settled.done settled.became settled.over whole;
    marks = marks_became round.source.model core last begun due f k settled.done settled.became was marks;
  }
