-- A whole function runs.
use Rattle.std.proofs.Common.{◌≡◌, ℕ, ◌+◌, ◌<◌, Bool, true, false, List, [], ◌∷◌, ◌++◌, length, map, Option, Some, None, refl, sym, ap, ◌∙◌, arith, subst, append-nil, append_assoc, set-set, get_or-set_same}
use Rattle.std.specs.Prelude.{not, is_some, is_none, slice_get, slice_set}
use Rattle.std.specs.Option.{option_or}
use Rattle.std.specs.List.{list_all, filter_map}
use Rattle.std.proofs.lemmas.Bool.{and_from, le-ltb}
use Rattle.std.proofs.lemmas.List.{length-map, length_push}
use Rattle.flame_rows.proofs.Lists.{slice_index_or-map_one, slice_get-behind, slice_set-read}
use Rattle.flame_rows.specs.Cuts.{cut}
use Rattle.flame_spec.specs.declared.outcomes.Outcome.{Outcome}
use Rattle.flame_spec.specs.Below.{is_in, HasNoTwice}
use Rattle.flame_spec.specs.Functions.{Place, functions}
use Rattle.flame_spec.proofs.Numbered.{first-cons_option}
use Rattle.flame_meaning.specs.RangeLaws.{Each}
use Rattle.flame_spec_laws.specs.NameLaws.{MessagesDiffer}
use Rattle.flame_world.specs.declared.faults.SimFault.{SimFault}
use Rattle.flame_world.specs.AgentRuns.{sent_from, least_fault, messages_of}
use Rattle.flame_world.specs.Fields.{Field, joined}
use Rattle.flame_world.specs.Iterations.{Round, taking, outcome_in, moved}
use Rattle.flame_world.proofs.Changing.{joined_from-none}
use Rattle.flame_world.proofs.Eachs.{mapped, each_both}
use Rattle.flame_events.specs.declared.events.Event.TheVariants as event
use Rattle.flame_events.specs.AbsorbedPieces.{agent_events, with_agents, ran_agents}
use Rattle.flame_events.specs.CoreLaws.{EventsLeadTo}
use Rattle.flame_events.specs.CoreStates.{Work, Waiting, Open, works_of, has_left, part_in, fault_in, Core, status_of, work_of}
use Rattle.flame_events.specs.EventSteps.{fresh_work, opened, with_sent, with_work, done_with, after, are_legal}
use Rattle.flame_events.specs.HandedPieces.{hand_in_events, with_parts, all_handed_in}
use Rattle.flame_events.specs.Histories.{Leads}
use Rattle.flame_events.specs.LegalEvents.{outputs_of, is_over, may_shut, is_legal}
use Rattle.flame_events.proofs.Weights.{Row, Rows}
use Rattle.flame_events.proofs.Holding.{Ideal}
use Rattle.flame_events.proofs.Works.{length-with_sent, least_fault-append, cut_whole}
use Rattle.flame_events.proofs.Sound.{can_open}
use Rattle.flame_events.proofs.Absorbing.{agents_run_at_once}
use Rattle.flame_events.proofs.Growing.{histories_grow}
use Rattle.flame_events.proofs.HandedTogether.{parts_are_handed_in_at_once}
use Rattle.flame_events.proofs.KeptCores.{KeptWork, kept_core, open_there}
use Rattle.flame_orders.specs.WholeFunctions.{all_agent_events, all_hand_in_events, function_events, agents_in_pieces, left_by, done_by, WholeFunctionsRun, OpenedPiecesAreTakers, OpenedFunctionsMove}
use Rattle.flame_orders.proofs.Gatherings.{came, came_twice, nobody_came, joined_more, fresh_parts, all_sent, parts_join, set_behind}
use Rattle.flame_orders.proofs.Lasting.{led_on}
use Rattle.flame_orders.proofs.OnceOutputs.{outputs_once}
use Rattle.flame_orders.proofs.SentOutputs.{sends_to_outputs}
use Rattle.flame_orders.proofs.SortedFields.{IsSorted, joined_sorted, sorted_core}

-- a piece of which no agent ran, and that has agents
pub record IsReady (outs : List ℕ) (work : Work) : Type 0 where
  pub none : work.ran ≡ 0
  pub some : 0 < length work.agents
  pub fresh : work ≡ fresh_work outs work.agents

module _ (round : Round) (pieces f : ℕ) (place : Place) (there : slice_get (functions round.source.model) f ≡ Some place) (core : Core) (less : f < length core.statuses) where
  abbrev outs : List ℕ
  outs = outputs_of round.source.model f

  abbrev run : Row → Outcome
  run = outcome_in round f core.field

  -- the function has these pieces, and this is the field
  abbrev stage : List Work → Field → Core
  stage works field = record { statuses = slice_set core.statuses f (Open works); field = field; frozen = core.frozen }

  works_in : (works : List Work) (field : Field) → works_of (status_of (stage works field) f) ≡ works
  works_in works field = ap works_of (get_or-set_same core.statuses f (Open works) Waiting less)

  work_at : (before : List Work) (work : Work) (rest : List Work) (field : Field) → work_of (stage (before ++ work ∷ rest) field) f (length before) ≡ Some work
  work_at before work rest field = ap (λ l. slice_get l (length before)) (works_in (before ++ work ∷ rest) field) ∙ slice_get-behind before work rest

  put_at : (before : List Work) (work new : Work) (rest : List Work) (field : Field)
      → with_work (stage (before ++ work ∷ rest) field) f (length before) new ≡ slice_set core.statuses f (Open (before ++ new ∷ rest))
  put_at before work new rest field =
      let works = before ++ work ∷ rest in
      ap (λ l. slice_set (slice_set core.statuses f (Open works)) f (Open (slice_set l (length before) new))) (works_in works field)
      ∙ set-set core.statuses f (Open works) (Open (slice_set works (length before) new))
      ∙ ap (λ l. slice_set core.statuses f (Open l)) (set_behind before work new rest)

  -- ---- all agents run

  abbrev ran : Work → Work
  ran work = with_agents round f work core

  abbrev with_rows : Rows → Field
  with_rows rows = came place run rows core.field

  one_ran : (before : List Work) (work : Work) (rest : List Work) (rows : Rows) → IsReady outs work
      → Leads round pieces (stage (before ++ work ∷ rest) (with_rows rows)) (agent_events f (length before) work) (stage (before ++ ran work ∷ rest) (with_rows (rows ++ work.agents)))
  one_ran before work rest rows ready =
      let start = stage (before ++ work ∷ rest) (with_rows rows) in
      let all = agents_run_at_once round pieces f (length before) place work start there (work_at before work rest (with_rows rows)) ready.none ready.some in
      let statuses = put_at before work (ran work) rest (with_rows rows) in
      let field = came_twice place run rows work.agents core.field in
      let is : ran_agents round f (length before) place work start ≡ stage (before ++ ran work ∷ rest) (with_rows (rows ++ work.agents)) =
      λ i. record { statuses = statuses i; field = field i; frozen = core.frozen } in
      record { legal = all.0; left = sym (all.1 ∙ is) }

  all_ran : (before works : List Work) (rows : Rows) → Each (IsReady outs) works
      → Leads round pieces (stage (before ++ works) (with_rows rows)) (all_agent_events f (length before) works) (stage (before ++ map ran works) (with_rows (rows ++ agents_in_pieces works)))
  all_ran before [] rows ready = record { legal = refl; left = ap (λ l. stage (before ++ []) (with_rows l)) (append-nil rows) }
  all_ran before (work ∷ works) rows ready =
      let more = all_ran (before ++ ran work ∷ []) works (rows ++ work.agents) ready.1 in
      let from : (before ++ ran work ∷ []) ++ works ≡ before ++ ran work ∷ works = append_assoc before (ran work ∷ []) works in
      let to : (before ++ ran work ∷ []) ++ map ran works ≡ before ++ ran work ∷ map ran works = append_assoc before (ran work ∷ []) (map ran works) in
      let number : length (before ++ ran work ∷ []) ≡ length before + 1 = length_push before (ran work) in
      let whole : (rows ++ work.agents) ++ agents_in_pieces works ≡ rows ++ (work.agents ++ agents_in_pieces works) = append_assoc rows work.agents (agents_in_pieces works) in
      let rest : Leads round pieces (stage (before ++ ran work ∷ works) (with_rows (rows ++ work.agents))) (all_agent_events f (length before + 1) works)
      (stage (before ++ ran work ∷ map ran works) (with_rows (rows ++ agents_in_pieces (work ∷ works)))) =
      subst (λ l. Leads round pieces (stage l (with_rows (rows ++ work.agents))) (all_agent_events f (length before + 1) works)
      (stage (before ++ ran work ∷ map ran works) (with_rows (rows ++ agents_in_pieces (work ∷ works))))) from
      (subst (λ n. Leads round pieces (stage ((before ++ ran work ∷ []) ++ works) (with_rows (rows ++ work.agents))) (all_agent_events f n works)
      (stage (before ++ ran work ∷ map ran works) (with_rows (rows ++ agents_in_pieces (work ∷ works))))) number
      (subst (λ c. Leads round pieces (stage ((before ++ ran work ∷ []) ++ works) (with_rows (rows ++ work.agents))) (all_agent_events f (length (before ++ ran work ∷ [])) works) c)
      (λ i. stage (to i) (with_rows (whole i))) more)) in
      histories_grow round pieces (stage (before ++ work ∷ works) (with_rows rows)) (stage (before ++ ran work ∷ works) (with_rows (rows ++ work.agents)))
      (stage (before ++ ran work ∷ map ran works) (with_rows (rows ++ agents_in_pieces (work ∷ works))))
      (agent_events f (length before) work) (all_agent_events f (length before + 1) works)
      (one_ran before work works rows ready.0) rest

  -- ---- all messages are handed in

  abbrev over : Work → Work
  over work = record (ran work) { parts = map (λ output. None) outs }

  -- all agents ran, and those of these rows handed in what they sent
  abbrev with_sent_of : Rows → Rows → Field
  with_sent_of all rows = record {
    pools = (with_rows all).pools;
    born = (with_rows all).born;
    boards = joined (messages_of (sent_from run rows)) core.field.boards;
  }

  module _ (all : Rows) (once : HasNoTwice outs) (none : (rows : Rows) (m : ℕ) → is_in m outs ≡ false → messages_of (sent_from run rows) m ≡ []) where
    ran_parts : (work : Work) → IsReady outs work → (ran work).parts ≡ with_sent outs (sent_from run work.agents) (fresh_parts outs)
    ran_parts work ready = ap (λ (w : Work). with_sent outs (sent_from run work.agents) w.parts) ready.fresh

    one_handed : (before : List Work) (work : Work) (rest : List Work) (rows : Rows) → IsReady outs work
        → Leads round pieces (stage (before ++ ran work ∷ rest) (with_sent_of all rows)) (hand_in_events outs f (length before))
        (stage (before ++ over work ∷ rest) (with_sent_of all (rows ++ work.agents)))
    one_handed before work rest rows ready =
        let start = stage (before ++ ran work ∷ rest) (with_sent_of all rows) in
        let parts = ran_parts work ready in
        let messages = sent_from run work.agents in
        let long : length (ran work).parts ≡ length outs = ap length parts ∙ length-with_sent outs messages (fresh_parts outs) (length-map outs (λ (output : ℕ). Some [])) in
        let every = parts_are_handed_in_at_once round pieces f (length before) (ran work) start (work_at before (ran work) rest (with_sent_of all rows))
        (le-ltb (length work.agents) (length work.agents) (omega arith)) long (ap (list_all is_some) parts ∙ all_sent outs outs messages refl) once in
        let statuses = put_at before (ran work) (over work) rest (with_sent_of all rows) in
        let boards : with_parts outs (ran work).parts 0 (joined (messages_of (sent_from run rows)) core.field.boards) ≡ joined (messages_of (sent_from run (rows ++ work.agents))) core.field.boards =
        ap (λ l. with_parts outs l 0 (joined (messages_of (sent_from run rows)) core.field.boards)) parts
        ∙ parts_join outs messages (none work.agents) (joined (messages_of (sent_from run rows)) core.field.boards) (joined_sorted 0 (messages_of (sent_from run rows)) core.field.boards)
        ∙ joined_more place run rows work.agents core.field.boards in
        let is : all_handed_in outs f (length before) (ran work) start ≡ stage (before ++ over work ∷ rest) (with_sent_of all (rows ++ work.agents)) =
        λ i. record {
          statuses = statuses i;
          field = record { pools = (with_rows all).pools; born = (with_rows all).born; boards = boards i };
          frozen = core.frozen;
        } in
        record { legal = every.0; left = sym (every.1 ∙ is) }

    all_handed : (before works : List Work) (rows : Rows) → Each (IsReady outs) works
        → Leads round pieces (stage (before ++ map ran works) (with_sent_of all rows)) (all_hand_in_events outs f (length before) works)
        (stage (before ++ map over works) (with_sent_of all (rows ++ agents_in_pieces works)))
    all_handed before [] rows ready = record { legal = refl; left = ap (λ l. stage (before ++ []) (with_sent_of all l)) (append-nil rows) }
    all_handed before (work ∷ works) rows ready =
        let more = all_handed (before ++ over work ∷ []) works (rows ++ work.agents) ready.1 in
        let from : (before ++ over work ∷ []) ++ map ran works ≡ before ++ over work ∷ map ran works = append_assoc before (over work ∷ []) (map ran works) in
        let to : (before ++ over work ∷ []) ++ map over works ≡ before ++ over work ∷ map over works = append_assoc before (over work ∷ []) (map over works) in
        let number : length (before ++ over work ∷ []) ≡ length before + 1 = length_push before (over work) in
        let whole : (rows ++ work.agents) ++ agents_in_pieces works ≡ rows ++ (work.agents ++ agents_in_pieces works) = append_assoc rows work.agents (agents_in_pieces works) in
        let rest : Leads round pieces (stage (before ++ over work ∷ map ran works) (with_sent_of all (rows ++ work.agents))) (all_hand_in_events outs f (length before + 1) works)
        (stage (before ++ over work ∷ map over works) (with_sent_of all (rows ++ agents_in_pieces (work ∷ works)))) =
        subst (λ l. Leads round pieces (stage l (with_sent_of all (rows ++ work.agents))) (all_hand_in_events outs f (length before + 1) works)
        (stage (before ++ over work ∷ map over works) (with_sent_of all (rows ++ agents_in_pieces (work ∷ works))))) from
        (subst (λ n. Leads round pieces (stage ((before ++ over work ∷ []) ++ map ran works) (with_sent_of all (rows ++ work.agents))) (all_hand_in_events outs f n works)
        (stage (before ++ over work ∷ map over works) (with_sent_of all (rows ++ agents_in_pieces (work ∷ works))))) number
        (subst (λ c. Leads round pieces (stage ((before ++ over work ∷ []) ++ map ran works) (with_sent_of all (rows ++ work.agents))) (all_hand_in_events outs f (length (before ++ over work ∷ [])) works) c)
        (λ i. stage (to i) (with_sent_of all (whole i))) more)) in
        histories_grow round pieces (stage (before ++ ran work ∷ map ran works) (with_sent_of all rows)) (stage (before ++ over work ∷ map ran works) (with_sent_of all (rows ++ work.agents)))
        (stage (before ++ over work ∷ map over works) (with_sent_of all (rows ++ agents_in_pieces (work ∷ works))))
        (hand_in_events outs f (length before)) (all_hand_in_events outs f (length before + 1) works)
        (one_handed before work (map ran works) rows ready.0) rest

  -- ---- it is shut

  each_of : (test : ℕ → Bool) (numbers : List ℕ) → ((n : ℕ) → test n ≡ true) → list_all test numbers ≡ true
  each_of test [] all = refl
  each_of test (n ∷ numbers) all = and_from (test n) (list_all test numbers) (all n) (each_of test numbers all)

  is_over_now : (work : Work) → is_over outs (over work) ≡ true
  is_over_now work =
      and_from (not (has_left (over work))) (list_all (λ m. is_none (part_in outs (over work).parts m)) outs)
      (ap not (le-ltb (length work.agents) (length work.agents) (omega arith)))
      (each_of (λ m. is_none (part_in outs (over work).parts m)) outs (λ m. ap is_none (slice_index_or-map_one None outs _)))

  all_over : (works : List Work) → list_all (is_over outs) (map over works) ≡ true
  all_over [] = refl
  all_over (work ∷ works) = and_from (is_over outs (over work)) (list_all (is_over outs) (map over works)) (is_over_now work) (all_over works)

  faults : (works : List Work) → Each (IsReady outs) works → fault_in (map over works) ≡ least_fault round.iteration f run (agents_in_pieces works)
  faults [] ready = refl
  faults (work ∷ works) ready =
      let t : Ideal = record { agents = λ g. []; run = λ g. run } in
      let here : (over work).fault ≡ least_fault round.iteration f run work.agents = ap (λ (w : Work). option_or w.fault (least_fault round.iteration f run work.agents)) ready.0.fresh in
      let rest = faults works ready.1 in
      first-cons_option (over work).fault (filter_map (λ (w : Work). w.fault) (map over works))
      ∙ (λ i. option_or (here i) (rest i))
      ∙ sym (least_fault-append round t f work.agents (agents_in_pieces works))

  shut_off : (works : List Work) (field : Field) → Each (IsReady outs) works
      → Leads round pieces (stage (map over works) field) (event.Shut f ∷ [])
      (record { statuses = slice_set core.statuses f (done_with (least_fault round.iteration f run (agents_in_pieces works))); field = field; frozen = core.frozen })
  shut_off works field ready =
      let last = map over works in
      let now = stage last field in
      let is : status_of now f ≡ Open last = get_or-set_same core.statuses f (Open last) Waiting less in
      let statuses : slice_set (slice_set core.statuses f (Open last)) f (done_with (fault_in (works_of (status_of now f)))) ≡ slice_set core.statuses f (done_with (least_fault round.iteration f run (agents_in_pieces works))) =
      set-set core.statuses f (Open last) (done_with (fault_in (works_of (status_of now f))))
      ∙ ap (λ s. slice_set core.statuses f (done_with (fault_in (works_of s)))) is
      ∙ ap (λ o. slice_set core.statuses f (done_with o)) (faults works ready) in
      record {
        legal = and_from (may_shut outs (status_of now f)) true (ap (may_shut outs) is ∙ all_over works) refl;
        left = λ i. record { statuses = sym statuses i; field = field; frozen = core.frozen };
      }

  -- ---- all of it

  pub whole_run : (works : List Work) → HasNoTwice outs → ((rows : Rows) (m : ℕ) → is_in m outs ≡ false → messages_of (sent_from run rows) m ≡ [])
      → IsSorted core.field → status_of core f ≡ Open works → Each (IsReady outs) works
      → Leads round pieces core (function_events round.source.model f works) (done_by round f (agents_in_pieces works) (left_by round f place (agents_in_pieces works) core.field) core)
  whole_run works once none sorted is ready =
      let agents = agents_in_pieces works in
      let start : core ≡ stage works (with_rows []) =
      let statuses = slice_set-read core.statuses f (Open works) Waiting less is in
      let field = nobody_came place run core.field sorted in
      λ i. record { statuses = sym statuses i; field = sym field i; frozen = core.frozen } in
      let boards = joined_from-none (λ m. []) 0 core.field.boards (λ m. refl) sorted.boards in
      let middle : stage (map ran works) (with_rows agents) ≡ stage (map ran works) (with_sent_of agents []) =
      λ i. stage (map ran works) (record { pools = (with_rows agents).pools; born = (with_rows agents).born; boards = sym boards i }) in
      let run_all : Leads round pieces core (all_agent_events f 0 works) (stage (map ran works) (with_sent_of agents [])) =
      subst (λ c. Leads round pieces c (all_agent_events f 0 works) (stage (map ran works) (with_sent_of agents []))) (sym start)
      (subst (λ c. Leads round pieces (stage works (with_rows [])) (all_agent_events f 0 works) c) middle (all_ran [] works [] ready)) in
      let last = record (stage (map over works) (with_sent_of agents agents)) {
        statuses = slice_set core.statuses f (done_with (least_fault round.iteration f run agents));
      } in
      histories_grow round pieces core (stage (map ran works) (with_sent_of agents [])) last (all_agent_events f 0 works) (all_hand_in_events outs f 0 works ++ event.Shut f ∷ []) run_all
      (histories_grow round pieces (stage (map ran works) (with_sent_of agents [])) (stage (map over works) (with_sent_of agents agents)) last
      (all_hand_in_events outs f 0 works) (event.Shut f ∷ [])
      (all_handed agents once none [] works [] ready) (shut_off works (with_sent_of agents agents) ready))

-- ---- the laws

pub whole_functions_run : MessagesDiffer → WholeFunctionsRun
whole_functions_run differ round pieces f place works core accepted led there is unran =
    let model = round.source.model in
    let outs = outputs_of model f in
    let kept = kept_core round pieces core led in
    let less = open_there core f works is in
    let sorted = sorted_core round pieces core led in
    let each : Each (KeptWork outs) works = subst (λ s. Each (KeptWork outs) (works_of s)) is (kept.works f).each in
    let ready = each_both (KeptWork outs) (λ (work : Work). work.ran ≡ 0) (IsReady outs)
    (λ work fine none. record { none = none; some = fine.some; fresh = fine.fresh none }) works each unran in
    whole_run round pieces f place there core less works (outputs_once round.source accepted f)
    (λ rows m out. sends_to_outputs differ round f core.field accepted (omega (arith, less, kept.long)) sorted.boards rows m out) sorted is ready

begun_is : (round : Round) (pieces f : ℕ) (place : Place) (core : Core) → EventsLeadTo round pieces core → slice_get (functions round.source.model) f ≡ Some place
    → is_legal round.source.model core (event.Open f) ≡ true
    → status_of (after round pieces core (event.Open f)) f ≡ Open (map (fresh_work (outputs_of round.source.model f)) (cut pieces (taking round f place core.field)))
begun_is round pieces f place core led there legal =
    let model = round.source.model in
    let kept = kept_core round pieces core led in
    let can = can_open model core f legal in
    let works = map (fresh_work (outputs_of model f)) (cut pieces (taking round f place core.field)) in
    ap (λ o. status_of (opened round pieces f o core) f) there
    ∙ get_or-set_same core.statuses f (Open works) Waiting (omega (arith, can.below, kept.long))

pub opened_pieces_are_takers : OpenedPiecesAreTakers
opened_pieces_are_takers round pieces f place core led some there legal =
    let outs = outputs_of round.source.model f in
    let takers = taking round f place core.field in
    let is = begun_is round pieces f place core led there legal in
    let same : works_of (status_of (after round pieces core (event.Open f)) f) ≡ map (fresh_work outs) (cut pieces takers) = ap works_of is in (
      is ∙ ap Open (sym same),
      subst (Each (λ (work : Work). work.ran ≡ 0)) (sym same) (mapped (λ (work : Work). work.ran ≡ 0) (fresh_work outs) (λ bag. refl) (cut pieces takers)),
      ap agents_in_pieces same ∙ cut_whole outs pieces takers some,
    )

pub opened_functions_move : MessagesDiffer → OpenedFunctionsMove
opened_functions_move differ round pieces f place core accepted led some there legal =
    let model = round.source.model in
    let outs = outputs_of model f in
    let takers = taking round f place core.field in
    let works = map (fresh_work outs) (cut pieces takers) in
    let begun : Core = after round pieces core (event.Open f) in
    let left : Core = opened round pieces f (Some place) core in
    let step : begun ≡ left = ap (λ o. opened round pieces f o core) there in
    let is : status_of begun f ≡ Open works = begun_is round pieces f place core led there legal in
    let whole = whole_functions_run differ round pieces f place works begun accepted (led_on round pieces core (event.Open f) led legal) there is
    (mapped (λ (work : Work). work.ran ≡ 0) (fresh_work outs) (λ bag. refl) (cut pieces takers)) in
    let statuses : (o : Option SimFault) → slice_set (slice_set core.statuses f (Open works)) f (done_with o) ≡ slice_set core.statuses f (done_with o) =
    λ o. set-set core.statuses f (Open works) (done_with o) in
    let ends : done_by round f (agents_in_pieces works) (left_by round f place (agents_in_pieces works) begun.field) begun ≡ done_by round f takers (moved round f place core.field) core =
    ap (λ (c : Core). done_by round f (agents_in_pieces works) (left_by round f place (agents_in_pieces works) c.field) c) step
    ∙ ap (λ rows. done_by round f rows (left_by round f place rows left.field) left) (cut_whole outs pieces takers some)
    ∙ (λ i. record { statuses = statuses (least_fault round.iteration f (outcome_in round f core.field) takers) i; field = moved round f place core.field; frozen = core.frozen }) in
    let events : function_events model f works ≡ function_events model f (works_of (status_of begun f)) = ap (λ s. function_events model f (works_of s)) (sym is) in
    let rest = subst (λ l. Leads round pieces begun l (done_by round f takers (moved round f place core.field) core)) events
    (subst (λ c. Leads round pieces begun (function_events model f works) c) ends whole) in
    record {
      legal = and_from (is_legal model core (event.Open f)) (are_legal round pieces begun (function_events model f (works_of (status_of begun f)))) legal rest.legal;
      left = rest.left;
    }
