-- Agents of a piece one after another, and all at once.
use Rattle.std.proofs.Common.{◌≡◌, ℕ, zero, suc, ◌+◌, true, List, [], ◌∷◌, ◌++◌, length, drop, replicate, Option, Some, None, refl, sym, ap, ◌∙◌, arith, append-nil, get_or-set_same, set-set, add-one}
use Rattle.std.specs.Prelude.{slice_get, slice_set, slice_index_or, option_map}
use Rattle.std.specs.Option.{option_or}
use Rattle.std.specs.List.{filter_map, cons_option}
use Rattle.std.proofs.lemmas.Bool.{and_from, lt-ltb}
use Rattle.std.proofs.lemmas.List.Elements.{filter_map-append}
use Rattle.std.proofs.lemmas.Option.{slice_get_within}
use Rattle.flame_rows.specs.Bags.{ascending, merge}
use Rattle.flame_rows.proofs.BagLaws.{weigh-append, weigh-ascending, merge_adds_weights, equal_by_weighings, IsAscending-merge}
use Rattle.flame_rows.proofs.Merging.{merge-append}
use Rattle.flame_rows.proofs.Lists.{slice_get-slice_set}
use Rattle.flame_rows.proofs.Truths.{option_or-option_or}
use Rattle.flame_spec.specs.declared.outcomes.Outcome.{Outcome}
use Rattle.flame_spec.specs.declared.outcomes.Sent.{Sent}
use Rattle.flame_spec.specs.Functions.{Place, functions}
use Rattle.flame_spec.specs.Lists.{first}
use Rattle.flame_world.specs.declared.faults.SimFault.{SimFault}
use Rattle.flame_world.specs.AgentRuns.{kept, sent_by, born_by, survivors, sent_from, born_from, fault_by, least_fault, messages_of, births_of}
use Rattle.flame_spec.specs.States.{state_place}
use Rattle.flame_spec.proofs.Numbered.{first-cons_option}
use Rattle.flame_world.specs.Fields.{Field, changed, changed_pool, joined_from, joined}
use Rattle.flame_world.specs.Iterations.{Round, outcome_in}
use Rattle.flame_world.proofs.JoinedBags.{births_of-append}
use Rattle.flame_events.specs.declared.events.Event.TheVariants as event
use Rattle.flame_events.specs.CoreStates.{Work, Waiting, Open, works_of, Core, status_of, work_of}
use Rattle.flame_events.specs.LegalEvents.{outputs_of, may_run, is_legal}
use Rattle.flame_events.specs.EventSteps.{with_sent, with_agent, with_work, ran_agent, ran_next, after, replay, are_legal}
use Rattle.flame_events.specs.AbsorbedPieces.{agent_events, with_agents, ran_agents, AgentsRunAtOnce}
use Rattle.flame_events.proofs.Weights.{Row, Rows}
use Rattle.flame_events.proofs.Holding.{messages_of-append}
use Rattle.flame_events.proofs.CoreWidths.{status_below}

-- ---- twice

pub merge-merge_ascending : (pool one other : Rows) → merge (merge pool (ascending one)) (ascending other) ≡ merge pool (ascending (one ++ other))
merge-merge_ascending pool one other =
    equal_by_weighings (merge (merge pool (ascending one)) (ascending other)) (merge pool (ascending (one ++ other)))
    (IsAscending-merge (merge pool (ascending one)) (ascending other)) (IsAscending-merge pool (ascending (one ++ other)))
    (λ w. omega (
      arith,
      merge_adds_weights w (merge pool (ascending one)) (ascending other),
      merge_adds_weights w pool (ascending one),
      merge_adds_weights w pool (ascending (one ++ other)),
      weigh-ascending w one,
      weigh-ascending w other,
      weigh-ascending w (one ++ other),
      weigh-append w one other,
    ))

pub changed-changed : {X : Type 0} (place : ℕ) (one other both : X → X) → ((x : X) → other (one x) ≡ both x) → (xs : List X) → changed place other (changed place one xs) ≡ changed place both xs
changed-changed place one other both same [] = refl
changed-changed zero one other both same (x ∷ xs) = ap (λ y. y ∷ xs) (same x)
changed-changed (suc place) one other both same (x ∷ xs) = ap (λ ys. x ∷ ys) (changed-changed place one other both same xs)

joined_twice : (i : ℕ) (one other both : ℕ → Rows) → ((k : ℕ) → one k ++ other k ≡ both k) → (bags : List Rows) → joined_from i other (joined_from i one bags) ≡ joined_from i both bags
joined_twice i one other both same [] = refl
joined_twice i one other both same (bag ∷ bags) =
    let here = merge-append bag (one i) (other i) ∙ ap (merge bag) (same i) in
    let rest = joined_twice (i + 1) one other both same bags in
    λ j. here j ∷ rest j

sent_twice : (outs : List ℕ) (one other : List Sent) (parts : List (Option Rows)) → with_sent outs other (with_sent outs one parts) ≡ with_sent outs (one ++ other) parts
sent_twice [] one other parts = refl
sent_twice (output ∷ outs) one other [] = refl
sent_twice (output ∷ outs) one other (part ∷ parts) =
    let here = by part in let rest = sent_twice outs one other parts in λ j. here j ∷ rest j
  where
    by : (part : Option Rows)
        → option_map (λ rows. merge rows (messages_of other output)) (option_map (λ rows. merge rows (messages_of one output)) part)
        ≡ option_map (λ rows. merge rows (messages_of (one ++ other) output)) part
    by None = refl
    by (Some rows) = ap Some (merge-append rows (messages_of one output) (messages_of other output) ∙ ap (merge rows) (sym (messages_of-append output one other)))

-- ---- some agents of a piece, all at once

module _ (round : Round) (f k : ℕ) (place : Place) (run : Row → Outcome) where
  abbrev outs : List ℕ
  outs = outputs_of round.source.model f

  abbrev worked : Work → Rows → Work
  worked work rows = record work {
    ran = work.ran + length rows;
    parts = with_sent outs (sent_from run rows) work.parts;
    fault = option_or work.fault (least_fault round.iteration f run rows);
  }

  abbrev came : Field → Rows → Field
  came field rows = record field {
    pools = changed_pool place.agent (state_place place.type place.function.next) (λ pool. merge pool (survivors run rows)) field.pools;
    born = joined (births_of (born_from run rows)) field.born;
  }

  abbrev all_at_once : Core → Work → Rows → Core
  all_at_once core work rows = record { statuses = with_work core f k (worked work rows); field = came core.field rows; frozen = core.frozen }

  one_worked : (work : Work) (memory : Row) → with_agent round f work memory (run memory) ≡ worked work (memory ∷ [])
  one_worked work memory =
      let parts = ap (λ l. with_sent outs l work.parts) (sym (append-nil (sent_by (run memory)))) in
      let fault = ap (option_or work.fault) (single (fault_by round.iteration f memory (run memory))) in
      λ i. record { agents = work.agents; ran = work.ran + 1; parts = parts i; fault = fault i }
    where
      single : (o : Option SimFault) → o ≡ first (cons_option o [])
      single None = refl
      single (Some fault) = refl

  worked_twice : (work : Work) (memory : Row) (rows : Rows) → worked (worked work (memory ∷ [])) rows ≡ worked work (memory ∷ rows)
  worked_twice work memory rows =
      let ran : work.ran + 1 + length rows ≡ work.ran + suc (length rows) = omega arith in
      let parts =
      ap (λ l. with_sent outs (sent_from run rows) (with_sent outs l work.parts)) (append-nil (sent_by (run memory)))
      ∙ sent_twice outs (sent_by (run memory)) (sent_from run rows) work.parts in
      let own = fault_by round.iteration f memory (run memory) in
      let later = filter_map (λ memory. fault_by round.iteration f memory (run memory)) rows in
      let fault =
      ap (λ o. option_or (option_or work.fault o) (first later)) (first-cons_option own [] ∙ or_none own)
      ∙ option_or-option_or work.fault own (first later)
      ∙ ap (option_or work.fault) (sym (first-cons_option own later)) in
      λ i. record { agents = work.agents; ran = ran i; parts = parts i; fault = fault i }
    where
      or_none : (o : Option SimFault) → option_or o None ≡ o
      or_none None = refl
      or_none (Some fault) = refl

  came_twice : (field : Field) (memory : Row) (rows : Rows) → came (came field (memory ∷ [])) rows ≡ came field (memory ∷ rows)
  came_twice field memory rows =
      let s = state_place place.type place.function.next in
      let lived = λ (l : Rows). filter_map (λ memory. kept (run memory)) l in
      let pools =
      changed-changed place.agent (changed s (λ pool. merge pool (survivors run (memory ∷ [])))) (changed s (λ pool. merge pool (survivors run rows)))
      (changed s (λ pool. merge pool (survivors run (memory ∷ rows))))
      (λ own. changed-changed s (λ pool. merge pool (survivors run (memory ∷ []))) (λ pool. merge pool (survivors run rows)) (λ pool. merge pool (survivors run (memory ∷ rows)))
      (λ pool. merge-merge_ascending pool (lived (memory ∷ [])) (lived rows) ∙ ap (λ l. merge pool (ascending l)) (sym (filter_map-append (λ memory. kept (run memory)) (memory ∷ []) rows)))
      own)
      field.pools in
      let born =
      joined_twice 0 (births_of (born_from run (memory ∷ []))) (births_of (born_from run rows)) (births_of (born_from run (memory ∷ rows)))
      (λ n. ap (λ l. births_of l n ++ births_of (born_from run rows) n) (append-nil (born_by (run memory))) ∙ sym (births_of-append n (born_by (run memory)) (born_from run rows)))
      field.born in
      λ i. record { pools = pools i; born = born i; boards = field.boards }

-- ---- one after another

drop_next : (rows : Rows) (i : ℕ) (row : Row) (rest : Rows) → drop i rows ≡ row ∷ rest → (slice_get rows i ≡ Some row) × (drop (i + 1) rows ≡ rest)
drop_next [] zero row rest is = absurd cc
drop_next [] (suc i) row rest is = absurd cc
drop_next (r ∷ rows) zero row rest is = let head : r ≡ row = cc in let tail : rows ≡ rest = cc in (ap Some head, tail)
drop_next (r ∷ rows) (suc i) row rest is =
    let next = drop_next rows i row rest is in
    (next.0, ap (λ n. drop n (r ∷ rows)) (add-one (suc i)) ∙ ap (λ n. drop n rows) (sym (add-one i)) ∙ next.1)

module _ (round : Round) (pieces f k : ℕ) (place : Place) (there : slice_get (functions round.source.model) f ≡ Some place) where
  -- the next agent of a piece
  next_is : (core : Core) (work : Work) (memory : Row) → work_of core f k ≡ Some work → slice_get work.agents work.ran ≡ Some memory
      → after round pieces core (event.Agent f k) ≡ all_at_once round f k place (outcome_in round f core.field) core work (memory ∷ [])
  next_is core work memory at next =
      ap (λ o. ran_next round f k o (work_of core f k) core) there
      ∙ ap (λ o. ran_next round f k (Some place) o core) at
      ∙ ap (λ o. ran_agent round f k place work o core) next
      ∙ (λ i. record {
        statuses = with_work core f k (one_worked round f k place (outcome_in round f core.field) work memory i);
        field = came round f k place (outcome_in round f core.field) core.field (memory ∷ []);
        frozen = core.frozen;
      })

  legal_is : (core : Core) (work : Work) (memory : Row) → work_of core f k ≡ Some work → slice_get work.agents work.ran ≡ Some memory
      → is_legal round.source.model core (event.Agent f k) ≡ true
  legal_is core work memory at next = ap may_run at ∙ lt-ltb work.ran (length work.agents) (slice_get_within work.agents work.ran memory next)

  -- the piece is found again
  found_again : (core : Core) (work : Work) (memory : Row) → work_of core f k ≡ Some work
      → work_of (all_at_once round f k place (outcome_in round f core.field) core work (memory ∷ [])) f k ≡ Some (worked round f k place (outcome_in round f core.field) work (memory ∷ []))
  found_again core work memory at =
      let run = outcome_in round f core.field in
      let q = worked round f k place run work (memory ∷ []) in
      let works = works_of (status_of core f) in
      ap (λ s. slice_get (works_of s) k) (get_or-set_same core.statuses f (Open (slice_set works k q)) Waiting (status_below core f k work at))
      ∙ slice_get-slice_set works k q work at

  both_at_once : (core : Core) (work : Work) (memory : Row) (rows : Rows) → work_of core f k ≡ Some work
      → all_at_once round f k place (outcome_in round f core.field)
      (all_at_once round f k place (outcome_in round f core.field) core work (memory ∷ [])) (worked round f k place (outcome_in round f core.field) work (memory ∷ [])) rows
      ≡ all_at_once round f k place (outcome_in round f core.field) core work (memory ∷ rows)
  both_at_once core work memory rows at =
      let run = outcome_in round f core.field in
      let works = works_of (status_of core f) in
      let q = worked round f k place run work (memory ∷ []) in
      let last = worked round f k place run q rows in
      let whole = worked round f k place run work (memory ∷ rows) in
      let statuses : slice_set (slice_set core.statuses f (Open (slice_set works k q))) f
      (Open (slice_set (works_of (slice_index_or (slice_set core.statuses f (Open (slice_set works k q))) f Waiting)) k last))
      ≡ slice_set core.statuses f (Open (slice_set works k whole)) =
      ap (λ s. slice_set (slice_set core.statuses f (Open (slice_set works k q))) f (Open (slice_set (works_of s) k last)))
      (get_or-set_same core.statuses f (Open (slice_set works k q)) Waiting (status_below core f k work at))
      ∙ set-set core.statuses f (Open (slice_set works k q)) (Open (slice_set (slice_set works k q) k last))
      ∙ ap (λ l. slice_set core.statuses f (Open l)) (set-set works k q last)
      ∙ ap (λ w. slice_set core.statuses f (Open (slice_set works k w))) (worked_twice round f k place run work memory rows) in
      let field = came_twice round f k place run core.field memory rows in
      λ i. record { statuses = statuses i; field = field i; frozen = core.frozen }

  record Together (core : Core) (work : Work) (memory : Row) (rows : Rows) : Type 0 where
    pub legal : are_legal round pieces core (replicate (suc (length rows)) (event.Agent f k)) ≡ true
    pub left : replay round pieces core (replicate (suc (length rows)) (event.Agent f k)) ≡ all_at_once round f k place (outcome_in round f core.field) core work (memory ∷ rows)

  together : (rows : Rows) (core : Core) (work : Work) (memory : Row) → work_of core f k ≡ Some work → drop work.ran work.agents ≡ memory ∷ rows → Together core work memory rows
  together [] core work memory at rest =
      let next = drop_next work.agents work.ran memory [] rest in
      record { legal = and_from (is_legal round.source.model core (event.Agent f k)) true (legal_is core work memory at next.0) refl; left = next_is core work memory at next.0 }
  together (row ∷ rows) core work memory at rest =
      let next = drop_next work.agents work.ran memory (row ∷ rows) rest in
      let run = outcome_in round f core.field in
      let mid = all_at_once round f k place run core work (memory ∷ []) in
      let q = worked round f k place run work (memory ∷ []) in
      let step = next_is core work memory at next.0 in
      let more = together rows mid q row (found_again core work memory at) next.1 in
      record {
        legal = and_from (is_legal round.source.model core (event.Agent f k)) (are_legal round pieces (after round pieces core (event.Agent f k)) (replicate (suc (length rows)) (event.Agent f k)))
            (legal_is core work memory at next.0) (ap (λ c. are_legal round pieces c (replicate (suc (length rows)) (event.Agent f k))) step ∙ more.legal);
        left = ap (λ c. replay round pieces c (replicate (suc (length rows)) (event.Agent f k))) step ∙ more.left ∙ both_at_once core work memory (row ∷ rows) at;
      }

pub agents_run_at_once : AgentsRunAtOnce
agents_run_at_once round pieces f k place work core there at none some = go work.agents refl
  where
    go : (rows : Rows) → work.agents ≡ rows → (are_legal round pieces core (agent_events f k work) ≡ true) × (replay round pieces core (agent_events f k work) ≡ ran_agents round f k place work core)
    go [] is = absurd (omega (arith, some, ap length is))
    go (memory ∷ rows) is =
        let from : drop work.ran work.agents ≡ memory ∷ rows = ap (λ n. drop n work.agents) none ∙ is in
        let all = together round pieces f k place there rows core work memory at from in
        let many : suc (length rows) ≡ length work.agents = sym (ap length is) in
        let counted : work.ran + length work.agents ≡ length work.agents = omega (arith, none) in (
          ap (λ n. are_legal round pieces core (replicate n (event.Agent f k))) (sym many) ∙ all.legal,
          ap (λ n. replay round pieces core (replicate n (event.Agent f k))) (sym many) ∙ all.left
              ∙ ap (all_at_once round f k place (outcome_in round f core.field) core work) (sym is)
              ∙ (λ i. record (ran_agents round f k place work core) { statuses = with_work core f k (record (with_agents round f work core) { ran = counted i }) }),
        )
