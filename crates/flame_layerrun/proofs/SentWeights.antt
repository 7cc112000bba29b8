-- What the messages weigh that agents send, by tasks and by functions.
use Rattle.std.proofs.Common.{◌≡◌, ℕ, zero, suc, ◌+◌, ◌<◌, Bool, true, false, cond, List, [], ◌∷◌, ◌++◌, length, Some, refl, sym, ap, ◌∙◌, subst, arith}
use Rattle.std.specs.Prelude.{◌==◌, slice_get, slice_index_or}
use Rattle.std.specs.List.{All}
use Rattle.std.proofs.lemmas.Bool.{eq-eqb, ne_eqb}
use Rattle.std.proofs.lemmas.List.Elements.{All-head, All-tail}
use Rattle.flame_rows.specs.Bags.{ascending, weigh}
use Rattle.flame_rows.proofs.BagLaws.{weigh-append, weigh-ascending}
use Rattle.flame_spec.specs.Below.{is_in}
use Rattle.flame_world.specs.AgentRuns.{messages_of, sent_by, sent_from}
use Rattle.flame_world.specs.Fields.{Field}
use Rattle.flame_world.specs.Iterations.{Round, outcome_in}
use Rattle.flame_events.specs.LegalEvents.{outputs_of}
use Rattle.flame_events.proofs.Holding.{messages_of-append}
use Rattle.flame_events.proofs.Weights.{Rows, Weight}
use Rattle.flame_lanes.specs.declared.tasks.Task.{Task}
use Rattle.flame_lanes.specs.LaneTasks.{agents_at}
use Rattle.flame_layerrun.specs.LayerWork.{weigh_all_sent, weigh_sent}

module _ (round : Round) (read : Field) (message : ℕ) (weight : Weight) where
  -- what the messages weigh that an agent sends
  abbrev pub sends : ℕ → Weight
  sends f memory = weigh weight (messages_of (sent_by (outcome_in round f read memory)) message)

  pub sent_weighs : (f : ℕ) (agents : Rows) → weigh weight (messages_of (sent_from (outcome_in round f read) agents) message) ≡ weigh (sends f) agents
  sent_weighs f [] = refl
  sent_weighs f (memory ∷ agents) =
      ap (weigh weight) (messages_of-append message (sent_by (outcome_in round f read memory)) (sent_from (outcome_in round f read) agents))
      ∙ weigh-append weight (messages_of (sent_by (outcome_in round f read memory)) message) (messages_of (sent_from (outcome_in round f read) agents) message)
      ∙ ap (λ n. sends f memory + n) (sent_weighs f agents)

  -- those of agents, where their function outputs such
  abbrev pub weigh_out : ℕ → Rows → ℕ
  weigh_out f agents = cond (is_in message (outputs_of round.source.model f)) (weigh (sends f) agents) 0

  pub out_same : (f : ℕ) (one other : Rows) → ((w : Weight) → weigh w one ≡ weigh w other) → weigh_out f one ≡ weigh_out f other
  out_same f one other same = ap (λ n. cond (is_in message (outputs_of round.source.model f)) n 0) (same (sends f))

  out_none : (f : ℕ) → weigh_out f [] ≡ 0
  out_none f = by (is_in message (outputs_of round.source.model f))
    where
      by : (b : Bool) → cond b (weigh (sends f) []) 0 ≡ 0
      by true = refl
      by false = refl

  out_append : (f : ℕ) (one other : Rows) → weigh_out f (one ++ other) ≡ weigh_out f one + weigh_out f other
  out_append f one other = by (is_in message (outputs_of round.source.model f))
    where
      by : (b : Bool) → cond b (weigh (sends f) (one ++ other)) 0 ≡ cond b (weigh (sends f) one) 0 + cond b (weigh (sends f) other) 0
      by true = weigh-append (sends f) one other
      by false = omega arith

  sent_out : (task : Task) → weigh_sent round read message weight task ≡ weigh_out task.function task.agents
  sent_out task =
      ap (λ n. cond (is_in message (outputs_of round.source.model task.function)) n 0)
      (sent_weighs task.function (ascending task.agents) ∙ weigh-ascending (sends task.function) task.agents)

  -- ---- function by function

  -- those of all functions, of which the agents stand at their places
  abbrev pub by_place : ℕ → List ℕ → (ℕ → Rows) → ℕ
  by_place i [] at = 0
  by_place i (f ∷ fs) at = weigh_out f (at i) + by_place (i + 1) fs at

  pub by_place-same : (i : ℕ) (fs : List ℕ) (at other : ℕ → Rows) → ((p : ℕ) (w : Weight) → weigh w (at p) ≡ weigh w (other p))
      → by_place i fs at ≡ by_place i fs other
  by_place-same i [] at other same = refl
  by_place-same i (f ∷ fs) at other same =
      (λ j. out_same f (at i) (other i) (same i) j + by_place-same (i + 1) fs at other same j)

  by_place-none : (i : ℕ) (fs : List ℕ) → by_place i fs (λ p. []) ≡ 0
  by_place-none i [] = refl
  by_place-none i (f ∷ fs) = omega (arith, out_none f, by_place-none (i + 1) fs)

  -- agents at one place more
  abbrev more_at : ℕ → Rows → (ℕ → Rows) → ℕ → Rows
  more_at j agents at p = cond (j == p) agents [] ++ at p

  by_place-else : (i : ℕ) (fs : List ℕ) (j : ℕ) (agents : Rows) (at : ℕ → Rows) → j < i → by_place i fs (more_at j agents at) ≡ by_place i fs at
  by_place-else i [] j agents at less = refl
  by_place-else i (f ∷ fs) j agents at less =
      let here : more_at j agents at i ≡ at i = ap (λ b. cond b agents [] ++ at i) (ne_eqb j i (λ same. omega (arith, same, less))) in
      (λ k. weigh_out f (here k) + by_place-else (i + 1) fs j agents at (omega (arith, less)) k)

  by_place-more : (fs : List ℕ) (i k j f : ℕ) (agents : Rows) (at : ℕ → Rows) → j ≡ i + k → slice_get fs k ≡ Some f
      → by_place i fs (more_at j agents at) ≡ weigh_out f agents + by_place i fs at
  by_place-more [] i k j f agents at is there = absurd (cc)
  by_place-more (g ∷ gs) i zero j f agents at is there =
      let same : g ≡ f = cc in
      let here : more_at j agents at i ≡ agents ++ at i = ap (λ b. cond b agents [] ++ at i) (eq-eqb j i (omega (arith, is))) in
      let rest = by_place-else (i + 1) gs j agents at (omega (arith, is)) in
      omega (arith, ap (weigh_out g) here, out_append g agents (at i), rest, ap (λ h. weigh_out h agents) same)
  by_place-more (g ∷ gs) i (suc k) j f agents at is there =
      let here : more_at j agents at i ≡ at i = ap (λ b. cond b agents [] ++ at i) (ne_eqb j i (λ same. omega (arith, same, is))) in
      let rest = by_place-more gs (i + 1) k j f agents at (omega (arith, is)) there in
      omega (arith, ap (weigh_out g) here, rest)

  -- all tasks, each of a function in its place
  pub grouped : (fs : List ℕ) (tasks : List Task) → All (λ (task : Task). slice_get fs task.place ≡ Some task.function) tasks
      → weigh_all_sent round read tasks message weight ≡ by_place 0 fs (λ place. agents_at place tasks)
  grouped fs [] all = sym (by_place-none 0 fs)
  grouped fs (task ∷ tasks) all =
      let P : Task → Type 0 = λ t. slice_get fs t.place ≡ Some t.function in
      let rest = grouped fs tasks (All-tail P task tasks all) in
      let one = by_place-more fs 0 task.place task.place task.function task.agents (λ place. agents_at place tasks) (omega arith) (All-head P task tasks all) in
      omega (arith, one, rest, sent_out task)

  -- ---- takers of functions

  abbrev pub by_takers : List ℕ → List Rows → ℕ
  by_takers [] takers = 0
  by_takers (f ∷ fs) [] = 0
  by_takers (f ∷ fs) (agents ∷ takers) = weigh_out f agents + by_takers fs takers

  pub from_takers : (fs : List ℕ) (takers : List Rows) (i : ℕ) (at : ℕ → Rows) → length takers ≡ length fs
      → ((p : ℕ) (w : Weight) → weigh w (at (i + p)) ≡ weigh w (slice_index_or takers p []))
      → by_place i fs at ≡ by_takers fs takers
  from_takers [] takers i at long same = refl
  from_takers (f ∷ fs) [] i at long same = absurd (omega (arith, long))
  from_takers (f ∷ fs) (agents ∷ takers) i at long same =
      let here = out_same f (at i) agents (λ w. subst (λ n. weigh w (at n) ≡ weigh w agents) (omega arith) (same 0 w)) in
      let rest = from_takers fs takers (i + 1) at (omega (arith, long))
      (λ p w. subst (λ n. weigh w (at n) ≡ weigh w (slice_index_or takers p [])) (omega arith) (same (suc p) w)) in
      (λ j. here j + rest j)
