-- What a function comes to whose takers run in any order.
use Rattle.std.proofs.Common.{◌≡◌, ℕ, List, [], Some, sym, ap, ◌∙◌}
use Rattle.std.specs.Prelude.{ℤ, IfOk, Result, Ok, Err, slice_get}
use Rattle.flame_rows.specs.Bags.{ascending, merge}
use Rattle.flame_field.proofs.Gathered.{merge-none}
use Rattle.flame_spec.specs.Functions.{Place, functions}
use Rattle.flame_spec.specs.States.{state_place}
use Rattle.flame_spec.specs.declared.outcomes.Outcome.{Outcome}
use Rattle.std.specs.List.{filter_map}
use Rattle.flame_world.specs.AgentRuns.{born_from, births_of, kept, least_fault, messages_of, sent_from, survivors}
use Rattle.flame_world.specs.Fields.{Field, changed_pool, joined}
use Rattle.flame_world.specs.Iterations.{Round, moved, outcome_in, staying, step, step_at, taking, unless_faulted}
use Rattle.flame_leaving.specs.declared.leavings.Leaving.{Leaving}
use Rattle.flame_leaving.specs.Leavings.{AreLeft}
use Rattle.flame_leaving.specs.WholeLaws.{BirthsMerge, MessagesMerge, SurvivorsMerge, birth_bag, message_bag}
use Rattle.flame_route.specs.declared.routes.Route.{Route}
use Rattle.flame_runner.specs.declared.steps.Stepped.{Stepped}
use Rattle.flame_runner.specs.KeptSteps.{result_of}
use Rattle.flame_world.specs.declared.faults.SimFault.{SimFault}
use Rattle.flame_world.proofs.JoinedBags.{joined_from-same}

abbrev Rows : Type 0
Rows = List (List ℤ)

-- ---- an order does not matter

-- what parts leave together is left in any order
module _ (run : List ℤ → Outcome) (rows : Rows) where
  survivors-any : SurvivorsMerge → survivors run rows ≡ survivors run (ascending rows)
  survivors-any merges =
      merges run (ascending rows) [] rows (merge-none rows)
      ∙ merge-none (filter_map (λ memory. kept (run memory)) (ascending rows))

  messages-any : MessagesMerge → (message : ℕ) → message_bag run message rows ≡ message_bag run message (ascending rows)
  messages-any merges message =
      merges run message (ascending rows) [] rows (merge-none rows)
      ∙ merge-none (messages_of (sent_from run (ascending rows)) message)

  births-any : BirthsMerge → (agent : ℕ) → birth_bag run agent rows ≡ birth_bag run agent (ascending rows)
  births-any merges agent =
      merges run agent (ascending rows) [] rows (merge-none rows)
      ∙ merge-none (births_of (born_from run (ascending rows)) agent)

-- bags join by what they are
joined-same : (rows more : ℕ → Rows) → ((n : ℕ) → ascending (rows n) ≡ ascending (more n)) → (bags : List Rows)
    → joined rows bags ≡ joined more bags
joined-same rows more same bags = joined_from-same rows more same 0 bags

-- ---- the step

-- what the takers left of this field went where it belongs
abbrev pub settled : Leaving → Route → Field → Field
settled leaving route field = record {
  pools = changed_pool route.agent route.to (λ pool. merge pool (ascending leaving.survivors.items)) field.pools;
  born = joined (births_of leaving.born.items) field.born;
  boards = joined (messages_of leaving.sent.items) field.boards;
}

module _ (round : Round) (function : ℕ) (place : Place) (field : Field) (at : slice_get (functions round.source.model) function ≡ Some place)
    (survivors_merge : SurvivorsMerge) (messages_merge : MessagesMerge) (births_merge : BirthsMerge) where
  abbrev run : List ℤ → Outcome
  run = outcome_in round function field

  abbrev takers : Rows
  takers = taking round function place field

  pub stepped : (leaving : Leaving) (route : Route) (agents : Rows) (left : Field)
      → AreLeft round.iteration function run agents leaving
      → ascending agents ≡ takers
      → route.agent ≡ place.agent
      → route.to ≡ state_place place.type place.function.next
      → left.pools ≡ changed_pool place.agent (state_place place.type place.function.current) (staying round function place) field.pools
      → left.born ≡ field.born
      → left.boards ≡ field.boards
      → unless_faulted leaving.fault (settled leaving route left) ≡ step round function field
  stepped leaving route agents left is whole agent to pools born boards =
      let fault : leaving.fault ≡ least_fault round.iteration function run takers =
      is.fault ∙ ap (least_fault round.iteration function run) whole in
      let live : ascending leaving.survivors.items ≡ survivors run takers =
      ap ascending is.survivors ∙ survivors-any run agents survivors_merge ∙ ap (survivors run) whole in
      let births : joined (births_of leaving.born.items) left.born ≡ joined (births_of (born_from run takers)) field.born =
      (λ i. joined (births_of (is.born i)) (born i))
      ∙ joined-same (births_of (born_from run agents)) (births_of (born_from run (ascending agents))) (births-any run agents births_merge) field.born
      ∙ ap (λ list. joined (births_of (born_from run list)) field.born) whole in
      let messages : joined (messages_of leaving.sent.items) left.boards ≡ joined (messages_of (sent_from run takers)) field.boards =
      (λ i. joined (messages_of (is.sent i)) (boards i))
      ∙ joined-same (messages_of (sent_from run agents)) (messages_of (sent_from run (ascending agents))) (messages-any run agents messages_merge) field.boards
      ∙ ap (λ list. joined (messages_of (sent_from run list)) field.boards) whole in
      let all : settled leaving route left ≡ moved round function place field =
      λ i. record {
        pools = changed_pool (agent i) (to i) (λ pool. merge pool (live i)) (pools i);
        born = births i;
        boards = messages i;
      } in
      (λ i. unless_faulted (fault i) (all i)) ∙ sym (ap (λ p. step_at p round function field) at)

-- what is Ok for one value is for its equal
pub came : {E : Type 0} (result : Result Stepped E) (middle end : Result Field SimFault) → middle ≡ end
    → IfOk result (λ next. result_of next ≡ middle)
    → IfOk result (λ next. result_of next ≡ end)
came (Ok next) middle end same is = is ∙ same
came (Err error) middle end same is = tt
