-- What a function comes to whose takers left this.
use Rattle.std.proofs.Common.{◌≡◌, ℕ, ◌<◌, ◌≤◌, Bool, true, false, cond, List, [], ◌∷◌, map, Option, Some, None, refl, sym, ap, ◌∙◌, arith}
use Rattle.std.specs.Prelude.{ℤ, ◌==◌, is_some, nat_lt, slice_get, Result}
use Rattle.std.specs.List.{All, filter}
use Rattle.std.proofs.lemmas.Bool.{eq-eqb}
use Rattle.std.proofs.lemmas.Bool.Decides.{nat_tests}
use Rattle.std.proofs.lemmas.List.Elements.{All-cons, All-head, All-nil, All-tail}
use Rattle.flame_rows.specs.Bags.{ascending, merge, weigh}
use Rattle.flame_spec.specs.Below.{is_in}
use Rattle.flame_spec.specs.Functions.{Place, functions}
use Rattle.flame_spec.specs.States.{state_place}
use Rattle.flame_spec.specs.declared.outcomes.Outcome.{Outcome}
use Rattle.flame_spec.specs.declared.outcomes.Sent.{Sent}
use Rattle.flame_world.specs.declared.faults.SimFault.{SimFault}
use Rattle.flame_world.specs.AgentRuns.{born_from, births_of, least_fault, messages_of, sent_from, survivors}
use Rattle.flame_world.specs.Fields.{Field, changed_pool, joined}
use Rattle.flame_world.specs.Iterations.{Round, and_on, moved, outcome_in, staying, step, step_at, taking, unless_faulted}
use Rattle.flame_world.proofs.JoinedBags.{joined_from-same}
use Rattle.flame_route.specs.declared.routes.Route.{Route}
use Rattle.flame_nodes.specs.declared.lefts.Left.{Left}
use Rattle.flame_nodes.specs.NodeLeavings.{AreLeftBy, sent_among}
use Rattle.flame_nodes.proofs.LeftShares.{bag-weigh}
use Rattle.flame_nodes.proofs.Totals.{Rows}

-- ---- messages of the model's types

no-rows : (rows : Rows) → ascending rows ≡ [] → rows ≡ []
no-rows [] none = refl
no-rows (row ∷ rows) none =
    let weight : weigh (λ (row : List ℤ). 1) (row ∷ rows) ≡ 0 = bag-weigh (row ∷ rows) [] none (λ row. 1) in
    absurd (omega (arith, weight))

none-beyond : (n : ℕ) (sent : List Sent) → All (λ (s : Sent). s.message < n) sent → (message : ℕ) → n ≤ message → messages_of sent message ≡ []
none-beyond n [] below message beyond = refl
none-beyond n (s ∷ sent) below message beyond =
    let P : Sent → Type 0 = λ s. s.message < n in
    let other : (s.message == message) ≡ false = grind (arith, nat_tests, All-head P s sent below) in
    ap (λ b. map (λ (s : Sent). s.row) (cond b (s ∷ filter (λ (s : Sent). s.message == message) sent) (filter (λ (s : Sent). s.message == message) sent))) other
    ∙ none-beyond n sent (All-tail P s sent below) message beyond

-- the messages of one type, where the first is one of them or is not
abbrev shown : Sent → List Sent → ℕ → Bool → Rows
shown s sent message b =
    map (λ (s : Sent). s.row)
    (cond b (s ∷ filter (λ (s : Sent). s.message == message) sent) (filter (λ (s : Sent). s.message == message) sent))

rest-none : (s : Sent) (sent : List Sent) (message : ℕ) (b : Bool) → shown s sent message b ≡ [] → messages_of sent message ≡ []
rest-none s sent message true none = absurd (cc)
rest-none s sent message false none = none

all-below : (n : ℕ) (sent : List Sent) → ((message : ℕ) → n ≤ message → messages_of sent message ≡ []) → All (λ (s : Sent). s.message < n) sent
all-below n [] none = All-nil (λ (s : Sent). s.message < n)
all-below n (s ∷ sent) none =
    All-cons (λ (s : Sent). s.message < n) s sent (by (nat_lt s.message n) refl)
    (all-below n sent (λ message beyond. rest-none s sent message (s.message == message) (none message beyond)))
  where
    by : (b : Bool) → nat_lt s.message n ≡ b → s.message < n
    by true less = grind (arith, nat_tests)
    by false more =
        let beyond : n ≤ s.message = grind (arith, nat_tests) in
        let there : shown s sent s.message true ≡ [] = ap (shown s sent s.message) (sym (eq-eqb s.message s.message refl)) ∙ none s.message beyond in
        absurd (cc)

among-none : (outputs : List ℕ) (sent : List Sent) (message : ℕ) → messages_of sent message ≡ [] → sent_among outputs sent message ≡ []
among-none outputs sent message none = by (is_in message outputs)
  where
    by : (b : Bool) → cond b (messages_of sent message) [] ≡ []
    by true = none
    by false = refl

module _ (iteration : ℤ) (function : ℕ) (run : List ℤ → Outcome) (outputs : List ℕ) (agents : Rows) (left : Left)
    (are : AreLeftBy iteration function run outputs agents left) where
  -- all messages are of types that there are
  pub left-below : (n : ℕ) → All (λ (s : Sent). s.message < n) (sent_from run agents) → All (λ (s : Sent). s.message < n) left.sent.items
  left-below n below =
      all-below n left.sent.items
      (λ message beyond. no-rows (messages_of left.sent.items message)
      (are.messages_are message
      ∙ ap ascending (among-none outputs (sent_from run agents) message (none-beyond n (sent_from run agents) below message beyond))))

  -- where the function sends to its outputs alone, all messages are there
  messages-all : ((message : ℕ) → is_in message outputs ≡ false → messages_of (sent_from run agents) message ≡ [])
      → (message : ℕ) → ascending (messages_of left.sent.items message) ≡ ascending (messages_of (sent_from run agents) message)
  messages-all alone message = are.messages_are message ∙ by (is_in message outputs) refl
    where
      by : (b : Bool) → is_in message outputs ≡ b
          → ascending (cond b (messages_of (sent_from run agents) message) []) ≡ ascending (messages_of (sent_from run agents) message)
      by true among = refl
      by false out = ap ascending (sym (alone message out))

-- ---- faults

-- where there is a fault, the field does not matter
pub faulted-so : (fault : Option SimFault) (one other : Field) → is_some fault ≡ true → unless_faulted fault one ≡ unless_faulted fault other
faulted-so None one other some = absurd (cc)
faulted-so (Some fault) one other some = refl

-- a fault stops what follows
pub stops-so : (fault : Option SimFault) (field : Field) (go : Field → Result Field SimFault) → is_some fault ≡ true
    → and_on (unless_faulted fault field) go ≡ unless_faulted fault field
stops-so None field go some = absurd (cc)
stops-so (Some fault) field go some = refl

-- ---- the step

-- what the takers left went where it belongs
abbrev pub settled : Left → Route → Field → Field
settled left route field = record {
  pools = changed_pool route.agent route.to (λ pool. merge pool (ascending left.survivors.items)) field.pools;
  born = joined (births_of left.born.items) field.born;
  boards = joined (messages_of left.sent.items) field.boards;
}

module _ (round : Round) (function : ℕ) (place : Place) (field : Field) (at : slice_get (functions round.source.model) function ≡ Some place) where
  abbrev run : List ℤ → Outcome
  run = outcome_in round function field

  abbrev takers : Rows
  takers = taking round function place field

  pub stepped : (outputs : List ℕ) (left : Left) (route : Route) (after : Field)
      → AreLeftBy round.iteration function run outputs takers left
      → ((message : ℕ) → is_in message outputs ≡ false → messages_of (sent_from run takers) message ≡ [])
      → ascending takers ≡ takers
      → route.agent ≡ place.agent
      → route.to ≡ state_place place.type place.function.next
      → after.pools ≡ changed_pool place.agent (state_place place.type place.function.current) (staying round function place) field.pools
      → after.born ≡ field.born
      → after.boards ≡ field.boards
      → unless_faulted left.fault (settled left route after) ≡ step round function field
  stepped outputs left route after are alone order agent to pools born boards =
      let fault : left.fault ≡ least_fault round.iteration function run takers =
      are.fault_is ∙ ap (least_fault round.iteration function run) order in
      let births : joined (births_of left.born.items) after.born ≡ joined (births_of (born_from run takers)) field.born =
      ap (joined (births_of left.born.items)) born
      ∙ joined_from-same (births_of left.born.items) (births_of (born_from run takers)) are.births_are 0 field.born in
      let messages : joined (messages_of left.sent.items) after.boards ≡ joined (messages_of (sent_from run takers)) field.boards =
      ap (joined (messages_of left.sent.items)) boards
      ∙ joined_from-same (messages_of left.sent.items) (messages_of (sent_from run takers))
      (messages-all round.iteration function run outputs takers left are alone) 0 field.boards in
      let all : settled left route after ≡ moved round function place field =
      λ i. record {
        pools = changed_pool (agent i) (to i) (λ pool. merge pool (are.survivors_are i)) (pools i);
        born = births i;
        boards = messages i;
      } in
      (λ i. unless_faulted (fault i) (all i)) ∙ sym (ap (λ p. step_at p round function field) at)
