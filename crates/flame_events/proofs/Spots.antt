-- Where functions find their agents and leave them, what they read and write, and who stands before whom by that.
use Rattle.std.proofs.Common.{◌≡◌, ℕ, suc, ◌+◌, ◌<◌, Bool, true, false, cond, List, [], ◌∷◌, length, Option, Some, None, refl, sym, ap, ◌∙◌, arith, one-add}
use Rattle.std.specs.Prelude.{◌==◌, ◌&&◌, ◌||◌, not, slice_get, option_map, position, nat_lt}
use Rattle.std.specs.List.{filter_map, cons_option, position_or_len}
use Rattle.std.specs.Str.{bytes_eq}
use Rattle.std.proofs.lemmas.Bool.{ltb-true, eqb-true, eq-eqb, and_parts, and_from, or_left, or_right, false≢true}
use Rattle.flame_rows.proofs.Bytes.{bytes_eq-true, bytes_eq-same}
use Rattle.flame_rows.proofs.Lists.{list_any-at, slice_get-some}
use Rattle.flame_spec.specs.declared.models.Model.{Model}
use Rattle.flame_spec.specs.declared.models.AgentType.{AgentType}
use Rattle.flame_spec.specs.declared.models.MessageType.{MessageType}
use Rattle.flame_spec.specs.declared.models.Input.{Input}
use Rattle.flame_spec.specs.Before.{adds, feeds, leads_to, stands_before, both_stand, before, function_count}
use Rattle.flame_spec.specs.Below.{is_in}
use Rattle.flame_spec.specs.Choice.{may_take, choice}
use Rattle.flame_spec.specs.Functions.{Place, functions}
use Rattle.flame_spec.specs.States.{states, state_place}
use Rattle.flame_spec.proofs.Numbered.{numbered_from-passes}
use Rattle.flame_spec.proofs.FunctionPlaces.{functions_from-function}
use Rattle.flame_meaning.specs.Outcomes.{message_named, outputs_at}
use Rattle.flame_meaning.proofs.Sending.{found_get}
use Rattle.flame_world.specs.Fields.{pool_in}
use Rattle.flame_world.specs.Iterations.{Round}
use Rattle.flame_world.proofs.RowsKept.{place_type}
use Rattle.flame_world.proofs.NextStates.{current_state, next_state}
use Rattle.flame_events.specs.LegalEvents.{inputs_at, inputs_of, outputs_of}
use Rattle.flame_events.proofs.Weights.{Row, Rows}

-- ---- spots

-- a state of an agent type
pub record Spot : Type 0 where
  pub agent : ℕ
  pub state : List ℕ

abbrev pub same_spot : Spot → Spot → Bool
same_spot p q = (p.agent == q.agent) && bytes_eq p.state q.state

pub same_spot-true : (p q : Spot) → same_spot p q ≡ true → p ≡ q
same_spot-true p q same =
    let parts = and_parts (p.agent == q.agent) (bytes_eq p.state q.state) same in
    let agents : p.agent ≡ q.agent = eqb-true p.agent q.agent parts.0 in
    let states : p.state ≡ q.state = bytes_eq-true p.state q.state parts.1 in
    λ i. record { agent = agents i; state = states i }

pub true-same_spot : (p q : Spot) → p ≡ q → same_spot p q ≡ true
true-same_spot p q same =
    and_from (p.agent == q.agent) (bytes_eq p.state q.state) (eq-eqb p.agent q.agent (ap (λ (s : Spot). s.agent) same)) (bytes_eq-same p.state q.state (ap (λ (s : Spot). s.state) same))

-- where the function of this place finds its agents, and where it leaves them
abbrev pub leaves_at : Option Place → Spot
leaves_at None = record { agent = 0; state = [] }
leaves_at (Some place) = record { agent = place.agent; state = place.function.current }

abbrev pub enters_at : Option Place → Spot
enters_at None = record { agent = 0; state = [] }
enters_at (Some place) = record { agent = place.agent; state = place.function.next }

abbrev pub leaves : Model → ℕ → Spot
leaves model function = leaves_at (slice_get (functions model) function)

abbrev pub enters : Model → ℕ → Spot
enters model function = enters_at (slice_get (functions model) function)

-- ---- pools

abbrev pub state_at : Option AgentType → List ℕ → ℕ
state_at None text = 0
state_at (Some type) text = state_place type text

abbrev pub pool_at : Model → List (List Rows) → Spot → Rows
pool_at model pools p = pool_in pools p.agent (state_at (slice_get model.agents p.agent) p.state)

abbrev pub choice_at : Round → Spot → Row → Option ℕ
choice_at round p memory = choice round.source.model p.agent p.state memory round.iteration

-- ---- what is chosen leaves the spot

-- where a place is within, what stands there passes
pub position_get : {X : Type 0} (test : X → Bool) (xs : List X) → position_or_len test xs < length xs
    → (x : X) × (slice_get xs (position_or_len test xs) ≡ Some x) × (test x ≡ true)
position_get test [] less = absurd (omega (arith, less))
position_get {X} test (x ∷ xs) less =
    (elim (test x) as (λ t. test x ≡ t → cond (not t) (1 + position_or_len test xs) 0 < suc (length xs)
    → (y : X) × (slice_get (x ∷ xs) (cond (not t) (1 + position_or_len test xs) 0) ≡ Some y) × (test y ≡ true)) [
      | true ↦ λ passes within. (x, refl, passes)
      | false ↦ λ fails within.
          let found = position_get test xs (omega (arith, within)) in
          (found.0, ap (slice_get (x ∷ xs)) (one-add (position_or_len test xs)) ∙ found.1, found.2)
    ])
    refl less

position_stands : {X : Type 0} (test : X → Bool) (xs : List X) (k : ℕ) → position test xs ≡ Some k
    → (x : X) × (slice_get xs k ≡ Some x) × (test x ≡ true)
position_stands {X} test xs k at =
    (elim (nat_lt (position_or_len test xs) (length xs)) as (λ t. nat_lt (position_or_len test xs) (length xs) ≡ t
    → cond t (Some (position_or_len test xs)) None ≡ Some k → (x : X) × (slice_get xs k ≡ Some x) × (test x ≡ true)) [
      | true ↦ λ within here.
          let same : position_or_len test xs ≡ k = cc in
          let found = position_get test xs (ltb-true (position_or_len test xs) (length xs) within) in
          (found.0, ap (slice_get xs) (sym same) ∙ found.1, found.2)
      | false ↦ λ without none. absurd cc
    ])
    refl at

pub record IsChoice (model : Model) (p : Spot) (function : ℕ) : Type 0 where
  pub place : Place
  pub there : slice_get (functions model) function ≡ Some place
  pub from : leaves model function ≡ p

pub choice_leaves : (round : Round) (p : Spot) (memory : Row) (function : ℕ)
    → choice_at round p memory ≡ Some function → IsChoice round.source.model p function
choice_leaves round p memory function chosen =
    let model = round.source.model in
    let test = may_take model.units p.agent p.state memory round.iteration in
    let found = position_stands test (functions model) function chosen in
    let place = found.0 in
    let there = found.1 in
    let may = and_parts _ _ found.2 in
    let parts = and_parts (place.agent == p.agent) (bytes_eq place.function.current p.state) may.0 in
    let agents : place.agent ≡ p.agent = eqb-true place.agent p.agent parts.0 in
    let states : place.function.current ≡ p.state = bytes_eq-true place.function.current p.state parts.1 in
    record {
      place = place;
      there = there;
      from = ap leaves_at there ∙ (λ i. record { agent = agents i; state = states i });
    }

-- ---- who stands before whom

pub before_at : (model : Model) (f g : ℕ) (one other : Place)
    → slice_get (functions model) f ≡ Some one → slice_get (functions model) g ≡ Some other
    → before model f g ≡ stands_before one other
before_at model f g one other at there = λ i. both_stand (at i) (there i)

pub enters_before : (model : Model) (f g : ℕ)
    → f < function_count model → g < function_count model
    → enters model f ≡ leaves model g → before model f g ≡ true
enters_before model f g fl gl meet =
    let one = slice_get-some (functions model) f fl in
    let other = slice_get-some (functions model) g gl in
    let same : enters_at (Some one.0) ≡ leaves_at (Some other.0) = sym (ap enters_at one.1) ∙ meet ∙ ap leaves_at other.1 in
    before_at model f g one.0 other.0 one.1 other.1
    ∙ or_left (leads_to one.0 other.0) (feeds one.0.function other.0.function)
    (and_from (one.0.agent == other.0.agent) (bytes_eq other.0.function.current one.0.function.next)
    (eq-eqb one.0.agent other.0.agent (ap (λ (s : Spot). s.agent) same))
    (bytes_eq-same other.0.function.current one.0.function.next (sym (ap (λ (s : Spot). s.state) same))))

-- a number that a list has by a map
is_in-filter_map : {X : Type 0} (h : X → Option ℕ) (m : ℕ) (xs : List X) → is_in m (filter_map h xs) ≡ true
    → (k : ℕ) × (x : X) × (slice_get xs k ≡ Some x) × (h x ≡ Some m)
is_in-filter_map h m [] within = absurd (false≢true within)
is_in-filter_map {X} h m (x ∷ xs) within =
    go (h x) refl (λ more. let found = is_in-filter_map h m xs more in (suc found.0, found.1, found.2, found.3)) within
  where
    go : (o : Option ℕ) → h x ≡ o
        → (is_in m (filter_map h xs) ≡ true → (k : ℕ) × (y : X) × (slice_get (x ∷ xs) k ≡ Some y) × (h y ≡ Some m))
        → is_in m (cons_option o (filter_map h xs)) ≡ true
        → (k : ℕ) × (y : X) × (slice_get (x ∷ xs) k ≡ Some y) × (h y ≡ Some m)
    go None at later more = later more
    go (Some n) at later more =
        (elim (n == m) as (λ t. (n == m) ≡ t → (t || is_in m (filter_map h xs)) ≡ true
        → (k : ℕ) × (y : X) × (slice_get (x ∷ xs) k ≡ Some y) × (h y ≡ Some m)) [
          | true ↦ λ same _. (0, x, refl, at ∙ ap Some (eqb-true n m same))
          | false ↦ λ _ rest. later rest
        ])
        refl more

pub record IsNamed (model : Model) (m : ℕ) (name : List ℕ) : Type 0 where
  pub message : MessageType
  pub there : slice_get model.messages m ≡ Some message
  pub name_is : message.name ≡ name

pub named : (model : Model) (name : List ℕ) (m : ℕ)
    → option_map (λ (found : ℕ × MessageType). found.0) (message_named model.messages name) ≡ Some m → IsNamed model m name
named model name m at = go (message_named model.messages name) refl at
  where
    go : (o : Option (ℕ × MessageType)) → message_named model.messages name ≡ o → option_map (λ (found : ℕ × MessageType). found.0) o ≡ Some m → IsNamed model m name
    go None is none = absurd cc
    go (Some found) is some =
        let number : found.0 ≡ m = cc in
        let passes = numbered_from-passes (λ (message : MessageType). bytes_eq message.name name) 0 model.messages found is in
        record {
          message = found.1;
          there = ap (slice_get model.messages) (sym number) ∙ found_get (λ (message : MessageType). bytes_eq message.name name) model.messages found is;
          name_is = bytes_eq-true found.1.name name passes;
        }

-- an output of a place, by its number
pub record IsOutput (model : Model) (place : Place) (m : ℕ) : Type 0 where
  pub at : ℕ
  pub name : List ℕ
  pub there : slice_get place.function.outputs at ≡ Some name
  pub named : IsNamed model m name

pub record IsInput (model : Model) (place : Place) (m : ℕ) : Type 0 where
  pub at : ℕ
  pub input : Input
  pub there : slice_get place.function.inputs at ≡ Some input
  pub named : IsNamed model m input.message

pub output_named : (model : Model) (place : Place) (m : ℕ) → is_in m (outputs_at (Some place) model) ≡ true → IsOutput model place m
output_named model place m within =
    let found = is_in-filter_map (λ output. option_map (λ (found : ℕ × MessageType). found.0) (message_named model.messages output)) m place.function.outputs within in
    record { at = found.0; name = found.1; there = found.2; named = named model found.1 m found.3 }

pub input_named : (model : Model) (place : Place) (m : ℕ) → is_in m (inputs_at (Some place) model) ≡ true → IsInput model place m
input_named model place m within =
    let found = is_in-filter_map (λ (input : Input). option_map (λ (found : ℕ × MessageType). found.0) (message_named model.messages input.message)) m place.function.inputs within in
    record { at = found.0; input = found.1; there = found.2; named = named model found.1.message m found.3 }

one_message : (model : Model) (m : ℕ) (name other : List ℕ) → IsNamed model m name → IsNamed model m other → name ≡ other
one_message model m name other one two =
    let same : one.message ≡ two.message = some_is one.message two.message (sym one.there ∙ two.there) in
    sym one.name_is ∙ ap (λ (message : MessageType). message.name) same ∙ two.name_is
  where
    some_is : (x y : MessageType) → Some x ≡ Some y → x ≡ y
    some_is x y e = cc

pub writes_before : (model : Model) (f g m : ℕ)
    → f < function_count model → g < function_count model
    → is_in m (outputs_of model f) ≡ true → is_in m (inputs_of model g) ≡ true → before model f g ≡ true
writes_before model f g m fl gl writes reads =
    let one = slice_get-some (functions model) f fl in
    let other = slice_get-some (functions model) g gl in
    let output = output_named model one.0 m (sym (ap (λ o. is_in m (outputs_at o model)) one.1) ∙ writes) in
    let input = input_named model other.0 m (sym (ap (λ o. is_in m (inputs_at o model)) other.1) ∙ reads) in
    let same : input.input.message ≡ output.name = one_message model m input.input.message output.name input.named output.named in
    before_at model f g one.0 other.0 one.1 other.1
    ∙ or_right (leads_to one.0 other.0) (feeds one.0.function other.0.function)
    (list_any-at (λ (i : Input). adds one.0.function i.message) other.0.function.inputs input.at input.input input.there
    (list_any-at (bytes_eq input.input.message) one.0.function.outputs output.at output.name output.there
    (bytes_eq-same input.input.message output.name same)))

-- ---- the states of a function are states of its type

pub record IsAtType (model : Model) (place : Place) : Type 0 where
  pub type : slice_get model.agents place.agent ≡ Some place.type
  pub current : state_place place.type place.function.current < length (states place.type.functions)
  pub next : state_place place.type place.function.next < length (states place.type.functions)

pub at_type : (model : Model) (f : ℕ) (place : Place) → slice_get (functions model) f ≡ Some place → IsAtType model place
at_type model f place at =
    let found = functions_from-function 0 model.agents f place at in
    record {
      type = place_type model f place at;
      current = current_state place.type.functions found.0 place.function found.1;
      next = next_state place.type.functions found.0 place.function found.1;
    }
