-- The messages that functions output, and lists of them.
use Rattle.std.proofs.Common.{◌≡◌, ℕ, ◌<◌, Bool, true, false, cond, List, [], ◌∷◌, ◌++◌, length, take, get_or, Option, Some, None, refl, sym, ap, ◌∙◌, ◌+◌, subst}
use Rattle.std.specs.Prelude.{option_map, slice_get, IsTrue}
use Rattle.std.specs.List.{All, cons_option, filter_map}
use Rattle.std.proofs.lemmas.List.Elements.{All-cons, All-head, All-more, All-nil, All-push, All-tail, All-weaker}
use Rattle.std.proofs.lemmas.Option.{slice_get_within}
use Rattle.flame_spec.specs.declared.models.MessageType.{MessageType}
use Rattle.flame_spec.specs.declared.models.Model.{Model}
use Rattle.flame_spec.specs.Below.{is_in}
use Rattle.flame_spec.specs.Functions.{Place, functions}
use Rattle.flame_spec.proofs.FirstBelow.{is_in_self, is_in_stays}
use Rattle.flame_meaning.specs.Outcomes.{message_named, outputs_at}
use Rattle.flame_events.specs.LegalEvents.{outputs_of}
use Rattle.flame_events.proofs.Spots.{named}
use Rattle.flame_lanes.specs.declared.tasks.Task.{Task}
use Rattle.flame_lanes.specs.ListedMessages.{with_message, with_messages}
use Rattle.flame_layerrun.specs.LayerTasks.{AreListed}

-- ---- the messages that a function outputs are the model's

abbrev named_output : Model → List ℕ → Option ℕ
named_output model name = option_map (λ (found : ℕ × MessageType). found.0) (message_named model.messages name)

found-below : (model : Model) (names : List (List ℕ)) → All (λ message. message < length model.messages) (filter_map (named_output model) names)
found-below model [] = All-nil (λ message. message < length model.messages)
found-below model (name ∷ names) = go (named_output model name) refl (found-below model names)
  where
    go : (o : Option ℕ) → named_output model name ≡ o
        → All (λ message. message < length model.messages) (filter_map (named_output model) names)
        → All (λ message. message < length model.messages) (cons_option o (filter_map (named_output model) names))
    go None is rest = rest
    go (Some number) is rest =
        let there = named model name number is in
        All-cons (λ message. message < length model.messages) number (filter_map (named_output model) names)
        (slice_get_within model.messages number there.message there.there) rest

pub outputs-known : (model : Model) (function : ℕ) → All (λ message. message < length model.messages) (outputs_of model function)
outputs-known model function =
    elim (slice_get (functions model) function) as (λ (o : Option Place). All (λ message. message < length model.messages) (outputs_at o model)) [
      | None ↦ All-nil (λ message. message < length model.messages)
      | Some place ↦ found-below model place.function.outputs
    ]

pub outputs-below : (model : Model) (function : ℕ) (place : Place) (outputs : List ℕ)
    → slice_get (functions model) function ≡ Some place → outputs ≡ outputs_at (Some place) model
    → (outputs ≡ outputs_of model function) × All (λ message. message < length model.messages) outputs
outputs-below model function place outputs at is = (
  is ∙ sym (ap (λ (o : Option Place). outputs_at o model) at),
  subst (λ (list : List ℕ). All (λ message. message < length model.messages) list) (sym is) (found-below model place.function.outputs),
)

-- ---- messages that are listed

stays-one : (m message : ℕ) (listed : List ℕ) → is_in m listed ≡ true → is_in m (with_message message listed) ≡ true
stays-one m message listed among =
    elim (is_in message listed) as (λ b. is_in m (cond b listed (listed ++ message ∷ [])) ≡ true) [
      | true ↦ among
      | false ↦ is_in_stays m message listed among
    ]

own-one : (message : ℕ) (listed : List ℕ) → is_in message (with_message message listed) ≡ true
own-one message listed = go (is_in message listed) refl
  where
    go : (b : Bool) → is_in message listed ≡ b → is_in message (cond b listed (listed ++ message ∷ [])) ≡ true
    go true among = among
    go false out = is_in_self message listed

pub listed-stay : (m : ℕ) (messages listed : List ℕ) → is_in m listed ≡ true → is_in m (with_messages messages listed) ≡ true
listed-stay m [] listed among = among
listed-stay m (message ∷ messages) listed among = listed-stay m messages (with_message message listed) (stays-one m message listed among)

pub listed-own : (messages listed : List ℕ) → All (λ m. IsTrue (is_in m (with_messages messages listed))) messages
listed-own [] listed = All-nil (λ m. IsTrue (is_in m listed))
listed-own (message ∷ messages) listed =
    All-cons (λ m. IsTrue (is_in m (with_messages (message ∷ messages) listed))) message messages
    (listed-stay message messages (with_message message listed) (own-one message listed))
    (listed-own messages (with_message message listed))

pub listed-all : (P : ℕ → Type 0) (messages listed : List ℕ) → All P messages → All P listed → All P (with_messages messages listed)
listed-all P [] listed all own = own
listed-all P (message ∷ messages) listed all own =
    listed-all P messages (with_message message listed) (All-tail P message messages all)
    (elim (is_in message listed) as (λ b. All P (cond b listed (listed ++ message ∷ []))) [
      | true ↦ own
      | false ↦ All-push P listed message own (All-head P message messages all)
    ])

-- what the function of one task more outputs is listed too
pub more-listed : (model : Model) (tasks : List Task) (i : ℕ) (task : Task) (outputs old new : List ℕ)
    → i < length tasks
    → task ≡ get_or tasks i task
    → outputs ≡ outputs_of model task.function
    → new ≡ with_messages outputs old
    → AreListed model old (take i tasks)
    → AreListed model new (take (i + 1) tasks)
more-listed model tasks i task outputs old new less at own is all =
    let Are : List ℕ → Task → Type 0 = λ messages one. All (λ m. IsTrue (is_in m messages)) (outputs_of model one.function) in
    let later : AreListed model (with_messages outputs old) (take (i + 1) tasks) =
    All-more (Are (with_messages outputs old)) tasks i task less
    (All-weaker (Are old) (Are (with_messages outputs old))
    (λ one.
    All-weaker (λ m. IsTrue (is_in m old)) (λ m. IsTrue (is_in m (with_messages outputs old)))
    (λ m among. listed-stay m outputs old among) (outputs_of model one.function))
    (take i tasks) all)
    (subst (Are (with_messages outputs old)) at
    (subst (λ (list : List ℕ). All (λ m. IsTrue (is_in m (with_messages outputs old))) list) own (listed-own outputs old))) in
    subst (λ (messages : List ℕ). AreListed model messages (take (i + 1) tasks)) (sym is) later
