-- The boards that a piece reads are the same in each core that has it.
use Rattle.std.proofs.Common.{◌≡◌, ℕ, true, List, [], ◌∷◌, map, Option, Some, None, refl, sym, ap, ◌∙◌}
use Rattle.std.specs.Prelude.{ℤ, slice_get, slice_index_or, option_map}
use Rattle.std.specs.List.{list_all, filter_map, cons_option}
use Rattle.flame_spec.specs.declared.models.Input.{Input}
use Rattle.flame_spec.specs.declared.models.MessageType.{MessageType}
use Rattle.flame_spec.specs.declared.models.Model.{Model}
use Rattle.flame_spec.specs.Below.{is_in}
use Rattle.flame_spec.specs.Functions.{Place, functions}
use Rattle.flame_spec_laws.specs.NameLaws.{MessagesDiffer}
use Rattle.flame_meaning.specs.Outcomes.{message_named}
use Rattle.flame_world.specs.InputBoards.{board_of, boards_named}
use Rattle.flame_world.specs.Iterations.{Round}
use Rattle.flame_events.specs.CoreStates.{Work, is_waiting, Core, status_of, work_of, is_frozen}
use Rattle.flame_events.specs.CoreLaws.{EventsLeadTo}
use Rattle.flame_events.specs.LegalEvents.{inputs_at, inputs_of}
use Rattle.flame_events.proofs.KeptCores.{what_began_may_begin}
use Rattle.flame_events.proofs.Serial.{is_in-self, is_in-later}
use Rattle.flame_events.proofs.Sound.{opens_with}
use Rattle.flame_events.proofs.Works.{all_of_list}
use Rattle.flame_orders.specs.OneBeginning.{HaveOneBeginning}
use Rattle.flame_orders.proofs.OneBeginnings.{frozen_boards_agree}

-- the number of the message of an input
abbrev numbered : Model → Input → Option ℕ
numbered model input = option_map (λ (found : ℕ × MessageType). found.0) (message_named model.messages input.message)

module _ (model : Model) (boards others : List (List (List ℤ))) where
  named_same : (inputs : List Input) → ((m : ℕ) → is_in m (filter_map (numbered model) inputs) ≡ true → slice_index_or boards m [] ≡ slice_index_or others m [])
      → map (λ (input : Input). board_of (message_named model.messages input.message) boards) inputs
      ≡ map (λ (input : Input). board_of (message_named model.messages input.message) others) inputs
  named_same [] same = refl
  named_same (input ∷ inputs) same = go (named_same inputs) (message_named model.messages input.message) refl
    where
      go : (((m : ℕ) → is_in m (filter_map (numbered model) inputs) ≡ true → slice_index_or boards m [] ≡ slice_index_or others m [])
          → map (λ (input : Input). board_of (message_named model.messages input.message) boards) inputs
          ≡ map (λ (input : Input). board_of (message_named model.messages input.message) others) inputs)
          → (o : Option (ℕ × MessageType)) → message_named model.messages input.message ≡ o
          → board_of (message_named model.messages input.message) boards ∷ map (λ (input : Input). board_of (message_named model.messages input.message) boards) inputs
          ≡ board_of (message_named model.messages input.message) others ∷ map (λ (input : Input). board_of (message_named model.messages input.message) others) inputs
      go more None is =
          let first : board_of (message_named model.messages input.message) boards ≡ board_of (message_named model.messages input.message) others =
          ap (λ o. board_of o boards) is ∙ sym (ap (λ o. board_of o others) is) in
          let rest = more (λ m within. same m (ap (λ o. is_in m (cons_option (option_map (λ (found : ℕ × MessageType). found.0) o) (filter_map (numbered model) inputs))) is ∙ within)) in
          λ i. first i ∷ rest i
      go more (Some found) is =
          let whole : (m : ℕ) → is_in m (found.0 ∷ filter_map (numbered model) inputs) ≡ true → slice_index_or boards m [] ≡ slice_index_or others m [] =
          λ m within. same m (ap (λ o. is_in m (cons_option (option_map (λ (found : ℕ × MessageType). found.0) o) (filter_map (numbered model) inputs))) is ∙ within) in
          let first : board_of (message_named model.messages input.message) boards ≡ board_of (message_named model.messages input.message) others =
          ap (λ o. board_of o boards) is ∙ whole found.0 (is_in-self found.0 (filter_map (numbered model) inputs)) ∙ sym (ap (λ o. board_of o others) is) in
          let rest = more (λ m within. whole m (is_in-later m found.0 (filter_map (numbered model) inputs) within)) in
          λ i. first i ∷ rest i

-- in two cores from one beginning that both have a piece of the function
pub boards_same : MessagesDiffer → (round : Round) (pieces f k : ℕ) (core other : Core) (work counterpart : Work)
    → HaveOneBeginning round pieces pieces core other → EventsLeadTo round pieces core → EventsLeadTo round pieces other
    → work_of core f k ≡ Some work → work_of other f k ≡ Some counterpart
    → boards_named (slice_get (functions round.source.model) f) round.source.model core.field.boards
    ≡ boards_named (slice_get (functions round.source.model) f) round.source.model other.field.boards
boards_same differ round pieces f k core other work counterpart both led other_led there other_there = go (slice_get (functions round.source.model) f) refl
  where
    fed : list_all (is_frozen core) (inputs_of round.source.model f) ≡ true
    fed = (what_began_may_begin round pieces f core led (ap is_waiting (opens_with (status_of core f) k work there))).1

    other_fed : list_all (is_frozen other) (inputs_of round.source.model f) ≡ true
    other_fed = (what_began_may_begin round pieces f other other_led (ap is_waiting (opens_with (status_of other f) k counterpart other_there))).1

    go : (o : Option Place) → slice_get (functions round.source.model) f ≡ o
        → boards_named o round.source.model core.field.boards ≡ boards_named o round.source.model other.field.boards
    go None is = refl
    go (Some place) is = named_same round.source.model core.field.boards other.field.boards place.function.inputs
        (λ m within.
        let reads : is_in m (inputs_of round.source.model f) ≡ true = ap (λ o. is_in m (inputs_at o round.source.model)) is ∙ within in
        frozen_boards_agree differ round pieces pieces m core other both
        (all_of_list (is_frozen core) (inputs_of round.source.model f) m fed reads)
        (all_of_list (is_frozen other) (inputs_of round.source.model f) m other_fed reads))
