-- No function of an accepted source outputs a message twice.
use Rattle.std.proofs.Common.{◌≡◌, ℕ, suc, ◌+◌, ◌≤◌, true, false, cond, List, [], ◌∷◌, Option, Some, None, refl, sym, ap, ◌∙◌, arith}
use Rattle.std.specs.Prelude.{◌==◌, option_map, slice_get}
use Rattle.std.specs.List.{filter_map, cons_option}
use Rattle.std.proofs.lemmas.Bool.{eqb-true}
use Rattle.std.proofs.lemmas.List.Sums.{sum_by-cons}
use Rattle.std.proofs.lemmas.Option.{get_or_from_slice_get, same_Some, slice_get_within}
use Rattle.flame_spec.specs.declared.models.MessageType.{MessageType}
use Rattle.flame_spec.specs.declared.models.Model.{Model}
use Rattle.flame_spec.specs.declared.outcomes.Source.{Source}
use Rattle.flame_spec.specs.Accepted.{IsAccepted}
use Rattle.flame_spec.specs.Below.{times, HasNoTwice}
use Rattle.flame_spec.specs.Functions.{Place, functions}
use Rattle.flame_spec.proofs.FunctionPlaces.{functions_from-function}
use Rattle.flame_meaning.specs.Outcomes.{message_named, outputs_at}
use Rattle.flame_spec_laws.specs.DistinctNames.{AreDistinct}
use Rattle.flame_spec_laws.proofs.Members.{outputs_distinct}
use Rattle.flame_world.proofs.RowsKept.{place_type}
use Rattle.flame_events.specs.LegalEvents.{outputs_of}
use Rattle.flame_events.proofs.Spots.{named}

abbrev number_of : Model → List ℕ → Option ℕ
number_of model name = option_map (λ found. found.0) (message_named model.messages name)

-- two names of one number are one
one_name : (model : Model) (n : ℕ) (name other : List ℕ) → number_of model name ≡ Some n → number_of model other ≡ Some n → name ≡ other
one_name model n name other is too =
    let one = named model name n is in
    let two = named model other n too in
    let same : one.message ≡ two.message = same_Some one.message two.message (sym one.there ∙ two.there) in
    sym one.name_is ∙ ap (λ (message : MessageType). message.name) same ∙ two.name_is

-- a number that no name has does not stand there
none_there : (model : Model) (n : ℕ) (names : List (List ℕ)) → ((k : ℕ) (name : List ℕ) → slice_get names k ≡ Some name → number_of model name ≡ Some n → ⊥)
    → times n (filter_map (number_of model) names) ≡ 0
none_there model n [] never = refl
none_there model n (name ∷ names) never =
    go (none_there model n names (λ k other at is. never (suc k) other at is)) (number_of model name) refl
  where
    go : times n (filter_map (number_of model) names) ≡ 0
        → (o : Option ℕ) → number_of model name ≡ o → times n (cons_option o (filter_map (number_of model) names)) ≡ 0
    go rest None is = rest
    go rest (Some m) is =
        sum_by-cons (λ x. cond (x == n) 1 0) m (filter_map (number_of model) names)
        ∙ (elim (m == n) as (λ t. (m == n) ≡ t → cond t 1 0 + times n (filter_map (number_of model) names) ≡ 0) [
          | true ↦ λ same. absurd (never 0 name refl (is ∙ ap Some (eqb-true m n same)))
          | false ↦ λ _. omega (arith, rest)
        ])
        refl

once : (model : Model) (names : List (List ℕ)) → AreDistinct names → HasNoTwice (filter_map (number_of model) names)
once model [] distinct n = omega arith
once model (name ∷ names) distinct n =
    go (once model names (λ i k less within. distinct (suc i) (suc k) (omega (arith, less)) (omega (arith, within))) n) (number_of model name) refl
  where
    never : number_of model name ≡ Some n → (k : ℕ) (other : List ℕ) → slice_get names k ≡ Some other → number_of model other ≡ Some n → ⊥
    never is k other at too =
        distinct 0 (suc k) (omega arith) (omega (arith, slice_get_within names k other at))
        (one_name model n name other is too ∙ sym (get_or_from_slice_get names k other [] at))

    go : times n (filter_map (number_of model) names) ≤ 1
        → (o : Option ℕ) → number_of model name ≡ o → times n (cons_option o (filter_map (number_of model) names)) ≤ 1
    go rest None is = rest
    go rest (Some m) is =
        let all = sum_by-cons (λ x. cond (x == n) 1 0) m (filter_map (number_of model) names) in
        let bound : cond (m == n) 1 0 + times n (filter_map (number_of model) names) ≤ 1 =
        (elim (m == n) as (λ t. (m == n) ≡ t → cond t 1 0 + times n (filter_map (number_of model) names) ≤ 1) [
          | true ↦ λ same. omega (arith, none_there model n names (never (is ∙ ap Some (eqb-true m n same))))
          | false ↦ λ _. omega (arith, rest)
        ])
        refl in
        omega (arith, all, bound)

pub outputs_once : (source : Source) → IsAccepted source → (f : ℕ) → HasNoTwice (outputs_of source.model f)
outputs_once source accepted f = go (slice_get (functions source.model) f) refl
  where
    go : (o : Option Place) → slice_get (functions source.model) f ≡ o → HasNoTwice (outputs_at o source.model)
    go None at = λ n. omega arith
    go (Some place) at =
        let found = functions_from-function 0 source.model.agents f place at in
        once source.model place.function.outputs
        (outputs_distinct source.model accepted.named place.agent found.0 place.type place.function
        (place_type source.model f place at) found.1)
