-- What agents choose, and who leaves and who stays by it.
use Rattle.std.proofs.Common.{◌≡◌, ℕ, suc, ◌+◌, ◌≤◌, ◌<◌, Bool, true, false, cond, List, [], ◌∷◌, Vec, length, map, Option, Some, inl, inr, sym, ap, ◌∙◌, arith, subst}
use Rattle.std.specs.Prelude.{ℤ, ◌==◌, not, slice_get, slice_index_or}
use Rattle.std.specs.Option.{option_map_or}
use Rattle.std.specs.Global.{Global}
use Rattle.std.specs.List.{All, filter, position_or_len}
use Rattle.std.proofs.lemmas.Bool.Decides.{eqb_tells}
use Rattle.std.proofs.lemmas.List.Elements.{All-map}
use Rattle.std.proofs.lemmas.Option.{get_or_from_slice_get}
use Rattle.flame_spec.specs.declared.models.AgentType.{AgentType}
use Rattle.flame_spec.specs.declared.models.Model.{Model}
use Rattle.flame_spec.specs.Choice.{choice, functions_out, is_chosen, takers}
use Rattle.flame_spec.specs.Functions.{Place, functions}
use Rattle.flame_spec.specs.States.{states, state_place}
use Rattle.flame_cond.specs.declared.forms.Test.{Test}
use Rattle.flame_cond.specs.Said.{AreConditionsOf}
use Rattle.flame_pool.specs.Choosing.{choices_of, first_place}
use Rattle.flame_pool.specs.PoolLaws.{chosen_place, permits_at}
use Rattle.flame_pool.proofs.AsChosen.{first_is_chosen_place, takers_by_place}
use Rattle.flame_world.proofs.RowsKept.{place_type}
use Rattle.flame_field.specs.declared.pools.Pool.{Pool}
use Rattle.flame_field.specs.KeptPools.{pool_at, HaveChosen}
use Rattle.flame_route.specs.declared.routes.Route.{Route}
use Rattle.flame_round.specs.Choices.{choice_at, state_at}
use Rattle.flame_round.specs.KeptRounds.{GoesBy}
use Rattle.flame_round.proofs.Gets.{has-at}
use Rattle.flame_round.proofs.StatePlaces.{from_place}
use Rattle.flame_round.proofs.Stepped.{one-place, state-there}

-- ---- what each chooses

-- the first that passes stands in the list, or behind it
position-within : {X : Type 0} (p : X → Bool) (xs : List X) → position_or_len p xs ≤ length xs
position-within p [] = omega arith
position-within p (x ∷ xs) =
    elim (p x) as (λ t. cond (not t) (1 + position_or_len p xs) 0 ≤ suc (length xs)) [
      | true ↦ omega arith
      | false ↦ omega (arith, position-within p xs)
    ]

-- a choice is a place among the functions out of the state, or behind them
pub choice-within : (model : Model) (iteration : ℤ) (agent state : ℕ) (pool : List (List ℤ))
    → All (λ place. place < length (functions_out model agent (state_at model agent state)) + 1)
    (map (choice_at model iteration agent state) pool)
choice-within model iteration agent state pool =
    let out = functions_out model agent (state_at model agent state) in
    All-map (λ place. place < length out + 1) (choice_at model iteration agent state) pool
    (λ k d less. omega (arith, position-within (permits_at model (slice_index_or pool k d) iteration) out))

module _ (model : Model) (function : ℕ) (route : Route) (goes : GoesBy model function route) where
  abbrev own : Place
  own = goes.place

  -- the state of the route is the one that the function leaves
  pub state-left : state_at model route.agent route.from ≡ own.function.current
  state-left =
      let type = own.type in
      let found = has-at (states type.functions) (state_place type own.function.current) (from_place model function own goes.there) in
      (λ i. state_at model (goes.routed.agent i) (goes.routed.from i))
      ∙ ap (λ (found : Option AgentType). option_map_or (λ t. slice_index_or (states t.functions) (state_place type own.function.current) []) found []) (place_type model function own goes.there)
      ∙ get_or_from_slice_get (states type.functions) (state_place type own.function.current) found.item [] found.there
      ∙ state-there type own.function.current found.item found.there

  -- what is chosen there
  pub choice-left : (iteration : ℤ) (memory : List ℤ)
      → choice_at model iteration route.agent route.from memory ≡ chosen_place model own.agent own.function.current iteration memory
  choice-left iteration memory = λ i. chosen_place model (goes.routed.agent i) (state-left i) iteration memory

  -- agents that choose by number choose so
  pub choices-left : (conditions : List (Option Test)) (iteration : ℤ) (pool : List (List ℤ)) (out choices : List ℕ)
      → AreConditionsOf conditions model
      → out ≡ functions_out model own.agent own.function.current
      → choices ≡ choices_of conditions out iteration pool
      → choices ≡ map (choice_at model iteration route.agent route.from) pool
  choices-left conditions iteration pool out choices says is chose =
      let each : (memory : List ℤ)
      → first_place conditions (functions_out model own.agent own.function.current) iteration memory
      ≡ choice_at model iteration route.agent route.from memory =
      λ memory. first_is_chosen_place model conditions own.agent own.function.current memory iteration says ∙ sym (choice-left iteration memory) in
      chose
      ∙ ap (λ fs. choices_of conditions fs iteration pool) is
      ∙ (λ i. map (λ memory. each memory i) pool)

  -- the functions out of the state that is left
  pub out-left : functions_out model route.agent (state_at model route.agent route.from) ≡ functions_out model own.agent own.function.current
  out-left = λ i. functions_out model (goes.routed.agent i) (state-left i)

  -- who chose the function's place takes it, and the others stay
  pub takers-left : (place : Place) (iteration : ℤ) (pool : List (List ℤ))
      → slice_get (functions model) function ≡ Some place
      → filter (λ memory. choice_at model iteration route.agent route.from memory == route.choice) pool
      ≡ takers model place.agent place.function.current function iteration pool
  takers-left place iteration pool there =
      (λ i. filter (λ memory. choice-left iteration memory i == route.choice) pool)
      ∙ (takers_by_place model own.agent own.function.current iteration pool route.choice function goes.choice).0
      ∙ ap (λ (p : Place). takers model p.agent p.function.current function iteration pool) (one-place model function own place goes.there there)

  pub others-left : (place : Place) (iteration : ℤ) (pool : List (List ℤ))
      → slice_get (functions model) function ≡ Some place
      → filter (λ memory. not (choice_at model iteration route.agent route.from memory == route.choice)) pool
      ≡ filter (λ memory. not (is_chosen function (choice model place.agent place.function.current memory iteration))) pool
  others-left place iteration pool there =
      (λ i. filter (λ memory. not (choice-left iteration memory i == route.choice)) pool)
      ∙ (takers_by_place model own.agent own.function.current iteration pool route.choice function goes.choice).1
      ∙ ap (λ (p : Place). filter (λ memory. not (is_chosen function (choice model p.agent p.function.current memory iteration))) pool)
      (one-place model function own place goes.there there)

-- ---- pools as they are kept

-- the pool that is kept there has chosen
pub have-chosen : (pools : Vec (Vec Pool Global) Global) (agent state : ℕ) (pool : Pool)
    → pool_at pools.items agent state ≡ Some pool
    → pool.fresh.rows.items ≡ []
    → HaveChosen pools agent state
have-chosen pools agent state pool at none other there =
    let same : Some pool ≡ Some other = sym at ∙ there in
    let one : pool ≡ other = cc in
    subst (λ (p : Pool). p.fresh.rows.items ≡ []) one none

-- where one pool alone is another one, whose agents all chose where those of the old one did, all stay chosen
module _ (old mid new : Vec (Vec Pool Global) Global) (agent state : ℕ) (pool : Pool)
    (first : (a s : ℕ) → (a ≡ agent → s ≡ state → ⊥) → pool_at mid.items a s ≡ pool_at old.items a s)
    (second : (a s : ℕ) → (a ≡ agent → s ≡ state → ⊥) → pool_at new.items a s ≡ pool_at mid.items a s)
    (placed : pool_at new.items agent state ≡ Some pool)
    (own : HaveChosen old agent state → pool.fresh.rows.items ≡ []) where
  elsewhere : (a s : ℕ) → (a ≡ agent → s ≡ state → ⊥) → HaveChosen old a s → HaveChosen new a s
  elsewhere a s other chosen found at = chosen found (sym (second a s other ∙ first a s other) ∙ at)

  here : (a s : ℕ) → a ≡ agent → s ≡ state → HaveChosen old a s → HaveChosen new a s
  here a s one two chosen =
      let before : HaveChosen old agent state = subst (λ n. HaveChosen old agent n) two (subst (λ n. HaveChosen old n s) one chosen) in
      let after : HaveChosen new agent state = have-chosen new agent state pool placed (own before) in
      subst (λ n. HaveChosen new n s) (sym one) (subst (λ n. HaveChosen new agent n) (sym two) after)

  pub chosen-stay : (a s : ℕ) → HaveChosen old a s → HaveChosen new a s
  chosen-stay a s =
      elim (eqb_tells a agent) [
        | inl one ↦ elim (eqb_tells s state) [
          | inl two ↦ here a s one.1 two.1
          | inr differ ↦ elsewhere a s (λ _ same. differ.1 same)
        ]
        | inr differ ↦ elsewhere a s (λ same _. differ.1 same)
      ]
