-- The choices by numbers are those of the model.
use Rattle.std.proofs.Common.{◌≡◌, ℕ, zero, suc, ◌+◌, ◌≤◌, Bool, true, false, cond, List, [], ◌∷◌, map, Option, Some, None, refl, sym, ap, ◌∙◌, arith, inl, inr, add-zero}
use Rattle.std.specs.Prelude.{ℤ, ◌==◌, not, ◌&&◌}
use Rattle.std.specs.List.{AllZip, find, filter, slice_get, position_from, position_or_len}
use Rattle.std.specs.Option.{option_map_or}
use Rattle.std.proofs.lemmas.Bool.Decides.{eqb_tells}
use Rattle.std.proofs.lemmas.List.Folds.{find_at}
use Rattle.std.proofs.lemmas.Iterator.Adapters.{position_from-zero}
use Rattle.std.proofs.lemmas.Bool.{ne_eqb, eq-eqb}
use Rattle.flame_spec.specs.declared.models.Model.{Model}
use Rattle.flame_spec.specs.declared.models.TimeUnit.{TimeUnit}
use Rattle.flame_spec.specs.declared.models.AgentType.{AgentType}
use Rattle.flame_spec.specs.declared.conditions.Condition.{Condition}
use Rattle.flame_spec.specs.Lists.{numbers_from}
use Rattle.flame_spec.specs.Functions.{Place, functions}
use Rattle.flame_spec.specs.Choice.{permits, leaves, may_take, functions_out, choice, is_chosen}
use Rattle.flame_cond.specs.declared.forms.Test.{Test}
use Rattle.flame_pool.specs.Choosing.{lets_through, admits, first_place}
use Rattle.flame_rows.specs.Parted.{whose}
use Rattle.flame_cond.specs.Said.{IsConditionOf}
use Rattle.flame_pool.specs.PoolLaws.{permits_at, chosen_place, ChoiceIsFirstOut, FirstIsChosenPlace, PlaceIsChoice, TakersByPlace, WhoseAreTakers}

-- ---- the first of all that pass two tests is the first, of those that pass one, that passes the other

module _ {X : Type 0} (p q : X → Bool) where
  pub find-numbers : (test : ℕ → Bool) (i : ℕ) (xs : List X)
      → ((k : ℕ) (x : X) → slice_get xs k ≡ Some x → test (i + k) ≡ q x)
      → find test (numbers_from p i xs) ≡ position_from (λ x. p x && q x) i xs
  find-numbers test i [] tells = refl
  find-numbers test i (x ∷ xs) tells =
      let here : test i ≡ q x = ap test (sym (add-zero i)) ∙ tells 0 x refl in
      let later =
      find-numbers test (i + 1) xs (λ k y at. ap test (omega arith) ∙ tells (suc k) y at) in
      elim (p x) as (λ t. find test (cond t (i ∷ numbers_from p (i + 1) xs) (numbers_from p (i + 1) xs))
      ≡ cond (t && q x) (Some i) (position_from (λ y. p y && q y) (i + 1) xs)) [
        | true ↦ (λ j. cond (here j) (Some i) (later j))
        | false ↦ later
      ]

-- ---- the first is the same by tests that tell the same of each number

module _ {X : Type 0} (p : X → Bool) (one other : ℕ → Bool) where
  pub same-place : (i : ℕ) (xs : List X)
      → ((k : ℕ) (x : X) → slice_get xs k ≡ Some x → one (i + k) ≡ other (i + k))
      → position_or_len one (numbers_from p i xs) ≡ position_or_len other (numbers_from p i xs)
  same-place i [] tells = refl
  same-place i (x ∷ xs) tells =
      let here : one i ≡ other i = ap one (sym (add-zero i)) ∙ tells 0 x refl ∙ ap other (add-zero i) in
      let later =
      same-place (i + 1) xs (λ k y at. ap one (omega arith) ∙ tells (suc k) y at ∙ ap other (omega arith)) in
      let rest = numbers_from p (i + 1) xs in
      elim (p x) as (λ t. position_or_len one (cond t (i ∷ rest) rest) ≡ position_or_len other (cond t (i ∷ rest) rest)) [
        | true ↦ (λ j. cond (not (here j)) (1 + later j) 0)
        | false ↦ later
      ]

-- ---- no number stands twice

some_least : (i n k : ℕ) (ns : List ℕ)
    → ((k : ℕ) → slice_get ns k ≡ Some n → i + 1 ≤ n)
    → slice_get (i ∷ ns) k ≡ Some n
    → i ≤ n
some_least i n zero ns later at = let same : i ≡ n = cc in omega arith
some_least i n (suc k) ns later at = omega (arith, later k at)

some_once : (i n k l : ℕ) (ns : List ℕ)
    → ((k : ℕ) → slice_get ns k ≡ Some n → i + 1 ≤ n)
    → ((k l : ℕ) → slice_get ns k ≡ Some n → slice_get ns l ≡ Some n → k ≡ l)
    → slice_get (i ∷ ns) k ≡ Some n
    → slice_get (i ∷ ns) l ≡ Some n
    → k ≡ l
some_once i n zero zero ns later once at also = refl
some_once i n zero (suc l) ns later once at also =
    let same : i ≡ n = cc in absurd (omega (arith, later l also))
some_once i n (suc k) zero ns later once at also =
    let same : i ≡ n = cc in absurd (omega (arith, later k at))
some_once i n (suc k) (suc l) ns later once at also = ap suc (once k l at also)

module _ {X : Type 0} (p : X → Bool) (n : ℕ) where
  numbers-least : (i : ℕ) (xs : List X) (k : ℕ) → slice_get (numbers_from p i xs) k ≡ Some n → i ≤ n
  numbers-least i [] k at = absurd cc
  numbers-least i (x ∷ xs) k at =
      (elim (p x) as (λ t. slice_get (cond t (i ∷ numbers_from p (i + 1) xs) (numbers_from p (i + 1) xs)) k ≡ Some n → i ≤ n) [
        | true ↦ λ there. some_least i n k (numbers_from p (i + 1) xs) (numbers-least (i + 1) xs) there
        | false ↦ λ there. omega (arith, numbers-least (i + 1) xs k there)
      ])
      at

  pub numbers-once : (i : ℕ) (xs : List X) (k l : ℕ)
      → slice_get (numbers_from p i xs) k ≡ Some n
      → slice_get (numbers_from p i xs) l ≡ Some n
      → k ≡ l
  numbers-once i [] k l at also = absurd cc
  numbers-once i (x ∷ xs) k l at also =
      let rest = numbers_from p (i + 1) xs in
      (elim (p x) as (λ t. slice_get (cond t (i ∷ rest) rest) k ≡ Some n → slice_get (cond t (i ∷ rest) rest) l ≡ Some n → k ≡ l) [
        | true ↦ λ there too. some_once i n k l rest (numbers-least (i + 1) xs) (numbers-once (i + 1) xs) there too
        | false ↦ λ there too. numbers-once (i + 1) xs k l there too
      ])
      at also

not_chosen : (function : ℕ) (o : Option ℕ) → ((n : ℕ) → o ≡ Some n → n ≡ function → ⊥) → is_chosen function o ≡ false
not_chosen function None other = refl
not_chosen function (Some n) other = ne_eqb n function (other n refl)

-- an agent chose the place where it chose the function there
module _ (numbers : List ℕ) (function place : ℕ) (at : slice_get numbers place ≡ Some function)
    (once : (k l : ℕ) → slice_get numbers k ≡ Some function → slice_get numbers l ≡ Some function → k ≡ l) where
  pub place-chosen : (chosen : ℕ) → (chosen == place) ≡ is_chosen function (slice_get numbers chosen)
  place-chosen chosen = elim (eqb_tells chosen place) [
    | inl agree ↦
        agree.0
        ∙ sym (eq-eqb function function refl)
        ∙ ap (is_chosen function) (sym at ∙ ap (slice_get numbers) (sym agree.1))
    | inr differ ↦
        differ.0
        ∙ sym (
        not_chosen function (slice_get numbers chosen)
        (λ n there same. differ.1 (once chosen place (there ∙ ap Some same) at))
        )
  ]

-- ---- parting by what each agent chose

whose-map : (passes : ℕ → Bool) (chosen : List ℤ → ℕ) (pool : List (List ℤ)) → whose passes pool (map chosen pool) ≡ filter (λ memory. passes (chosen memory)) pool
whose-map passes chosen [] = refl
whose-map passes chosen (memory ∷ pool) =
    ap (λ rest. cond (passes (chosen memory)) (memory ∷ rest) rest) (whose-map passes chosen pool)

-- ---- conditions

read_lets : (read : Option Test) (condition : Option Condition) (agent : AgentType) (units : List TimeUnit) (memory : List ℤ) (iteration : ℤ)
    → IsConditionOf read condition agent units
    → lets_through read memory iteration ≡ permits agent units condition memory iteration
read_lets None None agent units memory iteration says = refl
read_lets None (Some condition) agent units memory iteration says = absurd says
read_lets (Some test) None agent units memory iteration says = absurd says
read_lets (Some test) (Some condition) agent units memory iteration says = says memory iteration

module _ (units : List TimeUnit) (memory : List ℤ) (iteration : ℤ) where
  admits-at : (places : List Place) (conditions : List (Option Test))
      → AllZip (λ place read. IsConditionOf read place.function.condition place.type units) places conditions
      → (k : ℕ) (place : Place)
      → slice_get places k ≡ Some place
      → admits conditions iteration memory k ≡ permits place.type units place.function.condition memory iteration
  admits-at [] conditions says k place at = absurd cc
  admits-at (here ∷ places) [] says k place at = absurd says
  admits-at (here ∷ places) (read ∷ conditions) says zero place at =
      let same : here ≡ place = cc in
      read_lets read here.function.condition here.type units memory iteration says.0
      ∙ ap (λ p. permits p.type units p.function.condition memory iteration) same
  admits-at (here ∷ places) (read ∷ conditions) says (suc k) place at = admits-at places conditions says.1 k place at

-- ---- the laws

first_found : (model : Model) (agent : ℕ) (state : List ℕ) (memory : List ℤ) (iteration : ℤ) (test : ℕ → Bool)
    → ((k : ℕ) (place : Place) → slice_get (functions model) k ≡ Some place → test k ≡ permits place.type model.units place.function.condition memory iteration)
    → find test (functions_out model agent state) ≡ choice model agent state memory iteration
first_found model agent state memory iteration test tells =
    find-numbers (leaves agent state) (λ place. permits place.type model.units place.function.condition memory iteration) test 0 (functions model)
    (λ k place at. ap test (omega arith) ∙ tells k place at)
    ∙ sym (position_from-zero (may_take model.units agent state memory iteration) (functions model))

pub choice_is_first_out : ChoiceIsFirstOut
choice_is_first_out model agent state memory iteration =
    sym (
    first_found model agent state memory iteration (permits_at model memory iteration)
    (λ k place at. ap (λ found. option_map_or (λ p. permits p.type model.units p.function.condition memory iteration) found false) at)
    )

pub place_is_choice : PlaceIsChoice
place_is_choice model conditions agent state memory iteration says =
    sym (find_at (admits conditions iteration memory) (functions_out model agent state))
    ∙ first_found model agent state memory iteration (admits conditions iteration memory)
    (admits-at model.units memory iteration (functions model) conditions says)

filter-same : (p q : List ℤ → Bool) → ((memory : List ℤ) → p memory ≡ q memory) → (pool : List (List ℤ)) → filter p pool ≡ filter q pool
filter-same p q same [] = refl
filter-same p q same (memory ∷ pool) =
    (λ i. cond (same memory i) (memory ∷ filter-same p q same pool i) (filter-same p q same pool i))

pub whose_are_takers : WhoseAreTakers
whose_are_takers model conditions agent state iteration pool place function says at =
    let numbers = functions_out model agent state in
    let chosen = first_place conditions numbers iteration in
    let is_it =
    λ (memory : List ℤ).
    place-chosen numbers function place at (numbers-once (leaves agent state) function 0 (functions model)) (chosen memory)
    ∙ ap (is_chosen function) (place_is_choice model conditions agent state memory iteration says) in (
      whose-map (λ c. c == place) chosen pool ∙ filter-same _ _ is_it pool,
      whose-map (λ c. not (c == place)) chosen pool ∙ filter-same _ _ (λ memory. ap not (is_it memory)) pool,
    )

pub first_is_chosen_place : FirstIsChosenPlace
first_is_chosen_place model conditions agent state memory iteration says =
    same-place (leaves agent state) (admits conditions iteration memory) (permits_at model memory iteration) 0
    (functions model)
    (λ k place at.
    ap (admits conditions iteration memory) (omega arith)
    ∙ admits-at model.units memory iteration (functions model) conditions says k place at
    ∙ ap (λ found. option_map_or (λ p. permits p.type model.units p.function.condition memory iteration) found false) (sym at)
    ∙ ap (permits_at model memory iteration) (omega arith))

pub takers_by_place : TakersByPlace
takers_by_place model agent state iteration pool place function at =
    let numbers = functions_out model agent state in
    let chosen = chosen_place model agent state iteration in
    let is_it =
    λ (memory : List ℤ).
    place-chosen numbers function place at (numbers-once (leaves agent state) function 0 (functions model)) (chosen memory)
    ∙ ap (is_chosen function) (
    sym (find_at (permits_at model memory iteration) numbers) ∙ sym (choice_is_first_out model agent state memory iteration)
    ) in (filter-same _ _ is_it pool, filter-same _ _ (λ memory. ap not (is_it memory)) pool)
