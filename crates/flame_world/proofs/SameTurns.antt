-- What an iteration depends on.
use Rattle.std.proofs.Common.{◌≡◌, ◌⊎◌, inl, inr, ℕ, ◌+◌, Bool, true, false, cond, List, [], ◌∷◌, map, refl, sym, ap, ◌∙◌, arith, zero-add, true≢false}
use Rattle.std.specs.Prelude.{ℤ}
use Rattle.std.specs.List.{AllZip, filter, zip}
use Rattle.std.specs.Ordering.{eq_by_cmp}
use Rattle.std.proofs.lemmas.List.Sums.{sum_by-cons}
use Rattle.std.proofs.lemmas.Map.Views.{tells_apart}
use Rattle.flame_rows.specs.Order.{row_order}
use Rattle.flame_rows.specs.Bags.{ascending, count_of}
use Rattle.flame_rows.proofs.BagLaws.{IsAscending-ascending, ascending_keeps_counts, equal_by_counts, rows_tied}
use Rattle.flame_spec.specs.declared.models.AgentType.{AgentType}
use Rattle.flame_spec.specs.Choice.{choice, is_chosen}
use Rattle.flame_spec.specs.ModelOrder.{model_order}
use Rattle.flame_spec.specs.States.{is_entered, states}
use Rattle.flame_meaning.specs.Outcomes.{outcome}
use Rattle.flame_world.specs.declared.worlds.World.{World}
use Rattle.flame_world.specs.Fields.{begun, opening}
use Rattle.flame_world.specs.Iterations.{resting, taking, outcome_in, steps, turn_of, iteration}
use Rattle.flame_world.specs.IterationLaws.{AreAlike, AgentsHaveNoOrder, EqualAgentsChooseAlike, EqualAgentsFareAlike}

-- ---- in whatever order

same_bag : (rows others : List (List ℤ)) → AreAlike rows others → ascending rows ≡ ascending others
same_bag rows others alike =
    equal_by_counts (ascending rows) (ascending others) (IsAscending-ascending rows) (IsAscending-ascending others)
    (λ row. ascending_keeps_counts rows row ∙ alike row ∙ sym (ascending_keeps_counts others row))

same_pools : (types : List AgentType) (bags others : List (List (List ℤ)))
    → AllZip AreAlike bags others
    → map (λ (type, bag). begun type bag) (zip types bags) ≡ map (λ (type, bag). begun type bag) (zip types others)
same_pools [] bags others alike = refl
same_pools (type ∷ types) [] [] alike = refl
same_pools (type ∷ types) [] (other ∷ others) alike = absurd alike
same_pools (type ∷ types) (bag ∷ bags) [] alike = absurd alike
same_pools (type ∷ types) (bag ∷ bags) (other ∷ others) alike =
    (λ i. map (λ state. cond (is_entered type.functions state) [] (same_bag bag other alike.0 i)) (states type.functions)
    ∷ same_pools types bags others alike.1 i)

pub agents_have_no_order : AgentsHaveNoOrder
agents_have_no_order source world other number fuel same =
    let model = source.model in
    let pools = same_pools model.agents world.agents other.agents same.agents in
    (λ i. turn_of (same.constants i)
    (steps (record { source = source; constants = same.constants i; iteration = number; fuel = fuel }) (model_order model)
    (record {
      pools = pools i;
      born = map (λ type. []) model.agents;
      boards = map (λ message. []) model.messages;
    })))

-- ---- equal agents

-- where a row that is hit passes the test as the other does, it is counted with it
by_tests : (passes wanted hit : Bool) (left all : ℕ)
    → (hit ≡ true → passes ≡ wanted)
    → left ≡ cond wanted all 0
    → cond passes (cond hit 1 0 + left) left ≡ cond wanted (cond hit 1 0 + all) 0
by_tests true true hit left all alike rest = ap (λ n. cond hit 1 0 + n) rest
by_tests true false true left all alike rest = absurd (true≢false (alike refl))
by_tests true false false left all alike rest = zero-add left ∙ rest
by_tests false true true left all alike rest = absurd (true≢false (sym (alike refl)))
by_tests false true false left all alike rest = rest ∙ sym (zero-add all)
by_tests false false hit left all alike rest = rest

count_of-filter : (p : List ℤ → Bool) (row : List ℤ) (rows : List (List ℤ))
    → count_of (filter p rows) row ≡ cond (p row) (count_of rows row) 0
count_of-filter p row [] = elim (p row) as (λ t. ◌≡◌ {A = ℕ} 0 (cond t 0 0)) [ true ↦ refl | false ↦ refl ]
count_of-filter p row (r ∷ rows) =
    let hit = eq_by_cmp row_order row r in
    let ones : List ℤ → ℕ = λ y. cond (eq_by_cmp row_order row y) 1 0 in
    let parts : count_of (cond (p r) (r ∷ filter p rows) (filter p rows)) row
    ≡ cond (p r) (cond hit 1 0 + count_of (filter p rows) row) (count_of (filter p rows) row) =
    elim (p r) as (λ t. count_of (cond t (r ∷ filter p rows) (filter p rows)) row
    ≡ cond t (cond hit 1 0 + count_of (filter p rows) row) (count_of (filter p rows) row)) [
      | true ↦ sum_by-cons ones r (filter p rows)
      | false ↦ refl
    ] in
    parts
    ∙ by_tests (p r) (p row) hit (count_of (filter p rows) row) (count_of rows row)
    (λ equal. sym (ap p (tells_apart rows_tied row r equal)))
    (count_of-filter p row rows)
    ∙ ap (λ n. cond (p row) n 0) (sym (sum_by-cons ones r rows))

all_or_none : (t : Bool) (n all : ℕ) → n ≡ cond t all 0 → (n ≡ all) ⊎ (n ≡ 0)
all_or_none true n all e = inl e
all_or_none false n all e = inr e

pub equal_agents_choose_alike : EqualAgentsChooseAlike
equal_agents_choose_alike round function place field memory =
    let takes : List ℤ → Bool =
    λ row. is_chosen function (choice round.source.model place.agent place.function.current row round.iteration) in
    all_or_none (takes memory) _ _ (count_of-filter takes memory (resting place field))

pub equal_agents_fare_alike : EqualAgentsFareAlike
equal_agents_fare_alike round function field other memory same =
    ap (λ boards. outcome round.source function memory boards round.constants round.iteration round.fuel) same
