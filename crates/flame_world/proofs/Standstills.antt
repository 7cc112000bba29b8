-- Where nothing happens.
use Rattle.std.proofs.Common.{◌≡◌, ℕ, ◌+◌, List, [], ◌∷◌, ◌++◌, map, length, Some, Ok, refl, sym, ap, ◌∙◌, arith, subst, append-nil}
use Rattle.std.specs.Prelude.{ℤ, slice_get}
use Rattle.std.specs.List.{zip, flat_map}
use Rattle.flame_rows.specs.Order.{row_order}
use Rattle.flame_rows.specs.Sorted.{IsAscending}
use Rattle.flame_rows.specs.Bags.{ascending, merge}
use Rattle.flame_rows.proofs.BagLaws.{ascending-IsAscending, empty_is_unit}
use Rattle.flame_spec.specs.declared.models.AgentType.{AgentType}
use Rattle.flame_spec.specs.declared.models.Function.{Function}
use Rattle.flame_spec.specs.declared.outcomes.Source.{Source}
use Rattle.flame_spec.specs.Functions.{Place, functions, functions_from, at_type}
use Rattle.flame_spec.specs.Choice.{choice, is_chosen}
use Rattle.flame_spec.specs.Before.{before}
use Rattle.flame_spec.specs.ModelOrder.{order, model_order}
use Rattle.flame_meaning.specs.RangeLaws.{Each}
use Rattle.flame_world.specs.declared.turns.Turn.TheVariants.{Done}
use Rattle.flame_world.specs.declared.worlds.World.{World}
use Rattle.flame_world.specs.AgentRuns.{survivors, sent_from, born_from, least_fault, messages_of, births_of}
use Rattle.flame_spec.specs.States.{state_place}
use Rattle.flame_world.specs.Fields.{Field, begun, opening, pool_in, changed_pool, joined, gathered}
use Rattle.flame_world.specs.Iterations.{Round, resting, taking, staying, outcome_in, moved, step_at, step, steps, unless_faulted, turn_of, round_of, iteration}
use Rattle.flame_world.specs.IterationLaws.{HasBags, NobodyChangesNothing, NoFunctionsNoChange}
use Rattle.flame_world.proofs.Changing.{changed_pool-same, pool-IsAscending, joined_from-none, filter-none}

-- ---- a function that nobody takes

-- the field after these agents ran
abbrev moved_by : Round → ℕ → Place → Field → List (List ℤ) → Field
moved_by round function place field agents =
    let run = outcome_in round function field in
    record {
      pools =
          changed_pool place.agent (state_place place.type place.function.next) (λ pool. merge pool (survivors run agents))
          (changed_pool place.agent (state_place place.type place.function.current) (staying round function place)
          field.pools);
      born = joined (births_of (born_from run agents)) field.born;
      boards = joined (messages_of (sent_from run agents)) field.boards;
    }

nobody_moves : (round : Round) (function : ℕ) (place : Place) (field : Field)
    → HasBags field
    → taking round function place field ≡ []
    → moved_by round function place field [] ≡ field
nobody_moves round function place field bags none =
    let current = state_place place.type place.function.current in
    let next = state_place place.type place.function.next in
    let all_stay : staying round function place (resting place field) ≡ resting place field =
    filter-none
    (λ memory. is_chosen function (choice round.source.model place.agent place.function.current memory round.iteration))
    (resting place field) none in
    let left = changed_pool-same (staying round function place) place.agent current field.pools all_stay in
    let arrived =
    changed_pool-same (λ pool. merge pool []) place.agent next field.pools
    (empty_is_unit (pool_in field.pools place.agent next) (pool-IsAscending field.pools place.agent next bags.pools)).1 in
    (λ i. record {
      pools = (ap (changed_pool place.agent next (λ pool. merge pool [])) left ∙ arrived) i;
      born = joined_from-none (births_of []) 0 field.born (λ n. refl) bags.born i;
      boards = joined_from-none (messages_of []) 0 field.boards (λ n. refl) bags.boards i;
    })

pub nobody_changes_nothing : NobodyChangesNothing
nobody_changes_nothing round function place field bags at none =
    let run = outcome_in round function field in
    ap (λ found. step_at found round function field) at
    ∙ (λ i. unless_faulted (least_fault round.iteration function run (none i)) (moved_by round function place field (none i)))
    ∙ ap Ok (nobody_moves round function place field bags none)

-- ---- no functions

no_type_has_any : (i : ℕ) (type : AgentType) (types : List AgentType)
    → functions_from i (type ∷ types) ≡ []
    → (type.functions ≡ []) × (functions_from (i + 1) types ≡ [])
no_type_has_any i type types none = split type.functions none
  where
    split : (own : List Function) → map (at_type i type) own ++ functions_from (i + 1) types ≡ [] → (own ≡ []) × (functions_from (i + 1) types ≡ [])
    split [] rest = (refl, rest)
    split (function ∷ own) some = absurd cc

begun-none : (type : AgentType) (agents : List (List ℤ)) → type.functions ≡ [] → begun type agents ≡ ascending agents ∷ []
begun-none type agents none = ap (λ own. begun (record type { functions = own }) agents) none

-- each type's agents are those of its one state
back_again : (i : ℕ) (types : List AgentType) (bags : List (List (List ℤ)))
    → functions_from i types ≡ []
    → length bags ≡ length types
    → Each (IsAscending row_order) bags
    → map (λ (pools, born). merge (flat_map (λ pool. pool) pools) born)
    (zip (map (λ (type, bag). begun type bag) (zip types bags)) (map (λ type. []) types))
    ≡ bags
back_again i [] [] none long up = refl
back_again i [] (bag ∷ bags) none long up = absurd (omega (arith, long))
back_again i (type ∷ types) [] none long up = absurd (omega (arith, long))
back_again i (type ∷ types) (bag ∷ bags) none long up =
    let own = no_type_has_any i type types none in
    let here : merge (flat_map (λ pool. pool) (begun type bag)) [] ≡ bag =
    ap (λ pools. merge (flat_map (λ pool. pool) pools) []) (begun-none type bag own.0)
    ∙ ap (λ rows. merge rows []) (append-nil (ascending bag) ∙ ascending-IsAscending bag up.0)
    ∙ (empty_is_unit bag up.0).1 in
    (λ j. here j ∷ back_again (i + 1) types bags own.1 (omega (arith, long)) up.1 j)

pub no_functions_no_change : NoFunctionsNoChange
no_functions_no_change source world number fuel none long up =
    let model = source.model in
    let idle : model_order model ≡ [] = ap (λ n. order n (before model)) (ap length none) in
    ap (λ functions. turn_of world.constants (steps (round_of source world number fuel) functions (opening model world.agents))) idle
    ∙ ap
    (λ agents. Done (record { constants = world.constants; agents = agents }) (record { boards = map (λ message. []) model.messages }))
    (back_again 0 model.agents world.agents none long up)
