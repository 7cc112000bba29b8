-- How many agents there are.
use Rattle.std.proofs.Common.{◌≡◌, ℕ, zero, suc, ◌+◌, ◌*◌, ◌<◌, Bool, true, false, cond, List, [], ◌∷◌, ◌++◌, length, map, Some, Ok, Option, None, refl, sym, ap, ◌∙◌, arith, subst, ◌⊎◌, inl, inr, zero-add}
use Rattle.std.specs.Prelude.{ℤ, not, ◌&&◌, slice_get, slice_index_or, IsTrue}
use Rattle.std.specs.List.{filter, AllZip, zip, flat_map, list_all}
use Rattle.std.proofs.lemmas.List.{length-append, length-map}
use Rattle.std.proofs.lemmas.Bool.{eqb-true, false≢true}
use Rattle.std.specs.declared.cmp.Ordering.{Ordering}
use Rattle.std.specs.Ordering.{is_gt}
use Rattle.flame_rows.specs.Order.{row_order}
use Rattle.flame_rows.specs.Sorted.{with_one, sorted_by}
use Rattle.flame_rows.specs.Bags.{ascending, merge}
use Rattle.flame_spec.specs.declared.models.AgentType.{AgentType}
use Rattle.flame_spec.specs.declared.models.Model.{Model}
use Rattle.flame_spec.specs.Accepted.{has_one_start}
use Rattle.flame_spec.specs.Choice.{choice, is_chosen}
use Rattle.flame_spec.specs.Functions.{Place, functions}
use Rattle.flame_spec.specs.States.{states, is_entered, start_states, state_place}
use Rattle.flame_spec.proofs.FunctionPlaces.{functions_from-function}
use Rattle.flame_world.specs.declared.faults.SimFault.{SimFault}
use Rattle.flame_world.specs.AgentRuns.{survivors}
use Rattle.flame_world.specs.Fields.{Field, HasPools, begun, opening, pool_in, changed, changed_pool, gathered}
use Rattle.flame_world.specs.Iterations.{Round, resting, taking, staying, outcome_in, moved, unless_faulted, step_at, step}
use Rattle.flame_world.specs.CountLaws.{count_in, resting_in, AllAgentsBegin, SurvivorsReplaceTakers, SurvivorsAndBirthsRemain}
use Rattle.flame_world.proofs.Eachs.{zip_at, zip_changed}
use Rattle.flame_world.proofs.NextStates.{next_state}
use Rattle.flame_world.proofs.RowsKept.{place_type}

-- ---- sums

total : {X : Type 0} → (X → ℕ) → List X → ℕ
total size [] = 0
total size (x ∷ xs) = size x + total size xs

length-flat_map : {X Y : Type 0} (f : X → List Y) (xs : List X) → length (flat_map f xs) ≡ total (λ x. length (f x)) xs
unfolding total
length-flat_map f [] = refl
length-flat_map f (x ∷ xs) = length-append (f x) (flat_map f xs) ∙ ap (λ n. length (f x) + n) (length-flat_map f xs)

-- where one element is changed, its size is changed
total-changed : {X : Type 0} (size : X → ℕ) (change : X → X) (d : X) (place : ℕ) (xs : List X)
    → (place < length xs) ⊎ (size (change d) ≡ size d)
    → total size (changed place change xs) + size (slice_index_or xs place d) ≡ total size xs + size (change (slice_index_or xs place d))
unfolding total
total-changed size change d place [] (inl within) = absurd (omega (arith, within))
total-changed size change d place [] (inr same) = omega (arith, same)
total-changed size change d zero (x ∷ xs) there = omega arith
total-changed size change d (suc place) (x ∷ xs) (inl within) = omega (arith, total-changed size change d place xs (inl (omega (arith, within))))
total-changed size change d (suc place) (x ∷ xs) (inr same) = omega (arith, total-changed size change d place xs (inr same))

pub length-changed : {X : Type 0} (place : ℕ) (change : X → X) (xs : List X) → length (changed place change xs) ≡ length xs
length-changed place change [] = refl
length-changed zero change (x ∷ xs) = refl
length-changed (suc place) change (x ∷ xs) = ap suc (length-changed place change xs)

length-with_one : {X : Type 0} (order : X → X → Ordering) (x : X) (xs : List X) → length (with_one order x xs) ≡ suc (length xs)
length-with_one order x [] = refl
length-with_one order x (y ∷ ys) =
    elim (is_gt (order x y)) as (λ t. length (cond t (y ∷ with_one order x ys) (x ∷ y ∷ ys)) ≡ suc (suc (length ys))) [
      | true ↦ ap suc (length-with_one order x ys)
      | false ↦ refl
    ]

pub length-sorted_by : {X : Type 0} (order : X → X → Ordering) (xs : List X) → length (sorted_by order xs) ≡ length xs
length-sorted_by order [] = refl
length-sorted_by order (x ∷ xs) = length-with_one order x (sorted_by order xs) ∙ ap suc (length-sorted_by order xs)

pub length-merge : (bag rows : List (List ℤ)) → length (merge bag rows) ≡ length bag + length rows
length-merge bag rows = length-sorted_by row_order (bag ++ rows) ∙ length-append bag rows

length-filter_both : {X : Type 0} (p : X → Bool) (xs : List X) → length (filter p xs) + length (filter (λ x. not (p x)) xs) ≡ length xs
length-filter_both p [] = refl
length-filter_both p (x ∷ xs) =
    let rest = length-filter_both p xs in
    elim (p x) as (λ t. length (cond t (x ∷ filter p xs) (filter p xs)) + length (cond (not t) (x ∷ filter (λ y. not (p y)) xs) (filter (λ y. not (p y)) xs)) ≡ suc (length xs)) [
      | true ↦ omega (arith, rest)
      | false ↦ omega (arith, rest)
    ]

-- ---- pools

agents_of : List (List (List ℤ)) → ℕ
agents_of pools = total length pools

agents_in : List (List (List (List ℤ))) → ℕ
agents_in pools = total agents_of pools

resting_in-total : (field : Field) → resting_in field ≡ agents_in field.pools
unfolding agents_in agents_of
resting_in-total field =
    length-flat_map (λ pools. flat_map (λ pool. pool) pools) field.pools
    ∙ ap (λ size. total size field.pools) (λ i pools. length-flat_map (λ (pool : List (List ℤ)). pool) pools i)

-- where the pool of a state is changed, as many agents more are in it
agents_in-changed : (change : List (List ℤ) → List (List ℤ)) (agent state : ℕ) (pools : List (List (List (List ℤ))))
    → ((agent < length pools) × (state < length (slice_index_or pools agent []))) ⊎ (length (change []) ≡ 0)
    → agents_in (changed_pool agent state change pools) + length (pool_in pools agent state)
    ≡ agents_in pools + length (change (pool_in pools agent state))
unfolding agents_in agents_of
agents_in-changed change agent state pools there =
    let own = slice_index_or pools agent [] in
    let inner = total-changed length change [] state own (elim there [ inl within ↦ inl within.1 | inr none ↦ inr none ]) in
    let outer = total-changed (total length) (changed state change) [] agent pools (elim there [ inl within ↦ inl within.0 | inr none ↦ inr refl ]) in
    omega (arith, inner, outer)

-- ---- the beginning

agents_of-begun : (starts : List ℕ → Bool) (agents : List (List ℤ)) (all : List (List ℕ))
    → total length (map (λ state. cond (starts state) [] agents) all) ≡ length (filter (λ state. not (starts state)) all) * length agents
unfolding total
agents_of-begun starts agents [] = omega arith
agents_of-begun starts agents (state ∷ all) =
    let rest = agents_of-begun starts agents all in
    elim (starts state) as (λ t. length (cond t [] agents) + total length (map (λ s. cond (starts s) [] agents) all)
    ≡ length (cond (not t) (state ∷ filter (λ s. not (starts s)) all) (filter (λ s. not (starts s)) all)) * length agents) [
      | true ↦ zero-add _ ∙ rest
      | false ↦ grind (arith, rest)
    ]

and_true : (a b : Bool) → IsTrue (a && b) → (a ≡ true) × IsTrue b
and_true true b both = (refl, both)
and_true false b both = absurd (false≢true both)

all_begin : (types : List AgentType) (bags : List (List (List ℤ)))
    → IsTrue (list_all has_one_start types)
    → length bags ≡ length types
    → agents_in (map (λ (type, bag). begun type bag) (zip types bags)) ≡ total length bags
unfolding agents_in agents_of total
all_begin [] [] one long = refl
all_begin [] (bag ∷ bags) one long = absurd (omega (arith, long))
all_begin (type ∷ types) [] one long = absurd (omega (arith, long))
all_begin (type ∷ types) (bag ∷ bags) one long =
    let both = and_true (has_one_start type) (list_all has_one_start types) one in
    let started = eqb-true (length (start_states type.functions)) 1 both.0 in
    let here : total length (begun type bag) ≡ length bag =
    agents_of-begun (is_entered type.functions) (ascending bag) (states type.functions)
    ∙ ap (λ n. n * length (ascending bag)) started
    ∙ omega (arith, length-sorted_by row_order bag) in
    let rest = all_begin types bags both.1 (omega (arith, long)) in
    λ j. here j + rest j

abbrev Pooled : AgentType → List (List (List ℤ)) → Type 0
Pooled type pools = length pools ≡ length (states type.functions)

pooled_begun : (types : List AgentType) (bags : List (List (List ℤ)))
    → length bags ≡ length types
    → AllZip Pooled types (map (λ (type, bag). begun type bag) (zip types bags))
pooled_begun [] [] long = tt
pooled_begun [] (bag ∷ bags) long = absurd (omega (arith, long))
pooled_begun (type ∷ types) [] long = absurd (omega (arith, long))
pooled_begun (type ∷ types) (bag ∷ bags) long = (
  (length-map (states type.functions) (λ state. cond (is_entered type.functions state) [] (ascending bag))),
  pooled_begun types bags (omega (arith, long)),
)

pub pools_begin : (model : Model) (agents : List (List (List ℤ))) → length agents ≡ length model.agents → HasPools model (opening model agents)
pools_begin model agents long = pooled_begun model.agents agents long

count_in-total : (bags : List (List (List ℤ))) → count_in bags ≡ total length bags
count_in-total bags = length-flat_map (λ (bag : List (List ℤ)). bag) bags

pub all_agents_begin : AllAgentsBegin
all_agents_begin model agents one long = (
  resting_in-total (opening model agents) ∙ all_begin model.agents agents one long ∙ sym (count_in-total agents),
  pools_begin model agents long,
)

-- ---- a step

zip_within : {X Y : Type 0} (R : X → Y → Type 0) (xs : List X) (ys : List Y) (k : ℕ) (x : X) → AllZip R xs ys → slice_get xs k ≡ Some x → k < length ys
zip_within R [] ys k x all at = absurd cc
zip_within R (here ∷ xs) [] k x all at = absurd all
zip_within R (here ∷ xs) (y ∷ ys) zero x all at = omega arith
zip_within R (here ∷ xs) (y ∷ ys) (suc k) x all at = omega (arith, zip_within R xs ys k x all.1 at)

pooled_changed : (types : List AgentType) (pools : List (List (List (List ℤ)))) (agent state : ℕ) (change : List (List ℤ) → List (List ℤ))
    → AllZip Pooled types pools → AllZip Pooled types (changed_pool agent state change pools)
pooled_changed types pools agent state change pooled =
    zip_changed Pooled types pools agent (changed state change) pooled (λ type own there same. length-changed state change own ∙ same)

pub moved_counts : (round : Round) (function : ℕ) (place : Place) (field : Field)
    → HasPools round.source.model field
    → slice_get (functions round.source.model) function ≡ Some place
    → (resting_in (moved round function place field) + length (taking round function place field)
    ≡ resting_in field + length (survivors (outcome_in round function field) (taking round function place field)))
    × HasPools round.source.model (moved round function place field)
moved_counts round function place field pooled at =
    let model = round.source.model in
    let agents = taking round function place field in
    let arrived = survivors (outcome_in round function field) agents in
    let current = state_place place.type place.function.current in
    let next = state_place place.type place.function.next in
    let stay = staying round function place in
    let join = λ (pool : List (List ℤ)). merge pool arrived in
    let left = changed_pool place.agent current stay field.pools in
    let pooled_left = pooled_changed model.agents field.pools place.agent current stay pooled in
    let typed = place_type model function place at in
    let found = functions_from-function 0 model.agents function place at in
    let within_agent = zip_within Pooled model.agents left place.agent place.type pooled_left typed in
    let own = zip_at Pooled model.agents left place.agent place.type [] pooled_left typed in
    let within_state : next < length (slice_index_or left place.agent []) =
    subst (λ n. next < n) (sym own) (next_state place.type.functions found.0 place.function found.1) in
    let parted =
    length-filter_both
    (λ memory. is_chosen function (choice model place.agent place.function.current memory round.iteration))
    (resting place field) in
    let leave = agents_in-changed stay place.agent current field.pools (inr refl) in
    let arrive = agents_in-changed join place.agent next left (inl (within_agent, within_state)) in
    let merged = length-merge (pool_in left place.agent next) arrived in (
      omega (arith, resting_in-total field, resting_in-total (moved round function place field), parted, leave, arrive, merged),
      pooled_changed model.agents left place.agent next join pooled_left,
    )

pub ok_moved : (fault : Option SimFault) (field after : Field) → unless_faulted fault field ≡ Ok after → field ≡ after
ok_moved None field after ended = cc
ok_moved (Some fault) field after ended = absurd cc

pub survivors_replace_takers : SurvivorsReplaceTakers
survivors_replace_takers round function place field after pooled at stepped =
    let same = ok_moved _ _ _ (sym (ap (λ found. step_at found round function field) at) ∙ stepped) in
    subst
    (λ (next : Field).
    (resting_in next + length (taking round function place field)
    ≡ resting_in field + length (survivors (outcome_in round function field) (taking round function place field)))
    × HasPools round.source.model next)
    same (moved_counts round function place field pooled at)

stays_pooled : (round : Round) (function : ℕ) (field after : Field) (found : Option Place)
    → HasPools round.source.model field
    → slice_get (functions round.source.model) function ≡ found
    → step_at found round function field ≡ Ok after
    → HasPools round.source.model after
stays_pooled round function field after None pooled at stepped = let same : field ≡ after = cc in subst (HasPools round.source.model) same pooled
stays_pooled round function field after (Some place) pooled at stepped =
    (survivors_replace_takers round function place field after pooled at (ap (λ found. step_at found round function field) at ∙ stepped)).1

pub pools_stay : (round : Round) (function : ℕ) (field after : Field)
    → HasPools round.source.model field → step round function field ≡ Ok after → HasPools round.source.model after
pools_stay round function field after pooled stepped =
    stays_pooled round function field after (slice_get (functions round.source.model) function) pooled refl stepped

-- ---- the end

gathered_counts : (pools : List (List (List (List ℤ)))) (born : List (List (List ℤ)))
    → length born ≡ length pools
    → total length (map (λ (own, more). merge (flat_map (λ pool. pool) own) more) (zip pools born)) ≡ agents_in pools + total length born
unfolding agents_in agents_of total
gathered_counts [] [] long = refl
gathered_counts [] (bag ∷ born) long = absurd (omega (arith, long))
gathered_counts (own ∷ pools) [] long = absurd (omega (arith, long))
gathered_counts (own ∷ pools) (bag ∷ born) long =
    omega (
      arith,
      length-merge (flat_map (λ pool. pool) own) bag,
      length-flat_map (λ (pool : List (List ℤ)). pool) own,
      gathered_counts pools born (omega (arith, long)),
    )

pub survivors_and_births_remain : SurvivorsAndBirthsRemain
survivors_and_births_remain field long =
    count_in-total (gathered field)
    ∙ gathered_counts field.pools field.born long
    ∙ (λ i. sym (resting_in-total field) i + sym (count_in-total field.born) i)
