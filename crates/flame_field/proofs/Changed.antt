-- Lists of which one element is written.
use Rattle.std.proofs.Common.{◌≡◌, ℕ, zero, suc, ◌<◌, List, [], ◌∷◌, length, map, get_or, refl, ap, ◌∙◌, arith}
use Rattle.std.specs.Prelude.{ℤ, slice_set, slice_index_or}
use Rattle.flame_world.specs.Fields.{changed, changed_pool, pool_in}
use Rattle.flame_world.proofs.Counting.{length-changed}

-- what is written is what the old element becomes
pub map-written : {X Y : Type 0} (g : X → Y) (f : Y → Y) (xs : List X) (place : ℕ) (old new : X)
    → place < length xs
    → old ≡ get_or xs place old
    → g new ≡ f (g old)
    → map g (slice_set xs place new) ≡ changed place f (map g xs)
map-written g f [] place old new within at becomes = absurd (omega (arith, within))
map-written g f (x ∷ xs) zero old new within at becomes =
    λ i. (becomes ∙ ap (λ o. f (g o)) at) i ∷ map g xs
map-written g f (x ∷ xs) (suc place) old new within at becomes =
    λ i. g x ∷ map-written g f xs place old new (omega (arith, within)) at becomes i

-- a list that has an element there is one of the lists
pub within_list : {X Y : Type 0} (f : X → List Y) (xs : List X) (place k : ℕ)
    → k < length (slice_index_or (map f xs) place []) → place < length xs
within_list f [] place k within = absurd (omega (arith, within))
within_list f (x ∷ xs) zero k within = omega arith
within_list f (x ∷ xs) (suc place) k within = omega (arith, within_list f xs place k within)

-- a later write takes the place of an earlier change
pub changed-twice : {X : Type 0} (place : ℕ) (f : X → X) (y : X) (xs : List X)
    → changed place (λ x. y) (changed place f xs) ≡ changed place (λ x. y) xs
changed-twice place f y [] = refl
changed-twice zero f y (x ∷ xs) = refl
changed-twice (suc place) f y (x ∷ xs) = λ i. x ∷ changed-twice place f y xs i

-- to write what an element becomes is to change it
pub changed-to : {X : Type 0} (place : ℕ) (f : X → X) (d : X) (xs : List X)
    → changed place (λ x. f (slice_index_or xs place d)) xs ≡ changed place f xs
changed-to place f d [] = refl
changed-to zero f d (x ∷ xs) = refl
changed-to (suc place) f d (x ∷ xs) = λ i. x ∷ changed-to place f d xs i

-- how a change of a list within a list shows there
pub changed-within : {X : Type 0} (at : ℕ) (f : List X → List X) (lists : List (List X)) (other : ℕ)
    → ((xs : List X) → length (f xs) ≡ length xs)
    → length (slice_index_or (changed at f lists) other []) ≡ length (slice_index_or lists other [])
changed-within at f [] other keeps = refl
changed-within zero f (xs ∷ lists) zero keeps = keeps xs
changed-within zero f (xs ∷ lists) (suc other) keeps = refl
changed-within (suc at) f (xs ∷ lists) zero keeps = refl
changed-within (suc at) f (xs ∷ lists) (suc other) keeps = changed-within at f lists other keeps

pub changed_pool-length : (agent state : ℕ) (change : List (List ℤ) → List (List ℤ)) (pools : List (List (List (List ℤ)))) (other : ℕ)
    → length (slice_index_or (changed_pool agent state change pools) other []) ≡ length (slice_index_or pools other [])
changed_pool-length agent state change pools other =
    changed-within agent (changed state change) pools other (length-changed state change)

changed-inner : {X : Type 0} (agent : ℕ) (f g h : List X → List X) (lists : List (List X))
    → ((xs : List X) → f (g xs) ≡ h xs) → changed agent f (changed agent g lists) ≡ changed agent h lists
changed-inner agent f g h [] same = refl
changed-inner zero f g h (xs ∷ lists) same = λ i. same xs i ∷ lists
changed-inner (suc agent) f g h (xs ∷ lists) same = λ i. xs ∷ changed-inner agent f g h lists same i

-- a pool that was taken away and written again
pub changed_pool-again : (agent state : ℕ) (taken : List (List ℤ)) (pool : List (List ℤ)) (pools : List (List (List (List ℤ))))
    → changed_pool agent state (λ old. pool) (changed_pool agent state (λ old. taken) pools)
    ≡ changed_pool agent state (λ old. pool) pools
changed_pool-again agent state taken pool pools =
    changed-inner agent (changed state (λ old. pool)) (changed state (λ old. taken)) (changed state (λ old. pool)) pools
    (λ xs. changed-twice state (λ old. taken) pool xs)

-- to write what a pool becomes is to change it
pub changed_pool-to : (agent state : ℕ) (change : List (List ℤ) → List (List ℤ)) (pools : List (List (List (List ℤ))))
    → changed_pool agent state (λ old. change (pool_in pools agent state)) pools ≡ changed_pool agent state change pools
changed_pool-to agent state change [] = refl
changed_pool-to zero state change (xs ∷ pools) = λ i. changed-to state change [] xs i ∷ pools
changed_pool-to (suc agent) state change (xs ∷ pools) = λ i. xs ∷ changed_pool-to agent state change pools i

changed-still : {X : Type 0} (place : ℕ) (f : X → X) → ((x : X) → f x ≡ x) → (xs : List X) → changed place f xs ≡ xs
changed-still place f still [] = refl
changed-still zero f still (x ∷ xs) = λ i. still x i ∷ xs
changed-still (suc place) f still (x ∷ xs) = λ i. x ∷ changed-still place f still xs i

-- where a pool becomes what it is, nothing changes
pub changed_pool-still : (agent state : ℕ) (pools : List (List (List (List ℤ)))) → changed_pool agent state (λ pool. pool) pools ≡ pools
changed_pool-still agent state pools =
    changed-still agent (changed state (λ pool. pool)) (changed-still state (λ pool. pool) (λ pool. refl)) pools

-- what a pool is that was taken away, changed and put back
pub changed_pool-back : (agent state : ℕ) (taken pool : List (List ℤ)) (pools between after : List (List (List (List ℤ))))
    (change : List (List ℤ) → List (List ℤ))
    → between ≡ changed_pool agent state (λ old. taken) pools
    → after ≡ changed_pool agent state (λ old. pool) between
    → pool ≡ change (pool_in pools agent state)
    → after ≡ changed_pool agent state change pools
changed_pool-back agent state taken pool pools between after change first second is =
    second
    ∙ ap (changed_pool agent state (λ old. pool)) first
    ∙ changed_pool-again agent state taken pool pools
    ∙ ap (λ (p : List (List ℤ)). changed_pool agent state (λ old. p) pools) is
    ∙ changed_pool-to agent state change pools
