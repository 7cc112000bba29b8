-- From the first helper left over a cycle is met, and the heights are those of the definition.
use Rattle.std.proofs.Common.{◌≡◌, ℕ, ◌+◌, ◌<◌, List, [], ◌∷◌, ◌++◌, length, reverse, sym, ap, ◌∙◌, arith, Some, None, Option}
use Rattle.std.specs.Prelude.{nat_lt, slice_index}
use Rattle.std.proofs.lemmas.List.FromFn.{get_or-map-range_with_len, length-map-range_with_len}
use Rattle.flame_spec.specs.declared.faults.CheckFault.{CheckFault}
use Rattle.flame_spec.specs.Below.{first_below}
use Rattle.flame_spec.specs.Definitions.{Definition}
use Rattle.flame_spec.specs.HelperFaults.{deepest_calls, call_cycle_from, call_cycle, recursive_at, deep_at}
use Rattle.flame_spec.specs.Layers.{layer, layers}
use Rattle.flame_spec.specs.Lists.{first}
use Rattle.flame_spec.specs.ModelOrder.{first_left, step_back, from_there, walk_back, begun_with_least}
use Rattle.flame_spec.proofs.FirstBelow.{first_agree, first_is_first}
use Rattle.flame_spec.proofs.Orders.{Relation}
use Rattle.flame_calls.specs.FaultsOfCalls.{first_deep_among, faults_among}

-- the first height above 64
pub deep_is : (hs : List Definition) (before : Relation) (heights read : List ℕ) (o : Option ℕ) → heights ≡ layers (length hs) before → read ≡ heights → o ≡ first_below (λ h. nat_lt deepest_calls (slice_index read h + 1)) (length read) → deep_at hs o ≡ first_deep_among hs before
deep_is hs before heights read o a r h =
    let n = length hs in
    ap (deep_at hs) (h
    ∙ ap (λ xs. first_below (λ h. nat_lt deepest_calls (slice_index xs h + 1)) (length xs)) (r ∙ a)
    ∙ ap (first_below (λ h. nat_lt deepest_calls (slice_index (layers n before) h + 1))) (length-map-range_with_len (layer n before) 0 n)
    ∙ first_agree (λ h. nat_lt deepest_calls (slice_index (layers n before) h + 1)) (λ h. nat_lt deepest_calls (layer n before h + 1)) n
    (λ j l. ap (λ k. nat_lt deepest_calls (k + 1)) (get_or-map-range_with_len (layer n before) 0 n j j 0 l (omega arith))))

-- without a helper left over there is no cycle
pub only_deep : (hs : List Definition) (before : Relation) → first_left (length hs) before ≡ None → faults_among hs before ≡ first_deep_among hs before
only_deep hs before e = ap (λ o. recursive_at hs (from_there o (call_cycle_from (length hs) before)) ++ first_deep_among hs before) e

pub deep_within : (read : List ℕ) (h : ℕ) → Some h ≡ first_below (λ h. nat_lt deepest_calls (slice_index read h + 1)) (length read) → h < length read
deep_within read h e = (first_is_first (λ h. nat_lt deepest_calls (slice_index read h + 1)) (length read) h (sym e)).below

-- from the first helper left over the cycle of calls is met
pub cycle_is : (n : ℕ) (before : Relation) (start : ℕ) → first_left n before ≡ Some start → begun_with_least (reverse (walk_back (n + 1) (step_back n before) [] start)) ≡ call_cycle n before
cycle_is n before start e = sym (ap (λ o. from_there o (call_cycle_from n before)) e)

-- the fault of the cycle is the first
pub recursive_first : (hs : List Definition) (before : Relation) (n : ℕ) (cycle : List ℕ) (fault : CheckFault) → n ≡ length hs → cycle ≡ call_cycle n before → recursive_at hs cycle ≡ fault ∷ [] → first (faults_among hs before) ≡ Some fault
recursive_first hs before n cycle fault l e r =
    ap (λ xs. first (xs ++ first_deep_among hs before)) (sym (ap (recursive_at hs) (e ∙ ap (λ k. call_cycle k before) l)) ∙ r)
