-- The least rank of a function that is faulted, the functions before it, and its fault.
use Rattle.std.proofs.Common.{◌≡◌, ℕ, suc, ◌+◌, ◌<◌, ◌≤◌, Bool, true, false, cond, List, [], ◌∷◌, length, take, Option, Some, None, refl, sym, ap, ◌∙◌, arith, one-add, take_all}
use Rattle.std.specs.Prelude.{not, nat_lt, is_some, slice_get, position}
use Rattle.std.specs.Option.{option_or}
use Rattle.std.specs.List.{position_or_len}
use Rattle.std.proofs.lemmas.Bool.{ltb-true, ltb-false}
use Rattle.flame_spec.specs.ModelOrder.{model_order}
use Rattle.flame_world.specs.declared.faults.SimFault.{SimFault}
use Rattle.flame_events.specs.CoreStates.{fault_of, Core, status_of}
use Rattle.flame_events.specs.CoreEnds.{is_faulted, first_fault}
use Rattle.flame_events.specs.FaultRanks.{LowerRanksAreWanted, LeastRankHasFirstFault}
use Rattle.flame_events.proofs.Ends.{first_fault-cons}

-- ---- places

rank_is : (test : ℕ → Bool) (items : List ℕ) (rank : ℕ) → position test items ≡ Some rank
    → (position_or_len test items ≡ rank) × (position_or_len test items < length items)
rank_is test items rank at =
    (elim (nat_lt (position_or_len test items) (length items)) as (λ t. nat_lt (position_or_len test items) (length items) ≡ t
    → cond t (Some (position_or_len test items)) None ≡ Some rank
    → (position_or_len test items ≡ rank) × (position_or_len test items < length items)) [
      | true ↦ λ within here. (cc, ltb-true (position_or_len test items) (length items) within)
      | false ↦ λ without none. absurd cc
    ])
    refl at

rank_none : (test : ℕ → Bool) (items : List ℕ) → position test items ≡ None → length items ≤ position_or_len test items
rank_none test items at =
    (elim (nat_lt (position_or_len test items) (length items)) as (λ t. nat_lt (position_or_len test items) (length items) ≡ t
    → cond t (Some (position_or_len test items)) None ≡ None → length items ≤ position_or_len test items) [
      | true ↦ λ within here. absurd cc
      | false ↦ λ without none. ltb-false (position_or_len test items) (length items) without
    ])
    refl at

-- ---- what is wanted

pub lower_ranks_are_wanted : LowerRanksAreWanted
lower_ranks_are_wanted model core = (
  (λ rank at. ap (λ n. take n (model_order model)) (rank_is (is_faulted core) (model_order model) rank at).0),
  λ none. take_all (position_or_len (is_faulted core) (model_order model)) (model_order model) (rank_none (is_faulted core) (model_order model) none),
)

-- ---- the first fault

record FaultsAt (core : Core) (fs : List ℕ) (rank : ℕ) : Type 0 where
  pub function : ℕ
  pub fault : SimFault
  pub there : slice_get fs rank ≡ Some function
  pub own : fault_of (status_of core function) ≡ Some fault
  pub first : first_fault core fs ≡ Some fault

faults_at : (core : Core) (fs : List ℕ) → position_or_len (is_faulted core) fs < length fs → FaultsAt core fs (position_or_len (is_faulted core) fs)
faults_at core [] less = absurd (omega (arith, less))
faults_at core (f ∷ fs) less = go (λ later. faults_at core fs later) (fault_of (status_of core f)) refl less
  where
    go : (position_or_len (is_faulted core) fs < length fs → FaultsAt core fs (position_or_len (is_faulted core) fs))
        → (o : Option SimFault) → fault_of (status_of core f) ≡ o → cond (not (is_some o)) (1 + position_or_len (is_faulted core) fs) 0 < suc (length fs)
        → FaultsAt core (f ∷ fs) (cond (not (is_some (fault_of (status_of core f)))) (1 + position_or_len (is_faulted core) fs) 0)
    go more None is within =
        let rest = more (omega (arith, within)) in
        record {
          function = rest.function;
          fault = rest.fault;
          there = ap (λ o. slice_get (f ∷ fs) (cond (not (is_some o)) (1 + position_or_len (is_faulted core) fs) 0)) is
              ∙ ap (slice_get (f ∷ fs)) (one-add (position_or_len (is_faulted core) fs)) ∙ rest.there;
          own = rest.own;
          first = first_fault-cons core f fs ∙ ap (λ o. option_or o (first_fault core fs)) is ∙ rest.first;
        }
    go more (Some fault) is within = record {
      function = f;
      fault = fault;
      there = ap (λ o. slice_get (f ∷ fs) (cond (not (is_some o)) (1 + position_or_len (is_faulted core) fs) 0)) is;
      own = is;
      first = first_fault-cons core f fs ∙ ap (λ o. option_or o (first_fault core fs)) is;
    }

no_fault : (core : Core) (fs : List ℕ) → length fs ≤ position_or_len (is_faulted core) fs → first_fault core fs ≡ None
no_fault core [] over = refl
no_fault core (f ∷ fs) over = go (λ later. no_fault core fs later) (fault_of (status_of core f)) refl over
  where
    go : (length fs ≤ position_or_len (is_faulted core) fs → first_fault core fs ≡ None)
        → (o : Option SimFault) → fault_of (status_of core f) ≡ o → suc (length fs) ≤ cond (not (is_some o)) (1 + position_or_len (is_faulted core) fs) 0
        → first_fault core (f ∷ fs) ≡ None
    go more None is over = first_fault-cons core f fs ∙ ap (λ o. option_or o (first_fault core fs)) is ∙ more (omega (arith, over))
    go more (Some fault) is over = absurd (omega (arith, over))

pub least_rank_has_first_fault : LeastRankHasFirstFault
least_rank_has_first_fault model core = (
  (λ rank at.
      let place = rank_is (is_faulted core) (model_order model) rank at in
      let found = faults_at core (model_order model) place.1 in
      record {
        function = found.function;
        fault = found.fault;
        there = ap (slice_get (model_order model)) (sym place.0) ∙ found.there;
        own = found.own;
        first = found.first;
      }),
  λ none. no_fault core (model_order model) (rank_none (is_faulted core) (model_order model) none),
)
