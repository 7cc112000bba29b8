-- Views that no memory changes.
use Rattle.std.proofs.Common.{◌≡◌, ℕ, zero, suc, false, length, List, [], ◌∷◌, ◌++◌, Option, Some, None, refl, sym, ap, ◌∙◌, subst, arith}
use Rattle.std.specs.Prelude.{ℤ, slice_get, option_map, option_and_then}
use Rattle.std.proofs.lemmas.Option.{same_Some}
use Rattle.flame_spec.specs.declared.outcomes.Source.{Source}
use Rattle.flame_spec.specs.Views.{view}
use Rattle.flame_cond.specs.declared.forms.Test.{Test}
use Rattle.flame_cond.specs.declared.keys.SortBy.{SortBy}
use Rattle.flame_cond.specs.Equalities.{UnreadMemoryTellsNothing}
use Rattle.flame_cond.specs.Said.{key_by}
use Rattle.flame_view.specs.Compiled.{view_by, ViewIsAsWritten}
use Rattle.flame_program.specs.AcceptanceLaws.{IsRunnable}
use Rattle.flame_program.specs.SourceInputs.{FiltersInput, SortsInput}
use Rattle.flame_agent.specs.InputViews.{IsViewFor}
use Rattle.flame_agent.specs.ViewsForAll.{reads_memory, AreForAll, IsForAll}
use Rattle.flame_agent.proofs.InputReadings.{view-is}

-- ---- one view

view_by-same :
    (filter : Option Test) (by : Option SortBy) (memory other : List ℤ) (board : List (List ℤ))
    → UnreadMemoryTellsNothing → reads_memory filter ≡ false
    → view_by filter by memory board ≡ view_by filter by other board
view_by-same None by memory other board unread reads_none = refl
view_by-same (Some test) by memory other board unread reads_none =
    λ i. view (λ row. unread test memory other row reads_none i) (option_map key_by by) board

-- what is read with one memory under a filter that reads none is read with all
pub for-all :
    (source : Source) (function input : ℕ) (filter : Option Test) (by : Option SortBy) (other : List ℤ)
    (board : List (List ℤ))
    → IsRunnable source → ViewIsAsWritten → UnreadMemoryTellsNothing
    → FiltersInput source.model function input filter → SortsInput source.model function input by
    → reads_memory filter ≡ false
    → IsForAll source function input board (view_by filter by other board)
for-all source function input filter by other board runnable written unread filters sorts reads_none = λ memory.
    subst (IsViewFor source function input memory board) (view_by-same filter by memory other board unread reads_none)
    (view-is source function input filter by memory board runnable written filters sorts)

-- ---- one view after another

-- what holds of each element and of one more holds of each
pushed : {X : Type 0} (P : ℕ → X → Type 0) (xs : List X) (x : X)
    → ((k : ℕ) (y : X) → slice_get xs k ≡ Some y → P k y)
    → ((k : ℕ) → k ≡ length xs → P k x)
    → (k : ℕ) (y : X) → slice_get (xs ++ x ∷ []) k ≡ Some y → P k y
pushed P [] x old here zero y at = subst (P zero) (same_Some x y at) (here zero refl)
pushed P [] x old here (suc k) y at = absurd cc
pushed P (z ∷ xs) x old here zero y at = old zero y at
pushed P (z ∷ xs) x old here (suc k) y at =
    pushed (λ n. P (suc n)) xs x (λ n. old (suc n)) (λ n last. here (suc n) (omega (arith, last))) k y at

pub for-all-none : (source : Source) (function : ℕ) (boards : List (List (List ℤ))) → AreForAll source function boards []
for-all-none source function boards = record { each = λ input view board at there. absurd cc }

pub for-all-push :
    (source : Source) (function : ℕ) (boards : List (List (List ℤ))) (views : List (Option (List (List ℤ))))
    (found : Option (List (List ℤ))) (board : List (List ℤ))
    → AreForAll source function boards views
    → slice_get boards (length views) ≡ Some board
    → ((view : List (List ℤ)) → found ≡ Some view → IsForAll source function (length views) board view)
    → AreForAll source function boards (views ++ found ∷ [])
for-all-push source function boards views found board old at one = record {
  each = λ input view other shown there.
      pushed
      (λ k view′. (v b : List (List ℤ)) → view′ ≡ Some v → slice_get boards k ≡ Some b → IsForAll source function k b v)
      views found
      (λ k view′ is v b same here. old.each k v b (is ∙ ap Some same) here)
      (λ k last v b same here.
      let this : board ≡ b = same_Some board b (sym at ∙ ap (slice_get boards) (sym last) ∙ here) in
      subst (λ n. IsForAll source function n b v) (sym last) (subst (λ r. IsForAll source function (length views) r v) this (one v same)))
      input (Some view) shown view other refl there;
}

-- ---- a view that is there

pub shown-there : (views : List (Option (List (List ℤ)))) (input : ℕ) (view : List (List ℤ))
    → option_and_then (λ v. v) (slice_get views input) ≡ Some view → slice_get views input ≡ Some (Some view)
shown-there views input view is = go (slice_get views input) is
  where
    go : (o : Option (Option (List (List ℤ)))) → option_and_then (λ v. v) o ≡ Some view → o ≡ Some (Some view)
    go None same = absurd cc
    go (Some shown) same = ap Some same
