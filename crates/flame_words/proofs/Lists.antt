-- Lists that were mapped, lists with one item more, and what is found in a list.
use Rattle.std.proofs.Common.{◌≡◌, Bool, true, List, [], ◌∷◌, ◌++◌, refl, ap, sym, ◌∙◌}
use Rattle.std.proofs.Common.{Option, Some, inl, inr}
use Rattle.std.specs.List.{find, last_or}
use Rattle.std.proofs.lemmas.Bool.{cases_Bool}
pub use Rattle.flame_rows.proofs.Lists.{find-map as find_mapped}

pub last_or-push : {X : Type 0} (other : Option X) (xs : List X) (x : X) → last_or other (xs ++ x ∷ []) ≡ Some x
last_or-push other [] x = refl
last_or-push other (y ∷ ys) x = last_or-push (Some y) ys x

-- what is found passes the test
pub find_passes : {X : Type 0} (p : X → Bool) (xs : List X) (x : X) → find p xs ≡ Some x → p x ≡ true
find_passes p [] x found = cc
find_passes p (y ∷ ys) x found =
    elim (cases_Bool (p y)) [
      | inl passes ↦
          let here = rw passes at found in
          let same : y ≡ x = cc in
          ap p (sym same) ∙ passes
      | inr fails ↦ find_passes p ys x (rw fails at found)
    ]
