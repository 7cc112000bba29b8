-- Views that are the same for all agents.
use Rattle.std.specs.Prelude.{◌≡◌, ℕ, ℤ, List, Bool, false, Option, Some, None, slice_get}
use Rattle.flame_spec.specs.declared.outcomes.Source.{Source}
use Rattle.flame_cond.specs.declared.forms.Test.{Test}
use Rattle.flame_cond.specs.TestForms.{form_of}
use Rattle.flame_cond.specs.Equalities.{reads_memory as form_reads}
use Rattle.flame_agent.specs.InputViews.{IsViewFor}

-- whether a number of the memory stands in the filter, if there is one [own]
abbrev pub reads_memory : Option Test → Bool
reads_memory None = false
reads_memory (Some test) = form_reads (form_of test)

-- the view is what every agent of the function reads by the input from this board, whatever its memory [own]
abbrev pub IsForAll : Source → ℕ → ℕ → List (List ℤ) → List (List ℤ) → Type 0
IsForAll source function input board view =
    (memory : List ℤ) → IsViewFor source function input memory board view

-- these views, of which some inputs have none, are what every agent of the function reads from these boards [own]
pub record AreForAll
    (source : Source) (function : ℕ) (boards : List (List (List ℤ))) (views : List (Option (List (List ℤ)))) :
    Type 0 where
  pub each :
      (input : ℕ) (view board : List (List ℤ))
      → slice_get views input ≡ Some (Some view)
      → slice_get boards input ≡ Some board
      → IsForAll source function input board view
