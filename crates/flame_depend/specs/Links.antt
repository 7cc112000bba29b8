-- What the tables and lists on the way to the edges hold.
use Rattle.std.specs.Prelude.{◌≡◌, ℕ, ◌<◌, ◌==◌, ◌&&◌, ◌||◌, List, [], Bool, false, Option, Some, None, length}
use Rattle.std.specs.Prelude.{slice_get}
use Rattle.std.specs.List.{list_any}
use Rattle.std.specs.Str.{bytes_eq}
use Rattle.flame_spec.specs.Functions.{Place}
use Rattle.flame_spec.specs.Before.{adds}
use Rattle.flame_spec.specs.Below.{is_in}
use Rattle.flame_depend.specs.FunctionTables.{Table, listed}

-- there is a function, and it adds the message [own]
abbrev pub adds_at : Option Place → List ℕ → Bool
adds_at None message = false
adds_at (Some f) message = adds f.function message

-- there is a function, and it is of this type and enters the state [own]
abbrev pub enters_at : Option Place → ℕ → List ℕ → Bool
enters_at None agent state = false
enters_at (Some f) agent state = (f.agent == agent) && bytes_eq state f.function.next

-- under each message stand the functions that add it [own]
abbrev pub IsAdding : List Place → Table → Type 0
IsAdding places table = (q : List ℕ) (f : ℕ) → is_in f (listed table q) ≡ adds_at (slice_get places f) q

-- what stands under a name in a table that may be missing [own]
abbrev pub listed_at : Option Table → List ℕ → List ℕ
listed_at None name = []
listed_at (Some table) name = listed table name

-- one table for each type, in which under each state stand the functions of the type that enter it [own]
pub record AreEntering (types : ℕ) (places : List Place) (tables : List Table) : Type 0 where
  pub len : length tables ≡ types
  pub at :
      (agent : ℕ)
      → agent < types
      → (q : List ℕ) (f : ℕ)
      → is_in f (listed_at (slice_get tables agent) q) ≡ enters_at (slice_get places f) agent q

-- there is a function, and it is of one of so many types [own]
abbrev pub IsOfTypes : ℕ → Option Place → Type 0
IsOfTypes types None = Unit {0}
IsOfTypes types (Some f) = f.agent < types

-- each function is of one of so many types [own]
abbrev pub AreOfTypes : ℕ → List Place → Type 0
AreOfTypes types places = (f : ℕ) → IsOfTypes types (slice_get places f)

-- f stands in the tables under the state that the function leaves, or under a message that it reads [own]
abbrev pub is_linked : Place → Table → Table → ℕ → Bool
is_linked place entering adding f =
    is_in f (listed entering place.function.current)
    || list_any (λ input. is_in f (listed adding input.message)) place.function.inputs
