-- The tasks of a function, one behind another.
use Rattle.std.proofs.Common.{◌≡◌, ℕ, ◌+◌, List, [], ◌∷◌, ◌++◌, length, sym, ◌∙◌, arith, append-nil, append_assoc}
use Rattle.std.specs.Prelude.{ℤ}
use Rattle.flame_spec.specs.Lists.{each_from}
use Rattle.flame_lanes.specs.declared.tasks.Task.{Task}
use Rattle.flame_lanes.specs.LaneTasks.{task_of}

abbrev Rows : Type 0
Rows = List (List ℤ)

-- the tasks of the function with these agents, numbered from here on
abbrev pub tasks_from : ℕ → ℕ → ℕ → List Rows → List Task
tasks_from place function first runs = each_from (λ number agents. task_of place function number agents ∷ []) first runs

pub tasks-begin : (place function : ℕ) (earlier : List Task) (number : ℕ) (runs all : List Rows)
    → number ≡ 0
    → runs ≡ all
    → earlier ++ tasks_from place function number runs ≡ earlier ++ tasks_from place function 0 all
tasks-begin place function earlier number runs all none same = λ i. earlier ++ tasks_from place function (none i) (same i)

-- one task more
pub tasks-next : (place function : ℕ) (earlier pushed all : List Task) (number own next : ℕ) (agents : Rows) (runs rest : List Rows)
    → runs ≡ agents ∷ rest
    → own ≡ number
    → next ≡ number + 1
    → pushed ≡ earlier ++ task_of place function own agents ∷ []
    → earlier ++ tasks_from place function number runs ≡ all
    → pushed ++ tasks_from place function next rest ≡ all
tasks-next place function earlier pushed all number own next agents runs rest first same after more kept =
    (λ i. more i ++ tasks_from place function (after i) rest)
    ∙ append_assoc earlier (task_of place function own agents ∷ []) (tasks_from place function (number + 1) rest)
    ∙ (λ i. earlier ++ task_of place function (same i) agents ∷ tasks_from place function (number + 1) rest)
    ∙ (λ i. earlier ++ tasks_from place function number (sym first i))
    ∙ kept

-- none is left
pub tasks-end : (place function : ℕ) (tasks all : List Task) (number : ℕ) (runs : List Rows)
    → length runs ≡ 0
    → tasks ++ tasks_from place function number runs ≡ all
    → tasks ≡ all
tasks-end place function tasks all number [] none kept = sym (append-nil tasks) ∙ kept
tasks-end place function tasks all number (agents ∷ runs) none kept = absurd (omega (arith, none))
