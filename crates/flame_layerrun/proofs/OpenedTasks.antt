-- Tasks of a layer whose functions begin one after another.
use Rattle.std.proofs.Common.{◌≡◌, ℕ, zero, suc, ◌+◌, ◌≤◌, cond, List, [], ◌∷◌, ◌++◌, length, map, Some, refl, sym, ap, ◌∙◌, subst}
use Rattle.std.specs.Prelude.{ℤ, ◌==◌, slice_get}
use Rattle.std.specs.List.{All, flat_map}
use Rattle.std.proofs.lemmas.Bool.{eq-eqb, ne_eqb}
use Rattle.std.proofs.lemmas.Grind.{flat_map-append}
use Rattle.std.proofs.lemmas.List.Elements.{All-cons, All-nil, All-weaker}
use Rattle.flame_rows.specs.Cuts.{cut}
use Rattle.flame_rows.specs.Order.{row_order}
use Rattle.flame_spec.specs.Columns.{width}
use Rattle.flame_spec.specs.Lists.{each_from}
use Rattle.flame_meaning.specs.RangeLaws.{Each}
use Rattle.flame_meaning.proofs.Eachs.{each_sorted}
use Rattle.flame_index.specs.FrozenBoards.{shared_messages}
use Rattle.flame_world.specs.WorldFits.{AreWide}
use Rattle.flame_events.proofs.EvenCuts.{cuts_are_even}
use Rattle.flame_round.specs.KeptRounds.{FitsRun}
use Rattle.flame_round.specs.declared.rounds.Round as run
use Rattle.flame_lanes.specs.declared.tasks.Task.{Task}
use Rattle.flame_lanes.specs.LaneTasks.{agents_at, task_of, tasks_of}
use Rattle.flame_layerrun.specs.declared.openings.Reading.{Reading}
use Rattle.flame_layerrun.specs.LayerTasks.{FitsTask}

-- ---- agents in any order

each-front : {X : Type 0} (P : X → Type 0) (xs ys : List X) → Each P (xs ++ ys) → Each P xs × Each P ys
each-front P [] ys all = (tt, all)
each-front P (x ∷ xs) ys all = let rest = each-front P xs ys all.1 in ((all.0, rest.0), rest.1)

-- what holds of each agent holds of each of each piece
each-piece : (P : List ℤ → Type 0) (runs : List (List (List ℤ))) → Each P (flat_map (λ run. run) runs) → Each (Each P) runs
each-piece P [] all = tt
each-piece P (run ∷ runs) all = let parts = each-front P run (flat_map (λ run. run) runs) all in (parts.0, each-piece P runs parts.1)

-- ---- whose agents tasks have

pub agents-append : (place : ℕ) (tasks more : List Task) → agents_at place (tasks ++ more) ≡ agents_at place tasks ++ agents_at place more
agents-append place tasks more = flat_map-append (λ (task : Task). cond (task.place == place) task.agents []) tasks more

module _ (p function : ℕ) where
  abbrev tasks_from : ℕ → List (List (List ℤ)) → List Task
  tasks_from i runs = each_from (λ number agents. task_of p function number agents ∷ []) i runs

  agents-own : (i : ℕ) (runs : List (List (List ℤ))) → agents_at p (tasks_from i runs) ≡ flat_map (λ run. run) runs
  agents-own i [] = refl
  agents-own i (run ∷ runs) =
      ap (λ t. cond t run [] ++ agents_at p (tasks_from (i + 1) runs)) (eq-eqb p p refl)
      ∙ ap (λ l. run ++ l) (agents-own (i + 1) runs)

  agents-other : (place : ℕ) → (p ≡ place → ⊥) → (i : ℕ) (runs : List (List (List ℤ))) → agents_at place (tasks_from i runs) ≡ []
  agents-other place apart i [] = refl
  agents-other place apart i (run ∷ runs) =
      ap (λ t. cond t run [] ++ agents_at place (tasks_from (i + 1) runs)) (ne_eqb p place apart)
      ∙ agents-other place apart (i + 1) runs

  -- all tasks are of the function, and have these agents
  all-tasks : (P : Task → Type 0) (Q : List (List ℤ) → Type 0) → ((number : ℕ) (agents : List (List ℤ)) → Q agents → P (task_of p function number agents))
      → (i : ℕ) (runs : List (List (List ℤ))) → Each Q runs → All P (tasks_from i runs)
  all-tasks P Q each i [] all = All-nil P
  all-tasks P Q each i (run ∷ runs) all =
      All-cons P (task_of p function i run) (tasks_from (i + 1) runs) (each i run all.0) (all-tasks P Q each (i + 1) runs all.1)

-- the tasks of the function in place p that are added, with these agents
module _ (p function pieces : ℕ) (takers : List (List ℤ)) (some : 1 ≤ pieces) where
  abbrev added : List Task
  added = tasks_of p function (cut pieces takers)

  pub added-own : agents_at p added ≡ takers
  added-own = agents-own p function 0 (cut pieces takers) ∙ (cuts_are_even takers pieces some).whole

  pub added-other : (place : ℕ) → (p ≡ place → ⊥) → agents_at place added ≡ []
  added-other place apart = agents-other p function place apart 0 (cut pieces takers)

  pub added-fit : (round : run.Round) (readings : List Reading) (reading : Reading)
      → slice_get readings p ≡ Some reading
      → reading.function ≡ function
      → FitsRun round.program.now.model function round.constants.now (map shared_messages reading.boards) takers
      → All (FitsTask round readings) added
  added-fit round readings reading there same fits =
      let wide = width fits.place.type.memory in
      all-tasks p function (FitsTask round readings) (AreWide wide)
      (λ number agents memories. record {
        reading = reading;
        there = there;
        function_is = same;
        fits = record {
          place = fits.place;
          there = fits.there;
          memories = each_sorted (λ (row : List ℤ). length row ≡ wide) row_order agents memories;
          known = fits.known;
          wide = fits.wide;
        };
      })
      0 (cut pieces takers)
      (each-piece (λ (row : List ℤ). length row ≡ wide) (cut pieces takers)
      (subst (λ (agents : List (List ℤ)). AreWide wide agents) (sym (cuts_are_even takers pieces some).whole) fits.memories))

-- ---- one reading more

get-front : {X : Type 0} (xs : List X) (k : ℕ) (x y : X) → slice_get xs k ≡ Some x → slice_get (xs ++ y ∷ []) k ≡ Some x
get-front [] k x y at = absurd cc
get-front (z ∷ xs) zero x y at = at
get-front (z ∷ xs) (suc k) x y at = get-front xs k x y at

pub fit-still : (round : run.Round) (readings : List Reading) (reading : Reading) (tasks : List Task)
    → All (FitsTask round readings) tasks → All (FitsTask round (readings ++ reading ∷ [])) tasks
fit-still round readings reading tasks all =
    All-weaker (FitsTask round readings) (FitsTask round (readings ++ reading ∷ []))
    (λ task fits. record {
      reading = fits.reading;
      there = get-front readings task.place fits.reading reading fits.there;
      function_is = fits.function_is;
      fits = fits.fits;
    })
    tasks all
