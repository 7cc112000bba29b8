-- Functions of a layer that begin one after another.
use Rattle.std.proofs.Common.{◌≡◌, ℕ, suc, ◌+◌, ◌-◌, ◌<◌, ◌≤◌, List, [], ◌∷◌, ◌++◌, length, map, refl, sym, ap, ◌∙◌, arith, append-nil, append_assoc, length-append, ⊎_elim}
use Rattle.std.specs.Prelude.{ℤ, Option, Some, None, slice_index_or}
use Rattle.std.specs.List.{All}
use Rattle.std.proofs.lemmas.Bool.{cases_lt}
use Rattle.std.proofs.lemmas.List.{map-append}
use Rattle.std.proofs.lemmas.List.Elements.{All-append, All-push}
use Rattle.flame_rows.specs.Bags.{ascending}
use Rattle.flame_rows.specs.Cuts.{cut}
use Rattle.flame_rows.proofs.Lists.{slice_get-behind}
use Rattle.flame_spec.specs.Functions.{Place}
use Rattle.flame_meaning.specs.Outcomes.{place_of}
use Rattle.flame_index.specs.FrozenBoards.{shared_messages}
use Rattle.flame_world.specs.Fields.{Field as Standing}
use Rattle.flame_world.specs.InputBoards.{boards_named}
use Rattle.flame_world.specs.Iterations.{Round}
use Rattle.flame_world.specs.WorldFits.{FitsField}
use Rattle.flame_round.specs.KeptRounds.{FitsRun, round_of}
use Rattle.flame_round.specs.declared.rounds.Round as run
use Rattle.flame_layers.specs.LayerFields.{all_takers, left_at, left_by_all, left_by_takers, takers_in}
use Rattle.flame_lanes.specs.declared.tasks.Task.{Task}
use Rattle.flame_lanes.specs.LaneTasks.{agents_at, tasks_of}
use Rattle.flame_layerrun.specs.declared.openings.Reading.{Reading}
use Rattle.flame_layerrun.specs.LayerTasks.{AreRead, FitsTask}
use Rattle.flame_layerrun.proofs.OpenedTasks.{added-fit, added-other, added-own, agents-append, fit-still}

-- of these functions those in front have begun, which read these boards and have these tasks, and the rest has not
pub record HaveBegun
    (round : run.Round) (numbers rest : List ℕ) (start now : Standing) (readings : List Reading) (tasks : List Task) :
    Type 0 where
  pub names : map (λ (reading : Reading). reading.function) readings ++ rest ≡ numbers
  pub fits : FitsField round.program.now.model now
  pub boards : now.boards ≡ start.boards
  pub read : AreRead round start readings
  pub own : (place : ℕ)
      → place < length readings
      → ascending (agents_at place tasks) ≡ slice_index_or (all_takers (round_of round) numbers start) place []
  pub none : (place : ℕ) → length readings ≤ place → agents_at place tasks ≡ []
  pub takers : (place : ℕ)
      → slice_index_or (all_takers (round_of round) numbers start) (length readings + place) []
      ≡ slice_index_or (all_takers (round_of round) rest now) place []
  pub left : left_by_all (round_of round) rest now ≡ left_by_all (round_of round) numbers start
  pub fit : All (FitsTask round readings) tasks

boards-stay : (place : Option Place) (round : Round) (function : ℕ) (field : Standing) → (left_at place round function field).boards ≡ field.boards
boards-stay None round function field = refl
boards-stay (Some place) round function field = refl

module _ (round : run.Round) where
  abbrev meant : Round
  meant = round_of round

  abbrev number : Reading → ℕ
  number reading = reading.function

  -- one function more
  pub more-begun : (numbers rest : List ℕ) (function : ℕ) (start now after : Standing) (readings : List Reading) (tasks : List Task)
      (reading : Reading) (takers : List (List ℤ)) (pieces : ℕ)
      → HaveBegun round numbers (function ∷ rest) start now readings tasks
      → 1 ≤ pieces
      → ascending takers ≡ takers_in meant function now
      → reading.function ≡ function
      → map shared_messages reading.boards ≡ boards_named (place_of round.program.now function) round.program.now.model now.boards
      → FitsRun round.program.now.model function round.constants.now (map shared_messages reading.boards) takers
      → after ≡ left_by_takers meant function now
      → FitsField round.program.now.model after
      → HaveBegun round numbers rest start after (readings ++ reading ∷ [])
      (tasks ++ tasks_of (length readings) function (cut pieces takers))
  more-begun numbers rest function start now after readings tasks reading takers pieces old some whole named boards run left fits =
      let p = length readings in
      let added = tasks_of p function (cut pieces takers) in
      let long : length (readings ++ reading ∷ []) ≡ p + 1 = length-append readings (reading ∷ []) in
      record {
        names =
            ap (λ list. list ++ rest) (map-append number readings (reading ∷ []))
            ∙ append_assoc (map number readings) (reading.function ∷ []) rest
            ∙ ap (λ f. map number readings ++ f ∷ rest) named
            ∙ old.names;
        fits = fits;
        boards = ap (λ (field : Standing). field.boards) left ∙ boards-stay (place_of round.program.now function) meant function now ∙ old.boards;
        read =
            All-push (λ (one : Reading). map shared_messages one.boards
            ≡ boards_named (place_of round.program.now one.function) round.program.now.model start.boards) readings reading old.read
            (boards
            ∙ ap (boards_named (place_of round.program.now function) round.program.now.model) old.boards
            ∙ ap (λ f. boards_named (place_of round.program.now f) round.program.now.model start.boards) (sym named));
        own = λ place less.
            ⊎_elim
            (λ (front : place < p).
            ap ascending
            (agents-append place tasks added
            ∙ ap (λ l. agents_at place tasks ++ l) (added-other p function pieces takers some place (λ same. omega (arith, same, front)))
            ∙ append-nil (agents_at place tasks))
            ∙ old.own place front)
            (λ (over : p ≤ place).
            let here : place ≡ p = omega (arith, less, long, over) in
            let zero_more : p + 0 ≡ place = omega (arith, here) in
            ap (λ n. ascending (agents_at n (tasks ++ added))) here
            ∙ ap ascending
            (agents-append p tasks added
            ∙ ap (λ l. l ++ agents_at p added) (old.none p (omega arith))
            ∙ added-own p function pieces takers some)
            ∙ whole
            ∙ sym (old.takers 0)
            ∙ ap (λ n. slice_index_or (all_takers meant numbers start) n []) zero_more)
            (cases_lt place p);
        none = λ place over.
            agents-append place tasks added
            ∙ ap (λ l. l ++ agents_at place added) (old.none place (omega (arith, over, long)))
            ∙ added-other p function pieces takers some place (λ same. omega (arith, same, over, long));
        takers = λ place.
            let next : length (readings ++ reading ∷ []) + place ≡ p + suc place = omega (arith, long) in
            ap (λ n. slice_index_or (all_takers meant numbers start) n []) next
            ∙ old.takers (suc place)
            ∙ ap (λ field. slice_index_or (all_takers meant rest field) place []) (sym left);
        left = ap (left_by_all meant rest) left ∙ old.left;
        fit =
            All-append (FitsTask round (readings ++ reading ∷ [])) tasks added (fit-still round readings reading tasks old.fit)
            (added-fit p function pieces takers some round (readings ++ reading ∷ []) reading (slice_get-behind readings reading []) named run);
      }

  -- all have begun
  pub all-begun : (numbers : List ℕ) (start now : Standing) (readings : List Reading) (tasks : List Task)
      → HaveBegun round numbers [] start now readings tasks
      → (place : ℕ) → ascending (agents_at place tasks) ≡ slice_index_or (all_takers meant numbers start) place []
  all-begun numbers start now readings tasks old place =
      ⊎_elim
      (λ (front : place < length readings). old.own place front)
      (λ (over : length readings ≤ place).
      let there : length readings + (place - length readings) ≡ place = omega (arith, over) in
      ap ascending (old.none place over)
      ∙ sym (old.takers (place - length readings))
      ∙ ap (λ n. slice_index_or (all_takers meant numbers start) n []) there)
      (cases_lt place (length readings))
