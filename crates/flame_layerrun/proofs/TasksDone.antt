-- What tasks that are dealt to jobs come to.
use Rattle.std.proofs.Common.{◌≡◌, ℕ, zero, suc, ◌<◌, Bool, true, false, cond, List, [], ◌∷◌, ◌++◌, Vec, map, length, Some, refl, sym, ap, ◌∙◌, subst, arith}
use Rattle.std.specs.Prelude.{◌==◌, slice_get}
use Rattle.std.specs.Global.{Global}
use Rattle.std.specs.List.{All, AllZip, flat_map}
use Rattle.std.proofs.lemmas.Bool.{eq-eqb, true≢false}
use Rattle.flame_rows.proofs.Lists.{list_any-at, All-left, All-right}
use Rattle.std.proofs.lemmas.List.{map-append}
use Rattle.std.proofs.lemmas.List.Elements.{All-cons, All-contains, All-head, All-nil, All-tail}
use Rattle.std.proofs.lemmas.Option.{slice_get_within}
use Rattle.flame_rows.specs.Bags.{weigh}
use Rattle.flame_spec.specs.Before.{function_count}
use Rattle.flame_spec.specs.Below.{is_in}
use Rattle.flame_spec.specs.Functions.{functions}
use Rattle.flame_world.specs.Fields.{Field}
use Rattle.flame_world.specs.Iterations.{Round, outcome_in}
use Rattle.flame_world.specs.AgentRuns.{messages_of, sent_from}
use Rattle.flame_rows.specs.Bags.{ascending}
use Rattle.flame_events.specs.LegalEvents.{outputs_of}
use Rattle.flame_events.proofs.Weights.{Weight}
use Rattle.flame_round.specs.declared.rounds.Round as run
use Rattle.flame_board.specs.declared.boards.Board.{Board}
use Rattle.flame_board.specs.declared.lanes.Lane.{Lane}
use Rattle.flame_lanes.specs.declared.jobs.Done.{Done}
use Rattle.flame_lanes.specs.declared.jobs.Job.{Job}
use Rattle.flame_lanes.specs.declared.tasks.Task.{Task}
use Rattle.flame_lanes.specs.LaneTasks.{AreFrom, agents_at}
use Rattle.flame_lanes.specs.LayerBoards.{weigh_columns}
use Rattle.flame_lanes.specs.TaskMeanings.{left_of}
use Rattle.flame_lanes.proofs.Listed.{place-is_in}
use Rattle.flame_layerrun.specs.declared.openings.Reading.{Reading}
use Rattle.flame_layerrun.specs.LayerTasks.{AreListed, FitsTask}
use Rattle.flame_layerrun.specs.LayerWork.{AreDone, AreOwn, CanDo, weigh_all_sent, weigh_sent}
use Rattle.flame_layerrun.proofs.ColumnedLanes.{AreFilled, AreFresh, IsOnce, never-handed, once-handed}
use Rattle.flame_layerrun.proofs.SentWeights.{by_place-same, grouped}
use Rattle.flame_lanes.proofs.Columned.{All-unmapped}

-- ---- lists

all-lists : {X Y : Type 0} (P : X → Type 0) (f : Y → List X) (ys : List Y) → All P (flat_map f ys) → All (λ y. All P (f y)) ys
all-lists P f [] all = All-nil (λ y. All P (f y))
all-lists P f (y ∷ ys) all =
    All-cons (λ y. All P (f y)) y ys (All-left P (f y) (flat_map f ys) all) (all-lists P f ys (All-right P (f y) (flat_map f ys) all))

flat-map : {X Y Z : Type 0} (f : X → List Z) (g : Y → List Z) (xs : List X) (ys : List Y) → map f xs ≡ map g ys → flat_map f xs ≡ flat_map g ys
flat-map {X} {Y} {Z} f g xs ys same = flat f xs ∙ ap (flat_map (λ (l : List Z). l)) same ∙ sym (flat g ys)
  where
    flat : {W : Type 0} (h : W → List Z) (ws : List W) → flat_map h ws ≡ flat_map (λ (l : List Z). l) (map h ws)
    flat h [] = refl
    flat h (w ∷ ws) = ap (λ (l : List Z). h w ++ l) (flat h ws)

pub zip-all : {X Y : Type 0} (Q : Y → Type 0) (xs : List X) (ys : List Y) → AllZip (λ x y. Q y) xs ys → All Q ys
zip-all Q [] [] zip = All-nil Q
zip-all Q [] (y ∷ ys) zip = absurd zip
zip-all Q (x ∷ xs) [] zip = absurd zip
zip-all Q (x ∷ xs) (y ∷ ys) zip = All-cons Q y ys zip.0 (zip-all Q xs ys zip.1)

-- ---- tasks

pub dealt-tasks : (jobs : List Job) (loads : List (Vec Task Global))
    → map (λ (job : Job). job.tasks) jobs ≡ map (λ (load : Vec Task Global). load.items) loads
    → flat_map (λ (job : Job). job.tasks) jobs ≡ flat_map (λ (load : Vec Task Global). load.items) loads
dealt-tasks jobs loads same = flat-map (λ (job : Job). job.tasks) (λ (load : Vec Task Global). load.items) jobs loads same

pub from-all : (P : Task → Type 0) (tasks dealt : List Task) → All P tasks → AreFrom tasks dealt → All P dealt
from-all P tasks dealt all from k d less = All-contains P tasks _ all (from k d less)

module _ (round : run.Round) (readings : List Reading) where
  pub known-tasks : (tasks : List Task) → All (FitsTask round readings) tasks
      → All (λ (task : Task). task.function < function_count round.program.now.model) tasks
  known-tasks tasks fit k d less =
      let one = fit k d less in
      slice_get_within (functions round.program.now.model) _ one.fits.place one.fits.there

  pub placed-tasks : (tasks : List Task) → All (FitsTask round readings) tasks
      → All (λ (task : Task). slice_get (map (λ (reading : Reading). reading.function) readings) task.place ≡ Some task.function) tasks
  placed-tasks tasks fit k d less =
      let one = fit k d less in
      got readings _ one.reading one.there ∙ ap Some one.function_is
    where
      got : (all : List Reading) (place : ℕ) (reading : Reading) → slice_get all place ≡ Some reading
          → slice_get (map (λ (r : Reading). r.function) all) place ≡ Some reading.function
      got [] place reading there = absurd (cc)
      got (one ∷ all) zero reading there = let same : one ≡ reading = cc in ap (λ (r : Reading). Some r.function) same
      got (one ∷ all) (suc place) reading there = got all place reading there

  pub can-all : (messages : List ℕ) (boards : List Board) (tasks : List Task) (jobs : List Job)
      → All (FitsTask round readings) tasks
      → AreListed round.program.now.model messages tasks
      → AreFrom tasks (flat_map (λ (job : Job). job.tasks) jobs)
      → length boards ≡ length messages
      → All (λ row. AreOwn boards row × (length row ≡ length boards)) (map (λ (job : Job). job.lanes) jobs)
      → All (CanDo round readings messages boards) jobs
  can-all messages boards tasks jobs fit listed from long rows k d less =
      let L : Task → Type 0 = λ task. All (λ message. is_in message messages ≡ true) (outputs_of round.program.now.model task.function) in
      let dealt = flat_map (λ (job : Job). job.tasks) jobs in
      let row = All-unmapped (λ row. AreOwn boards row × (length row ≡ length boards)) (λ (job : Job). job.lanes) jobs rows k d less in
      record {
        fit = all-lists (FitsTask round readings) (λ (job : Job). job.tasks) jobs (from-all (FitsTask round readings) tasks dealt fit from) k d less;
        listed = all-lists L (λ (job : Job). job.tasks) jobs (from-all L tasks dealt listed from) k d less;
        long = sym (row.1 ∙ long);
        own = row.0;
      }

-- ---- what they leave

pub done-lefts : (round : Round) (read : Field) (messages : List ℕ) (jobs : List Job) (dones : List Done)
    → AreDone round read messages jobs dones
    → flat_map (λ (done : Done). done.lefts) dones ≡ map (left_of round read) (flat_map (λ (job : Job). job.tasks) jobs)
done-lefts round read messages [] [] are = refl
done-lefts round read messages [] (done ∷ dones) are = absurd are
done-lefts round read messages (job ∷ jobs) [] are = absurd are
done-lefts round read messages (job ∷ jobs) (done ∷ dones) are =
    (λ i. are.0.lefts i ++ done-lefts round read messages jobs dones are.1 i)
    ∙ sym (map-append (left_of round read) job.tasks (flat_map (λ (job : Job). job.tasks) jobs))

-- ---- what they send

module _ (round : Round) (read : Field) (message : ℕ) (weight : Weight) where
  -- the same tasks in another order
  pub dealt-weighs : (numbers : List ℕ) (tasks dealt : List Task)
      → All (λ (task : Task). slice_get numbers task.place ≡ Some task.function) tasks
      → AreFrom tasks dealt
      → ((place : ℕ) (w : Weight) → weigh w (agents_at place dealt) ≡ weigh w (agents_at place tasks))
      → weigh_all_sent round read dealt message weight ≡ weigh_all_sent round read tasks message weight
  dealt-weighs numbers tasks dealt placed from same =
      let P : Task → Type 0 = λ task. slice_get numbers task.place ≡ Some task.function in
      grouped round read message weight numbers dealt (from-all P tasks dealt placed from)
      ∙ by_place-same round read message weight 0 numbers (λ place. agents_at place dealt) (λ place. agents_at place tasks) same
      ∙ sym (grouped round read message weight numbers tasks placed)

  unlisted : (messages : List ℕ) (tasks : List Task) → AreListed round.source.model messages tasks → is_in message messages ≡ false
      → weigh_all_sent round read tasks message weight ≡ 0
  unlisted messages [] listed out = refl
  unlisted messages (task ∷ tasks) listed out =
      let L : Task → Type 0 = λ one. All (λ m. is_in m messages ≡ true) (outputs_of round.source.model one.function) in
      let own : All (λ m. is_in m messages ≡ true) (outputs_of round.source.model task.function) = All-head L task tasks listed in
      let rest = unlisted messages tasks (All-tail L task tasks listed) out in
      let here : weigh_sent round read message weight task ≡ 0 = by (is_in message (outputs_of round.source.model task.function)) refl own in
      omega (arith, here, rest)
    where
      by : (b : Bool) → is_in message (outputs_of round.source.model task.function) ≡ b
          → All (λ m. is_in m messages ≡ true) (outputs_of round.source.model task.function)
          → cond b (weigh weight (messages_of (sent_from (outcome_in round task.function read) (ascending task.agents)) message)) 0 ≡ 0
      by false is own = refl
      by true is own =
          let found = place-is_in (outputs_of round.source.model task.function) message is in
          let listed_it = within (λ m. is_in m messages ≡ true) (outputs_of round.source.model task.function) found.0 message own found.1 in
          absurd (true≢false (sym listed_it ∙ out))
        where
          within : (P : ℕ → Type 0) (ms : List ℕ) (place m : ℕ) → All P ms → slice_get ms place ≡ Some m → P m
          within P [] place m all at = absurd (cc)
          within P (one ∷ ms) zero m all at = let same : one ≡ m = cc in subst P same (All-head P one ms all)
          within P (one ∷ ms) (suc place) m all at = within P ms place m (All-tail P one ms all) at

  -- all that is handed in by the lanes of boards
  pub handed-all : (more : ℕ → Weight → ℕ) (messages : List ℕ) (boards : List Board) (olds news : List (Vec Lane Global)) (tasks : List Task)
      → AreFilled more messages olds news → AreFresh boards olds → IsOnce messages
      → AreListed round.source.model messages tasks
      → more message weight ≡ weigh_all_sent round read tasks message weight
      → weigh_columns messages news message weight ≡ weigh_all_sent round read tasks message weight
  handed-all more messages boards olds news tasks filled fresh once listed is = by (is_in message messages) refl
    where
      by : (b : Bool) → is_in message messages ≡ b → weigh_columns messages news message weight ≡ weigh_all_sent round read tasks message weight
      by true there =
          let found = place-is_in messages message there in
          once-handed more messages boards olds news found.0 message weight filled fresh once found.1 ∙ is
      by false out =
          never-handed messages news message weight
          (λ place at. true≢false (sym (is_in-at messages place at) ∙ out))
          ∙ sym (unlisted messages tasks listed out)
        where
          is_in-at : (ms : List ℕ) (place : ℕ) → slice_get ms place ≡ Some message → is_in message ms ≡ true
          is_in-at ms place at = list_any-at (λ other. other == message) ms place message at (eq-eqb message message refl)
