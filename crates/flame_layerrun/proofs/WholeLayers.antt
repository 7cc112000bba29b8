-- What a layer comes to when all that its tasks left went where it belongs.
use Rattle.std.proofs.Common.{◌≡◌, ℕ, suc, ◌+◌, ◌<◌, List, [], ◌∷◌, map, length, drop, get_or, Some, sym, ap, ◌∙◌, subst, arith}
use Rattle.std.specs.Prelude.{slice_get, slice_index_or}
use Rattle.std.specs.List.{All}
use Rattle.std.proofs.lemmas.List.{length-map}
use Rattle.std.proofs.lemmas.List.Elements.{All-cons, All-head, All-nil, All-tail}
use Rattle.std.proofs.lemmas.Option.{slice_get_within}
use Rattle.flame_rows.specs.Bags.{ascending, weigh}
use Rattle.flame_rows.proofs.BagLaws.{weigh-ascending}
use Rattle.flame_rows.proofs.Merging.{ascending-ascending, same_bag}
use Rattle.flame_spec.specs.Accepted.{IsAccepted}
use Rattle.flame_spec.specs.Before.{function_count}
use Rattle.flame_spec_laws.specs.NameLaws.{MessagesDiffer}
use Rattle.flame_meaning.specs.RangeLaws.{Each}
use Rattle.flame_world.specs.Fields.{Field}
use Rattle.flame_world.specs.Iterations.{Round, outcome_in}
use Rattle.flame_leaving.specs.WholeLaws.{BirthsMerge, SurvivorsMerge}
use Rattle.flame_world.specs.WorldFits.{FitsField}
use Rattle.flame_events.proofs.Weights.{Rows, Weight}
use Rattle.flame_orders.proofs.SentOutputs.{sends_to_outputs}
use Rattle.flame_orders.proofs.SortedFields.{Up}
use Rattle.flame_layers.specs.LayerFields.{all_takers, brought_by_all, layer_field, left_by_all, left_by_takers}
use Rattle.flame_layers.specs.LayerLaws.{LeavingFits}
use Rattle.flame_round.specs.declared.rounds.Round as run
use Rattle.flame_round.specs.KeptRounds.{round_of}
use Rattle.flame_lanes.specs.declared.gains.Gain.{Gain}
use Rattle.flame_lanes.specs.declared.jobs.Left.{Left}
use Rattle.flame_lanes.specs.declared.tasks.Task.{Task}
use Rattle.flame_lanes.specs.LayerGains.{AreGains, AreOfFunctions, IsGain}
use Rattle.flame_lanes.specs.LaneTasks.{AreFrom, agents_at}
use Rattle.flame_lanes.specs.TaskMeanings.{left_of}
use Rattle.flame_layerrun.specs.declared.openings.Reading.{Reading}
use Rattle.flame_layerrun.specs.LayerRuns.{AreAllLeft}
use Rattle.flame_layerrun.specs.LayerTasks.{FitsTask}
use Rattle.flame_layerrun.specs.LayerWork.{weigh_all_sent}
use Rattle.flame_layerrun.proofs.BroughtFields.{AreSilent, bags_equal, brought-born, brought-length, brought-pools, brought-up, brought-weighs, left-boards, takers-length}
use Rattle.flame_layerrun.proofs.SentWeights.{by_takers, from_takers, grouped}
use Rattle.flame_layerrun.proofs.BaggedGains.{all_gains}
use Rattle.flame_layerrun.proofs.TasksDone.{from-all, placed-tasks}

-- ---- lists beside each other

-- what holds of two marks of each element of a list holds of equal marks of another list
pub all-marks : {X Y A B : Type 0} (R : A → B → Type 0) (f : X → A) (g : X → B) (h : Y → A) (k : Y → B) (xs : List X) (ys : List Y)
    → map f xs ≡ map h ys → map g xs ≡ map k ys → All (λ y. R (h y) (k y)) ys → All (λ x. R (f x) (g x)) xs
all-marks R f g h k [] ys one other all = All-nil (λ x. R (f x) (g x))
all-marks R f g h k (x ∷ xs) [] one other all = absurd (cc)
all-marks R f g h k (x ∷ xs) (y ∷ ys) one other all =
    let first : f x ≡ h y = ap (λ l. get_or l 0 (f x)) one in
    let second : g x ≡ k y = ap (λ l. get_or l 0 (g x)) other in
    let here : R (f x) (g x) = subst (λ b. R (f x) b) (sym second) (subst (λ a. R a (k y)) (sym first) (All-head (λ z. R (h z) (k z)) y ys all)) in
    All-cons (λ z. R (f z) (g z)) x xs here
    (all-marks R f g h k xs ys (ap (drop 1) one) (ap (drop 1) other) (All-tail (λ z. R (h z) (k z)) y ys all))

-- ---- takers leave

pub left-fits : LeavingFits → (round : Round) (fs : List ℕ) (field : Field) → FitsField round.source.model field
    → FitsField round.source.model (left_by_all round fs field)
left-fits leaving round [] field fits = fits
left-fits leaving round (f ∷ fs) field fits = left-fits leaving round fs (left_by_takers round f field) (leaving round f field fits)

-- ---- tasks

pub lefts-below : (round : run.Round) (readings : List Reading) (meant : Round) (read : Field) (tasks dealt : List Task) (lefts : List Left)
    → All (FitsTask round readings) tasks → AreFrom tasks dealt → lefts ≡ map (left_of meant read) dealt
    → All (λ (left : Left). left.place < length readings) lefts
lefts-below round readings meant read tasks dealt lefts fit from are =
    subst (λ (all : List Left). All (λ (left : Left). left.place < length readings) all) (sym are)
    (each dealt (from-all (λ (task : Task). task.place < length readings) tasks dealt placed from))
  where
    placed : All (λ (task : Task). task.place < length readings) tasks
    placed k d less = let one = fit k d less in slice_get_within readings (get_or tasks k d).place one.reading one.there

    each : (some : List Task) → All (λ (task : Task). task.place < length readings) some
        → All (λ (left : Left). left.place < length readings) (map (left_of meant read) some)
    each [] all = All-nil (λ (left : Left). left.place < length readings)
    each (task ∷ some) all =
        All-cons (λ (left : Left). left.place < length readings) (left_of meant read task) (map (left_of meant read) some)
        (All-head (λ (t : Task). t.place < length readings) task some all)
        (each some (All-tail (λ (t : Task). t.place < length readings) task some all))

-- those that are dealt are the takers
pub same-takers : (tasks dealt : List Task) (takers : List Rows)
    → ((place : ℕ) (w : Weight) → weigh w (agents_at place dealt) ≡ weigh w (agents_at place tasks))
    → ((place : ℕ) → ascending (agents_at place tasks) ≡ slice_index_or takers place [])
    → (place : ℕ) → ascending (agents_at place dealt) ≡ ascending (slice_index_or takers place [])
same-takers tasks dealt takers same are place =
    same_bag (agents_at place dealt) (agents_at place tasks) (same place)
    ∙ sym (ascending-ascending (agents_at place tasks))
    ∙ ap ascending (are place)

module _ (round : Round) (fs : List ℕ) (read : Field) where
  abbrev takers : List Rows
  takers = all_takers round fs read

  pub tasks-weigh : (tasks : List Task)
      → All (λ (task : Task). slice_get fs task.place ≡ Some task.function) tasks
      → ((place : ℕ) → ascending (agents_at place tasks) ≡ slice_index_or (all_takers round fs read) place [])
      → (message : ℕ) (weight : Weight)
      → weigh_all_sent round read tasks message weight ≡ by_takers round read message weight fs (all_takers round fs read)
  tasks-weigh tasks placed are message weight =
      grouped round read message weight fs tasks placed
      ∙ from_takers round read message weight fs takers 0 (λ place. agents_at place tasks) (takers-length round fs read)
      (λ p w. subst (λ n. weigh w (agents_at n tasks) ≡ weigh w (slice_index_or takers p [])) (omega arith)
      (sym (weigh-ascending w (agents_at p tasks)) ∙ ap (weigh w) (are p)))

  -- the field that is left, with all that went where it belongs
  pub whole-field : MessagesDiffer → IsAccepted round.source
      → All (λ f. f < function_count round.source.model) fs
      → (mid after : Field)
      → Each Up read.boards
      → Each Up mid.boards
      → mid.pools ≡ (left_by_all round fs read).pools
      → mid.born ≡ (left_by_all round fs read).born
      → length mid.boards ≡ length read.boards
      → ((m : ℕ) (w : Weight) → weigh w (slice_index_or mid.boards m []) ≡ weigh w (slice_index_or read.boards m []) + by_takers round read m w fs (all_takers round fs read))
      → after ≡ record (brought_by_all round read fs (all_takers round fs read) mid) { boards = mid.boards }
      → after ≡ layer_field round fs read
  whole-field differ accepted there mid after up mid_up pools born long heavy is =
      let left : Field = left_by_all round fs read in
      let same_boards : left.boards ≡ read.boards = left-boards round fs read in
      let left_up : Each Up left.boards = subst (λ (boards : List Rows). Each Up boards) (sym same_boards) up in
      let counts : length (layer_field round fs read).boards ≡ length left.boards = brought-length round read fs takers left in
      let silent : AreSilent round read = λ f less rows m out. sends_to_outputs differ round f read accepted less up rows m out in
      let boards : mid.boards ≡ (layer_field round fs read).boards =
      bags_equal mid.boards (layer_field round fs read).boards mid_up (brought-up round read fs takers left left_up)
      (omega (arith, long, counts, ap length same_boards))
      (λ m w less.
      heavy m w
      ∙ ap (λ (all : List Rows). weigh w (slice_index_or all m []) + by_takers round read m w fs takers) (sym same_boards)
      ∙ sym (brought-weighs round read silent m w fs takers left there (omega (arith, less, long, ap length same_boards)))) in
      let one = brought-pools round read fs takers mid left pools in
      let other = brought-born round read fs takers mid left born in
      is ∙ (λ i. record { pools = one i; born = other i; boards = boards i })

-- what takers of functions leave, of which the tasks left this
pub layer-gains : SurvivorsMerge → BirthsMerge → (round : run.Round) (readings : List Reading) (fs : List ℕ) (read : Field) (tasks : List Task)
    (lefts : List Left) (gains : List Gain)
    → AreAllLeft (round_of round) read tasks lefts
    → All (FitsTask round readings) tasks
    → map (λ (reading : Reading). reading.function) readings ≡ fs
    → ((place : ℕ) → ascending (agents_at place tasks) ≡ slice_index_or (all_takers (round_of round) fs read) place [])
    → length gains ≡ length readings
    → ((meant : Round) (field : Field) (numbers : List ℕ) (dealt : List Task) (place function : ℕ) (gain : Gain)
    → lefts ≡ map (left_of meant field) dealt
    → AreOfFunctions numbers dealt
    → slice_get numbers place ≡ Some function
    → slice_get gains place ≡ Some gain
    → IsGain meant.iteration function (outcome_in meant function field) (agents_at place dealt) gain)
    → AreGains (round_of round) read (map (λ (reading : Reading). reading.function) readings) (all_takers (round_of round) fs read) gains
layer-gains survivors births round readings fs read tasks lefts gains left fit same are long each =
    let meant : Round = round_of round in
    let takers = all_takers meant fs read in
    let P : Task → Type 0 = λ task. slice_get fs task.place ≡ Some task.function in
    let placed : All P tasks =
    subst (λ (ns : List ℕ). All (λ (task : Task). slice_get ns task.place ≡ Some task.function) tasks) same (placed-tasks round readings tasks fit) in
    let of : AreOfFunctions fs left.dealt = from-all P tasks left.dealt placed left.from in
    let many : length gains ≡ length fs = long ∙ sym (length-map readings (λ (reading : Reading). reading.function)) ∙ ap length same in
    subst (λ (ns : List ℕ). AreGains meant read ns takers gains) (sym same)
    (all_gains survivors births meant read fs takers gains (λ place. agents_at place left.dealt) (takers-length meant fs read) many
    (same-takers tasks left.dealt takers left.agents are)
    (λ place function gain there one. each meant read fs left.dealt place function gain left.lefts_are of there one))

-- takers stand in order
pub takers-up : (takers : List Rows) (at : ℕ → Rows) → ((place : ℕ) → ascending (at place) ≡ slice_index_or takers place [])
    → All (λ (agents : Rows). ascending agents ≡ agents) takers
takers-up [] at are = All-nil (λ (agents : Rows). ascending agents ≡ agents)
takers-up (agents ∷ takers) at are =
    All-cons (λ (agents : Rows). ascending agents ≡ agents) agents takers
    (ap ascending (sym (are 0)) ∙ ascending-ascending (at 0) ∙ are 0)
    (takers-up takers (λ place. at (suc place)) (λ place. are (suc place)))
