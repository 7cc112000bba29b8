-- What holds of a core holds when an agent ran.
use Rattle.std.proofs.Common.{◌≡◌, ℕ, ◌+◌, ◌<◌, Bool, true, false, cond, List, [], ◌∷◌, ◌++◌, Option, Some, None, refl, sym, ap, ◌∙◌, arith, subst}
use Rattle.std.specs.Prelude.{slice_get, slice_set, slice_index_or}
use Rattle.std.proofs.lemmas.Bool.{true≢false}
use Rattle.flame_rows.specs.Bags.{weigh}
use Rattle.flame_rows.proofs.BagLaws.{weigh-append}
use Rattle.flame_spec.specs.declared.outcomes.Outcome.{Outcome}
use Rattle.flame_spec.specs.Before.{function_count}
use Rattle.flame_spec.specs.Below.{is_in}
use Rattle.flame_spec.specs.Functions.{Place, functions}
use Rattle.flame_world.specs.AgentRuns.{born_from, births_of}
use Rattle.flame_world.specs.Iterations.{Round}
use Rattle.flame_events.specs.CoreStates.{Work, Status, Open, is_waiting, is_shut, works_of, Core, status_of, work_of}
use Rattle.flame_events.specs.LegalEvents.{outputs_of}
use Rattle.flame_events.specs.EventSteps.{with_agent, with_work, arrived, ran_agent, ran_next}
use Rattle.flame_events.proofs.Weights.{Row, Rows, Weight, only, weigh-same}
use Rattle.flame_events.proofs.Spots.{Spot, enters}
use Rattle.flame_events.proofs.Holding.{Ideal, lived, sent, born, lived-append, born-append, IsIdeal, resting}
use Rattle.flame_events.proofs.Pools.{length-joined}
use Rattle.flame_events.proofs.Moves.{put, put-same, put-else, Adds, holds-more, Arrives, rows_arrive}
use Rattle.flame_events.proofs.Serial.{joined-up, weigh-joined}
use Rattle.flame_events.proofs.Works.{its_ran, its_agents, its_handed, ran_rows, handed_rows, PieceFits, OpenFits, Fits, gather_set, gather_same, each_set, take_next, fits_agent, handed_agent}
use Rattle.flame_events.proofs.Sound.{still_in, ran_in, handed_in, Sound, core_runs, sound_change, opens_with, open_below, nobody_waits_less}
use Rattle.flame_meaning.proofs.Eachs.{each_at}

-- ---- a function that is open

pub record IsOpen (round : Round) (t : Ideal) (core : Core) (f k : ℕ) (work : Work) : Type 0 where
  pub is : status_of core f ≡ Open (works_of (status_of core f))
  pub below : f < function_count round.source.model
  pub fits : OpenFits round t f (works_of (status_of core f))
  pub fit : PieceFits round t f work

pub is_open : (round : Round) (start : Spot → Rows) (t : Ideal) (core : Core) (f k : ℕ) (work : Work)
    → Sound round start t core → work_of core f k ≡ Some work → IsOpen round t core f k work
is_open round start t core f k work h at =
    let is = opens_with (status_of core f) k work at in
    let fits : OpenFits round t f (works_of (status_of core f)) = subst (Fits round t f) is (h.fits f) in
    record {
      is = is;
      below = open_below round start t core f (works_of (status_of core f)) h is;
      fits = fits;
      fit = each_at (PieceFits round t f) (works_of (status_of core f)) k work fits.each at;
    }

pub at_new : {A : Type 0} (F : Status → A) (core : Core) (f : ℕ) (v : Status) → F (put (status_of core) f v f) ≡ F v
at_new F core f v = ap F (put-same (status_of core) f v)

pub nothing_of : (b : Bool) (w : Weight) (n : ℕ) → n ≡ n + weigh w (cond b [] [])
nothing_of true w n = omega arith
nothing_of false w n = omega arith

-- ---- an agent runs

-- the core when an agent with this memory ran, with this outcome for each memory
abbrev ran_by : Round → ℕ → ℕ → Place → Work → Row → (Row → Outcome) → Core → Core
ran_by round f k place work memory run core = record {
  statuses = with_work core f k (with_agent round f work memory (run memory));
  field = arrived place run memory core.field;
  frozen = core.frozen;
}

module _ (round : Round) (start : Spot → Rows) (t : Ideal) (core : Core) (f k : ℕ) (place : Place) (work : Work) (memory : Row)
    (h : Sound round start t core) (at : work_of core f k ≡ Some work) (next : slice_get work.agents work.ran ≡ Some memory)
    (there : slice_get (functions round.source.model) f ≡ Some place) where
  abbrev outs : List ℕ
  outs = outputs_of round.source.model f

  abbrev works : List Work
  works = works_of (status_of core f)

  abbrev q : Work
  q = with_agent round f work memory (t.run f memory)

  abbrev v : Status
  v = Open (slice_set works k q)

  abbrev agents : Rows
  agents = t.agents f

  open_now : IsOpen round t core f k work
  open_now = is_open round start t core f k work h at

  one : its_ran q ≡ its_ran work ++ memory ∷ []
  one = take_next work.agents work.ran memory next

  ran_more : (F : Rows → ℕ) (more : ℕ) → ((xs ys : Rows) → F (xs ++ ys) ≡ F xs + F ys) → F (memory ∷ []) ≡ more
      → F (ran_rows agents (put (status_of core) f v f)) ≡ F (ran_rows agents (status_of core f)) + more
  ran_more F more add single =
      at_new (λ s. F (ran_rows agents s)) core f v
      ∙ gather_set F add its_ran more works k work q at (ap F one ∙ add (its_ran work) (memory ∷ []) ∙ ap (λ n. F (its_ran work) + n) single)
      ∙ ap (λ s. F (ran_rows agents s) + more) (sym open_now.is)

  arrivals : Arrives round f core.field.pools (arrived place (t.run f) memory core.field).pools (lived t f (memory ∷ []))
  arrivals = rows_arrive round f place core.field (lived t f (memory ∷ [])) there h.holds.shape.pools h.holds.pools_up

  added : Adds round t f core.field (arrived place (t.run f) memory core.field) (still_in core)
      (ran_in t core) (λ g. ran_rows (t.agents g) (put (status_of core) f v g))
      (handed_in round.source.model t core) (λ m g. handed_rows (outputs_of round.source.model g) m (t.agents g) (put (status_of core) f v g))
      (lived t f (memory ∷ [])) (λ m. []) (λ n. born t f n (memory ∷ []))
  added = record {
    pools = arrivals.weighs;
    boards = λ m w less. nothing_of (is_in m outs) w (weigh w (slice_index_or core.field.boards m []));
    births = λ n w less. weigh-joined w (births_of (born_from (t.run f) (memory ∷ []))) core.field.born n (omega (arith, less, h.holds.shape.born));
    pools_up = arrivals.up;
    boards_up = h.holds.boards_up;
    born_up = joined-up (births_of (born_from (t.run f) (memory ∷ []))) core.field.born;
    shape = record {
      pools = arrivals.shape;
      born = length-joined (births_of (born_from (t.run f) (memory ∷ []))) core.field.born ∙ h.holds.shape.born;
      boards = h.holds.shape.boards;
    };
    ran_else = λ g apart. ap (ran_rows (t.agents g)) (put-else (status_of core) f v g apart);
    handed_else = λ m g apart. ap (handed_rows (outputs_of round.source.model g) m (t.agents g)) (put-else (status_of core) f v g apart);
    lived_more = λ w. ran_more (λ l. weigh w (lived t f l)) (weigh w (lived t f (memory ∷ [])))
        (λ xs ys. ap (weigh w) (lived-append t f xs ys) ∙ weigh-append w (lived t f xs) (lived t f ys)) refl;
    sent_more = λ m w writes.
        ap (λ l. weigh w (sent t f m l))
        (at_new (handed_rows outs m agents) core f v
        ∙ gather_same (its_handed outs m) works k work q at (handed_agent round t f m work memory open_now.fit next writes)
        ∙ ap (handed_rows outs m agents) (sym open_now.is))
        ∙ omega arith;
    born_more = λ n w. ran_more (λ l. weigh w (born t f n l)) (weigh w (born t f n (memory ∷ [])))
        (λ xs ys. ap (weigh w) (born-append t f n xs ys) ∙ weigh-append w (born t f n xs) (born t f n ys)) refl;
    arrive = λ w. weigh-same (only (resting round (still_in core) (enters round.source.model f)) w) w (lived t f (memory ∷ []))
        (λ row. ap (λ b. cond b (w row) 0) (nobody_waits_less round start t core f row h open_now.below (ap is_shut open_now.is)));
  }

  pub sound_ran_by : Sound round start t (ran_by round f k place work memory (t.run f) core)
  sound_ran_by =
      sound_change round start t core f v (arrived place (t.run f) memory core.field) h open_now.below
      (ap is_waiting (sym open_now.is)) (λ e. absurd (true≢false (sym e ∙ ap is_shut open_now.is)))
      (record {
        whole = gather_same its_agents works k work q at refl ∙ open_now.fits.whole;
        each = each_set (PieceFits round t f) works k q open_now.fits.each (fits_agent round t f work memory open_now.fit next);
      })
      (holds-more round start t f core.field (arrived place (t.run f) memory core.field) (still_in core)
      (ran_in t core) (λ g. ran_rows (t.agents g) (put (status_of core) f v g))
      (handed_in round.source.model t core) (λ m g. handed_rows (outputs_of round.source.model g) m (t.agents g) (put (status_of core) f v g))
      (lived t f (memory ∷ [])) (λ m. []) (λ n. born t f n (memory ∷ [])) h.holds open_now.below added)

sound_agent : (round : Round) (start : Spot → Rows) (t : Ideal) (core : Core) (f k : ℕ) (place : Place) (work : Work) (next : Option Row)
    → IsIdeal round start t → Sound round start t core → work_of core f k ≡ Some work → slice_get work.agents work.ran ≡ next
    → slice_get (functions round.source.model) f ≡ Some place
    → Sound round start t (ran_agent round f k place work next core)
sound_agent round start t core f k place work None ideal h at next there = h
sound_agent round start t core f k place work (Some memory) ideal h at next there =
    let now = is_open round start t core f k work h at in
    let runs = core_runs round start t core f ideal h now.below (h.fed f (ap is_waiting now.is)) in
    subst (λ (run : Row → Outcome). Sound round start t (ran_by round f k place work memory run core)) (sym runs)
    (sound_ran_by round start t core f k place work memory h at next there)

pub sound_next : (round : Round) (start : Spot → Rows) (t : Ideal) (core : Core) (f k : ℕ) (place : Option Place) (work : Option Work)
    → IsIdeal round start t → Sound round start t core → work_of core f k ≡ work → slice_get (functions round.source.model) f ≡ place
    → Sound round start t (ran_next round f k place work core)
sound_next round start t core f k None work ideal h at there = h
sound_next round start t core f k (Some place) None ideal h at there = h
sound_next round start t core f k (Some place) (Some work) ideal h at there =
    sound_agent round start t core f k place work (slice_get work.agents work.ran) ideal h at refl there
