-- A share that is taken in, as what its piece's Agent events leave.
use Rattle.std.proofs.Common.{◌≡◌, ℕ, ◌<◌, ◌≤◌, false, List, length, map, Some, refl, sym, ap, ◌∙◌, subst, arith, length-set, ⊎_elim}
use Rattle.std.specs.Prelude.{ℤ, is_some, slice_index_or, slice_set}
use Rattle.std.proofs.lemmas.Bool.{cases_lt, false≢true}
use Rattle.std.proofs.lemmas.List.{length-map}
use Rattle.std.proofs.lemmas.Option.{same_Some}
use Rattle.std.proofs.lemmas.Simd.{map-map}
use Rattle.flame_rows.specs.Bags.{ascending, merge}
use Rattle.flame_rows.proofs.Lists.{slice_get-some}
use Rattle.flame_spec.specs.declared.models.Model.{Model}
use Rattle.flame_spec.specs.declared.outcomes.Outcome.{Outcome}
use Rattle.flame_spec.specs.declared.outcomes.Source.{Source}
use Rattle.flame_spec.specs.Before.{function_count}
use Rattle.flame_spec.specs.Functions.{functions}
use Rattle.flame_meaning.specs.Outcomes.{outcome, place_of, outputs_at}
use Rattle.flame_world.specs.declared.pieces.Part.{Part}
use Rattle.flame_world.specs.declared.pieces.Rest.{Rest}
use Rattle.flame_world.specs.declared.settings.Setting.{Setting}
use Rattle.flame_world.specs.declared.shares.Share.{Share}
use Rattle.flame_world.specs.AgentRuns.{born_from, births_of, least_fault, messages_of, sent_from, survivors}
use Rattle.flame_world.specs.Fields.{Field, changed_pool, joined}
use Rattle.flame_world.specs.InputBoards.{boards_named}
use Rattle.flame_world.specs.Iterations.{outcome_in}
use Rattle.flame_world.specs.Meaning.{IsMeaning, outcome_under, part_for}
use Rattle.flame_world.specs.Settings.{boards_of}
use Rattle.flame_world.specs.Shares.{piece_of, setting_of}
use Rattle.flame_world.proofs.NamedBoards.{named_boards_are_enough}
use Rattle.flame_events.specs.AbsorbedPieces.{agent_events, ran_agents, with_agents}
use Rattle.flame_events.specs.CoreEnds.{is_faulted}
use Rattle.flame_events.specs.CoreFits.{FitsCore, FitsWork}
use Rattle.flame_events.specs.CoreStates.{Work, Status, Open, Shut, Faulted, Waiting, Core, fault_of, is_shut, is_waiting, status_of, work_of, works_of}
use Rattle.flame_events.specs.EventSteps.{replay, with_work}
use Rattle.flame_events.specs.Histories.{Leads}
use Rattle.flame_events.specs.LegalEvents.{outputs_of}
use Rattle.flame_events.proofs.Absorbing.{agents_run_at_once}
use Rattle.flame_events.proofs.Sound.{opens_with, past_waiting}
use Rattle.flame_route.specs.declared.routes.Route.{Route}
use Rattle.flame_progress.specs.declared.counts.Counts.{Counts}
use Rattle.flame_progress.specs.declared.leavings.PartedLeaving.{PartedLeaving}
use Rattle.flame_progress.specs.declared.progress.Progress.{Progress}
use Rattle.flame_progress.specs.KeptCores.{core_of, HasOutputsAt}
use Rattle.flame_progress.specs.KeptWorkEvents.{added}
use Rattle.flame_progress.specs.Tallying.{Came}
use Rattle.flame_progress.proofs.Known.{open_within}
use Rattle.flame_progress.proofs.Tallied.{came, counted_kept, status_kept}
use Rattle.flame_round.specs.declared.rounds.Round as run
use Rattle.flame_core.specs.CoreCalls.{Absorbed, CanAbsorb}
use Rattle.flame_core.specs.KeptReady.{InOrder, Ready}
use Rattle.flame_core.specs.KeptShares.{CanTakeIn, IsFed, IsSettingOf}
use Rattle.flame_core.specs.declared.ranks.Ranks.{Ranks}
use Rattle.flame_core.specs.FunctionRanks.{AreRanksOf}
use Rattle.flame_round.specs.KeptRounds.{GoesBy, round_of}
use Rattle.flame_core.specs.SeenCores.{Seen, round_in, when_came}
use Rattle.flame_core.proofs.SharedPieces.{absorbed_is}
use Rattle.flame_core.proofs.ShutRanks.{same_ranks}
use Rattle.flame_meaning.proofs.Eachs.{each_at}

-- ---- what is before the agents

-- the same setting over the same boards
pub setting_seen : (round : run.Round) (one other : List (List (List ℤ))) (f g : ℕ) (a b : Setting) → one ≡ other → f ≡ g → a ≡ b
    → IsSettingOf round one f a → IsSettingOf round other g b
setting_seen round one other f g a b boards functions settings is =
    subst (λ s. IsSettingOf round other g s) settings
    (subst (λ h. IsSettingOf round other h a) functions
    (subst (λ l. IsSettingOf round l f a) boards is))

-- what an agent comes to under its setting is what it comes to in the core
pub comes_to : (round : run.Round) (f : ℕ) (field : Field) (setting : Setting) → IsSettingOf round field.boards f setting
    → (memory : List ℤ) → outcome_under setting f memory ≡ outcome_in (round_of round) f field memory
comes_to round f field setting same memory =
    let source = same.source in
    let named : boards_of setting ≡ boards_named (place_of setting.source.now f) setting.source.now.model field.boards =
    same.boards_are ∙ sym (ap (λ (s : Source). boards_named (place_of s f) s.model field.boards) source) in
    named_boards_are_enough setting f memory field.boards named
    ∙ (λ i. outcome (source i) f memory field.boards (same.constants i) (same.iteration i) (same.fuel i))

-- ---- functions that began

begun_within : (statuses : List Status) (f : ℕ) → is_waiting (slice_index_or statuses f Waiting) ≡ false → f < length statuses
begun_within statuses f began = ⊎_elim
    (λ (less : f < length statuses). less)
    (λ (over : length statuses ≤ f). absurd (false≢true (sym began ∙ ap is_waiting (past_waiting statuses f over))))
    (cases_lt f (length statuses))

pub fed_of : (model : Model) (pieces : ℕ) (progress : Progress) → FitsCore model (core_of progress) → InOrder model pieces (core_of progress)
    → (f : ℕ) → IsFed model progress f
fed_of model pieces progress fits in_order f = record {
  there = λ began.
      let less = begun_within (core_of progress).statuses f began in
      (let below : f < function_count model = omega (arith, less, fits.statuses) in below);
  fed = in_order.fed f;
}

-- a function with a piece is none that waits
pub began : (core : Core) (f k : ℕ) (work : Work) → work_of core f k ≡ Some work → is_waiting (status_of core f) ≡ false
began core f k work there = ap is_waiting (opens_with (status_of core f) k work there)

-- and so is one that has pieces
pub has_begun : (core : Core) (f : ℕ) → 1 ≤ length (works_of (status_of core f)) → is_waiting (status_of core f) ≡ false
has_begun core f many = pieces_began (status_of core f) many
  where
    pieces_began : (status : Status) → 1 ≤ length (works_of status) → is_waiting status ≡ false
    pieces_began Waiting some = absurd (omega (arith, some))
    pieces_began (Open works) some = refl
    pieces_began Shut some = refl
    pieces_began (Faulted fault) some = refl

pub piece_below : (model : Model) (core : Core) (f k : ℕ) (work : Work) → FitsCore model core → work_of core f k ≡ Some work → f < function_count model
piece_below model core f k work fits there =
    let less = begun_within core.statuses f (began core f k work there) in
    omega (arith, less, fits.statuses)

-- ---- the share in the core

pub can_here : (seen : Seen) (round : run.Round) (share : Share) → CanTakeIn round seen.core share
    → round.program.now ≡ seen.source → round.constants.now ≡ seen.world.constants → round.iteration ≡ seen.iteration → round.fuel ≡ seen.fuel
    → CanAbsorb seen share
can_here seen round share can source constants iteration fuel = record {
  work = can.work;
  there = can.there;
  agents = can.agents;
  new = can.new;
  setting = record {
    source = can.setting.source ∙ source;
    constants = can.setting.constants ∙ constants;
    boards = can.setting.boards_are
        ∙ ap (λ (s : Source). boards_named (place_of s (piece_of share).function) s.model seen.core.field.boards) source;
    iteration = can.setting.iteration ∙ iteration;
    fuel = can.setting.fuel ∙ fuel;
  };
}

pub can_there : (seen : Seen) (round : run.Round) (share : Share) → CanAbsorb seen share
    → round.program.now ≡ seen.source → round.constants.now ≡ seen.world.constants → round.iteration ≡ seen.iteration → round.fuel ≡ seen.fuel
    → CanTakeIn round seen.core share
can_there seen round share can source constants iteration fuel = record {
  work = can.work;
  there = can.there;
  agents = can.agents;
  new = can.new;
  setting = record {
    source = can.setting.source ∙ sym source;
    constants = can.setting.constants ∙ sym constants;
    boards_are = can.setting.boards
        ∙ ap (λ (s : Source). boards_named (place_of s (piece_of share).function) s.model seen.core.field.boards) (sym source);
    iteration = can.setting.iteration ∙ sym iteration;
    fuel = can.setting.fuel ∙ sym fuel;
  };
}

-- the events of the share's piece lead on
pub leads_on : (seen : Seen) (share : Share) → FitsCore seen.source.model seen.core → (can : CanAbsorb seen share)
    → Leads (round_in seen) seen.pieces seen.core (agent_events (piece_of share).function (piece_of share).number can.work)
    (replay (round_in seen) seen.pieces seen.core (agent_events (piece_of share).function (piece_of share).number can.work))
leads_on seen share fits can =
    let model = seen.source.model in
    let f = (piece_of share).function in
    let k = (piece_of share).number in
    let place = slice_get-some (functions model) f (piece_below model seen.core f k can.work fits can.there) in
    let is = each_at (FitsWork model f place.0.type) (works_of (status_of seen.core f)) k can.work (fits.works f place.0 place.1) can.there in
    record {
      legal = (agents_run_at_once (round_in seen) seen.pieces f k place.0 can.work seen.core place.1 can.there can.new is.some).0;
      left = refl;
    }

-- what the share leaves is seen wherever the core is
pub absorbed_so : (seen old new : Seen) (share : Share) → seen ≡ old → FitsCore seen.source.model seen.core → (can : CanAbsorb seen share)
    → new ≡ when_came (agent_events (piece_of share).function (piece_of share).number can.work) seen
    → Absorbed share old new
absorbed_so seen old new share same fits can left =
    subst (λ (s : Seen). Absorbed share s new) same
    (record { can = can; legal = (leads_on seen share fits can).legal; left = left })

-- and its functions are as far by rank as they were
pub ranks_stay : (seen : Seen) (share : Share) (next : Core) (ranks : Ranks) → FitsCore seen.source.model seen.core → (can : CanAbsorb seen share)
    → next ≡ replay (round_in seen) seen.pieces seen.core (agent_events (piece_of share).function (piece_of share).number can.work)
    → AreRanksOf seen.source.model seen.core ranks → AreRanksOf seen.source.model next ranks
ranks_stay seen share next ranks fits can left ranked =
    let model = seen.source.model in
    let core = seen.core in
    let f = (piece_of share).function in
    let k = (piece_of share).number in
    let place = slice_get-some (functions model) f (piece_below model core f k can.work fits can.there) in
    let is = each_at (FitsWork model f place.0.type) (works_of (status_of core f)) k can.work (fits.works f place.0 place.1) can.there in
    let same : next ≡ ran_agents (round_in seen) f k place.0 can.work core =
    left ∙ (agents_run_at_once (round_in seen) seen.pieces f k place.0 can.work core place.1 can.there can.new is.some).1 in
    let v : Status = Open (slice_set (works_of (status_of core f)) k (with_agents (round_in seen) f can.work core)) in
    let open_is = opens_with (status_of core f) k can.work can.there in
    let less = open_within core.statuses f (works_of (status_of core f)) open_is in
    same_ranks model core next ranks
    (λ g. ap (λ (c : Core). is_shut (status_of c g)) same ∙ status_kept is_shut core.statuses f v less (sym (ap is_shut open_is)) g)
    (λ g. ap (λ (c : Core). is_faulted c g) same
    ∙ status_kept (λ (s : Status). is_some (fault_of s)) core.statuses f v less (sym (ap (λ (s : Status). is_some (fault_of s)) open_is)) g)
    ranked

-- a share has a part for each output
pub share_long : (round : run.Round) (core : Core) (share : Share) (rest : Rest) (parts : List Part) → CanTakeIn round core share
    → IsMeaning (setting_of share) (piece_of share) rest parts
    → length parts ≡ length (outputs_of round.program.now.model (piece_of share).function)
share_long round core share rest parts can meant =
    let p = piece_of share in
    let setting = setting_of share in
    ap length meant.parts_are
    ∙ length-map (outputs_at (place_of setting.source.now p.function) setting.source.now.model)
    (part_for p (sent_from (outcome_under setting p.function) p.agents))
    ∙ ap (λ (s : Source). length (outputs_at (place_of s p.function) s.model)) can.setting.source

pub taken_in : (round : run.Round) (pieces : ℕ) (progress new : Progress) (counts : Counts) (share : Share) (route : Route) (left : PartedLeaving)
    (work : Work) (rest : Rest) (parts : List Part)
    → GoesBy round.program.now.model (piece_of share).function route
    → Ready round pieces progress counts
    → CanTakeIn round (core_of progress) share
    → work_of (core_of progress) (piece_of share).function (piece_of share).number ≡ Some work
    → IsMeaning (setting_of share) (piece_of share) rest parts
    → left.ran ≡ length (piece_of share).agents
    → ascending left.survivors.items ≡ rest.survivors
    → map (λ rows. rows.items) left.parts.items ≡ map (λ (part : Part). part.rows) parts
    → left.born.items ≡ rest.born
    → left.fault ≡ rest.fault
    → (let made : Core = record (core_of progress) {
      statuses = with_work (core_of progress) (piece_of share).function (piece_of share).number (added left work);
      field = record (core_of progress).field {
        pools = changed_pool route.agent route.to (λ pool. merge pool (ascending left.survivors.items)) (core_of progress).field.pools;
        born = joined (births_of left.born.items) (core_of progress).field.born;
      };
    } in core_of new ≡ made)
    → ((g : ℕ) (outputs : List ℕ) → HasOutputsAt progress g outputs → HasOutputsAt new g outputs)
    → Came round.program.now.model
    (replay (round_of round) pieces (core_of progress) (agent_events (piece_of share).function (piece_of share).number work)) new counts
taken_in round pieces progress new counts share route left work rest parts goes ready can there meant ran lives sends bears faults is keeps =
    let model = round.program.now.model in
    let core = core_of progress in
    let p = piece_of share in
    let f = p.function in
    let k = p.number in
    let setting = setting_of share in
    let place = goes.place in
    let outputs = outputs_of model f in
    let run : List ℤ → Outcome = outcome_in (round_of round) f core.field in
    let runs : outcome_under setting f ≡ run = λ i memory. comes_to round f core.field setting can.setting memory i in
    let same : can.work ≡ work = same_Some can.work work (sym can.there ∙ there) in
    let agents : p.agents ≡ work.agents = can.agents ∙ ap (λ (w : Work). w.agents) same in
    let fresh : work.ran ≡ 0 = ap (λ (w : Work). w.ran) (sym same) ∙ can.new in
    let fits = each_at (FitsWork model f place.type) (works_of (status_of core f)) k work (ready.fits.works f place goes.there) there in
    let law = agents_run_at_once (round_of round) pieces f k place work core goes.there there fresh fits.some in
    let survive : ascending left.survivors.items ≡ survivors run work.agents =
    lives ∙ meant.survivors_are ∙ (λ i. survivors (runs i) (agents i)) in
    let bear : left.born.items ≡ born_from run work.agents = bears ∙ meant.births_are ∙ (λ i. born_from (runs i) (agents i)) in
    let fault : left.fault ≡ least_fault round.iteration f run work.agents =
    faults ∙ meant.fault_is ∙ (λ i. least_fault (can.setting.iteration i) f (runs i) (agents i)) in
    let out : outputs_at (place_of setting.source.now f) setting.source.now.model ≡ outputs =
    ap (λ (s : Source). outputs_at (place_of s f) s.model) can.setting.source in
    let parts_are : parts ≡ map (part_for p (sent_from run work.agents)) outputs =
    meant.parts_are ∙ (λ i. map (part_for p (sent_from (runs i) (agents i))) (out i)) in
    let sent : map (λ rows. rows.items) left.parts.items ≡ map (λ m. ascending (messages_of (sent_from run work.agents) m)) outputs =
    sends ∙ ap (map (λ (part : Part). part.rows)) parts_are
    ∙ map-map (λ (part : Part). part.rows) (part_for p (sent_from run work.agents)) outputs in
    let tallies = ready.tallies in
    let absorbed = absorbed_is (round_of round) f k place work core left route.agent route.to fresh (ran ∙ ap length agents)
    goes.routed.agent goes.routed.to survive bear fault sent in
    let v : Status = Open (slice_set (works_of (status_of core f)) k (added left work)) in
    let made : Core = record core {
      statuses = with_work core f k (added left work);
      field = record core.field {
        pools = changed_pool route.agent route.to (λ pool. merge pool (ascending left.survivors.items)) core.field.pools;
        born = joined (births_of left.born.items) core.field.born;
      };
    } in
    let open_is = opens_with (status_of core f) k work there in
    let less = open_within core.statuses f (works_of (status_of core f)) open_is in
    let all = came model progress new counts counts made is
    (length-set core.statuses f v) refl (λ g has. keeps g (outputs_of model g) has) tallies
    (counted_kept model core made counts
    (status_kept is_shut core.statuses f v less (sym (ap is_shut open_is))) refl tallies.counted) in
    record { core = all.core ∙ absorbed ∙ sym law.1; tallies = all.tallies }
