-- What fits a model stays so while events come.
use Rattle.std.proofs.Common.{◌≡◌, ℕ, zero, suc, ◌+◌, ◌<◌, ◌≤◌, ⊎_elim, true, false, List, [], ◌∷◌, ◌++◌, length, map, take, drop, Option, Some, None, refl, sym, ap, ◌∙◌, arith, subst, length-set, length-take}
use Rattle.std.specs.Prelude.{◌==◌, slice_get, slice_set, slice_index_or}
use Rattle.std.specs.List.{filter, AllZip, position_or_len}
use Rattle.std.proofs.lemmas.Bool.{cases_eq, cases_lt, eqb-true}
use Rattle.std.proofs.lemmas.List.{length-map, set_past}
use Rattle.std.proofs.lemmas.Option.{slice_get_within}
use Rattle.flame_rows.specs.Order.{row_order}
use Rattle.flame_rows.specs.Bags.{merge}
use Rattle.flame_rows.proofs.Lists.{slice_index_or-map_one, slice_get-some}
use Rattle.flame_spec.specs.declared.models.AgentType.{AgentType}
use Rattle.flame_spec.specs.declared.models.MessageType.{MessageType}
use Rattle.flame_spec.specs.declared.models.Model.{Model}
use Rattle.flame_spec.specs.declared.outcomes.Outcome.{Outcome}
use Rattle.flame_spec.specs.declared.outcomes.Outcome.TheVariants.{Ended, Faulted}
use Rattle.flame_spec.specs.declared.outcomes.Sent.{Sent}
use Rattle.flame_spec.specs.declared.outcomes.Born.{Born}
use Rattle.flame_spec.specs.Before.{function_count}
use Rattle.flame_spec.specs.Columns.{width}
use Rattle.flame_spec.specs.Functions.{Place, functions}
use Rattle.flame_meaning.specs.RangeLaws.{Each, IfAny}
use Rattle.flame_world.specs.declared.faults.SimFault.{SimFault}
use Rattle.flame_world.specs.AgentRuns.{kept, sent_by, born_by, survivors, born_from, messages_of, births_of}
use Rattle.flame_spec.specs.States.{state_place}
use Rattle.flame_world.specs.Fields.{Field, changed, changed_pool, joined_from}
use Rattle.flame_world.specs.Iterations.{Round, resting, taking, staying, outcome_in}
use Rattle.flame_world.specs.WorldFits.{AreWide}
use Rattle.flame_world.proofs.Eachs.{each_append, each_map, each_passing, each_filter_map, each_flat_map, zip_at, zip_changed, each_changed}
use Rattle.flame_world.proofs.RowsKept.{IsSentOf, IsBornOf, LeavesRows, place_type}
use Rattle.flame_world.proofs.WidthsKept.{IsWide, leaves_wide, fitting_worlds_open}
use Rattle.flame_events.specs.declared.events.Event.TheVariants as event
use Rattle.flame_rows.specs.Cuts.{piece_size, runs, cut}
use Rattle.flame_events.specs.CoreStates.{Work, Status, Waiting, Open, Faulted, works_of, part_in, fault_in, Core, status_of, work_of}
use Rattle.flame_events.specs.LegalEvents.{outputs_of}
use Rattle.flame_events.specs.EventSteps.{fresh_work, opened, with_sent, with_agent, ran_agent, ran_next, joined_board, handed_in, done_with, after}
use Rattle.flame_events.specs.CoreFits.{FitsWork, FitsCore, FittingCoresOpen, FittingCoresStay}
use Rattle.flame_events.proofs.EvenCuts.{share_counts}
use Rattle.flame_events.proofs.Weights.{Row, Rows}
use Rattle.flame_events.proofs.Moves.{has_changed}
use Rattle.flame_events.proofs.Works.{each_set, more_of, part_in-with_sent, length-with_sent, kept_is_output, without, part_in-without, part_in-without-else}
use Rattle.flame_events.proofs.Sound.{set_table, put_all, past_waiting}
use Rattle.flame_meaning.proofs.Eachs.{each_at, each_filter, each_sorted, each_index}

-- ---- rows

merged_wide : (wide : ℕ) (rows more : Rows) → Each (IsWide wide) rows → Each (IsWide wide) more → Each (IsWide wide) (merge rows more)
merged_wide wide rows more one other = each_sorted (IsWide wide) row_order (rows ++ more) (each_append (IsWide wide) rows more one other)

take_wide : (wide n : ℕ) (rows : Rows) → Each (IsWide wide) rows → Each (IsWide wide) (take n rows)
take_wide wide zero [] all = tt
take_wide wide (suc n) [] all = tt
take_wide wide zero (row ∷ rows) all = tt
take_wide wide (suc n) (row ∷ rows) all = (all.0, take_wide wide n rows all.1)

drop_wide : (wide n : ℕ) (rows : Rows) → Each (IsWide wide) rows → Each (IsWide wide) (drop n rows)
drop_wide wide zero [] all = tt
drop_wide wide (suc n) [] all = tt
drop_wide wide zero (row ∷ rows) all = all
drop_wide wide (suc n) (row ∷ rows) all = drop_wide wide n rows all.1

-- ---- what an agent leaves

kept_wide : (model : Model) (wide : ℕ) (o : Outcome) → LeavesRows IsWide model wide o → IfAny (IsWide wide) (kept o)
kept_wide model wide (Ended effect) leaves = leaves.0
kept_wide model wide (Faulted fault) leaves = tt

sent_wide : (model : Model) (wide : ℕ) (o : Outcome) → LeavesRows IsWide model wide o → Each (IsSentOf IsWide model) (sent_by o)
sent_wide model wide (Ended effect) leaves = leaves.1
sent_wide model wide (Faulted fault) leaves = tt

born_wide : (model : Model) (wide : ℕ) (o : Outcome) → LeavesRows IsWide model wide o → Each (IsBornOf IsWide model) (born_by o)
born_wide model wide (Ended effect) leaves = leaves.2
born_wide model wide (Faulted fault) leaves = tt

messages_wide : (model : Model) (sent : List Sent) → Each (IsSentOf IsWide model) sent
    → (k : ℕ) (type : MessageType) → slice_get model.messages k ≡ Some type → Each (IsWide (width type.variables)) (messages_of sent k)
messages_wide model sent all k type at =
    each_map (λ s. IsWide (width type.variables) s.row) (IsWide (width type.variables)) (λ s. s.row) (λ s is. is)
    (filter (λ (s : Sent). s.message == k) sent)
    (each_passing (IsSentOf IsWide model) (λ s. IsWide (width type.variables) s.row) (λ (s : Sent). s.message == k)
    (λ s passes is. is type (ap (slice_get model.messages) (eqb-true s.message k passes) ∙ at)) sent all)

births_wide : (model : Model) (born : List Born) → Each (IsBornOf IsWide model) born
    → (k : ℕ) (type : AgentType) → slice_get model.agents k ≡ Some type → Each (IsWide (width type.memory)) (births_of born k)
births_wide model born all k type at =
    each_map (λ b. IsWide (width type.memory) b.row) (IsWide (width type.memory)) (λ b. b.row) (λ b is. is)
    (filter (λ (b : Born). b.agent == k) born)
    (each_passing (IsBornOf IsWide model) (λ b. IsWide (width type.memory) b.row) (λ (b : Born). b.agent == k)
    (λ b passes is. is type (ap (slice_get model.agents) (eqb-true b.agent k passes) ∙ at)) born all)

-- ---- fields

abbrev PoolsWide : Model → List (List Rows) → Type 0
PoolsWide model pools = AllZip (λ (type : AgentType) own. Each (AreWide (width type.memory)) own) model.agents pools

pools_changed : (model : Model) (pools : List (List Rows)) (agent state : ℕ) (type : AgentType) (change : Rows → Rows)
    → slice_get model.agents agent ≡ Some type
    → ((bag : Rows) → Each (IsWide (width type.memory)) bag → Each (IsWide (width type.memory)) (change bag))
    → PoolsWide model pools → PoolsWide model (changed_pool agent state change pools)
pools_changed model pools agent state type change at keeps all =
    zip_changed (λ (t : AgentType) own. Each (AreWide (width t.memory)) own) model.agents pools agent (changed state change) all
    (λ t own there bags.
    let same : type ≡ t = cc in
    each_changed (AreWide (width t.memory)) state change
    (λ bag is. subst (λ (u : AgentType). AreWide (width u.memory) bag → AreWide (width u.memory) (change bag)) same (keeps bag) is) own bags)

joined_wide : {X : Type 0} (wide : X → ℕ) (rows : ℕ → Rows) (i : ℕ) (xs : List X) (bags : List Rows)
    → AllZip (λ x bag. AreWide (wide x) bag) xs bags
    → ((k : ℕ) (x : X) → slice_get xs k ≡ Some x → AreWide (wide x) (rows (i + k)))
    → AllZip (λ x bag. AreWide (wide x) bag) xs (joined_from i rows bags)
joined_wide wide rows i [] [] all come = tt
joined_wide wide rows i [] (bag ∷ bags) all come = absurd all
joined_wide wide rows i (x ∷ xs) [] all come = absurd all
joined_wide wide rows i (x ∷ xs) (bag ∷ bags) all come = (
  merged_wide (wide x) bag (rows i) all.0 (subst (λ n. AreWide (wide x) (rows n)) (omega arith) (come 0 x refl)),
  joined_wide wide rows (i + 1) xs bags all.1 (λ k y at. subst (λ n. AreWide (wide y) (rows n)) (omega arith) (come (suc k) y at)),
)

pool_wide : (model : Model) (place : Place) (field : Field) → slice_get model.agents place.agent ≡ Some place.type → PoolsWide model field.pools
    → AreWide (width place.type.memory) (resting place field)
pool_wide model place field typed all =
    each_index (AreWide (width place.type.memory)) [] (slice_index_or field.pools place.agent []) (state_place place.type place.function.current) tt
    (zip_at (λ (t : AgentType) own. Each (AreWide (width t.memory)) own) model.agents field.pools place.agent place.type [] all typed)

-- ---- statuses

abbrev WorksFit : Model → ℕ → Status → Type 0
WorksFit model f status = (place : Place) → slice_get (functions model) f ≡ Some place → Each (FitsWork model f place.type) (works_of status)

works_set : (model : Model) (core : Core) (f : ℕ) (v : Status) → f < length core.statuses → WorksFit model f v
    → ((g : ℕ) → WorksFit model g (status_of core g)) → (g : ℕ) → WorksFit model g (slice_index_or (slice_set core.statuses f v) g Waiting)
works_set model core f v less new old g =
    subst (WorksFit model g) (sym (set_table core.statuses f v Waiting less g))
    (put_all (WorksFit model) (status_of core) f v new (λ k apart. old k) g)

-- ---- a function is opened

runs_fit : (model : Model) (f : ℕ) (type : AgentType) (more size : ℕ) (agents : Rows) → 0 < size → AreWide (width type.memory) agents
    → Each (FitsWork model f type) (map (fresh_work (outputs_of model f)) (runs more size agents))
runs_fit model f type zero size agents some wide = tt
runs_fit model f type (suc more) size [] some wide = tt
runs_fit model f type (suc more) size (agent ∷ agents) some wide =
    let outs = outputs_of model f in
    let all = agent ∷ agents in (
      record {
        agents = take_wide (width type.memory) size all wide;
        some = omega (arith, length-take size all, some);
        ran = omega arith;
        parts = length-fresh outs;
        messages = λ message t rows at is. fresh_rows outs message t rows is;
      },
      runs_fit model f type more size (drop size all) some (drop_wide (width type.memory) size all wide),
    )
  where
    length-fresh : (outs : List ℕ) → length (fresh_work outs []).parts ≡ length outs
    length-fresh [] = refl
    length-fresh (output ∷ outs) = ap suc (length-fresh outs)

    no_rows : (parts : List ℕ) (k : ℕ) (rows : Rows) → slice_index_or (fresh_work parts []).parts k None ≡ Some rows → rows ≡ []
    no_rows [] k rows at = cc
    no_rows (part ∷ parts) zero rows at = cc
    no_rows (part ∷ parts) (suc k) rows at = no_rows parts k rows at

    fresh_rows : (outs : List ℕ) (message : ℕ) (t : MessageType) (rows : Rows) → part_in outs (fresh_work outs []).parts message ≡ Some rows → AreWide (width t.variables) rows
    fresh_rows outs message t rows at =
        subst (AreWide (width t.variables)) (sym (no_rows outs (position_or_len (λ output. output == message) outs) rows at)) tt

cut_fits : (model : Model) (f : ℕ) (type : AgentType) (pieces : ℕ) (agents : Rows) → AreWide (width type.memory) agents
    → Each (FitsWork model f type) (map (fresh_work (outputs_of model f)) (cut pieces agents))
cut_fits model f type zero agents wide = tt
cut_fits model f type (suc pieces) [] wide = tt
cut_fits model f type (suc pieces) (agent ∷ agents) wide =
    let size : 0 < piece_size (length (agent ∷ agents)) (suc pieces) = share_counts (length (agent ∷ agents)) (suc pieces) (omega arith) (omega arith) in
    runs_fit model f type (suc pieces) (piece_size (length (agent ∷ agents)) (suc pieces)) (agent ∷ agents) size wide

fits_opened : (round : Round) (pieces : ℕ) (core : Core) (f : ℕ) (place : Place) → FitsCore round.source.model core
    → slice_get (functions round.source.model) f ≡ Some place
    → FitsCore round.source.model (opened round pieces f (Some place) core)
fits_opened round pieces core f place fits at =
    let model = round.source.model in
    let typed = place_type model f place at in
    let rests = pool_wide model place core.field typed fits.field.pools in
    let agents = taking round f place core.field in
    let less : f < length core.statuses = omega (arith, slice_get_within (functions model) f place at, fits.statuses) in
    record {
      statuses = length-set core.statuses f _ ∙ fits.statuses;
      frozen = fits.frozen;
      field = record {
        states = has_changed model core.field.pools place.agent (state_place place.type place.function.current) (staying round f place) fits.field.states;
        pools = pools_changed model core.field.pools place.agent (state_place place.type place.function.current) place.type (staying round f place) typed
            (λ bag wide. each_filter (IsWide (width place.type.memory)) _ bag wide) fits.field.pools;
        born = fits.field.born;
        boards = fits.field.boards;
      };
      works = works_set model core f (Open (map (fresh_work (outputs_of model f)) (cut pieces agents))) less
          (λ other there.
          let same : place ≡ other = cc in
          subst (λ (p : Place). Each (FitsWork model f p.type) (map (fresh_work (outputs_of model f)) (cut pieces agents))) same
          (cut_fits model f place.type pieces agents (each_filter (IsWide (width place.type.memory)) _ (resting place core.field) rests)))
          fits.works;
    }

-- ---- an agent runs

wide_at : (wide : ℕ) (rows : Rows) (k : ℕ) (row : Row) → AreWide wide rows → slice_get rows k ≡ Some row → length row ≡ wide
wide_at wide rows k row all at = each_at (IsWide wide) rows k row all at

work_after : (round : Round) (f : ℕ) (type : AgentType) (work : Work) (memory : Row) (o : Outcome) → FitsWork round.source.model f type work
    → slice_get work.agents work.ran ≡ Some memory → LeavesRows IsWide round.source.model (width type.memory) o
    → FitsWork round.source.model f type (with_agent round f work memory o)
work_after round f type work memory o fits at leaves =
    let model = round.source.model in
    let outs = outputs_of model f in
    record {
      agents = fits.agents;
      some = fits.some;
      ran = omega (arith, slice_get_within work.agents work.ran memory at);
      parts = length-with_sent outs (sent_by o) work.parts fits.parts;
      messages = λ m t rows there is.
          let within = kept_is_output outs (with_sent outs (sent_by o) work.parts) m rows (length-with_sent outs (sent_by o) work.parts fits.parts) is in
          by m t there (part_in outs work.parts m) refl rows (sym (part_in-with_sent outs (sent_by o) work.parts m within) ∙ is);
    }
  where
    by : (m : ℕ) (t : MessageType) → slice_get round.source.model.messages m ≡ Some t → (old : Option Rows) → part_in (outputs_of round.source.model f) work.parts m ≡ old
        → (rows : Rows) → more_of (sent_by o) m old ≡ Some rows → AreWide (width t.variables) rows
    by m t there None was rows is = absurd cc
    by m t there (Some old) was rows is =
        let same : merge old (messages_of (sent_by o) m) ≡ rows = cc in
        subst (AreWide (width t.variables)) same
        (merged_wide (width t.variables) old (messages_of (sent_by o) m) (fits.messages m t old there was)
        (messages_wide round.source.model (sent_by o) (sent_wide round.source.model (width type.memory) o leaves) m t there))

pub status_below : (core : Core) (f k : ℕ) (work : Work) → work_of core f k ≡ Some work → f < length core.statuses
status_below core f k work at = ⊎_elim
    (λ (less : f < length core.statuses). less)
    (λ (over : length core.statuses ≤ f). absurd (none_some (sym (ap (λ s. slice_get (works_of s) k) (past_waiting core.statuses f over)) ∙ at)))
    (cases_lt f (length core.statuses))
  where
    none_some : None ≡ Some work → ⊥
    none_some e = cc

fits_agent : (round : Round) (core : Core) (f k : ℕ) (place : Place) (work : Work) (next : Option Row) → FitsCore round.source.model core
    → slice_get (functions round.source.model) f ≡ Some place → work_of core f k ≡ Some work → slice_get work.agents work.ran ≡ next
    → FitsCore round.source.model (ran_agent round f k place work next core)
fits_agent round core f k place work None fits there at next = fits
fits_agent round core f k place work (Some memory) fits there at next =
    let model = round.source.model in
    let typed = place_type model f place there in
    let run = outcome_in round f core.field in
    let o = run memory in
    let works = works_of (status_of core f) in
    let fit = each_at (FitsWork model f place.type) works k work (fits.works f place there) at in
    let wide = wide_at (width place.type.memory) work.agents work.ran memory fit.agents next in
    let leaves = leaves_wide round f core.field memory (width place.type.memory) wide in
    let q = with_agent round f work memory o in
    record {
      statuses = length-set core.statuses f _ ∙ fits.statuses;
      frozen = fits.frozen;
      field = record {
        states = has_changed model core.field.pools place.agent (state_place place.type place.function.next) (λ pool. merge pool (survivors run (memory ∷ []))) fits.field.states;
        pools = pools_changed model core.field.pools place.agent (state_place place.type place.function.next) place.type (λ pool. merge pool (survivors run (memory ∷ []))) typed
            (λ bag all. merged_wide (width place.type.memory) bag (survivors run (memory ∷ [])) all
            (each_sorted (IsWide (width place.type.memory)) row_order _
            (each_filter_map (IsWide (width place.type.memory)) (IsWide (width place.type.memory)) (λ m. kept (run m))
            (λ m is. kept_wide model (width place.type.memory) (run m) (leaves_wide round f core.field m (width place.type.memory) is)) (memory ∷ []) (wide, tt))))
            fits.field.pools;
        born = joined_wide (λ (type : AgentType). width type.memory) (births_of (born_from run (memory ∷ []))) 0 model.agents core.field.born fits.field.born
            (λ n type is. subst (λ j. AreWide (width type.memory) (births_of (born_from run (memory ∷ [])) j)) (omega arith)
            (births_wide model (born_from run (memory ∷ []))
            (each_flat_map (IsWide (width place.type.memory)) (IsBornOf IsWide model) (λ m. born_by (run m))
            (λ m w. born_wide model (width place.type.memory) (run m) (leaves_wide round f core.field m (width place.type.memory) w)) (memory ∷ []) (wide, tt)) n type is));
        boards = fits.field.boards;
      };
      works = works_set model core f (Open (slice_set works k q)) (status_below core f k work at)
          (λ other is.
          let same : place ≡ other = cc in
          subst (λ (p : Place). Each (FitsWork model f p.type) (slice_set works k q)) same
          (each_set (FitsWork model f place.type) works k q (fits.works f place there) (work_after round f place.type work memory o fit next leaves)))
          fits.works;
    }

fits_next : (round : Round) (core : Core) (f k : ℕ) (place : Option Place) (work : Option Work) → FitsCore round.source.model core
    → slice_get (functions round.source.model) f ≡ place → work_of core f k ≡ work
    → FitsCore round.source.model (ran_next round f k place work core)
fits_next round core f k None work fits there at = fits
fits_next round core f k (Some place) None fits there at = fits
fits_next round core f k (Some place) (Some work) fits there at = fits_agent round core f k place work (slice_get work.agents work.ran) fits there at refl

-- ---- messages are handed in

fits_without : (model : Model) (f m : ℕ) (type : AgentType) (work : Work) (kept_rows : Rows) → FitsWork model f type work
    → part_in (outputs_of model f) work.parts m ≡ Some kept_rows
    → FitsWork model f type (without (outputs_of model f) m work)
fits_without model f m type work kept_rows fits at =
    let outs = outputs_of model f in
    let long = length-set work.parts (position_or_len (λ output. output == m) outs) None ∙ fits.parts in
    let writes = kept_is_output outs work.parts m kept_rows fits.parts at in
    record {
      agents = fits.agents;
      some = fits.some;
      ran = fits.ran;
      parts = long;
      messages = λ other t rows there is. ⊎_elim
          (λ (same : other ≡ m). absurd (none_some rows (sym (part_in-without outs m work) ∙ ap (part_in outs (without outs m work).parts) (sym same) ∙ is)))
          (λ (apart : other ≡ m → ⊥).
          let within = kept_is_output outs (without outs m work).parts other rows long is in
          fits.messages other t rows there (sym (part_in-without-else outs m other work writes within apart) ∙ is))
          (cases_eq other m);
    }
  where
    none_some : (rows : Rows) → None ≡ Some rows → ⊥
    none_some rows e = cc

fits_board : (model : Model) (core : Core) (f k m : ℕ) (work : Work) (part : Option Rows) → FitsCore model core
    → work_of core f k ≡ Some work → part_in (outputs_of model f) work.parts m ≡ part
    → (place : Place) → slice_get (functions model) f ≡ Some place
    → FitsCore model (joined_board f k m (outputs_of model f) work part core)
fits_board model core f k m work None fits at is place there = fits
fits_board model core f k m work (Some rows) fits at is place there =
    let works = works_of (status_of core f) in
    let q = without (outputs_of model f) m work in
    let fit = each_at (FitsWork model f place.type) works k work (fits.works f place there) at in
    record {
      statuses = length-set core.statuses f _ ∙ fits.statuses;
      frozen = fits.frozen;
      field = record {
        states = fits.field.states;
        pools = fits.field.pools;
        born = fits.field.born;
        boards = zip_changed (λ (type : MessageType) board. AreWide (width type.variables) board) model.messages core.field.boards m (λ board. merge board rows) fits.field.boards
            (λ type board known wide. merged_wide (width type.variables) board rows wide (fit.messages m type rows known is));
      };
      works = works_set model core f (Open (slice_set works k q)) (status_below core f k work at)
          (λ other known.
          let same : place ≡ other = cc in
          subst (λ (p : Place). Each (FitsWork model f p.type) (slice_set works k q)) same
          (each_set (FitsWork model f place.type) works k q (fits.works f place there) (fits_without model f m place.type work rows fit is)))
          fits.works;
    }

fits_handed : (model : Model) (core : Core) (f k m : ℕ) (work : Option Work) → FitsCore model core → work_of core f k ≡ work
    → FitsCore model (handed_in f k m (outputs_of model f) work core)
fits_handed model core f k m None fits at = fits
fits_handed model core f k m (Some work) fits at =
    let less : f < function_count model = omega (arith, status_below core f k work at, fits.statuses) in
    let place = slice_get-some (functions model) f less in
    fits_board model core f k m work (part_in (outputs_of model f) work.parts m) fits at refl place.0 place.1

-- ---- all events

no_works : (model : Model) (f : ℕ) (o : Option SimFault) → WorksFit model f (done_with o)
no_works model f None place at = tt
no_works model f (Some fault) place at = tt

fits_shut : (round : Round) (pieces : ℕ) (core : Core) (f : ℕ) → FitsCore round.source.model core → FitsCore round.source.model (after round pieces core (event.Shut f))
fits_shut round pieces core f fits =
    let model = round.source.model in
    let v = done_with (fault_in (works_of (status_of core f))) in
    record {
      statuses = length-set core.statuses f v ∙ fits.statuses;
      frozen = fits.frozen;
      field = fits.field;
      works = ⊎_elim
          (λ (less : f < length core.statuses). works_set model core f v less (no_works model f (fault_in (works_of (status_of core f)))) fits.works)
          (λ (over : length core.statuses ≤ f). λ g. subst (λ (l : List Status). WorksFit model g (slice_index_or l g Waiting)) (sym (set_past core.statuses f v over)) (fits.works g))
          (cases_lt f (length core.statuses));
    }

fits_open : (round : Round) (pieces : ℕ) (core : Core) (f : ℕ) (place : Option Place) → FitsCore round.source.model core
    → slice_get (functions round.source.model) f ≡ place → FitsCore round.source.model (opened round pieces f place core)
fits_open round pieces core f None fits at = fits
fits_open round pieces core f (Some place) fits at = fits_opened round pieces core f place fits at

pub fitting_cores_stay : FittingCoresStay
fitting_cores_stay round pieces core (event.Open f) fits legal = fits_open round pieces core f (slice_get (functions round.source.model) f) fits refl
fitting_cores_stay round pieces core (event.Agent f k) fits legal = fits_next round core f k (slice_get (functions round.source.model) f) (work_of core f k) fits refl refl
fitting_cores_stay round pieces core (event.HandIn f k m) fits legal = fits_handed round.source.model core f k m (work_of core f k) fits refl
fitting_cores_stay round pieces core (event.Shut f) fits legal = fits_shut round pieces core f fits
fitting_cores_stay round pieces core (event.Freeze m) fits legal = record {
  statuses = fits.statuses;
  frozen = length-set core.frozen m true ∙ fits.frozen;
  field = fits.field;
  works = fits.works;
}

pub fitting_cores_open : FittingCoresOpen
fitting_cores_open model world fits = record {
  statuses = (length-map (functions model) (λ place. Waiting));
  frozen = (length-map model.messages (λ message. false));
  field = fitting_worlds_open model world fits;
  works = λ f place at. subst (λ s. Each (FitsWork model f place.type) (works_of s)) (sym (slice_index_or-map_one Waiting (functions model) f)) tt;
}
