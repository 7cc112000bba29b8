-- Runs of valid codes end, and leave no more fuel than they began with.
use Rattle.std.proofs.Common.{◌≡◌, ℕ, zero, suc, ◌<◌, ◌≤◌, true, false, ◌==◌, List, [], length, Option, Some, None, refl, sym, ap, ◌∙◌, arith}
use Rattle.std.specs.Prelude.{ℤ, slice_get, slice_index}
use Rattle.std.specs.List.{list_all}
use Rattle.std.specs.Option.{option_map_or}
use Rattle.std.proofs.lemmas.Bool.{and_parts, eqb-true, ltb-true}
use Rattle.std.proofs.lemmas.Option.{slice_get_within}
use Rattle.flame_rows.proofs.Lists.{list_all-at, slice_get-some}
use Rattle.flame_spec.specs.declared.outcomes.Effect.{Effect}
use Rattle.flame_spec.specs.declared.outcomes.Outcome.{Outcome}
use Rattle.flame_spec.specs.declared.outcomes.Outcome.TheVariants.{Ended}
use Rattle.flame_code.specs.declared.instrs.Instr.TheVariants.{Call}
use Rattle.flame_code.specs.Feeds.{Fed}
use Rattle.flame_code.specs.InputRows.{rows_of, HaveWidths}
use Rattle.flame_code.specs.Routines.{Routine, none_delivered}
use Rattle.flame_code.specs.Validity.{starts, IsValid}
use Rattle.flame_code.specs.HelperCodes.{HelperCodes, AreHelpers, calls_below, call_fits, calls_fit, sees_nothing}
use Rattle.flame_code.specs.Machine.{Given, Config, End, returned, faulted, StepEnd, on, over, calls, stuck, step}
use Rattle.flame_code.specs.Meanings.{Runs, last, more, back, fall, entry, resumed, begun, Means, Entry, outcome_of, memory_after}
use Rattle.flame_code.specs.CodeLaws.{IsReady}
use Rattle.flame_code.specs.OnPath.{IsOnPath}
use Rattle.flame_code.proofs.Safety.{left, not_stuck, on_stands, on_falls, on_less, back_stands, back_falls, back_less, back_named, over_less}

-- ---- where runs begin

pub begun_stands : (r : Routine) (memory : List ℤ) (feeds : List Fed) (fuel : ℕ) → length memory ≡ r.widths.memory → HaveWidths r.widths.inputs (rows_of feeds) → IsOnPath r (begun memory feeds fuel)
begun_stands r memory feeds fuel m rows = record {
  delivered = none_delivered;
  path = starts;
  current = λ i e. absurd (let bad : false ≡ true = e in cc);
  memory = m;
  rows = rows;
}

no_rows : (widths : List ℕ) → length widths ≡ 0 → HaveWidths widths []
no_rows widths e = record { count = sym e; wide = λ i p rows row a b. cc }

pub blind_memory : (r : Routine) → sees_nothing r ≡ true → r.widths.memory ≡ 0
blind_memory r b = eqb-true _ _ (and_parts _ _ b).0

pub blind_inputs : (r : Routine) → sees_nothing r ≡ true → length r.widths.inputs ≡ 0
blind_inputs r b = eqb-true _ _ (and_parts _ _ (and_parts _ _ b).1).0

pub entry_stands : (r : Routine) (args : List ℤ) (fuel : ℕ) → sees_nothing r ≡ true → IsOnPath r (entry args fuel)
entry_stands r args fuel blind = record {
  delivered = none_delivered;
  path = starts;
  current = λ i e. absurd (let bad : false ≡ true = e in cc);
  memory = sym (blind_memory r blind);
  rows = no_rows r.widths.inputs (blind_inputs r blind);
}

-- ---- calls name helpers

count_there : (parameters : List ℕ) (h n : ℕ) (o : Option ℕ) → slice_get parameters h ≡ o → option_map_or (λ count. count == n) o false ≡ true → slice_get parameters h ≡ Some n
count_there parameters h n None e t = cc
count_there parameters h n (Some m) e t = e ∙ ap Some (eqb-true m n t)

pub call_counts : (parameters : List ℕ) (r : Routine) (p l h n : ℕ) → calls_fit parameters r ≡ true → slice_get r.instrs p ≡ Some (Call l h n) → slice_get parameters h ≡ Some n
call_counts parameters r p l h n fit at = count_there parameters h n (slice_get parameters h) refl (list_all-at (call_fits parameters) r.instrs p (Call l h n) fit at)

-- a call goes to a smaller height
pub call_falls : (heights : List ℕ) (height : ℕ) (r : Routine) (p l h n : ℕ) → list_all (calls_below heights height) r.instrs ≡ true → slice_get r.instrs p ≡ Some (Call l h n) → slice_index heights h < height
call_falls heights height r p l h n below at =
    ltb-true (slice_index heights h) height (list_all-at (calls_below heights height) r.instrs p (Call l h n) below at)

-- a call that fits names a helper
pub call_named : (helpers : HelperCodes) (r : Routine) (p l h n : ℕ) → AreHelpers helpers → calls_fit helpers.parameters r ≡ true → slice_get r.instrs p ≡ Some (Call l h n) → (helper : Routine) × (slice_get helpers.routines h ≡ Some helper)
call_named helpers r p l h n are fit at =
    let w = slice_get_within helpers.parameters h n (call_counts helpers.parameters r p l h n fit at) in
    slice_get-some helpers.routines h (omega (arith, are.counts))

-- ---- ends

-- no fuel was won
abbrev pub Fell : End → ℕ → Type 0
Fell (returned v d) fuel = d.fuel ≤ fuel
Fell (faulted f) fuel = Unit {0}

fell_more : (e : End) (a b : ℕ) → a ≤ b → Fell e a → Fell e b
fell_more (returned v d) a b le f = omega arith
fell_more (faulted f) a b le h = tt

abbrev pub AreValid : HelperCodes → Type 0
AreValid helpers = (h : ℕ) (r : Routine) → slice_get helpers.routines h ≡ Some r → IsValid r

module _ (g : Given) (helpers : HelperCodes) (are : AreHelpers helpers) (all_valid : AreValid helpers) where
  pub run_fell : (r : Routine) (c : Config) (e : End) → IsValid r → IsOnPath r c → Runs g helpers.routines r c e → Fell e c.fuel
  run_fell r c (returned v d) valid stands (last s) = over_less r valid g c d v stands s
  run_fell r c (faulted f) valid stands (last s) = tt
  run_fell r c e valid stands (more {d = d} s rest) =
      fell_more e d.fuel c.fuel (on_less r valid g c d stands s) (run_fell r d e valid (on_stands r valid g c d stands s) rest)
  run_fell r c e valid stands (back h args d inner v lft s named inner_runs rest) =
      let blind = are.blind h inner named in
      let inner_fell : lft.fuel ≤ d.fuel = run_fell inner (entry args d.fuel) (returned v lft) (all_valid h inner named) (entry_stands inner args d.fuel blind) inner_runs in
      let less = back_less r valid g c d h args stands s in
      fell_more e lft.fuel c.fuel (omega arith) (run_fell r (resumed v lft.fuel d) e valid (back_stands r valid g c d h args stands s v lft.fuel) rest)
  run_fell r c e valid stands (fall h args d inner f s named inner_runs) = tt

  record Finds (r : Routine) (c : Config) : Type 0 where
    end : End
    runs : Runs g helpers.routines r c end

  -- each run of less fuel than this ends
  abbrev Ends : ℕ → Type 0
  Ends fuel = (r : Routine) (c : Config) → IsValid r → calls_fit helpers.parameters r ≡ true → IsOnPath r c → c.fuel < fuel → Finds r c

  module _ (fuel : ℕ) (below : Ends fuel) (r : Routine) (valid : IsValid r) (fit : calls_fit helpers.parameters r ≡ true) where
    -- each run of which less than this is left ends
    abbrev EndsBelow : ℕ → Type 0
    EndsBelow k = (c : Config) → IsOnPath r c → left r c.place c.fuel < k → c.fuel < suc fuel → Finds r c

    back_ends : (k : ℕ) → EndsBelow k → (c d : Config) (h : ℕ) (args : List ℤ) (inner : Routine) → IsOnPath r c → left r c.place c.fuel < suc k → c.fuel < suc fuel
        → step g r c ≡ calls h args d → slice_get helpers.routines h ≡ Some inner → (e : End) → Runs g helpers.routines inner (entry args d.fuel) e → Finds r c
    back_ends k next c d h args inner stands lt less s named (returned v lft) runs =
        let inner_fell : lft.fuel ≤ d.fuel = run_fell inner (entry args d.fuel) (returned v lft) (all_valid h inner named) (entry_stands inner args d.fuel (are.blind h inner named)) runs in
        let falls = back_falls r valid g c d h args stands s lft.fuel inner_fell in
        let lower = back_less r valid g c d h args stands s in
        let rest = next (resumed v lft.fuel d) (back_stands r valid g c d h args stands s v lft.fuel) (omega arith) (omega arith) in
        record { end = rest.end; runs = back h args d inner v lft s named runs rest.runs }
    back_ends k next c d h args inner stands lt less s named (faulted f) runs =
        record { end = faulted f; runs = fall h args d inner f s named runs }

    turn_ends : (k : ℕ) → EndsBelow k → (c : Config) → IsOnPath r c → left r c.place c.fuel < suc k → c.fuel < suc fuel → (t : StepEnd) → step g r c ≡ t → Finds r c
    turn_ends k next c stands lt less (on d) s =
        let falls = on_falls r valid g c d stands s in
        let lower = on_less r valid g c d stands s in
        let rest = next d (on_stands r valid g c d stands s) (omega arith) (omega arith) in
        record { end = rest.end; runs = more s rest.runs }
    turn_ends k next c stands lt less (over e) s = record { end = e; runs = last s }
    turn_ends k next c stands lt less (calls h args d) s =
        let named = back_named r valid g c d h args stands s in
        let inner = call_named helpers r c.place named.0 h named.1 are fit named.2 in
        let lower = back_less r valid g c d h args stands s in
        let ran = below inner.0 (entry args d.fuel) (all_valid h inner.0 inner.1) (are.fitting h inner.0 inner.1) (entry_stands inner.0 args d.fuel (are.blind h inner.0 inner.1)) (let w : d.fuel < fuel = omega arith in w) in
        back_ends k next c d h args inner.0 stands lt less s inner.1 ran.end ran.runs
    turn_ends k next c stands lt less stuck s = absurd (not_stuck r valid g c stands s)

    ends_below : (k : ℕ) → EndsBelow k
    ends_below zero c stands lt less = absurd (omega arith)
    ends_below (suc k) c stands lt less = turn_ends k (ends_below k) c stands lt less (step g r c) refl

  ends : (fuel : ℕ) → Ends fuel
  ends zero r c valid fit stands less = absurd (omega arith)
  ends (suc fuel) r c valid fit stands less =
      ends_below fuel (ends fuel) r valid fit (suc (left r c.place c.fuel)) c stands (omega arith) less

  pub some_end : (r : Routine) (c : Config) → IsValid r → calls_fit helpers.parameters r ≡ true → IsOnPath r c → (e : End) × Runs g helpers.routines r c e
  some_end r c valid fit stands = let f = ends (suc c.fuel) r c valid fit stands (omega arith) in (f.end, f.runs)

-- ---- meanings

ready_stands : (helpers : HelperCodes) (r : Routine) (from : Entry) → IsReady helpers r from → IsOnPath r (begun from.memory from.feeds from.fuel)
ready_stands helpers r from ready = begun_stands r from.memory from.feeds from.fuel ready.entry.memory ready.entry.rows

abbrev pub given : Entry → Given
given from = record { constants = from.constants; iteration = from.iteration }

pub some_meaning : (helpers : HelperCodes) (r : Routine) (from : Entry) → IsReady helpers r from → (o : Outcome) × Means helpers.routines r from o
some_meaning helpers r from ready =
    let e = some_end (given from) helpers ready.helping ready.all_valid r (begun from.memory from.feeds from.fuel) ready.valid (and_parts _ _ ready.fitting).0 (ready_stands helpers r from ready) in
    (outcome_of e.0, record { end = e.0; runs = e.1; same = refl })

effect_less : (e : End) (effect : Effect) (fuel : ℕ) → Ended effect ≡ outcome_of e → Fell e fuel → effect.fuel ≤ fuel
effect_less (returned v d) effect fuel same fell =
    let s : effect ≡ record { memory = memory_after v d.memory; sent = d.sent; born = d.born; fuel = d.fuel } = cc in
    let f : effect.fuel ≡ d.fuel = ap (λ (x : Effect). x.fuel) s in omega arith
effect_less (faulted f) effect fuel same fell = cc

pub fuel_falls : (helpers : HelperCodes) (r : Routine) (from : Entry) (effect : Effect) → IsReady helpers r from → Means helpers.routines r from (Ended effect) → effect.fuel ≤ from.fuel
fuel_falls helpers r from effect ready means =
    effect_less means.end effect from.fuel means.same
    (run_fell (given from) helpers ready.helping ready.all_valid r (begun from.memory from.feeds from.fuel) means.end ready.valid (ready_stands helpers r from ready) means.runs)
