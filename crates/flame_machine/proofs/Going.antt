-- How runs go on, call helpers, begin and end.
use Rattle.std.proofs.Common.{◌≡◌, ℕ, zero, suc, ◌+◌, ◌-◌, ◌<◌, ◌≤◌, ◌==◌, true, List, [], ◌∷◌, ◌++◌, length, take, drop, Some, refl, sym, ap, ◌∙◌, subst, arith}
use Rattle.std.specs.Prelude.{ℤ, pos, slice_get, replicate, reverse}
use Rattle.std.proofs.lemmas.Bool.{and_parts, eqb-true}
use Rattle.std.proofs.lemmas.List.{length-map, length-take-le}
use Rattle.std.proofs.lemmas.Option.{slice_get_within}
use Rattle.flame_rows.proofs.Lists.{list_all-at}
use Rattle.flame_spec.specs.declared.faults.Fault.{Fault}
use Rattle.flame_code.specs.Feeds.{Fed}
use Rattle.flame_code.specs.InputRows.{rows_of, HaveWidths}
use Rattle.flame_code.specs.HelperCodes.{HelperCodes, AreHelpers, calls_fit, sees_nothing}
use Rattle.flame_code.specs.Routines.{Routine, locals_of}
use Rattle.flame_code.specs.Validity.{IsValid}
use Rattle.flame_code.specs.Machine.{Locals, first_locals, Given, Config, End, returned, faulted, on, calls, step}
use Rattle.flame_code.specs.Meanings.{Runs, more, back, fall, entry, resumed, begun}
use Rattle.flame_code.specs.OnPath.{IsOnPath}
use Rattle.flame_code.proofs.Endings.{call_named, blind_inputs, entry_stands, begun_stands}
use Rattle.flame_code.proofs.Safety.{left, path_within, on_stands, on_falls, on_less, back_stands, back_named, back_less, back_falls}
use Rattle.flame_machine.specs.declared.frames.Frame.{Frame}
use Rattle.flame_machine.specs.declared.endings.Called.{Called}
use Rattle.flame_machine.specs.declared.endings.Called.TheVariants as called
use Rattle.flame_machine.specs.MachineFrames.{held, Framed, framed, Additions, nothing_added, config}
use Rattle.flame_machine.specs.Running.{SeeConstants, Suits, Ready, unused, Finishes, Returns, CallEnds}
use Rattle.flame_machine.specs.MachineSteps.{seen, told, adds_nothing}
use Rattle.flame_machine.proofs.Arms.{told-none}
use Rattle.flame_machine.proofs.Standing.{rows-length}
use Rattle.flame_machine.proofs.Zeros.{first_locals-zeros, length-filled}

-- ---- helpers

pub helper_suits : (helpers : HelperCodes) (g : Given) (h : ℕ) (r : Routine) → AreHelpers helpers → SeeConstants g helpers → slice_get helpers.routines h ≡ Some r → Suits helpers g r
helper_suits helpers g h r are alike at = record {
  calls = are.fitting h r at;
  constants = sym (eqb-true _ _ (list_all-at (λ helper. helper.widths.constants == length g.constants) helpers.routines h r alike at));
  alike = alike;
}

-- a helper adds nothing
pub blind_adds : (r : Routine) → sees_nothing r ≡ true → adds_nothing r.widths ≡ true
blind_adds r blind = (and_parts _ _ (and_parts _ _ blind).1).1

-- ---- begins

module _ (r : Routine) (args locals memory : List ℤ) (room fuel : ℕ) where
  abbrev Filled : Type 0
  Filled = locals ≡ args ++ replicate (locals_of r.instrs - length args) (pos 0)

  filled_at : Filled → locals_of r.instrs ≤ length locals
  filled_at fill = subst (λ (l : List ℤ). locals_of r.instrs ≤ length l) (sym fill) (length-filled args (locals_of r.instrs))

  config_at : (added : Additions) (feeds : List Fed) → Filled
      → config 0 (unused room locals memory fuel) added feeds ≡ record { place = 0; stack = []; locals = first_locals args; memory = memory; sent = added.sent; born = added.born; feeds = feeds; fuel = fuel }
  config_at added feeds fill =
      ap (λ (g : Locals). let c : Config = record { place = 0; stack = []; locals = g; memory = memory; sent = added.sent; born = added.born; feeds = feeds; fuel = fuel } in c)
      (ap first_locals fill ∙ first_locals-zeros args (locals_of r.instrs - length args))

  none_seen : (n : ℕ) (feeds : List Fed) → n ≡ 0 → take n feeds ≡ []
  none_seen n feeds e = ap (λ k. take k feeds) e

  pub helper_begins : (added : Additions) (feeds : List Fed) → Filled → memory ≡ [] → sees_nothing r ≡ true
      → config 0 (unused room locals memory fuel) (told r.widths added) (seen r.widths feeds) ≡ entry args fuel
  helper_begins added feeds fill empty blind =
      ap (λ (a : Additions). config 0 (unused room locals memory fuel) a (seen r.widths feeds)) (told-none r.widths added (blind_adds r blind))
      ∙ config_at nothing_added (seen r.widths feeds) fill
      ∙ ap (λ (m : List ℤ). let c : Config = record { place = 0; stack = []; locals = first_locals args; memory = m; sent = []; born = []; feeds = seen r.widths feeds; fuel = fuel } in c) empty
      ∙ ap (λ (fs : List Fed). let c : Config = record { place = 0; stack = []; locals = first_locals args; memory = []; sent = []; born = []; feeds = fs; fuel = fuel } in c)
      (none_seen (length r.widths.inputs) feeds (blind_inputs r blind))

  pub helper_ready : (added : Additions) (feeds : List Fed) → Filled → memory ≡ [] → sees_nothing r ≡ true → length r.instrs ≤ room
      → Ready r 0 (unused room locals memory fuel) (told r.widths added) feeds
  helper_ready added feeds fill empty blind enough = record {
    stands = subst (IsOnPath r) (sym (helper_begins added feeds fill empty blind)) (entry_stands r args fuel blind);
    locals = filled_at fill;
    room = enough;
    inputs = let e = blind_inputs r blind in omega arith;
  }

all_seen : (feeds : List Fed) (n : ℕ) → n ≡ length feeds → take n feeds ≡ feeds
all_seen [] zero e = refl
all_seen [] (suc n) e = refl
all_seen (x ∷ xs) zero e = absurd (omega arith)
all_seen (x ∷ xs) (suc n) e = ap (λ l. x ∷ l) (all_seen xs n (omega arith))

input_count : (r : Routine) (feeds : List Fed) → HaveWidths r.widths.inputs (rows_of feeds) → length r.widths.inputs ≡ length feeds
input_count r feeds rows = sym rows.count ∙ length-map feeds (λ (x : Fed). x.rows)

module _ (r : Routine) (locals memory : List ℤ) (room fuel : ℕ) (feeds : List Fed) (rows : HaveWidths r.widths.inputs (rows_of feeds)) where
  pub code_begins : Filled r [] locals memory room fuel → config 0 (unused room locals memory fuel) nothing_added (seen r.widths feeds) ≡ begun memory feeds fuel
  code_begins fill =
      config_at r [] locals memory room fuel nothing_added (seen r.widths feeds) fill
      ∙ ap (λ (fs : List Fed). let c : Config = record { place = 0; stack = []; locals = first_locals []; memory = memory; sent = []; born = []; feeds = fs; fuel = fuel } in c)
      (all_seen feeds (length r.widths.inputs) (input_count r feeds rows))

  pub code_ready : Filled r [] locals memory room fuel → length memory ≡ r.widths.memory → length r.instrs ≤ room → Ready r 0 (unused room locals memory fuel) nothing_added feeds
  code_ready fill wide enough = record {
    stands = subst (IsOnPath r) (sym (code_begins fill)) (begun_stands r memory feeds fuel wide rows);
    locals = filled_at r [] locals memory room fuel fill;
    room = enough;
    inputs = let e = input_count r feeds rows in omega arith;
  }

-- ---- steps that go on

module _ (g : Given) (helpers : List Routine) (r : Routine) (valid : IsValid r) (place to : ℕ) (old new : Framed) (added gained : Additions) (feeds after : List Fed)
    (ready : Ready r place old added feeds) (e : step g r (config place old added (seen r.widths feeds)) ≡ on (config to new gained (seen r.widths after))) where
  ends_up : IsOnPath r (config to new gained (seen r.widths after))
  ends_up = on_stands r valid g (config place old added (seen r.widths feeds)) (config to new gained (seen r.widths after)) ready.stands e

  pub on_within : to < length r.instrs
  on_within = path_within r valid to (length new.stack) ends_up.delivered ends_up.path

  pub on_fuel : new.fuel ≤ old.fuel
  on_fuel = on_less r valid g (config place old added (seen r.widths feeds)) (config to new gained (seen r.widths after)) ready.stands e

  module _ (here : ℕ) (is : here ≡ to) where
    pub on_ready : length new.locals ≡ length old.locals → new.room ≡ old.room → rows_of after ≡ rows_of feeds → Ready r here new gained after
    on_ready locals room rows = record {
      stands = subst (λ k. IsOnPath r (config k new gained (seen r.widths after))) (sym is) ends_up;
      locals = let le = ready.locals in omega arith;
      room = let le = ready.room in omega arith;
      inputs = let le = ready.inputs in let same = rows-length after feeds rows in omega arith;
    }

    pub on_left : left r here new.fuel < left r place old.fuel
    on_left =
        subst (λ k. left r k new.fuel < left r place old.fuel) (sym is)
        (on_falls r valid g (config place old added (seen r.widths feeds)) (config to new gained (seen r.widths after)) ready.stands e)

    pub on_comes : (end : End) → Runs g helpers r (config here new gained (seen r.widths after)) end → Runs g helpers r (config place old added (seen r.widths feeds)) end
    on_comes end runs = more e (subst (λ k. Runs g helpers r (config k new gained (seen r.widths after)) end) is runs)

-- ---- calls

-- no input was dropped
pub unseen : (r : Routine) (before after : List Fed) → sees_nothing r ≡ true → drop (length r.widths.inputs) after ≡ drop (length r.widths.inputs) before → after ≡ before
unseen r before after blind same = subst (λ n. drop n after ≡ drop n before) (blind_inputs r blind) same

pub call_ends : (g : Given) (helpers : List Routine) (r : Routine) (args : List ℤ) (fuel : ℕ) (c : Config) (given : Called) (memory : List ℤ) (gained : Additions) (after : List Fed)
    → c ≡ entry args fuel → Finishes g helpers r c given memory gained after → CallEnds g helpers r args fuel given
call_ends g helpers r args fuel c (called.Returned v left) memory gained after begins finishes = record {
  end = config finishes.place (record finishes.frame { memory = memory; fuel = left }) gained after;
  fuel = refl;
  runs = subst (λ (x : Config). Runs g helpers r x (returned v (config finishes.place (record finishes.frame { memory = memory; fuel = left }) gained after))) begins finishes.runs;
}
call_ends g helpers r args fuel c (called.Faulted fault) memory gained after begins finishes =
    subst (λ (x : Config). Runs g helpers r x (faulted fault)) begins finishes.runs

-- the first locals of a helper are its arguments, and the others are 0
pub filled_with : (r : Routine) (cells front : List ℤ) (count locals : ℕ) → count ≤ length cells → locals - count ≡ locals_of r.instrs - count
    → front ≡ take count cells ++ replicate (locals - count) (pos 0)
    → front ≡ take count cells ++ replicate (locals_of r.instrs - length (take count cells)) (pos 0)
filled_with r cells front count locals le least fill =
    let long = length-take-le count cells le in
    fill ∙ ap (λ n. take count cells ++ replicate n (pos 0)) (least ∙ ap (λ k. locals_of r.instrs - k) (sym long))

module _ (g : Given) (helpers : HelperCodes) (are : AreHelpers helpers) (r : Routine) (valid : IsValid r) (fit : calls_fit helpers.parameters r ≡ true)
    (c d : Config) (h : ℕ) (args : List ℤ) (stands : IsOnPath r c) (e : step g r c ≡ calls h args d) where
  named : (helper : Routine) × (slice_get helpers.routines h ≡ Some helper)
  named = let n = back_named r valid g c d h args stands e in call_named helpers r c.place n.0 h n.1 are fit n.2

  pub call_there : h < length helpers.routines
  call_there = let n = named in slice_get_within helpers.routines h n.0 n.1

  pub back_runs : (v : ℤ) (left : ℕ) → ((inner : Routine) → slice_get helpers.routines h ≡ Some inner → Returns g helpers.routines inner args d.fuel v left)
      → (end : End) → Runs g helpers.routines r (resumed v left d) end → Runs g helpers.routines r c end
  back_runs v left gave end rest =
      let n = named in let ran = gave n.0 n.1 in
      back h args d n.0 v ran.end e n.1 ran.runs (subst (λ k. Runs g helpers.routines r (resumed v k d) end) (sym ran.fuel) rest)

  pub fall_runs : (fault : Fault) → ((inner : Routine) → slice_get helpers.routines h ≡ Some inner → Runs g helpers.routines inner (entry args d.fuel) (faulted fault))
      → Runs g helpers.routines r c (faulted fault)
  fall_runs fault inner = let n = named in fall h args d n.0 fault e n.1 (inner n.0 n.1)

  pub ready_back : (place : ℕ) (frame : Framed) (added : Additions) (feeds : List Fed) (v : ℤ) (left : ℕ) → config place frame added (seen r.widths feeds) ≡ resumed v left d
      → locals_of r.instrs ≤ length frame.locals → length r.instrs ≤ frame.room → length r.widths.inputs ≤ length feeds → Ready r place frame added feeds
  ready_back place frame added feeds v left same locals room inputs = record {
    stands = subst (IsOnPath r) (sym same) (back_stands r valid g c d h args stands e v left);
    locals = locals;
    room = room;
    inputs = inputs;
  }

-- what a run holds behind a call, whose cells below this one are as they were
pub behind_call : (frame : Frame) (cells later locals memory stack : List ℤ) (base rest room n : ℕ) (v : ℤ)
    → frame ≡ record { height = base; top = v; fuel = rest } → take base later ≡ take base cells → length later ≡ room
    → take base (v ∷ reverse (take base cells)) ≡ v ∷ drop n stack
    → framed (held frame later) locals memory ≡ record { stack = v ∷ drop n stack; room = room; locals = locals; memory = memory; fuel = rest }
behind_call frame cells later locals memory stack base rest room n v is below long behind =
    let with : List ℤ → ℕ → Framed = λ l k. record { stack = l; room = k; locals = locals; memory = memory; fuel = rest } in
    ap (λ (f : Frame). framed (held f later) locals memory) is
    ∙ ap (λ (l : List ℤ). with (take base (v ∷ reverse l)) (length later)) below
    ∙ ap (λ (l : List ℤ). with l (length later)) behind
    ∙ ap (with (v ∷ drop n stack)) long

-- what a call with these arguments and this fuel comes to
pub ends_as : (g : Given) (helpers : List Routine) (h : ℕ) (items args : List ℤ) (fuel paid : ℕ) (given other : Called) → items ≡ args → fuel ≡ paid → given ≡ other
    → ((inner : Routine) → slice_get helpers h ≡ Some inner → CallEnds g helpers inner items fuel given)
    → (inner : Routine) → slice_get helpers h ≡ Some inner → CallEnds g helpers inner args paid other
ends_as g helpers h items args fuel paid given other a f o ends inner at =
    subst (CallEnds g helpers inner args paid) o
    (subst (λ k. CallEnds g helpers inner args k given) f
    (subst (λ (l : List ℤ). CallEnds g helpers inner l fuel given) a (ends inner at)))

module _ (g : Given) (helpers : HelperCodes) (are : AreHelpers helpers) (r : Routine) (valid : IsValid r) (fit : calls_fit helpers.parameters r ≡ true)
    (place : ℕ) (old new : Framed) (added more : Additions) (feeds after : List Fed) (ready : Ready r place old added feeds) (h n : ℕ)
    (e : step g r (config place old added (seen r.widths feeds)) ≡ calls h (reverse (take n new.stack)) (config (place + 1) (record new { stack = drop n new.stack }) more (seen r.widths after))) where
  abbrev Behind : Config
  Behind = config (place + 1) (record new { stack = drop n new.stack }) more (seen r.widths after)

  pub arm_there : h < length helpers.routines
  arm_there = call_there g helpers are r valid fit (config place old added (seen r.widths feeds)) Behind h (reverse (take n new.stack)) ready.stands e

  pub arm_less : new.fuel < old.fuel
  arm_less = back_less r valid g (config place old added (seen r.widths feeds)) Behind h (reverse (take n new.stack)) ready.stands e

  pub arm_faults : (fault : Fault) → ((inner : Routine) → slice_get helpers.routines h ≡ Some inner → CallEnds g helpers.routines inner (reverse (take n new.stack)) new.fuel (called.Faulted fault))
      → Runs g helpers.routines r (config place old added (seen r.widths feeds)) (faulted fault)
  arm_faults fault ends = fall_runs g helpers are r valid fit (config place old added (seen r.widths feeds)) Behind h (reverse (take n new.stack)) ready.stands e fault ends

  module _ (pushed : Framed) (v : ℤ) (rest : ℕ) (put : Additions) (later : List Fed) (p : pushed ≡ record new { stack = v ∷ drop n new.stack; fuel = rest })
      (quiet : put ≡ more) (same : later ≡ after) (here : ℕ) (is : here ≡ place + 1) where
    resumes : config (place + 1) pushed put (seen r.widths later) ≡ resumed v rest Behind
    resumes =
        ap (λ (x : Framed). config (place + 1) x put (seen r.widths later)) p
        ∙ ap (λ (a : Additions). config (place + 1) (record new { stack = v ∷ drop n new.stack; fuel = rest }) a (seen r.widths later)) quiet
        ∙ ap (λ (fs : List Fed). config (place + 1) (record new { stack = v ∷ drop n new.stack; fuel = rest }) more (seen r.widths fs)) same

    pub arm_falls : rest ≤ new.fuel → left r here pushed.fuel < left r place old.fuel
    arm_falls le =
        subst (λ k. left r k pushed.fuel < left r place old.fuel) (sym is)
        (subst (λ (x : Framed). left r (place + 1) x.fuel < left r place old.fuel) (sym p)
        (back_falls r valid g (config place old added (seen r.widths feeds)) Behind h (reverse (take n new.stack)) ready.stands e rest le))

    pub arm_ready : length new.locals ≡ length old.locals → new.room ≡ old.room → rows_of after ≡ rows_of feeds → Ready r here pushed put later
    arm_ready locals room rows =
        subst (λ k. Ready r k pushed put later) (sym is)
        (ready_back g helpers are r valid fit (config place old added (seen r.widths feeds)) Behind h (reverse (take n new.stack)) ready.stands e (place + 1) pushed put later v rest resumes
        (let le = ready.locals in let same_locals = ap (λ (x : Framed). length x.locals) p in omega arith)
        (let le = ready.room in let same_room = ap (λ (x : Framed). x.room) p in omega arith)
        (let le = ready.inputs in let count = rows-length after feeds rows in let same_count = ap length same in omega arith))

    pub arm_comes : ((inner : Routine) → slice_get helpers.routines h ≡ Some inner → CallEnds g helpers.routines inner (reverse (take n new.stack)) new.fuel (called.Returned v rest))
        → (end : End) → Runs g helpers.routines r (config here pushed put (seen r.widths later)) end → Runs g helpers.routines r (config place old added (seen r.widths feeds)) end
    arm_comes ends end runs =
        back_runs g helpers are r valid fit (config place old added (seen r.widths feeds)) Behind h (reverse (take n new.stack)) ready.stands e v rest ends end
        (subst (λ (x : Config). Runs g helpers.routines r x end) (ap (λ k. config k pushed put (seen r.widths later)) is ∙ resumes) runs)
