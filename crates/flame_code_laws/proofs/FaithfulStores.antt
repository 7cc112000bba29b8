-- The code of stored values, assignments and declarations comes to what they come to.
use Rattle.std.proofs.Common.{◌≡◌, ℕ, zero, suc, ◌+◌, ◌<◌, ◌≤◌, ◌==◌, Bool, true, false, cond, List, [], ◌∷◌, ◌++◌, length, map, Option, Some, None, refl, sym, ap, ◌∙◌, subst, arith, length-append, eq-eqb, lt-ltb}
use Rattle.std.specs.Prelude.{ℤ, pos, slice_get, slice_set, nat_lt}
use Rattle.std.specs.List.{list_all}
use Rattle.std.proofs.lemmas.Bool.{and_parts, eqb-true, eqb-false, ltb-true, ne_eqb}
use Rattle.flame_ops.specs.declared.integers.Op.{Op}
use Rattle.flame_ops.specs.Integers.{applied}
use Rattle.flame_spec.specs.Conditions.{number_at}
use Rattle.flame_spec.proofs.FirstBelow.{below_last}
use Rattle.flame_body.specs.declared.slots.Cells.{Cells}
use Rattle.flame_body.specs.declared.slots.SlotExpr.{SlotExpr}
use Rattle.flame_body.specs.declared.slots.SlotValue.{SlotValue}
use Rattle.flame_body.specs.declared.slots.SlotValue.TheVariants as stored
use Rattle.flame_body.specs.declared.slots.SlotItem.{SlotItem}
use Rattle.flame_body.specs.declared.slots.SlotTarget.{SlotTarget}
use Rattle.flame_body.specs.declared.slots.SlotTarget.TheVariants as target
use Rattle.flame_body.specs.declared.slots.SlotAssign.{SlotAssign}
use Rattle.flame_body.specs.BodyFits.{fits, stored_fits, initial_fits, target_fits, are_within, assignment_fits}
use Rattle.flame_code.specs.declared.instrs.Instr.{Instr}
use Rattle.flame_code.specs.declared.instrs.Instr.TheVariants.{Push, Dup, Loc, SetLoc, Mem, SetMem, MemAt, SetMemAt, Call}
use Rattle.flame_code.specs.Machine.{Config, StepEnd, calls, act, set_local, store as stores, with_element, pay_from}
use Rattle.flame_code.specs.Meanings.{back, fall}
use Rattle.flame_compile.specs.Pieces.{in_order}
use Rattle.flame_compile.specs.Emit.{operator, arguments, expression, value, initial, item, assign, assignment}
use Rattle.flame_meaning.specs.Scenes.{Progress, Gave, gave, failed}
use Rattle.flame_meaning.specs.Expressions.{at_line, bad_index, element_value}
use Rattle.flame_meaning.specs.Ends.{End, went_on, with_value, after_call, no_fuel}
use Rattle.flame_meaning.specs.Statements.{set_column, with_column}
use Rattle.flame_number_laws.specs.NumberedScenes.{local_at, set_local_at, nameless, cell_column}
use Rattle.flame_number_laws.specs.NumberedMeaning.{value_of, argument_numbers, by_value, by_initial, with_local, declarations, with_local_at, assigned_by, assignment as assigned}
use Rattle.flame_code_laws.specs.CodeRuns.{Running, HasAt, at, pushed, Ends, Leads, Gives}
use Rattle.flame_code_laws.specs.NamedLocals.{names_below}
use Rattle.flame_code_laws.specs.LocalNumbers.{stored_below, initial_below, items_numbered, target_below, assignment_below}
use Rattle.flame_code_laws.specs.Standings.{Answered, Frame, IsSound, Follows, Comes}
use Rattle.flame_code_laws.proofs.Going.{has_left, has_right, has_first, has_rest, valued, numbered, performed, failed as fails}
use Rattle.flame_code_laws.proofs.FaithfulExpressions.{expression_does, arguments_give, numbers_long, operator_runs, cell_runs}
use Rattle.flame_code_laws.proofs.Comings.{row_taken, set_long, set_read, refuel, alike_of, refueled, comes_led, value_comes, values_come}
use Rattle.flame_compile.proofs.LabelledExpressions.{values_counted}
use Rattle.flame_code_laws.proofs.FormNumbers.{same_column}

-- a local that is declared is read, and the others are as they were
declared_read :
    (v : ℤ) (s : Progress) (c : Config) (number k : ℕ)
    → ((j : ℕ) → nat_lt j (length s.locals) ≡ true → c.locals j ≡ local_at j s.locals)
    → number ≡ length s.locals
    → nat_lt k (suc (length s.locals)) ≡ true
    → set_local number v c.locals k ≡ local_at k (nameless v ∷ s.locals)
declared_read v s c number k reads is within =
    let go :
    (b : Bool) → (length s.locals == k) ≡ b
    → cond (k == number) v (c.locals k) ≡ cond b v (local_at k s.locals) =
    λ b. elim b as (λ b. (length s.locals == k) ≡ b
    → cond (k == number) v (c.locals k) ≡ cond b v (local_at k s.locals)) [
      | true ↦ λ e.
          let same : length s.locals ≡ k = eqb-true (length s.locals) k e in
          ap (λ t. cond t v (c.locals k)) (eq-eqb k number (sym same ∙ sym is))
      | false ↦ λ e.
          let other = eqb-false (length s.locals) k e in
          let less : k < suc (length s.locals) = ltb-true k (suc (length s.locals)) within in
          ap (λ t. cond t v (c.locals k))
          (ne_eqb k number (λ same. other (sym is ∙ sym same)))
          ∙ reads k (lt-ltb k (length s.locals) (below_last k (length s.locals) other less))
    ] in
    go (length s.locals == k) refl

-- the step of a call with these arguments
abbrev called : ℕ → ℕ → Config → List ℤ → List ℤ → StepEnd
called line h c args rest =
    pay_from c.fuel line c (λ d. calls h args (record d { place = d.place + 1; stack = rest }))

module _ (run : Running) (f : Frame) (sound : IsSound run f) where
  -- ---- places

  -- the same, where the place that it goes on at is written in another way
  pub comes_at : (c : Config) (n p q : ℕ) (e : End) → p ≡ q → Comes run f c n p e → Comes run f c n q e
  comes_at c n p q e same comes = subst (λ k. Comes run f c n k e) same comes

  -- or the number of its locals
  pub comes_with : (c : Config) (n m q : ℕ) (e : End) → n ≡ m → Comes run f c n q e → Comes run f c m q e
  comes_with c n m q e same comes = subst (λ k. Comes run f c k q e) same comes

  -- or the place where it begins
  pub comes_from :
      (c : Config) (stack : List ℤ) (n p q r : ℕ) (e : End)
      → p ≡ q → Comes run f (at p stack c) n r e → Comes run f (at q stack c) n r e
  comes_from c stack n p q r e same comes = subst (λ k. Comes run f (at k stack c) n r e) same comes

  -- a configuration that holds the progress
  pub arrived :
      (s : Progress) (c : Config) (n p : ℕ)
      → Follows f s c → length s.locals ≡ n → Comes run f (at p f.stack c) n p (went_on s)
  arrived s c n p follows long = (record { there = c; follows = follows; leads = λ e h. h }, long)

  -- ---- calls of helpers

  -- the step of a call that has fuel
  call_steps :
      (s : Progress) (c : Config) (line h n : ℕ) (vs : List ℤ) (p : ℕ) (stack : List ℤ) (fuel : ℕ)
      → c.fuel ≡ suc fuel
      → length vs ≡ n
      → HasAt run p (Call line h n ∷ [])
      → act run.given run.routine.widths (slice_get run.routine.instrs p) (at p (pushed vs stack) c)
      ≡ calls h vs (at (p + 1) stack (refuel fuel c))
  call_steps s c line h n vs p stack fuel fuel_is long has =
      ap (λ o. act run.given run.routine.widths o (at p (pushed vs stack) c)) (has_first run p (Call line h n) [] has)
      ∙ row_taken n vs stack (called line h (at p (pushed vs stack) c)) long
      ∙ ap (λ k. pay_from k line (at p (pushed vs stack) c)
      (λ d. calls h vs (record d { place = d.place + 1; stack = stack }))) fuel_is

  -- the answer of a call
  call_by :
      (s : Progress) (c : Config) (line h n : ℕ) (vs : List ℤ) (p : ℕ) (stack : List ℤ)
      (count q : ℕ) (go : ℤ → Progress → End) (fuel : ℕ) (answer : Gave)
      → c.fuel ≡ fuel
      → c.fuel ≡ s.fuel
      → length vs ≡ n
      → HasAt run p (Call line h n ∷ [])
      → Answered run line h vs fuel answer
      → ((v : ℤ) (left : ℕ) → left ≤ s.fuel
      → Comes run f (at (p + 1) (v ∷ stack) (refuel left c)) count q (go v (record s { fuel = left })))
      → Comes run f (at p (pushed vs stack) c) count q (after_call answer s go)
  call_by s c line h n vs p stack count q go zero answer fuel_is same_fuel long has answers comes =
      subst (λ a. Comes run f (at p (pushed vs stack) c) count q (after_call a s go)) (sym answers)
      (fails run (at p (pushed vs stack) c) (Call line h n) (no_fuel line) (has_first run p (Call line h n) [] has)
      (row_taken n vs stack (called line h (at p (pushed vs stack) c)) long
      ∙ ap (λ k. pay_from k line (at p (pushed vs stack) c)
      (λ d. calls h vs (record d { place = d.place + 1; stack = stack }))) fuel_is))
  call_by s c line h n vs p stack count q go (suc fuel) (gave v left) fuel_is same_fuel long has (
    helper,
    there,
    (
      d,
      left_is,
      most,
      runs,
    ),
  )
      comes =
      let steps = call_steps s c line h n vs p stack fuel fuel_is long has in
      comes_led run f (at p (pushed vs stack) c) (at (p + 1) (v ∷ stack) (refuel left c)) count q
      (go v (record s { fuel = left }))
      (λ e rest. back h vs (at (p + 1) stack (refuel fuel c)) helper v d steps there runs
      (subst (λ k. Ends run (at (p + 1) (v ∷ stack) (refuel k c)) e) (sym left_is) rest))
      (comes v left (omega (arith, fuel_is, most, same_fuel)))
  call_by s c line h n vs p stack count q go (suc fuel) (failed fault) fuel_is same_fuel long has (helper, there, runs)
      comes =
      fall h vs (at (p + 1) stack (refuel fuel c)) helper fault
      (call_steps s c line h n vs p stack fuel fuel_is long has) there runs

  -- a call of a helper with these numbers on the stack
  pub call_comes :
      (s : Progress) (c : Config) (line h n : ℕ) (vs : List ℤ) (p : ℕ) (stack : List ℤ)
      (count q : ℕ) (go : ℤ → Progress → End)
      → Follows f s c
      → length vs ≡ n
      → HasAt run p (Call line h n ∷ [])
      → ((v : ℤ) (left : ℕ) → left ≤ s.fuel
      → Comes run f (at (p + 1) (v ∷ stack) (refuel left c)) count q (go v (record s { fuel = left })))
      → Comes run f (at p (pushed vs stack) c) count q (after_call (f.before.answers line h vs s.fuel) s go)
  call_comes s c line h n vs p stack count q go follows long has comes =
      call_by s c line h n vs p stack count q go s.fuel (f.before.answers line h vs s.fuel) follows.fuel follows.fuel
      long has
      (sound.helps.answered p line h n (has_first run p (Call line h n) [] has) vs long s.fuel) comes

  -- ---- what is stored

  -- a value that is stored, and what it comes to behind it
  pub stored_comes :
      (v : SlotValue) (s : Progress) (c : Config) (p : ℕ) (stack : List ℤ) (count q : ℕ) (go : ℤ → Progress → End)
      → Follows f s c
      → stored_fits f.around v ≡ true
      → stored_below (length s.locals) v ≡ true
      → HasAt run p ((value v).code p)
      → ((w : ℤ) (left : ℕ) → left ≤ s.fuel
      → Comes run f (at (p + length ((value v).code p)) (w ∷ stack) (refuel left c)) count q
      (go w (record s { fuel = left })))
      → Comes run f (at p stack c) count q (by_value v f.before s go)
  stored_comes (stored.Plain e) s c p stack count q go follows fit_it low_it has comes =
      value_comes run f (at p stack c) (valued (p + length ((expression e).code p)) stack c) count q
      (value_of e f.before s) (λ w. go w s)
      ((expression_does run f.around f.before s c (alike_of run f s c sound follows) e).value p stack has fit_it low_it)
      (λ w. subst (λ k. Comes run f (at (p + length ((expression e).code p)) (w ∷ stack) (refuel k c)) count q (go w s))
      (sym follows.fuel) (comes w s.fuel (omega arith)))
  stored_comes (stored.Call line h es) s c p stack count q go follows fit_it low_it has comes =
      let args = (arguments es).code p in
      let alike = alike_of run f s c sound follows in
      let counts = values_counted es f.around fit_it in
      let call = Call line h (length es) in
      let end : p + length args + 1 ≡ p + length (args ++ call ∷ []) =
      (let long = length-append args (call ∷ []) in omega (arith, long)) in
      values_come run f (at p stack c) (numbered (p + length args) stack c) count q (argument_numbers es f.before s)
      (λ vs. after_call (f.before.answers line h vs s.fuel) s go)
      (arguments_give run f.around f.before s c alike es (length es) counts low_it p stack
      (has_left run p args (call ∷ []) has))
      (λ vs is. call_comes s c line h (length es) vs (p + length args) stack count q go follows
      (numbers_long run f.around f.before s c alike es (length es) vs counts is) (has_right run p args (call ∷ []) has)
      (λ w left less. comes_from (refuel left c) (w ∷ stack) count (p + length (args ++ call ∷ [])) (p + length args +
      1) q
      (go w (record s { fuel = left })) (sym end) (comes w left less)))

  -- ---- stores

  -- a local is set
  local_follows :
      (number : ℕ) (v : ℤ) (s : Progress) (c : Config)
      → Follows f s c
      → Follows f (record s { locals = set_local_at number v s.locals })
      (record c { locals = set_local number v c.locals })
  local_follows number v s c follows = record {
    memory = follows.memory;
    locals = λ k within.
        let inside : nat_lt k (length s.locals) ≡ true =
        subst (λ n. nat_lt k n ≡ true) (set_long number v s.locals) within in
        ap (λ x. cond (k == number) v x) (follows.locals k inside) ∙ sym (set_read k number v s.locals inside);
    sent = follows.sent;
    born = follows.born;
    fuel = follows.fuel;
    readings = follows.readings;
    kept = follows.kept;
    least = subst (λ n. f.least ≤ n) (sym (set_long number v s.locals)) follows.least;
    most = follows.most;
  }

  -- a column is set
  column_follows :
      (column : ℕ) (v : ℤ) (s : Progress) (c : Config)
      → Follows f s c
      → Follows f (set_column column v s) (record c { memory = slice_set c.memory column v })
  column_follows column v s c follows = record {
    memory = ap (λ memory. slice_set memory column v) follows.memory;
    locals = follows.locals;
    sent = follows.sent;
    born = follows.born;
    fuel = follows.fuel;
    readings = follows.readings;
    kept = follows.kept;
    least = follows.least;
    most = follows.most;
  }

  -- a local is set, and the run goes on
  local_set :
      (number : ℕ) (v : ℤ) (s : Progress) (c : Config) (p : ℕ)
      → Follows f s c
      → HasAt run p (SetLoc number ∷ [])
      → Comes run f (at p (v ∷ f.stack) c) (length s.locals) (p + 1)
      (went_on (with_local_at number v s))
  local_set number v s c p follows has =
      let d = record c { locals = set_local number v c.locals } in (
        record {
          there = d;
          follows = local_follows number v s c follows;
          leads = performed run (at p (v ∷ f.stack) c) (at (p + 1) f.stack d) (SetLoc number)
              (has_first run p (SetLoc number) [] has) refl;
        },
        set_long number v s.locals,
      )

  -- a column of the memory is set
  pub column_set :
      (column : ℕ) (v : ℤ) (s : Progress) (c : Config) (p : ℕ)
      → Follows f s c
      → HasAt run p (SetMem column ∷ [])
      → Comes run f (at p (v ∷ f.stack) c) (length s.locals) (p + 1) (went_on (set_column column v s))
  column_set column v s c p follows has =
      let d = record c { memory = slice_set c.memory column v } in (
        record {
          there = d;
          follows = column_follows column v s c follows;
          leads = performed run (at p (v ∷ f.stack) c) (at (p + 1) f.stack d) (SetMem column)
              (has_first run p (SetMem column) [] has) refl;
        },
        refl,
      )

  -- an element whose column is known is set
  cell_set :
      (line : ℕ) (cells : Cells) (i v : ℤ) (m : ℕ) (s : Progress) (c : Config) (p : ℕ)
      → Follows f s c
      → cell_column cells i ≡ Some m
      → HasAt run p (SetMemAt line cells.column cells.length ∷ [])
      → Comes run f (at p (v ∷ i ∷ f.stack) c) (length s.locals) (p + 1) (went_on (set_column m v s))
  cell_set line cells i v m s c p follows is has =
      let d = record c { memory = slice_set c.memory m v } in
      let there : ℕ → StepEnd = λ k. stores k v f.stack (at p (v ∷ i ∷ f.stack) c) in (
        record {
          there = d;
          follows = column_follows m v s c follows;
          leads = performed run (at p (v ∷ i ∷ f.stack) c) (at (p + 1) f.stack d)
              (SetMemAt line cells.column cells.length)
              (has_first run p (SetMemAt line cells.column cells.length) [] has)
              (ap (λ o. with_element line o there) (same_column cells i ∙ is));
        },
        refl,
      )

  -- an element is set where there is one
  element_set_by :
      (line : ℕ) (cells : Cells) (i v : ℤ) (s : Progress) (c : Config) (p : ℕ) (o : Option ℕ)
      → Follows f s c
      → cell_column cells i ≡ o
      → HasAt run p (SetMemAt line cells.column cells.length ∷ [])
      → Comes run f (at p (v ∷ i ∷ f.stack) c) (length s.locals) (p + 1)
      (with_column line o (λ m. went_on (set_column m v s)))
  element_set_by line cells i v s c p None follows is has =
      let there : ℕ → StepEnd = λ k. stores k v f.stack (at p (v ∷ i ∷ f.stack) c) in
      fails run (at p (v ∷ i ∷ f.stack) c) (SetMemAt line cells.column cells.length) (bad_index line)
      (has_first run p (SetMemAt line cells.column cells.length) [] has)
      (ap (λ o. with_element line o there) (same_column cells i ∙ is))
  element_set_by line cells i v s c p (Some m) follows is has = cell_set line cells i v m s c p follows is has

  -- ---- declarations

  -- one local more
  declared_follows :
      (v : ℤ) (s : Progress) (c : Config) (number : ℕ)
      → Follows f s c
      → number ≡ length s.locals
      → Follows f (with_local v s) (record c { locals = set_local number v c.locals })
  declared_follows v s c number follows is = record {
    memory = follows.memory;
    locals = λ k within. declared_read v s c number k follows.locals is within;
    sent = follows.sent;
    born = follows.born;
    fuel = follows.fuel;
    readings = follows.readings;
    kept = follows.kept;
    least = omega (arith, follows.least);
    most = follows.most;
  }

  -- a local with its value on the stack
  declared :
      (number : ℕ) (v : ℤ) (s : Progress) (c : Config) (p : ℕ) (count q : ℕ) (e : End)
      → HasAt run p (SetLoc number ∷ [])
      → Comes run f (at (p + 1) f.stack (record c { locals = set_local number v c.locals })) count q e
      → Comes run f (at p (v ∷ f.stack) c) count q e
  declared number v s c p count q e has comes =
      comes_led run f (at p (v ∷ f.stack) c) (at (p + 1) f.stack (record c { locals = set_local number v c.locals }))
      count q e
      (performed run (at p (v ∷ f.stack) c) (at (p + 1) f.stack (record c { locals = set_local number v c.locals }))
      (SetLoc number) (has_first run p (SetLoc number) [] has) refl) comes

  -- what a local begins with
  initial_comes :
      (v : Option SlotValue) (s : Progress) (c : Config) (p : ℕ) (count q : ℕ) (go : ℤ → Progress → End)
      → Follows f s c
      → initial_fits f.around v ≡ true
      → initial_below (length s.locals) v ≡ true
      → HasAt run p ((initial v).code p)
      → ((w : ℤ) (left : ℕ) → left ≤ s.fuel
      → Comes run f (at (p + length ((initial v).code p)) (w ∷ f.stack) (refuel left c)) count q
      (go w (record s { fuel = left })))
      → Comes run f (at p f.stack c) count q (by_initial v f.before s go)
  initial_comes None s c p count q go follows fit_it low_it has comes =
      comes_led run f (at p f.stack c) (at (p + 1) (pos 0 ∷ f.stack) c) count q (go (pos 0) s)
      (performed run (at p f.stack c) (at (p + 1) (pos 0 ∷ f.stack) c) (Push (pos 0))
      (has_first run p (Push (pos 0)) [] has) refl)
      (subst (λ k. Comes run f (at (p + 1) (pos 0 ∷ f.stack) (refuel k c)) count q (go (pos 0) s))
      (sym follows.fuel) (comes (pos 0) s.fuel (omega arith)))
  initial_comes (Some v) s c p count q go follows fit_it low_it has comes =
      stored_comes v s c p f.stack count q go follows fit_it low_it has comes

  -- items in order
  pub items_come :
      (items : List SlotItem) (s : Progress) (c : Config) (p : ℕ)
      → Follows f s c
      → list_all (λ (i : SlotItem). initial_fits f.around i.value) items ≡ true
      → items_numbered items (length s.locals) ≡ true
      → HasAt run p ((in_order (map item items)).code p)
      → Comes run f (at p f.stack c) (length s.locals + length items)
      (p + length ((in_order (map item items)).code p)) (declarations items f.before s)
  items_come [] s c p follows fit_all low_all has =
      let end : p ≡ p + 0 = omega arith in
      let long : length s.locals ≡ length s.locals + 0 = omega arith in
      comes_at (at p f.stack c) (length s.locals + 0) p (p + 0) (went_on s) end
      (arrived s c (length s.locals + 0) p follows long)
  items_come (i ∷ items) s c p follows fit_all low_all has =
      let fitting = and_parts (initial_fits f.around i.value) _ fit_all in
      let low = and_parts (i.local == length s.locals) _ low_all in
      let lower = and_parts (initial_below (length s.locals) i.value) _ low.1 in
      let number : i.local ≡ length s.locals = eqb-true i.local (length s.locals) low.0 in
      let begin = (initial i.value).code p in
      let first = begin ++ SetLoc i.local ∷ [] in
      let rest = (in_order (map item items)).code (p + length first) in
      let has_item = has_left run p first rest has in
      let middle : p + length begin + 1 ≡ p + length first =
      (let long = length-append begin (SetLoc i.local ∷ []) in omega (arith, long)) in
      let end : p + length first + length rest ≡ p + length (first ++ rest) =
      (let long = length-append first rest in omega (arith, long)) in
      let count : suc (length s.locals) + length items ≡ length s.locals + suc (length items) = omega arith in
      let next_count : length s.locals + 1 ≡ suc (length s.locals) = omega arith in
      initial_comes i.value s c p (length s.locals + suc (length items)) (p + length (first ++ rest))
      (λ v t. declarations items f.before (with_local v t)) follows fitting.0 lower.0
      (has_left run p begin (SetLoc i.local ∷ []) has_item)
      (λ v left less.
      let t : Progress = record s { fuel = left } in
      let d = record (refuel left c) { locals = set_local i.local v c.locals } in
      declared i.local v t (refuel left c) (p + length begin) (length s.locals + suc (length items))
      (p + length (first ++ rest)) (declarations items f.before (with_local v t))
      (has_right run p begin (SetLoc i.local ∷ []) has_item)
      (comes_from d f.stack (length s.locals + suc (length items)) (p + length first) (p + length begin + 1)
      (p + length (first ++ rest)) (declarations items f.before (with_local v t)) (sym middle)
      (comes_with (at (p + length first) f.stack d) (suc (length s.locals) + length items)
      (length s.locals + suc (length items)) (p + length (first ++ rest))
      (declarations items f.before (with_local v t)) count
      (comes_at (at (p + length first) f.stack d) (suc (length s.locals) + length items) (p + length first + length
      rest)
      (p + length (first ++ rest)) (declarations items f.before (with_local v t)) end
      (items_come items (with_local v t) d (p + length first)
      (declared_follows v t (refuel left c) i.local (refueled f s c left less follows) number) fitting.1
      (subst (λ k. items_numbered items k ≡ true) next_count lower.1) (has_right run p first rest has))))))

  -- ---- assignments

  -- the place behind a part and one instruction
  behind_one : (p : ℕ) (x : List Instr) (i : Instr) → p + length x + 1 ≡ p + length (x ++ i ∷ [])
  behind_one p x i = let long = length-append x (i ∷ []) in omega (arith, long)

  -- a value, and an instruction behind it that stores it
  plain_set :
      (i : Instr) (v : SlotValue) (s : Progress) (c : Config) (p : ℕ) (go : ℤ → Progress → End)
      → Follows f s c
      → stored_fits f.around v ≡ true
      → stored_below (length s.locals) v ≡ true
      → HasAt run p ((value v).code (p + 0) ++ i ∷ [])
      → ((w : ℤ) (left q : ℕ) → left ≤ s.fuel → HasAt run q (i ∷ [])
      → Comes run f (at q (w ∷ f.stack) (refuel left c)) (length s.locals) (q + 1) (go w (record s { fuel = left })))
      → Comes run f (at p f.stack c) (length s.locals) (p + length ((value v).code (p + 0) ++ i ∷ []))
      (by_value v f.before s go)
  plain_set i v s c p go follows fit_it low_it has comes =
      let same : p + 0 ≡ p = omega arith in
      let code = (value v).code (p + 0) in
      let n = length s.locals in
      let end : p + 0 + length code + 1 ≡ p + length (code ++ i ∷ []) =
      (let long = length-append code (i ∷ []) in omega (arith, long)) in
      let has_here = subst (λ k. HasAt run k (code ++ i ∷ [])) (sym same) has in
      comes_from c f.stack n (p + 0) p (p + length (code ++ i ∷ [])) (by_value v f.before s go) same
      (stored_comes v s c (p + 0) f.stack n (p + length (code ++ i ∷ [])) go follows fit_it low_it
      (has_left run (p + 0) code (i ∷ []) has_here)
      (λ w left less. comes_at (at (p + 0 + length code) (w ∷ f.stack) (refuel left c)) n (p + 0 + length code + 1)
      (p + length (code ++ i ∷ [])) (go w (record s { fuel = left })) end
      (comes w left (p + 0 + length code) less (has_right run (p + 0) code (i ∷ []) has_here))))

  -- what is set is read, then comes a value, an operator and the store; the stack below them may be any
  changed :
      (i : Instr) (o : Op) (line : ℕ) (x : ℤ) (v : SlotValue) (s : Progress) (c : Config) (p : ℕ) (stack : List ℤ)
      (store_it : ℤ → Progress → End)
      → Follows f s c
      → stored_fits f.around v ≡ true
      → stored_below (length s.locals) v ≡ true
      → HasAt run p ((value v).code p ++ operator o line ∷ i ∷ [])
      → ((w : ℤ) (left q : ℕ) → left ≤ s.fuel → HasAt run q (i ∷ [])
      → Comes run f (at q (w ∷ stack) (refuel left c)) (length s.locals) (q + 1)
      (store_it w (record s { fuel = left })))
      → Comes run f (at p (x ∷ stack) c) (length s.locals)
      (p + length ((value v).code p ++ operator o line ∷ i ∷ []))
      (by_value v f.before s (λ w t. with_value (at_line line (applied o x w)) (λ y. store_it y t)))
  changed i o line x v s c p stack store_it follows fit_it low_it has comes =
      let code = (value v).code p in
      let n = length s.locals in
      let q = p + length code in
      let end : q + 1 + 1 ≡ p + length (code ++ operator o line ∷ i ∷ []) =
      (let long = length-append code (operator o line ∷ i ∷ []) in omega (arith, long)) in
      let has_rest_of = has_right run p code (operator o line ∷ i ∷ []) has in
      stored_comes v s c p (x ∷ stack) n (p + length (code ++ operator o line ∷ i ∷ []))
      (λ w t. with_value (at_line line (applied o x w)) (λ y. store_it y t)) follows fit_it low_it
      (has_left run p code (operator o line ∷ i ∷ []) has)
      (λ w left less.
      let t : Progress = record s { fuel = left } in
      let alike = alike_of run f t (refuel left c) sound (refueled f s c left less follows) in
      value_comes run f (at q (w ∷ x ∷ stack) (refuel left c)) (valued (q + 1) stack (refuel left c)) n
      (p + length (code ++ operator o line ∷ i ∷ [])) (at_line line (applied o x w)) (λ y. store_it y t)
      (operator_runs run f.around f.before t (refuel left c) alike o line x w q stack
      (has_left run q (operator o line ∷ []) (i ∷ []) has_rest_of))
      (λ y. comes_at (at (q + 1) (y ∷ stack) (refuel left c)) n (q + 1 + 1)
      (p + length (code ++ operator o line ∷ i ∷ [])) (store_it y t) end
      (comes y left (q + 1) less (has_right run q (operator o line ∷ []) (i ∷ []) has_rest_of))))

  -- so behind the instruction that reads what is set
  plain_change :
      (ld i : Instr) (o : Op) (line : ℕ) (x : ℤ) (v : SlotValue) (s : Progress) (c : Config) (p : ℕ)
      (store_it : ℤ → Progress → End)
      → Follows f s c
      → stored_fits f.around v ≡ true
      → stored_below (length s.locals) v ≡ true
      → HasAt run p (ld ∷ ((value v).code (p + 0 + 1) ++ operator o line ∷ i ∷ []))
      → Leads run (at p f.stack c) (at (p + 1) (x ∷ f.stack) c)
      → ((w : ℤ) (left q : ℕ) → left ≤ s.fuel → HasAt run q (i ∷ [])
      → Comes run f (at q (w ∷ f.stack) (refuel left c)) (length s.locals) (q + 1)
      (store_it w (record s { fuel = left })))
      → Comes run f (at p f.stack c) (length s.locals)
      (p + length (ld ∷ ((value v).code (p + 0 + 1) ++ operator o line ∷ i ∷ [])))
      (by_value v f.before s (λ w t. with_value (at_line line (applied o x w)) (λ y. store_it y t)))
  plain_change ld i o line x v s c p store_it follows fit_it low_it has leads comes =
      let code = (value v).code (p + 0 + 1) in
      let rest = code ++ operator o line ∷ i ∷ [] in
      let e = by_value v f.before s (λ w t. with_value (at_line line (applied o x w)) (λ y. store_it y t)) in
      let n = length s.locals in
      let here : p + 1 ≡ p + 0 + 1 = omega arith in
      let end : p + 0 + 1 + length rest ≡ p + suc (length rest) = omega arith in
      comes_led run f (at p f.stack c) (at (p + 1) (x ∷ f.stack) c) n (p + suc (length rest)) e leads
      (comes_from c (x ∷ f.stack) n (p + 0 + 1) (p + 1) (p + suc (length rest)) e (sym here)
      (comes_at (at (p + 0 + 1) (x ∷ f.stack) c) n (p + 0 + 1 + length rest) (p + suc (length rest)) e end
      (changed i o line x v s c (p + 0 + 1) f.stack store_it follows fit_it low_it
      (subst (λ k. HasAt run k rest) here (has_rest run p ld rest has)) comes)))

  -- an element that is changed, where there is one
  cell_changed_by :
      (line_of : ℕ) (cells : Cells) (o : Op) (line : ℕ) (i : ℤ) (v : SlotValue) (s : Progress) (c : Config) (p : ℕ)
      (m : Option ℕ)
      → Follows f s c
      → stored_fits f.around v ≡ true
      → stored_below (length s.locals) v ≡ true
      → HasAt run (p + 2)
      ((value v).code (p + 2) ++ operator o line ∷ SetMemAt line_of cells.column cells.length ∷ [])
      → cell_column cells i ≡ m
      → Gives run (at (p + 1) (i ∷ i ∷ f.stack) c) (valued (p + 2) (i ∷ f.stack) c)
      (element_value line_of m s.memory)
      → Comes run f (at (p + 1) (i ∷ i ∷ f.stack) c) (length s.locals)
      (p + 2 + length ((value v).code (p + 2) ++ operator o line ∷ SetMemAt line_of cells.column cells.length ∷ []))
      (with_column line_of m (λ column.
      by_value v f.before s (λ w t.
      with_value (at_line line (applied o (number_at s.memory column) w)) (λ y. went_on (set_column column y t)))))
  cell_changed_by line_of cells o line i v s c p None follows fit_it low_it has is gives = gives
  cell_changed_by line_of cells o line i v s c p (Some m) follows fit_it low_it has is gives =
      let last = SetMemAt line_of cells.column cells.length in
      let x = number_at s.memory m in
      comes_led run f (at (p + 1) (i ∷ i ∷ f.stack) c) (at (p + 2) (x ∷ i ∷ f.stack) c) (length s.locals)
      (p + 2 + length ((value v).code (p + 2) ++ operator o line ∷ last ∷ []))
      (by_value v f.before s (λ w t. with_value (at_line line (applied o x w)) (λ y. went_on (set_column m y t)))) gives
      (changed last o line x v s c (p + 2) (i ∷ f.stack) (λ y t. went_on (set_column m y t)) follows fit_it low_it has
      (λ w left q less has_last.
      cell_set line_of cells i w m (record s { fuel = left }) (refuel left c) q (refueled f s c left less follows) is
      has_last))

  -- an index, and code behind it
  index_comes :
      (e : SlotExpr) (s : Progress) (c : Config) (p : ℕ) (rest : ℕ → List Instr) (go : ℤ → End)
      → Follows f s c
      → fits f.around e ≡ true
      → names_below (length s.locals) e ≡ true
      → HasAt run p ((expression e).code p ++ rest (p + length ((expression e).code p)))
      → ((i : ℤ) (q : ℕ) → HasAt run q (rest q)
      → Comes run f (at q (i ∷ f.stack) c) (length s.locals) (q + length (rest q)) (go i))
      → Comes run f (at p f.stack c) (length s.locals)
      (p + length ((expression e).code p ++ rest (p + length ((expression e).code p))))
      (with_value (value_of e f.before s) go)
  index_comes e s c p rest go follows fit_it low_it has comes =
      let code = (expression e).code p in
      let q = p + length code in
      let end : q + length (rest q) ≡ p + length (code ++ rest q) =
      (let long = length-append code (rest q) in omega (arith, long)) in
      value_comes run f (at p f.stack c) (valued q f.stack c) (length s.locals) (p + length (code ++ rest q))
      (value_of e f.before s) go
      ((expression_does run f.around f.before s c (alike_of run f s c sound follows) e).value p f.stack
      (has_left run p code (rest q) has) fit_it low_it)
      (λ i. comes_at (at q (i ∷ f.stack) c) (length s.locals) (q + length (rest q)) (p + length (code ++ rest q)) (go i)
      end (comes i q (has_right run p code (rest q) has)))

  -- an assignment by its form
  assigned_comes :
      (to : SlotTarget) (o : Option Op) (line : ℕ) (v : SlotValue) (s : Progress) (c : Config) (p : ℕ)
      → Follows f s c
      → target_fits f.around to ≡ true
      → stored_fits f.around v ≡ true
      → target_below (length s.locals) to ≡ true
      → stored_below (length s.locals) v ≡ true
      → HasAt run p ((assign to o line v).code p)
      → Comes run f (at p f.stack c) (length s.locals) (p + length ((assign to o line v).code p))
      (assigned_by to o line v f.before s)
  assigned_comes (target.Local number) None line v s c p follows to_fits v_fits to_low v_low has =
      plain_set (SetLoc number) v s c p (λ w t. went_on (with_local_at number w t)) follows v_fits v_low has
      (λ w left q less has_last.
      local_set number w (record s { fuel = left }) (refuel left c) q (refueled f s c left less follows) has_last)
  assigned_comes (target.Memory column) None line v s c p follows to_fits v_fits to_low v_low has =
      plain_set (SetMem column) v s c p (λ w t. went_on (set_column column w t)) follows v_fits v_low
      has
      (λ w left q less has_last.
      column_set column w (record s { fuel = left }) (refuel left c) q (refueled f s c left less follows) has_last)
  assigned_comes (target.Local number) (Some o) line v s c p follows to_fits v_fits to_low v_low has =
      let code = (value v).code (p + 0 + 1) ++ operator o line ∷ SetLoc number ∷ [] in
      plain_change (Loc number) (SetLoc number) o line (local_at number s.locals) v s c p
      (λ w t. went_on (with_local_at number w t)) follows v_fits v_low has
      (subst (λ x. Leads run (at p f.stack c) (at (p + 1) (x ∷ f.stack) c)) (follows.locals number to_low)
      (performed run (at p f.stack c) (at (p + 1) (c.locals number ∷ f.stack) c) (Loc number)
      (has_first run p (Loc number) code has) refl))
      (λ w left q less has_last.
      local_set number w (record s { fuel = left }) (refuel left c) q (refueled f s c left less follows) has_last)
  assigned_comes (target.Memory column) (Some o) line v s c p follows to_fits v_fits to_low v_low has =
      let code = (value v).code (p + 0 + 1) ++ operator o line ∷ SetMem column ∷ [] in
      plain_change (Mem column) (SetMem column) o line (number_at s.memory column) v s c p
      (λ w t. went_on (set_column column w t)) follows v_fits v_low has
      (subst (λ memory. Leads run (at p f.stack c) (at (p + 1) (number_at memory column ∷ f.stack) c)) follows.memory
      (performed run (at p f.stack c) (at (p + 1) (number_at c.memory column ∷ f.stack) c) (Mem column)
      (has_first run p (Mem column) code has) refl))
      (λ w left q less has_last.
      column_set column w (record s { fuel = left }) (refuel left c) q (refueled f s c left less follows) has_last)
  assigned_comes (target.Element cells i) None line v s c p follows to_fits v_fits to_low v_low has =
      let parts = and_parts (are_within f.around.widths.memory cells) (fits f.around i.index) to_fits in
      let last = SetMemAt i.line cells.column cells.length in
      let n = length s.locals in
      index_comes i.index s c p (λ q. (value v).code q ++ last ∷ [])
      (λ x. by_value v f.before s (λ w t. with_column i.line (cell_column cells x) (λ m. went_on (set_column m w t))))
      follows parts.1 to_low has
      (λ x q has_value.
      let code = (value v).code q in
      stored_comes v s c q (x ∷ f.stack) n (q + length (code ++ last ∷ []))
      (λ w t. with_column i.line (cell_column cells x) (λ m. went_on (set_column m w t))) follows v_fits v_low
      (has_left run q code (last ∷ []) has_value)
      (λ w left less.
      let t : Progress = record s { fuel = left } in
      comes_at (at (q + length code) (w ∷ x ∷ f.stack) (refuel left c)) n (q + length code + 1)
      (q + length (code ++ last ∷ [])) (with_column i.line (cell_column cells x) (λ m. went_on (set_column m w t)))
      (behind_one q code last)
      (element_set_by i.line cells x w t (refuel left c) (q + length code) (cell_column cells x)
      (refueled f s c left less follows) refl (has_right run q code (last ∷ []) has_value))))
  assigned_comes (target.Element cells i) (Some o) line v s c p follows to_fits v_fits to_low v_low has =
      let parts = and_parts (are_within f.around.widths.memory cells) (fits f.around i.index) to_fits in
      let last = SetMemAt i.line cells.column cells.length in
      let get = MemAt i.line cells.column cells.length in
      let n = length s.locals in
      let after : ℤ → ℕ → End = λ x column.
      by_value v f.before s (λ w t.
      with_value (at_line line (applied o (number_at s.memory column) w)) (λ y. went_on (set_column column y t))) in
      index_comes i.index s c p (λ q. Dup ∷ get ∷ ((value v).code (q + 2) ++ operator o line ∷ last ∷ []))
      (λ x. with_column i.line (cell_column cells x) (after x)) follows parts.1 to_low has
      (λ x q has_rest_of.
      let rest = (value v).code (q + 2) ++ operator o line ∷ last ∷ [] in
      let two : q + 1 + 1 ≡ q + 2 = omega arith in
      let end : q + 2 + length rest ≡ q + suc (suc (length rest)) = omega arith in
      let has_get = has_rest run q Dup (get ∷ rest) has_rest_of in
      let e = with_column i.line (cell_column cells x) (after x) in
      comes_led run f (at q (x ∷ f.stack) c) (at (q + 1) (x ∷ x ∷ f.stack) c) n (q + suc (suc (length rest))) e
      (performed run (at q (x ∷ f.stack) c) (at (q + 1) (x ∷ x ∷ f.stack) c) Dup
      (has_first run q Dup (get ∷ rest) has_rest_of) refl)
      (comes_at (at (q + 1) (x ∷ x ∷ f.stack) c) n (q + 2 + length rest) (q + suc (suc (length rest))) e end
      (cell_changed_by i.line cells o line x v s c q (cell_column cells x) follows v_fits v_low
      (subst (λ k. HasAt run k rest) two (has_rest run (q + 1) get rest has_get)) refl
      (subst (λ k. Gives run (at (q + 1) (x ∷ x ∷ f.stack) c) (valued k (x ∷ f.stack) c)
      (element_value i.line (cell_column cells x) s.memory)) two
      (cell_runs run f.around f.before s c (alike_of run f s c sound follows) i.line cells x (q + 1) (x ∷ f.stack)
      (has_left run (q + 1) (get ∷ []) rest has_get))))))

  -- an assignment
  pub assignment_comes :
      (a : SlotAssign) (s : Progress) (c : Config) (p : ℕ)
      → Follows f s c
      → assignment_fits f.around a ≡ true
      → assignment_below (length s.locals) a ≡ true
      → HasAt run p ((assignment a).code p)
      → Comes run f (at p f.stack c) (length s.locals) (p + length ((assignment a).code p)) (assigned a f.before s)
  assignment_comes a s c p follows fit_it low_it has =
      let fitting = and_parts (target_fits f.around a.target) (stored_fits f.around a.value) fit_it in
      let low = and_parts (target_below (length s.locals) a.target) (stored_below (length s.locals) a.value) low_it in
      assigned_comes a.target a.op a.op_line a.value s c p follows fitting.0 fitting.1 low.0 low.1 has
