-- The code of call statements comes to what the statements come to.
use Rattle.std.proofs.Common.{◌≡◌, ℕ, suc, ◌+◌, ◌==◌, true, ◌&&◌, List, [], ◌∷◌, ◌++◌, length, map, Some, refl, sym, ap, ◌∙◌, subst, arith, length-append}
use Rattle.std.specs.Prelude.{ℤ, slice_index_or, nat_lt}
use Rattle.std.proofs.lemmas.Bool.{and_parts, eqb-true}
use Rattle.flame_spec.specs.CallFaults.{is_length}
use Rattle.flame_spec.specs.Conditions.{number_at}
use Rattle.flame_spec.specs.declared.outcomes.Widths.{Widths}
use Rattle.flame_spec.proofs.FaultTests.{is_length-true}
use Rattle.flame_body.specs.declared.slots.SlotDeed.{SlotDeed}
use Rattle.flame_body.specs.declared.slots.SlotDeed.TheVariants.{Sets, Sends, Bears, Calls}
use Rattle.flame_body.specs.declared.slots.SlotExpr.{SlotExpr}
use Rattle.flame_body.specs.BodyFits.{fit, values_fit, numbers_of as count_of, deed_fits}
use Rattle.flame_code.specs.declared.instrs.Instr.{Instr}
use Rattle.flame_code.specs.declared.instrs.Instr.TheVariants.{Drop, SetMem, Send, Bear, Call}
use Rattle.flame_code.specs.Machine.{Config, next}
use Rattle.flame_compile.specs.Emit.{arguments, deed}
use Rattle.flame_meaning.specs.Scenes.{Progress}
use Rattle.flame_meaning.specs.Ends.{End, went_on, with_values}
use Rattle.flame_meaning.specs.Statements.{set_column, fitted}
use Rattle.flame_number_laws.specs.NumberedMeaning.{argument_numbers, done, with_message, with_birth}
use Rattle.flame_code_laws.specs.CodeRuns.{Running, HasAt, at, pushed, Leads}
use Rattle.flame_code_laws.specs.NamedLocals.{all_below}
use Rattle.flame_code_laws.specs.Standings.{Frame, IsSound, Follows, Comes}
use Rattle.flame_code_laws.proofs.Going.{has_left, has_right, has_first, has_rest, numbered, performed}
use Rattle.flame_code_laws.proofs.FaithfulExpressions.{arguments_give, numbers_long}
use Rattle.flame_code_laws.proofs.Comings.{row_taken, refuel, alike_of, refueled, comes_led, values_come}
use Rattle.flame_meaning.proofs.Fitting.{fitted_whole}
use Rattle.flame_compile.proofs.LabelledExpressions.{values_counted}
use Rattle.flame_code_laws.proofs.FaithfulStores.{comes_at, arrived, call_comes, column_set}

module _ (run : Running) (f : Frame) (sound : IsSound run f) where
  -- ---- call statements

  -- arguments, and code behind them
  arguments_come :
      (es : List SlotExpr) (n : ℕ) (s : Progress) (c : Config) (p : ℕ) (rest : List Instr) (go : List ℤ → End)
      → Follows f s c
      → count_of (map (fit f.around) es) ≡ Some n
      → all_below (length s.locals) es ≡ true
      → HasAt run p ((arguments es).code p ++ rest)
      → ((vs : List ℤ) (q : ℕ) → length vs ≡ n → HasAt run q rest
      → Comes run f (at q (pushed vs f.stack) c) (length s.locals) (q + length rest) (go vs))
      → Comes run f (at p f.stack c) (length s.locals) (p + length ((arguments es).code p ++ rest))
      (with_values (argument_numbers es f.before s) go)
  arguments_come es n s c p rest go follows fit_it low_it has comes =
      let args = (arguments es).code p in
      let q = p + length args in
      let alike = alike_of run f s c sound follows in
      let end : q + length rest ≡ p + length (args ++ rest) =
      (let long = length-append args rest in omega (arith, long)) in
      values_come run f (at p f.stack c) (numbered q f.stack c) (length s.locals) (p + length (args ++ rest))
      (argument_numbers es f.before s) go
      (arguments_give run f.around f.before s c alike es n fit_it low_it p f.stack (has_left run p args rest has))
      (λ vs is. comes_at run f sound (at q (pushed vs f.stack) c) (length s.locals) (q + length rest) (p + length (args ++ rest))
      (go vs) end
      (comes vs q (numbers_long run f.around f.before s c alike es n vs fit_it is) (has_right run p args rest has)))

  -- one number is set
  single_set :
      (column : ℕ) (vs : List ℤ) (s : Progress) (c : Config) (q : ℕ)
      → Follows f s c
      → length vs ≡ 1
      → HasAt run q (SetMem column ∷ [])
      → Comes run f (at q (pushed vs f.stack) c) (length s.locals) (q + 1)
      (went_on (set_column column (number_at vs 0) s))
  single_set column [] s c q follows long has =
      absurd (let bad : 0 ≡ 1 = long in omega (arith, bad))
  single_set column (v ∷ []) s c q follows long has = column_set run f sound column v s c q follows has
  single_set column (v ∷ w ∷ vs) s c q follows long has =
      absurd (let bad : suc (suc (length vs)) ≡ 1 = long in omega (arith, bad))

  -- a row that is sent
  sent_on :
      (number : ℕ) (vs : List ℤ) (s : Progress) (c : Config) (q : ℕ)
      → Follows f s c
      → length vs ≡ slice_index_or f.around.widths.messages number 0
      → HasAt run q (Send number ∷ [])
      → Comes run f (at q (pushed vs f.stack) c) (length s.locals) (q + 1) (went_on (with_message number vs f.before s))
  sent_on number vs s c q follows long has =
      let here = slice_index_or run.routine.widths.messages number 0 in
      let wide : length vs ≡ here = long ∙ ap (λ (w : Widths). slice_index_or w.messages number 0) sound.widths in
      let row = fitted (slice_index_or f.before.widths.messages number 0) vs in
      let same : row ≡ vs = fitted_whole (slice_index_or f.before.widths.messages number 0) vs
      (wide ∙ sym (ap (λ (w : Widths). slice_index_or w.messages number 0) sound.same_widths)) in
      let d = record c { sent = c.sent ++ record { message = number; row = vs } ∷ [] } in (
        record {
          there = d;
          follows = record {
            memory = follows.memory;
            locals = follows.locals;
            sent = ap (λ sent. sent ++ record { message = number; row = vs } ∷ []) follows.sent
                ∙ ap (λ r. s.sent ++ record { message = number; row = r } ∷ []) (sym same);
            born = follows.born;
            fuel = follows.fuel;
            readings = follows.readings;
            kept = follows.kept;
            least = follows.least;
            most = follows.most;
          };
          leads = performed run (at q (pushed vs f.stack) c) (at (q + 1) f.stack d) (Send number)
              (has_first run q (Send number) [] has)
              (row_taken here vs f.stack
              (λ r rest. next rest (record (at q (pushed vs f.stack) c) {
                sent = c.sent ++ record { message = number; row = r } ∷ [];
              })) wide);
        },
        refl,
      )

  -- a row that is born
  born_on :
      (number : ℕ) (vs : List ℤ) (s : Progress) (c : Config) (q : ℕ)
      → Follows f s c
      → length vs ≡ slice_index_or f.around.widths.agents number 0
      → HasAt run q (Bear number ∷ [])
      → Comes run f (at q (pushed vs f.stack) c) (length s.locals) (q + 1) (went_on (with_birth number vs f.before s))
  born_on number vs s c q follows long has =
      let here = slice_index_or run.routine.widths.agents number 0 in
      let wide : length vs ≡ here = long ∙ ap (λ (w : Widths). slice_index_or w.agents number 0) sound.widths in
      let row = fitted (slice_index_or f.before.widths.agents number 0) vs in
      let same : row ≡ vs = fitted_whole (slice_index_or f.before.widths.agents number 0) vs
      (wide ∙ sym (ap (λ (w : Widths). slice_index_or w.agents number 0) sound.same_widths)) in
      let d = record c { born = c.born ++ record { agent = number; row = vs } ∷ [] } in (
        record {
          there = d;
          follows = record {
            memory = follows.memory;
            locals = follows.locals;
            sent = follows.sent;
            born = ap (λ born. born ++ record { agent = number; row = vs } ∷ []) follows.born
                ∙ ap (λ r. s.born ++ record { agent = number; row = r } ∷ []) (sym same);
            fuel = follows.fuel;
            readings = follows.readings;
            kept = follows.kept;
            least = follows.least;
            most = follows.most;
          };
          leads = performed run (at q (pushed vs f.stack) c) (at (q + 1) f.stack d) (Bear number)
              (has_first run q (Bear number) [] has)
              (row_taken here vs f.stack
              (λ r rest. next rest (record (at q (pushed vs f.stack) c) {
                born = c.born ++ record { agent = number; row = r } ∷ [];
              })) wide);
        },
        refl,
      )

  -- a call statement
  pub deed_comes :
      (d : SlotDeed) (es : List SlotExpr) (s : Progress) (c : Config) (p : ℕ)
      → Follows f s c
      → deed_fits f.around d es ≡ true
      → all_below (length s.locals) es ≡ true
      → HasAt run p ((arguments es).code p ++ (deed d (length es)).code (p + length ((arguments es).code p)))
      → Comes run f (at p f.stack c) (length s.locals)
      (p + length ((arguments es).code p ++ (deed d (length es)).code (p + length ((arguments es).code p))))
      (with_values (argument_numbers es f.before s) (λ vs. done d vs f.before s))
  deed_comes (Sets column) es s c p follows fit_it low_it has =
      let parts = and_parts (nat_lt column f.around.widths.memory && (length es == 1)) (values_fit f.around es) fit_it
      in
      let one_of = and_parts (nat_lt column f.around.widths.memory) (length es == 1) parts.0 in
      let single : length es ≡ 1 = eqb-true (length es) 1 one_of.1 in
      arguments_come es (length es) s c p (SetMem column ∷ []) (λ vs. done (Sets column) vs f.before s) follows
      (values_counted es f.around parts.1) low_it has
      (λ vs q long has_last. single_set column vs s c q follows (long ∙ single) has_last)
  deed_comes (Sends number) es s c p follows fit_it low_it has =
      let width = slice_index_or f.around.widths.messages number 0 in
      let counts = count_of (map (fit f.around) es) in
      let parts = and_parts (nat_lt number (length f.around.widths.messages)) (is_length width counts) fit_it in
      arguments_come es width s c p (Send number ∷ []) (λ vs. done (Sends number) vs f.before s) follows
      (is_length-true width counts parts.1) low_it has
      (λ vs q long has_last. sent_on number vs s c q follows long has_last)
  deed_comes (Bears number) es s c p follows fit_it low_it has =
      let width = slice_index_or f.around.widths.agents number 0 in
      let counts = count_of (map (fit f.around) es) in
      let parts = and_parts (nat_lt number (length f.around.widths.agents)) (is_length width counts) fit_it in
      arguments_come es width s c p (Bear number ∷ []) (λ vs. done (Bears number) vs f.before s) follows
      (is_length-true width counts parts.1) low_it has
      (λ vs q long has_last. born_on number vs s c q follows long has_last)
  deed_comes (Calls line h) es s c p follows fit_it low_it has =
      let call = Call line h (length es) in
      arguments_come es (length es) s c p (call ∷ Drop ∷ []) (λ vs. done (Calls line h) vs f.before s) follows
      (values_counted es f.around fit_it) low_it has
      (λ vs q long has_last.
      let two : q + 1 + 1 ≡ q + 2 = omega arith in
      call_comes run f sound s c line h (length es) vs q f.stack (length s.locals) (q + 2) (λ v t. went_on t) follows long
      (has_left run q (call ∷ []) (Drop ∷ []) has_last)
      (λ v left less.
      let t : Progress = record s { fuel = left } in
      comes_led run f (at (q + 1) (v ∷ f.stack) (refuel left c)) (at (q + 2) f.stack (refuel left c)) (length s.locals)
      (q + 2) (went_on t)
      (subst (λ k. Leads run (at (q + 1) (v ∷ f.stack) (refuel left c)) (at k f.stack (refuel left c))) two
      (performed run (at (q + 1) (v ∷ f.stack) (refuel left c)) (at (q + 1 + 1) f.stack (refuel left c)) Drop
      (has_first run (q + 1) Drop [] (has_rest run q call (Drop ∷ []) has_last)) refl))
      (arrived run f sound t (refuel left c) (length s.locals) (q + 2) (refueled f s c left less follows) refl)))
