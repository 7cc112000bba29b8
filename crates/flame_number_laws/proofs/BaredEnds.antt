-- What words for ends do with locals that have no names.
use Rattle.std.proofs.Common.{◌≡◌, ℕ, zero, suc, ◌-◌, Bool, true, false, cond, List, [], ◌∷◌, map, length, drop, Option, Some, None}
use Rattle.std.proofs.Common.{refl, sym, ap, ◌∙◌}
use Rattle.std.specs.Prelude.{ℤ, Result, Ok, Err}
use Rattle.flame_spec.specs.declared.faults.Fault.{Fault}
use Rattle.flame_spec.specs.Scopes.{Context, Sight}
use Rattle.flame_meaning.specs.Scenes.{Scene, Progress, Current, Gave, gave, failed}
use Rattle.flame_meaning.specs.Expressions.{holds}
use Rattle.flame_meaning.specs.Ends.{End, went_on, broke, continued, returned, faulted, with_value, with_values, after_call, on_to}
use Rattle.flame_meaning.specs.Ends.{no_fuel, outside, leave, as_scope}
use Rattle.flame_meaning.specs.Loops.{pay_from, after_turn, turn, turns, loop, each_row as each_current}
use Rattle.flame_meaning.specs.Statements.{with_column}
use Rattle.flame_meaning.specs.Agreement.{Agrees}
use Rattle.flame_meaning.specs.AcceptedMeaning.{WentOnAgrees, EndAgrees}
use Rattle.flame_number_laws.specs.NumberedMeaning.{each_row}
use Rattle.flame_number_laws.proofs.BaredLocals.{bare, length-bare, drop-bare}

-- the same progress, its locals without names
abbrev pub bared : Progress → Progress
bared s = record s { locals = bare s.locals }

-- the same end
abbrev pub bared_end : End → End
bared_end (went_on s) = went_on (bared s)
bared_end (broke s) = broke (bared s)
bared_end (continued s) = continued (bared s)
bared_end (returned v s) = returned v (bared s)
bared_end (faulted fault) = faulted fault

pub value-bared :
    (r : Result ℤ Fault) (go other : ℤ → End)
    → ((v : ℤ) → bared_end (go v) ≡ other v)
    → bared_end (with_value r go) ≡ with_value r other
value-bared (Ok v) go other h = h v
value-bared (Err fault) go other h = refl

pub values-bared :
    (r : Result (List ℤ) Fault) (go other : List ℤ → End)
    → ((values : List ℤ) → r ≡ Ok values → bared_end (go values) ≡ other values)
    → bared_end (with_values r go) ≡ with_values r other
values-bared (Ok values) go other h = h values refl
values-bared (Err fault) go other h = refl

pub column-bared :
    (line : ℕ) (o : Option ℕ) (go other : ℕ → End)
    → ((column : ℕ) → bared_end (go column) ≡ other column)
    → bared_end (with_column line o go) ≡ with_column line o other
column-bared line None go other h = refl
column-bared line (Some column) go other h = h column

pub call-bared :
    (g : Gave) (s : Progress) (go other : ℤ → Progress → End)
    → ((v : ℤ) (fuel : ℕ) → bared_end (go v (record s { fuel = fuel })) ≡ other v (record (bared s) { fuel = fuel }))
    → bared_end (after_call g s go) ≡ after_call g (bared s) other
call-bared (gave v fuel) s go other h = h v fuel
call-bared (failed fault) s go other h = refl

-- ---- scopes

outside-bared : (n : ℕ) (s : Progress) → bared (outside n s) ≡ outside n (bared s)
outside-bared n s =
    ap (λ l. record s { locals = l })
    (drop-bare (length s.locals - n) s.locals ∙ ap (λ k. drop (k - n) (bare s.locals)) (sym (length-bare s.locals)))

leave-bared : (n : ℕ) (e : End) → bared_end (leave n e) ≡ leave n (bared_end e)
leave-bared n (went_on s) = ap went_on (outside-bared n s)
leave-bared n (broke s) = ap broke (outside-bared n s)
leave-bared n (continued s) = ap continued (outside-bared n s)
leave-bared n (returned v s) = ap (returned v) (outside-bared n s)
leave-bared n (faulted fault) = refl

pub scope-bared :
    (run other : Progress → End) (s : Progress)
    → bared_end (run s) ≡ other (bared s)
    → bared_end (as_scope run s) ≡ as_scope other (bared s)
scope-bared run other s h =
    leave-bared (length s.locals) (run s)
    ∙ ap (leave (length s.locals)) h
    ∙ ap (λ n. leave n (other (bared s))) (sym (length-bare s.locals))

-- ---- loops

pub fuelled :
    (place : Context) (sight : Sight) (scene : Scene) (s : Progress) (fuel : ℕ)
    → Agrees place sight scene s
    → Agrees place sight scene (record s { fuel = fuel })
fuelled place sight scene s fuel a = record { there = a.there; names = a.names; fresh = a.fresh; loops = a.loops }

module _ (place : Context) (sight : Sight) (scene : Scene) where
  -- both do the same, the second without names
  abbrev pub Alike : (run other : Progress → End) → Type 0
  Alike run other = (t : Progress) → Agrees place sight scene t → bared_end (run t) ≡ other (bared t)

  -- where it goes on, the progress agrees with the place
  abbrev pub GoesOn : (run : Progress → End) → Type 0
  GoesOn run = (t : Progress) → Agrees place sight scene t → WentOnAgrees place sight scene (run t)

  -- however it ends, the progress agrees with the place
  abbrev pub Stays : (run : Progress → End) → Type 0
  Stays run = (t : Progress) → Agrees place sight scene t → EndAgrees place sight scene (run t)

  pub on-bared :
      (e : End) (go other : Progress → End)
      → WentOnAgrees place sight scene e
      → Alike go other
      → bared_end (on_to e go) ≡ on_to (bared_end e) other
  on-bared (went_on s) go other a h = h s a
  on-bared (broke s) go other a h = refl
  on-bared (continued s) go other a h = refl
  on-bared (returned v s) go other a h = refl
  on-bared (faulted fault) go other a h = refl

  after-bared :
      (e : End) (go other : Progress → End)
      → EndAgrees place sight scene e
      → Alike go other
      → bared_end (after_turn e go) ≡ after_turn (bared_end e) other
  after-bared (went_on s) go other a h = h s a
  after-bared (broke s) go other a h = refl
  after-bared (continued s) go other a h = h s a
  after-bared (returned v s) go other a h = refl
  after-bared (faulted fault) go other a h = refl

  pub turn-bared :
      (line : ℕ) (body other next more : Progress → End)
      → Alike body other
      → Stays body
      → Alike next more
      → Alike (turn line body next) (turn line other more)
  turn-bared line body other next more same stays on s a = by_fuel s.fuel
    where
      by_fuel :
          (fuel : ℕ)
          → bared_end (pay_from fuel line s (λ t. after_turn (body t) next))
          ≡ pay_from fuel line (bared s) (λ t. after_turn (other t) more)
      by_fuel zero = refl
      by_fuel (suc fuel) =
          let t : Progress = record s { fuel = fuel } in
          let agrees = fuelled place sight scene s fuel a in
          after-bared (body t) next more (stays t agrees) on ∙ ap (λ e. after_turn e more) (same t agrees)

  pub turns-bared :
      (n line : ℕ) (test tested : Progress → Result ℤ Fault) (body other step stepped : Progress → End)
      → ((t : Progress) → Agrees place sight scene t → tested (bared t) ≡ test t)
      → Alike body other
      → Stays body
      → Alike step stepped
      → GoesOn step
      → Alike (turns n line test body step) (turns n line tested other stepped)
  turns-bared zero line test tested body other step stepped tests same stays steps goes s a =
      value-bared (test s) _ (λ v. cond (holds v) (faulted (no_fuel line)) (went_on (bared s))) (λ v. by_test (holds v))
      ∙ ap (λ r. with_value r (λ v. cond (holds v) (faulted (no_fuel line)) (went_on (bared s)))) (sym (tests s a))
    where
      by_test : (b : Bool) → bared_end (cond b (faulted (no_fuel line)) (went_on s)) ≡ cond b (faulted (no_fuel line)) (went_on (bared s))
      by_test true = refl
      by_test false = refl
  turns-bared (suc n) line test tested body other step stepped tests same stays steps goes s a =
      value-bared (test s) _
      (λ v. cond (holds v) (turn line other (λ t. on_to (stepped t) (turns n line tested other stepped)) (bared s)) (went_on (bared s)))
      (λ v. by_test (turns-bared n line test tested body other step stepped tests same stays steps goes) (holds v))
      ∙ ap
      (λ r. with_value r (λ v.
      cond (holds v) (turn line other (λ t. on_to (stepped t) (turns n line tested other stepped)) (bared s)) (went_on (bared s))))
      (sym (tests s a))
    where
      More : Type 0
      More = Alike (turns n line test body step) (turns n line tested other stepped)

      next : More → Alike (λ t. on_to (step t) (turns n line test body step)) (λ t. on_to (stepped t) (turns n line tested other stepped))
      next more t agrees =
          on-bared (step t) (turns n line test body step) (turns n line tested other stepped) (goes t agrees) more
          ∙ ap (λ e. on_to e (turns n line tested other stepped)) (steps t agrees)

      by_test :
          More
          → (b : Bool)
          → bared_end (cond b (turn line body (λ t. on_to (step t) (turns n line test body step)) s) (went_on s))
          ≡ cond b (turn line other (λ t. on_to (stepped t) (turns n line tested other stepped)) (bared s)) (went_on (bared s))
      by_test more true = turn-bared line body other _ _ same stays (next more) s a
      by_test more false = refl

  pub loop-bared :
      (line : ℕ) (test tested : Progress → Result ℤ Fault) (body other step stepped : Progress → End)
      → ((t : Progress) → Agrees place sight scene t → tested (bared t) ≡ test t)
      → Alike body other
      → Stays body
      → Alike step stepped
      → GoesOn step
      → Alike (loop line test body step) (loop line tested other stepped)
  loop-bared line test tested body other step stepped tests same stays steps goes s a =
      turns-bared s.fuel line test tested body other step stepped tests same stays steps goes s a

  pub rows-bared :
      (line message : ℕ) (body : Current → Progress → End) (other : List ℤ → Progress → End) (rows : List (List ℤ))
      → ((row : List ℤ) → Alike (body (record { message = message; row = row })) (other row))
      → ((row : List ℤ) → Stays (body (record { message = message; row = row })))
      → Alike (each_current line body (map (λ row. record { message = message; row = row }) rows)) (each_row line other rows)
  rows-bared line message body other [] same stays s a = refl
  rows-bared line message body other (row ∷ rows) same stays s a =
      turn-bared line (body (record { message = message; row = row })) (other row) _ (each_row line other rows)
      (same row) (stays row) (rows-bared line message body other rows same stays) s a
