-- Scopes, and the turns of loops.
use Rattle.std.proofs.Common.{◌≡◌, ℕ, zero, suc, ◌+◌, ◌-◌, ◌<◌, ◌≤◌, ◌==◌, Bool, true, false, not, cond, List, [], ◌∷◌, length, drop, refl, sym, ap, ◌∙◌, subst, arith, length-drop, lt-ltb}
use Rattle.std.specs.Prelude.{ℤ, pos, Result, slice_get}
use Rattle.std.specs.List.{list_any}
use Rattle.std.specs.Ordering.{int_eq}
use Rattle.std.proofs.lemmas.Bool.{ltb-true, ne_eqb}
use Rattle.flame_spec.specs.declared.faults.Fault.{Fault}
use Rattle.flame_body.specs.BodyFits.{in_plain_loop}
use Rattle.flame_code.specs.declared.instrs.Instr.TheVariants.{JumpNotZero, Pay}
use Rattle.flame_code.specs.Machine.{Config, on, next as next_at, pay_from as paid_from}
use Rattle.flame_meaning.specs.Scenes.{Local, Progress}
use Rattle.flame_meaning.specs.Expressions.{holds}
use Rattle.flame_meaning.specs.Ends.{End, went_on, broke, continued, returned, faulted, on_to, leave, outside, no_fuel}
use Rattle.flame_meaning.specs.Loops.{turn, turns, after_turn, pay_from}
use Rattle.flame_number_laws.specs.NumberedScenes.{NumberedScene, local_at}
use Rattle.flame_code_laws.specs.CodeRuns.{Running, HasAt, at, Leads, Gives}
use Rattle.flame_code_laws.specs.Standings.{Frame, IsSound, Follows, Reached, Comes}
use Rattle.flame_code_laws.proofs.Going.{has_first, valued, performed, failed}
use Rattle.flame_code_laws.proofs.Comings.{refuel, comes_led, value_comes}

-- ---- locals that end

-- an older local is read where newer ones ended
pub drop_read :
    (k n : ℕ) (xs : List Local) → k + n < length xs → local_at k (drop n xs) ≡ local_at k xs
drop_read k zero xs less = refl
drop_read k (suc n) [] less = refl
drop_read k (suc n) (x ∷ xs) less =
    let other : length xs ≡ k → ⊥ = λ same. omega (arith, same, less) in
    drop_read k n xs (omega (arith, less))
    ∙ sym (ap (λ b. cond b x.value (local_at k xs)) (ne_eqb (length xs) k other))

-- however it ends without a fault or a value, there are so many locals
abbrev pub Whole : ℕ → End → Type 0
Whole n (went_on s) = length s.locals ≡ n
Whole n (broke s) = length s.locals ≡ n
Whole n (continued s) = length s.locals ≡ n
Whole n (returned v s) = Unit {0}
Whole n (faulted fault) = Unit {0}

-- ---- frames

-- so many locals at least, and so much fuel at most
abbrev pub scoped : ℕ → ℕ → Frame → Frame
scoped n k f = record f { least = n; most = k }

-- inside a loop
abbrev pub inside : ℕ → ℕ → ℕ → ℕ → Frame → Frame
inside out again n k f =
    record f { around = in_plain_loop f.around; leave = out; again = again; least = n; most = k }

-- a frame that differs in these alone is sound too
pub scoped_sound : (run : Running) (f : Frame) (n k : ℕ) → IsSound run f → IsSound run (scoped n k f)
scoped_sound run f n k sound = record {
  constants = sound.constants;
  iteration = sound.iteration;
  widths = sound.widths;
  same_widths = sound.same_widths;
  rows = sound.rows;
  current = sound.current;
  helps = sound.helps;
}

pub inside_sound :
    (run : Running) (f : Frame) (out again n k : ℕ) → IsSound run f → IsSound run (inside out again n k f)
inside_sound run f out again n k sound = record {
  constants = sound.constants;
  iteration = sound.iteration;
  widths = sound.widths;
  same_widths = sound.same_widths;
  rows = sound.rows;
  current = λ input within.
      let current = sound.current input within in record { last = current.last; wide = current.wide };
  helps = sound.helps;
}

-- the same progress in another frame
pub reframed :
    (f g : Frame) (s : Progress) (c : Config)
    → f.before ≡ g.before
    → f.around.inputs ≡ g.around.inputs
    → f.feeds ≡ g.feeds
    → g.least ≤ length s.locals
    → s.fuel ≤ g.most
    → Follows f s c
    → Follows g s c
reframed f g s c before inputs feeds least most follows = record {
  memory = follows.memory;
  locals = follows.locals;
  sent = follows.sent;
  born = follows.born;
  fuel = follows.fuel;
  readings = follows.readings ∙ ap (λ (b : NumberedScene). b.readings) before;
  kept = λ input within.
      follows.kept input (ap (λ inputs. list_any (λ other. other == input) inputs) inputs ∙ within)
      ∙ ap (λ feeds. slice_get feeds input) feeds;
  least = least;
  most = most;
}

-- no fuel at most is none
none : {n : ℕ} → n ≤ 0 → n ≡ 0
none {n} less = omega (arith, less)

module _ (run : Running) where
  -- ---- scopes

  -- the progress outside a scope
  left_follows :
      (f : Frame) (n k : ℕ) (s : Progress) (c : Config)
      → f.least ≤ n
      → k ≤ f.most
      → Follows (scoped n k f) s c
      → Follows f (outside n s) c
  left_follows f n k s c least most follows =
      let long : length (outside n s).locals ≡ n =
      length-drop (length s.locals - n) s.locals ∙ omega (arith, follows.least) in
      record {
        memory = follows.memory;
        locals = λ i within.
            let less : i < n = subst (λ m. i < m) long (ltb-true i (length (outside n s).locals) within) in
            follows.locals i (lt-ltb i (length s.locals) (omega (arith, less, follows.least)))
            ∙ sym (drop_read i (length s.locals - n) s.locals (omega (arith, less, follows.least)));
        sent = follows.sent;
        born = follows.born;
        fuel = follows.fuel;
        readings = follows.readings;
        kept = follows.kept;
        least = omega (arith, long, least);
        most = omega (arith, follows.most, most);
      }

  -- so much is left
  left_long : (n : ℕ) (s : Progress) → n ≤ length s.locals → length (outside n s).locals ≡ n
  left_long n s least = length-drop (length s.locals - n) s.locals ∙ omega (arith, least)

  -- a place outside a scope
  left_reached :
      (f : Frame) (n k : ℕ) (c : Config) (s : Progress) (q : ℕ)
      → f.least ≤ n
      → k ≤ f.most
      → Reached run (scoped n k f) c s q
      → Reached run f c (outside n s) q
  left_reached f n k c s q least most reached = record {
    there = reached.there;
    follows = left_follows f n k s reached.there least most reached.follows;
    leads = reached.leads;
  }

  -- what a scope comes to
  pub left_comes :
      (f : Frame) (n k : ℕ) (c : Config) (m q : ℕ) (e : End)
      → f.least ≤ n
      → k ≤ f.most
      → Comes run (scoped n k f) c m q e
      → Comes run f c n q (leave n e) × Whole n (leave n e)
  left_comes f n k c m q (went_on s) least most comes =
      let long = left_long n s comes.0.follows.least in
      ((left_reached f n k c s q least most comes.0, long), long)
  left_comes f n k c m q (broke s) least most comes =
      (left_reached f n k c s f.leave least most comes, left_long n s comes.follows.least)
  left_comes f n k c m q (continued s) least most comes =
      (left_reached f n k c s f.again least most comes, left_long n s comes.follows.least)
  left_comes f n k c m q (returned v s) least most comes = (
    record {
      there = comes.there;
      memory = comes.memory;
      sent = comes.sent;
      born = comes.born;
      fuel = comes.fuel;
      ends = comes.ends;
    },
    tt,
  )
  left_comes f n k c m q (faulted fault) least most comes = (comes, tt)

  -- ---- one behind another

  -- what follows a statement
  pub comes_then :
      (f : Frame) (c : Config) (n m p q : ℕ) (e : End) (go : Progress → End)
      → Comes run f c n p e
      → ((t : Progress) (d : Config) → Follows f t d → length t.locals ≡ n → Comes run f (at p f.stack d) m q (go t))
      → Comes run f c m q (on_to e go)
  comes_then f c n m p q (went_on t) go comes then =
      comes_led run f c (at p f.stack comes.0.there) m q (go t) comes.0.leads
      (then t comes.0.there comes.0.follows comes.1)
  comes_then f c n m p q (broke t) go comes then = comes
  comes_then f c n m p q (continued t) go comes then = comes
  comes_then f c n m p q (returned v t) go comes then = comes
  comes_then f c n m p q (faulted fault) go comes then = comes

  -- a jump behind a statement
  pub comes_on :
      (f : Frame) (c : Config) (n p q : ℕ) (e : End)
      → Comes run f c n p e
      → ((d : Config) → Leads run (at p f.stack d) (at q f.stack d))
      → Comes run f c n q e
  comes_on f c n p q (went_on t) comes leads = (
    record {
      there = comes.0.there;
      follows = comes.0.follows;
      leads = λ e h. comes.0.leads e (leads comes.0.there e h);
    },
    comes.1,
  )
  comes_on f c n p q (broke t) comes leads = comes
  comes_on f c n p q (continued t) comes leads = comes
  comes_on f c n p q (returned v t) comes leads = comes
  comes_on f c n p q (faulted fault) comes leads = comes

  -- the same with more fuel at most
  widened :
      (f : Frame) (n k : ℕ) (c : Config) (s : Progress) (q : ℕ)
      → f.least ≤ n
      → k ≤ f.most
      → Reached run (scoped n k f) c s q
      → Reached run f c s q
  widened f n k c s q least most reached = record {
    there = reached.there;
    follows = reframed (scoped n k f) f s reached.there refl refl refl
        (omega (arith, least, reached.follows.least)) (omega (arith, most, reached.follows.most)) reached.follows;
    leads = reached.leads;
  }

  -- a step of a loop, and what follows it
  pub step_then :
      (f : Frame) (n k : ℕ) (c : Config) (p q : ℕ) (e : End) (go : Progress → End)
      → f.least ≤ n
      → k ≤ f.most
      → Comes run (scoped n k f) c n p e
      → ((t : Progress) (d : Config) → Follows f t d → t.fuel ≤ k → length t.locals ≡ n
      → Comes run f (at p f.stack d) n q (go t))
      → Comes run f c n q (on_to e go)
  step_then f n k c p q (went_on t) go least most comes then =
      let here = widened f n k c t p least most comes.0 in
      comes_led run f c (at p f.stack here.there) n q (go t) here.leads
      (then t here.there here.follows comes.0.follows.most comes.1)
  step_then f n k c p q (broke t) go least most comes then = widened f n k c t f.leave least most comes
  step_then f n k c p q (continued t) go least most comes then = widened f n k c t f.again least most comes
  step_then f n k c p q (returned v t) go least most comes then = record {
    there = comes.there;
    memory = comes.memory;
    sent = comes.sent;
    born = comes.born;
    fuel = comes.fuel;
    ends = comes.ends;
  }
  step_then f n k c p q (faulted fault) go least most comes then = comes

  -- ---- turns

  -- a place inside a loop
  outer :
      (f : Frame) (out again n k : ℕ) (c : Config) (s : Progress) (q : ℕ)
      → f.least ≤ n
      → k ≤ f.most
      → Reached run (inside out again n k f) c s q
      → Reached run f c s q
  outer f out again n k c s q least most reached = record {
    there = reached.there;
    follows = reframed (inside out again n k f) f s reached.there refl refl refl
        (omega (arith, least, reached.follows.least)) (omega (arith, most, reached.follows.most)) reached.follows;
    leads = reached.leads;
  }

  -- what follows the body of a turn
  after_comes :
      (f : Frame) (e again n k : ℕ) (c : Config) (x : End) (next : Progress → End)
      → f.least ≤ n
      → k ≤ f.most
      → Comes run (inside e again n k f) c n again x × Whole n x
      → ((t : Progress) (d : Config) → Follows f t d → t.fuel ≤ k → length t.locals ≡ n
      → Comes run f (at again f.stack d) n e (next t))
      → Comes run f c n e (after_turn x next)
  after_comes f e again n k c (went_on t) next least most (comes, whole) then =
      let here = outer f e again n k c t again least most comes.0 in
      comes_led run f c (at again f.stack here.there) n e (next t) here.leads
      (then t here.there here.follows comes.0.follows.most whole)
  after_comes f e again n k c (broke t) next least most (comes, whole) then =
      (outer f e again n k c t e least most comes, whole)
  after_comes f e again n k c (continued t) next least most (comes, whole) then =
      let here = outer f e again n k c t again least most comes in
      comes_led run f c (at again f.stack here.there) n e (next t) here.leads
      (then t here.there here.follows comes.follows.most whole)
  after_comes f e again n k c (returned v t) next least most (comes, whole) then = record {
    there = comes.there;
    memory = comes.memory;
    sent = comes.sent;
    born = comes.born;
    fuel = comes.fuel;
    ends = comes.ends;
  }
  after_comes f e again n k c (faulted fault) next least most (comes, whole) then = comes

  -- the body of a turn comes to the place where `continue` goes
  abbrev pub BodyComes : Frame → ℕ → ℕ → ℕ → ℕ → (Progress → End) → Type 0
  BodyComes f e again n b body =
      (k : ℕ) (t : Progress) (d : Config) → k ≤ f.most → Follows (inside e again n k f) t d → length t.locals ≡ n
      → Comes run (inside e again n k f) (at (b + 1) f.stack d) n again (body t) × Whole n (body t)

  -- one turn by the fuel
  turn_by :
      (f : Frame) (line e again n b : ℕ) (body next : Progress → End) (s : Progress) (c : Config) (fuel : ℕ)
      → f.least ≤ n
      → HasAt run b (Pay line ∷ [])
      → BodyComes f e again n b body
      → Follows f s c
      → length s.locals ≡ n
      → s.fuel ≡ fuel
      → ((t : Progress) (d : Config) → Follows f t d → suc t.fuel ≤ fuel → length t.locals ≡ n
      → Comes run f (at again f.stack d) n e (next t))
      → Comes run f (at b f.stack c) n e (pay_from fuel line s (λ t. after_turn (body t) next))
  turn_by f line e again n b body next s c zero least has bodies follows long fuel_is then =
      failed run (at b f.stack c) (Pay line) (no_fuel line) (has_first run b (Pay line) [] has)
      (ap (λ k. paid_from k line (at b f.stack c) (λ d. next_at d.stack d))
      (follows.fuel ∙ fuel_is))
  turn_by f line e again n b body next s c (suc k) least has bodies follows long fuel_is then =
      let t : Progress = record s { fuel = k } in
      let less : k ≤ f.most = omega (arith, fuel_is, follows.most) in
      let inner : Follows (inside e again n k f) t (refuel k c) = record {
        memory = follows.memory;
        locals = follows.locals;
        sent = follows.sent;
        born = follows.born;
        fuel = refl;
        readings = follows.readings;
        kept = follows.kept;
        least = omega (arith, long);
        most = omega arith;
      } in
      comes_led run f (at b f.stack c) (at (b + 1) f.stack (refuel k c)) n e (after_turn (body t) next)
      (performed run (at b f.stack c) (at (b + 1) f.stack (refuel k c)) (Pay line) (has_first run b (Pay line) [] has)
      (ap (λ k. paid_from k line (at b f.stack c) (λ d. next_at d.stack d))
      (follows.fuel ∙ fuel_is)))
      (after_comes f e again n k (at (b + 1) f.stack (refuel k c)) (body t) next least less
      (bodies k t (refuel k c) less inner long)
      (λ u d there fewer whole. then u d there (omega (arith, fewer)) whole))

  -- one turn, and what follows it
  pub turn_comes :
      (f : Frame) (line e again n b : ℕ) (body next : Progress → End) (s : Progress) (c : Config)
      → f.least ≤ n
      → HasAt run b (Pay line ∷ [])
      → BodyComes f e again n b body
      → Follows f s c
      → length s.locals ≡ n
      → ((t : Progress) (d : Config) → Follows f t d → suc t.fuel ≤ s.fuel → length t.locals ≡ n
      → Comes run f (at again f.stack d) n e (next t))
      → Comes run f (at b f.stack c) n e (turn line body next s)
  turn_comes f line e again n b body next s c least has bodies follows long then =
      turn_by f line e again n b body next s c s.fuel least has bodies follows long refl then

  -- the test of a loop, which goes on with a turn where it holds
  tested_comes :
      (f : Frame) (n b e jump : ℕ) (s : Progress) (c : Config) (v : ℤ) (z : Bool) (go : End)
      → Follows f s c
      → length s.locals ≡ n
      → jump + 1 ≡ e
      → HasAt run jump (JumpNotZero b ∷ [])
      → int_eq v (pos 0) ≡ z
      → (z ≡ false → Comes run f (at b f.stack c) n e go)
      → Comes run f (at jump (v ∷ f.stack) c) n e (cond (not z) go (went_on s))
  tested_comes f n b e jump s c v true go follows long e_is has zero_is goes =
      subst (λ k. Comes run f (at jump (v ∷ f.stack) c) n k (went_on s)) e_is (
        record {
          there = c;
          follows = follows;
          leads = performed run (at jump (v ∷ f.stack) c) (at (jump + 1) f.stack c) (JumpNotZero b)
              (has_first run jump (JumpNotZero b) [] has)
              (ap (λ z. cond z (on (at (jump + 1) f.stack c)) (on (at b f.stack c))) zero_is);
        },
        long,
      )
  tested_comes f n b e jump s c v false go follows long e_is has zero_is goes =
      comes_led run f (at jump (v ∷ f.stack) c) (at b f.stack c) n e go
      (performed run (at jump (v ∷ f.stack) c) (at b f.stack c) (JumpNotZero b)
      (has_first run jump (JumpNotZero b) [] has)
      (ap (λ z. cond z (on (at (jump + 1) f.stack c)) (on (at b f.stack c))) zero_is)) (goes refl)

  -- turns from the test on
  pub turns_come :
      (f : Frame) (line n b e again test_at jump : ℕ)
      (test : Progress → Result ℤ Fault) (body step : Progress → End)
      → f.least ≤ n
      → HasAt run b (Pay line ∷ [])
      → HasAt run jump (JumpNotZero b ∷ [])
      → jump + 1 ≡ e
      → ((t : Progress) (d : Config) → Follows f t d → length t.locals ≡ n
      → Gives run (at test_at f.stack d) (valued jump f.stack d) (test t))
      → BodyComes f e again n b body
      → ((t : Progress) (d : Config) → Follows (scoped n t.fuel f) t d → length t.locals ≡ n
      → Comes run (scoped n t.fuel f) (at again f.stack d) n test_at (step t))
      → (m : ℕ) (s : Progress) (c : Config)
      → Follows f s c
      → length s.locals ≡ n
      → s.fuel ≤ m
      → Comes run f (at test_at f.stack c) n e (turns m line test body step s)
  turns_come f line n b e again test_at jump test body step least pay_has jump_has e_is tests bodies steps zero s c
      follows long fewer =
      value_comes run f (at test_at f.stack c) (valued jump f.stack c) n e (test s)
      (λ v. cond (holds v) (faulted (no_fuel line)) (went_on s)) (tests s c follows long)
      (λ v. tested_comes f n b e jump s c v (int_eq v (pos 0)) (faulted (no_fuel line)) follows long e_is jump_has refl
      (λ z. failed run (at b f.stack c) (Pay line) (no_fuel line) (has_first run b (Pay line) [] pay_has)
      (ap (λ k. paid_from k line (at b f.stack c) (λ d. next_at d.stack d))
      (follows.fuel ∙ none fewer))))
  turns_come f line n b e again test_at jump test body step least pay_has jump_has e_is tests bodies steps (suc m) s c
      follows long fewer =
      let rest : Progress → End = λ t. on_to (step t) (turns m line test body step) in
      value_comes run f (at test_at f.stack c) (valued jump f.stack c) n e (test s)
      (λ v. cond (holds v) (turn line body rest s) (went_on s)) (tests s c follows long)
      (λ v. tested_comes f n b e jump s c v (int_eq v (pos 0)) (turn line body rest s) follows long e_is jump_has refl
      (λ z. turn_comes f line e again n b body rest s c least pay_has bodies follows long
      (λ t d there less whole.
      let most : t.fuel ≤ f.most = there.most in
      step_then f n t.fuel (at again f.stack d) test_at e (step t) (turns m line test body step) least most
      (steps t d
      (reframed f (scoped n t.fuel f) t d refl refl refl (omega (arith, whole)) (omega arith) there) whole)
      (λ u d2 there2 less2 whole2.
      turns_come f line n b e again test_at jump test body step least pay_has jump_has e_is tests bodies steps m u d2
      there2 whole2 (omega (arith, less, less2, fewer))))))
