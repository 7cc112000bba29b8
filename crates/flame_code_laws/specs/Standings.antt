-- When the code of a statement stands where the statement does, and how it comes to what the statement comes to.
use Rattle.std.specs.Prelude.{◌≡◌, ℕ, zero, suc, ◌≤◌, ℤ, List, length, nat_lt, true, Some, slice_get}
use Rattle.flame_body.specs.BodyFits.{Around, is_inside}
use Rattle.flame_code.specs.declared.instrs.Instr.TheVariants.{Call}
use Rattle.flame_code.specs.Feeds.{Fed}
use Rattle.flame_code.specs.InputRows.{rows_of, HaveWidths}
use Rattle.flame_code.specs.Machine.{Config, returned as given_back, faulted as fell}
use Rattle.flame_code.specs.Meanings.{Runs, entry}
use Rattle.flame_code.specs.Routines.{Routine}
use Rattle.flame_meaning.specs.Scenes.{Progress, Gave, gave, failed}
use Rattle.flame_meaning.specs.Ends.{End, went_on, broke, continued, returned, faulted, no_fuel}
use Rattle.flame_number_laws.specs.NumberedScenes.{NumberedScene, local_at}
use Rattle.flame_code_laws.specs.CodeRuns.{Running, at, Ends, Leads}
use Rattle.flame_code_laws.specs.Likeness.{Current}

-- ---- helpers

-- the helper's code, with these arguments and this fuel, ends as the answer says, and leaves no more fuel than there
-- was [C, 6.5.2.2; fuel: own]
abbrev pub AnswerRuns : Running → Routine → List ℤ → ℕ → Gave → Type 0
AnswerRuns run helper values fuel (gave v left) =
    (d : Config) × (d.fuel ≡ left) × (left ≤ fuel) × Runs run.given run.helpers helper (entry values fuel) (given_back v
    d)
AnswerRuns run helper values fuel (failed fault) =
    Runs run.given run.helpers helper (entry values fuel) (fell fault)

-- a call of the helper of this number on this line, with these arguments and this fuel, ends as the answer says:
-- without fuel it is a fault, and else it takes one unit [C, 6.5.2.2; fuel: own]
abbrev pub Answered : Running → ℕ → ℕ → List ℤ → ℕ → Gave → Type 0
Answered run line h values zero answer = answer ≡ failed (no_fuel line)
Answered run line h values (suc fuel) answer =
    (helper : Routine) × (slice_get run.helpers h ≡ Some helper) × AnswerRuns run helper values fuel answer

-- each call in the code ends as the body's answers say [C, 6.5.2.2]
pub record Helps (run : Running) (before : NumberedScene) : Type 0 where
  pub answered : (p line h n : ℕ) → slice_get run.routine.instrs p ≡ Some (Call line h n)
      → (values : List ℤ) → length values ≡ n → (fuel : ℕ)
      → Answered run line h values fuel (before.answers line h values fuel)

-- ---- where statements stand

-- what stays as it is while the statements of a scope run: what they have round them and before them, the inputs as
-- they were, how many locals there are at least and how much fuel at most, what is on the stack, and the places where
-- `break` and `continue` go [own]
pub record Frame : Type 0 where
  pub around : Around
  pub before : NumberedScene
  pub feeds : List Fed
  pub least : ℕ
  pub most : ℕ
  pub stack : List ℤ
  pub leave : ℕ
  pub again : ℕ

-- what the statements have before them is what is given to the run, with rows as wide as the code sees; each open loop
-- stands at a row; and calls of helpers end as they have to [own]
pub record IsSound (run : Running) (f : Frame) : Type 0 where
  pub constants : run.given.constants ≡ f.before.constants
  pub iteration : run.given.iteration ≡ f.before.iteration
  pub widths : f.around.widths ≡ run.routine.widths
  pub same_widths : f.before.widths ≡ run.routine.widths
  pub rows : HaveWidths run.routine.widths.inputs f.before.readings
  pub current : (input : ℕ) → is_inside input f.around ≡ true → Current f.around f.before input f.feeds
  pub helps : Helps run f.before

-- the configuration holds the progress; the locals behind those that there are may be any; the rows of the inputs are
-- those that the statements have before them, and where loops are open over them they stand as they did; there are at
-- least so many locals as the scope began with, and at most so much fuel [own]
pub record Follows (f : Frame) (s : Progress) (c : Config) : Type 0 where
  pub memory : c.memory ≡ s.memory
  pub locals : (k : ℕ) → nat_lt k (length s.locals) ≡ true → c.locals k ≡ local_at k s.locals
  pub sent : c.sent ≡ s.sent
  pub born : c.born ≡ s.born
  pub fuel : c.fuel ≡ s.fuel
  pub readings : rows_of c.feeds ≡ f.before.readings
  pub kept : (input : ℕ) → is_inside input f.around ≡ true → slice_get c.feeds input ≡ slice_get f.feeds input
  pub least : f.least ≤ length s.locals
  pub most : s.fuel ≤ f.most

-- ---- where they come to

-- from the one configuration the run comes to this place, with a configuration that holds the progress [own]
pub record Reached (run : Running) (f : Frame) (c : Config) (s : Progress) (q : ℕ) : Type 0 where
  pub there : Config
  pub follows : Follows f s there
  pub leads : Leads run c (at q f.stack there)

-- the run ends with this value, and leaves what the progress has [own]
pub record Returned (run : Running) (c : Config) (v : ℤ) (s : Progress) : Type 0 where
  pub there : Config
  pub memory : there.memory ≡ s.memory
  pub sent : there.sent ≡ s.sent
  pub born : there.born ≡ s.born
  pub fuel : there.fuel ≡ s.fuel
  pub ends : Ends run c (given_back v there)

-- the run comes to what the statement comes to: it goes on at this place with so many locals, or where `break` or
-- `continue` goes, or it returns, or faults [C, 6.8; own]
abbrev pub Comes : Running → Frame → Config → ℕ → ℕ → End → Type 0
Comes run f c count q (went_on s) = Reached run f c s q × (length s.locals ≡ count)
Comes run f c count q (broke s) = Reached run f c s f.leave
Comes run f c count q (continued s) = Reached run f c s f.again
Comes run f c count q (returned v s) = Returned run c v s
Comes run f c count q (faulted fault) = Ends run c (fell fault)
