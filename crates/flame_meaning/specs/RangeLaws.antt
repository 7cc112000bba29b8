-- All numbers are within int. [own]
use Rattle.std.specs.Prelude.{ℕ, ℤ, List, [], ◌∷◌, Option, Some, None, IsTrue}
use Rattle.flame_ops.specs.Integers.{is_int}
use Rattle.flame_spec.specs.declared.outcomes.Source.{Source}
use Rattle.flame_spec.specs.declared.outcomes.Outcome.{Outcome}
use Rattle.flame_spec.specs.declared.outcomes.Outcome.TheVariants.{Ended, Faulted}
use Rattle.flame_spec.specs.Definitions.{Definition, definitions}
use Rattle.flame_spec.specs.Trees.{Expression, number, name, field, get, at, field_at, signed, chain, all_of, any_of}
use Rattle.flame_spec.specs.Trees.{Expressions, no_parts, part, Links, no_links, link, Stored, plain, called}
use Rattle.flame_spec.specs.Trees.{Assigned, Statement, empty, declare, assign, call, block, branch, while, for}
use Rattle.flame_spec.specs.Trees.{do_while, loop_over, return, break, continue}
use Rattle.flame_spec.specs.Trees.{Statements, no_more, also, Arms, no_arms, arm}
use Rattle.flame_meaning.specs.Outcomes.{outcome_over}

-- int holds the number
abbrev pub IsInt : ℤ → Type 0
IsInt v = IsTrue (is_int v)

-- what holds of each of these
abbrev pub Each : {X : Type 0} → (X → Type 0) → List X → Type 0
Each Holds [] = Unit {0}
Each Holds (x ∷ xs) = Holds x × Each Holds xs

-- each number of a row
abbrev pub AreInts : List ℤ → Type 0
AreInts row = Each IsInt row

-- ---- the numbers that are written in a body

abbrev mutual
  -- each number that the expression writes
  pub WritesInts : Expression → Type 0
  WritesInts (number n) = IsInt n
  WritesInts (name line word) = Unit {0}
  WritesInts (field line word variable) = Unit {0}
  WritesInts (get line word) = Unit {0}
  WritesInts (at line word index_line index) = WritesInts index
  WritesInts (field_at line word variable index_line index) = WritesInts index
  WritesInts (signed signs e) = WritesInts e
  WritesInts (chain e links) = WritesInts e × LinksWriteInts links
  WritesInts (all_of parts) = PartsWriteInts parts
  WritesInts (any_of parts) = PartsWriteInts parts

  -- each that these expressions write
  pub PartsWriteInts : Expressions → Type 0
  PartsWriteInts no_parts = Unit {0}
  PartsWriteInts (part e parts) = WritesInts e × PartsWriteInts parts

  -- each that these operands write
  pub LinksWriteInts : Links → Type 0
  LinksWriteInts no_links = Unit {0}
  LinksWriteInts (link op line e links) = WritesInts e × LinksWriteInts links

-- each that what is stored writes
abbrev pub StoredWritesInts : Stored → Type 0
StoredWritesInts (plain e) = WritesInts e
StoredWritesInts (called line word arguments) = PartsWriteInts arguments

-- what holds of this, if there is one
abbrev pub IfAny : {X : Type 0} → (X → Type 0) → Option X → Type 0
IfAny Holds None = Unit {0}
IfAny Holds (Some x) = Holds x

-- each that an assignment writes
abbrev pub AssignedWritesInts : Assigned → Type 0
AssignedWritesInts a = IfAny (λ subscript. WritesInts subscript.index) a.subscript × StoredWritesInts a.value

abbrev mutual
  -- each that the statement writes
  pub StatementWritesInts : Statement → Type 0
  StatementWritesInts empty = Unit {0}
  StatementWritesInts (declare items) = Each (λ item. IfAny StoredWritesInts item.value) items
  StatementWritesInts (assign a) = AssignedWritesInts a
  StatementWritesInts (call line word arguments) = PartsWriteInts arguments
  StatementWritesInts (block body) = BodyWritesInts body
  StatementWritesInts (branch tests otherwise) = ArmsWriteInts tests × BodyWritesInts otherwise
  StatementWritesInts (while line test body) = WritesInts test × BodyWritesInts body
  StatementWritesInts (for line first test step body) =
      BodyWritesInts first × IfAny WritesInts test × IfAny AssignedWritesInts step × BodyWritesInts body
  StatementWritesInts (do_while line body test) = BodyWritesInts body × WritesInts test
  StatementWritesInts (loop_over line word body end_line end_word) = BodyWritesInts body
  StatementWritesInts (return e) = WritesInts e
  StatementWritesInts (break line) = Unit {0}
  StatementWritesInts (continue line) = Unit {0}

  -- each that these statements write
  pub BodyWritesInts : Statements → Type 0
  BodyWritesInts no_more = Unit {0}
  BodyWritesInts (also x xs) = StatementWritesInts x × BodyWritesInts xs

  -- each that these tests and their bodies write
  pub ArmsWriteInts : Arms → Type 0
  ArmsWriteInts no_arms = Unit {0}
  ArmsWriteInts (arm test body more) = WritesInts test × BodyWritesInts body × ArmsWriteInts more

-- each that these C functions write
abbrev pub AllWriteInts : List Definition → Type 0
AllWriteInts ds = Each (λ d. BodyWritesInts d.body) ds

-- ---- outcomes

-- the numbers of the memory, the messages and the births, where the function ends
abbrev pub OutcomeIsInts : Outcome → Type 0
OutcomeIsInts (Ended effect) =
    IfAny AreInts effect.memory
    × Each (λ sent. AreInts sent.row) effect.sent
    × Each (λ born. AreInts born.row) effect.born
OutcomeIsInts (Faulted fault) = Unit {0}

-- where the numbers that files write, the memory, the readings, the constants and the iteration are within int, so are
-- the memory, the messages and the births that a function leaves
abbrev pub OutcomesAreInts : Type 0
OutcomesAreInts =
    (source : Source) (function : ℕ) (memory : List ℤ) (readings : List (List (List ℤ))) (constants : List ℤ)
    (iteration : ℤ) (fuel : ℕ)
    → AllWriteInts (definitions source.units)
    → AreInts memory
    → Each (λ rows. Each AreInts rows) readings
    → AreInts constants
    → IsInt iteration
    → OutcomeIsInts (outcome_over source function memory readings constants iteration fuel)
