-- What agents leave that are parted: the parts together leave what all leave.
use Rattle.std.specs.Prelude.{◌≡◌, ℕ, ◌+◌, ℤ, List, Option, Some, None, if◌then◌else◌, length}
use Rattle.std.specs.Ordering.{is_gt}
use Rattle.flame_rows.specs.Order.{row_order}
use Rattle.flame_rows.specs.Bags.{ascending, merge}
use Rattle.flame_spec.specs.declared.outcomes.Outcome.{Outcome}
use Rattle.flame_world.specs.declared.faults.SimFault.{SimFault}
use Rattle.flame_leaving.specs.declared.leavings.Leaving.{Leaving}
use Rattle.flame_leaving.specs.Leavings.{AreLeft}
use Rattle.flame_world.specs.AgentRuns.{survivors, sent_from, born_from, least_fault, messages_of, births_of}

-- these two parts together are all, each row as often and in whatever order [own]
abbrev pub AreTogether : (ones twos all : List (List ℤ)) → Type 0
AreTogether ones twos all = merge ones twos ≡ ascending all

-- ---- how many

-- as many agents as the parts have [own]
abbrev pub AgentsAddUp : Type 0
AgentsAddUp =
    (ones twos all : List (List ℤ))
    → AreTogether ones twos all
    → length all ≡ length ones + length twos

-- ---- survivors, messages, births

-- the bag of the messages of this type that these agents add [libmboard]
abbrev pub message_bag : (List ℤ → Outcome) → ℕ → List (List ℤ) → List (List ℤ)
message_bag run message agents = ascending (messages_of (sent_from run agents) message)

-- the bag of the agents of this type that they add [FLAME User Manual]
abbrev pub birth_bag : (List ℤ → Outcome) → ℕ → List (List ℤ) → List (List ℤ)
birth_bag run agent agents = ascending (births_of (born_from run agents) agent)

-- those of all that live on are those of both parts [own]
abbrev pub SurvivorsMerge : Type 0
SurvivorsMerge =
    (run : List ℤ → Outcome) (ones twos all : List (List ℤ))
    → AreTogether ones twos all
    → survivors run all ≡ merge (survivors run ones) (survivors run twos)

-- the messages of a type of all are those of both parts [own]
abbrev pub MessagesMerge : Type 0
MessagesMerge =
    (run : List ℤ → Outcome) (message : ℕ) (ones twos all : List (List ℤ))
    → AreTogether ones twos all
    → message_bag run message all ≡ merge (message_bag run message ones) (message_bag run message twos)

-- the births of a type of all are those of both parts [own]
abbrev pub BirthsMerge : Type 0
BirthsMerge =
    (run : List ℤ → Outcome) (agent : ℕ) (ones twos all : List (List ℤ))
    → AreTogether ones twos all
    → birth_bag run agent all ≡ merge (birth_bag run agent ones) (birth_bag run agent twos)

-- ---- faults

-- the fault of the agent that goes before the other in content order; of two with one memory, the one [own]
abbrev pub lesser : SimFault → SimFault → SimFault
lesser one two = if is_gt (row_order one.memory two.memory) then two else one

-- the lesser of both, or the one that there is [own]
abbrev pub least_of : Option SimFault → Option SimFault → Option SimFault
least_of None two = two
least_of (Some one) None = Some one
least_of (Some one) (Some two) = Some (lesser one two)

-- the fault of the least agent of all that faults is the lesser of those of the parts [own]
abbrev pub FaultIsTheLeast : Type 0
FaultIsTheLeast =
    (iteration : ℤ) (function : ℕ) (run : List ℤ → Outcome) (ones twos all : List (List ℤ))
    → AreTogether ones twos all
    → least_fault iteration function run (ascending all)
    ≡ least_of (least_fault iteration function run (ascending ones)) (least_fault iteration function run (ascending twos))

-- ---- all of it, as one value

-- the one leave, and the other, what the whole leave together: as many ran, survivors, messages and births of each type are
-- those of both, merged, and the fault is the lesser [own]
pub record AddUp (one two whole : Leaving) : Type 0 where
  pub ran : whole.ran ≡ one.ran + two.ran
  pub survivors : ascending whole.survivors.items ≡ merge (ascending one.survivors.items) (ascending two.survivors.items)
  pub sent :
      (message : ℕ)
      → ascending (messages_of whole.sent.items message)
      ≡ merge (ascending (messages_of one.sent.items message)) (ascending (messages_of two.sent.items message))
  pub born :
      (agent : ℕ)
      → ascending (births_of whole.born.items agent)
      ≡ merge (ascending (births_of one.born.items agent)) (ascending (births_of two.born.items agent))
  pub fault : whole.fault ≡ least_of one.fault two.fault

-- what all leave is what the parts leave, together [own]
abbrev pub LeavingsAddUp : Type 0
LeavingsAddUp =
    (iteration : ℤ) (function : ℕ) (run : List ℤ → Outcome) (ones twos all : List (List ℤ)) (one two whole : Leaving)
    → AreTogether ones twos all
    → AreLeft iteration function run ones one
    → AreLeft iteration function run twos two
    → AreLeft iteration function run all whole
    → AddUp one two whole
