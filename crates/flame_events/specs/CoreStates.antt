-- The core of an iteration: how far each function is, and where agents, births and messages are.
use Rattle.std.specs.Prelude.{ℕ, nat_lt, ◌==◌, ℤ, List, [], map, length, slice_get, slice_index_or}
use Rattle.std.specs.Prelude.{Bool, true, false, Option, Some, None}
use Rattle.std.specs.List.{filter_map, position_or_len}
use Rattle.flame_spec.specs.declared.models.Model.{Model}
use Rattle.flame_spec.specs.Functions.{functions}
use Rattle.flame_spec.specs.Lists.{first}
use Rattle.flame_world.specs.declared.faults.SimFault.{SimFault}
use Rattle.flame_world.specs.Fields.{Field, opening}

-- ---- how far a function is

-- a piece of an open function: its agents in content order, how many of them ran, for each output of the function the
-- bag of messages of those that ended, until it is handed in, and the least fault of those that faulted. The pieces of
-- a function are its works, and `piece` is the number of one of them [own]
pub record Work : Type 0 where
  pub agents : List (List ℤ)
  pub ran : ℕ
  pub parts : List (Option (List (List ℤ)))
  pub fault : Option SimFault

-- a function waits, is open, in pieces, or is done: shut where no agent faulted, else faulted, with its least fault
-- [own]
pub data Status : Type 0 where
  Waiting : Status
  Open : List Work → Status
  Shut : Status
  Faulted : SimFault → Status

-- it has not begun [own]
abbrev pub is_waiting : Status → Bool
is_waiting Waiting = true
is_waiting (Open works) = false
is_waiting Shut = false
is_waiting (Faulted fault) = false

-- it is done without a fault [own]
abbrev pub is_shut : Status → Bool
is_shut Waiting = false
is_shut (Open works) = false
is_shut Shut = true
is_shut (Faulted fault) = false

-- its fault, where it is faulted [own]
abbrev pub fault_of : Status → Option SimFault
fault_of Waiting = None
fault_of (Open works) = None
fault_of Shut = None
fault_of (Faulted fault) = Some fault

-- its pieces, while it is open [own]
abbrev pub works_of : Status → List Work
works_of Waiting = []
works_of (Open works) = works
works_of Shut = []
works_of (Faulted fault) = []

-- ---- a piece

-- an agent of it has not run [own]
abbrev pub has_left : Work → Bool
has_left work = nat_lt work.ran (length work.agents)

-- of its parts, which stand in the order of these outputs, the messages for this output: None where they are handed in,
-- or where it is none of these [own]
abbrev pub part_in : List ℕ → List (Option (List (List ℤ))) → ℕ → Option (List (List ℤ))
part_in outputs parts message = slice_index_or parts (position_or_len (λ output. output == message) outputs) None

-- the least fault of these pieces, which stand in content order [own]
abbrev pub fault_in : List Work → Option SimFault
fault_in works = first (filter_map (λ work. work.fault) works)

-- ---- the core

-- how far each function is, in document order; pools, births and boards; and for each message whether its board is
-- frozen: else it gathers [own]
pub record Core : Type 0 where
  pub statuses : List Status
  pub field : Field
  pub frozen : List Bool

-- how far the function of this number is [own]
abbrev pub status_of : Core → ℕ → Status
status_of core function = slice_index_or core.statuses function Waiting

-- the piece of this number of a function that is open [own]
abbrev pub work_of : Core → ℕ → ℕ → Option Work
work_of core function piece = slice_get (works_of (status_of core function)) piece

-- the board of this message is frozen [own]
abbrev pub is_frozen : Core → ℕ → Bool
is_frozen core message = slice_index_or core.frozen message false

-- at first all functions wait, all boards gather, and all agents rest in their start states [own]
abbrev pub opening_core : Model → List (List (List ℤ)) → Core
opening_core model agents = record {
  statuses = map (λ place. Waiting) (functions model);
  field = opening model agents;
  frozen = map (λ message. false) model.messages;
}
