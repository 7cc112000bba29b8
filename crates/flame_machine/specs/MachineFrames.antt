-- What the program holds of a run, and where the run stands by it.
use Rattle.std.specs.Prelude.{ℕ, ℤ, List, [], ◌∷◌, length, take, drop, reverse}
use Rattle.flame_spec.specs.declared.outcomes.Sent.{Sent}
use Rattle.flame_spec.specs.declared.outcomes.Born.{Born}
use Rattle.flame_code.specs.Feeds.{Fed}
use Rattle.flame_code.specs.Machine.{first_locals, Config}
use Rattle.flame_machine.specs.declared.frames.Frame.{Frame}

-- the stack with the top first, how many values there is room for on it, and the fuel that is left [own]
pub record Held : Type 0 where
  pub stack : List ℤ
  pub room : ℕ
  pub fuel : ℕ

-- what a frame holds over these cells: its top stands apart, and the values below it in the cells from 1 on [own]
abbrev pub held : Frame → List ℤ → Held
held frame cells = record {
  stack = take frame.height (frame.top ∷ reverse (take frame.height cells));
  room = length cells;
  fuel = frame.fuel;
}

-- the same with the value on the stack [own]
abbrev pub with_value : ℤ → Held → Held
with_value v h = record h { stack = v ∷ h.stack }

-- the same without the uppermost values, so many [own]
abbrev pub without : ℕ → Held → Held
without n h = record h { stack = drop n h.stack }

-- what a run holds with its locals and its memory [own]
pub record Framed : Type 0 where
  pub stack : List ℤ
  pub room : ℕ
  pub locals : List ℤ
  pub memory : List ℤ
  pub fuel : ℕ

-- what a run holds whose locals and memory are these [own]
abbrev pub framed : Held → List ℤ → List ℤ → Framed
framed h locals memory =
    record { stack = h.stack; room = h.room; locals = locals; memory = memory; fuel = h.fuel }

-- the messages and births that were added, in order [FLAME User Manual]
pub record Additions : Type 0 where
  pub sent : List Sent
  pub born : List Born

-- none [own]
abbrev pub nothing_added : Additions
nothing_added = record { sent = []; born = [] }

-- where a run stands that holds this, at this place and with these inputs [own]
abbrev pub config : ℕ → Framed → Additions → List Fed → Config
config place frame added feeds = record {
  place = place;
  stack = frame.stack;
  locals = first_locals frame.locals;
  memory = frame.memory;
  sent = added.sent;
  born = added.born;
  feeds = feeds;
  fuel = frame.fuel;
}
