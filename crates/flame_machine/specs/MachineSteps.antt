-- What the program's step comes to.
use Rattle.std.specs.Prelude.{◌≡◌, ℕ, ◌+◌, ◌<◌, ◌≤◌, ◌==◌, ◌&&◌, Bool, if◌then◌else◌, ℤ, IsSome}
use Rattle.std.specs.Prelude.{List, length, take, drop, reverse}
use Rattle.flame_spec.specs.declared.outcomes.Widths.{Widths}
use Rattle.flame_code.specs.declared.instrs.Instr.{Instr}
use Rattle.flame_code.specs.declared.instrs.Instr.TheVariants.{Field, FieldAt}
use Rattle.flame_code.specs.Feeds.{Fed, field}
use Rattle.flame_code.specs.Machine.{Config, returned, faulted, StepEnd, on, over, calls}
use Rattle.flame_machine.specs.declared.steps.MachineStep.{MachineStep}
use Rattle.flame_machine.specs.declared.steps.MachineStep.TheVariants as turned
use Rattle.flame_machine.specs.MachineFrames.{Held, Framed, framed, Additions, nothing_added, config}

-- the inputs that a code with these widths sees: a helper sees none, also where the code that calls it has some [own]
abbrev pub seen : Widths → List Fed → List Fed
seen w feeds = take (length w.inputs) feeds

-- a code with these widths adds nothing, since it sees no messages and no agent types [own]
abbrev pub adds_nothing : Widths → Bool
adds_nothing w = (length w.messages == 0) && (length w.agents == 0)

-- the messages and births of a run of a code with these widths: a helper has none, also where the code that calls it has
-- some [own]
unfoldable pub told : Widths → Additions → Additions
told w added = if adds_nothing w then nothing_added else added

-- the program's step at this place came to this turn; at a call the arguments still lie on the stack, and there is room
-- on it [own]
abbrev pub Stepped : ℕ → StepEnd → Framed → Additions → List Fed → MachineStep → Type 0
Stepped place turn new added feeds turned.On = turn ≡ on (config (place + 1) new added feeds)
Stepped place turn new added feeds (turned.To to) = turn ≡ on (config to new added feeds)
Stepped place turn new added feeds (turned.Ended v) = turn ≡ over (returned v (config place new added feeds))
Stepped place turn new added feeds (turned.Faulted fault) = turn ≡ over (faulted fault)
Stepped place turn new added feeds (turned.Calls h n) =
    (turn ≡ calls h (reverse (take n new.stack)) (config (place + 1) (record new { stack = drop n new.stack }) added feeds))
    × (n ≤ length new.stack) × (length new.stack < new.room)
Stepped place turn new added feeds turned.Full = Unit {0}

-- the step came to this turn, which changes neither locals, memory, messages and births nor inputs [own]
abbrev pub StepsBy : (Config → StepEnd) → Held → Held → MachineStep → Type 0
StepsBy turn old new result =
    (place : ℕ) (locals memory : List ℤ) (added : Additions) (feeds : List Fed)
    → Stepped place (turn (config place (framed old locals memory) added feeds))
    (framed new locals memory) added feeds result

-- the numbers that the instruction may read of a current row are there [own]
abbrev pub HasFields : Instr → List Fed → Type 0
HasFields (Field i v) feeds = IsSome (field i v feeds)
HasFields (FieldAt l i c n) feeds = (v : ℕ) → c ≤ v → v < c + n → IsSome (field i v feeds)
HasFields instr feeds = Unit {0}
