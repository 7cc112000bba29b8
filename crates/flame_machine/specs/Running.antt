-- How the program's runs begin and end.
use Rattle.std.specs.Prelude.{◌≡◌, ℕ, ◌-◌, ◌≤◌, ◌==◌, ℤ, List, [], length, drop, true}
use Rattle.std.specs.List.{list_all}
use Rattle.flame_code.specs.declared.instrs.Instr.{Instr}
use Rattle.flame_code.specs.Feeds.{Fed}
use Rattle.flame_code.specs.HelperCodes.{HelperCodes, calls_fit}
use Rattle.flame_code.specs.Routines.{Routine, locals_of}
use Rattle.flame_code.specs.Machine.{Given, Config, End, returned, faulted}
use Rattle.flame_code.specs.Meanings.{Runs, entry}
use Rattle.flame_code.specs.OnPath.{IsOnPath}
use Rattle.flame_machine.specs.declared.endings.Called.{Called}
use Rattle.flame_machine.specs.declared.endings.Called.TheVariants as called
use Rattle.flame_machine.specs.MachineFrames.{Framed, Additions, config}
use Rattle.flame_machine.specs.MachineSteps.{seen}

-- every helper sees as many constants as there are [own]
abbrev pub SeeConstants : Given → HelperCodes → Type 0
SeeConstants g helpers = list_all (λ helper. helper.widths.constants == length g.constants) helpers.routines ≡ true

-- the code's calls name helpers, and it and every helper see the constants [own]
pub record Suits (helpers : HelperCodes) (g : Given) (r : Routine) : Type 0 where
  pub calls : calls_fit helpers.parameters r ≡ true
  pub constants : length g.constants ≡ r.widths.constants
  pub alike : SeeConstants g helpers

-- the place in the code from which on there are as many instructions as these [own]
abbrev pub place_of : Routine → List Instr → ℕ
place_of r rest = length r.instrs - length rest

-- these are the instructions of the code from a place on [own]
abbrev pub IsRest : Routine → List Instr → Type 0
IsRest r rest = rest ≡ drop (place_of r rest) r.instrs

-- the run stands at a place where a path leads, and has all locals, room for its stack, and its inputs [own]
pub record Ready (r : Routine) (place : ℕ) (frame : Framed) (added : Additions) (feeds : List Fed) : Type 0 where
  pub stands : IsOnPath r (config place frame added (seen r.widths feeds))
  pub locals : locals_of r.instrs ≤ length frame.locals
  pub room : length r.instrs ≤ frame.room
  pub inputs : length r.widths.inputs ≤ length feeds

-- where a run begins with this room for its stack, with these locals, this memory and this fuel [own]
abbrev pub unused : ℕ → List ℤ → List ℤ → ℕ → Framed
unused room locals memory fuel = record { stack = []; room = room; locals = locals; memory = memory; fuel = fuel }

-- how a run ends at this place that came to this and left so the memory, what it added and the inputs [own]
abbrev pub end_of : ℕ → Framed → Called → List ℤ → Additions → List Fed → End
end_of place frame (called.Returned v left) memory added feeds =
    returned v (config place (record frame { memory = memory; fuel = left }) added feeds)
end_of place frame (called.Faulted fault) memory added feeds = faulted fault

-- the code's run from here ends as one that came to this and left so the memory, what it added and the inputs [own]
pub record Finishes (g : Given) (helpers : List Routine) (r : Routine) (from : Config) (called : Called)
    (memory : List ℤ) (added : Additions) (feeds : List Fed) : Type 0 where
  pub place : ℕ
  pub frame : Framed
  pub runs : Runs g helpers r from (end_of place frame called memory added feeds)

-- it leaves no more fuel than this [own]
abbrev pub Fell : Called → ℕ → Type 0
Fell (called.Returned v left) fuel = left ≤ fuel
Fell (called.Faulted fault) fuel = Unit {0}

-- the helper's run with these arguments and this fuel returns the value and leaves so much fuel [own]
pub record Returns (g : Given) (helpers : List Routine) (helper : Routine) (args : List ℤ) (paid : ℕ) (v : ℤ) (left : ℕ)
    : Type 0 where
  pub end : Config
  pub fuel : end.fuel ≡ left
  pub runs : Runs g helpers helper (entry args paid) (returned v end)

-- the helper's run with these arguments and this fuel ends so [own]
abbrev pub CallEnds : Given → List Routine → Routine → List ℤ → ℕ → Called → Type 0
CallEnds g helpers helper args fuel (called.Returned v left) = Returns g helpers helper args fuel v left
CallEnds g helpers helper args fuel (called.Faulted fault) = Runs g helpers helper (entry args fuel) (faulted fault)
