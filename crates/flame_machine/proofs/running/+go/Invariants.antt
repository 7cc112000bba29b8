use Rattle.std.proofs.Common.{◌≡◌, ◌+◌, ◌*◌, ◌≤◌, true, length, drop}
use Rattle.flame_code.specs.InputRows.{rows_of}
use Rattle.flame_code.specs.Machine.{End}
use Rattle.flame_code.specs.Meanings.{Runs}
use Rattle.flame_code.proofs.Safety.{left}
use Rattle.flame_machine.specs.MachineFrames.{held, framed, config}
use Rattle.flame_machine.specs.Running.{place_of, IsRest, Ready, unused}
use Rattle.flame_machine.specs.MachineSteps.{seen, told, adds_nothing}
use Rattle.flame_machine.proofs.running.+go.Given as goal

abbrev pub invariant-go-steps : goal.invariant-go-steps
invariant-go-steps g l = record {
  rests : IsRest l.code l.rest;
  fits : l.frame.height ≤ length l.cells;
  ready : Ready l.code (place_of l.code l.rest) (framed (held l.frame l.cells) l.locals l.memory) (told l.code.widths l.added) (g.F.Feed.feeds l.feed);
  less : l.frame.fuel ≤ l.fn.fuel;
  quiet : adds_nothing l.code.widths ≡ true → l.added ≡ l.fn.added;
  rows : rows_of (g.F.Feed.feeds l.feed) ≡ rows_of (g.F.Feed.feeds l.fn.feed);
  others : drop (length l.code.widths.inputs) (g.F.Feed.feeds l.feed) ≡ drop (length l.code.widths.inputs) (g.F.Feed.feeds l.fn.feed);
  comes : (e : End)
      → Runs l.given l.helpers.routines l.code
      (config (place_of l.code l.rest) (framed (held l.frame l.cells) l.locals l.memory) (told l.code.widths l.added) (seen l.code.widths (g.F.Feed.feeds l.feed))) e
      → Runs l.given l.helpers.routines l.code
      (config 0 (unused (length l.fn.cells) l.fn.locals l.fn.memory l.fn.fuel) (told l.code.widths l.fn.added) (seen l.code.widths (g.F.Feed.feeds l.fn.feed))) e;
}

abbrev pub decreases-go-steps : goal.decreases-go-steps
decreases-go-steps g l = left l.code (place_of l.code l.rest) l.frame.fuel

abbrev pub decreases-go : goal.decreases-go
decreases-go g l = 4 * l.fuel

abbrev pub decreases-opened : goal.decreases-opened
decreases-opened g l = 4 * l.fuel + 1

abbrev pub decreases-apart : goal.decreases-apart
decreases-apart g l = 4 * l.fuel + 2

abbrev pub decreases-call : goal.decreases-call
decreases-call g l = 4 * l.fuel + 3
