use Rattle.std.proofs.Common.{◌≡◌, map}
use Rattle.flame_events.specs.CoreStates.{fault_in}
use Rattle.flame_pieces.specs.KeptWorks.{work_of}
use Rattle.flame_pieces.proofs.statuses.fault_among.Given as goal

abbrev pub invariant-loop-work : goal.invariant-loop-work
invariant-loop-work l = l.fault ≡ fault_in (map work_of l.yielded)
