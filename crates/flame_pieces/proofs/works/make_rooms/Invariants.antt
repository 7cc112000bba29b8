use Rattle.std.proofs.Common.{◌≡◌, map, take}
use Rattle.std.specs.List.{AllZip}
use Rattle.flame_pieces.specs.KeptWorks.{part_of, messages_in}
use Rattle.flame_pieces.proofs.Rooms.{Fits}
use Rattle.flame_pieces.proofs.works.make_rooms.Given as goal

abbrev pub invariant-loop-i : goal.invariant-loop-i
invariant-loop-i l = record {
  parts : map part_of l.outputs ≡ map part_of l.initial.outputs;
  messages : messages_in l.outputs ≡ messages_in l.initial.outputs;
  rooms : AllZip Fits (take l.i l.parts) (take l.i l.outputs);
}
