use Rattle.std.proofs.Common.{◌≡◌, length}
use Rattle.flame_layerrun.specs.LayerWork.{AreLonger, AreOwn, weigh_of_type}
use Rattle.flame_layerrun.proofs.working.hand_in_all.Given as goal

abbrev pub invariant-loop-part : goal.invariant-loop-part
invariant-loop-part g l = record {
  longer : AreLonger (weigh_of_type l.yielded) l.floor.messages.now l.initial.lanes.items l.lanes.items;
  own : AreOwn l.floor.boards.now l.lanes.items;
  long : length l.floor.messages.now ≡ length l.lanes.items;
}
