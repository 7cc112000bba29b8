use Rattle.std.proofs.Common.{◌≡◌, take, drop, map, codes}
use Rattle.flame_spec.specs.Lists.{each_from}
use Rattle.flame_ops.specs.Ascii.{capitals}
use Rattle.flame_spec.specs.Paths.{at_key, at_number}
use Rattle.flame_spec.specs.MessageFaults.{apart_faults, constant_faults}
use Rattle.flame_names.specs.PlacePaths.{text_of}
use Rattle.flame_names.proofs.messages.add_constants.Given as goal

abbrev pub invariant-loop-i : goal.invariant-loop-i
invariant-loop-i l = record {
  earlier : l.earlier ≡ take l.i l.constants;
  shouted : l.shouted ≡ map capitals (take l.i l.constants);
  rest :
      constant_faults (text_of l.place) l.constants
      ≡ each_from
      (λ i name. apart_faults (take i l.constants) (at_key (at_number (text_of l.place) i) (codes "name")) name)
      l.i
      (drop l.i l.constants);
}
