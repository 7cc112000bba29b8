use Rattle.std.proofs.Common.{◌≡◌, take, drop, map, unwrap_or, []}
use Rattle.std.specs.Prelude.{slice_get}
use Rattle.flame_spec.specs.Lists.{each_from}
use Rattle.flame_nest.specs.FlatModels.{joined_types, joined_messages}
use Rattle.flame_nest.specs.NestFaults.{given_by, types_given, messages_given, file_faults, nest_faults}
use Rattle.flame_nest.specs.GivenTables.{given_in}
use Rattle.flame_nest.proofs.walking.check_files.Given as goal

abbrev pub invariant-loop-i : goal.invariant-loop-i
invariant-loop-i l = record {
  types : given_in l.walk.types ≡ given_by (types_given (take l.i l.wides));
  messages : given_in l.walk.messages ≡ given_by (messages_given (take l.i l.wides));
  kinds : l.walk.kinds ≡ joined_types (take l.i l.wides);
  kept : map (λ message. message.now) l.walk.kept.items ≡ joined_messages (take l.i l.wides);
  rest :
      nest_faults l.files l.wides
      ≡ each_from
      (λ i wide. file_faults (unwrap_or (slice_get l.files i) []) (take i l.wides) wide)
      l.i
      (drop l.i l.wides);
}
