-- Where agents, births and messages are while an iteration goes on.
use Rattle.std.specs.Prelude.{[], map}
use Rattle.flame_world.specs.AgentRuns.{births_of}
use Rattle.flame_world.specs.Fields.{Field, joined}
use Rattle.flame_field.specs.declared.fields.Field as run
use Rattle.flame_field.specs.KeptBoards.{board_bag}
use Rattle.flame_field.specs.KeptPools.{pools_of}

-- the field that they are: births are kept as they came, and parted by type at the end [own]
abbrev pub field_of : run.Field → Field
field_of field = record {
  pools = pools_of field.pools;
  born = joined (births_of field.born.items) (map (λ pools. []) field.pools.items);
  boards = map board_bag field.boards.items;
}
