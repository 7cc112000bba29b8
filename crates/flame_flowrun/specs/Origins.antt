-- With what nothing begins.
use Rattle.std.specs.Prelude.{[], pos}
use Rattle.flame_flow.specs.SeenFlows.{Start}

-- an empty source, nobody, no number and no fuel [own]
abbrev pub nothing : Start
nothing = record {
  source = record {
    model = record { constants = []; files = []; units = []; messages = []; agents = [] };
    units = [];
  };
  world = record { constants = []; agents = [] };
  iteration = pos 0;
  fuel = 0;
  pieces = 0;
}
