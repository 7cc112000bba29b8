-- How the pieces of functions are kept.
use Rattle.std.specs.Prelude.{ℕ, ◌==◌, ℤ, List, Vec, map, Option, Some, None, option_map, if◌then◌else◌}
use Rattle.std.specs.Global.{Global}
use Rattle.std.specs.List.{AllZip, find, zip}
use Rattle.std.specs.Option.{option_map_or}
use Rattle.std.specs.Vec.{vec_len}
use Rattle.flame_rows.specs.Bags.{merge}
use Rattle.flame_field.specs.KeptGatherings.{bag_of, HasRoom}
use Rattle.flame_events.specs.CoreStates.{Work}
use Rattle.flame_pieces.specs.declared.works.Output.{Output}
use Rattle.flame_pieces.specs.declared.works.Work as run

-- what a piece keeps for an output, until it is handed in [own]
abbrev pub part_of : Output → Option (List (List ℤ))
part_of output = if output.handed then None else Some (bag_of output.rows)

-- the piece that it is [own]
abbrev pub work_of : run.Work → Work
work_of work = record {
  agents = work.agents;
  ran = work.ran;
  parts = map part_of work.outputs.items;
  fault = work.fault;
}

-- the number of the message of each of these outputs [own]
abbrev pub messages_in : List Output → List ℕ
messages_in outputs = map (λ output. output.message) outputs

-- the number of the message of each of its outputs [own]
abbrev pub outputs_in : run.Work → List ℕ
outputs_in work = messages_in work.outputs.items

-- how many messages of this type it keeps [own]
abbrev pub kept_count : run.Work → ℕ → ℕ
kept_count work message =
    option_map_or (λ output. vec_len output.rows.rows) (find (λ output. output.message == message) work.outputs.items) 0

-- ---- messages that join

-- these messages join the parts, a list for each, as far as they are not handed in [own]
abbrev pub with_lists : List (List (List ℤ)) → List (Option (List (List ℤ))) → List (Option (List (List ℤ)))
with_lists more parts = map (λ (rows, part). option_map (λ own. merge own rows) part) (zip more parts)

-- each output has room for its list of messages [own]
abbrev pub OutputsHaveRoom : List (Vec (List ℤ) Global) → List Output → Type 0
OutputsHaveRoom parts outputs = AllZip (λ rows output. HasRoom (vec_len rows) output.rows) parts outputs

-- so has each of the piece [own]
abbrev pub WorkHasRoom : List (Vec (List ℤ) Global) → run.Work → Type 0
WorkHasRoom parts work = OutputsHaveRoom parts work.outputs.items
