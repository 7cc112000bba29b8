-- What a call statement does, as far as its meaning asks.
use Rattle.std.specs.Prelude.{ℕ, ◌≤◌, List}
use Rattle.flame_spec.specs.declared.models.AgentType.{AgentType}
use Rattle.flame_spec.specs.declared.models.MessageType.{MessageType}
use Rattle.flame_spec.specs.CallFaults.{Deed, sets, sends, bears, calls}
use Rattle.flame_spec.specs.Definitions.{Definition}
use Rattle.flame_sense.specs.declared.deed.Deed as code
use Rattle.flame_sense.specs.declared.deed.Deed.TheVariants.{Sets, Sends, Bears, Calls}
use Rattle.flame_sense.specs.declared.words.Span.{Span}
use Rattle.flame_spec.specs.declared.trees.Unit as file
use Rattle.flame_sense.specs.Depths.{depth, deepest}
use Rattle.flame_sense.specs.StandsFor.{span_of, definition_seen}

-- it sets a variable that stands here, sends a message, bears an agent, or calls a helper [own]
pub data Act : Type 0 where
  to_set : Span → Act
  to_send : ℕ → MessageType → Act
  to_bear : ℕ → AgentType → Act
  to_call : Definition → Act

-- as definitions have it [own]
abbrev pub act_of : Deed → Act
act_of (sets column variable) = to_set (span_of (column, variable))
act_of (sends number message) = to_send number message
act_of (bears number type) = to_bear number type
act_of (calls number helper) = to_call helper

-- as the program has it [own]
abbrev pub act_seen : code.Deed → Act
act_seen (Sets span) = to_set span
act_seen (Sends number message) = to_send number message.now
act_seen (Bears number agent) = to_bear number agent.now
act_seen (Calls helper) = to_call (definition_seen helper)

-- the helper that it calls, if it calls one, is no deeper than the deepest body of the files [own]
abbrev pub IsNoDeeper : List file.Unit → code.Deed → Type 0
IsNoDeeper units (Calls helper) = depth helper.def.now.body ≤ deepest units
IsNoDeeper units (Sets span) = Unit {0}
IsNoDeeper units (Sends number message) = Unit {0}
IsNoDeeper units (Bears number agent) = Unit {0}
