-- What the program's values stand for.
use Rattle.std.specs.Prelude.{ℕ, ℤ, ◌-◌, ◌^◌, ◌+◌, ◌<◌, ◌≡◌, ◌++◌, List, [], ◌∷◌, map, reverse, codes, Bool, true, Option, Some, None}
use Rattle.std.specs.Prelude.{option_map, min, drop, length, slice_index_or}
use Rattle.std.specs.Str.{bytes_eq}
use Rattle.std.proofs.Common.{Bor}
use Rattle.flame_ops.specs.Ascii.{capitals}
use Rattle.flame_sense.specs.declared.words.Form.{Form}
use Rattle.flame_sense.specs.declared.words.Form.TheVariants.{Same, Capitals, Get, Set, AddMessage, AddAgent, Row}
use Rattle.flame_sense.specs.declared.words.Span.{Span}
use Rattle.flame_sense.specs.declared.found.Definition as lookedup
use Rattle.flame_sense.specs.declared.found.Wanted.{Wanted}
use Rattle.flame_sense.specs.declared.found.Wanted.TheVariants.{Any, Helpers}
use Rattle.flame_sense.specs.declared.ending.Ending.{Ending}
use Rattle.flame_sense.specs.declared.ending.Ending.TheVariants.{WentOn, Broke, Continued, Returned, Faulted}
use Rattle.flame_sense.specs.declared.ending.Gave as ended
use Rattle.flame_sense.specs.declared.ending.Gave.TheVariants as given
use Rattle.flame_sense.specs.declared.scene.Place as running
use Rattle.flame_sense.specs.declared.scene.Scene as code
use Rattle.flame_sense.specs.declared.scene.Local as variable
use Rattle.flame_sense.specs.declared.scene.Progress as changed
use Rattle.flame_sense.specs.declared.scene.Open.{Open, fold-Open}
use Rattle.flame_sense.specs.declared.scene.Open.TheOpen.{Open-F}
use Rattle.flame_spec.specs.declared.models.AgentType.{AgentType}
use Rattle.flame_spec.specs.declared.models.MessageType.{MessageType}
use Rattle.flame_spec.specs.declared.models.Variable.{Variable}
use Rattle.flame_spec.specs.Definitions.{Definition, definition, is_helper, helpers}
use Rattle.flame_spec.specs.Functions.{Place}
use Rattle.flame_spec.specs.Scopes.{Context, context_for}
use Rattle.flame_meaning.specs.Scenes.{Current, Scene, Local, Progress, Gave, gave, failed, local_value}
use Rattle.flame_meaning.specs.Ends.{End, went_on, broke, continued, returned, faulted}
use Rattle.flame_meaning.specs.HelperCalls.{calls_within}

-- ---- words

-- the word is the name between these two [own]
abbrev pub is_joined : List ℕ → List ℕ → List ℕ → List ℕ → Bool
is_joined before behind word name = bytes_eq (before ++ (name ++ behind)) word

-- the word is the name, written in this way [own]
abbrev pub is_written : Form → List ℕ → List ℕ → Bool
is_written Same word name = bytes_eq name word
is_written Capitals word name = bytes_eq (capitals name) word
is_written Get word name = bytes_eq (codes "get_" ++ name) word
is_written Set word name = bytes_eq (codes "set_" ++ name) word
is_written AddMessage word name = bytes_eq (codes "add_" ++ (name ++ codes "_message")) word
is_written AddAgent word name = bytes_eq (codes "add_" ++ (name ++ codes "_agent")) word
is_written Row word name = bytes_eq (name ++ codes "_message") word

-- a column as far as places can be counted; no row is so wide [own]
abbrev pub within_reach : ℕ → ℕ
within_reach column = min column (2 ^ 64 - 1)

-- where a variable that was found stands [own]
abbrev pub span_of : ℕ × Variable → Span
span_of found = record { column = within_reach found.0; length = found.1.length }

-- a message type with its number [own]
abbrev pub message_of : ℕ × Bor MessageType → ℕ × MessageType
message_of found = (found.0, found.1.now)

-- an agent type with its number [own]
abbrev pub agent_of : ℕ × Bor AgentType → ℕ × AgentType
agent_of found = (found.0, found.1.now)

-- ---- scenes

-- a function with its type and the number of its type [own]
abbrev pub place_seen : running.Place → Place
place_seen place = record { agent = place.number; type = place.agent.now; function = place.function.now }

-- a C function in its file [own]
abbrev pub definition_seen : lookedup.Definition → Definition
definition_seen found = definition found.file found.def.now

-- the C function is one of those that are looked for [own]
abbrev pub is_wanted : Wanted → Definition → Bool
is_wanted Any d = true
is_wanted (Helpers model) d = is_helper model.now d

-- what the words of the body go by [own]
abbrev pub context_seen : code.Scene → Context
context_seen scene =
    context_for scene.model.now (helpers scene.model.now scene.units.now) (option_map place_seen scene.runs)

-- the rows that a loop gives [own]
abbrev pub rows_seen : List (Bor (List ℤ)) → List (List ℤ)
rows_seen rows = map (λ row. row.now) rows

-- a loop and those around it [own]
abbrev pub open_step : Open-F (List Current) → List Current
open_step Open-F.Nothing = []
open_step (Open-F.Over message row outer) = record { message = message; row = row.now } ∷ outer.now

-- where the open message loops stand, the innermost first [own]
abbrev pub currents : Open → List Current
currents = fold-Open (List Current) open_step

-- what the body has before it [own]
abbrev pub scene_seen : code.Scene → Open → Scene
scene_seen scene open_loops = record {
  context = context_seen scene;
  constants = scene.constants.now;
  iteration = scene.iteration;
  readings = map (λ rows. rows_seen rows.items) scene.readings.now;
  open_loops = currents open_loops;
  answers =
      calls_within scene.left scene.model.now (helpers scene.model.now scene.units.now) scene.constants.now
      scene.iteration;
}

-- ---- progress

-- a local [own]
abbrev pub local_of : variable.Local → Local
local_of local = record { name = local.name.now; value = local.value }

-- the visible locals, the newest first; the program keeps the newest last [own]
abbrev pub visible : List variable.Local → List Local
visible locals = reverse (map local_of locals)

-- what the body has changed [own]
abbrev pub progress_seen : changed.Progress → Progress
progress_seen s = record {
  memory = s.memory.items;
  locals = visible s.locals.items;
  sent = s.sent.items;
  born = s.born.items;
  fuel = s.fuel;
}

-- ---- ends

-- how a statement ended, with what it left [own]
abbrev pub end_of : Ending → Progress → End
end_of WentOn s = went_on s
end_of Broke s = broke s
end_of Continued s = continued s
end_of (Returned v) s = returned v s
end_of (Faulted fault) s = faulted fault

-- what a turn came to: an ending of the loop, or else what follows the turn [own]
abbrev pub after : Option Ending → (Progress → End) → Progress → End
after None next s = next s
after (Some ending) next s = end_of ending s

-- how a call of a helper ended [own]
abbrev pub gave_seen : ended.Gave → Gave
gave_seen (given.Value v fuel) = gave v fuel
gave_seen (given.Failed fault) = failed fault

-- ---- where locals and turns stand

-- the newest local of this name stands at this place [own]
pub record StandsAt (word : List ℕ) (locals : List variable.Local) (place : ℕ) : Type 0 where
  pub within : place < length locals
  pub named : (d : variable.Local) → bytes_eq (slice_index_or locals place d).name.now word ≡ true
  pub newest : local_value word (visible (drop (place + 1) locals)) ≡ None

-- the newest local of this name stands there, or there is none [own]
abbrev pub IsNewest : List ℕ → List variable.Local → Option ℕ → Type 0
IsNewest word locals None = local_value word (visible locals) ≡ None
IsNewest word locals (Some place) = StandsAt word locals place

-- the turns of a message loop that was found, or of none [own]
abbrev pub currents_found : Option (ℕ × Bor (List (Bor (List ℤ)))) → List Current
currents_found None = []
currents_found (Some found) = map (λ row. record { message = found.0; row = row.now }) found.1.now
