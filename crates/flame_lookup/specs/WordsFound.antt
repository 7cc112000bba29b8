-- What look-ups give, as definitions see it.
use Rattle.std.specs.Prelude.{ℕ}
use Rattle.flame_spec.specs.CallFaults.{Deed, sets, sends, bears, calls}
use Rattle.flame_spec.specs.Definitions.{Definition, definition}
use Rattle.flame_spec.specs.Functions.{Place}
use Rattle.flame_spec.specs.LookUps.{Given, in_memory, constant, iteration}
use Rattle.flame_lookup.specs.declared.found.Found.{Found}
use Rattle.flame_lookup.specs.declared.found.CFunction.{CFunction}
use Rattle.flame_lookup.specs.declared.found.Helper.{Helper}
use Rattle.flame_lookup.specs.declared.found.Transition.{Transition}
use Rattle.flame_lookup.specs.declared.found.Meant.{Meant}
use Rattle.flame_lookup.specs.declared.found.Meant.TheVariants.{Memory, Constant, Iteration}
use Rattle.flame_lookup.specs.declared.found.Act.{Act}
use Rattle.flame_lookup.specs.declared.found.Act.TheVariants.{Sets, Sends, Bears, Calls}

-- an item with its number, or a variable with its column [own]
abbrev pub item_found : {X : Type 0} → Found X → ℕ × X
item_found found = (found.at, found.item.now)

-- a C function in its file [own]
abbrev pub definition_found : CFunction → Definition
definition_found found = definition found.file found.def.now

-- a helper with its number [own]
abbrev pub helper_found : Helper → ℕ × Definition
helper_found found = (found.number, definition_found found.function)

-- a function of the model with its type [own]
abbrev pub place_found : Transition → Place
place_found found = record { agent = found.number; type = found.agent.now; function = found.function.now }

-- what the model gives to a word [own]
abbrev pub given_found : Meant → Given
given_found (Memory variable) = in_memory variable.at variable.item.now
given_found (Constant number) = constant number
given_found Iteration = iteration

-- what a call statement does [own]
abbrev pub deed_found : Act → Deed
deed_found (Sets variable) = sets variable.at variable.item.now
deed_found (Sends message) = sends message.at message.item.now
deed_found (Bears agent) = bears agent.at agent.item.now
deed_found (Calls helper) = calls helper.number (definition_found helper.function)
