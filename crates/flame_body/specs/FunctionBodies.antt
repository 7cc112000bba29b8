-- The bodies that are checked: one for each function of a model, and one for each helper.
use Rattle.std.specs.Prelude.{ℕ, List, [], ◌∷◌, map, length, Option, Some, None}
use Rattle.flame_spec.specs.declared.models.Input.{Input}
use Rattle.flame_spec.specs.declared.models.Model.{Model}
use Rattle.flame_spec.specs.declared.outcomes.Widths.{Widths}
use Rattle.flame_spec.specs.declared.trees.Unit as file
use Rattle.flame_spec.specs.Columns.{width}
use Rattle.flame_spec.specs.Definitions.{Definition, helpers, body_of}
use Rattle.flame_spec.specs.Functions.{Place, functions}
use Rattle.flame_spec.specs.KnownNames.{variables_in}
use Rattle.flame_spec.specs.Lists.{each}
use Rattle.flame_spec.specs.Scopes.{Context, context_for, at_entry, after_parameters}
use Rattle.flame_body.specs.declared.slots.SlotStmt.{SlotStmt}
use Rattle.flame_body.specs.NumberedTrees.{numbered_statements}

-- a body with numbers in place of names: the number of its function, or of its helper; the widths of the rows that it
-- sees; and its statements [own]
pub record NumberedBody : Type 0 where
  pub function : ℕ
  pub widths : Widths
  pub tree : List SlotStmt

-- ---- widths

-- the width of the message that an input reads [XMML]
abbrev pub input_width : Model → Input → ℕ
input_width model input = width (variables_in model.messages input.message)

-- the widths of the rows that the function of this place sees; a helper sees no rows but the constants
-- [FLAME User Manual; helpers: own]
abbrev pub widths_in : Model → Option Place → Widths
widths_in model None = record {
  memory = 0;
  constants = length model.constants;
  inputs = [];
  messages = [];
  agents = [];
}
widths_in model (Some place) = record {
  memory = width place.type.memory;
  constants = length model.constants;
  inputs = map (input_width model) place.function.inputs;
  messages = map (λ message. width message.variables) model.messages;
  agents = map (λ type. width type.memory) model.agents;
}

-- ---- bodies

-- what the words of a body go by in these files: of the function of this place, or of a helper [own]
abbrev pub words_of : Model → List file.Unit → Option Place → Context
words_of model units runs = context_for model (helpers model units) runs

-- the body of the function of this number; that of `idle` is empty [FLAME User Manual]
abbrev pub function_body : Model → List file.Unit → ℕ → Place → NumberedBody
function_body model units number place = record {
  function = number;
  widths = widths_in model (Some place);
  tree = numbered_statements (words_of model units (Some place)) at_entry (body_of units place.function);
}

-- the body of the helper of this number, which begins with its parameters as locals [C, 6.9.1]
abbrev pub helper_body : Model → List file.Unit → ℕ → Definition → NumberedBody
helper_body model units number d = record {
  function = number;
  widths = widths_in model None;
  tree = numbered_statements (words_of model units None) (after_parameters at_entry d.parameters) d.body;
}

-- the bodies of the functions of the model, in document order [FLAME User Manual]
abbrev pub function_bodies : Model → List file.Unit → List NumberedBody
function_bodies model units = each (λ number place. function_body model units number place ∷ []) (functions model)

-- the bodies of the helpers, in source order [own]
abbrev pub helper_bodies : Model → List file.Unit → List NumberedBody
helper_bodies model units = each (λ number d. helper_body model units number d ∷ []) (helpers model units)
