-- Models as model files that have no data types and name no further files.
use Rattle.std.specs.Prelude.{[], map, codes}
use Rattle.flame_spec.specs.declared.models.Model.{Model}
use Rattle.flame_spec.specs.declared.models.Variable.{Variable}
use Rattle.flame_spec.specs.declared.models.MessageType.{MessageType}
use Rattle.flame_spec.specs.declared.models.AgentType.{AgentType}
use Rattle.flame_spec.specs.declared.wide.Wide.{Wide}
use Rattle.flame_spec.specs.declared.wide.WideVariable.{WideVariable}
use Rattle.flame_spec.specs.declared.wide.WideMessage.{WideMessage}
use Rattle.flame_spec.specs.declared.wide.WideAgent.{WideAgent}

-- the variable of kind `int` [own]
abbrev pub int_variable : Variable → WideVariable
int_variable variable = record { name = variable.name; kind = codes "int"; length = variable.length }

-- the message of such variables [own]
abbrev pub int_message : MessageType → WideMessage
int_message message = record { name = message.name; variables = map int_variable message.variables }

-- the agent type of such variables [own]
abbrev pub int_agent : AgentType → WideAgent
int_agent agent = record {
  name = agent.name;
  memory = map int_variable agent.memory;
  functions = agent.functions;
}

-- the file that says what the model is [own]
abbrev pub as_file : Model → Wide
as_file model = record {
  constants = model.constants;
  files = model.files;
  units = model.units;
  types = [];
  messages = map int_message model.messages;
  agents = map int_agent model.agents;
  nested = [];
}
