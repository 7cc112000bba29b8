-- Variables, functions, inputs and outputs differ.
use Rattle.flame_spec_laws.proofs.Members.{types_apart, message_distinct, inputs_distinct, outputs_distinct}
use Rattle.flame_spec_laws.proofs.Members.{functions_differ}
use Rattle.flame_spec_laws.proofs.Members.{transitions_differ}
use Rattle.flame_spec_laws.proofs.name_laws.members_differ.Goals as goal

pub returns-clause-memory : goal.returns-clause-memory
returns-clause-memory c = types_apart

pub returns-clause-messages : goal.returns-clause-messages
returns-clause-messages c = message_distinct

pub returns-clause-inputs : goal.returns-clause-inputs
returns-clause-inputs c = λ model i j type function none. inputs_distinct model none i j type function

pub returns-clause-outputs : goal.returns-clause-outputs
returns-clause-outputs c = λ model i j type function none. outputs_distinct model none i j type function

pub returns-clause-functions : goal.returns-clause-functions
returns-clause-functions c = λ model i j k l type other function another none.
    functions_differ model none i j k l type other function another

pub returns-clause-transitions : goal.returns-clause-transitions
returns-clause-transitions c = λ model i j k type function another none.
    transitions_differ model none i j k type function another
