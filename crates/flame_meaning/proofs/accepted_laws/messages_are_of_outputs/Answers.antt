-- Messages are of outputs.
use Rattle.flame_meaning.proofs.Sending.{messages_are_of_outputs}
use Rattle.flame_meaning.proofs.accepted_laws.messages_are_of_outputs.Goals as goal

pub returns : goal.returns
returns c = messages_are_of_outputs
