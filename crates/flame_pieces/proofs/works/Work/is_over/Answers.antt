use Rattle.std.proofs.Common.{ap, ◌∙◌, map}
use Rattle.std.specs.Prelude.{not, ◌&&◌, is_none}
use Rattle.std.specs.List.{list_all}
use Rattle.flame_events.specs.CoreStates.{part_in}
use Rattle.flame_pieces.specs.declared.works.Output.{Output}
use Rattle.flame_pieces.specs.KeptWorks.{part_of, messages_in}
use Rattle.flame_pieces.proofs.KeptParts.{all_handed}
use Rattle.flame_pieces.proofs.works.Work.is_over.Goals as goal

pub returns : goal.returns
returns c = λ once.
    let outputs = c.args.self.now.outputs.items in
    c.all_handed.ensures
    ∙ ap (list_all (λ (output : Output). output.handed)) c.deref.ensures.value
    ∙ all_handed outputs once
    ∙ ap (λ b. not b && list_all (λ message. is_none (part_in (messages_in outputs) (map part_of outputs) message)) (messages_in outputs)) c.if-has_left.ensures
