use Rattle.std.proofs.Common.{◌∙◌, ap}
use Rattle.flame_spec.specs.Definitions.{helper_named}
use Rattle.flame_lookup.specs.Sources.{context_at}
use Rattle.flame_numbering.specs.Arguments.{number_called}
use Rattle.flame_numbering.proofs.ArgumentLaws.{called_number}
use Rattle.flame_numbering.proofs.call.helper_number.Goals as goal

pub returns : goal.returns
returns c =
    c.number_called.ensures
    ∙ ap number_called c.called.ensures
    ∙ called_number (helper_named (context_at c.args.words.now).helpers c.args.word.now)
