-- What words of call statements do.
use Rattle.std.proofs.Common.{◌≡◌, ℕ, List, ap, ◌∙◌, Option, Some, None, option_map}
use Rattle.flame_spec.specs.declared.models.MessageType.{MessageType}
use Rattle.flame_spec.specs.declared.models.Variable.{Variable}
use Rattle.flame_spec.specs.CallFaults.{sends, added_in, sent_or_else, set_or_else}
use Rattle.flame_spec.specs.Functions.{Place}
use Rattle.flame_spec.specs.LookUps.{message_sent}
use Rattle.flame_spec.specs.Scopes.{Context}
use Rattle.flame_sense.specs.StandsFor.{span_of}

pub sends_there :
    (context : Context) (word : List ℕ) (set : Option (ℕ × Variable)) (found : ℕ × MessageType) (place : Place)
    → None ≡ option_map span_of set
    → message_sent context.model.messages word ≡ Some found
    → context.runs ≡ Some place
    → set_or_else context set word ≡ Some (sends found.0 found.1)
sends_there context word None found place e sent runs =
    ap (λ o. sent_or_else context o word) sent ∙ ap (λ o. added_in o (sends found.0 found.1)) runs
sends_there context word (Some set) found place e sent runs = cc
