-- The width of the first message of a name, where messages are put into a table from the last to the first.
use Rattle.std.proofs.Common.{◌≡◌, ℕ, ◌+◌, ◌<◌, List, ◌∷◌, length, drop, get_or, sym, ap, ◌∙◌, Bool, true, false}
use Rattle.std.proofs.Common.{cond, Option, Some, unwrap_or}
use Rattle.std.specs.Str.{bytes_eq}
use Rattle.std.proofs.lemmas.List.{at_drop_more}
use Rattle.flame_rows.proofs.Bytes.{bytes_eq-sym}
use Rattle.flame_spec.specs.declared.models.MessageType.{MessageType}
use Rattle.flame_spec.specs.Columns.{width}
use Rattle.flame_spec.specs.KnownNames.{variables_in}

choice :
    (b : Bool) (here : ℕ) (rest : Option ℕ) (message : MessageType) (messages : List MessageType) (name : List ℕ)
    → here ≡ width message.variables
    → unwrap_or rest 0 ≡ width (variables_in messages name)
    → unwrap_or (cond b (Some here) rest) 0 ≡ width (cond b message.variables (variables_in messages name))
choice true here rest message messages name is more = is
choice false here rest message messages name is more = more

-- one message more in front
pub width_in_front :
    (messages : List MessageType) (i : ℕ) (message : MessageType) (key name : List ℕ) (here : ℕ) (rest : Option ℕ)
    → i < length messages
    → message ≡ get_or messages i message
    → key ≡ message.name
    → here ≡ width message.variables
    → unwrap_or rest 0 ≡ width (variables_in (drop (i + 1) messages) name)
    → unwrap_or (cond (bytes_eq key name) (Some here) rest) 0 ≡ width (variables_in (drop i messages) name)
width_in_front messages i message key name here rest h is named wide more =
    ap (λ b. unwrap_or (cond b (Some here) rest) 0)
    (ap (λ word. bytes_eq word name) named ∙ bytes_eq-sym message.name name)
    ∙ choice (bytes_eq name message.name) here rest message (drop (i + 1) messages) name wide more
    ∙ sym
    (at_drop_more (λ l. width (variables_in l name)) messages i message h
    ∙ ap (λ m. width (variables_in (m ∷ drop (i + 1) messages) name)) (sym is))
