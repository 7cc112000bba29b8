-- Lists of messages, each once.
use Rattle.std.specs.Prelude.{◌≡◌, ℕ, List, [], ◌∷◌, ◌++◌, Some, slice_get, if◌then◌else◌}
use Rattle.flame_spec.specs.Below.{is_in}

-- the place of each message that is listed stands at its number [own]
abbrev pub HavePlaces : List ℕ → List ℕ → Type 0
HavePlaces listed places =
    (place message : ℕ) → slice_get listed place ≡ Some message → slice_get places message ≡ Some place

-- no message stands in two places [own]
abbrev pub AreOnce : List ℕ → Type 0
AreOnce listed =
    (one other message : ℕ) → slice_get listed one ≡ Some message → slice_get listed other ≡ Some message → one ≡ other

-- the list with this message, at its end where it is new [own]
abbrev pub with_message : ℕ → List ℕ → List ℕ
with_message message listed = if is_in message listed then listed else listed ++ message ∷ []

-- the list with these messages, in their order [own]
abbrev pub with_messages : List ℕ → List ℕ → List ℕ
with_messages [] listed = listed
with_messages (message ∷ messages) listed = with_messages messages (with_message message listed)
