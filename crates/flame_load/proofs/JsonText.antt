-- Whether bytes are a JSON text.
use Rattle.std.proofs.Common.{◌≡◌, ℕ, List, true, false, Some, None, refl, ap, ◌∙◌, cond}
use Rattle.std.specs.Str.{IsUtf8, is_utf8}
use Rattle.std.proofs.lemmas.Str.{IsUtf8-from_is_utf8, is_utf8-from_IsUtf8}
use Rattle.serde_json.specs.Data.{Data}
use Rattle.serde_json.specs.Read.{read}
use Rattle.flame_load.specs.JsonReads.{json_of}

pub json_of_some :
    (bytes : List ℕ) (value : Data)
    → IsUtf8 bytes × (read bytes ≡ Some value)
    → json_of bytes ≡ Some value
json_of_some bytes value is = ap (λ b. cond b (read bytes) None) (is_utf8-from_IsUtf8 bytes is.0) ∙ is.1

pub json_of_none : (bytes : List ℕ) → (IsUtf8 bytes → read bytes ≡ None) → json_of bytes ≡ None
json_of_none bytes none =
    elim (is_utf8 bytes) as (λ b. is_utf8 bytes ≡ b → cond b (read bytes) None ≡ None) [
      | true ↦ λ is. none (IsUtf8-from_is_utf8 bytes is)
      | false ↦ λ is. refl
    ] refl
