-- Texts with commas between them, written one after another.
use Rattle.std.specs.Prelude.{◌≡◌, ℕ, ℤ, ◌+◌, ◌*◌, ◌/◌, ◌%◌, ◌<◌, min, List, [], ◌∷◌, ◌++◌, codes, Bool, true, false, if◌then◌else◌, Vec, Result, IfOk, length, map, slice_index_or}
use Rattle.std.specs.Fork.{slice_chunk}
use Rattle.std.specs.Global.{Global}
use Rattle.flame_rows.specs.declared.fails.NoMemory.{NoMemory}
use Rattle.flame_spec.specs.declared.models.AgentType.{AgentType}
use Rattle.flame_popfile.specs.RowTexts.{comma, row_text, object_text, agent_text}
use Rattle.flame_popfile.specs.declared.forms.Form.{Form}
use Rattle.flame_popfile.specs.declared.forms.Form.TheVariants as form

-- a comma, where there is more before [own]
abbrev pub comma_where : Bool → List ℕ
comma_where more = if more then comma ∷ [] else []

-- these texts, each after a comma, the first only where there is more before [own]
abbrev pub behind : Bool → List (List ℕ) → List ℕ
behind more [] = []
behind more (text ∷ texts) = comma_where more ++ (text ++ behind true texts)

-- a name and a colon [own]
abbrev pub name_text : List ℕ → List ℕ
name_text name = codes "\"" ++ (name ++ codes "\":")

-- what stands before the variables of an agent of this type [own]
abbrev pub agent_head : AgentType → List ℕ
agent_head type = codes "{\"name\":\"" ++ (type.name ++ codes "\",\"memory\":{")

-- whether the list has an element [own]
abbrev pub has_some : {X : Type 0} → List X → Bool
has_some [] = false
has_some (x ∷ xs) = true

-- a row in this form [own]
abbrev pub form_text : Form → List ℤ → List ℕ
form_text form.List = row_text
form_text (form.Object variables) = object_text variables.now
form_text (form.Agent agent) = agent_text agent.now

-- there is a text for each run of these rows, which are so long but the last, and each that was made is that of its run [own]
pub record AreTexts (form : Form) (size : ℕ) (rows : List (List ℤ)) (texts : List (Result (Vec ℕ Global) NoMemory)) :
    Type 0 where
  pub count : length texts ≡ length rows / size + min 1 (length rows % size)
  pub within : (n : ℕ) → n < length texts → n * size < length rows
  pub each :
      (n : ℕ) (other : Result (Vec ℕ Global) NoMemory)
      → n < length texts
      → IfOk (slice_index_or texts n other) (λ text.
      text.items ≡ behind false (map (form_text form) (slice_chunk rows size n)))
