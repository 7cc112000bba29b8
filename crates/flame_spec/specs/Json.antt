-- JSON values and what stands in them.
use Rattle.std.specs.Prelude.{ℕ, List, [], ◌∷◌, Bool, if◌then◌else◌, Option, Some, None}
use Rattle.serde_json.specs.Data.{Data, Items, no_items, item}

-- the members of a JSON list, as a list [own]
abbrev pub items_list : Items → List Data
items_list no_items = []
items_list (item value items) = value ∷ items_list items

-- the text, where it passes the test [own]
abbrev pub kept : (List ℕ → Bool) → List ℕ → Option (List ℕ)
kept test text = if test text then Some text else None
