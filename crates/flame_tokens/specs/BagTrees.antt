-- The agents of a population of version 2: the rows of each type.
use Rattle.std.specs.Prelude.{◌≡◌, ℤ, List, [], ◌∷◌, map, codes, All}
use Rattle.std.specs.List.{AllZip}
use Rattle.json.specs.Json.{Json}
use Rattle.flame_spec.specs.declared.models.AgentType.{AgentType}
use Rattle.flame_spec.specs.Columns.{width}
use Rattle.flame_tokens.specs.NumberTrees.{row_tree, list_tree}
use Rattle.flame_tokens.specs.MemberTrees.{named_tree, IsWide}

-- these rows [own]
abbrev pub rows_tree : List (List ℤ) → Json
rows_tree rows = list_tree (map row_tree rows)

-- the agents of a type by their rows [own]
abbrev pub bag_tree : AgentType → List (List ℤ) → Json
bag_tree type rows = named_tree type.name (codes "rows") (rows_tree rows)

-- those of these types, one behind another [own]
abbrev pub bag_trees : List AgentType → List (List (List ℤ)) → List Json
bag_trees [] dealt = []
bag_trees (type ∷ types) [] = []
bag_trees (type ∷ types) (rows ∷ dealt) = bag_tree type rows ∷ bag_trees types dealt

-- rows as wide as the type declares, with all numbers within int [own]
abbrev pub AreWide : AgentType → List (List ℤ) → Type 0
AreWide type rows = All (IsWide (width type.memory)) rows

-- the tree is the list of the types' agents by their rows: each type stands once, in the order of the model [own]
pub record AreBags (types : List AgentType) (tree : Json) (dealt : List (List (List ℤ))) : Type 0 where
  pub tree_is : tree ≡ list_tree (bag_trees types dealt)
  pub wide : AllZip AreWide types dealt
