-- The trees that texts are, as json reads them: numbers and rows.
use Rattle.std.specs.Prelude.{ℤ, List, [], ◌∷◌, map}
use Rattle.std.specs.List.{flat_map}
use Rattle.std.specs.Fmt.{signed_decimal}
use Rattle.json.specs.Token.{Token}
use Rattle.json.specs.Json.{Json, number, array, Items, no_items, item}
use Rattle.json.specs.Tree.{json_tokens}

-- the tree of a number as it is printed [own]
abbrev pub number_tree : ℤ → Json
number_tree z = number (signed_decimal z)

-- these, one behind another [own]
abbrev pub items_tree : List Json → Items
items_tree [] = no_items
items_tree (tree ∷ trees) = item tree (items_tree trees)

-- the list of these [own]
abbrev pub list_tree : List Json → Json
list_tree trees = array (items_tree trees)

-- a row [own]
abbrev pub row_tree : List ℤ → Json
row_tree row = list_tree (map number_tree row)

-- the tokens of these, as they stand in a list that has begun [own]
abbrev pub begun : List Json → List Token
begun trees = flat_map json_tokens trees
