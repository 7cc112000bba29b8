-- Values that are passed over.
use Rattle.std.specs.Prelude.{◌≡◌, ◌≤◌, ℕ, ℤ, suc, List, ◌++◌, Option, Some, None, true, ⊤}
use Rattle.std.specs.Fmt.{signed_decimal}
use Rattle.json.specs.Token.{Token, key, end_object}
use Rattle.json.specs.Json.{Json, null, boolean, number, string, array, object, Items, no_items, item, Members, no_members, member}
use Rattle.json.specs.Tree.{json_tokens, depth}
use Rattle.flame_ops.specs.Integers.{is_int}
use Rattle.flame_tokens.specs.NumberTrees.{list_tree, begun}
use Rattle.flame_tokens.specs.MemberTrees.{object_tree, keyed}

-- the text is a whole number of int as it is printed [own]
pub record IsPrinted (text : List ℕ) : Type 0 where
  pub number : ℤ
  pub same : text ≡ signed_decimal number
  pub int : is_int number ≡ true

abbrev mutual
  -- all that stands in the tree are whole numbers of int, texts, lists and objects [own]
  pub IsPlain : Json → Type 0
  IsPlain null = ⊥
  IsPlain (boolean b) = ⊥
  IsPlain (number text) = IsPrinted text
  IsPlain (string text) = ⊤
  IsPlain (array items) = ArePlain items
  IsPlain (object members) = HavePlain members

  -- the same of these elements [own]
  pub ArePlain : Items → Type 0
  ArePlain no_items = ⊤
  ArePlain (item tree items) = IsPlain tree × ArePlain items

  -- the same of what stands in these members [own]
  pub HavePlain : Members → Type 0
  HavePlain no_members = ⊤
  HavePlain (member name tree members) = IsPlain tree × HavePlain members

-- it is so, and lists and objects are nested no deeper than this [own]
pub record IsPassed (deep : ℕ) (tree : Json) : Type 0 where
  pub plain : IsPlain tree
  pub shallow : depth tree ≤ deep

-- such a value was read [own]
pub record HasPassed (deep : ℕ) (old new : List Token) : Type 0 where
  pub tree : Json
  pub tokens : old ≡ json_tokens tree ++ new
  pub is : IsPassed deep tree

-- of a list that has begun elements were read [own]
pub record HasItems (deep : ℕ) (first now : List Token) : Type 0 where
  pub trees : List Json
  pub tokens : first ≡ begun trees ++ now
  pub are : IsPassed (suc deep) (list_tree trees)

-- of an object that has begun members were read [own]
pub record HasMembers (deep : ℕ) (first now : List Token) : Type 0 where
  pub pairs : List (List ℕ × Json)
  pub tokens : first ≡ keyed pairs ++ now
  pub are : IsPassed (suc deep) (object_tree pairs)

-- the key, or the brace that closes an object [own]
abbrev pub key_or_end : Option (List ℕ) → Token
key_or_end None = end_object
key_or_end (Some name) = key name
