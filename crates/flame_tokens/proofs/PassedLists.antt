-- Lists and objects that are passed over, element by element.
use Rattle.std.proofs.Common.{◌≡◌, ◌≤◌, ℕ, suc, List, [], ◌∷◌, ◌++◌, sym, ap, ◌∙◌, arith}
use Rattle.json.specs.Token.{Token, begin_object, end_object, begin_array, end_array, key}
use Rattle.json.specs.Json.{Json}
use Rattle.json.specs.Tree.{items_depth, members_depth, depth}
use Rattle.flame_tokens.specs.NumberTrees.{items_tree, list_tree, begun}
use Rattle.flame_tokens.specs.MemberTrees.{members_tree, object_tree, keyed}
use Rattle.flame_tokens.specs.PassedTrees.{IsPlain, ArePlain, HavePlain, HasPassed, HasItems, HasMembers}
use Rattle.flame_tokens.proofs.TokenLists.{begun_more, keyed_more, list_closed, object_closed}

-- ---- lists

plain_items :
    (trees : List Json) (tree : Json)
    → ArePlain (items_tree trees) → IsPlain tree → ArePlain (items_tree (trees ++ tree ∷ []))
plain_items [] tree are is = (is, tt)
plain_items (other ∷ trees) tree are is = (are.0, plain_items trees tree are.1 is)

shallow_items :
    (deep : ℕ) (trees : List Json) (tree : Json)
    → items_depth (items_tree trees) ≤ deep
    → depth tree ≤ deep
    → items_depth (items_tree (trees ++ tree ∷ [])) ≤ deep
shallow_items deep [] tree are is = omega (arith, is)
shallow_items deep (other ∷ trees) tree are is =
    omega (arith, are, shallow_items deep trees tree (omega (arith, are)) is)

-- an element more was read
pub item_read :
    (deep : ℕ) (first old new : List Token)
    → HasItems deep first old → HasPassed deep old new → HasItems deep first new
item_read deep first old new so_far passed = record {
  trees = so_far.trees ++ passed.tree ∷ [];
  tokens =
      so_far.tokens
      ∙ ap (λ (ts : List Token). begun so_far.trees ++ ts) passed.tokens
      ∙ sym (begun_more so_far.trees passed.tree new);
  are = record {
    plain = plain_items so_far.trees passed.tree so_far.are.plain passed.is.plain;
    shallow =
        let h = so_far.are.shallow in
        omega (arith, shallow_items deep so_far.trees passed.tree (omega (arith, h)) passed.is.shallow);
  };
}

-- the list ends
pub items_read :
    (deep : ℕ) (first old new : List Token)
    → HasItems deep first old → old ≡ end_array ∷ new → HasPassed (suc deep) (begin_array ∷ first) new
items_read deep first old new so_far ends = record {
  tree = list_tree so_far.trees;
  tokens =
      ap (λ (ts : List Token). begin_array ∷ ts)
      (so_far.tokens ∙ ap (λ (ts : List Token). begun so_far.trees ++ ts) ends)
      ∙ sym (list_closed so_far.trees new);
  is = so_far.are;
}

-- ---- objects

plain_members :
    (pairs : List (List ℕ × Json)) (pair : List ℕ × Json)
    → HavePlain (members_tree pairs) → IsPlain pair.1 → HavePlain (members_tree (pairs ++ pair ∷ []))
plain_members [] pair are is = (is, tt)
plain_members (other ∷ pairs) pair are is = (are.0, plain_members pairs pair are.1 is)

shallow_members :
    (deep : ℕ) (pairs : List (List ℕ × Json)) (pair : List ℕ × Json)
    → members_depth (members_tree pairs) ≤ deep
    → depth pair.1 ≤ deep
    → members_depth (members_tree (pairs ++ pair ∷ [])) ≤ deep
shallow_members deep [] pair are is = omega (arith, is)
shallow_members deep (other ∷ pairs) pair are is =
    omega (arith, are, shallow_members deep pairs pair (omega (arith, are)) is)

-- a member more was read
pub member_read :
    (deep : ℕ) (first old opened new : List Token) (name : List ℕ)
    → HasMembers deep first old → old ≡ key name ∷ opened → HasPassed deep opened new → HasMembers deep first new
member_read deep first old opened new name so_far named passed = record {
  pairs = so_far.pairs ++ (name, passed.tree) ∷ [];
  tokens =
      so_far.tokens
      ∙ ap (λ (ts : List Token). keyed so_far.pairs ++ ts)
      (named ∙ ap (λ (ts : List Token). key name ∷ ts) passed.tokens)
      ∙ sym (keyed_more so_far.pairs (name, passed.tree) new);
  are = record {
    plain = plain_members so_far.pairs (name, passed.tree) so_far.are.plain passed.is.plain;
    shallow =
        let h = so_far.are.shallow in
        omega (arith, shallow_members deep so_far.pairs (name, passed.tree) (omega (arith, h)) passed.is.shallow);
  };
}

-- the object ends
pub members_read :
    (deep : ℕ) (first old new : List Token)
    → HasMembers deep first old → old ≡ end_object ∷ new → HasPassed (suc deep) (begin_object ∷ first) new
members_read deep first old new so_far ends = record {
  tree = object_tree so_far.pairs;
  tokens =
      ap (λ (ts : List Token). begin_object ∷ ts)
      (so_far.tokens ∙ ap (λ (ts : List Token). keyed so_far.pairs ++ ts) ends)
      ∙ sym (object_closed so_far.pairs new);
  is = so_far.are;
}
