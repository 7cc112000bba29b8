-- The agents of types by their rows, one type more.
use Rattle.std.proofs.Common.{◌≡◌, ℕ, ◌+◌, ◌<◌, List, [], ◌∷◌, ◌++◌, take, length, get_or, true, refl, sym, ap, subst, ◌∙◌}
use Rattle.std.specs.Prelude.{ℤ}
use Rattle.std.specs.List.{AllZip}
use Rattle.json.specs.Token.{Token, begin_array, end_array}
use Rattle.json.specs.Json.{Json}
use Rattle.json.specs.Tree.{json_tokens}
use Rattle.flame_rows.proofs.Lists.{AllZip-append, take-next}
use Rattle.flame_spec.specs.declared.models.AgentType.{AgentType}
use Rattle.flame_tokens.specs.NumberTrees.{list_tree, begun}
use Rattle.flame_tokens.specs.BagTrees.{bag_tree, bag_trees, AreWide}
use Rattle.flame_tokens.specs.PopulationTrees.{HasAgents}
use Rattle.flame_tokens.proofs.TokenLists.{begun_more, list_closed}

trees_more :
    (types : List AgentType) (type : AgentType) (dealt : List (List (List ℤ))) (rows : List (List ℤ))
    → AllZip AreWide types dealt
    → bag_trees (types ++ type ∷ []) (dealt ++ rows ∷ []) ≡ bag_trees types dealt ++ bag_tree type rows ∷ []
trees_more [] type [] rows are = refl
trees_more [] type (other ∷ dealt) rows are = absurd are
trees_more (first ∷ types) type [] rows are = absurd are
trees_more (first ∷ types) type (other ∷ dealt) rows are =
    ap (λ (trees : List Json). bag_tree first other ∷ trees) (trees_more types type dealt rows are.1)

-- the tokens of the types so far and of one more
pub bags_more :
    (types : List AgentType) (i : ℕ) (type : AgentType) (dealt : List (List (List ℤ))) (rows : List (List ℤ))
    (rest : List Token)
    → i < length types
    → type ≡ get_or types i type
    → AllZip AreWide (take i types) dealt
    → begun (bag_trees (take (i + 1) types) (dealt ++ rows ∷ [])) ++ rest
    ≡ begun (bag_trees (take i types) dealt) ++ (json_tokens (bag_tree type rows) ++ rest)
bags_more types i type dealt rows rest within is are =
    ap (λ (ts : List AgentType). begun (bag_trees ts (dealt ++ rows ∷ [])) ++ rest) (take-next types i type within is)
    ∙ ap (λ (trees : List Json). begun trees ++ rest) (trees_more (take i types) type dealt rows are)
    ∙ begun_more (bag_trees (take i types) dealt) (bag_tree type rows) rest

-- and how wide they are
pub wide_more :
    (types : List AgentType) (i : ℕ) (type : AgentType) (dealt : List (List (List ℤ))) (rows : List (List ℤ))
    → i < length types
    → type ≡ get_or types i type
    → AllZip AreWide (take i types) dealt
    → AreWide type rows
    → AllZip AreWide (take (i + 1) types) (dealt ++ rows ∷ [])
wide_more types i type dealt rows within is are wide =
    subst (λ (ts : List AgentType). AllZip AreWide ts (dealt ++ rows ∷ [])) (sym (take-next types i type within is))
    (AllZip-append AreWide (take i types) dealt (type ∷ []) (rows ∷ []) are (wide, tt))

-- the list ends
pub bags_read :
    (types : List AgentType) (first begins now new : List Token) (dealt : List (List (List ℤ)))
    → first ≡ begin_array ∷ begins
    → begins ≡ begun (bag_trees types dealt) ++ now
    → now ≡ end_array ∷ new
    → AllZip AreWide types dealt
    → HasAgents true types first new dealt
bags_read types first begins now new dealt opens read ends wide = record {
  tree = list_tree (bag_trees types dealt);
  tokens =
      opens
      ∙ ap (λ (ts : List Token). begin_array ∷ ts)
      (read ∙ ap (λ (ts : List Token). begun (bag_trees types dealt) ++ ts) ends)
      ∙ sym (list_closed (bag_trees types dealt) new);
  are = record { tree_is = refl; wide = wide };
}
