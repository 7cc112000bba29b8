-- The tokens of lists and objects, one element more, and closed.
use Rattle.std.proofs.Common.{◌≡◌, ℕ, List, [], ◌∷◌, ◌++◌, map, refl, sym, ap, ◌∙◌, append_assoc, append-nil, codes}
use Rattle.json.specs.Token.{Token, begin_object, end_object, begin_array, end_array, key, string}
use Rattle.json.specs.Json.{Json}
use Rattle.json.specs.Tree.{json_tokens, items_tokens, members_tokens}
use Rattle.flame_tokens.specs.NumberTrees.{items_tree, list_tree, begun}
use Rattle.flame_tokens.specs.MemberTrees.{members_tree, object_tree, keyed, named_tree}

-- one element more
pub mapped_more :
    {X : Type 0} (f : X → Json) (xs : List X) (x : X) (rest : List Token)
    → begun (map f (xs ++ x ∷ [])) ++ rest ≡ begun (map f xs) ++ (json_tokens (f x) ++ rest)
mapped_more f [] x rest = ap (λ ts. ts ++ rest) (append-nil (json_tokens (f x)))
mapped_more f (y ∷ xs) x rest =
    append_assoc (json_tokens (f y)) (begun (map f (xs ++ x ∷ []))) rest
    ∙ ap (λ ts. json_tokens (f y) ++ ts) (mapped_more f xs x rest)
    ∙ sym (append_assoc (json_tokens (f y)) (begun (map f xs)) (json_tokens (f x) ++ rest))

-- the same of trees
pub begun_more :
    (trees : List Json) (tree : Json) (rest : List Token)
    → begun (trees ++ tree ∷ []) ++ rest ≡ begun trees ++ (json_tokens tree ++ rest)
begun_more [] tree rest = ap (λ ts. ts ++ rest) (append-nil (json_tokens tree))
begun_more (other ∷ trees) tree rest =
    append_assoc (json_tokens other) (begun (trees ++ tree ∷ [])) rest
    ∙ ap (λ ts. json_tokens other ++ ts) (begun_more trees tree rest)
    ∙ sym (append_assoc (json_tokens other) (begun trees) (json_tokens tree ++ rest))

-- one member more
pub keyed_more :
    (pairs : List (List ℕ × Json)) (pair : List ℕ × Json) (rest : List Token)
    → keyed (pairs ++ pair ∷ []) ++ rest ≡ keyed pairs ++ key pair.0 ∷ (json_tokens pair.1 ++ rest)
keyed_more [] pair rest = ap (λ ts. key pair.0 ∷ (ts ++ rest)) (append-nil (json_tokens pair.1))
keyed_more (other ∷ pairs) pair rest =
    ap (λ ts. key other.0 ∷ ts)
    (append_assoc (json_tokens other.1) (keyed (pairs ++ pair ∷ [])) rest
    ∙ ap (λ ts. json_tokens other.1 ++ ts) (keyed_more pairs pair rest)
    ∙ sym (append_assoc (json_tokens other.1) (keyed pairs) (key pair.0 ∷ (json_tokens pair.1 ++ rest))))

-- one member
pub keyed_one :
    (pair : List ℕ × Json) (rest : List Token)
    → keyed (pair ∷ []) ++ rest ≡ key pair.0 ∷ (json_tokens pair.1 ++ rest)
keyed_one pair rest = keyed_more [] pair rest

items_closed :
    (trees : List Json) (rest : List Token)
    → items_tokens (items_tree trees) ++ rest ≡ begun trees ++ end_array ∷ rest
items_closed [] rest = refl
items_closed (tree ∷ trees) rest =
    append_assoc (json_tokens tree) (items_tokens (items_tree trees)) rest
    ∙ ap (λ ts. json_tokens tree ++ ts) (items_closed trees rest)
    ∙ sym (append_assoc (json_tokens tree) (begun trees) (end_array ∷ rest))

-- a list
pub list_closed :
    (trees : List Json) (rest : List Token)
    → json_tokens (list_tree trees) ++ rest ≡ begin_array ∷ (begun trees ++ end_array ∷ rest)
list_closed trees rest = ap (λ ts. begin_array ∷ ts) (items_closed trees rest)

members_closed :
    (pairs : List (List ℕ × Json)) (rest : List Token)
    → members_tokens (members_tree pairs) ++ rest ≡ keyed pairs ++ end_object ∷ rest
members_closed [] rest = refl
members_closed (pair ∷ pairs) rest =
    ap (λ ts. key pair.0 ∷ ts)
    (append_assoc (json_tokens pair.1) (members_tokens (members_tree pairs)) rest
    ∙ ap (λ ts. json_tokens pair.1 ++ ts) (members_closed pairs rest)
    ∙ sym (append_assoc (json_tokens pair.1) (keyed pairs) (end_object ∷ rest)))

-- an object
pub object_closed :
    (pairs : List (List ℕ × Json)) (rest : List Token)
    → json_tokens (object_tree pairs) ++ rest ≡ begin_object ∷ (keyed pairs ++ end_object ∷ rest)
object_closed pairs rest = ap (λ ts. begin_object ∷ ts) (members_closed pairs rest)

-- an object of a name and of what stands at one key more
pub named_closed :
    (name at : List ℕ) (inside : Json) (rest : List Token)
    → json_tokens (named_tree name at inside) ++ rest
    ≡ begin_object ∷ key (codes "name") ∷ string name ∷ key at ∷ (json_tokens inside ++ end_object ∷ rest)
named_closed name at inside rest =
    ap (λ ts. begin_object ∷ key (codes "name") ∷ string name ∷ key at ∷ ts)
    (append_assoc (json_tokens inside) (end_object ∷ []) rest)
