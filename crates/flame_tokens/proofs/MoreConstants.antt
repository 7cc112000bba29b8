-- The tokens of constants, one more, and of states.
use Rattle.std.proofs.Common.{◌≡◌, ℕ, ◌+◌, ◌<◌, List, [], ◌∷◌, ◌++◌, take, length, get_or, refl, sym, ap, ◌∙◌, arith, append_assoc, length-append, length-take}
use Rattle.std.specs.Prelude.{ℤ}
use Rattle.std.proofs.lemmas.List.{take_more}
use Rattle.std.proofs.lemmas.List.Concat.{flat_map-append}
use Rattle.json.specs.Token.{Token, begin_object, end_object, key}
use Rattle.json.specs.Json.{Json}
use Rattle.json.specs.Tree.{json_tokens}
use Rattle.flame_tokens.specs.NumberTrees.{number_tree}
use Rattle.flame_tokens.specs.MemberTrees.{keyed, object_tree}
use Rattle.flame_tokens.specs.PopulationTrees.{constant_trees}
use Rattle.flame_tokens.proofs.TokenLists.{keyed_more, object_closed}

trees_more :
    (names : List (List ℕ)) (name : List ℕ) (values : List ℤ) (value : ℤ)
    → length values ≡ length names
    → constant_trees (names ++ name ∷ []) (values ++ value ∷ [])
    ≡ constant_trees names values ++ (name, number_tree value) ∷ []
trees_more [] name [] value long = refl
trees_more [] name (other ∷ values) value long = absurd (omega (arith, long))
trees_more (first ∷ names) name [] value long = absurd (omega (arith, long))
trees_more (first ∷ names) name (other ∷ values) value long =
    ap (λ (trees : List (List ℕ × Json)). (first, number_tree other) ∷ trees)
    (trees_more names name values value (omega (arith, long)))

-- the tokens of the constants so far and of one more
pub more_constants :
    (names : List (List ℕ)) (i : ℕ) (name : List ℕ) (values : List ℤ) (value : ℤ) (rest : List Token)
    → i < length names
    → name ≡ get_or names i name
    → length values ≡ length (take i names)
    → keyed (constant_trees (take (i + 1) names) (values ++ value ∷ [])) ++ rest
    ≡ keyed (constant_trees (take i names) values) ++ key name ∷ (json_tokens (number_tree value) ++ rest)
more_constants names i name values value rest within is long =
    ap (λ (ns : List (List ℕ)). keyed (constant_trees ns (values ++ value ∷ [])) ++ rest)
    (take_more names i name within ∙ ap (λ (n : List ℕ). take i names ++ n ∷ []) (sym is))
    ∙ ap (λ (ps : List (List ℕ × Json)). keyed ps ++ rest) (trees_more (take i names) name values value long)
    ∙ keyed_more (constant_trees (take i names) values) (name, number_tree value) rest

-- and how many they are
pub counted_more :
    (names : List (List ℕ)) (i : ℕ) (values : List ℤ) (value : ℤ)
    → i < length names
    → length values ≡ length (take i names)
    → length (values ++ value ∷ []) ≡ length (take (i + 1) names)
counted_more names i values value within long =
    omega (arith, length-append values (value ∷ []), length-take i names, length-take (i + 1) names, long)

keyed_both :
    (first behind : List (List ℕ × Json)) (rest : List Token)
    → keyed (first ++ behind) ++ rest ≡ keyed first ++ (keyed behind ++ rest)
keyed_both first behind rest =
    let one : List ℕ × Json → List Token = λ pair. key pair.0 ∷ json_tokens pair.1 in
    ap (λ (ts : List Token). ts ++ rest) (flat_map-append one first behind)
    ∙ append_assoc (keyed first) (keyed behind) rest

-- members in three parts, what stands at a key, and members behind it
pub states_closed :
    (first second third last : List (List ℕ × Json)) (name : List ℕ) (tree : Json) (rest : List Token)
    → json_tokens (object_tree (first ++ (second ++ (third ++ (name, tree) ∷ last)))) ++ rest
    ≡ begin_object ∷ (keyed first
    ++ (keyed second
    ++ (keyed third ++ key name ∷ (json_tokens tree ++ (keyed last ++ end_object ∷ rest)))))
states_closed first second third last name tree rest =
    let end = end_object ∷ rest in
    let behind = (name, tree) ∷ last in
    object_closed (first ++ (second ++ (third ++ behind))) rest
    ∙ ap (λ (ts : List Token). begin_object ∷ ts)
    (keyed_both first (second ++ (third ++ behind)) end
    ∙ ap (λ (ts : List Token). keyed first ++ ts)
    (keyed_both second (third ++ behind) end
    ∙ ap (λ (ts : List Token). keyed second ++ ts)
    (keyed_both third behind end
    ∙ ap (λ (ts : List Token). keyed third ++ key name ∷ ts) (append_assoc (json_tokens tree) (keyed last) end))))
