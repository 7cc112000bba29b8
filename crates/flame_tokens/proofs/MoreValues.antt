-- A row with the numbers of one variable more.
use Rattle.std.proofs.Common.{◌≡◌, ℕ, ◌+◌, ◌<◌, ◌≤◌, List, [], ◌∷◌, ◌++◌, take, drop, length, get_or, Option, Some, None, refl, ap, ap₂, ◌∙◌, arith}
use Rattle.std.proofs.Common.{length-drop}
use Rattle.std.specs.Prelude.{ℤ}
use Rattle.std.proofs.lemmas.List.{take-append-le, drop-append-le}
use Rattle.json.specs.Token.{Token, key}
use Rattle.json.specs.Json.{Json}
use Rattle.json.specs.Tree.{json_tokens}
use Rattle.flame_rows.proofs.Lists.{take-next}
use Rattle.flame_spec.specs.declared.models.Variable.{Variable}
use Rattle.flame_spec.specs.Columns.{width, width_by, width_of}
use Rattle.flame_tokens.specs.NumberTrees.{row_tree}
use Rattle.flame_tokens.specs.MemberTrees.{keyed, variable_tree, variable_trees}
use Rattle.flame_tokens.proofs.TokenLists.{keyed_more}

-- numbers behind those of a variable change nothing at it
tree_first :
    (wide : Option ℕ) (row more : List ℤ)
    → width_by wide ≤ length row → variable_tree wide (row ++ more) ≡ variable_tree wide row
tree_first None [] more enough = absurd (omega arith)
tree_first None (z ∷ row) more enough = refl
tree_first (Some wide) row more enough = ap row_tree (take-append-le wide row more enough)

trees_more :
    (variables : List Variable) (variable : Variable) (row more : List ℤ)
    → length row ≡ width variables
    → variable_trees (variables ++ variable ∷ []) (row ++ more)
    ≡ variable_trees variables row ++ (variable.name, variable_tree variable.length more) ∷ []
trees_more [] variable [] more long = refl
trees_more [] variable (z ∷ row) more long = absurd (omega (arith, long))
trees_more (other ∷ variables) variable row more long =
    let wide = width_of other in
    ap₂ (λ (tree : Json) trees. (other.name, tree) ∷ trees)
    (tree_first other.length row more (omega (arith, long)))
    (ap (variable_trees (variables ++ variable ∷ [])) (drop-append-le wide row more (omega (arith, long)))
    ∙ trees_more variables variable (drop wide row) more (omega (arith, long, length-drop wide row)))

-- the tokens of the variables so far and of one more
pub more_values :
    (variables : List Variable) (i : ℕ) (variable : Variable) (row more : List ℤ) (rest : List Token)
    → i < length variables
    → variable ≡ get_or variables i variable
    → length row ≡ width (take i variables)
    → keyed (variable_trees (take (i + 1) variables) (row ++ more)) ++ rest
    ≡ keyed (variable_trees (take i variables) row)
    ++ key variable.name ∷ (json_tokens (variable_tree variable.length more) ++ rest)
more_values variables i variable row more rest within is long =
    ap (λ (vs : List Variable). keyed (variable_trees vs (row ++ more)) ++ rest) (take-next variables i variable within is)
    ∙ ap (λ ps. keyed ps ++ rest) (trees_more (take i variables) variable row more long)
    ∙ keyed_more (variable_trees (take i variables) row) (variable.name, variable_tree variable.length more) rest
