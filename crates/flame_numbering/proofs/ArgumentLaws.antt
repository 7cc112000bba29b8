-- Arguments, one after another, and what they are for.
use Rattle.std.proofs.Common.{◌≡◌, ℕ, ◌+◌, ◌<◌, List, [], ◌∷◌, ◌++◌, length, drop, get_or, Option, Some, None, refl, sym, ap, ◌∙◌, arith}
use Rattle.std.proofs.lemmas.List.{drop-drop}
use Rattle.flame_spec.specs.declared.models.Variable.{Variable}
use Rattle.flame_spec.specs.declared.trees.Expr.{Expr}
use Rattle.flame_spec.specs.CallFaults.{argument_faults, arguments_faults, called_by, count}
use Rattle.flame_spec.specs.Definitions.{Definition}
use Rattle.flame_spec.specs.ExpressionFaults.{expression_faults}
use Rattle.flame_spec.specs.Scopes.{Context, Sight}
use Rattle.flame_spec.specs.Seen.{expression, expressions}
use Rattle.flame_spec.specs.Trees.{Expression, Expressions, part}
use Rattle.flame_body.specs.WordSlots.{number_found}
use Rattle.flame_numbering.specs.Arguments.{next_length, number_called}
use Rattle.flame_numbering.proofs.Rests.{rest-next}
use Rattle.flame_body.proofs.FittedCalls.{plain-arguments}

arguments-part :
    (context : Context) (sight : Sight) (line : ℕ) (word : List ℕ) (variables : List Variable)
    (e : Expression) (es : Expressions)
    → arguments_faults context sight line word variables (part e es)
    ≡ argument_faults context sight line word (next_length variables) e
    ++ arguments_faults context sight line word (drop 1 variables) es
arguments-part context sight line word [] e es =
    ap (λ l. expression_faults context sight e ++ l) (sym (plain-arguments context sight line word es))
arguments-part context sight line word (variable ∷ variables) e es = refl

-- the arguments that are left are the next one, for the next variable, and those behind it
pub arguments-next :
    (context : Context) (sight : Sight) (line : ℕ) (word : List ℕ) (variables : List Variable)
    (es : List Expr) (i : ℕ) (e : Expr) (wants : Option ℕ)
    → i < length es
    → e ≡ get_or es i e
    → wants ≡ next_length (drop i variables)
    → arguments_faults context sight line word (drop i variables) (expressions (drop i es))
    ≡ argument_faults context sight line word wants (expression e)
    ++ arguments_faults context sight line word (drop (i + 1) variables) (expressions (drop (i + 1) es))
arguments-next context sight line word variables es i e wants h is by =
    rest-next (λ l. arguments_faults context sight line word (drop i variables) (expressions l)) es i e h is
    ∙ arguments-part context sight line word (drop i variables) (expression e) (expressions (drop (i + 1) es))
    ∙ ap
    (λ vs. argument_faults context sight line word (next_length (drop i variables)) (expression e)
    ++ arguments_faults context sight line word vs (expressions (drop (i + 1) es)))
    (drop-drop 1 i variables)
    ∙ ap
    (λ w. argument_faults context sight line word w (expression e)
    ++ arguments_faults context sight line word (drop (i + 1) variables) (expressions (drop (i + 1) es)))
    (sym by)

-- so many arguments are so many expressions
pub count_expressions : (es : List Expr) → count (expressions es) ≡ length es
count_expressions [] = refl
count_expressions (e ∷ es) = let more = count_expressions es in omega arith

-- a call as a value calls the helper that was found
pub called_number : (found : Option (ℕ × Definition)) → number_called (called_by found) ≡ number_found found
called_number None = refl
called_number (Some found) = refl
