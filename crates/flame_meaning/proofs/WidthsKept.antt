-- Columns lie within rows, and memories keep their lengths.
use Rattle.std.proofs.Common.{◌≡◌, ℕ, ◌+◌, ◌<◌, ◌≤◌, Bool, true, false, cond, List, [], ◌∷◌, Option, Some, None, refl, ap, ◌∙◌, arith, length-set}
use Rattle.std.specs.Prelude.{ℤ, pos, negsuc, nat_lt}
use Rattle.std.proofs.lemmas.Bool.{ltb-true}
use Rattle.flame_spec.specs.declared.models.Model.{Model}
use Rattle.flame_spec.specs.declared.models.Variable.{Variable}
use Rattle.flame_spec.specs.Columns.{width_by, width_of, width, columned_from, columned_where, elements}
use Rattle.flame_spec.specs.Trees.{Statements}
use Rattle.flame_meaning.specs.Scenes.{Scene, Progress, Calls, element_column}
use Rattle.flame_meaning.specs.Statements.{meanings}
use Rattle.flame_meaning.specs.Kept.{IsKept, IsKeptByPaying, Leaves}
use Rattle.flame_meaning.specs.WidthLaws.{KeepsLength}
use Rattle.flame_meaning.proofs.Keeps.{statements_keep}

column_within :
    (passes : Variable → Bool) (from : ℕ) (variables : List Variable) (found : ℕ × Variable)
    → columned_from passes from variables ≡ Some found
    → found.0 + width_of found.1 ≤ from + width variables
column_within passes from [] found e = cc
column_within passes from (variable ∷ variables) found e =
    by_head (passes variable) e (column_within passes (from + width_of variable) variables found)
  where
    by_head :
        (b : Bool)
        → cond b (Some (from, variable)) (columned_from passes (from + width_of variable) variables) ≡ Some found
        → (columned_from passes (from + width_of variable) variables ≡ Some found
        → found.0 + width_of found.1 ≤ (from + width_of variable) + width variables)
        → found.0 + width_of found.1 ≤ from + (width_of variable + width variables)
    by_head true f later =
        let pair : (from, variable) ≡ found = cc in
        let first : from ≡ found.0 = ap (λ q. q.0) pair in
        let second : width_of variable ≡ width_of found.1 = ap (λ q. width_of q.1) pair in
        omega (arith, first, second)
    by_head false f later = let more = later f in omega (arith, more)

pub variable_within :
    (passes : Variable → Bool) (variables : List Variable) (found : ℕ × Variable)
    → columned_where passes variables ≡ Some found
    → found.0 + width_of found.1 ≤ width variables
variable_within passes variables found e = let all = column_within passes 0 variables found e in omega (arith, all)

elements_within : (o : Option ℕ) → elements o ≤ width_by o
elements_within None = omega arith
elements_within (Some n) = omega arith

pub element_within :
    (found : ℕ × Variable) (index : ℤ) (column : ℕ)
    → element_column (Some found) index ≡ Some column
    → column < found.0 + width_of found.1
element_within found (negsuc n) column e = cc
element_within found (pos n) column e = by_test (nat_lt n (elements found.1.length)) refl e
  where
    by_test :
        (b : Bool)
        → nat_lt n (elements found.1.length) ≡ b
        → cond b (Some (found.0 + n)) None ≡ Some column
        → column < found.0 + width_of found.1
    by_test true below f =
        let same : found.0 + n ≡ column = cc in
        let less : n < elements found.1.length = ltb-true n (elements found.1.length) below in
        let most = elements_within found.1.length in
        omega (arith, same, less, most)
    by_test false below f = cc

length_kept : (model : Model) → IsKept model KeepsLength
length_kept model = record {
  same = λ s. record { same = refl };
  joined = λ s t u h g. record { same = g.same ∙ h.same };
  locals = λ s locals. record { same = refl };
  memory = λ s column v. record { same = length-set s.memory column v };
  message = λ s word found values e. record { same = refl };
  birth = λ s word found values e. record { same = refl };
}

length_paid : (calls : Calls) → IsKeptByPaying calls KeepsLength
length_paid calls = record {
  paid = λ s fuel e. record { same = refl };
  called = λ s line helper values v fuel e. record { same = refl };
}

pub memory_keeps_length : (statements : Statements) (scene : Scene) (s : Progress) → Leaves KeepsLength s (meanings statements scene s)
memory_keeps_length statements scene s =
    statements_keep scene.context.model scene.answers KeepsLength (length_kept scene.context.model) (length_paid scene.answers)
    statements scene s (record { same_model = refl; same_calls = refl })
