-- Rows that are made value by value.
use Rattle.std.proofs.Common.{◌≡◌, ℕ, zero, suc, ◌+◌, List, [], ◌∷◌, ◌++◌, refl, sym, ap, ◌∙◌, append_assoc, add-one, arith}
use Rattle.std.specs.Prelude.{ℤ, pos, Result, Ok, Err}
use Rattle.flame_spec.specs.declared.faults.Fault.{Fault}
use Rattle.flame_spec.specs.Conditions.{number_at}
use Rattle.flame_meaning.specs.Scenes.{numbers_from}
use Rattle.flame_meaning.specs.Expressions.{values_and}
use Rattle.flame_meaning.specs.Statements.{fitted}

-- the values before, and then these
abbrev pub behind_values : List ℤ → Result (List ℤ) Fault → Result (List ℤ) Fault
behind_values before (Ok values) = Ok (before ++ values)
behind_values before (Err fault) = Err fault

pub more_behind :
    (before numbers : List ℤ) (more : Result (List ℤ) Fault)
    → behind_values before (values_and (Ok numbers) more) ≡ behind_values (before ++ numbers) more
more_behind before numbers (Ok values) = ap Ok (sym (append_assoc before numbers values))
more_behind before numbers (Err fault) = refl

pub none_behind : (more : Result (List ℤ) Fault) → more ≡ behind_values [] more
none_behind (Ok values) = refl
none_behind (Err fault) = refl

fitted_more : (n : ℕ) (values : List ℤ) → fitted (suc n) values ≡ fitted n values ++ number_at values n ∷ []
fitted_more zero [] = refl
fitted_more zero (v ∷ values) = refl
fitted_more (suc n) [] = ap (λ row. pos 0 ∷ row) (fitted_more n [])
fitted_more (suc n) (v ∷ values) = ap (λ row. v ∷ row) (fitted_more n values)

pub fitted_next : (n : ℕ) (values : List ℤ) → fitted (n + 1) values ≡ fitted n values ++ number_at values n ∷ []
fitted_next n values = ap (λ k. fitted k values) (add-one n) ∙ fitted_more n values

numbers_more :
    (n column : ℕ) (row : List ℤ)
    → numbers_from (suc n) column row ≡ numbers_from n column row ++ number_at row (column + n) ∷ []
numbers_more zero column row = let e : column ≡ column + 0 = omega arith in ap (λ k. number_at row k ∷ []) e
numbers_more (suc n) column row =
    let e : (column + 1) + n ≡ column + suc n = omega arith in
    ap (λ l. number_at row column ∷ l) (numbers_more n (column + 1) row)
    ∙ ap (λ k. number_at row column ∷ (numbers_from n (column + 1) row ++ number_at row k ∷ [])) e

pub numbers_next :
    (n column : ℕ) (row : List ℤ)
    → numbers_from (n + 1) column row ≡ numbers_from n column row ++ number_at row (column + n) ∷ []
numbers_next n column row = ap (λ k. numbers_from k column row) (add-one n) ∙ numbers_more n column row
