-- What `parse` reads of a word of digits.
use Rattle.std.proofs.Common.{◌≡◌, ℕ, ◌<◌, ◌^◌, List, length, true, rules, IsTrue, Ok, Err, Result, nat_lt}
use Rattle.std.specs.List.{list_all}
use Rattle.std.specs.Char.{is_ascii_digit}
use Rattle.std.specs.Result.{OkIff}
use Rattle.std.specs.Str.Parse.{ParsesUnsigned}
use Rattle.std.proofs.lemmas.Bool.{and_parts, ltb-true}
use Rattle.std.proofs.lemmas.Str.Parse.{IsNumeralModel, numerals_by_fold, parse_digits}
use Rattle.flame_words.specs.WordValues.{is_number, value_behind, number_value}

by_fold : IsNumeralModel (λ digits. list_all is_ascii_digit digits ≡ true) number_value
by_fold = numerals_by_fold _ (search rules) value_behind (search rules)

with_length :
    {E : Type 0} (word : List ℕ) (answer : Result ℕ E)
    → 0 < length word
    → OkIff answer ((0 < length word) × (number_value word < 2 ^ 32)) (number_value word)
    → OkIff answer (number_value word < 2 ^ 32) (number_value word)
with_length word (Ok value) filled is = (is.0.1, is.1)
with_length word (Err error) filled is = λ small. is (filled, small)

pub parsed :
    {E : Type 0} (word : List ℕ) (answer : Result ℕ E)
    → ParsesUnsigned 32 10 word answer
    → IsTrue (is_number word)
    → OkIff answer (number_value word < 2 ^ 32) (number_value word)
parsed word answer parses number =
    let parts = and_parts (nat_lt 0 (length word)) (list_all is_ascii_digit word) number in
    with_length word answer (ltb-true _ _ parts.0) (parse_digits by_fold 32 word answer parses parts.1)
