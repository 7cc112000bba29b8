-- How many options are still to be given, and how many words were read by then.
use Rattle.std.proofs.Common.{◌≡◌, ℕ, ◌+◌, ◌≤◌, List, [], ◌∷◌, ◌++◌, length, Bool, true, false, cond, ◌||◌}
use Rattle.std.proofs.Common.{Some, refl, sym, ◌∙◌, ap, subst, arith, inl, inr}
use Rattle.std.specs.List.{find}
use Rattle.std.specs.Str.{bytes_eq}
use Rattle.std.proofs.lemmas.Bool.{cases_Bool}
use Rattle.std.proofs.lemmas.List.Folds.{list_any-append}
use Rattle.std.proofs.lemmas.Slice.Eq.{bytes_eq-Decides}
use Rattle.flame_rows.proofs.Bytes.{bytes_eq-true}
use Rattle.flame_words.specs.declared.table.Flag.{Flag}
use Rattle.flame_words.specs.CommandTable.{flag_name}
use Rattle.flame_words.specs.UsageFaults.{is_given}
use Rattle.flame_words.specs.WordRoles.{Role, option, value, positional, options_among, positionals_among, givens_among}

-- how many of the options have names that are not among these
abbrev pub unused : List (List ℕ) → List Flag → ℕ
unused names [] = 0
unused names (flag ∷ flags) = cond (is_given names (flag_name flag)) 0 1 + unused names flags

pub unused-le : (names : List (List ℕ)) (flags : List Flag) → unused names flags ≤ length flags
unused-le names [] = omega arith
unused-le names (flag ∷ flags) =
    let fewer = unused-le names flags in
    elim (is_given names (flag_name flag)) as (λ given. cond given 0 1 + unused names flags ≤ length (flag ∷ flags)) [
      | true ↦ omega arith
      | false ↦ omega arith
    ]

one_fewer : (a b : Bool) → cond (a || b) 0 1 ≤ cond a 0 1
one_fewer true b = omega arith
one_fewer false true = omega arith
one_fewer false false = omega arith

is_given-push : (names : List (List ℕ)) (word name : List ℕ)
    → is_given (names ++ word ∷ []) name ≡ (is_given names name || (bytes_eq word name || false))
is_given-push names word name = list_any-append (λ earlier. bytes_eq earlier name) names (word ∷ [])

head_fewer : (names : List (List ℕ)) (word name : List ℕ)
    → cond (is_given (names ++ word ∷ []) name) 0 1 ≤ cond (is_given names name) 0 1
head_fewer names word name =
    rw (is_given-push names word name) (one_fewer (is_given names name) (bytes_eq word name || false))

-- with one name more no more of them are unused
unused-push :
    (names : List (List ℕ)) (word : List ℕ) (flags : List Flag)
    → unused (names ++ word ∷ []) flags ≤ unused names flags
unused-push names word [] = omega arith
unused-push names word (flag ∷ flags) =
    let fewer = unused-push names word flags in
    let head = head_fewer names word (flag_name flag) in
    omega arith

found_head : (names : List (List ℕ)) (word name : List ℕ)
    → bytes_eq name word ≡ true
    → is_given names word ≡ false
    → cond (is_given (names ++ word ∷ []) name) 0 1 + 1 ≤ cond (is_given names name) 0 1
found_head names word name same fresh =
    let given : is_given (names ++ word ∷ []) word ≡ true =
    is_given-push names word word
    ∙ ap (λ b. b || (bytes_eq word word || false)) fresh
    ∙ ap (λ b. b || false) ((bytes_eq-Decides word word).1 refl) in
    let P : List ℕ → Type 0 = λ n. cond (is_given (names ++ word ∷ []) n) 0 1 + 1 ≤ cond (is_given names n) 0 1 in
    subst P (sym (bytes_eq-true name word same)) (rw (given, fresh) (omega arith))

-- with the name of one of them that was not among the names fewer of them are unused
pub unused_falls :
    (names : List (List ℕ)) (word : List ℕ) (flags : List Flag) (flag : Flag)
    → find (λ flag. bytes_eq (flag_name flag) word) flags ≡ Some flag
    → is_given names word ≡ false
    → unused (names ++ word ∷ []) flags + 1 ≤ unused names flags
unused_falls names word [] flag found fresh = cc
unused_falls names word (first ∷ flags) flag found fresh =
    elim (cases_Bool (bytes_eq (flag_name first) word)) [
      | inl here ↦
          let head = found_head names word (flag_name first) here fresh in
          let more = unused-push names word flags in
          omega arith
      | inr elsewhere ↦
          let head = head_fewer names word (flag_name first) in
          let found_more = rw elsewhere at found in
          let more = unused_falls names word flags flag found_more fresh in
          omega arith
    ]

-- words are options, values and positional words
pub length-roles : (words : List Role)
    → length words ≡ length (positionals_among words) + (length (options_among words) + length (givens_among words))
length-roles [] = refl
length-roles (option word ∷ words) = let more = length-roles words in omega arith
length-roles (value name word ∷ words) = let more = length-roles words in omega arith
length-roles (positional number word ∷ words) = let more = length-roles words in omega arith
