-- Model order, and the place of the first that passes a test.
use Rattle.std.proofs.Common.{◌≡◌, ℕ, zero, suc, ◌+◌, ◌<◌, ◌≤◌, Bool, true, false, cond, List, [], ◌∷◌, ◌++◌, length, get_or, Option, Some, None, ap, ◌∙◌, arith, length-append}
use Rattle.std.specs.Prelude.{nat_lt, position}
use Rattle.std.proofs.lemmas.Bool.{le-ltb, lt-ltb}
use Rattle.std.proofs.lemmas.List.Sums.{position_or_len_is}
use Rattle.flame_spec.specs.ModelOrder.{next, order, order_after, with_next}

-- model order has no more functions than there are
order_after-few : (more n : ℕ) (before : ℕ → ℕ → Bool) (taken : List ℕ) → length (order_after more n before taken) ≤ more + length taken
order_after-few zero n before taken = omega arith
order_after-few (suc more) n before taken = go (λ all. order_after-few more n before all) (next n before taken)
  where
    go : ((all : List ℕ) → length (order_after more n before all) ≤ more + length all)
        → (o : Option ℕ) → length (with_next o taken (order_after more n before)) ≤ suc more + length taken
    go rest None = omega arith
    go rest (Some g) = omega (arith, rest (taken ++ g ∷ []), length-append taken (g ∷ []))

pub order_few : (n : ℕ) (before : ℕ → ℕ → Bool) → length (order n before) ≤ n
order_few n before = omega (arith, order_after-few n n before [])

-- ---- the first that passes

pub found_rank : (test : ℕ → Bool) (items : List ℕ) (i : ℕ) → i < length items → ((k : ℕ) → k < i → test (get_or items k 0) ≡ false)
    → test (get_or items i 0) ≡ true → position test items ≡ Some i
found_rank test items i less earlier here =
    let is = position_or_len_is test items i 0 (omega (arith, less)) earlier (λ within. here) in
    (λ j. cond (nat_lt (is j) (length items)) (Some (is j)) None) ∙ ap (λ b. cond b (Some i) None) (lt-ltb i (length items) less)

pub none_ranked : (test : ℕ → Bool) (items : List ℕ) → ((k : ℕ) → k < length items → test (get_or items k 0) ≡ false) → position test items ≡ None
none_ranked test items all =
    let is = position_or_len_is test items (length items) 0 (omega arith) all (λ over. absurd (omega (arith, over))) in
    (λ j. cond (nat_lt (is j) (length items)) (Some (is j)) None)
    ∙ ap (λ b. cond b (Some (length items)) None) (le-ltb (length items) (length items) (omega arith))
