-- Places of names in lists.
use Rattle.std.proofs.Common.{◌≡◌, ℕ, ◌+◌, ◌≤◌, List, [], ◌∷◌, length, map, Bool, true, false, cond, Some, None, refl, sym, ap, ◌∙◌, arith}
use Rattle.std.specs.Prelude.{not, nat_lt, position}
use Rattle.std.specs.List.{position_or_len}
use Rattle.std.specs.Str.{bytes_eq}
use Rattle.std.proofs.lemmas.Bool.Decides.{nat_tests}
use Rattle.std.proofs.lemmas.List.Sums.{prefix_len-le-length}
use Rattle.flame_rows.proofs.Bytes.{bytes_eq-sym}

-- the place of a state among the texts of these keys
place-of :
    {K : Type 0} (text : K → List ℕ) (state : List ℕ) (keys : List K)
    → position_or_len (λ other. bytes_eq other state) (map text keys)
    ≡ position_or_len (λ key. bytes_eq state (text key)) keys
place-of text state [] = refl
place-of text state (key ∷ keys) =
    ap (λ b. cond (not b) (1 + position_or_len (λ other. bytes_eq other state) (map text keys)) 0) (bytes_eq-sym (text key) state)
    ∙ ap (λ n. cond (not (bytes_eq state (text key))) (1 + n) 0) (place-of text state keys)

at-some : {K : Type 0} (p : K → Bool) (keys : List K) (i : ℕ) → position p keys ≡ Some i → position_or_len p keys ≡ i
at-some p keys i e = by (nat_lt (position_or_len p keys) (length keys)) e
  where
    by : (b : Bool) → cond b (Some (position_or_len p keys)) None ≡ Some i → position_or_len p keys ≡ i
    by true f = cc
    by false f = absurd (cc)

at-none : {K : Type 0} (p : K → Bool) (keys : List K) → position p keys ≡ None → position_or_len p keys ≡ length keys
at-none p keys e =
    let n = position_or_len p keys in
    by (nat_lt n (length keys)) refl e
  where
    by :
        (b : Bool) → nat_lt (position_or_len p keys) (length keys) ≡ b
        → cond b (Some (position_or_len p keys)) None ≡ None → position_or_len p keys ≡ length keys
    by true t f = absurd (cc)
    by false t f = most (position_or_len p keys) (length keys) t (prefix_len-le-length (λ key. not (p key)) keys)
      where
        most : (n m : ℕ) → nat_lt n m ≡ false → n ≤ m → n ≡ m
        most n m t h = grind (arith, nat_tests)

pub place-found :
    {K : Type 0} (text : K → List ℕ) (state : List ℕ) (keys : List K) (i : ℕ)
    → position (λ key. bytes_eq state (text key)) keys ≡ Some i
    → i ≡ position_or_len (λ other. bytes_eq other state) (map text keys)
place-found text state keys i e =
    sym (place-of text state keys ∙ at-some (λ key. bytes_eq state (text key)) keys i e)

pub place-missing :
    {K : Type 0} (text : K → List ℕ) (state : List ℕ) (keys : List K)
    → position (λ key. bytes_eq state (text key)) keys ≡ None
    → length keys ≡ position_or_len (λ other. bytes_eq other state) (map text keys)
place-missing text state keys e =
    sym (place-of text state keys ∙ at-none (λ key. bytes_eq state (text key)) keys e)
