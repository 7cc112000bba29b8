-- Rows cut into runs, one run after another.
use Rattle.std.proofs.Common.{◌≡◌, ℕ, zero, suc, ◌+◌, ◌-◌, ◌/◌, ◌<◌, ◌≤◌, false, List, [], ◌∷◌, ◌++◌, length, take, drop, refl, sym, ap, ◌∙◌, arith, append_assoc, append-nil}
use Rattle.std.specs.Prelude.{ℤ, ◌==◌}
use Rattle.std.proofs.Math.Nat.{add-div_right}
use Rattle.flame_rows.specs.Cuts.{piece_size, runs, cut}

abbrev Rows : Type 0
Rows = List (List ℤ)

pub some_run : (n : ℕ) → (n == 0) ≡ false → 0 < n
some_run zero fails = absurd cc
some_run (suc n) fails = omega arith

none_to_run : (pieces size : ℕ) → runs pieces size (let none : Rows = [] in none) ≡ []
none_to_run zero size = refl
none_to_run (suc pieces) size = refl

-- no run is left
pub cut_over : (bags : List Rows) (pieces size : ℕ) (rest run : Rows) → 0 < size → run ≡ take size rest → length run ≡ 0
    → bags ≡ bags ++ runs pieces size rest
cut_over bags pieces zero rest run some is none = absurd (omega (arith, some))
cut_over bags pieces (suc size) [] run some is none = sym (ap (λ l. bags ++ l) (none_to_run pieces (suc size)) ∙ append-nil bags)
cut_over bags pieces (suc size) (row ∷ rest) run some is none = absurd (omega (arith, none, ap (length {A = List ℤ}) is))

-- one run more
pub cut_more : (bags : List Rows) (pieces i size : ℕ) (rest run left : Rows)
    → i < pieces → 0 < length run → run ≡ take size rest → left ≡ drop size rest
    → (bags ++ run ∷ []) ++ runs (pieces - (i + 1)) size left ≡ bags ++ runs (pieces - i) size rest
cut_more bags pieces i size [] run left more some is others =
    absurd (omega (arith, some, ap (length {A = List ℤ}) (is ∙ take_none size)))
  where
    take_none : (n : ℕ) → take n (let none : Rows = [] in none) ≡ []
    take_none zero = refl
    take_none (suc n) = refl
cut_more bags pieces i size (row ∷ rest) run left more some is others =
    let fewer : pieces - i ≡ suc (pieces - (i + 1)) = omega (arith, more) in
    append_assoc bags (run ∷ []) (runs (pieces - (i + 1)) size left)
    ∙ ap (λ l. bags ++ l) (λ j. is j ∷ runs (pieces - (i + 1)) size (others j))
    ∙ sym (ap (λ n. bags ++ runs n size (row ∷ rest)) fewer)
