-- Functions by rank, of which those of a layer are filtered.
use Rattle.std.proofs.Common.{◌≡◌, ℕ, zero, suc, ◌+◌, ◌-◌, ◌<◌, ◌≤◌, Bool, true, false, cond, List, [], ◌∷◌, ◌++◌, length, map, take, get_or, refl, sym, ap, ◌∙◌, arith, ⊎_elim, append_assoc, append-nil, nat_lt, Vec, Some}
use Rattle.std.specs.Prelude.{◌==◌, slice_get, slice_index_or, slice_set}
use Rattle.std.specs.Global.{Global}
use Rattle.std.specs.List.{filter, take_while}
use Rattle.std.proofs.lemmas.Bool.{cases_eq, cases_lt, eq-eqb, le-ltb, lt-ltb, ne_eqb}
use Rattle.std.proofs.lemmas.List.Folds.{length-prefix_len}
use Rattle.std.proofs.lemmas.List.Sums.{take_while-cons}
use Rattle.flame_rows.proofs.Lists.{slice_index_or-map}
use Rattle.flame_spec.specs.Lists.{each_from}
use Rattle.flame_layerrun.specs.declared.schedules.Ranked.{Ranked}

-- a function with its rank
abbrev pub as_ranked : ℕ → ℕ → List Ranked
as_ranked rank function = record { rank = rank; function = function } ∷ []

-- as many as stand in front and pass are those
pub take-while : {X : Type 0} (p : X → Bool) (xs : List X) → take (length (take_while p xs)) xs ≡ take_while p xs
take-while p xs = ap (λ n. take n xs) (length-prefix_len p xs)

module _ (test : ℕ → Bool) where
  abbrev chosen : ℕ → List ℕ → List Ranked
  chosen i fs = filter (λ (ranked : Ranked). test ranked.function) (each_from as_ranked i fs)

  abbrev numbers : List Ranked → List ℕ
  numbers list = map (λ (ranked : Ranked). ranked.function) list

  abbrev lower : ℕ → List Ranked → List Ranked
  lower s list = take_while (λ (ranked : Ranked). nat_lt ranked.rank s) list

  pub numbers-chosen : (i : ℕ) (fs : List ℕ) → numbers (chosen i fs) ≡ filter test fs
  numbers-chosen i [] = refl
  numbers-chosen i (f ∷ fs) = by (test f) (numbers-chosen (i + 1) fs)
    where
      by : (b : Bool) → numbers (chosen (i + 1) fs) ≡ filter test fs
          → numbers (cond b (record { rank = i; function = f } ∷ chosen (i + 1) fs) (chosen (i + 1) fs)) ≡ cond b (f ∷ filter test fs) (filter test fs)
      by true rest = ap (λ list. f ∷ list) rest
      by false rest = rest

  none-lower : (s i : ℕ) (fs : List ℕ) → s ≤ i → lower s (chosen i fs) ≡ []
  none-lower s i [] past = refl
  none-lower s i (f ∷ fs) past = by (test f) (none-lower s (i + 1) fs (omega (arith, past)))
    where
      by : (b : Bool) → lower s (chosen (i + 1) fs) ≡ []
          → lower s (cond b (record { rank = i; function = f } ∷ chosen (i + 1) fs) (chosen (i + 1) fs)) ≡ []
      by true rest =
          take_while-cons (λ (ranked : Ranked). nat_lt ranked.rank s) (record { rank = i; function = f }) (chosen (i + 1) fs)
          ∙ ap (λ b. cond b (record { rank = i; function = f } ∷ lower s (chosen (i + 1) fs)) []) (le-ltb i s past)
      by false rest = rest

  -- those of a lower rank are the first functions
  pub numbers-lower : (s i : ℕ) (fs : List ℕ) → numbers (lower s (chosen i fs)) ≡ filter test (take (s - i) fs)
  numbers-lower s i [] =
      sym (none (s - i))
    where
      none : (n : ℕ) → filter test (take n []) ≡ []
      none zero = refl
      none (suc n) = refl
  numbers-lower s i (f ∷ fs) =
      ⊎_elim
      (λ (below : i < s).
      let more : s - i ≡ suc (s - (i + 1)) = omega (arith, below) in
      by (test f) below (numbers-lower s (i + 1) fs) ∙ sym (ap (λ n. filter test (take n (f ∷ fs))) more))
      (λ (past : s ≤ i).
      let none : s - i ≡ 0 = omega (arith, past) in
      ap numbers (none-lower s i (f ∷ fs) past) ∙ sym (ap (λ n. filter test (take n (f ∷ fs))) none))
      (cases_lt i s)
    where
      by : (b : Bool) → i < s → numbers (lower s (chosen (i + 1) fs)) ≡ filter test (take (s - (i + 1)) fs)
          → numbers (lower s (cond b (record { rank = i; function = f } ∷ chosen (i + 1) fs) (chosen (i + 1) fs)))
          ≡ cond b (f ∷ filter test (take (s - (i + 1)) fs)) (filter test (take (s - (i + 1)) fs))
      by true below rest =
          ap numbers
          (take_while-cons (λ (ranked : Ranked). nat_lt ranked.rank s) (record { rank = i; function = f }) (chosen (i + 1) fs)
          ∙ ap (λ b. cond b (record { rank = i; function = f } ∷ lower s (chosen (i + 1) fs)) []) (lt-ltb i s below))
          ∙ ap (λ list. f ∷ list) rest
      by false below rest = rest

-- ---- lists that are kept for each layer

-- what is kept for a layer that there is
pub kept-there : {X : Type 0} (lists : List (Vec X Global)) (k : ℕ) (own : Vec X Global)
    → slice_get lists k ≡ Some own → slice_index_or (map (λ (list : Vec X Global). list.items) lists) k [] ≡ own.items
kept-there [] k own at = absurd cc
kept-there {X} (list ∷ lists) zero own at = let same : list ≡ own = cc in ap (λ (l : Vec X Global). l.items) same
kept-there (list ∷ lists) (suc k) own at = kept-there lists k own at

module _ {X Y : Type 0} (f : X → Y) (d : Y) (new : X) where
  pub written-same : (xs : List X) (k : ℕ) → k < length xs → slice_index_or (map f (slice_set xs k new)) k d ≡ f new
  written-same [] k within = absurd (omega (arith, within))
  written-same (x ∷ xs) zero within = refl
  written-same (x ∷ xs) (suc k) within = written-same xs k (omega (arith, within))

  pub written-other : (xs : List X) (k other : ℕ) → (k ≡ other → ⊥)
      → slice_index_or (map f (slice_set xs k new)) other d ≡ slice_index_or (map f xs) other d
  written-other [] k other apart = refl
  written-other (x ∷ xs) zero zero apart = absurd (apart refl)
  written-other (x ∷ xs) zero (suc other) apart = refl
  written-other (x ∷ xs) (suc k) zero apart = refl
  written-other (x ∷ xs) (suc k) (suc other) apart = written-other xs k other (λ same. apart (ap suc same))

-- one more is kept for a layer
pub kept-more : {X : Type 0} (lists : List (Vec X Global)) (k : ℕ) (own new : Vec X Global) (x : X)
    → k < length lists
    → own ≡ get_or lists k own
    → new.items ≡ own.items ++ x ∷ []
    → (other : ℕ)
    → slice_index_or (map (λ (list : Vec X Global). list.items) (slice_set lists k new)) other []
    ≡ slice_index_or (map (λ (list : Vec X Global). list.items) lists) other [] ++ cond (k == other) (x ∷ []) []
kept-more {X} lists k own new x within at longer other =
    ⊎_elim
    (λ (same : k ≡ other).
    let items : Vec X Global → List X = λ list. list.items in
    ap (λ n. slice_index_or (map items (slice_set lists k new)) n []) (sym same)
    ∙ written-same items [] new lists k within
    ∙ longer
    ∙ ap (λ l. l ++ x ∷ []) (sym (slice_index_or-map items [] lists k own within at))
    ∙ ap (λ n. slice_index_or (map items lists) n [] ++ x ∷ []) same
    ∙ ap (λ b. slice_index_or (map items lists) other [] ++ cond b (x ∷ []) []) (sym (eq-eqb k other same)))
    (λ (apart : k ≡ other → ⊥).
    let items : Vec X Global → List X = λ list. list.items in
    written-other items [] new lists k other apart
    ∙ sym (append-nil (slice_index_or (map items lists) other []))
    ∙ ap (λ b. slice_index_or (map items lists) other [] ++ cond b (x ∷ []) []) (sym (ne_eqb k other apart)))
    (cases_eq k other)

-- ---- one function after another
