-- What is left over holds a round.
use Rattle.std.proofs.Common.{◌≡◌, ℕ, zero, suc, ◌+◌, ◌<◌, ◌≤◌, List, [], ◌∷◌, ◌++◌, length, take, drop, reverse}
use Rattle.std.proofs.Common.{get_or, refl, sym, ap, ◌∙◌, subst, arith, true, false, Bool, not, Some, Option, cond, ◌⊎◌}
use Rattle.std.proofs.Common.{inl, inr, ⊎_elim, min}
use Rattle.std.specs.Prelude.{◌==◌, ◌||◌}
use Rattle.std.specs.List.{position_or_len}
use Rattle.std.proofs.lemmas.Bool.{eqb-true, eq-eqb, ne_eqb, cases_eq, cases_lt, not-true, or_right}
use Rattle.std.proofs.lemmas.List.{append_assoc, append-nil, reverse-append, take-append-drop, drop_more}
use Rattle.std.proofs.lemmas.List.{same_from_push}
use Rattle.std.proofs.lemmas.List.Sums.{passes_at_first, sum_by-cons}
use Rattle.flame_spec.specs.Below.{is_in, times, HasNoTwice}
use Rattle.flame_spec.specs.ModelOrder.{order, first_left, step_back, from_there, repeated_part, walk_back, least_of}
use Rattle.flame_spec.specs.ModelOrder.{begun_at, begun_with_least, cycle_from, cycle}
use Rattle.flame_spec_laws.specs.OrderLaws.{IsChain, IsRound, IsCycle}
use Rattle.flame_spec.proofs.FirstBelow.{first_is_first, one, times-append, times_push, once_push}
use Rattle.flame_spec.proofs.Orders.{Relation, remaining, remaining_push, remaining_all, left_steps_back}
use Rattle.flame_spec.proofs.Counts.{position_or_len-is_in}

-- ---- chains

module _ (before : ℕ → ℕ → Bool) where
  pub chain_left : (xs ys : List ℕ) → IsChain before (xs ++ ys) → IsChain before xs
  chain_left [] ys c = tt
  chain_left (x ∷ []) ys c = tt
  chain_left (x ∷ y ∷ xs) ys c = (c.0, chain_left (y ∷ xs) ys c.1)

  pub tail : (x : ℕ) (xs : List ℕ) → IsChain before (x ∷ xs) → IsChain before xs
  tail x [] c = tt
  tail x (y ∷ ys) c = c.1

  pub chain_right : (xs ys : List ℕ) → IsChain before (xs ++ ys) → IsChain before ys
  chain_right [] ys c = c
  chain_right (x ∷ xs) ys c = chain_right xs ys (tail x (xs ++ ys) c)

  pub chain_join : (xs : List ℕ) (l : ℕ) (ys : List ℕ) → IsChain before (xs ++ l ∷ []) → IsChain before (l ∷ ys)
      → IsChain before (xs ++ l ∷ ys)
  chain_join [] l ys a b = b
  chain_join (x ∷ []) l ys a b = (a.0, b)
  chain_join (x ∷ y ∷ xs) l ys a b = (a.0, chain_join (y ∷ xs) l ys a.1 b)

  last_of : (x : ℕ) (xs : List ℕ) → (front : List ℕ) × ((l : ℕ) × (x ∷ xs ≡ front ++ l ∷ []))
  last_of x [] = ([], (x, refl))
  last_of x (y ∷ ys) = let more = last_of y ys in (x ∷ more.0, (more.1.0, ap (λ zs. x ∷ zs) more.1.1))

  -- a round begun elsewhere
  pub turned : (xs ys : List ℕ) → IsRound before (xs ++ ys) → IsRound before (ys ++ xs)
  turned [] ys r = let P : List ℕ → Type 0 = IsRound before in subst P (sym (append-nil ys)) r
  turned (x ∷ xs) [] r = let P : List ℕ → Type 0 = IsRound before in subst P (append-nil (x ∷ xs)) r
  turned (x ∷ xs) (y ∷ ys) r = go (last_of x xs) (last_of y ys)
    where
      go : (front : List ℕ) × ((l : ℕ) × (x ∷ xs ≡ front ++ l ∷ [])) → (front : List ℕ)
          × ((l : ℕ) × (y ∷ ys ≡ front ++ l ∷ [])) → IsRound before ((y ∷ ys) ++ (x ∷ xs))
      go a b =
          let P : List ℕ → Type 0 = IsChain before in
          let whole : (x ∷ xs) ++ (y ∷ ys) ≡ ((x ∷ xs) ++ b.0) ++ b.1.0 ∷ [] = ap (λ zs. (x ∷ xs) ++ zs) b.1.1
          ∙ sym (append_assoc (x ∷ xs) b.0 (b.1.0 ∷ [])) in
          let same : r.last ≡ b.1.0 = (same_from_push r.front ((x ∷ xs) ++ b.0) r.last b.1.0 (sym r.ends ∙ whole)).1 in
          let first : IsChain before (b.1.0 ∷ ((x ∷ xs) ++ (y ∷ ys))) =
          subst (λ k. IsChain before (k ∷ ((x ∷ xs) ++ (y ∷ ys)))) same r.closes in
          let head : IsChain before (b.1.0 ∷ (x ∷ xs)) = chain_left (b.1.0 ∷ (x ∷ xs)) (y ∷ ys) first in
          let cut : (x ∷ xs) ++ (y ∷ ys) ≡ a.0 ++ (a.1.0 ∷ (y ∷ ys)) = ap (λ zs. zs ++ (y ∷ ys)) a.1.1
          ∙ append_assoc a.0 (a.1.0 ∷ []) (y ∷ ys) in
          let rest : IsChain before (a.1.0 ∷ (y ∷ ys)) =
          chain_right a.0 (a.1.0 ∷ (y ∷ ys)) (subst P cut (tail b.1.0 ((x ∷ xs) ++ (y ∷ ys)) first)) in
          let ended : IsChain before ((a.1.0 ∷ b.0) ++ b.1.0 ∷ []) = subst P (ap (λ zs. a.1.0 ∷ zs) b.1.1) rest in
          let joined : IsChain before ((a.1.0 ∷ b.0) ++ b.1.0 ∷ (x ∷ xs)) =
          chain_join (a.1.0 ∷ b.0) b.1.0 (x ∷ xs) ended head in
          let back : (a.1.0 ∷ b.0) ++ b.1.0 ∷ (x ∷ xs) ≡ a.1.0 ∷ ((y ∷ ys) ++ (x ∷ xs)) =
          ap (λ zs. a.1.0 ∷ zs) (sym (ap (λ zs. zs ++ (x ∷ xs)) b.1.1 ∙ append_assoc b.0 (b.1.0 ∷ []) (x ∷ xs))) in
          record {
            front = (y ∷ ys) ++ a.0;
            last = a.1.0;
            ends = ap (λ zs. (y ∷ ys) ++ zs) a.1.1 ∙ sym (append_assoc (y ∷ ys) a.0 (a.1.0 ∷ []));
            closes = subst P back joined;
          }

  pub begun_round : (xs : List ℕ) → IsRound before xs → IsRound before (begun_with_least xs)
  begun_round [] r = r
  begun_round (x ∷ xs) r =
      let p = position_or_len (λ f. f == least_of x xs) (x ∷ xs) in
      turned (take p (x ∷ xs)) (drop p (x ∷ xs)) (let P : List ℕ → Type 0 = IsRound before in
      subst P (sym (take-append-drop p (x ∷ xs))) r)

-- ---- members, by how often they stand there

pub record AreOnce (n : ℕ) (xs : List ℕ) : Type 0 where
  pub once : HasNoTwice xs
  pub below : (x : ℕ) → 1 ≤ times x xs → x < n

pub fewer_once : (n : ℕ) (xs ys : List ℕ) → ((x : ℕ) → times x ys ≤ times x xs) → AreOnce n xs → AreOnce n ys
fewer_once n xs ys h old = record {
  once = λ x. omega (arith, h x, old.once x);
  below = λ x l. old.below x (omega (arith, h x));
}

pub times-reverse : (x : ℕ) (xs : List ℕ) → times x (reverse xs) ≡ times x xs
times-reverse x [] = refl
times-reverse x (y ∷ xs) =
    ap (times x) (reverse-append (y ∷ []) xs) ∙ times_push x y (reverse xs)
    ∙ ap (λ k. k + one (y == x)) (times-reverse x xs)
    ∙ sym (sum_by-cons (λ z. cond (z == x) 1 0) y xs ∙ omega arith)

times_parts : (x p : ℕ) (xs : List ℕ) → times x (take p xs) + times x (drop p xs) ≡ times x xs
times_parts x p xs = sym (times-append x (take p xs) (drop p xs)) ∙ ap (times x) (take-append-drop p xs)

times-begun_at : (x f : ℕ) (xs : List ℕ) → times x (begun_at f xs) ≡ times x xs
times-begun_at x f xs =
    let p = position_or_len (λ g. g == f) xs in
    let both : times x (drop p xs ++ take p xs) ≡ times x (drop p xs) + times x (take p xs) =
    times-append x (drop p xs) (take p xs) in
    omega (arith, both, times_parts x p xs)

pub times-begun : (x : ℕ) (xs : List ℕ) → times x (begun_with_least xs) ≡ times x xs
times-begun x [] = refl
times-begun x (y ∷ xs) = times-begun_at x (least_of y xs) (y ∷ xs)

times_cons : (x y : ℕ) (xs : List ℕ) → times x (y ∷ xs) ≡ one (y == x) + times x xs
times_cons x y xs = sum_by-cons (λ z. cond (z == x) 1 0) y xs

pub at_least_one : (xs : List ℕ) (i : ℕ) → i < length xs → 1 ≤ times (get_or xs i 0) xs
at_least_one [] i h = absurd (omega arith)
at_least_one (x ∷ xs) zero h = let here : one (x == x) ≡ 1 = ap one (eq-eqb x x refl) in
    omega (arith, here, times_cons x x xs)
at_least_one (x ∷ xs) (suc i) h = omega (arith, at_least_one xs i (omega arith), times_cons (get_or xs i 0) x xs)

-- ---- the least member

least_below : (m : ℕ) (xs : List ℕ) → least_of m xs ≤ m
least_below m [] = omega arith
least_below m (x ∷ xs) = omega (arith, least_below (min m x) xs)

least_is_least : (m : ℕ) (xs : List ℕ) (x : ℕ) → 1 ≤ times x xs → least_of m xs ≤ x
least_is_least m [] x h = let none : times x [] ≡ 0 = refl in absurd (omega (arith, none))
least_is_least m (y ∷ xs) x h = ⊎_elim
    (λ e. omega (arith, least_below (min m y) xs))
    (λ e. let none : one (y == x) ≡ 0 = ap one (ne_eqb y x e) in
    least_is_least (min m y) xs x (omega (arith, none, times_cons x y xs)))
    (cases_eq y x)

least_there : (m : ℕ) (xs : List ℕ) → is_in (least_of m xs) (m ∷ xs) ≡ true
least_there m [] = ap (λ b. b || false) (eq-eqb m m refl)
least_there m (x ∷ xs) = go (x == least_of (min m x) xs) (min_cases m x) (least_there (min m x) xs)
  where
    min_cases : (a b : ℕ) → (min a b ≡ a) ⊎ (min a b ≡ b)
    min_cases a b = ⊎_elim (λ l. inl (omega arith)) (λ l. inr (omega arith)) (cases_lt a b)

    go : (b : Bool) → (min m x ≡ m) ⊎ (min m x ≡ x)
        → ((min m x == least_of (min m x) xs) || is_in (least_of (min m x) xs) xs) ≡ true
        → ((m == least_of (min m x) xs) ||
        ((x == least_of (min m x) xs) || is_in (least_of (min m x) xs) xs)) ≡ true
    go b c h = ⊎_elim
        (λ e. left (m == least_of (min m x) xs) (x == least_of (min m x) xs) (is_in (least_of (min m x) xs) xs)
        (sym (ap (λ k. (k == least_of (min m x) xs) || is_in (least_of (min m x) xs) xs) e) ∙ h))
        (λ e. or_right (m == least_of (min m x) xs) ((x == least_of (min m x) xs) || is_in (least_of (min m x) xs) xs)
        (sym (ap (λ k. (k == least_of (min m x) xs) || is_in (least_of (min m x) xs) xs) e) ∙ h))
        c
      where
        left : (a b t : Bool) → (a || t) ≡ true → (a || (b || t)) ≡ true
        left true b t h = refl
        left false true t h = refl
        left false false t h = h

-- ---- the place of a member

begun_head : (f : ℕ) (xs : List ℕ) → is_in f xs ≡ true → get_or (begun_at f xs) 0 0 ≡ f
begun_head f xs h =
    let p = position_or_len (λ g. g == f) xs in
    let l = position_or_len-is_in f xs h in
    ap (λ ys. get_or (ys ++ take p xs) 0 0) (drop_more xs p 0 l)
    ∙ eqb-true (get_or xs p 0) f (passes_at_first (λ g. g == f) xs 0 l)

pub begun_least : (xs : List ℕ) (place : ℕ) → place < length (begun_with_least xs)
    → get_or (begun_with_least xs) 0 0 ≤ get_or (begun_with_least xs) place 0
begun_least [] place h = absurd (omega arith)
begun_least (x ∷ xs) place h =
    let m = least_of x xs in
    let head : get_or (begun_at m (x ∷ xs)) 0 0 ≡ m = begun_head m (x ∷ xs) (least_there x xs) in
    let y = get_or (begun_at m (x ∷ xs)) place 0 in
    let there : 1 ≤ times y (x ∷ xs) =
    omega (arith, at_least_one (begun_at m (x ∷ xs)) place h, times-begun_at y m (x ∷ xs)) in
    let low : m ≤ y = ⊎_elim
    (λ e. omega (arith, least_below x xs))
    (λ e. let none : one (x == y) ≡ 0 = ap one (ne_eqb x y e) in
    least_is_least x xs y (omega (arith, none, there, times_cons y x xs)))
    (cases_eq x y) in
    omega (arith, head, low)

-- ---- the walk comes round

pub record HasBack (n : ℕ) (before : Relation) (left : ℕ → Bool) (back : ℕ → Option ℕ) : Type 0 where
  pub step : (g : ℕ) → g < n → left g ≡ true → (f : ℕ)
      × ((back g ≡ Some f) × (f < n) × (left f ≡ true) × (before f g ≡ true))

module _ (n : ℕ) (before : ℕ → ℕ → Bool) (left : ℕ → Bool) (back : ℕ
    → Option ℕ) (has : HasBack n before left back) where
  repeats : (path : List ℕ) (g : ℕ) → is_in g path ≡ true → IsChain before (g ∷ reverse path)
      → IsRound before (repeated_part path g)
  repeats path g h c =
      let p = position_or_len (λ f. f == g) path in
      let l = position_or_len-is_in g path h in
      let P : List ℕ → Type 0 = IsChain before in
      let at : get_or path p 0 ≡ g = eqb-true _ g (passes_at_first (λ f. f == g) path 0 l) in
      let cut : drop p path ≡ g ∷ drop (p + 1) path = drop_more path p 0 l ∙ ap (λ k. k ∷ drop (p + 1) path) at in
      let ended : reverse (drop p path) ≡ reverse (drop (p + 1) path) ++ g ∷ [] = ap reverse cut
      ∙ reverse-append (g ∷ []) (drop (p + 1) path) in
      let whole : reverse path ≡ reverse (drop p path) ++ reverse (take p path) =
      sym (ap reverse (take-append-drop p path)) ∙ reverse-append (take p path) (drop p path) in
      record {
        front = reverse (drop (p + 1) path);
        last = g;
        ends = ended;
        closes =
            chain_left before (g ∷ reverse (drop p path)) (reverse (take p path)) (subst P (ap (λ l. g ∷ l) whole) c);
      }

  repeats_once : (path : List ℕ) (g : ℕ) → AreOnce n path → AreOnce n (repeated_part path g)
  repeats_once path g o =
      let p = position_or_len (λ f. f == g) path in
      fewer_once n path (reverse (drop p path))
      (λ x. omega (arith, times-reverse x (drop p path), times_parts x p path)) o

  once_more : (path : List ℕ) (g : ℕ) → g < n → is_in g path ≡ false → AreOnce n path → AreOnce n (path ++ g ∷ [])
  once_more path g l h o = record {
    once = once_push g path h o.once;
    below = λ x q. ⊎_elim
        (λ e. let P : ℕ → Type 0 = λ k. k < n in subst P e l)
        (λ e. let none : one (g == x) ≡ 0 = ap one (ne_eqb g x e) in
        o.below x (omega (arith, none, times_push x g path)))
        (cases_eq g x);
  }

  pub walk_round : (k : ℕ) (path : List ℕ) (g : ℕ) → remaining n path < k → g < n → left g ≡ true
      → IsChain before (g ∷ reverse path) → AreOnce n path → IsRound before (walk_back k back path g)
      × AreOnce n (walk_back k back path g)
  walk_round zero path g r l t c o = absurd (omega arith)
  walk_round (suc k) path g r l t c o = go (is_in g path) refl (has.step g l t) (λ f. walk_round k (path ++ g ∷ []) f)
    where
      go : (b : Bool) → is_in g path ≡ b
          → (f : ℕ) × ((back g ≡ Some f) × (f < n) × (left f ≡ true) × (before f g ≡ true))
          → ((f : ℕ) → remaining n (path ++ g ∷ []) < k → f < n → left f ≡ true
          → IsChain before (f ∷ reverse (path ++ g ∷ [])) → AreOnce n (path ++ g ∷ [])
          → IsRound before (walk_back k back (path ++ g ∷ []) f)
          × AreOnce n (walk_back k back (path ++ g ∷ []) f))
          → IsRound before (cond b (repeated_part path g) (from_there (back g) (walk_back k back (path ++ g ∷ []))))
          × AreOnce n (cond b (repeated_part path g) (from_there (back g) (walk_back k back (path ++ g ∷ []))))
      go true e s rest = (repeats path g e c, repeats_once path g o)
      go false e s rest =
          let P : List ℕ → Type 0 = IsChain before in
          let Q : List ℕ → Type 0 = λ xs. IsRound before xs × AreOnce n xs in
          let longer : IsChain before (s.0 ∷ reverse (path ++ g ∷ [])) =
          subst P (ap (λ l. s.0 ∷ l) (sym (reverse-append path (g ∷ [])))) (s.1.3, c) in
          subst Q (ap (λ o. from_there o (walk_back k back (path ++ g ∷ []))) (sym s.1.0))
          (rest s.0 (omega (arith, remaining_push n path g l e)) s.1.1 s.1.2 longer (once_more path g l e o))

-- ---- where a function is left over, there is a cycle

pub left_back : (n : ℕ) (before : Relation)
    → HasBack n before (λ g. not (is_in g (order n before))) (step_back n before)
left_back n before = record {
  step = λ g l h. let s = left_steps_back n before g l (not-true _ h) in (s.0, (s.1.0, s.1.1, ap not s.1.2, s.1.3));
}

pub nothing_once : (n : ℕ) → AreOnce n []
nothing_once n = record {
  once = λ x. let none : times x [] ≡ 0 = refl in omega (arith, none);
  below = λ x h. let none : times x [] ≡ 0 = refl in absurd (omega (arith, none));
}

pub cycle_is_cycle : (n : ℕ) (before : Relation) (g : ℕ) → first_left n before ≡ Some g
    → IsCycle n before (cycle_from n before g)
cycle_is_cycle n before g e =
    let found = first_is_first (λ g. not (is_in g (order n before))) n g e in
    let walked =
    walk_round n before (λ g. not (is_in g (order n before))) (step_back n before) (left_back n before)
    (n + 1) [] g (omega (arith, remaining_all n)) found.below found.passes tt (nothing_once n) in
    let path = walk_back (n + 1) (step_back n before) [] g in
    let once : AreOnce n (begun_with_least path) =
    fewer_once n path (begun_with_least path) (λ x. omega (arith, times-begun x path)) walked.1 in
    record {
      round = begun_round before path walked.0;
      once = once.once;
      first = begun_least path;
      below = λ place l. once.below _ (at_least_one (begun_with_least path) place l);
    }

pub left_has_cycle : (n : ℕ) (before : Relation) (g : ℕ) → first_left n before ≡ Some g
    → IsCycle n before (cycle n before)
left_has_cycle n before g e = let P : List ℕ → Type 0 = IsCycle n before in
    subst P (sym (ap (λ o. from_there o (cycle_from n before)) e)) (cycle_is_cycle n before g e)
