-- Heights along the order.
use mathlib.Core.Bool.{or-true}
use Rattle.std.proofs.Common.{◌≡◌, ℕ, ◌+◌, ◌<◌, ◌≤◌, List, [], ◌∷◌, ◌++◌, length, take, get_or, refl, sym, ap, ◌∙◌, subst, arith, true, false, Bool, None, cond, ⊎_elim, max}
use Rattle.std.specs.Prelude.{◌==◌, ◌||◌}
use Rattle.std.proofs.lemmas.Bool.{eq-eqb, eqb-true, false≢true, or_cases}
use Rattle.flame_spec.specs.Below.{is_in}
use Rattle.flame_spec.specs.ModelOrder.{order, first_left}
use Rattle.flame_spec.specs.Layers.{above, layer}
use Rattle.flame_spec.proofs.Orders.{Relation, IsOrder, order_is_order, ready_taken, none_left_over}
use Rattle.flame_spec.proofs.Heights.{above_over, above_under, layer_above}
use Rattle.flame_graph.specs.Heights.{lifted, reached}

pub lifted_or : (to : ℕ) (a b : Bool) (x : ℕ) → lifted to b (lifted to a x) ≡ lifted to (a || b) x
lifted_or to true true x = omega arith
lifted_or to true false x = refl
lifted_or to false b x = refl

pub reached_push : (before : Relation) (height : ℕ → ℕ) (fs : List ℕ) (f g : ℕ) → reached before height (fs ++ f ∷ []) g ≡ lifted (height f + 1) (before f g) (reached before height fs g)
reached_push before height [] f g = go (before f g)
  where
    go : (b : Bool) → max (cond b (height f + 1) 0) 0 ≡ lifted (height f + 1) b 0
    go true = omega arith
    go false = omega arith
reached_push before height (x ∷ fs) f g = ap (max (cond (before x g) (height x + 1) 0)) (reached_push before height fs f g) ∙ go (before f g)
  where
    go : (b : Bool) → max (cond (before x g) (height x + 1) 0) (lifted (height f + 1) b (reached before height fs g)) ≡ lifted (height f + 1) b (max (cond (before x g) (height x + 1) 0) (reached before height fs g))
    go true = omega arith
    go false = refl

reached_over : (before : Relation) (height : ℕ → ℕ) (fs : List ℕ) (p g : ℕ) → is_in p fs ≡ true → before p g ≡ true → height p + 1 ≤ reached before height fs g
reached_over before height [] p g h b = absurd (false≢true h)
reached_over before height (x ∷ fs) p g h b = ⊎_elim
    (λ e. let same : x ≡ p = eqb-true x p e in
    let here : cond (before x g) (height x + 1) 0 ≡ height p + 1 = ap (λ k. cond (before k g) (height k + 1) 0) same ∙ ap (λ t. cond t (height p + 1) 0) b in
    most (cond (before x g) (height x + 1) 0) (reached before height fs g) here)
    (λ e. rest (cond (before x g) (height x + 1) 0) (reached before height fs g) (reached_over before height fs p g e b))
    (or_cases (x == p) (is_in p fs) h)
  where
    most : (a c : ℕ) → a ≡ height p + 1 → height p + 1 ≤ max a c
    most a c e = omega arith

    rest : (a c : ℕ) → height p + 1 ≤ c → height p + 1 ≤ max a c
    rest a c e = omega arith

reached_under : (before : Relation) (height : ℕ → ℕ) (fs : List ℕ) (g m : ℕ) → ((p : ℕ) → is_in p fs ≡ true → before p g ≡ true → height p + 1 ≤ m) → reached before height fs g ≤ m
reached_under before height [] g m h = omega arith
reached_under before height (x ∷ fs) g m h = go (before x g) refl (reached_under before height fs g m (λ p t b. h p (ap (λ c. (x == p) || c) t ∙ or-true (x == p)) b))
  where
    go : (b : Bool) → before x g ≡ b → reached before height fs g ≤ m → max (cond b (height x + 1) 0) (reached before height fs g) ≤ m
    go true e rest = let here = h x (ap (λ c. c || is_in x fs) (eq-eqb x x refl)) e in omega (arith, here, rest)
    go false e rest = omega (arith, rest)

-- where all that stand before g are in the list, what they reach is the height above them
reached_all : (n : ℕ) (before : Relation) (height : ℕ → ℕ) (fs : List ℕ) (g : ℕ) → ((p : ℕ) → before p g ≡ true → p < n) → ((p : ℕ) → p < n → before p g ≡ true → is_in p fs ≡ true) → reached before height fs g ≡ above n before height g
reached_all n before height fs g inside all =
    let low = reached_under before height fs g (above n before height g) (λ p t b. above_over n before height g p (inside p b) b) in
    let high = above_under n before height g (reached before height fs g) (λ p l b. reached_over before height fs p g (all p l b) b) in
    omega (arith, low, high)

-- what is reached at a node when its turn comes is its layer
pub reached_turn : (n : ℕ) (before : Relation) (fs : List ℕ) (i : ℕ) → fs ≡ order n before → first_left n before ≡ None → ((p g : ℕ) → before p g ≡ true → p < n) → i < length fs → reached before (layer n before) (take i fs) (get_or fs i 0) ≡ layer n before (get_or fs i 0)
reached_turn n before fs i e none inside l =
    let P : List ℕ → Type 0 = IsOrder n before in
    let o = subst P (sym e) (order_is_order n before) in
    let g = get_or fs i 0 in
    reached_all n before (layer n before) (take i fs) g (λ p b. inside p g b) (ready_taken n before (take i fs) g (o.ready i l))
    ∙ sym (layer_above n before none g (o.below i l))

-- what is reached by the whole order are the layers
pub reached_end : (n : ℕ) (before : Relation) (fs : List ℕ) (g : ℕ) → fs ≡ order n before → first_left n before ≡ None → ((p g : ℕ) → before p g ≡ true → p < n) → g < n → reached before (layer n before) fs g ≡ layer n before g
reached_end n before fs g e none inside l =
    reached_all n before (layer n before) fs g (λ p b. inside p g b) (λ p k b. ap (is_in p) e ∙ none_left_over n before none p k)
    ∙ sym (layer_above n before none g l)
