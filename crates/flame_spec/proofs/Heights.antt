-- Layers along the model order.
use Rattle.std.proofs.Common.{◌≡◌, ℕ, zero, suc, ◌+◌, ◌<◌, ◌≤◌, List, [], ◌∷◌, ◌++◌, length, refl, sym, ap, ◌∙◌, subst, arith, true, false, Bool, None, cond, ⊎_elim, max}
use Rattle.std.specs.Prelude.{◌==◌}
use Rattle.std.proofs.lemmas.Bool.{eqb-true, false≢true, cases_eq, cases_lt, or_cases}
use Rattle.std.proofs.lemmas.List.{length_push}
use Rattle.flame_spec.specs.Below.{is_in}
use Rattle.flame_spec.specs.ModelOrder.{order, first_left}
use Rattle.flame_spec.specs.Layers.{above, layer_within, layer}
use Rattle.flame_spec.proofs.FirstBelow.{is_in_push, below_last}
use Rattle.flame_spec.proofs.Orders.{Relation, IsNext, ready_taken, order_keeps, order_length, none_left_over}

-- ---- the height above what stands before

pub above_over : (n : ℕ) (before : Relation) (height : ℕ → ℕ) (g f : ℕ) → f < n → before f g ≡ true → height f + 1 ≤ above n before height g
above_over zero before height g f l b = absurd (omega arith)
above_over (suc n) before height g f l b = ⊎_elim
    (λ e. let P : ℕ → Type 0 = λ k. height k + 1 ≤ max (above n before height g) (cond (before k g) (height k + 1) 0) in
    let Q : Bool → Type 0 = λ t. height f + 1 ≤ max (above n before height g) (cond t (height f + 1) 0) in
    let here : height f + 1 ≤ max (above n before height g) (cond (before f g) (height f + 1) 0) = subst Q (sym b) (most (above n before height g) (height f + 1)) in
    let R : ℕ → Type 0 = λ k. height f + 1 ≤ max (above n before height g) (cond (before k g) (height k + 1) 0) in
    subst R (sym e) here)
    (λ e. let rest = above_over n before height g f (below_last f n e l) b in least_most (above n before height g) (cond (before n g) (height n + 1) 0) (height f + 1) rest)
    (cases_eq n f)
  where
    most : (a b : ℕ) → b ≤ max a b
    most a b = omega arith

    least_most : (a b c : ℕ) → c ≤ a → c ≤ max a b
    least_most a b c h = omega arith

pub above_under : (n : ℕ) (before : Relation) (height : ℕ → ℕ) (g m : ℕ) → ((f : ℕ) → f < n → before f g ≡ true → height f + 1 ≤ m) → above n before height g ≤ m
above_under zero before height g m h = omega arith
above_under (suc n) before height g m h = go (before n g) refl (above_under n before height g m (λ f l b. h f (omega arith) b))
  where
    go : (b : Bool) → before n g ≡ b → above n before height g ≤ m → max (above n before height g) (cond b (height n + 1) 0) ≤ m
    go true e rest = omega (arith, rest, h n (omega arith) e)
    go false e rest = omega (arith, rest)

pub above_agree : (n : ℕ) (before : Relation) (height other : ℕ → ℕ) (g : ℕ) → ((f : ℕ) → f < n → before f g ≡ true → height f ≡ other f) → above n before height g ≡ above n before other g
above_agree zero before height other g h = refl
above_agree (suc n) before height other g h = go (before n g) refl (above_agree n before height other g (λ f l b. h f (omega arith) b))
  where
    go : (b : Bool) → before n g ≡ b → above n before height g ≡ above n before other g → max (above n before height g) (cond b (height n + 1) 0) ≡ max (above n before other g) (cond b (other n + 1) 0)
    go true e rest = ap (λ k. max (above n before height g) (k + 1)) (h n (omega arith) e) ∙ ap (λ k. max k (other n + 1)) rest
    go false e rest = ap (λ k. max k 0) rest

pub above_reached : (n : ℕ) (before : Relation) (height : ℕ → ℕ) (g m : ℕ) → above n before height g ≡ suc m → (f : ℕ) × ((f < n) × (before f g ≡ true) × (height f ≡ m))
above_reached zero before height g m e = absurd (omega (arith, e))
above_reached (suc n) before height g m e = go (before n g) refl e (above_reached n before height g m)
  where
    Found : ℕ → Type 0
    Found k = (f : ℕ) × ((f < k) × (before f g ≡ true) × (height f ≡ m))

    go : (b : Bool) → before n g ≡ b → max (above n before height g) (cond b (height n + 1) 0) ≡ suc m → (above n before height g ≡ suc m → (f : ℕ) × ((f < n) × (before f g ≡ true) × (height f ≡ m))) → (f : ℕ) × ((f < suc n) × (before f g ≡ true) × (height f ≡ m))
    go true q e rest = ⊎_elim
        (λ l. (n, (omega arith, q, omega (arith, e, l))))
        (λ l. let r = rest (omega (arith, e, l)) in (r.0, (omega (arith, r.1.0), r.1.1, r.1.2)))
        (cases_lt (above n before height g) (height n + 1))
    go false q e rest = let r = rest (omega (arith, e)) in (r.0, (omega (arith, r.1.0), r.1.1, r.1.2))

-- ---- layers stay as they are from as many steps on as the order is long

pub record IsSteady (n : ℕ) (before : Relation) (fs : List ℕ) : Type 0 where
  pub steady : (f : ℕ) → is_in f fs ≡ true → (k : ℕ) → length fs ≤ k → layer_within k n before f ≡ layer_within (suc k) n before f

steady_push : (n : ℕ) (before : Relation) (fs : List ℕ) (g : ℕ) → IsNext n before fs g → IsSteady n before fs → IsSteady n before (fs ++ g ∷ [])
steady_push n before fs g now old = record { steady = λ f h k q. go f h k q (length_push fs g) }
  where
    again : (k : ℕ) → length fs ≤ k → layer_within (suc k) n before g ≡ layer_within (suc (suc k)) n before g
    again k q = above_agree n before (layer_within k n before) (layer_within (suc k) n before) g (λ f l b. old.steady f (ready_taken n before fs g now.ready f l b) k q)

    go : (f : ℕ) → is_in f (fs ++ g ∷ []) ≡ true → (k : ℕ) → length (fs ++ g ∷ []) ≤ k → length (fs ++ g ∷ []) ≡ length fs + 1 → layer_within k n before f ≡ layer_within (suc k) n before f
    go f h zero q e = absurd (omega (arith, e))
    go f h (suc k) q e = ⊎_elim
        (λ t. old.steady f t (suc k) (omega (arith, e)))
        (λ t. let same : g ≡ f = eqb-true g f t in ap (λ x. layer_within (suc k) n before x) (sym same) ∙ again k (omega (arith, e)) ∙ ap (λ x. layer_within (suc (suc k)) n before x) same)
        (or_cases (is_in f fs) (g == f) (sym (is_in_push f g fs) ∙ h))

pub order_steady : (n : ℕ) (before : Relation) → IsSteady n before (order n before)
order_steady n before = order_keeps n before (IsSteady n before) (steady_push n before) n [] (record { steady = λ f h k q. absurd (false≢true h) })

-- ---- without a cycle

pub layer_above : (n : ℕ) (before : Relation) → first_left n before ≡ None → (g : ℕ) → g < n → layer n before g ≡ above n before (layer n before) g
layer_above n before e g l = (order_steady n before).steady g (none_left_over n before e g l) n (omega (arith, order_length n n before []))

pub layer_rises : (n : ℕ) (before : Relation) → first_left n before ≡ None → (f g : ℕ) → f < n → g < n → before f g ≡ true → layer n before f < layer n before g
layer_rises n before e f g p q b = omega (arith, layer_above n before e g q, above_over n before (layer n before) g f p b)

pub layer_has_below : (n : ℕ) (before : Relation) → first_left n before ≡ None → (g below : ℕ) → g < n → layer n before g ≡ suc below → (f : ℕ) × (f < n) × (before f g ≡ true) × (layer n before f ≡ below)
layer_has_below n before e g below l h = let r = above_reached n before (layer n before) g below (sym (layer_above n before e g l) ∙ h) in (r.0, r.1.0, r.1.1, r.1.2)
