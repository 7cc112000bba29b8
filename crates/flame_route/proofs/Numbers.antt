-- The numbers of the functions of one type among those of all types.
use Rattle.std.proofs.Common.{◌≡◌, ℕ, zero, suc, ◌+◌, ◌<◌, List, [], ◌∷◌, ◌++◌, length, map, take, Bool, true, false, cond, Some, refl, sym, ap, ◌∙◌, arith, append_assoc, eq-eqb, append-nil}
use Rattle.std.specs.Prelude.{◌==◌, ◌&&◌, slice_get}
use Rattle.std.specs.Str.{bytes_eq}
use Rattle.std.proofs.lemmas.Bool.Decides.{nat_tests}
use Rattle.std.proofs.lemmas.List.{length-append}
use Rattle.flame_rows.proofs.Truths.{eqb-above}
use Rattle.flame_spec.specs.declared.models.AgentType.{AgentType}
use Rattle.flame_spec.specs.declared.models.Function.{Function}
use Rattle.flame_spec.specs.Choice.{leaves}
use Rattle.flame_spec.specs.Functions.{Place, at_type, functions_from}
use Rattle.flame_spec.specs.Lists.{numbers_from}
use Rattle.flame_route.specs.TypeRoutes.{numbers_out}

pub numbers-append :
    {X : Type 0} (passes : X → Bool) (i : ℕ) (xs ys : List X)
    → numbers_from passes i (xs ++ ys) ≡ numbers_from passes i xs ++ numbers_from passes (i + length xs) ys
numbers-append passes i [] ys = let e : i ≡ i + 0 = omega arith in ap (λ n. numbers_from passes n ys) e
numbers-append passes i (x ∷ xs) ys =
    let n = length xs in
    let e : i + 1 + n ≡ i + suc n = omega arith in
    go (passes x)
    (numbers-append passes (i + 1) xs ys ∙ ap (λ k. numbers_from passes (i + 1) xs ++ numbers_from passes k ys) e)
  where
    go :
        (b : Bool)
        → numbers_from passes (i + 1) (xs ++ ys)
        ≡ numbers_from passes (i + 1) xs ++ numbers_from passes (i + suc (length xs)) ys
        → cond b (i ∷ numbers_from passes (i + 1) (xs ++ ys)) (numbers_from passes (i + 1) (xs ++ ys))
        ≡ cond b (i ∷ numbers_from passes (i + 1) xs) (numbers_from passes (i + 1) xs)
        ++ numbers_from passes (i + suc (length xs)) ys
    go true e = ap (λ ns. i ∷ ns) e
    go false e = e

-- of the functions of a type those leave a state of it that leave the state
numbers-own :
    (n first : ℕ) (type : AgentType) (functions : List Function) (state : List ℕ)
    → numbers_from (leaves n state) first (map (at_type n type) functions) ≡ numbers_out first functions state
numbers-own n first type [] state = refl
numbers-own n first type (f ∷ fs) state =
    let rest = numbers_from (leaves n state) (first + 1) (map (at_type n type) fs) in
    ap (λ b. cond (b && bytes_eq f.current state) (first ∷ rest) rest) (eq-eqb n n refl)
    ∙ ap (λ ns. cond (bytes_eq f.current state) (first ∷ ns) ns) (numbers-own n (first + 1) type fs state)

-- none of those of another type does
numbers-other :
    (n m first : ℕ) (type : AgentType) (functions : List Function) (state : List ℕ)
    → (m == n) ≡ false
    → numbers_from (leaves n state) first (map (at_type m type) functions) ≡ []
numbers-other n m first type [] state apart = refl
numbers-other n m first type (f ∷ fs) state apart =
    let rest = numbers_from (leaves n state) (first + 1) (map (at_type m type) fs) in
    ap (λ b. cond (b && bytes_eq f.current state) (first ∷ rest) rest) apart
    ∙ numbers-other n m (first + 1) type fs state apart

below : (n m i : ℕ) → n ≡ m + suc i → (m == n) ≡ false
below n m i h = grind (arith, nat_tests)

-- none of those of later types does
numbers-later :
    (n a first : ℕ) (types : List AgentType) (state : List ℕ)
    → n < a
    → numbers_from (leaves n state) first (functions_from a types) ≡ []
numbers-later n a first [] state h = refl
numbers-later n a first (type ∷ types) state h =
    let own = map (at_type a type) type.functions in
    numbers-append (leaves n state) first own (functions_from (a + 1) types)
    ∙ ap (λ ns. ns ++ numbers_from (leaves n state) (first + length own) (functions_from (a + 1) types))
    (numbers-other n a first type type.functions state (eqb-above a n h))
    ∙ numbers-later n (a + 1) (first + length own) types state (omega (arith, h))

-- of the functions of all types those leave a state of one that are its own and leave the state
pub numbers-of-type :
    (n a i first : ℕ) (types : List AgentType) (type : AgentType) (state : List ℕ)
    → n ≡ a + i
    → slice_get types i ≡ Some type
    → numbers_from (leaves n state) first (functions_from a types)
    ≡ numbers_out (first + length (functions_from a (take i types))) type.functions state
numbers-of-type n a i first [] type state e at = absurd (cc)
numbers-of-type n a zero first (t ∷ ts) type state e at =
    let same : t ≡ type = cc in
    let here : a ≡ n = omega (arith, e) in
    let later : n < a + 1 = omega (arith, e) in
    let none : first ≡ first + 0 = omega arith in
    let own = map (at_type a t) t.functions in
    numbers-append (leaves n state) first own (functions_from (a + 1) ts)
    ∙ ap (λ ns. numbers_from (leaves n state) first own ++ ns) (numbers-later n (a + 1) (first + length own) ts state later)
    ∙ append-nil (numbers_from (leaves n state) first own)
    ∙ ap (λ m. numbers_from (leaves n state) first (map (at_type m t) t.functions)) here
    ∙ numbers-own n first t t.functions state
    ∙ ap (λ k. numbers_out k t.functions state) none
    ∙ ap (λ (k : AgentType). numbers_out (first + 0) k.functions state) same
numbers-of-type n a (suc i) first (t ∷ ts) type state e at =
    let own = map (at_type a t) t.functions in
    let before = functions_from (a + 1) (take i ts) in
    let many : first + length own + length before ≡ first + length (own ++ before) =
    omega (arith, length-append own before) in
    numbers-append (leaves n state) first own (functions_from (a + 1) ts)
    ∙ ap (λ ns. ns ++ numbers_from (leaves n state) (first + length own) (functions_from (a + 1) ts))
    (numbers-other n a first t t.functions state (below n a i e))
    ∙ numbers-of-type n (a + 1) i (first + length own) ts type state (omega (arith, e)) at
    ∙ ap (λ k. numbers_out k type.functions state) many

-- the functions of one type more
pub functions-more :
    (a i : ℕ) (types : List AgentType) (type : AgentType)
    → slice_get types i ≡ Some type
    → functions_from a (take (suc i) types)
    ≡ functions_from a (take i types) ++ map (at_type (a + i) type) type.functions
functions-more a i [] type at = absurd (cc)
functions-more a zero (t ∷ ts) type at =
    let same : t ≡ type = cc in
    let none : a ≡ a + 0 = omega arith in
    none-behind (map (at_type a t) t.functions)
    ∙ ap (λ (k : AgentType). map (at_type a k) k.functions) same
    ∙ ap (λ m. map (at_type m type) type.functions) none
  where
    none-behind : (places : List Place) → places ++ [] ≡ places
    none-behind [] = refl
    none-behind (place ∷ places) = ap (λ ps. place ∷ ps) (none-behind places)
functions-more a (suc i) (t ∷ ts) type at =
    let own = map (at_type a t) t.functions in
    let next : a + 1 + i ≡ a + suc i = omega arith in
    ap (λ ps. own ++ ps) (functions-more (a + 1) i ts type at)
    ∙ sym (append_assoc own (functions_from (a + 1) (take i ts)) (map (at_type (a + 1 + i) type) type.functions))
    ∙ ap (λ m. (own ++ functions_from (a + 1) (take i ts)) ++ map (at_type m type) type.functions) next
