-- Variables stand within rows, and what is numbered stands at its number.
use Rattle.std.proofs.Common.{◌≡◌, ℕ, suc, ◌+◌, ◌≤◌, List, [], ◌∷◌, ◌++◌, map, Some, Bool, true, false, cond, refl, sym}
use Rattle.std.proofs.Common.{ap, ◌∙◌, arith}
use Rattle.std.specs.Prelude.{slice_get, slice_index_or, option_map}
use Rattle.std.specs.Str.{bytes_eq}
use Rattle.std.proofs.lemmas.Option.{slice_get-map, get_or_from_slice_get}
use Rattle.std.proofs.lemmas.Slice.Eq.{bytes_eq-Decides}
use Rattle.flame_spec.specs.declared.models.MessageType.{MessageType}
use Rattle.flame_spec.specs.declared.models.Variable.{Variable}
use Rattle.flame_spec.specs.Columns.{width, width_of, columned_from, columned_where}
use Rattle.flame_spec.specs.KnownNames.{variables_in}
use Rattle.flame_spec.specs.Lists.{numbered_from}

-- ---- no faults

-- what is false proves all
pub never : {X : Type 0} → false ≡ true → X
never h = absurd (cc)

-- ---- what is found

pub same-number : {X : Type 0} (p q : ℕ × X) → Some p ≡ Some q → p.0 ≡ q.0
same-number p q h = let same : p ≡ q = cc in ap (λ o. o.0) same

pub same-found : {X : Type 0} (p q : ℕ × X) → Some p ≡ Some q → p.1 ≡ q.1
same-found p q h = let same : p ≡ q = cc in ap (λ o. o.1) same

-- ---- columns

pub columned-within :
    (passes : Variable → Bool) (from : ℕ) (variables : List Variable) (c : ℕ) (v : Variable)
    → columned_from passes from variables ≡ Some (c, v)
    → c + width_of v ≤ from + width variables
columned-within passes from [] c v h = absurd (cc)
columned-within passes from (x ∷ xs) c v h = by_test (passes x) (columned-within passes (from + width_of x) xs c v) h
  where
    by_test :
        (b : Bool)
        → (columned_from passes (from + width_of x) xs ≡ Some (c, v) → c + width_of v ≤ from + width_of x + width xs)
        → cond b (Some (from, x)) (columned_from passes (from + width_of x) xs) ≡ Some (c, v)
        → c + width_of v ≤ from + width (x ∷ xs)
    by_test true more g =
        let column : from ≡ c = same-number (from, x) (c, v) g in
        let variable : x ≡ v = same-found (from, x) (c, v) g in
        omega (arith, ap width_of variable)
    by_test false more g = let within : c + width_of v ≤ from + width_of x + width xs = more g in omega arith

pub column-there :
    (passes : Variable → Bool) (variables : List Variable) (c : ℕ) (v : Variable)
    → columned_where passes variables ≡ Some (c, v)
    → c + width_of v ≤ width variables
column-there passes variables c v h =
    let within : c + width_of v ≤ 0 + width variables = columned-within passes 0 variables c v h in omega arith

-- ---- numbers

pub record NumberedAt {X : Type 0} (passes : X → Bool) (i : ℕ) (xs : List X) (n : ℕ) (x : X) : Type 0 where
  pub place : ℕ
  pub number : n ≡ i + place
  pub there : slice_get xs place ≡ Some x
  pub passes_it : passes x ≡ true

pub numbered-at :
    {X : Type 0} (passes : X → Bool) (i : ℕ) (xs : List X) (n : ℕ) (x : X)
    → numbered_from passes i xs ≡ Some (n, x)
    → NumberedAt passes i xs n x
numbered-at passes i [] n x h = absurd (cc)
numbered-at passes i (y ∷ ys) n x h =
    by_test (passes y) refl (numbered-at passes (i + 1) ys n x) h
  where
    by_test :
        (b : Bool)
        → passes y ≡ b
        → (numbered_from passes (i + 1) ys ≡ Some (n, x) → NumberedAt passes (i + 1) ys n x)
        → cond b (Some (i, y)) (numbered_from passes (i + 1) ys) ≡ Some (n, x)
        → NumberedAt passes i (y ∷ ys) n x
    by_test true is more g =
        let number : i ≡ n = same-number (i, y) (n, x) g in
        let same : y ≡ x = same-found (i, y) (n, x) g in
        record { place = 0; number = omega arith; there = ap Some same; passes_it = ap passes (sym same) ∙ is }
    by_test false is more g =
        let at = more g in
        record { place = suc at.place; number = at.number ∙ omega arith; there = at.there; passes_it = at.passes_it }

-- what a list gives at a number, each member read by f
pub mapped-at :
    {X : Type 0} (f : X → ℕ) (xs : List X) (n : ℕ) (x : X)
    → slice_get xs n ≡ Some x
    → slice_index_or (map f xs) n 0 ≡ f x
mapped-at f xs n x h = get_or_from_slice_get (map f xs) n (f x) 0 (slice_get-map f xs n ∙ ap (option_map f) h)

-- the first message of its written name is the first of its name
pub variables-of :
    (behind word : List ℕ) (i : ℕ) (messages : List MessageType) (n : ℕ) (m : MessageType)
    → numbered_from (λ message. bytes_eq (message.name ++ behind) word) i messages ≡ Some (n, m)
    → variables_in messages m.name ≡ m.variables
variables-of behind word i [] n m h = absurd (cc)
variables-of behind word i (y ∷ ys) n m h =
    by_test (bytes_eq (y.name ++ behind) word) refl (bytes_eq m.name y.name) refl
    (variables-of behind word (i + 1) ys n m)
    (λ g. (numbered-at (λ message. bytes_eq (message.name ++ behind) word) (i + 1) ys n m g).passes_it) h
  where
    Rest : Type 0
    Rest = numbered_from (λ message. bytes_eq (message.name ++ behind) word) (i + 1) ys ≡ Some (n, m)

    by_test :
        (b : Bool)
        → bytes_eq (y.name ++ behind) word ≡ b
        → (e : Bool)
        → bytes_eq m.name y.name ≡ e
        → (Rest → variables_in ys m.name ≡ m.variables)
        → (Rest → bytes_eq (m.name ++ behind) word ≡ true)
        → cond b (Some (i, y)) (numbered_from (λ message. bytes_eq (message.name ++ behind) word) (i + 1) ys)
        ≡ Some (n, m)
        → cond e y.variables (variables_in ys m.name) ≡ m.variables
    by_test true written true equal more passes g =
        let same : y ≡ m = same-found (i, y) (n, m) g in ap (λ message. message.variables) same
    by_test true written false other more passes g =
        let same : y ≡ m = same-found (i, y) (n, m) g in
        let equal : bytes_eq m.name y.name ≡ true =
        (bytes_eq-Decides m.name y.name).1 (ap (λ message. message.name) (sym same)) in
        absurd (cc)
    by_test false written true equal more passes g =
        let same : m.name ≡ y.name = (bytes_eq-Decides m.name y.name).0 equal in
        let found : bytes_eq (y.name ++ behind) word ≡ true =
        ap (λ name. bytes_eq (name ++ behind) word) (sym same) ∙ passes g in
        absurd (cc)
    by_test false written false other more passes g = more g
