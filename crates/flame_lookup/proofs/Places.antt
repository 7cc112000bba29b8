-- The types of the functions of a model, and the functions that a C function is one for.
use Rattle.std.proofs.Common.{◌≡◌, ℕ, zero, suc, ◌+◌, List, [], ◌∷◌, ◌++◌, map, refl, sym, ap, ◌∙◌, Bool, true, false, cond, Some, codes, arith}
use Rattle.std.specs.Prelude.{slice_get, not, ◌&&◌}
use Rattle.std.specs.Str.{bytes_eq}
use Rattle.flame_spec.specs.declared.models.AgentType.{AgentType}
use Rattle.flame_spec.specs.declared.models.Function.{Function}
use Rattle.flame_spec.specs.Functions.{Place, at_type, functions_from}
use Rattle.flame_spec.specs.Lists.{numbers_from}
use Rattle.std.proofs.lemmas.Slice.Eq.{bytes_eq-Decides}

-- the type of a function of these types, which are numbered from `from`
pub record HasType (from : ℕ) (types : List AgentType) (place : Place) : Type 0 where
  pub behind : ℕ
  pub number : place.agent ≡ from + behind
  pub type : slice_get types behind ≡ Some place.type

pub type_there :
    (from : ℕ) (types : List AgentType) (i : ℕ) (place : Place)
    → slice_get (functions_from from types) i ≡ Some place
    → HasType from types place
type_there from [] i place h = cc
type_there from (type ∷ types) i place h = among (λ j. type_there (from + 1) types j place) type.functions i h
  where
    among :
        ((j : ℕ) → slice_get (functions_from (from + 1) types) j ≡ Some place → HasType (from + 1) types place)
        → (fs : List Function) (j : ℕ)
        → slice_get (map (at_type from type) fs ++ functions_from (from + 1) types) j ≡ Some place
        → HasType from (type ∷ types) place
    among more [] j e =
        let later = more j e in
        record { behind = suc later.behind; number = omega (arith, later.number); type = later.type }
    among more (f ∷ fs) zero e =
        let here : at_type from type f ≡ place = cc in
        record {
          behind = 0;
          number = ap (λ (p : Place). p.agent) (sym here) ∙ (omega arith);
          type = ap (λ (p : Place). Some p.type) here;
        }
    among more (f ∷ fs) (suc j) e = among more fs j e

pub slice_get-type :
    (types : List AgentType) (i : ℕ) (place : Place)
    → slice_get (functions_from 0 types) i ≡ Some place
    → slice_get types place.agent ≡ Some place.type
slice_get-type types i place h =
    let there = type_there 0 types i place h in
    let same : place.agent ≡ there.behind = omega (arith, there.number) in
    ap (slice_get types) same ∙ there.type

-- ---- numbers of functions

numbers_alike :
    {X : Type 0} (passes other : X → Bool) (i : ℕ) (xs : List X)
    → ((x : X) → passes x ≡ other x)
    → numbers_from passes i xs ≡ numbers_from other i xs
numbers_alike passes other i [] same = refl
numbers_alike passes other i (x ∷ xs) same =
    ap (λ b. cond b (i ∷ numbers_from passes (i + 1) xs) (numbers_from passes (i + 1) xs)) (same x)
    ∙ ap (λ numbers. cond (other x) (i ∷ numbers) numbers) (numbers_alike passes other (i + 1) xs same)

no_numbers : {X : Type 0} (i : ℕ) (xs : List X) → numbers_from (λ x. false) i xs ≡ []
no_numbers i [] = refl
no_numbers i (x ∷ xs) = no_numbers (i + 1) xs

-- a name that is `idle` is of no function but idle ones, and another is of none of these
idle_test :
    (name other : List ℕ) (idle : Bool)
    → bytes_eq name (codes "idle") ≡ idle
    → (not (bytes_eq other (codes "idle")) && bytes_eq name other) ≡ (not idle && bytes_eq name other)
idle_test name other idle e = by_test (bytes_eq name other) refl
  where
    by_test :
        (b : Bool) → bytes_eq name other ≡ b
        → (not (bytes_eq other (codes "idle")) && b) ≡ (not idle && b)
    by_test true h =
        ap (λ c. not c && true) (ap (λ text. bytes_eq text (codes "idle")) (sym ((bytes_eq-Decides name other).0 h)) ∙ e)
    by_test false h = falls (bytes_eq other (codes "idle")) idle
      where
        falls : (b c : Bool) → (not b && false) ≡ (not c && false)
        falls true true = refl
        falls true false = refl
        falls false true = refl
        falls false false = refl

-- there is none where it is
pub none_of_idle :
    (name : List ℕ) (places : List Place)
    → bytes_eq name (codes "idle") ≡ true
    → numbers_from (λ place. not (bytes_eq place.function.name (codes "idle")) && bytes_eq name place.function.name) 0 places
    ≡ []
none_of_idle name places e =
    numbers_alike _ (λ place. false) 0 places (λ place. idle_test name place.function.name true e)
    ∙ no_numbers 0 places
