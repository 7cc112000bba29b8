-- Searches for different names.
use Rattle.std.proofs.Common.{◌≡◌, ℕ, ◌+◌, false, cond, List, [], ◌∷◌, map, Option, Some, None, refl, ap, ◌∙◌}
use Rattle.std.specs.Prelude.{⊤}
use Rattle.std.specs.Str.{bytes_eq}
use Rattle.std.proofs.lemmas.Slice.Eq.{bytes_eq-Decides}
use Rattle.std.proofs.lemmas.Bool.{false_from_ne_true}
use Rattle.flame_rows.proofs.Bytes.{bytes_eq-self}
use Rattle.flame_spec.specs.declared.models.AgentType.{AgentType}
use Rattle.flame_spec.specs.Lists.{numbered_from}
use Rattle.flame_meaning.specs.RangeLaws.{Each}
use Rattle.flame_popfile.specs.PopulationParts.{called}
use Rattle.flame_popfile.specs.PopulationFaults.{type_named}
use Rattle.flame_popfile.proofs.PutMembers.{IsNoneOf, AllDiffer}

-- the first of these that has the name, and what is made of it and its number, numbered from i
abbrev searched : {X Y : Type 0} → (X → List ℕ) → (ℕ → X → Y) → ℕ → List X → List ℕ → Option Y
searched name_of make i [] name = None
searched name_of make i (x ∷ xs) name =
    cond (bytes_eq (name_of x) name) (Some (make i x)) (searched name_of make (i + 1) xs name)

-- each is found by its name
abbrev pub Finds : {X Y : Type 0} → (X → List ℕ) → (ℕ → X → Y) → (List ℕ → Option Y) → ℕ → List X → Type 0
Finds name_of make found i [] = ⊤
Finds name_of make found i (x ∷ xs) = (found (name_of x) ≡ Some (make i x)) × Finds name_of make found (i + 1) xs

finds_same :
    {X Y : Type 0} (name_of : X → List ℕ) (make : ℕ → X → Y) (found other : List ℕ → Option Y) (i : ℕ) (xs : List X)
    → ((name : List ℕ) → other name ≡ found name)
    → Finds name_of make found i xs
    → Finds name_of make other i xs
finds_same name_of make found other i [] same all = tt
finds_same name_of make found other i (x ∷ xs) same all =
    (same (name_of x) ∙ all.0, finds_same name_of make found other (i + 1) xs same all.1)

-- different names are not equal
pub names_apart : (name other : List ℕ) → (name ≡ other → ⊥) → bytes_eq name other ≡ false
names_apart name other h = false_from_ne_true (bytes_eq name other) (λ e. h ((bytes_eq-Decides name other).0 e))

finds_behind :
    {X Y : Type 0} (name_of : X → List ℕ) (make : ℕ → X → Y) (found : List ℕ → Option Y) (name : List ℕ)
    (first : Option Y) (i : ℕ) (xs : List X)
    → IsNoneOf name (map name_of xs)
    → Finds name_of make found i xs
    → Finds name_of make (λ other. cond (bytes_eq name other) first (found other)) i xs
finds_behind name_of make found name first i [] apart all = tt
finds_behind name_of make found name first i (x ∷ xs) apart all = (
  ap (λ b. cond b first (found (name_of x))) (names_apart name (name_of x) apart.0) ∙ all.0,
  finds_behind name_of make found name first (i + 1) xs apart.1 all.1,
)

finds_all :
    {X Y : Type 0} (name_of : X → List ℕ) (make : ℕ → X → Y) (i : ℕ) (xs : List X)
    → AllDiffer (map name_of xs) → Finds name_of make (searched name_of make i xs) i xs
finds_all name_of make i [] apart = tt
finds_all name_of make i (x ∷ xs) apart = (
  ap (λ b. cond b (Some (make i x)) (searched name_of make (i + 1) xs (name_of x))) (bytes_eq-self (name_of x)),
  finds_behind name_of make (searched name_of make (i + 1) xs) (name_of x) (Some (make i x)) (i + 1) xs apart.0
      (finds_all name_of make (i + 1) xs apart.1),
)

numbered_searched :
    {X : Type 0} (name_of : X → List ℕ) (i : ℕ) (xs : List X) (name : List ℕ)
    → numbered_from (λ x. bytes_eq (name_of x) name) i xs ≡ searched name_of (λ n x. (n, x)) i xs name
numbered_searched name_of i [] name = refl
numbered_searched name_of i (x ∷ xs) name =
    ap (cond (bytes_eq (name_of x) name) (Some (i, x))) (numbered_searched name_of (i + 1) xs name)

found_searched :
    {X : Type 0} (name_of : X → List ℕ) (i : ℕ) (xs : List X) (name : List ℕ)
    → called name_of xs name ≡ searched name_of (λ n x. x) i xs name
found_searched name_of i [] name = refl
found_searched name_of i (x ∷ xs) name =
    ap (cond (bytes_eq (name_of x) name) (Some x)) (found_searched name_of (i + 1) xs name)

-- each type is found by its name, with its number
abbrev pub AreNumbered : List AgentType → ℕ → List AgentType → Type 0
AreNumbered all = Finds (λ (type : AgentType). type.name) (λ n (type : AgentType). (n, type)) (type_named all)

pub types_numbered :
    (types : List AgentType) → AllDiffer (map (λ (type : AgentType). type.name) types) → AreNumbered types 0 types
types_numbered types apart =
    finds_same (λ (type : AgentType). type.name) (λ n (type : AgentType). (n, type))
    (searched (λ (type : AgentType). type.name) (λ n (type : AgentType). (n, type)) 0 types)
    (type_named types) 0 types
    (λ name. numbered_searched (λ (type : AgentType). type.name) 0 types name)
    (finds_all (λ (type : AgentType). type.name) (λ n (type : AgentType). (n, type)) 0 types apart)

finds_each :
    {X : Type 0} (name_of : X → List ℕ) (found : List ℕ → Option X) (i : ℕ) (xs : List X)
    → Finds name_of (λ n x. x) found i xs → Each (λ x. found (name_of x) ≡ Some x) xs
finds_each name_of found i [] all = tt
finds_each name_of found i (x ∷ xs) all = (all.0, finds_each name_of found (i + 1) xs all.1)

-- each is called by its name
pub each_called :
    {X : Type 0} (name_of : X → List ℕ) (xs : List X)
    → AllDiffer (map name_of xs) → Each (λ x. called name_of xs (name_of x) ≡ Some x) xs
each_called name_of xs apart =
    finds_each name_of (called name_of xs) 0 xs
    (finds_same name_of (λ n x. x) (searched name_of (λ n x. x) 0 xs) (called name_of xs) 0 xs
    (λ name. found_searched name_of 0 xs name)
    (finds_all name_of (λ n x. x) 0 xs apart))
