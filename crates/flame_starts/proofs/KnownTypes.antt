-- The types of agents, found by their names.
use Rattle.std.proofs.Common.{◌≡◌, ℕ, zero, suc, ◌+◌, List, [], ◌∷◌, Option, Some, subst, ap, ◌∙◌, arith}
use Rattle.std.specs.Prelude.{slice_get}
use Rattle.flame_spec.specs.declared.models.AgentType.{AgentType}
use Rattle.flame_popfile.specs.PopulationFaults.{type_named}
use Rattle.flame_popfile.proofs.NameSearches.{Finds, AreNumbered}
use Rattle.flame_tokens.specs.AgentTrees.{Listed, IsOfTypes}

found_at :
    {X Y : Type 0} (name_of : X → List ℕ) (make : ℕ → X → Y) (found : List ℕ → Option Y) (i : ℕ) (xs : List X)
    (k : ℕ) (x : X)
    → Finds name_of make found i xs
    → slice_get xs k ≡ Some x
    → found (name_of x) ≡ Some (make (i + k) x)
found_at name_of make found i [] k x all at = absurd (cc)
found_at name_of make found i (y ∷ xs) zero x all at =
    let same : y ≡ x = cc in
    let here : i ≡ i + zero = omega arith in
    subst (λ z. found (name_of z) ≡ Some (make (i + zero) z)) same (all.0 ∙ ap (λ n. Some (make n y)) here)
found_at name_of make found i (y ∷ xs) (suc k) x all at =
    let next : i + 1 + k ≡ i + suc k = omega arith in
    found_at name_of make found (i + 1) xs k x all.1 at ∙ ap (λ n. Some (make n x)) next

-- the type of an agent is found by its name
pub type_found :
    (types : List AgentType) (listed : Listed)
    → AreNumbered types 0 types
    → IsOfTypes types listed
    → type_named types listed.type.name ≡ Some (listed.number, listed.type)
type_found types listed numbered is =
    let plain : 0 + listed.number ≡ listed.number = omega arith in
    found_at (λ (type : AgentType). type.name) (λ n (type : AgentType). (n, type)) (type_named types) 0 types
    listed.number listed.type numbered is.stands
    ∙ ap (λ n. Some (n, listed.type)) plain
