-- What is known where there is no fault, and refused by the first one.
use Rattle.std.proofs.Common.{◌≡◌, List, [], ◌∷◌, Option, Some, None, Ok, Err, refl, ap}
use Rattle.flame_spec.specs.Lists.{first}
use Rattle.flame_load.specs.InputReads.{unless}

pub none_refuses :
    {R F X : Type 0} (refusal_of : F → R) (fault : Option F) (x : X)
    → fault ≡ None
    → (unless refusal_of fault x).answer ≡ Ok x
unfolding unless
none_refuses refusal_of fault x none = ap (λ f. (unless refusal_of f x).answer) none

-- where these faults are none, this is given
pub faultless :
    {R F X : Type 0} (refusal_of : F → R) (faults : List F) (x : X)
    → faults ≡ []
    → (unless refusal_of (first faults) x).answer ≡ Ok x
faultless refusal_of faults x none = none_refuses refusal_of (first faults) x (ap first none)

-- where there is one, it refuses
pub refuses :
    {R F X : Type 0} (refusal_of : F → R) (fault : Option F) (x : X) (f : F)
    → fault ≡ Some f
    → (unless refusal_of fault x).answer ≡ Err (refusal_of f)
unfolding unless
refuses refusal_of fault x f some = ap (λ f. (unless refusal_of f x).answer) some

-- what is given tells that there was none
pub was_faultless :
    {R F X : Type 0} (refusal_of : F → R) (fault : Option F) (x y : X)
    → (unless refusal_of fault x).answer ≡ Ok y
    → (fault ≡ None) × (x ≡ y)
unfolding unless
was_faultless refusal_of None x y is = (refl, cc)
was_faultless refusal_of (Some f) x y is = absurd (cc)

-- a list without a first member has none
pub none_first : {F : Type 0} (faults : List F) → first faults ≡ None → faults ≡ []
none_first [] none = refl
none_first (fault ∷ faults) none = absurd (cc)
