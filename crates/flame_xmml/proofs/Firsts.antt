-- The first fault of lists of faults.
use Rattle.std.proofs.Common.{◌≡◌, ℕ, List, [], true, Result, Ok, Err, refl, sym, subst}
use Rattle.std.specs.Prelude.{IfOk}
use Rattle.serde_json.specs.Data.{Data}
use Rattle.flame_rows.specs.declared.fails.Fail.{Fail}
use Rattle.flame_xmml.specs.declared.faults.Shape.{Shape}
use Rattle.flame_xmml.specs.ValueParts.{is_object, object_faults}
use Rattle.flame_spec.specs.FirstFaults.{FailsFirst}
pub use Rattle.flame_spec.proofs.FaultLists.{FailsFirst-append as first_stays}

-- the first of an object's keys is the first of the object
pub first_in_object :
    (keys : List ℕ → Data → List Shape) (path : List ℕ) (value : Data) (fail : Fail Shape)
    → is_object value ≡ true
    → FailsFirst (keys path value) fail
    → FailsFirst (object_faults keys path value) fail
first_in_object keys path value fail object is_first =
    let same : object_faults keys path value ≡ keys path value = rw object refl in
    subst (λ faults. FailsFirst faults fail) (sym same) is_first

-- the faults of an object are those of its keys
pub object_faults-is :
    (keys : List ℕ → Data → List Shape) (path : List ℕ) (value : Data)
    → is_object value ≡ true → object_faults keys path value ≡ keys path value
object_faults-is keys path value object = rw object refl

-- what holds of whatever is answered
pub if_ok : {X : Type 0} {P : Type 0} (result : Result X (Fail Shape)) → P → IfOk result (λ answer. P)
if_ok (Ok answer) holds = holds
if_ok (Err fail) holds = tt
