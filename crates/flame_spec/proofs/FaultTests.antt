-- What tests of faults say where they give none.
use Rattle.std.proofs.Common.{◌≡◌, ℕ, List, [], Bool, true, false, Option, Some, None, refl, ap}
use Rattle.std.proofs.lemmas.Bool.{eqb-true}
use Rattle.flame_spec.specs.declared.faults.CheckKind.{CheckKind}
use Rattle.flame_spec.specs.declared.faults.NameKind.{NameKind}
use Rattle.flame_spec.specs.Scopes.{Context}
use Rattle.flame_spec.specs.ExpressionFaults.{fault_where}
use Rattle.flame_spec.specs.Refusals.{fault_where as name_fault_where}
use Rattle.flame_spec.specs.CallFaults.{is_length}

pub fault_where-none : (test : Bool) (context : Context) (kind : CheckKind) (line : ℕ) (word : List ℕ)
    → fault_where test context kind line word ≡ [] → test ≡ false
fault_where-none true context kind line word none = cc
fault_where-none false context kind line word none = refl

pub name_fault_where-none : (test : Bool) (kind : NameKind) (path name : List ℕ) → name_fault_where test kind path name ≡ [] → test ≡ false
name_fault_where-none true kind path name none = cc
name_fault_where-none false kind path name none = refl

pub is_length-true : (size : ℕ) (o : Option ℕ) → is_length size o ≡ true → o ≡ Some size
is_length-true size None e = cc
is_length-true size (Some other) e = ap Some (eqb-true other size e)
