-- First faults.
use Rattle.std.proofs.Common.{◌≡◌, ℕ, List, [], ◌∷◌, ◌++◌, map, sym, ap, ◌∙◌, Bool, true, false, Some}
use Rattle.std.specs.Prelude.{◌||◌}
use Rattle.flame_spec.specs.declared.faults.NameFault.{NameFault}
use Rattle.flame_spec.specs.declared.faults.NameKind.{NameKind}
use Rattle.flame_spec.specs.declared.faults.NameKind.TheVariants.{Duplicate, Clash}
use Rattle.flame_spec.specs.Lists.{first}
use Rattle.flame_ops.specs.Ascii.{capitals}
use Rattle.flame_spec.specs.Capitals.{clashes}
use Rattle.flame_spec.specs.KnownNames.{is_among}
use Rattle.flame_spec.specs.Refusals.{name_fault, fault_where}
use Rattle.flame_spec.specs.MessageFaults.{apart_faults}
use Rattle.flame_spec.specs.NameFaults.{memory_name_faults}
use Rattle.flame_rows.specs.declared.fails.Fail.{Fail}
use Rattle.flame_rows.specs.declared.fails.Fail.TheVariants.{Fault, NoMemory}
use Rattle.flame_spec.specs.FirstFaults.{FailsBy, FailsFirst}
use Rattle.flame_spec.proofs.Alike.{clashes-new}

-- a fault that is the first
pub fails_first : (fault : NameFault) (faults : List NameFault) (fail : Fail NameFault)
    → first faults ≡ Some fault → FailsBy fault fail → FailsFirst faults fail
fails_first fault faults (Fault other) h e = h ∙ ap Some (sym e)
fails_first fault faults NoMemory h e = tt

pub fault_where-false : (test : Bool) (kind : NameKind) (path name : List ℕ)
    → test ≡ false → fault_where test kind path name ≡ []
fault_where-false test kind path name h = ap (λ b. fault_where b kind path name) h

pub fault_where-true : (test : Bool) (kind : NameKind) (path name : List ℕ)
    → test ≡ true → fault_where test kind path name ≡ name_fault kind path name ∷ []
fault_where-true test kind path name h = ap (λ b. fault_where b kind path name) h

-- a name that is new, and is new in capitals
pub apart_faults-none : (earlier : List (List ℕ)) (path name : List ℕ)
    → is_among name earlier ≡ false
    → is_among (capitals name) (map capitals earlier) ≡ false
    → apart_faults earlier path name ≡ []
apart_faults-none earlier path name new shouted =
    ap (λ b. fault_where b Duplicate path name ++ fault_where (clashes name earlier) Clash path name) new
    ∙ fault_where-false (clashes name earlier) Clash path name (clashes-new name earlier new ∙ shouted)

-- a name that is new, and is not new in capitals
pub apart_faults-clash : (earlier : List (List ℕ)) (path name : List ℕ)
    → is_among name earlier ≡ false
    → is_among (capitals name) (map capitals earlier) ≡ true
    → first (apart_faults earlier path name) ≡ Some (name_fault Clash path name)
apart_faults-clash earlier path name new shouted =
    ap
    first
    (ap (λ b. fault_where b Duplicate path name ++ fault_where (clashes name earlier) Clash path name) new
    ∙ fault_where-true (clashes name earlier) Clash path name (clashes-new name earlier new ∙ shouted))

-- a memory variable whose name is new, and is not new in capitals
pub memory_name_faults-clash : (constants earlier : List (List ℕ)) (path name : List ℕ)
    → is_among name earlier ≡ false
    → is_among (capitals name) (map capitals earlier) ≡ true
    → first (memory_name_faults constants earlier path name) ≡ Some (name_fault Clash path name)
memory_name_faults-clash constants earlier path name new shouted =
    ap
    (λ b. first
    (fault_where b Duplicate path name
    ++ fault_where (clashes name earlier || is_among (capitals name) constants) Clash path name))
    new
    ∙ ap
    (λ b. first (fault_where (b || is_among (capitals name) constants) Clash path name))
    (clashes-new name earlier new ∙ shouted)

-- a memory variable whose name is new, and is new in capitals
pub memory_name_faults-new : (constants earlier : List (List ℕ)) (path name : List ℕ)
    → is_among name earlier ≡ false
    → is_among (capitals name) (map capitals earlier) ≡ false
    → memory_name_faults constants earlier path name
    ≡ fault_where (is_among (capitals name) constants) Clash path name
memory_name_faults-new constants earlier path name new shouted =
    ap
    (λ b.
    fault_where b Duplicate path name
    ++ fault_where (clashes name earlier || is_among (capitals name) constants) Clash path name)
    new
    ∙ ap
    (λ b. fault_where (b || is_among (capitals name) constants) Clash path name)
    (clashes-new name earlier new ∙ shouted)
