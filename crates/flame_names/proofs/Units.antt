-- What a table of time units knows of the units that were added to it.
use Rattle.std.proofs.Common.{◌≡◌, ℕ, ℤ, ◌*ℤ◌, List, [], ◌∷◌, ◌++◌, refl, sym, ap, ◌∙◌, Bool, true, false, cond, Option, Some, None, option_map, true≢false, codes, append-nil, subst}
use Rattle.std.specs.Option.{is_some, option_map_or}
use Rattle.std.specs.Str.{bytes_eq}
use Rattle.std.proofs.lemmas.List.{map_push}
use Rattle.flame_rows.proofs.Truths.{is_some-false, cond-same}
use Rattle.flame_spec.specs.declared.faults.NameFault.{NameFault}
use Rattle.flame_spec.specs.declared.faults.NameKind.{NameKind}
use Rattle.flame_spec.specs.declared.faults.NameKind.TheVariants.{Duplicate, UnknownUnit, LongUnit}
use Rattle.flame_spec.specs.declared.models.TimeUnit.{TimeUnit}
use Rattle.flame_spec.specs.TimeUnits.{unit_length}
use Rattle.flame_spec.specs.KnownNames.{is_among, unit_names}
use Rattle.flame_spec.specs.Paths.{at_key}
use Rattle.flame_spec.specs.Refusals.{fault_where}
use Rattle.flame_spec.specs.UnitFaults.{is_long, length_after, unit_faults}
use Rattle.flame_spec.proofs.UnitLengths.{unit_length-push}
use Rattle.flame_name_sets.specs.NameTables.{look, names_of}
use Rattle.flame_names.specs.UnitTables.{floored, measure_at, unit_at, length_of, with_unit}
use Rattle.flame_name_sets.proofs.Tables.{is_some-look, look-push, names_of-push}
use Rattle.flame_names.proofs.Floors.{is_long-floored, floored-floored}

-- the table has the names of the units, and their lengths
pub record Knows (table : List (List ℕ × ℤ)) (units : List TimeUnit) : Type 0 where
  pub names : names_of table ≡ unit_names units
  pub lengths : (name : List ℕ) → look name table ≡ option_map floored (unit_length units name)

measure-is : (path : List ℕ) (unit : TimeUnit) (o : Option ℤ) (b : Bool)
    → is_some (option_map floored o) ≡ b
    → measure_at path unit (option_map floored o)
    ≡ cond
    b
    (fault_where (option_map_or is_long (option_map (λ length. unit.period *ℤ length) o) false) LongUnit (at_key path (codes "period")) unit.name)
    (fault_where true UnknownUnit (at_key path (codes "unit")) unit.unit)
measure-is path unit None true e = absurd (true≢false (sym e))
measure-is path unit None false e = refl
measure-is path unit (Some z) true e =
    ap (λ b. fault_where b LongUnit (at_key path (codes "period")) unit.name) (is_long-floored unit.period z)
measure-is path unit (Some z) false e = absurd (true≢false e)

-- behind a table that knows the earlier units, a unit has the faults that it has behind those
pub unit-is : (table : List (List ℕ × ℤ)) (units : List TimeUnit) (path : List ℕ) (unit : TimeUnit)
    → Knows table units → unit_at table path unit ≡ unit_faults units path unit
unit-is table units path unit knows =
    let there = is_some-look unit.name table ∙ ap (is_among unit.name) knows.names in
    let known = is_some-look unit.unit table ∙ ap (is_among unit.unit) knows.names in
    let o = unit_length units unit.unit in
    let e = knows.lengths unit.unit in
    ap (λ b. fault_where b Duplicate (at_key path (codes "name")) unit.name ++ measure_at path unit (look unit.unit table)) there
    ∙ ap (λ m. fault_where (is_among unit.name (unit_names units)) Duplicate (at_key path (codes "name")) unit.name ++ m)
    (ap (measure_at path unit) e ∙ measure-is path unit o (is_among unit.unit (unit_names units)) (sym (ap is_some e) ∙ known))

fault_where-none : (test : Bool) (kind : NameKind) (path name : List ℕ) (more : List NameFault)
    → fault_where test kind path name ++ more ≡ [] → (test ≡ false) × (more ≡ [])
fault_where-none true kind path name more h = absurd (cc)
fault_where-none false kind path name more h = (refl, h)

measure-none : (path : List ℕ) (unit : TimeUnit) (o : Option ℤ)
    → measure_at path unit (option_map floored o) ≡ []
    → (z : ℤ) × (o ≡ Some z) × (is_long (unit.period *ℤ floored z) ≡ false)
measure-none path unit None h = absurd (cc)
measure-none path unit (Some z) h = (
  z,
  refl,
  (fault_where-none
      (is_long (unit.period *ℤ floored z))
      LongUnit
      (at_key path (codes "period"))
      unit.name
      []
      (append-nil _ ∙ h)).0,
)

floor_choice : (b : Bool) (x y : Option ℤ)
    → cond b (option_map floored x) (option_map floored y) ≡ option_map floored (cond b x y)
floor_choice true x y = refl
floor_choice false x y = refl

-- a table that knows the earlier units knows a unit that was added without a fault
pub knows-push : (table : List (List ℕ × ℤ)) (units : List TimeUnit) (path : List ℕ) (unit : TimeUnit)
    → Knows table units → unit_at table path unit ≡ [] → Knows (with_unit table unit) (units ++ unit ∷ [])
knows-push table units path unit knows none =
    let parts = fault_where-none
    (is_some (look unit.name table))
    Duplicate
    (at_key path (codes "name"))
    unit.name
    (measure_at path unit (look unit.unit table))
    none in
    let new = is_some-false (look unit.name table) parts.0 in
    let own = knows.lengths unit.unit in
    let found = measure-none path unit (unit_length units unit.unit) (ap (measure_at path unit) (sym own) ∙ parts.1) in
    let z = found.0 in
    let length = length_of unit (look unit.unit table) in
    let long : is_long (unit.period *ℤ z) ≡ false = sym (is_long-floored unit.period z) ∙ found.2 in
    let kept : Some length ≡ option_map floored (length_after units unit) =
    ap (λ o. Some (length_of unit o)) (own ∙ ap (option_map floored) found.1)
    ∙ ap Some (floored-floored unit.period z long)
    ∙ sym (ap (λ o. option_map floored (option_map (λ l. unit.period *ℤ l) o)) found.1) in
    record {
      names =
          names_of-push table unit.name length
          ∙ ap (λ names. names ++ unit.name ∷ []) knows.names
          ∙ ap (λ names. codes "iteration" ∷ names) (sym (map_push (λ u. u.name) units unit));
      lengths = λ name.
          look-push unit.name name length table new
          ∙ cond-same (bytes_eq name unit.name) (Some length) (look name table) _ _ kept (knows.lengths name)
          ∙ floor_choice (bytes_eq name unit.name) (length_after units unit) (unit_length units name)
          ∙ sym (ap (option_map floored) (unit_length-push units unit name));
    }

pub knows-same : (table more : List (List ℕ × ℤ)) (units others : List TimeUnit)
    → Knows table units → table ≡ more → units ≡ others → Knows more others
knows-same table more units others knows t u =
    let P : List TimeUnit → Type 0 = λ us. Knows more us in
    let Q : List (List ℕ × ℤ) → Type 0 = λ es. Knows es units in
    subst P u (subst Q t knows)
