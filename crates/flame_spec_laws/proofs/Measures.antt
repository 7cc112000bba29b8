-- Lengths of time units in models without name faults.
use mathlib.Core.Bool.{or-false, or-true}
use Rattle.std.proofs.Common.{◌≡◌, ℕ, zero, suc, ◌*◌, ◌<◌, ◌≤◌, ℤ, pos, negsuc, ◌*ℤ◌, List, [], ◌∷◌, ◌++◌, map, take, take_all}
use Rattle.std.proofs.Common.{length, get_or, cond, refl, sym, ap, subst, ◌∙◌, Bool, true, false, true≢false, arith}
use Rattle.std.proofs.Common.{codes, Option, Some, None, option_map}
use Rattle.std.specs.Prelude.{◌||◌, ◌&&◌, nat_le, nat_lt, IsSomeAnd}
use Rattle.std.specs.List.{list_all}
use Rattle.std.specs.Option.{option_map_or}
use Rattle.std.specs.Str.{bytes_eq}
use Rattle.std.proofs.Math.Seq.{take-suc}
use Rattle.std.proofs.lemmas.List.{map_push}
use Rattle.std.proofs.lemmas.Bool.{and_parts}
use Rattle.std.proofs.lemmas.List.Folds.{list_any-append}
use Rattle.flame_rows.proofs.Bytes.{bytes_eq-sym, bytes_eq-self}
use Rattle.flame_rows.proofs.Lists.{append-is_nil_right}
use Rattle.flame_rows.proofs.Truths.{or-true_left}
use Rattle.flame_spec.specs.declared.faults.NameKind.TheVariants.{Duplicate, UnknownUnit, LongUnit}
use Rattle.flame_spec.specs.declared.models.TimeUnit.{TimeUnit}
use Rattle.flame_spec.specs.Names.{is_name}
use Rattle.flame_spec.specs.TimeUnits.{unit_length}
use Rattle.flame_spec.specs.KnownNames.{is_among, unit_names}
use Rattle.flame_spec.specs.Paths.{at_key, at_number}
use Rattle.flame_spec.specs.Refusals.{fault_where}
use Rattle.flame_spec.specs.UnitFaults.{is_long, length_after, measure_faults, unit_faults, units_faults}
use Rattle.flame_spec.specs.WellFormed.{is_positive_int, is_well_formed_unit}
use Rattle.flame_spec.proofs.FaultTests.{name_fault_where-none}
use Rattle.flame_spec.proofs.UnitLengths.{unit_length-push}
use Rattle.flame_spec_laws.proofs.Distinct.{each_none}

-- a length that is known, from 1 to 2147483647
abbrev pub Positive : Option ℤ → Type 0
Positive o = IsSomeAnd o (λ z. is_positive_int z ≡ true)

-- each unit's length is known, and that of `iteration`
pub record Known (units : List TimeUnit) : Type 0 where
  pub lengths : (name : List ℕ) → is_among name (unit_names units) ≡ true → Positive (unit_length units name)

known_none : Known []
known_none = record {
  lengths = λ name h.
      let same : bytes_eq (codes "iteration") name ≡ true =
      bytes_eq-sym (codes "iteration") name ∙ sym (or-false (bytes_eq name (codes "iteration"))) ∙ h in
      let P : Bool → Type 0 = λ b. Positive (cond b (Some (pos 1)) None) in
      subst P (sym same) refl;
}

at_least_one : (m n : ℕ) → nat_le 1 m ≡ true → nat_le 1 n ≡ true → nat_le 1 (m * n) ≡ true
at_least_one zero n h k = absurd (true≢false (sym h))
at_least_one (suc m) zero h k = absurd (true≢false (sym k))
at_least_one (suc m) (suc n) h k = let l : 1 ≤ suc m * suc n = omega arith in grind arith

at_most : (x : ℕ) → nat_lt 2147483647 x ≡ false → nat_le x 2147483647 ≡ true
at_most x h = grind arith

product_positive : (p z : ℤ)
    → is_positive_int p ≡ true → is_positive_int z ≡ true → is_long (p *ℤ z) ≡ false → is_positive_int (p *ℤ z) ≡ true
product_positive (pos m) (pos n) h k s =
    let low = at_least_one m n
    (and_parts (nat_le 1 m) (nat_le m 2147483647) h).0
    (and_parts (nat_le 1 n) (nat_le n 2147483647) k).0 in
    ap (λ b. b && nat_le (m * n) 2147483647) low ∙ at_most (m * n) s
product_positive (pos m) (negsuc n) h k s = absurd (true≢false (sym k))
product_positive (negsuc m) z h k s = absurd (true≢false (sym h))

after_positive : (unit : TimeUnit) (o : Option ℤ)
    → is_positive_int unit.period ≡ true
    → Positive o
    → option_map_or is_long (option_map (λ length. unit.period *ℤ length) o) false ≡ false
    → Positive (option_map (λ length. unit.period *ℤ length) o)
after_positive unit None p h s = h
after_positive unit (Some z) p h s = product_positive unit.period z p h s

known_push : (units : List TimeUnit) (unit : TimeUnit)
    → Known units
    → is_positive_int unit.period ≡ true
    → is_among unit.unit (unit_names units) ≡ true
    → option_map_or is_long (length_after units unit) false ≡ false
    → Known (units ++ unit ∷ [])
known_push units unit known positive there short = record {
  lengths = λ name h.
      let P : Option ℤ → Type 0 = λ o. Positive o in
      let among : (is_among name (unit_names units) || (bytes_eq name unit.name || false)) ≡ true =
      sym (list_any-append (bytes_eq name) (unit_names units) (unit.name ∷ []))
      ∙ ap (λ l. is_among name (codes "iteration" ∷ l)) (sym (map_push (λ u. u.name) units unit))
      ∙ h in
      let step : (b : Bool) → bytes_eq name unit.name ≡ b
      → Positive (cond b (length_after units unit) (unit_length units name)) =
      λ b. elim b as (λ v. bytes_eq name unit.name ≡ v
      → Positive (cond v (length_after units unit) (unit_length units name))) [
        | true ↦ λ e. after_positive unit (unit_length units unit.unit) positive (known.lengths unit.unit there) short
        | false ↦ λ e. known.lengths name (or-true_left
            (is_among name (unit_names units))
            (bytes_eq name unit.name || false)
            among
            (or-false (bytes_eq name unit.name) ∙ e))
      ] in
      subst P (sym (unit_length-push units unit name)) (step (bytes_eq name unit.name) refl);
}

all_of : (units : List TimeUnit) (k : ℕ) (d : TimeUnit)
    → list_all is_well_formed_unit units ≡ true → k < length units → is_well_formed_unit (get_or units k d) ≡ true
all_of [] k d h inside = absurd (omega arith)
all_of (u ∷ units) zero d h inside = (and_parts (is_well_formed_unit u) (list_all is_well_formed_unit units) h).0
all_of (u ∷ units) (suc k) d h inside =
    all_of units k d (and_parts (is_well_formed_unit u) (list_all is_well_formed_unit units) h).1 (omega arith)

pub measured : (earlier : List TimeUnit) (path : List ℕ) (unit : TimeUnit)
    → measure_faults earlier path unit ≡ []
    → (is_among unit.unit (unit_names earlier) ≡ true)
    × (option_map_or is_long (length_after earlier unit) false ≡ false)
measured earlier path unit h = by (is_among unit.unit (unit_names earlier)) refl h
  where
    by : (b : Bool) → is_among unit.unit (unit_names earlier) ≡ b
        → cond
        b
        (fault_where (option_map_or is_long (length_after earlier unit) false) LongUnit
        (at_key path (codes "period")) unit.name)
        (fault_where true UnknownUnit (at_key path (codes "unit")) unit.unit)
        ≡ []
        → (is_among unit.unit (unit_names earlier) ≡ true)
        × (option_map_or is_long (length_after earlier unit) false ≡ false)
    by true e k = (e, name_fault_where-none _ _ _ _ k)
    by false e k = absurd (cc)

known_take : (path : List ℕ) (units : List TimeUnit)
    → units_faults path units ≡ []
    → list_all is_well_formed_unit units ≡ true
    → (n : ℕ)
    → n ≤ length units
    → Known (take n units)
known_take path units none well zero inside = known_none
known_take path units none well (suc n) inside =
    let u : TimeUnit = record { name = []; unit = []; period = pos 0 } in
    let at : n < length units = omega arith in
    let unit = get_or units n u in
    let measure = measured
    (take n units)
    (at_number path n)
    unit
    (append-is_nil_right
    (fault_where
    (is_among unit.name (unit_names (take n units)))
    Duplicate
    (at_key (at_number path n) (codes "name"))
    unit.name)
    (measure_faults (take n units) (at_number path n) unit)
    (each_none (λ i one. unit_faults (take i units) (at_number path i) one) units u none n at)) in
    let formed = all_of units n u well at in
    let positive = (and_parts (is_name unit.unit) (is_positive_int unit.period) (and_parts (is_name unit.name) (is_name unit.unit && is_positive_int unit.period) formed).1).1 in
    let P : List TimeUnit → Type 0 = λ us. Known us in
    subst
    P
    (sym (take-suc units n u at))
    (known_push (take n units) unit (known_take path units none well n (omega arith)) positive measure.0 measure.1)

pub own : (units : List TimeUnit) (k : ℕ) (d : TimeUnit)
    → k < length units → is_among (get_or units k d).name (map (λ u. u.name) units) ≡ true
own [] k d inside = absurd (omega arith)
own (u ∷ units) zero d inside = ap (λ b. b || is_among u.name (map (λ v. v.name) units)) (bytes_eq-self u.name)
own (u ∷ units) (suc k) d inside =
    ap (λ b. bytes_eq (get_or units k d).name u.name || b) (own units k d (omega arith))
    ∙ or-true (bytes_eq (get_or units k d).name u.name)

-- where units have no faults, the length of each name that is known is known
pub all_known : (path : List ℕ) (units : List TimeUnit)
    → units_faults path units ≡ []
    → list_all is_well_formed_unit units ≡ true
    → Known units
all_known path units none well =
    let P : List TimeUnit → Type 0 = λ us. Known us in
    subst P (take_all (length units) units (omega arith)) (known_take path units none well (length units) (omega arith))

-- each unit's length is known
pub lengths_known : (path : List ℕ) (units : List TimeUnit)
    → units_faults path units ≡ []
    → list_all is_well_formed_unit units ≡ true
    → (k : ℕ) (d : TimeUnit)
    → k < length units
    → Positive (unit_length units (get_or units k d).name)
lengths_known path units none well k d inside =
    let known : Known units = all_known path units none well in
    let name = (get_or units k d).name in
    known.lengths name
    (ap (λ b. bytes_eq name (codes "iteration") || b) (own units k d inside)
    ∙ or-true (bytes_eq name (codes "iteration")))
