-- The length of a unit is its period times the length of its own unit.
use mathlib.Core.Bool.{or-true}
use Rattle.std.proofs.Common.{◌≡◌, ℕ, zero, suc, ◌+◌, ◌-◌, ◌<◌, ◌≤◌, pos, ◌*ℤ◌, Bool, true, false, true≢false, ◌||◌, take_all}
use Rattle.std.proofs.Common.{cond, List, [], ◌∷◌, take, length, get_or, codes, Some, option_map, refl, ap, sym, ◌∙◌}
use Rattle.std.proofs.Common.{subst, arith}
use Rattle.std.specs.Prelude.{slice_get}
use Rattle.std.specs.Str.{bytes_eq}
use Rattle.std.proofs.Math.Seq.{take-suc}
use Rattle.std.proofs.lemmas.List.{map_push}
use Rattle.std.proofs.lemmas.Option.{get_or_from_slice_get, slice_get_within}
use Rattle.std.proofs.lemmas.List.Folds.{list_any-append}
use Rattle.flame_rows.proofs.Bytes.{bytes_eq-self, bytes_eq-true}
use Rattle.flame_rows.proofs.Lists.{append-is_nil_left, append-is_nil_right}
use Rattle.flame_spec.specs.declared.faults.NameKind.TheVariants.{Duplicate}
use Rattle.flame_spec.specs.declared.models.Model.{Model}
use Rattle.flame_spec.specs.declared.models.TimeUnit.{TimeUnit}
use Rattle.flame_spec.specs.TimeUnits.{unit_length}
use Rattle.flame_spec.specs.KnownNames.{is_among, unit_names}
use Rattle.flame_spec.specs.NameFaults.{name_faults}
use Rattle.flame_spec.specs.Paths.{at_key, at_number}
use Rattle.flame_spec.specs.Refusals.{fault_where}
use Rattle.flame_spec.specs.UnitFaults.{length_after, measure_faults, unit_faults, units_faults}
use Rattle.flame_spec.proofs.FaultTests.{name_fault_where-none}
use Rattle.flame_spec.proofs.UnitLengths.{unit_length-push}
use Rattle.flame_spec_laws.proofs.Distinct.{each_none, units_path, units_none}
use Rattle.flame_spec_laws.proofs.Measures.{measured}

abbrev no_unit : TimeUnit
no_unit = record { name = []; unit = []; period = pos 0 }

-- what a unit is behind the earlier ones
record IsBehind (earlier : List TimeUnit) (unit : TimeUnit) : Type 0 where
  new : is_among unit.name (unit_names earlier) ≡ false
  known : is_among unit.unit (unit_names earlier) ≡ true

module _ (units : List TimeUnit) (none : units_faults units_path units ≡ []) where
  behind : (k : ℕ) → k < length units → IsBehind (take k units) (get_or units k no_unit)
  behind k inside =
      let unit = get_or units k no_unit in
      let clear =
      each_none (λ i one. unit_faults (take i units) (at_number units_path i) one) units no_unit none k inside in
      record {
        new =
            name_fault_where-none (is_among unit.name (unit_names (take k units))) Duplicate
            (at_key (at_number units_path k) (codes "name")) unit.name
            (append-is_nil_left
            (fault_where (is_among unit.name (unit_names (take k units))) Duplicate
            (at_key (at_number units_path k) (codes "name")) unit.name)
            (measure_faults (take k units) (at_number units_path k) unit) clear);
        known =
            (measured (take k units) (at_number units_path k) unit
            (append-is_nil_right
            (fault_where (is_among unit.name (unit_names (take k units))) Duplicate
            (at_key (at_number units_path k) (codes "name")) unit.name)
            (measure_faults (take k units) (at_number units_path k) unit) clear)).0;
      }

  -- one unit more
  longer : (k : ℕ) (name : List ℕ)
      → k < length units
      → unit_length (take (suc k) units) name
      ≡ cond (bytes_eq name (get_or units k no_unit).name)
      (length_after (take k units) (get_or units k no_unit)) (unit_length (take k units) name)
  longer k name inside =
      ap (λ us. unit_length us name) (take-suc units k no_unit inside)
      ∙ unit_length-push (take k units) (get_or units k no_unit) name

  names_more : (k : ℕ) (name : List ℕ)
      → k < length units
      → is_among name (unit_names (take k units)) ≡ true
      → is_among name (unit_names (take (suc k) units)) ≡ true
  names_more k name inside there =
      ap (λ us. is_among name (unit_names us)) (take-suc units k no_unit inside)
      ∙ ap (λ l. is_among name (codes "iteration" ∷ l)) (map_push (λ u. u.name) (take k units) (get_or units k no_unit))
      ∙ (list_any-append (bytes_eq name) (unit_names (take k units)) ((get_or units k no_unit).name ∷ []))
      ∙ or_of _ _ there
    where
      or_of : (a b : Bool) → a ≡ true → a || b ≡ true
      or_of true b e = refl
      or_of false b e = cc

  -- a name that is known keeps its length
  keeps : (k : ℕ) (name : List ℕ)
      → k < length units
      → is_among name (unit_names (take k units)) ≡ true
      → unit_length (take (suc k) units) name ≡ unit_length (take k units) name
  keeps k name inside there = longer k name inside ∙ by_name (bytes_eq name (get_or units k no_unit).name) refl
    where
      by_name :
          (b : Bool)
          → bytes_eq name (get_or units k no_unit).name ≡ b
          → cond b (length_after (take k units) (get_or units k no_unit)) (unit_length (take k units) name)
          ≡ unit_length (take k units) name
      by_name true e =
          let same : name ≡ (get_or units k no_unit).name = bytes_eq-true name (get_or units k no_unit).name e in
          let other : is_among name (unit_names (take k units)) ≡ false
          = ap (λ n. is_among n (unit_names (take k units))) same ∙ (behind k inside).new in
          absurd (true≢false (sym there ∙ other))
      by_name false e = refl

  keeps_on : (more k : ℕ) (name : List ℕ)
      → k + more ≡ length units
      → is_among name (unit_names (take k units)) ≡ true
      → unit_length units name ≡ unit_length (take k units) name
  keeps_on zero k name e there =
      let all : length units ≡ k = omega arith in
      ap (λ us. unit_length us name) (sym (take_all (length units) units (omega arith)) ∙ ap (λ n. take n units) all)
  keeps_on (suc more) k name e there =
      keeps_on more (suc k) name (omega arith) (names_more k name (omega arith) there)
      ∙ keeps k name (omega arith) there

  kept : (k : ℕ) (name : List ℕ)
      → k ≤ length units
      → is_among name (unit_names (take k units)) ≡ true
      → unit_length units name ≡ unit_length (take k units) name
  kept k name inside there = keeps_on (length units - k) k name (omega arith) there

  own_there : (k : ℕ)
      → k < length units
      → is_among (get_or units k no_unit).name (unit_names (take (suc k) units)) ≡ true
  own_there k inside =
      let name = (get_or units k no_unit).name in
      ap (λ us. is_among name (unit_names us)) (take-suc units k no_unit inside)
      ∙ ap (λ l. is_among name (codes "iteration" ∷ l)) (map_push (λ u. u.name) (take k units) (get_or units k no_unit))
      ∙ (list_any-append (bytes_eq name) (unit_names (take k units)) (name ∷ []))
      ∙ ap (λ b. is_among name (unit_names (take k units)) || (b || false)) (bytes_eq-self name)
      ∙ or-true (is_among name (unit_names (take k units)))

  pub iteration_one : unit_length units (codes "iteration") ≡ Some (pos 1)
  iteration_one = kept 0 (codes "iteration") (omega arith) refl

  pub multiplies : (k : ℕ) (unit : TimeUnit)
      → k < length units
      → get_or units k no_unit ≡ unit
      → unit_length units unit.name ≡ option_map (λ length. unit.period *ℤ length) (unit_length units unit.unit)
  multiplies k unit inside same = subst P same whole
    where
      unit_there : TimeUnit
      unit_there = get_or units k no_unit

      P : TimeUnit → Type 0
      P u = unit_length units u.name ≡ option_map (λ length. u.period *ℤ length) (unit_length units u.unit)

      whole : unit_length units (get_or units k no_unit).name
          ≡ option_map (λ length. (get_or units k no_unit).period *ℤ length)
          (unit_length units (get_or units k no_unit).unit)
      whole =
          kept (suc k) unit_there.name (omega arith) (own_there k inside)
          ∙ longer k unit_there.name inside
          ∙ ap (λ b. cond b (length_after (take k units) unit_there) (unit_length (take k units) unit_there.name))
          (bytes_eq-self unit_there.name)
          ∙ ap (option_map (λ length. unit_there.period *ℤ length))
          (sym (kept k unit_there.unit (omega arith) (behind k inside).known))

pub lengths_multiply :
    (model : Model)
    → name_faults model ≡ []
    → (unit_length model.units (codes "iteration") ≡ Some (pos 1))
    × ((i : ℕ) (unit : TimeUnit)
    → slice_get model.units i ≡ Some unit
    → unit_length model.units unit.name
    ≡ option_map (λ length. unit.period *ℤ length) (unit_length model.units unit.unit))
lengths_multiply model none = (
  iteration_one model.units (units_none model none),
  λ i unit at.
      multiplies model.units (units_none model none) i unit (slice_get_within model.units i unit at)
      (get_or_from_slice_get model.units i unit no_unit at),
)
