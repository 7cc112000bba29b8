-- What values without faults hold, part by part.
use Rattle.std.proofs.Common.{◌≡◌, ℕ, zero, suc, ◌+◌, List, [], ◌∷◌, length, map, Bool, true, false, cond, Option, Some, None, refl, sym, ap, ◌∙◌, arith, add-zero, zero-add}
use Rattle.std.specs.Prelude.{ℤ, pos, ◌==◌, if◌then◌else◌, slice_get, unwrap_or}
use Rattle.std.specs.Option.{option_map_or}
use Rattle.std.proofs.lemmas.Bool.{eqb-true}
use Rattle.std.proofs.lemmas.List.{length-map, length-replicate}
use Rattle.flame_rows.proofs.Lists.{append-is_nil_left, append-is_nil_right}
use Rattle.serde_json.specs.Data.{Data, null, boolean, number, string, array, object}
use Rattle.flame_ops.specs.Integers.{is_int}
use Rattle.flame_spec.specs.Lists.{each, each_from}
use Rattle.flame_spec.specs.Steps.{◌>>=◌}
use Rattle.flame_meaning.specs.RangeLaws.{IsInt, AreInts, Each}
use Rattle.flame_world.specs.WorldLaws.{IsRowOf}
use Rattle.flame_world.proofs.Eachs.{mapped}
use Rattle.flame_xmml.specs.ValueParts.{members}
use Rattle.flame_xmml.specs.Wants.{whole_of, held}
use Rattle.flame_popfile.specs.declared.faults.PopFault.{PopFault}
use Rattle.flame_popfile.specs.declared.faults.PopKind.{PopKind}
use Rattle.flame_popfile.specs.declared.faults.PopKind.TheVariants.{Shape}
use Rattle.flame_popfile.specs.PopulationParts.{Faults, refused, unless_missing, number_of, numbers_of, zeros, int_faults, ints_faults, counted_faults}

-- ---- lists of faults

-- where no element gives a fault, what follows from that holds of each
pub each_none :
    {X Y : Type 0} (P : X → Type 0) (f : ℕ → X → List Y)
    → ((i : ℕ) (x : X) → f i x ≡ [] → P x)
    → (i : ℕ) (xs : List X)
    → each_from f i xs ≡ []
    → Each P xs
each_none P f follows i [] none = tt
each_none P f follows i (x ∷ xs) none =
    (follows i x (append-is_nil_left (f i x) _ none), each_none P f follows (i + 1) xs (append-is_nil_right (f i x) _ none))

-- and the element of each number gives none
nth_none :
    {X Y : Type 0} (f : ℕ → X → List Y) (i : ℕ) (xs : List X)
    → each_from f i xs ≡ []
    → (n : ℕ) (x : X)
    → slice_get xs n ≡ Some x
    → f (i + n) x ≡ []
nth_none f i [] none n x at = cc
nth_none f i (y ∷ xs) none zero x at =
    let same : y ≡ x = cc in
    ap (λ n. f n x) (add-zero i) ∙ ap (f i) (sym same) ∙ append-is_nil_left (f i y) _ none
nth_none f i (y ∷ xs) none (suc n) x at =
    let later : i + suc n ≡ i + 1 + n = omega arith in
    ap (λ m. f m x) later ∙ nth_none f (i + 1) xs (append-is_nil_right (f i y) _ none) n x at

pub each-nth :
    {X Y : Type 0} (f : ℕ → X → List Y) (xs : List X)
    → each f xs ≡ []
    → (n : ℕ) (x : X)
    → slice_get xs n ≡ Some x
    → f n x ≡ []
each-nth f xs none n x at = ap (λ m. f m x) (sym (zero-add n)) ∙ nth_none f 0 xs none n x at

-- what is not refused passes, and has no other fault
pub passes_none :
    (test : Bool) (faults : List PopFault) (kind : PopKind) (path : List ℕ)
    → (if test then faults else refused kind path) ≡ []
    → (test ≡ true) × (faults ≡ [])
passes_none true faults kind path none = (refl, none)
passes_none false faults kind path none = cc

-- what holds of null, and of values without faults, holds where a value may be missing
pub where_missing :
    (P : Data → Type 0) (faults : Faults) (path : List ℕ) (value : Data)
    → P null
    → (faults path value ≡ [] → P value)
    → unless_missing faults path value ≡ []
    → P value
where_missing P faults path null missing there none = missing
where_missing P faults path (boolean b) missing there none = there none
where_missing P faults path (number n) missing there none = there none
where_missing P faults path (string s) missing there none = there none
where_missing P faults path (array ds) missing there none = there none
where_missing P faults path (object ms) missing there none = there none

-- ---- numbers

pub number_int : (value : Data) → IsInt (number_of value)
number_int value = of (whole_of value)
  where
    of : (o : Option ℤ) → is_int (unwrap_or (o >>= held) (pos 0)) ≡ true
    of None = refl
    of (Some z) =
        elim (is_int z) as (λ b. is_int z ≡ b → is_int (unwrap_or (cond b (Some z) None) (pos 0)) ≡ true) [
          | true ↦ λ is. is
          | false ↦ λ is. refl
        ] refl

zeros_ints : (count : ℕ) → AreInts (zeros count)
zeros_ints zero = tt
zeros_ints (suc count) = (refl, zeros_ints count)

pub numbers_ints : (count : ℕ) (value : Data) → AreInts (numbers_of count value)
numbers_ints count value = of (members value)
  where
    of : (o : Option (List Data)) → AreInts (option_map_or (map number_of) o (zeros count))
    of None = zeros_ints count
    of (Some values) = mapped IsInt number_of number_int values

-- as many numbers as are asked for
pub numbers_counted :
    (count : ℕ) (path : List ℕ) (value : Data)
    → ints_faults count path value ≡ [] → length (numbers_of count value) ≡ count
numbers_counted count path value none = of (members value) none
  where
    of :
        (o : Option (List Data))
        → option_map_or (counted_faults count int_faults path) o (refused Shape path) ≡ []
        → length (option_map_or (map number_of) o (zeros count)) ≡ count
    of None none = cc
    of (Some values) none =
        length-map values number_of ∙ eqb-true (length values) count (passes_none (length values == count) _ Shape path none).0

-- and as many zeros where they are missing
pub zeros_counted : (count : ℕ) → length (numbers_of count null) ≡ count
zeros_counted count = length-replicate count (pos 0)

-- a row of numbers
pub row_is :
    (wide : ℕ) (path : List ℕ) (value : Data) → ints_faults wide path value ≡ [] → IsRowOf wide (numbers_of wide value)
row_is wide path value none = (numbers_counted wide path value none, numbers_ints wide value)
