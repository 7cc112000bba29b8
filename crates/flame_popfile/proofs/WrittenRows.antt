-- The texts of numbers, rows and memories are read as their values.
use Rattle.std.proofs.Common.{ℕ, zero, suc, ◌^◌, ◌≤◌, ◌<◌, List, [], ◌∷◌, ◌++◌, map, take, drop, length, Option, Some, None, sym, ap, ◌∙◌, append_assoc, append-nil, arith, length-drop}
use Rattle.std.specs.Prelude.{ℤ, pos, negsuc, int_le}
use Rattle.std.specs.List.{AllZip}
use Rattle.std.specs.Fmt.{signed_decimal}
use Rattle.std.proofs.lemmas.Bool.{and_parts, leb-true}
use lib.Signed.{mag}
use Rattle.serde_json.specs.Data.{Data}
use Rattle.flame_ops.specs.Integers.{least, greatest}
use Rattle.flame_spec.specs.declared.models.Variable.{Variable}
use Rattle.flame_spec.specs.Columns.{width, width_by, width_of}
use Rattle.flame_meaning.specs.RangeLaws.{IsInt, AreInts, Each}
use Rattle.flame_popfile.specs.RowTexts.{row_text, named_text, value_text, variable_texts, object_text, constant_texts}
use Rattle.flame_popfile.proofs.PopulationValues.{int_value, row_value, variable_value, variable_pairs, memory_value, constant_pairs}
use Rattle.flame_popfile.proofs.WrittenNames.{IsPlain}
use Rattle.flame_popfile.proofs.WrittenForms.{Writes, WritesMember, writes_integer, writes_list, writes_object}
use Rattle.flame_meaning.proofs.Eachs.{each_drop}

pub mag-IsInt : (z : ℤ) → IsInt z → mag z < 2 ^ 63
mag-IsInt (pos n) h =
    omega (arith, leb-true n 2147483647 (and_parts (int_le least (pos n)) (int_le (pos n) greatest) h).1)
mag-IsInt (negsuc n) h =
    omega (arith, leb-true n 2147483647 (and_parts (int_le least (negsuc n)) (int_le (negsuc n) greatest) h).0)

-- a number of int
pub writes_int : (deep : ℕ) (z : ℤ) → IsInt z → Writes deep (signed_decimal z) (int_value z)
writes_int deep z h = writes_integer deep z (mag-IsInt z h)

-- what holds of each holds of what is made of it in two ways
pub each_zip :
    {A B C : Type 0} (P : A → Type 0) (R : B → C → Type 0) (f : A → B) (g : A → C)
    → ((x : A) → P x → R (f x) (g x))
    → (xs : List A)
    → Each P xs
    → AllZip R (map f xs) (map g xs)
each_zip P R f g go [] all = tt
each_zip P R f g go (x ∷ xs) all = (go x all.0, each_zip P R f g go xs all.1)

-- a row
pub writes_row : (deep : ℕ) (row : List ℤ) → AreInts row → Writes (suc deep) (row_text row) (row_value row)
writes_row deep row ints =
    writes_list deep (map signed_decimal row) (map int_value row)
    (each_zip IsInt (Writes deep) signed_decimal int_value (writes_int deep) row ints)

pub each_take : {X : Type 0} (P : X → Type 0) (n : ℕ) (xs : List X) → Each P xs → Each P (take n xs)
each_take P zero xs all = tt
each_take P (suc n) [] all = tt
each_take P (suc n) (x ∷ xs) all = (all.0, each_take P n xs all.1)

-- the numbers of a variable
writes_variable :
    (deep : ℕ) (wide : Option ℕ) (row : List ℤ)
    → width_by wide ≤ length row → AreInts row → Writes (suc deep) (value_text wide row) (variable_value wide row)
writes_variable deep None [] enough ints = absurd (omega arith)
writes_variable deep None (z ∷ row) enough ints = writes_int (suc deep) z ints.0
writes_variable deep (Some wide) row enough ints = writes_row deep (take wide row) (each_take IsInt wide row ints)

-- a value behind a plain name
pub writes_named :
    (deep : ℕ) (name text : List ℕ) (value : Data)
    → IsPlain name → Writes deep text value → WritesMember deep (named_text name text) (name, value)
writes_named deep name text value plain w = record {
  value_text = text;
  utf8 = plain.utf8;
  spelled =
      ap (λ s. 34 ∷ ((s ++ 34 ∷ []) ++ 58 ∷ text)) plain.same
      ∙ ap (λ s. 34 ∷ s)
      (append_assoc name (34 ∷ []) (58 ∷ text) ∙ ap (λ s. name ++ 34 ∷ 58 ∷ s) (sym (append-nil text)));
  writes = w;
}

-- the names of the variables are plain
abbrev pub ArePlain : List Variable → Type 0
ArePlain variables = Each (λ variable. IsPlain variable.name) variables

writes_variables :
    (deep : ℕ) (variables : List Variable) (row : List ℤ)
    → ArePlain variables
    → width variables ≤ length row
    → AreInts row
    → AllZip (WritesMember (suc deep)) (variable_texts variables row) (variable_pairs variables row)
writes_variables deep [] row plain enough ints = tt
writes_variables deep (variable ∷ variables) row plain enough ints =
    let wide = width_of variable in (
      writes_named (suc deep) variable.name (value_text variable.length row) (variable_value variable.length row)
          plain.0 (writes_variable deep variable.length row (omega arith) ints),
      writes_variables deep variables (drop wide row) plain.1 (omega (arith, length-drop wide row))
          (each_drop IsInt wide row ints),
    )

-- a row as an object
pub writes_memory :
    (deep : ℕ) (variables : List Variable) (row : List ℤ)
    → ArePlain variables
    → width variables ≤ length row
    → AreInts row
    → Writes (suc (suc deep)) (object_text variables row) (memory_value variables row)
writes_memory deep variables row plain enough ints =
    writes_object (suc deep) (variable_texts variables row) (variable_pairs variables row)
    (writes_variables deep variables row plain enough ints)

-- the constants
pub writes_constants :
    (deep : ℕ) (names : List (List ℕ)) (values : List ℤ)
    → Each IsPlain names
    → AreInts values
    → AllZip (WritesMember deep) (constant_texts names values) (constant_pairs names values)
writes_constants deep [] values plain ints = tt
writes_constants deep (name ∷ names) [] plain ints = tt
writes_constants deep (name ∷ names) (value ∷ values) plain ints = (
  writes_named deep name (signed_decimal value) (int_value value) plain.0 (writes_int deep value ints.0),
  writes_constants deep names values plain.1 ints.1,
)
