-- Variables that are looked up in a table.
use Rattle.std.proofs.Common.{◌≡◌, ℕ, ◌+◌, List, [], ◌∷◌, refl, sym, Bool, true, false, cond, Bor}
use Rattle.std.proofs.Common.{Option, Some, option_map}
use Rattle.std.specs.Option.{is_some}
use Rattle.std.specs.Map.{lookup}
use Rattle.std.specs.Str.{bytes_eq}
use Rattle.flame_rows.proofs.Bytes.{bytes_eq-sym}
use Rattle.flame_spec.specs.declared.models.Variable.{Variable}
use Rattle.flame_spec.specs.Columns.{columned_from, variable_named, width_of, is_array}
use Rattle.flame_spec.specs.KnownNames.{is_among, variable_names}
use Rattle.flame_name_sets.proofs.Tables.{is_some-cond}
use Rattle.flame_names.specs.VariableTables.{variables_in_table}

array_step : (b c : Bool) (variable : Variable) (from : ℕ) (rest : Option (ℕ × Variable)) (more : Option (Option ℕ))
    → b ≡ c
    → option_map (λ found. is_array found.1) rest ≡ option_map is_some more
    → option_map (λ found. is_array found.1) (cond b (Some (from, variable)) rest)
    ≡ option_map is_some (cond c (Some variable.length) more)
array_step true true variable from rest more e h = refl
array_step false false variable from rest more e h = h
array_step true false variable from rest more e h = cc
array_step false true variable from rest more e h = cc

array_from : (from : ℕ) (name : List ℕ) (entries : List (Bor (List ℕ) × Option ℕ))
    → option_map (λ found. is_array found.1) (columned_from (λ variable. bytes_eq variable.name name) from (variables_in_table entries))
    ≡ option_map is_some (lookup (λ key. bytes_eq name key.now) entries)
array_from from name [] = refl
array_from from name (entry ∷ entries) =
    array_step
    (bytes_eq entry.0.now name)
    (bytes_eq name entry.0.now)
    (let v : Variable = record { name = entry.0.now; length = entry.1 } in v)
    from
    _
    (lookup (λ key. bytes_eq name key.now) entries)
    (bytes_eq-sym entry.0.now name)
    (array_from (from + width_of (let v : Variable = record { name = entry.0.now; length = entry.1 } in v)) name entries)

-- whether the variable of a name is an array
pub array-is : (name : List ℕ) (entries : List (Bor (List ℕ) × Option ℕ))
    → option_map (λ found. is_array found.1) (variable_named (variables_in_table entries) name)
    ≡ option_map is_some (lookup (λ key. bytes_eq name key.now) entries)
array-is name entries = array_from 0 name entries

-- a name is among those of the variables where an entry has it
pub there-is : (name : List ℕ) (entries : List (Bor (List ℕ) × Option ℕ))
    → is_among name (variable_names (variables_in_table entries))
    ≡ is_some (lookup (λ key. bytes_eq name key.now) entries)
there-is name [] = refl
there-is name (entry ∷ entries) =
    sym
    (is_some-cond
    (bytes_eq name entry.0.now)
    (is_among name (variable_names (variables_in_table entries)))
    entry.1
    (lookup (λ key. bytes_eq name key.now) entries)
    (sym (there-is name entries)))
