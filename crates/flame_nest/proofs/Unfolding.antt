-- The flat form of variables by a table is that of replacing them again and again.
use Rattle.std.proofs.Common.{◌≡◌, ℕ, ◌+◌, ◌<◌, List, [], ◌∷◌, ◌++◌, length, take, get_or, map, codes, refl, sym, ap, ◌∙◌, Bool, true, false, cond, Option, Some, None, true≢false, not, append_assoc}
use Rattle.std.specs.Prelude.{◌&&◌, min}
use Rattle.std.specs.Option.{is_some}
use Rattle.std.specs.List.{flat_map, fold}
use Rattle.std.specs.Str.{bytes_eq}
use Rattle.std.proofs.lemmas.List.{map-append, append-nil, take_more}
use Rattle.std.proofs.lemmas.List.Folds.{list_all-append}
use Rattle.std.proofs.lemmas.List.Sums.{fold-append}
use Rattle.std.proofs.lemmas.List.Concat.{flat_map_single}
use Rattle.std.proofs.lemmas.Grind.{flat_map-append}
use Rattle.flame_spec.specs.declared.models.Variable.{Variable}
use Rattle.flame_spec.specs.declared.wide.WideVariable.{WideVariable}
use Rattle.flame_spec.specs.declared.wide.DataType.{DataType}
use Rattle.flame_spec.specs.Columns.{width}
use Rattle.flame_spec.specs.KnownNames.{is_among}
use Rattle.flame_spec.proofs.VariableWidths.{width-append}
use Rattle.flame_nest.specs.FlatModels.{inside, replaced, spread, single, flat_variables}
use Rattle.flame_nest.specs.NestFaults.{type_names, is_wide}
use Rattle.flame_nest.specs.KindTables.{FieldTable, flat_inside, unfolded, expanded, with_type, table_of, are_new, IsKinds}
use Rattle.flame_name_sets.specs.NameTables.{look, names_of}
use Rattle.flame_nest.proofs.Measures.{capped-more}
use Rattle.flame_name_sets.proofs.Tables.{is_some-look, look-none, look-push, names_of-push}

names_inside : (v f g : List ℕ) → (v ++ (codes "_" ++ f)) ++ (codes "_" ++ g) ≡ v ++ (codes "_" ++ (f ++ (codes "_" ++ g)))
names_inside v f g = simp append_assoc

twice_inside : (v f : List ℕ) (fields : List Variable)
    → map (flat_inside (v ++ (codes "_" ++ f))) fields ≡ map (flat_inside v) (map (flat_inside f) fields)
twice_inside v f [] = refl
twice_inside v f (g ∷ fields) = λ i. (record { name = names_inside v f g.name i; length = g.length }) ∷ twice_inside v f fields i

unfolded-inside : (o : Option (List Variable)) (v f : WideVariable)
    → unfolded o (inside v f) ≡ map (flat_inside v.name) (unfolded o f)
unfolded-inside None v f = refl
unfolded-inside (Some fields) v f = twice_inside v.name f.name fields

expanded-inside : (table : FieldTable) (v : WideVariable) (fields : List WideVariable)
    → expanded table (map (inside v) fields) ≡ map (flat_inside v.name) (expanded table fields)
expanded-inside table v [] = refl
expanded-inside table v (f ∷ fields) =
    ap (λ l. l ++ expanded table (map (inside v) fields)) (unfolded-inside (look f.kind table) v f)
    ∙ ap (λ l. map (flat_inside v.name) (unfolded (look f.kind table) f) ++ l) (expanded-inside table v fields)
    ∙ sym (map-append (flat_inside v.name) (unfolded (look f.kind table) f) (expanded table fields))

one_more : (table : FieldTable) (type : DataType) (v : WideVariable) (same : Bool)
    → unfolded (cond same (Some (expanded table type.variables)) (look v.kind table)) v
    ≡ expanded table (cond same (map (inside v) type.variables) (v ∷ []))
one_more table type v true = sym (expanded-inside table v type.variables)
one_more table type v false = sym (append-nil (unfolded (look v.kind table) v))

expanded-step : (table : FieldTable) (type : DataType) (variables : List WideVariable)
    → look type.name table ≡ None
    → expanded (with_type table type) variables ≡ expanded table (flat_map (replaced type) variables)
expanded-step table type [] new = refl
expanded-step table type (v ∷ variables) new =
    let found = look-push type.name v.kind (expanded table type.variables) table new in
    ap (λ o. unfolded o v ++ expanded (with_type table type) variables) found
    ∙ ap (λ l. l ++ expanded (with_type table type) variables) (one_more table type v (bytes_eq v.kind type.name))
    ∙ ap (λ l. expanded table (replaced type v) ++ l) (expanded-step table type variables new)
    ∙ sym (flat_map-append (λ v. unfolded (look v.kind table) v) (replaced type v) (flat_map (replaced type) variables))

new_first : (b c : Bool) → (not b && c) ≡ true → b ≡ false
new_first true c h = absurd (true≢false (sym h))
new_first false c h = refl

new_rest : (b c : Bool) → (not b && c) ≡ true → c ≡ true
new_rest true c h = absurd (true≢false (sym h))
new_rest false c h = h

expanded-fold : (table : FieldTable) (types : List DataType) (variables : List WideVariable)
    → are_new (names_of table) types ≡ true
    → expanded (fold with_type table types) variables ≡ expanded table (spread types variables)
expanded-fold table [] variables new = refl
expanded-fold table (type ∷ types) variables new =
    let first = new_first _ _ new in
    let rest : are_new (names_of (with_type table type)) types ≡ true =
    ap (λ names. are_new names types) (names_of-push table type.name (expanded table type.variables)) ∙ new_rest _ _ new in
    expanded-fold (with_type table type) types variables rest
    ∙ expanded-step table type (spread types variables) (look-none type.name table first)

-- the flat form of variables is that by the table, where all names are new
pub expanded-is : (types : List DataType) (variables : List WideVariable)
    → are_new [] types ≡ true
    → expanded (table_of types) variables ≡ flat_variables types variables
expanded-is types variables new = expanded-fold [] types variables new ∙ flat_map_single single (spread types variables)

-- the same of one variable
pub unfolded-is : (types : List DataType) (variable : WideVariable)
    → are_new [] types ≡ true
    → unfolded (look variable.kind (table_of types)) variable ≡ flat_variables types (variable ∷ [])
unfolded-is types variable new =
    sym (append-nil (unfolded (look variable.kind (table_of types)) variable)) ∙ expanded-is types (variable ∷ []) new

names-fold : (table : FieldTable) (types : List DataType)
    → names_of (fold with_type table types) ≡ names_of table ++ type_names types
names-fold table [] = sym (append-nil (names_of table))
names-fold table (type ∷ types) =
    names-fold (with_type table type) types
    ∙ ap (λ l. l ++ type_names types) (names_of-push table type.name (expanded table type.variables))
    ∙ append_assoc (names_of table) (type.name ∷ []) (type_names types)

-- a name is in the table where a data type has it
pub is_some-table : (types : List DataType) (name : List ℕ)
    → is_some (look name (table_of types)) ≡ is_among name (type_names types)
is_some-table types name = is_some-look name (table_of types) ∙ ap (is_among name) (names-fold [] types)

-- one data type more, of a new name
pub are_new-push : (names : List (List ℕ)) (types : List DataType) (type : DataType)
    → are_new names types ≡ true
    → is_among type.name (names ++ type_names types) ≡ false
    → are_new names (types ++ type ∷ []) ≡ true
are_new-push names [] type new h = ap (λ b. not b && true) (ap (is_among type.name) (sym (append-nil names)) ∙ h)
are_new-push names (other ∷ types) type new h =
    let rest = are_new-push (names ++ other.name ∷ []) types type (new_rest _ _ new)
    (ap (is_among type.name) (append_assoc names (other.name ∷ []) (type_names types)) ∙ h) in
    ap (λ b. not b && are_new (names ++ other.name ∷ []) (types ++ type ∷ [])) (new_first _ _ new) ∙ rest

spread-nil : (types : List DataType) → spread types [] ≡ []
spread-nil [] = refl
spread-nil (type ∷ types) = ap (flat_map (replaced type)) (spread-nil types)

-- no variables have no flat form
pub flat_variables-nil : (types : List DataType) → flat_variables types [] ≡ []
flat_variables-nil types = ap (map single) (spread-nil types)

spread-append : (types : List DataType) (xs ys : List WideVariable)
    → spread types (xs ++ ys) ≡ spread types xs ++ spread types ys
spread-append [] xs ys = refl
spread-append (type ∷ types) xs ys =
    ap (flat_map (replaced type)) (spread-append types xs ys)
    ∙ flat_map-append (replaced type) (spread types xs) (spread types ys)

pub flat_variables-append : (types : List DataType) (xs ys : List WideVariable)
    → flat_variables types (xs ++ ys) ≡ flat_variables types xs ++ flat_variables types ys
flat_variables-append types xs ys =
    ap (map single) (spread-append types xs ys) ∙ map-append single (spread types xs) (spread types ys)

-- the flat form of one variable more
pub flat_variables-more : (types : List DataType) (variables : List WideVariable) (i : ℕ) (d : WideVariable)
    → i < length variables
    → flat_variables types (take (i + 1) variables)
    ≡ flat_variables types (take i variables) ++ flat_variables types (get_or variables i d ∷ [])
flat_variables-more types variables i d inside =
    ap (flat_variables types) (take_more variables i d inside)
    ∙ flat_variables-append types (take i variables) (get_or variables i d ∷ [])

-- a table with one data type more
pub IsKinds-push : (types : List DataType) (table : FieldTable) (type : DataType) (fields : List Variable)
    → IsKinds types table
    → is_among type.name (type_names types) ≡ false
    → fields ≡ flat_variables types type.variables
    → is_wide fields ≡ false
    → IsKinds (types ++ type ∷ []) (table ++ (type.name, fields) ∷ [])
IsKinds-push types table type fields kinds new flat narrow = record {
  same =
      let put : fields ≡ expanded (table_of types) type.variables = flat ∙ sym (expanded-is types type.variables kinds.once) in
      ap (λ l. l ++ (type.name, fields) ∷ []) kinds.same
      ∙ ap (λ f. table_of types ++ (type.name, f) ∷ []) put
      ∙ sym (fold-append with_type [] types (type ∷ []));
  once = are_new-push [] types type kinds.once new;
  narrow =
      list_all-append (λ entry. not (is_wide entry.1)) table ((type.name, fields) ∷ [])
      ∙ ap (λ b. b && (not (is_wide fields) && true)) kinds.narrow
      ∙ ap (λ b. not b && true) narrow;
}

pub names_of-table : (types : List DataType) → names_of (table_of types) ≡ type_names types
names_of-table types = names-fold [] types

-- a loop that flattens one variable more
pub flat-more : (types : List DataType) (variables : List WideVariable) (i : ℕ) (d item : WideVariable)
    (before after : List Variable)
    → i < length variables
    → item ≡ get_or variables i d
    → before ≡ flat_variables types (take i variables)
    → after ≡ before ++ flat_variables types (item ∷ [])
    → after ≡ flat_variables types (take (i + 1) variables)
flat-more types variables i d item before after inside is done put =
    put
    ∙ ap (λ l. l ++ flat_variables types (item ∷ [])) done
    ∙ ap (λ v. flat_variables types (take i variables) ++ flat_variables types (v ∷ [])) is
    ∙ sym (flat_variables-more types variables i d inside)

-- a loop that counts the columns of one variable more
pub capped_flat-more : (types : List DataType) (variables : List WideVariable) (i : ℕ) (d item : WideVariable)
    (before more after : ℕ)
    → i < length variables
    → item ≡ get_or variables i d
    → before ≡ min (width (flat_variables types (take i variables))) 4097
    → more ≡ width (flat_variables types (item ∷ []))
    → after ≡ min (before + more) 4097
    → after ≡ min (width (flat_variables types (take (i + 1) variables))) 4097
capped_flat-more types variables i d item before more after inside is done one put =
    let whole = flat-more types variables i d item
    (flat_variables types (take i variables))
    (flat_variables types (take i variables) ++ flat_variables types (item ∷ []))
    inside is refl refl in
    put
    ∙ ap (λ n. min (n + more) 4097) done
    ∙ capped-more (width (flat_variables types (take i variables))) more
    ∙ ap (λ n. min (width (flat_variables types (take i variables)) + n) 4097) one
    ∙ ap (λ n. min n 4097) (sym (width-append (flat_variables types (take i variables)) (flat_variables types (item ∷ []))))
    ∙ ap (λ l. min (width l) 4097) whole
