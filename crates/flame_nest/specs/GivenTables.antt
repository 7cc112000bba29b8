-- Tables of what earlier files declare: each name with the variables that all its declarations have, if they agree.
use Rattle.std.specs.Prelude.{ℕ, List, [], ◌∷◌, Bool, true, false, not, Option, Some, None, is_some, if◌then◌else◌}
use Rattle.std.specs.Borrow.{Bor}
use Rattle.std.specs.Str.{bytes_eq}
use Rattle.std.specs.Cmp.Lexicographic.{pointwise}
use Rattle.flame_spec.specs.declared.wide.WideVariable.{WideVariable}
use Rattle.flame_nest.specs.NestFaults.{Declaration, Given, is_alike}
use Rattle.flame_name_sets.specs.NameTables.{look}

-- variables, where all declarations of a name agree on them [own]
abbrev pub Agreed : Type 0
Agreed = Option (List WideVariable)

-- what a table keeps of a name, as its variables [own]
abbrev pub shown_agreed : Option (Bor (List WideVariable)) → Agreed
shown_agreed None = None
shown_agreed (Some variables) = Some variables.now

-- names with what their declarations agree on [own]
abbrev pub GivenTable : Type 0
GivenTable = List (List ℕ × Agreed)

-- what one declaration more agrees on with those before it [own]
abbrev pub agreed_with : List WideVariable → Option Agreed → Agreed
agreed_with variables None = Some variables
agreed_with variables (Some None) = None
agreed_with variables (Some (Some other)) = if pointwise is_alike other variables then Some other else None

-- these variables differ from those of a declaration [own]
abbrev pub differs_from : List WideVariable → Option Agreed → Bool
differs_from variables None = false
differs_from variables (Some None) = true
differs_from variables (Some (Some other)) = not (pointwise is_alike other variables)

-- what the table tells [own]
abbrev pub given_in : GivenTable → Given
given_in table = record {
  has = λ name. is_some (look name table);
  differs = λ declaration. differs_from declaration.variables (look declaration.name table);
}

-- the entry of this name with another value, or a new entry [own]
abbrev pub with_entry : {X : Type 0} → List ℕ → X → List (List ℕ × X) → List (List ℕ × X)
with_entry name x [] = (name, x) ∷ []
with_entry name x (entry ∷ entries) =
    if bytes_eq name entry.0 then (entry.0, x) ∷ entries else entry ∷ with_entry name x entries

-- the table with one declaration more [own]
abbrev pub with_declaration : GivenTable → Declaration → GivenTable
with_declaration table declaration =
    with_entry
    declaration.name
    (agreed_with declaration.variables (look declaration.name table))
    table
