-- What tables declare.
use Rattle.std.specs.Prelude.{[], unwrap_or}
use Rattle.flame_spec.specs.KnownNames.{DeclaredNames}
use Rattle.flame_spec.specs.Leaves.{LeafScope}
use Rattle.flame_names.specs.declared.leaves.Scope.{Scope}
use Rattle.flame_names.specs.declared.functions.Tables.{Tables}
use Rattle.flame_name_sets.specs.NameTables.{look, names_of}

-- what the names in a condition may stand for, by its tables [own]
abbrev pub scope_of : Scope → LeafScope
scope_of scope = record {
  memory = scope.memory.now;
  message = scope.message.now;
  units = names_of scope.units.now;
}

-- the names that agent types find declared, by the tables [own]
abbrev pub declared_of : Tables → DeclaredNames
declared_of tables = record {
  constants = tables.constants.now;
  units = names_of tables.units.now;
  messages = names_of tables.messages.now;
  variables = λ name. unwrap_or (look name tables.messages.now) [];
}
