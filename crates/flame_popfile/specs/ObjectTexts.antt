-- Rows as objects, by what is made once for all of them.
use Rattle.std.specs.Prelude.{ℕ, ℤ, List, ◌++◌, codes}
use Rattle.flame_popfile.specs.RowTexts.{with_commas, variable_texts}
use Rattle.flame_popfile.specs.declared.objects.Object.{Object}

-- a row as such an object [own]
abbrev pub written_object : Object → List ℤ → List ℕ
written_object object row =
    object.head.items ++ (with_commas (variable_texts object.variables.now row) ++ codes "}")

-- an agent: such an object, whose head begins the agent, and a brace behind it [own]
abbrev pub written_agent : Object → List ℤ → List ℕ
written_agent object row = written_object object row ++ codes "}"
