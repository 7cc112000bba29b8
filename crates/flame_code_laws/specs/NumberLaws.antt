-- What holds of the numbers of locals: those that a source's bodies are given.
use Rattle.std.specs.Prelude.{◌≡◌, length, true}
use Rattle.flame_spec.specs.Definitions.{Definition}
use Rattle.flame_spec.specs.Scopes.{Context}
use Rattle.flame_body.specs.FitLaws.{numbered_definition}
use Rattle.flame_code_laws.specs.LocalNumbers.{tree_numbered}

-- the body of each C function has its locals numbered rightly, behind those that its parameters are [C, 6.2.1, 6.9.1]
abbrev pub DefinitionsNumbered : Type 0
DefinitionsNumbered =
    (context : Context) (d : Definition)
    → tree_numbered (length d.parameters) (numbered_definition context d) ≡ true
