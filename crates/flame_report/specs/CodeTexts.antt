-- The text of `code`: the listings of all functions and helpers of a source.
use Rattle.std.specs.Prelude.{ℕ, List, ◌++◌, codes}
use Rattle.flame_spec.specs.declared.outcomes.Source.{Source}
use Rattle.flame_spec.specs.Definitions.{Definition, helpers}
use Rattle.flame_spec.specs.Functions.{Place, functions}
use Rattle.flame_spec.specs.Lists.{each}
use Rattle.flame_body.specs.FunctionBodies.{function_body, helper_body}
use Rattle.flame_compile.specs.Emit.{emitted}
use Rattle.flame_report.specs.LineParts.{place_name}
use Rattle.flame_report.specs.CodeListings.{listing}

-- the listing of a function of this number, under `Type.function` [own]
abbrev pub function_listing : Source → ℕ → Place → List ℕ
function_listing source number place =
    listing (place_name place) (emitted (function_body source.model source.units number place).tree)

-- the listing of a helper of this number, under `helper NAME` [own]
abbrev pub helper_listing : Source → ℕ → Definition → List ℕ
helper_listing source number d =
    listing (codes "helper " ++ d.name) (emitted (helper_body source.model source.units number d).tree)

-- the functions of the model in document order, and then the helpers in source order [own]
abbrev pub code_lines : Source → List ℕ
code_lines source =
    each (function_listing source) (functions source.model)
    ++ each (helper_listing source) (helpers source.model source.units)
