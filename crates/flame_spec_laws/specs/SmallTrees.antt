-- Small trees and faults, which worked cases speak of. [own]
use Rattle.std.specs.Prelude.{ℕ, List, [], ◌∷◌, Option, None, option_map}
use Rattle.flame_spec.specs.declared.faults.CheckFault.{CheckFault}
use Rattle.flame_spec.specs.declared.faults.CheckKind.{CheckKind}
use Rattle.flame_spec.specs.Trees.{Expression, Statement, declare, assign, call, plain}
use Rattle.flame_spec.specs.Seen.{expressions_of}

-- `int word;` and `int word = e;`
abbrev pub local : ℕ → List ℕ → Option Expression → Statement
local line word value = declare (record { line = line; name = word; value = option_map plain value } ∷ [])

-- `word = e;`
abbrev pub set : ℕ → List ℕ → Expression → Statement
set line word e =
    assign (record { line = line; name = word; subscript = None; op = None; op_line = line; value = plain e })

-- `word(arguments);`
abbrev pub calls : ℕ → List ℕ → List Expression → Statement
calls line word arguments = call line word (expressions_of arguments)

-- a fault in the file of this number
abbrev pub found_in : ℕ → CheckKind → ℕ → List ℕ → CheckFault
found_in file kind line word = record { kind = kind; file = file; line = line; name = word }

-- a fault in the first file
abbrev pub found : CheckKind → ℕ → List ℕ → CheckFault
found = found_in 0
