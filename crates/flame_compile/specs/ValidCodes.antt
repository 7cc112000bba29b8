-- That the code of a body is valid: its runs miss no operand, never leave it, read rows in their loops alone and spend
-- fuel in each turn.
use Rattle.std.specs.Prelude.{◌≡◌, List, true}
use Rattle.flame_spec.specs.declared.outcomes.Widths.{Widths}
use Rattle.flame_body.specs.declared.slots.SlotStmt.{SlotStmt}
use Rattle.flame_body.specs.BodyFits.{tree_fits}
use Rattle.flame_code.specs.Validity.{IsValid}
use Rattle.flame_compile.specs.Emit.{emitted}

-- the code of a body that fits its widths is valid with these widths [own]
abbrev pub CodesAreValid : Type 0
CodesAreValid =
    (widths : Widths) (tree : List SlotStmt)
    → tree_fits widths tree ≡ true → IsValid (record { instrs = emitted tree; widths = widths })
