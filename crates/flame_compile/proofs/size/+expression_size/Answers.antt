use Rattle.std.proofs.Common.{◌∙◌, ap, sym, Some}
use Rattle.flame_spec.specs.Columns.{width_by}
use Rattle.flame_compile.specs.Pieces.{Piece}
use Rattle.flame_compile.specs.Emit.{column_of, expression}
use Rattle.flame_compile.proofs.Forms.{expression-Field}
use Rattle.flame_compile.proofs.RowSizes.{each_column_length}
use Rattle.flame_compile.proofs.size.+expression_size.Goals as goal

pub expression_size-returns-in-Field : goal.expression_size-returns-in-Field
expression_size-returns-in-Field t c =
    let span = c.in-Field.span in
    c.width.ensures
    ∙ sym (each_column_length (column_of (Some c.in-Field.field-0)) span.column (width_by span.length))
    ∙ sym (ap (λ (x : Piece). x.size) (ap expression c.in-Field.is ∙ expression-Field c.in-Field.field-0 span))
