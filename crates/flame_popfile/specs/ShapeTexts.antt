-- Rows in what was made for their form.
use Rattle.std.specs.Prelude.{ℕ, ℤ, List}
use Rattle.flame_popfile.specs.RowTexts.{row_text}
use Rattle.flame_popfile.specs.ObjectTexts.{written_object, written_agent}
use Rattle.flame_popfile.specs.declared.shapes.Shape.{Shape}
use Rattle.flame_popfile.specs.declared.shapes.Shape.TheVariants as shape

-- a row in this shape [own]
abbrev pub shape_text : Shape → List ℤ → List ℕ
shape_text shape.List = row_text
shape_text (shape.Object object) = written_object object
shape_text (shape.Agent object) = written_agent object
