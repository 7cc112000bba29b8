-- There is a field for each variable before a place.
use Rattle.std.proofs.Common.{◌≡◌, ℕ, ◌<◌, length, take}
use Rattle.std.specs.Prelude.{slice_index_or}
use Rattle.flame_spec.specs.Columns.{width}
use Rattle.flame_popfile.specs.FieldTexts.{IsField}
use Rattle.flame_popfile.specs.declared.fields.Field.{Field}
use Rattle.flame_popfile.proofs.fields.fields.Given as goal

abbrev pub invariant-loop-variable : goal.invariant-loop-variable
invariant-loop-variable l = record {
  count : length l.fields.items ≡ l.variable-index;
  column : l.column ≡ width (take l.variable-index l.variables);
  each :
      (i : ℕ) (other : Field)
      → i < length l.fields.items
      → IsField l.variables i (slice_index_or l.fields.items i other);
}
