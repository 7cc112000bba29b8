-- What is written of each variable of an object.
use Rattle.std.specs.Prelude.{◌≡◌, ℕ, ◌<◌, List, ◌++◌, length, take, nat_lt, slice_index_or}
use Rattle.flame_spec.specs.declared.models.Variable.{Variable}
use Rattle.flame_spec.specs.Columns.{width}
use Rattle.flame_popfile.specs.CommaTexts.{comma_where, name_text}
use Rattle.flame_popfile.specs.declared.fields.Field.{Field}

-- the field is that of the variable at this place [own]
pub record IsField (variables : List Variable) (i : ℕ) (field : Field) : Type 0 where
  pub variable : slice_index_or variables i field.variable.now ≡ field.variable.now
  pub key : field.key.items ≡ comma_where (nat_lt 0 i) ++ name_text field.variable.now.name
  pub column : field.column ≡ width (take i variables)

-- there is a field for each of these variables [own]
pub record AreFields (variables : List Variable) (fields : List Field) : Type 0 where
  pub count : length fields ≡ length variables
  pub each : (i : ℕ) (other : Field) → i < length fields → IsField variables i (slice_index_or fields i other)
