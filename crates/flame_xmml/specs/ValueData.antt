-- What borrowed values are.
use Rattle.std.specs.Borrow.{Bor}
use Rattle.std.specs.Prelude.{Option, Some, None}
use Rattle.serde_json.specs.Data.{Data, null}
use Rattle.serde_json.specs.View.{view}
use Rattle.serde_json.specs.declared.value.Value.{Value}

-- the data of a value that may be missing; null where it is [own]
abbrev pub data_of : Option (Bor Value) → Data
data_of None = null
data_of (Some value) = view value.now
