-- Views: the rows of a board that a message loop goes over.
use Rattle.std.specs.Prelude.{ℕ, ℤ, List, Bool, true, Option, Some, None, option_map, if◌then◌else◌}
use Rattle.std.specs.List.{filter}
use Rattle.std.specs.declared.cmp.Ordering.{Ordering}
use Rattle.std.specs.Ordering.{int_cmp, then_cmp, on, flip_args}
use Rattle.flame_rows.specs.Order.{row_order}
use Rattle.flame_rows.specs.Sorted.{sorted_by}
use Rattle.flame_spec.specs.declared.conditions.Condition.{Condition}
use Rattle.flame_spec.specs.declared.models.AgentType.{AgentType}
use Rattle.flame_spec.specs.declared.models.MessageType.{MessageType}
use Rattle.flame_spec.specs.declared.models.Sort.{Sort}
use Rattle.flame_spec.specs.Columns.{column}
use Rattle.flame_spec.specs.Conditions.{number_at, filter_passes}

-- what rows are sorted by: a column, and whether its greatest number comes first [libmboard]
pub record Key : Type 0 where
  pub column : ℕ
  pub descending : Bool

-- by the numbers in a column, the least first [libmboard]
abbrev pub column_order : ℕ → List ℤ → List ℤ → Ordering
column_order place = on (λ row. number_at row place) int_cmp

-- by the key, in its direction [libmboard]
abbrev pub key_order : Key → List ℤ → List ℤ → Ordering
key_order key = if key.descending then flip_args (column_order key.column) else column_order key.column

-- by the key, and rows with equal numbers there by content ascending; without a key by content ascending
-- [libmboard; ties, and no sort: own]
abbrev pub view_order : Option Key → List ℤ → List ℤ → Ordering
view_order None = row_order
view_order (Some key) = then_cmp (key_order key) row_order

-- the view of a board: the rows that pass, each as often as it stands there, in order [libmboard]
abbrev pub view : (List ℤ → Bool) → Option Key → List (List ℤ) → List (List ℤ)
view passes key board = sorted_by (view_order key) (filter passes board)

-- ---- by names

-- which rows an agent with this memory reads: those that pass the filter, and without a filter all [XMML]
abbrev pub is_read : AgentType → MessageType → Option Condition → List ℤ → List ℤ → Bool
is_read agent message None memory row = true
is_read agent message (Some condition) memory row = filter_passes agent message condition memory row

-- the key of a sort [XMML]
abbrev pub key_of : MessageType → Sort → Key
key_of message sort = record { column = column sort.key message.variables; descending = sort.descending }

-- what a message loop gives: the view of the board under the filter, with the memory at entry, and the sort
-- [FLAME User Manual]
abbrev pub view_of : AgentType → MessageType → Option Condition → Option Sort → List ℤ → List (List ℤ) → List (List ℤ)
view_of agent message condition sort memory board =
    view (is_read agent message condition memory) (option_map (key_of message) sort) board
