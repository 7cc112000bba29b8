-- The view by columns is the view by names.
use Rattle.std.proofs.Common.{◌≡◌, List, Option, Some, None, refl, ap}
use Rattle.std.specs.Prelude.{ℤ, option_map}
use Rattle.flame_spec.specs.declared.conditions.Condition.{Condition}
use Rattle.flame_spec.specs.declared.models.AgentType.{AgentType}
use Rattle.flame_spec.specs.declared.models.MessageType.{MessageType}
use Rattle.flame_spec.specs.declared.models.Sort.{Sort}
use Rattle.flame_spec.specs.Views.{is_read, key_of, view}
use Rattle.flame_cond.specs.declared.keys.SortBy.{SortBy}
use Rattle.flame_cond.specs.declared.forms.Test.{Test}
use Rattle.flame_cond.specs.Said.{key_by, IsFilterOf, IsKeyOf}
use Rattle.flame_view.specs.Compiled.{is_read_by, ViewIsAsWritten}

is_read-as_written : (agent : AgentType) (message : MessageType) (condition : Option Condition) (filter : Option Test) (memory : List ℤ)
    → IsFilterOf filter condition agent message → is_read_by filter memory ≡ is_read agent message condition memory
is_read-as_written agent message None None memory says = refl
is_read-as_written agent message None (Some filter) memory says = absurd says
is_read-as_written agent message (Some condition) None memory says = absurd says
is_read-as_written agent message (Some condition) (Some filter) memory says = λ i row. says memory row i

key-as_written : (message : MessageType) (sort : Option Sort) (by : Option SortBy)
    → IsKeyOf by sort message → option_map key_by by ≡ option_map (key_of message) sort
key-as_written message None None says = refl
key-as_written message None (Some by) says = absurd says
key-as_written message (Some sort) None says = absurd says
key-as_written message (Some sort) (Some by) says = ap Some says

pub view_is_as_written : ViewIsAsWritten
view_is_as_written agent message condition sort filter by memory board says keyed =
    λ i. view (is_read-as_written agent message condition filter memory says i) (key-as_written message sort by keyed i) board
