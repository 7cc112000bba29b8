-- What holds of time conditions, choices and views. [own]
use Rattle.std.specs.Prelude.{◌≡◌, ℕ, ◌<◌, ℤ, pos, ◌+ℤ◌, ◌≤ℤ◌, List, Bool, true, false, Option, Some, None, slice_get, if◌then◌else◌}
use Rattle.std.specs.declared.cmp.Ordering.{Ordering}
use Rattle.std.specs.declared.cmp.Ordering.TheVariants.{Less}
use Rattle.std.specs.Ordering.{int_eq}
use Rattle.flame_rows.specs.Order.{row_order}
use Rattle.flame_rows.specs.Sorted.{IsAscending}
use Rattle.flame_rows.specs.Bags.{count_of}
use Rattle.flame_spec.specs.declared.models.Model.{Model}
use Rattle.flame_spec.specs.Conditions.{in_time, number_at}
use Rattle.flame_spec.specs.Functions.{Place, functions}
use Rattle.flame_spec.specs.Choice.{may_take, choice, is_chosen, takers}
use Rattle.flame_spec.specs.Views.{Key, key_order, view_order, view}

-- ---- time

-- a time condition holds again after a period
abbrev pub TimeRepeats : Type 0
TimeRepeats =
    (period phase duration iteration : ℤ)
    → pos 1 ≤ℤ period
    → in_time period phase duration (iteration +ℤ period) ≡ in_time period phase duration iteration

-- ---- choice

-- the function of this number may be taken, and no function before it
pub record IsFirstToTake
    (model : Model) (agent : ℕ) (state : List ℕ) (memory : List ℤ) (iteration : ℤ) (function : ℕ)
    : Type 0 where
  pub place : Place
  pub stands : slice_get (functions model) function ≡ Some place
  pub holds : may_take model.units agent state memory iteration place ≡ true
  pub earlier :
      (number : ℕ) (other : Place)
      → number < function
      → slice_get (functions model) number ≡ Some other
      → may_take model.units agent state memory iteration other ≡ false

-- what is chosen is the first function that may be taken
abbrev pub ChoiceIsFirst : Type 0
ChoiceIsFirst =
    (model : Model) (agent : ℕ) (state : List ℕ) (memory : List ℤ) (iteration : ℤ) (function : ℕ)
    → choice model agent state memory iteration ≡ Some function
    → IsFirstToTake model agent state memory iteration function

-- the first function that may be taken is chosen
abbrev pub FirstIsChosen : Type 0
FirstIsChosen =
    (model : Model) (agent : ℕ) (state : List ℕ) (memory : List ℤ) (iteration : ℤ) (function : ℕ)
    → IsFirstToTake model agent state memory iteration function
    → choice model agent state memory iteration ≡ Some function

-- where nothing is chosen no function may be taken
abbrev pub NoChoiceWhereNone : Type 0
NoChoiceWhereNone =
    (model : Model) (agent : ℕ) (state : List ℕ) (memory : List ℤ) (iteration : ℤ) (number : ℕ) (other : Place)
    → choice model agent state memory iteration ≡ None
    → slice_get (functions model) number ≡ Some other
    → may_take model.units agent state memory iteration other ≡ false

-- each agent that chooses the function stands among its takers as often as it rests there, and no other agent
abbrev pub TakersKeepCounts : Type 0
TakersKeepCounts =
    (model : Model) (agent : ℕ) (state : List ℕ) (function : ℕ) (iteration : ℤ)
    (resting : List (List ℤ)) (memory : List ℤ)
    → count_of (takers model agent state function iteration resting) memory
    ≡ (if is_chosen function (choice model agent state memory iteration) then count_of resting memory else 0)

-- ---- views

-- each row that passes stands in the view as often as on the board, and no other row
abbrev pub ViewKeepsCounts : Type 0
ViewKeepsCounts =
    (passes : List ℤ → Bool) (key : Option Key) (board : List (List ℤ)) (row : List ℤ)
    → count_of (view passes key board) row ≡ (if passes row then count_of board row else 0)

-- a view goes by its order
abbrev pub ViewAscends : Type 0
ViewAscends =
    (passes : List ℤ → Bool) (key : Option Key) (board : List (List ℤ))
    → IsAscending (view_order key) (view passes key board)

-- a sorted view goes by its key, in the key's direction
abbrev pub ViewGoesByKey : Type 0
ViewGoesByKey =
    (passes : List ℤ → Bool) (key : Key) (board : List (List ℤ))
    → IsAscending (key_order key) (view passes (Some key) board)

-- rows with equal numbers in the column by content, all others in any order
abbrev pub tie_order : ℕ → List ℤ → List ℤ → Ordering
tie_order place row other =
    if int_eq (number_at row place) (number_at other place) then row_order row other else Less

-- in a sorted view rows with equal numbers there go by content ascending, in both directions of the key
abbrev pub ViewTiesByContent : Type 0
ViewTiesByContent =
    (passes : List ℤ → Bool) (key : Key) (board : List (List ℤ))
    → IsAscending (tie_order key.column) (view passes (Some key) board)

-- no other list goes by that order and has the rows that pass as often as they stand on the board
abbrev pub ViewIsTheOne : Type 0
ViewIsTheOne =
    (passes : List ℤ → Bool) (key : Option Key) (board rows : List (List ℤ))
    → IsAscending (view_order key) rows
    → ((row : List ℤ) → count_of rows row ≡ (if passes row then count_of board row else 0))
    → rows ≡ view passes key board

-- without a filter and a sort the view is the board
abbrev pub PlainViewIsBoard : Type 0
PlainViewIsBoard =
    (board : List (List ℤ)) → IsAscending row_order board → view (λ row. true) None board ≡ board
