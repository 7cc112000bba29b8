-- What is kept beside a board for those who read it.
use Rattle.std.specs.Prelude.{ℕ, ◌^◌, nat_lt, List, [], ◌∷◌, Vec, Bool, ◌&&◌, ◌||◌, IsTrue, if◌then◌else◌, length, map}
use Rattle.std.specs.Prelude.{slice_index_or}
use Rattle.std.specs.List.{list_any}
use Rattle.std.specs.Global.{Global}
use Rattle.flame_spec.specs.Views.{Key}
use Rattle.flame_cond.specs.Said.{key_by}
use Rattle.flame_index.specs.FrozenBoards.{Kept, is_kept, is_same_key, nothing_kept, with_key}
use Rattle.flame_field.specs.declared.boards.Board.{Board}
use Rattle.flame_field.specs.declared.keeping.Want.{Want}
use Rattle.flame_field.specs.KeptBoards.{board_bag, board_keeps}

-- so many rows are halved down to none by no more steps than there are views [own]
abbrev pub are_enough : (views rows : ℕ) → Bool
are_enough views rows = nat_lt rows (2 ^ views)

-- to put rows in order takes less than to go over all of them for each view, where there is something to order: each row is
-- compared about as often as all are halved down to none [own]
abbrev pub pays : (views rows : ℕ) → Bool
pays views rows = nat_lt 1 rows && are_enough views rows

-- what is kept with this order too, where it pays [own]
abbrev pub with_want : ℕ → Want → Kept → Kept
with_want rows want kept = if pays want.views rows then with_key (key_by want.by) kept else kept

-- what is kept with the orders too that are wanted and pay, in their order [own]
abbrev pub with_wants : ℕ → List Want → Kept → Kept
with_wants rows [] kept = kept
with_wants rows (want ∷ wants) kept = with_wants rows wants (with_want rows want kept)

-- ---- of what was kept nothing is lost

-- whether the order by the key is wanted, and pays for so many rows [own]
abbrev pub is_wanted : ℕ → List Want → Key → Bool
is_wanted rows wants key = list_any (λ want. pays want.views rows && is_same_key key (key_by want.by)) wants

-- what was kept is kept still, and what is kept now was kept or is wanted and pays [own]
pub record KeepsWanted (rows : ℕ) (wants : List Want) (old new : Kept) : Type 0 where
  pub still : (key : Key) → IsTrue (is_kept key old) → IsTrue (is_kept key new)
  pub only : (key : Key) → IsTrue (is_kept key new) → IsTrue (is_kept key old || is_wanted rows wants key)

-- ---- what is told for each message

-- what is wanted of the board of this message, where that is told for each; of one that is not told nothing [own]
abbrev pub wants_at : List (Vec Want Global) → ℕ → List Want
wants_at wants message = slice_index_or (map (λ own. own.items) wants) message []

-- of what was kept beside some boards nothing is lost, and nothing comes but what is wanted of a board and pays for its
-- messages [own]
abbrev pub KeepWanted : List (Vec Want Global) → (old new : List Board) → Type 0
KeepWanted wants old new =
    (message : ℕ)
    → KeepsWanted
    (length (slice_index_or (map board_bag old) message []))
    (wants_at wants message)
    (slice_index_or (map board_keeps old) message nothing_kept)
    (slice_index_or (map board_keeps new) message nothing_kept)
