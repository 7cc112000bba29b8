-- What is kept beside a board.
use Rattle.std.proofs.Common.{◌≡◌, ◌∙◌, ℕ, zero, suc, ◌<◌, List, [], ◌∷◌, length, map, get_or, sym, ap, subst, arith, inl, inr}
use Rattle.std.specs.Prelude.{ℤ, Vec, slice_set, slice_index_or}
use Rattle.std.specs.Global.{Global}
use Rattle.std.proofs.lemmas.Bool.{or_cases, or_left, or_right}
use Rattle.flame_rows.proofs.Lists.{slice_index_or-map}
use Rattle.flame_rows.proofs.BagLaws.{length-ascending}
use Rattle.flame_index.specs.FrozenBoards.{FrozenBoard, messages_on, Kept, is_kept, nothing_kept}
use Rattle.flame_field.specs.declared.boards.Board.{Board}
use Rattle.flame_field.specs.declared.boards.Board.TheVariants as board
use Rattle.flame_field.specs.declared.keeping.Want.{Want}
use Rattle.flame_field.specs.KeptBoards.{board_bag, board_keeps}
use Rattle.flame_field.specs.KeptOrders.{is_wanted, wants_at, KeepsWanted, KeepWanted}

-- what is kept beside a board that is frozen
pub board-keeps : (wants : List Want) (b : Board) (old : FrozenBoard) (new mid : Kept) → b ≡ board.Frozen old → new ≡ mid
    → KeepsWanted (length (messages_on old)) wants old.kept mid
    → KeepsWanted (length (board_bag b)) wants (board_keeps b) new
board-keeps wants b old new mid is same keeps =
    let long : length (board_bag (board.Frozen old)) ≡ length (messages_on old) = length-ascending (messages_on old) in
    subst (λ (own : Board). KeepsWanted (length (board_bag own)) wants (board_keeps own) new) (sym is)
    (subst (λ (kept : Kept). KeepsWanted (length (board_bag (board.Frozen old))) wants old.kept kept) (sym same)
    (subst (λ (rows : ℕ). KeepsWanted rows wants old.kept mid) (sym long) keeps))

keeps-same : (rows : ℕ) (wants : List Want) (kept : Kept) → KeepsWanted rows wants kept kept
keeps-same rows wants kept = record {
  still = λ key is. is;
  only = λ key is. or_left (is_kept key kept) (is_wanted rows wants key) is;
}

keeps-then : (rows : ℕ) (wants : List Want) (one two three : Kept)
    → KeepsWanted rows wants one two → KeepsWanted rows wants two three → KeepsWanted rows wants one three
keeps-then rows wants one two three first later = record {
  still = λ key is. later.still key (first.still key is);
  only = λ key is.
      elim (or_cases (is_kept key two) (is_wanted rows wants key) (later.only key is)) [
        | inl before ↦ first.only key before
        | inr wanted ↦ or_right (is_kept key one) (is_wanted rows wants key) wanted
      ];
}

-- what holds of each element as it is seen, where one is written of which it holds
written-at : {X Y : Type 0} (g : X → Y) (d : Y) (Holds : ℕ → Y → Type 0) (xs : List X) (place : ℕ) (new : X)
    → place < length xs → ((k : ℕ) → Holds k (slice_index_or (map g xs) k d)) → Holds place (g new)
    → (k : ℕ) → Holds k (slice_index_or (map g (slice_set xs place new)) k d)
written-at g d Holds [] place new within each own k = absurd (omega (arith, within))
written-at g d Holds (x ∷ xs) zero new within each own zero = own
written-at g d Holds (x ∷ xs) zero new within each own (suc k) = each (suc k)
written-at g d Holds (x ∷ xs) (suc place) new within each own zero = each zero
written-at g d Holds (x ∷ xs) (suc place) new within each own (suc k) =
    written-at g d (λ k. Holds (suc k)) xs place new (omega (arith, within)) (λ k. each (suc k)) own k

pub none-lost : (wants : List (Vec Want Global)) (boards : List Board) → KeepWanted wants boards boards
none-lost wants boards message =
    keeps-same (length (slice_index_or (map board_bag boards) message [])) (wants_at wants message)
    (slice_index_or (map board_keeps boards) message nothing_kept)

-- one of the boards is written
pub keeps-written : (wants : List (Vec Want Global)) (first boards : List Board) (place : ℕ) (old new : Board)
    → place < length boards → old ≡ get_or boards place old
    → map board_bag boards ≡ map board_bag first
    → KeepWanted wants first boards
    → KeepsWanted (length (board_bag old)) (wants_at wants place) (board_keeps old) (board_keeps new)
    → KeepWanted wants first (slice_set boards place new)
keeps-written wants first boards place old new within at bags each own =
    let rows : ℕ → ℕ = λ k. length (slice_index_or (map board_bag first) k []) in
    let was : ℕ → Kept = λ k. slice_index_or (map board_keeps first) k nothing_kept in
    let many : length (board_bag old) ≡ rows place =
    ap length (sym (slice_index_or-map board_bag [] boards place old within at) ∙ ap (λ (bags : List (List (List ℤ))). slice_index_or bags place []) bags) in
    let kept : slice_index_or (map board_keeps boards) place nothing_kept ≡ board_keeps old =
    slice_index_or-map board_keeps nothing_kept boards place old within at in
    written-at board_keeps nothing_kept (λ k now. KeepsWanted (rows k) (wants_at wants k) (was k) now) boards place new within each
    (keeps-then (rows place) (wants_at wants place) (was place) (board_keeps old) (board_keeps new)
    (subst (λ (now : Kept). KeepsWanted (rows place) (wants_at wants place) (was place) now) kept (each place))
    (subst (λ (count : ℕ). KeepsWanted count (wants_at wants place) (board_keeps old) (board_keeps new)) many own))
