-- What the messages on boards weigh, of a field and of a layer.
use Rattle.std.proofs.Common.{◌≡◌, ℕ, zero, suc, ◌+◌, ◌<◌, Bool, true, false, List, [], ◌∷◌, ◌++◌, map, length, take, get_or, Vec, ◌⊎◌, inl, inr, ⊎_elim, refl, sym, ap, ◌∙◌, subst, arith}
use Rattle.std.specs.Prelude.{ℤ, slice_set, slice_index_or, ◌==◌, if◌then◌else◌}
use Rattle.std.specs.Global.{Global}
use Rattle.std.specs.List.{AllZip, range_with_len}
use Rattle.std.proofs.lemmas.Bool.{cases_eq, eq-eqb, ne_eqb}
use Rattle.std.proofs.lemmas.List.{length-map, length-take-le, take_more, nil_from_length}
use Rattle.std.proofs.lemmas.List.FromFn.{length-range_with_len}
use Rattle.std.proofs.lemmas.Slice.Zip.{AllZip-long}
use Rattle.flame_rows.specs.Bags.{ascending, merge, merge_all, weigh}
use Rattle.flame_rows.proofs.BagLaws.{merge_adds_weights, weigh-ascending}
use Rattle.flame_rows.proofs.Lists.{AllZip-append}
use Rattle.flame_world.specs.Fields.{changed}
use Rattle.flame_world.proofs.Counting.{length-changed}
use Rattle.flame_board.specs.declared.boards.Board.{Board}
use Rattle.flame_board.specs.declared.lanes.Lane.{Lane}
use Rattle.flame_board.specs.declared.layers.Layer.{Layer}
use Rattle.flame_board.specs.LaneParts.{weigh_parts}
use Rattle.flame_board.specs.SeenBoards.{AreLanesOf, IsLaneFor, before_of}
use Rattle.flame_board.specs.SeenLanes.{bags_of, weigh_lanes}
use Rattle.flame_board.proofs.Weights.{weigh-merge_all}
use Rattle.flame_field.specs.declared.boards.Board as field
use Rattle.flame_field.specs.KeptBoards.{board_bag}
use Rattle.flame_lanes.specs.LayerBoards.{AreNewBoards, TakeFrom, weigh_before, weigh_board, weigh_columns}

abbrev Rows : Type 0
Rows = List (List ℤ)

abbrev only_if : Bool → ℕ → ℕ
only_if test n = if test then n else 0

-- the weight, where it is of this message
abbrev where_it_is : ℕ → ℕ → ℕ → ℕ
where_it_is own message n = only_if (own == message) n

only-nothing : (test : Bool) → only_if test 0 ≡ 0
only-nothing true = refl
only-nothing false = refl

only-add : (test : Bool) (one two : ℕ) → only_if test (one + two) ≡ only_if test one + only_if test two
only-add true one two = refl
only-add false one two = omega arith

where-first : (n : ℕ) → where_it_is zero zero n ≡ n
where-first n = refl

where-other : (message n : ℕ) → where_it_is zero (suc message) n ≡ 0
where-other message n = ap (λ b. only_if b n) (ne_eqb zero (suc message) (λ same. omega (arith, same)))

where-none : (own n : ℕ) → where_it_is (suc own) zero n ≡ 0
where-none own n = ap (λ b. only_if b n) (ne_eqb (suc own) zero (λ same. omega (arith, same)))

where-next : (own message n : ℕ) → where_it_is (suc own) (suc message) n ≡ where_it_is own message n
where-next own message n =
    ap (λ b. only_if b n)
    (⊎_elim
    (λ (same : own ≡ message). eq-eqb (suc own) (suc message) (ap suc same) ∙ sym (eq-eqb own message same))
    (λ (apart : own ≡ message → ⊥).
    ne_eqb (suc own) (suc message) (λ same. apart (omega (arith, same))) ∙ sym (ne_eqb own message apart))
    (cases_eq own message))

module _ (weight : List ℤ → ℕ) where
  -- ---- boards of a field

  emptied : (bags : List Rows) (own message : ℕ)
      → weigh weight (slice_index_or (changed own (λ bag. []) bags) message [])
      + where_it_is own message (weigh weight (slice_index_or bags own []))
      ≡ weigh weight (slice_index_or bags message [])
  emptied [] own message = omega (arith, only-nothing (own == message))
  emptied (bag ∷ bags) zero zero = omega (arith, where-first (weigh weight bag))
  emptied (bag ∷ bags) zero (suc message) = omega (arith, where-other message (weigh weight bag))
  emptied (bag ∷ bags) (suc own) zero =
      omega (arith, where-none own (weigh weight (slice_index_or bags own [])))
  emptied (bag ∷ bags) (suc own) (suc message) =
      omega (arith, where-next own message (weigh weight (slice_index_or bags own [])), emptied bags own message)

  -- one of which all messages are taken
  pub weigh_board-emptied : (old new : List field.Board) (own message : ℕ)
      → map board_bag new ≡ changed own (λ bag. []) (map board_bag old)
      → weigh_board new message weight + where_it_is own message (weigh weight (slice_index_or (map board_bag old) own []))
      ≡ weigh_board old message weight
  weigh_board-emptied old new own message is =
      ap
      (λ bags. weigh weight (slice_index_or bags message [])
      + where_it_is own message (weigh weight (slice_index_or (map board_bag old) own [])))
      is
      ∙ emptied (map board_bag old) own message

  -- one that some messages join
  pub weigh_board-joined : (boards : List field.Board) (own message : ℕ) (old new : field.Board) (more : ℕ)
      → own < length boards
      → old ≡ get_or boards own old
      → weigh weight (board_bag new) ≡ weigh weight (board_bag old) + more
      → weigh_board (slice_set boards own new) message weight ≡ weigh_board boards message weight + where_it_is own message more
  weigh_board-joined [] own message old new more within is joined = absurd (omega (arith, within))
  weigh_board-joined (board ∷ boards) zero zero old new more within is joined =
      omega (arith, joined, ap (λ b. weigh weight (board_bag b)) is, where-first more)
  weigh_board-joined (board ∷ boards) zero (suc message) old new more within is joined = omega (arith, where-other message more)
  weigh_board-joined (board ∷ boards) (suc own) zero old new more within is joined = omega (arith, where-none own more)
  weigh_board-joined (board ∷ boards) (suc own) (suc message) old new more within is joined =
      weigh_board-joined boards own message old new more (omega (arith, within)) is joined
      ∙ ap (λ n. weigh_board boards message weight + n) (sym (where-next own message more))

  -- ---- boards of a layer

  -- one more
  pub weigh_before-push : (messages : List ℕ) (boards : List Board) (own message : ℕ) (board : Board)
      → length boards ≡ length messages
      → weigh_before (messages ++ own ∷ []) (boards ++ board ∷ []) message weight
      ≡ weigh_before messages boards message weight + where_it_is own message (weigh weight (before_of board))
  weigh_before-push [] [] own message board long = omega arith
  weigh_before-push [] (one ∷ boards) own message board long = absurd (omega (arith, long))
  weigh_before-push (other ∷ messages) [] own message board long = absurd (omega (arith, long))
  weigh_before-push (other ∷ messages) (one ∷ boards) own message board long =
      omega (arith, weigh_before-push messages boards own message board (omega (arith, long)))

  pub fresh-lanes : (layer : Layer) (message : ℕ) (numbers : List ℕ) (lanes : List Lane)
      → AllZip (IsLaneFor layer message) numbers lanes → weigh_lanes weight lanes ≡ 0
  fresh-lanes layer message [] [] new = refl
  fresh-lanes layer message [] (lane ∷ lanes) new = absurd new
  fresh-lanes layer message (number ∷ numbers) [] new = absurd new
  fresh-lanes layer message (number ∷ numbers) (lane ∷ lanes) new =
      omega (arith, ap (weigh_parts weight) new.0.fresh, fresh-lanes layer message numbers lanes new.1)

-- ---- opened

-- a board of the field is emptied, and what it had is what the new board of the layer has
pub opened-next : (first old new : List field.Board) (messages : List ℕ) (place : ℕ) (boards pushed : List Board)
    (own : ℕ) (board : Board)
    → place < length messages
    → own ≡ get_or messages place 0
    → length boards ≡ place
    → map board_bag new ≡ changed own (λ bag. []) (map board_bag old)
    → before_of board ≡ slice_index_or (map board_bag old) own []
    → pushed ≡ boards ++ board ∷ []
    → ((message : ℕ) (weight : List ℤ → ℕ)
    → weigh_board old message weight + weigh_before (take place messages) boards message weight ≡ weigh_board first message weight)
    → (message : ℕ) (weight : List ℤ → ℕ)
    → weigh_board new message weight + weigh_before (take (place + 1) messages) pushed message weight
    ≡ weigh_board first message weight
opened-next first old new messages place boards pushed own board within is long others before more kept message weight =
    let front : take (place + 1) messages ≡ take place messages ++ own ∷ [] =
    take_more messages place 0 within ∙ ap (λ m. take place messages ++ m ∷ []) (sym is) in
    let as_long : length boards ≡ length (take place messages) =
    long ∙ sym (length-take-le place messages (omega (arith, within))) in
    let there : weigh_before (take (place + 1) messages) pushed message weight
    ≡ weigh_before (take place messages) boards message weight + where_it_is own message (weigh weight (before_of board)) =
    (λ i. weigh_before (front i) (more i) message weight)
    ∙ weigh_before-push weight (take place messages) boards own message board as_long in
    let taken : where_it_is own message (weigh weight (before_of board))
    ≡ where_it_is own message (weigh weight (slice_index_or (map board_bag old) own [])) =
    ap (λ rows. where_it_is own message (weigh weight rows)) before in
    opened (weigh_board new message weight) (weigh_board old message weight) (weigh_board first message weight) _ _ _ _
    (weigh_board-emptied weight old new own message others) there taken (kept message weight)
  where
    opened : (new old first before after one two : ℕ)
        → new + two ≡ old → after ≡ before + one → one ≡ two → old + before ≡ first → new + after ≡ first
    opened new old first before after one two emptied pushed same kept = omega arith

pub emptied-long : (old new : List field.Board) (own : ℕ)
    → map board_bag new ≡ changed own (λ bag. []) (map board_bag old) → length new ≡ length old
emptied-long old new own is =
    sym (length-map new board_bag)
    ∙ ap length is
    ∙ length-changed own (λ bag. []) (map board_bag old)
    ∙ length-map old board_bag

-- ---- frozen

-- a board of the field that the messages of a frozen board join
pub frozen-weighs : (weight : List ℤ → ℕ) (old new rows messages before : Rows) (lanes own : List Lane)
    → new ≡ merge old (ascending rows)
    → rows ≡ messages
    → messages ≡ merge_all (before ∷ bags_of lanes)
    → lanes ≡ own
    → weigh weight new ≡ weigh weight old + (weigh weight before + weigh_lanes weight own)
frozen-weighs weight old new rows messages before lanes own is given all same =
    ap (weigh weight) is
    ∙ merge_adds_weights weight old (ascending rows)
    ∙ ap (λ n. weigh weight old + n)
    (weigh-ascending weight rows
    ∙ ap (weigh weight) (given ∙ all)
    ∙ weigh-merge_all weight before lanes
    ∙ ap (λ l. weigh weight before + weigh_lanes weight l) same)

where-add : (own message one two : ℕ) → where_it_is own message (one + two) ≡ where_it_is own message one + where_it_is own message two
where-add own message one two = only-add (own == message) one two

-- one board of the layer less
pub frozen-next : (weight : List ℤ → ℕ) (message : ℕ) (fields : List field.Board) (messages ms : List ℕ) (own : ℕ)
    (boards bs : List Board) (board : Board) (columns cs : List (Vec Lane Global)) (column : Vec Lane Global)
    (old new : field.Board) (total : ℕ)
    → messages ≡ own ∷ ms
    → boards ≡ board ∷ bs
    → columns ≡ column ∷ cs
    → own < length fields
    → old ≡ get_or fields own old
    → weigh weight (board_bag new)
    ≡ weigh weight (board_bag old) + (weigh weight (before_of board) + weigh_lanes weight column.items)
    → weigh_board fields message weight
    + (weigh_before messages boards message weight + weigh_columns messages columns message weight)
    ≡ total
    → weigh_board (slice_set fields own new) message weight
    + (weigh_before ms bs message weight + weigh_columns ms cs message weight)
    ≡ total
frozen-next weight message fields messages ms own boards bs board columns cs column old new total one two three within is joined kept =
    let before = weigh weight (before_of board) in
    let lanes = weigh_lanes weight column.items in
    frozen _ _ _ _ _ _ _ _ _ _
    (weigh_board-joined weight fields own message old new (before + lanes) within is joined)
    (where-add own message before lanes)
    (λ i. weigh_before (one i) (two i) message weight)
    (λ i. weigh_columns (one i) (three i) message weight)
    kept
  where
    frozen : (field after both before lanes all_before all_lanes left_before left_lanes total : ℕ)
        → after ≡ field + both
        → both ≡ before + lanes
        → all_before ≡ before + left_before
        → all_lanes ≡ lanes + left_lanes
        → field + (all_before + all_lanes) ≡ total
        → after + (left_before + left_lanes) ≡ total
    frozen field after both before lanes all_before all_lanes left_before left_lanes total p q r s t = omega arith

pub own-first : (boards bs : List Board) (board : Board) (columns cs : List (Vec Lane Global)) (column : Vec Lane Global)
    → TakeFrom boards columns → boards ≡ board ∷ bs → columns ≡ column ∷ cs → AreLanesOf board column.items × TakeFrom bs cs
own-first [] bs board columns cs column own one two = absurd (cc)
own-first (b ∷ boards) bs board [] cs column own one two = absurd (cc)
own-first (b ∷ boards) bs board (c ∷ columns) cs column own one two =
    let same : b ≡ board = cc in
    let like : c ≡ column = cc in
    let rest : boards ≡ bs = cc in
    let left : columns ≡ cs = cc in (
      (subst (λ (x : Board). AreLanesOf x column.items) same (subst (λ (x : Vec Lane Global). AreLanesOf b x.items) like own.0)),
      (subst (λ xs. TakeFrom xs cs) rest (subst (λ xs. TakeFrom boards xs) left own.1)),
    )

-- one board more, with its lanes
pub new-boards-push : (layer : Layer) (message : ℕ) (boards : List Board) (columns : List (Vec Lane Global))
    (board : Board) (column : Vec Lane Global)
    → AreNewBoards layer.lanes boards columns
    → AllZip (IsLaneFor layer message) (range_with_len 0 layer.lanes) column.items
    → AreLanesOf board column.items
    → AreNewBoards layer.lanes (boards ++ board ∷ []) (columns ++ column ∷ [])
new-boards-push layer message boards columns board column before lanes own = record {
  own = AllZip-append _ boards columns (board ∷ []) (column ∷ []) before.own (own, tt);
  count =
      AllZip-append _ boards columns (board ∷ []) (column ∷ []) before.count
      (AllZip-long (IsLaneFor layer message) (range_with_len 0 layer.lanes) column.items lanes ∙ length-range_with_len 0 layer.lanes, tt);
  fresh =
      AllZip-append _ boards columns (board ∷ []) (column ∷ []) before.fresh
      ((λ weight. fresh-lanes weight layer message (range_with_len 0 layer.lanes) column.items lanes), tt);
}

-- where the boards end, all is frozen
pub all-over : {X Y Z W : Type 0} {A : X → Type 0} {B : Y → Type 0} {C : Z → Type 0} (messages : List ℕ) (boards : List Board)
    (columns : List (Vec Lane Global)) (boards_left columns_left : ℕ)
    → boards_left ≡ length boards
    → columns_left ≡ length columns
    → length boards ≡ length messages
    → TakeFrom boards columns
    → ((x : X) × ((length messages ≡ 0) × A x))
    ⊎ ((w : W) × (((y : Y) × ((boards_left ≡ 0) × B y)) ⊎ ((z : Z) × ((columns_left ≡ 0) × C z))))
    → messages ≡ []
all-over messages boards columns boards_left columns_left one two long own (inl over) = nil_from_length messages over.1.0
all-over messages boards columns boards_left columns_left one two long own (inr (w, inl over)) =
    nil_from_length messages (omega (arith, over.1.0))
all-over messages boards columns boards_left columns_left one two long own (inr (w, inr over)) =
    nil_from_length messages (omega (arith, over.1.0, AllZip-long _ boards columns own))

pub frozen-over : (messages : List ℕ) (boards : List Board) (columns : List (Vec Lane Global)) (message : ℕ) (weight : List ℤ → ℕ)
    (fields first : List field.Board) (more : ℕ)
    → messages ≡ []
    → weigh_board fields message weight
    + (weigh_before messages boards message weight + weigh_columns messages columns message weight)
    ≡ weigh_board first message weight + more
    → weigh_board fields message weight ≡ weigh_board first message weight + more
frozen-over messages boards columns message weight fields first more none kept =
    omega (
      arith,
      kept,
      ap (λ ms. weigh_before ms boards message weight) none,
      ap (λ ms. weigh_columns ms columns message weight) none,
    )
