use Rattle.std.proofs.Common.{◌≡◌, ◌∙◌, ◌<◌, ◌++◌, [], ◌∷◌, false, List, refl, ap, sym, subst, arith, length, map, take, slice_index_or, ℕ}
use Rattle.std.specs.Prelude.{ℤ}
use Rattle.std.proofs.lemmas.List.{length-set, map-append, take_more}
use Rattle.flame_rows.proofs.Lists.{slice_index_or-map}
use Rattle.flame_field.specs.declared.boards.Board.{Board}
use Rattle.flame_field.specs.declared.keeping.Want.{Want}
use Rattle.flame_index.specs.FrozenBoards.{shared_messages}
use Rattle.flame_field.specs.KeptBoards.{board_bag, board_keeps, is_board_frozen}
use Rattle.flame_field.specs.KeptOrders.{KeepsWanted}
use Rattle.flame_field.proofs.Wanted.{keeps-written, none-lost}
use Rattle.flame_field.proofs.Written.{map-kept}
use Rattle.flame_field.proofs.sharing.share.Goals as goal

-- what is kept beside the one board, for what is wanted of it
abbrev wanted-of : Board → Board → List Want → Type 0
wanted-of old new wants = KeepsWanted (length (board_bag old)) wants (board_keeps old) (board_keeps new)

pub loop-message-init : goal.loop-message-init
loop-message-init c = record {
  count = refl;
  bags = refl;
  marks = λ frozen. refl;
  keeps = none-lost c.args.wants.now c.args.boards.now.items;
  read = ap (map shared_messages) c.new-shared.ensures.items;
}

pub returns-in_err-share_one-clause-bags : goal.returns-in_err-share_one-clause-bags
returns-in_err-share_one-clause-bags c =
    let old = c.loop-message.invariant in
    let place = c.loop-message.message-index in
    let message = slice_index_or c.args.messages.now place 0 in
    let boards = c.loop-message.boards.items in
    let here : message < length boards = omega (arith, c.requires place 0 c.loop-message-test.true, old.count) in
    let at = c.index_mut.ensures.value in
    map-kept board_bag boards message c.index_mut.result.now c.share_one.new.board here at c.in_err-share_one.ensures.bag
    ∙ old.bags

pub returns-in_err-share_one-clause-frozen : goal.returns-in_err-share_one-clause-frozen
returns-in_err-share_one-clause-frozen c frozen =
    let old = c.loop-message.invariant in
    let place = c.loop-message.message-index in
    let message = slice_index_or c.args.messages.now place 0 in
    let boards = c.loop-message.boards.items in
    let here : message < length boards = omega (arith, c.requires place 0 c.loop-message-test.true, old.count) in
    let at = c.index_mut.ensures.value in
    let marked = sym (slice_index_or-map is_board_frozen false boards message c.index_mut.result.now here at)
    ∙ ap (λ l. slice_index_or l message false) (old.marks frozen) ∙ frozen place 0 c.loop-message-test.true in
    map-kept is_board_frozen boards message c.index_mut.result.now c.share_one.new.board here at
    (c.in_err-share_one.ensures.frozen ∙ sym marked)
    ∙ old.marks frozen

pub returns-in_err-share_one-clause-keeps : goal.returns-in_err-share_one-clause-keeps
returns-in_err-share_one-clause-keeps c =
    let old = c.loop-message.invariant in
    let place = c.loop-message.message-index in
    let message = slice_index_or c.args.messages.now place 0 in
    let boards = c.loop-message.boards.items in
    let here : message < length boards = omega (arith, c.requires place 0 c.loop-message-test.true, old.count) in
    let at = c.index_mut.ensures.value in
    keeps-written c.args.wants.now c.args.boards.now.items boards message c.index_mut.result.now c.share_one.new.board here at
    old.bags old.keeps (subst (wanted-of c.index_mut.result.now c.share_one.new.board) c.wants_at-wanted.ensures c.in_err-share_one.ensures.keeps)

pub returns-in_err-push-clause-bags : goal.returns-in_err-push-clause-bags
returns-in_err-push-clause-bags c =
    let old = c.loop-message.invariant in
    let place = c.loop-message.message-index in
    let message = slice_index_or c.args.messages.now place 0 in
    let boards = c.loop-message.boards.items in
    let here : message < length boards = omega (arith, c.requires place 0 c.loop-message-test.true, old.count) in
    let at = c.index_mut.ensures.value in
    map-kept board_bag boards message c.index_mut.result.now c.share_one.new.board here at c.in_ok-share_one.ensures.bag
    ∙ old.bags

pub returns-in_err-push-clause-frozen : goal.returns-in_err-push-clause-frozen
returns-in_err-push-clause-frozen c frozen =
    let old = c.loop-message.invariant in
    let place = c.loop-message.message-index in
    let message = slice_index_or c.args.messages.now place 0 in
    let boards = c.loop-message.boards.items in
    let here : message < length boards = omega (arith, c.requires place 0 c.loop-message-test.true, old.count) in
    let at = c.index_mut.ensures.value in
    let marked = sym (slice_index_or-map is_board_frozen false boards message c.index_mut.result.now here at)
    ∙ ap (λ l. slice_index_or l message false) (old.marks frozen) ∙ frozen place 0 c.loop-message-test.true in
    map-kept is_board_frozen boards message c.index_mut.result.now c.share_one.new.board here at
    (c.in_ok-share_one.ensures.frozen ∙ sym marked)
    ∙ old.marks frozen

pub returns-in_err-push-clause-keeps : goal.returns-in_err-push-clause-keeps
returns-in_err-push-clause-keeps c =
    let old = c.loop-message.invariant in
    let place = c.loop-message.message-index in
    let message = slice_index_or c.args.messages.now place 0 in
    let boards = c.loop-message.boards.items in
    let here : message < length boards = omega (arith, c.requires place 0 c.loop-message-test.true, old.count) in
    let at = c.index_mut.ensures.value in
    keeps-written c.args.wants.now c.args.boards.now.items boards message c.index_mut.result.now c.share_one.new.board here at
    old.bags old.keeps (subst (wanted-of c.index_mut.result.now c.share_one.new.board) c.wants_at-wanted.ensures c.in_ok-share_one.ensures.keeps)

pub loop-message-preserved : goal.loop-message-preserved
loop-message-preserved c =
    let old = c.loop-message.invariant in
    let place = c.loop-message.message-index in
    let message = slice_index_or c.args.messages.now place 0 in
    let boards = c.loop-message.boards.items in
    let here : message < length boards = omega (arith, c.requires place 0 c.loop-message-test.true, old.count) in
    let at = c.index_mut.ensures.value in
    let read : List ℕ → List (List (List ℤ)) =
    λ ms. map (λ m. slice_index_or (map board_bag c.args.boards.now.items) m []) ms in
    let one : shared_messages c.in_ok-share_one.field-0
    ≡ slice_index_or (map board_bag c.args.boards.now.items) message [] =
    c.in_ok-share_one.ensures.read
    ∙ sym (slice_index_or-map board_bag [] boards message c.index_mut.result.now here at)
    ∙ ap (λ bags. slice_index_or bags message []) old.bags in
    record {
      count = length-set boards message _ ∙ old.count;
      bags = map-kept board_bag boards message c.index_mut.result.now c.share_one.new.board here at c.in_ok-share_one.ensures.bag
          ∙ old.bags;
      marks = λ frozen.
          map-kept is_board_frozen boards message c.index_mut.result.now c.share_one.new.board here at
          (c.in_ok-share_one.ensures.frozen
          ∙ sym (sym (slice_index_or-map is_board_frozen false boards message c.index_mut.result.now here at)
          ∙ ap (λ l. slice_index_or l message false) (old.marks frozen) ∙ frozen place 0 c.loop-message-test.true))
          ∙ old.marks frozen;
      keeps = keeps-written c.args.wants.now c.args.boards.now.items boards message c.index_mut.result.now c.share_one.new.board here at
          old.bags old.keeps (subst (wanted-of c.index_mut.result.now c.share_one.new.board) c.wants_at-wanted.ensures c.in_ok-share_one.ensures.keeps);
      read =
          ap (map shared_messages) c.in_ok-push.ensures.items
          ∙ map-append shared_messages c.loop-message.shared.items (c.in_ok-share_one.field-0 ∷ [])
          ∙ (λ i. old.read i ++ one i ∷ [])
          ∙ sym (map-append (λ m. slice_index_or (map board_bag c.args.boards.now.items) m [])
          (take place c.args.messages.now) (message ∷ []))
          ∙ ap read (sym (take_more c.args.messages.now place 0 c.loop-message-test.true));
    }
