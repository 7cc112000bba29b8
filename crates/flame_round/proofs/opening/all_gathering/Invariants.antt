use Rattle.std.proofs.Common.{◌≡◌, [], false, map, take}
use Rattle.flame_field.specs.KeptBoards.{board_bag, is_board_frozen}
use Rattle.flame_round.proofs.opening.all_gathering.Given as goal

abbrev pub invariant-loop-message : goal.invariant-loop-message
invariant-loop-message l = record {
  bags : map board_bag l.boards.items ≡ map (λ message. []) (take l._message-index l.messages);
  marks : map is_board_frozen l.boards.items ≡ map (λ message. false) (take l._message-index l.messages);
}
