use Rattle.std.proofs.Common.{◌≡◌, ◌++◌, Some, map, option_map, drop}
use Rattle.flame_meaning.specs.Outcomes.{message_named}
use Rattle.flame_route.proofs.messages.Messages.read_by_each.Given as goal

abbrev pub invariant-loop-input : goal.invariant-loop-input
invariant-loop-input l =
    map Some l.numbers.items
    ++ map (λ input. option_map (λ found. found.0) (message_named l.self.messages input.message)) (drop l.input-index l.inputs)
    ≡ map (λ input. option_map (λ found. found.0) (message_named l.self.messages input.message)) l.inputs
