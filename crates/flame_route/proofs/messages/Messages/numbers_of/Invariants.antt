use Rattle.std.proofs.Common.{◌≡◌, ◌++◌, option_map, drop}
use Rattle.std.specs.List.{filter_map}
use Rattle.flame_meaning.specs.Outcomes.{message_named}
use Rattle.flame_route.proofs.messages.Messages.numbers_of.Given as goal

abbrev pub invariant-loop-name : goal.invariant-loop-name
invariant-loop-name l =
    l.numbers.items
    ++ filter_map (λ name. option_map (λ found. found.0) (message_named l.self.messages name)) (drop l.name-index l.names)
    ≡ filter_map (λ name. option_map (λ found. found.0) (message_named l.self.messages name)) l.names
