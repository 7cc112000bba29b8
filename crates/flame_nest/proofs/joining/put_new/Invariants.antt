use Rattle.std.proofs.Common.{◌≡◌, ◌++◌, take, not}
use Rattle.std.specs.List.{filter}
use Rattle.flame_spec.specs.KnownNames.{is_among}
use Rattle.flame_nest.proofs.joining.put_new.Given as goal

abbrev pub invariant-loop-name : goal.invariant-loop-name
invariant-loop-name l =
    l.put.items ≡ l.fn.put.items ++ filter (λ name. not (is_among name l.there)) (take l.name-index l.names)
