use Rattle.std.proofs.Common.{◌≡◌, ◌+◌, drop, not}
use Rattle.std.specs.List.{position_or_len}
use Rattle.flame_spec.specs.States.{is_entered}
use Rattle.flame_route.proofs.starts.start_of.Given as goal

abbrev pub invariant-loop-place : goal.invariant-loop-place
invariant-loop-place l =
    position_or_len (λ name. not (is_entered l.functions name.now)) l.names
    ≡ l.place + position_or_len (λ name. not (is_entered l.functions name.now)) (drop l.place l.names)
