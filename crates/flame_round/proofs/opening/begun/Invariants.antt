use Rattle.std.proofs.Common.{◌≡◌, [], length, map, take}
use Rattle.flame_field.specs.KeptPools.{pool_bags}
use Rattle.flame_round.proofs.Dealt.{AnyDealt}
use Rattle.flame_round.proofs.opening.begun.Given as goal

abbrev pub invariant-loop-state : goal.invariant-loop-state
invariant-loop-state l = record {
  none : pool_bags l.pools ≡ map (λ state. []) (take l._state-index l.states);
  count : length l.pools.items ≡ l._state-index;
  dealt : AnyDealt l.pools.items;
}
