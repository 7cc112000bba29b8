use Rattle.std.proofs.Common.{◌≡◌, ℕ, ◌≤◌, List, length}
use Rattle.std.specs.Prelude.{ℤ}
use Rattle.flame_field.specs.KeptPools.{pool_bag, IsDealt}
use Rattle.flame_field.proofs.pools.Pool.make_places.Given as goal

abbrev pub invariant-loop-place : goal.invariant-loop-place
invariant-loop-place l = record {
  bag : pool_bag l.self ≡ pool_bag l.fn.self;
  fresh : l.self.fresh ≡ l.fn.self.fresh;
  count : l._place ≤ length l.self.chosen.items;
  dealt : (choose : List ℤ → ℕ) → IsDealt choose l.fn.self → IsDealt choose l.self;
}
