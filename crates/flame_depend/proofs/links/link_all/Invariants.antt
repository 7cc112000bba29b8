use Rattle.std.proofs.Common.{◌≡◌, ℕ, ◌<◌, [], length, map, get_or}
use Rattle.flame_spec.specs.Below.{all_below}
use Rattle.flame_spec.specs.Before.{before_among}
use Rattle.flame_depend.specs.PlacedFunctions.{shown}
use Rattle.flame_depend.proofs.links.link_all.Given as goal

abbrev pub invariant-loop-i : goal.invariant-loop-i
invariant-loop-i l = record {
  len : length l.lists.items ≡ length l.places;
  at : (f : ℕ) → f < length l.places → get_or l.lists.items f [] ≡ all_below (before_among (map shown l.places) f) l.i;
}
