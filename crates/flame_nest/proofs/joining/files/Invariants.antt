use Rattle.std.proofs.Common.{◌≡◌, ℕ, List, take}
use Rattle.flame_spec.specs.KnownNames.{is_among}
use Rattle.flame_nest.specs.FlatModels.{joined_files}
use Rattle.flame_nest.proofs.joining.files.Given as goal

abbrev pub invariant-loop-wide : goal.invariant-loop-wide
invariant-loop-wide l = record {
  joined : l.joined.items ≡ joined_files (take l.wide-index l.wides);
  there : (name : List ℕ) → is_among name l.there ≡ is_among name (joined_files (take l.wide-index l.wides));
}
