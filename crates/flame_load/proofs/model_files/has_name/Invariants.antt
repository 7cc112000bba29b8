use Rattle.std.proofs.Common.{◌≡◌, drop}
use Rattle.flame_spec.specs.KnownNames.{is_among}
use Rattle.flame_load.proofs.model_files.has_name.Given as goal

abbrev pub invariant-loop-other : goal.invariant-loop-other
invariant-loop-other l = is_among l.name l.names ≡ is_among l.name (drop l.other-index l.names)
