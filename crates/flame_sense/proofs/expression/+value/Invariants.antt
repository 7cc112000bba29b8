use Rattle.std.proofs.Common.{◌≡◌, drop}
use Rattle.flame_spec.specs.Seen.{links, expressions}
use Rattle.flame_meaning.specs.Expressions.{chain_value, all_value, any_value}
use Rattle.flame_sense.specs.StandsFor.{scene_seen, progress_seen}
use Rattle.flame_sense.proofs.expression.+value.Given as goal

abbrev pub invariant-chain_value-loop-link : goal.invariant-chain_value-loop-link
invariant-chain_value-loop-link l =
    chain_value (links l.links) (scene_seen l.scene l.open_loops) (progress_seen l.s) l.first
    ≡ chain_value (links (drop l.link-index l.links)) (scene_seen l.scene l.open_loops) (progress_seen l.s) l.value_so_far

abbrev pub invariant-all_value-loop-part : goal.invariant-all_value-loop-part
invariant-all_value-loop-part l =
    all_value (expressions l.parts) (scene_seen l.scene l.open_loops) (progress_seen l.s)
    ≡ all_value (expressions (drop l.part-index l.parts)) (scene_seen l.scene l.open_loops) (progress_seen l.s)

abbrev pub invariant-any_value-loop-part : goal.invariant-any_value-loop-part
invariant-any_value-loop-part l =
    any_value (expressions l.parts) (scene_seen l.scene l.open_loops) (progress_seen l.s)
    ≡ any_value (expressions (drop l.part-index l.parts)) (scene_seen l.scene l.open_loops) (progress_seen l.s)
