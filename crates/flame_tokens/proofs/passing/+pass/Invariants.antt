-- What was read so far, and how deep what is left may be nested.
use Rattle.std.proofs.Common.{◌+◌, ◌*◌}
use Rattle.flame_tokens.specs.PassedTrees.{HasItems, HasMembers}
use Rattle.flame_tokens.proofs.passing.+pass.Given as goal

abbrev pub decreases-pass : goal.decreases-pass
decreases-pass l = 2 * l.deep

abbrev pub decreases-pass_items : goal.decreases-pass_items
decreases-pass_items l = 2 * l.deep + 1

abbrev pub decreases-pass_members : goal.decreases-pass_members
decreases-pass_members l = 2 * l.deep + 1

abbrev pub invariant-pass_items-loop-turn : goal.invariant-pass_items-loop-turn
invariant-pass_items-loop-turn l = HasItems l.deep l.fn.reader l.reader

abbrev pub invariant-pass_members-loop-turn : goal.invariant-pass_members-loop-turn
invariant-pass_members-loop-turn l = HasMembers l.deep l.fn.reader l.reader
