-- The agents so far were read, and dealt out.
use Rattle.flame_tokens.specs.AgentTrees.{AreBegun}
use Rattle.flame_rows.specs.RowVectors.{rows_of}
use Rattle.flame_tokens.proofs.agents.agents.Given as goal

abbrev pub invariant-loop-turn : goal.invariant-loop-turn
invariant-loop-turn l = AreBegun l.types l.fn.reader l.reader (rows_of l.dealt)
