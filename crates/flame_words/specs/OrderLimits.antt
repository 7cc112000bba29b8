-- The limits within which the numbers of an order lie.
use Rattle.std.specs.Prelude.{◌≤◌}
use Rattle.flame_words.specs.declared.orders.Order.{Order}
use Rattle.flame_words.specs.declared.orders.Order.TheVariants.{Run, Check, Graph, Code, Trial, Migrate, Trace, Replay}
use Rattle.flame_words.specs.declared.orders.RunOrder.{RunOrder}
use Rattle.flame_words.specs.declared.orders.TraceOrder.{TraceOrder}
use Rattle.flame_words.specs.declared.orders.TrialOrder.{TrialOrder}
use Rattle.flame_words.specs.declared.orders.How.{How}

-- 1 to 64 workers, and at most 1,000,000,000 turns of loops and calls of helpers for each call of a transition function [own]
pub record HowIsWithin (how : How) : Type 0 where
  pub some_worker : 1 ≤ how.workers
  pub few_workers : how.workers ≤ 64
  pub fuel : how.fuel ≤ 1000000000

-- at most 1,000,000 iterations, and format 1 or 2 [own]
pub record RunIsWithin (run : RunOrder) : Type 0 where
  pub turns : run.turns ≤ 1000000
  pub some_format : 1 ≤ run.format
  pub known_format : run.format ≤ 2
  pub how : HowIsWithin run.how

-- a seed of 32 bits, at most 10,000 agents, and at most 20 iterations [own]
pub record TrialIsWithin (trial : TrialOrder) : Type 0 where
  pub seed : trial.seed ≤ 4294967295
  pub size : trial.size ≤ 10000
  pub turns : trial.turns ≤ 20
  pub how : HowIsWithin trial.how

-- 1 to 64 workers, and at most 1,000,000,000 turns of loops and calls of helpers for each call of a transition function [own]
pub record TraceIsWithin (trace : TraceOrder) : Type 0 where
  pub some_worker : 1 ≤ trace.workers
  pub few_workers : trace.workers ≤ 64
  pub fuel : trace.fuel ≤ 1000000000

-- each number of the order is within its limits [own]
abbrev pub IsWithin : Order → Type 0
IsWithin (Run run) = RunIsWithin run
IsWithin (Check model) = Unit {0}
IsWithin (Graph model) = Unit {0}
IsWithin (Code model) = Unit {0}
IsWithin (Trial trial) = TrialIsWithin trial
IsWithin (Migrate model pop out) = Unit {0}
IsWithin (Trace trace) = TraceIsWithin trace
IsWithin (Replay model pop trace) = Unit {0}
