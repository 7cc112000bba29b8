-- Jobs that are due.
use Rattle.std.specs.Prelude.{map}
use Rattle.flame_index.specs.FrozenBoards.{shared_messages}
use Rattle.flame_share.specs.PieceFits.{FitsPiece}
use Rattle.flame_flow.specs.declared.jobs.Job.{Job}
use Rattle.flame_flow.specs.FlowCalls.{IsDue}
use Rattle.flame_flow.specs.SeenFlows.{Start}
use Rattle.flame_flowrun.specs.declared.held.Next.{Next}
use Rattle.flame_flowrun.specs.declared.held.Next.TheVariants.{Work, Idle, Over}

-- some core from this beginning has the piece, under these boards, and both are as wide as the model declares [own]
pub record IsDueJob (start : Start) (job : Job) : Type 0 where
  pub due : IsDue start job.piece (map shared_messages job.boards)
  pub fits : FitsPiece start.source.model start.world.constants (map shared_messages job.boards) job.piece

-- what a worker takes out is due [own]
abbrev pub IsNextIn : Start → Next → Type 0
IsNextIn start (Work job) = IsDueJob start job
IsNextIn start Idle = Unit {0}
IsNextIn start Over = Unit {0}
