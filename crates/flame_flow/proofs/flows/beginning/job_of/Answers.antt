use Rattle.flame_flow.proofs.flows.beginning.job_of.Goals as goal

pub returns-clause-job : goal.returns-clause-job
returns-clause-job c = record {
  is = c.in_ok-agents.ensures.is;
  read = c.in_ok-boards.ensures.read;
  memories = c.in_ok-agents.ensures.wide;
  messages = c.in_ok-boards.ensures.wide;
}
