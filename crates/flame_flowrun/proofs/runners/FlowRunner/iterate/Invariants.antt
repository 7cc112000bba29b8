use Rattle.flame_flowrun.proofs.runners.FlowRunner.iterate.Given as goal

-- with what this call begins
abbrev pub ghosts-run_as : goal.ghosts-run_as
ghosts-run_as g a = record {
  start = record { source = a.program.now; world = a.world; iteration = a.iteration; fuel = a.fuel; pieces = a.runner.now };
}
