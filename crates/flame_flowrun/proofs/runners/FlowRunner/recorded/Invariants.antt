use Rattle.flame_flowrun.proofs.runners.FlowRunner.recorded.Given as goal

-- with what this call begins
abbrev pub ghosts-record_as : goal.ghosts-record_as
ghosts-record_as g a = record {
  start = record { source = a.program.now; world = a.world; iteration = a.iteration; fuel = a.fuel; pieces = a.runner.now };
}
