-- What the calls of a core have from what it keeps.
use Rattle.std.proofs.Common.{◌≡◌, ℕ, length, sym, ap, ◌∙◌, subst}
use Rattle.std.specs.Prelude.{ℤ}
use Rattle.flame_spec.specs.declared.outcomes.Source.{Source}
use Rattle.flame_world.specs.declared.worlds.World.{World}
use Rattle.flame_progress.specs.declared.counts.Counts.{Counts}
use Rattle.flame_progress.specs.declared.progress.Progress.{Progress}
use Rattle.flame_progress.specs.KeptCores.{core_of}
use Rattle.flame_field.specs.KeptPools.{AreDealt}
use Rattle.flame_round.specs.declared.rounds.Round as run
use Rattle.flame_round.specs.Choices.{choice_at}
use Rattle.flame_core.specs.declared.ranks.Ranks.{Ranks}
use Rattle.flame_core.specs.KeptReady.{Ready, IsKeptCore}
use Rattle.flame_core.specs.SeenCores.{Seen}
use Rattle.flame_core.proofs.Comings.{reached_fits}
use Rattle.flame_core.proofs.InOrders.{reached_in_order}

-- how a core is seen that keeps this
abbrev pub seen_of : Source → World → ℤ → ℕ → ℕ → Progress → Seen
seen_of source world iteration fuel pieces progress = record {
  source = source;
  world = world;
  iteration = iteration;
  fuel = fuel;
  pieces = pieces;
  core = core_of progress;
}

-- events may be looked for in it
pub ready_in : (round : run.Round) (world : World) (iteration : ℤ) (fuel pieces : ℕ) (progress : Progress) (counts : Counts) (ranks : Ranks)
    → IsKeptCore (seen_of round.program.now world iteration fuel pieces progress) progress counts ranks
    → round.constants.now ≡ world.constants
    → round.iteration ≡ iteration
    → Ready round pieces progress counts
ready_in round world iteration fuel pieces progress counts ranks stands constants number =
    let seen = seen_of round.program.now world iteration fuel pieces progress in
    record {
      known = ap length constants ∙ stands.reached.fits.constants;
      some = stands.reached.some;
      fits = reached_fits seen stands.reached;
      in_order = reached_in_order seen stands.reached;
      dealt = subst (λ n. AreDealt (choice_at round.program.now.model n) progress.field.pools) (sym number) stands.dealt;
      tallies = stands.tallies;
    }
