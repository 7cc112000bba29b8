use Rattle.std.proofs.Common.{◌≡◌, ℤ, IfOk, w32, to_z, of_z, subst, rules}
use Rattle.std.proofs.lemmas.Int.{to_z-of_z}
use Rattle.flame_world.specs.Iterations.{iteration as meant}
use Rattle.flame_runner.proofs.closures.ClosureRunnerRunner.iterate.Goals as goal

pub returns-clause-turn : goal.returns-clause-turn
returns-clause-turn g c =
    let i = c.args.iteration in
    let z = to_z w32 (of_z w32 i) in
    let e : z ≡ i = to_z-of_z w32 i (search rules) in
    subst (λ (y : ℤ). IfOk c.call.result (λ turn. turn ≡ meant c.args.program.now c.args.world y c.args.fuel)) e
    ((c.requires.ready c.args.alloc c.args.program c.args.world z c.args.fuel c.requires.fits).1 c.call.result c.call.ensures)
