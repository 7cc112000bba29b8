-- A share comes, or nothing changes.
use Rattle.std.proofs.Common.{refl}
use Rattle.flame_core.specs.CoreCalls.{NotAbsorbed}
use Rattle.flame_core.proofs.Done.{no_memory_is}
use Rattle.flame_core.proofs.cores.Core.absorb.Goals as goal

pub returns-in_err-take_in-clause-err : goal.returns-in_err-take_in-clause-err
returns-in_err-take_in-clause-err c =
    no_memory_is c.from_residual.result (NotAbsorbed c.args.share c.args.self.now c.take_in.new.self) c.from_residual.ensures.1
    (c.if-not-can_absorb.ensures.0 refl, c.in_err-take_in.ensures.err)
