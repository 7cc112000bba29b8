use Rattle.std.proofs.Common.{[], List, ℕ, subst}
use Rattle.flame_flow.specs.QuietCores.{AreLeft}
use Rattle.flame_flow.specs.FlowCalls.{IsKept}
use Rattle.flame_flow.proofs.Left.{left_quiet}
use Rattle.flame_flow.proofs.flows.Flow.is_short.Goals as goal

pub returns-clause-kept : goal.returns-clause-kept
returns-clause-kept c =
    let f = c.self.inside in
    let seen = f.going.told.seen in
    subst IsKept c.self.view_is
    (record {
      told = c.program-program.ensures.told;
      quiet = λ long.
          left_quiet seen.source.model seen.core
          (subst (λ (over : List ℕ). AreLeft seen.source.model over [] [] seen.core) (c.self.invariant.over long) (c.self.invariant.goes long).left);
      whole = λ long. (c.self.invariant.goes long).whole;
      marked = λ long. (c.self.invariant.goes long).marks.ran;
    })
