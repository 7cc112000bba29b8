use Rattle.std.proofs.Common.{[], arith}
use Rattle.flame_expr.specs.ViablePrefixes.{level, whole, done}
use Rattle.flame_expr.proofs.Derivations.{reads_go}
use Rattle.flame_expr.proofs.Meanings.{matches_means, means_level}
use Rattle.flame_expr.proofs.laws.matched_expressions.Goals as goal

pub returns : goal.returns
returns c = λ tokens rest. (
  λ h. reads_go 6 [] tokens rest h.0 (whole rest) h.1 done,
  λ h. means_level 6 tokens rest (omega arith) (matches_means (level 6) tokens rest h),
)
