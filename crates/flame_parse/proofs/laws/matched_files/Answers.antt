use Rattle.flame_expr.specs.ViablePrefixes.{a_unit, whole, done}
use Rattle.flame_expr.proofs.Meanings.{matches_means}
use Rattle.flame_parse.proofs.Derivations.{unit_goes}
use Rattle.flame_parse.proofs.FileMeanings.{means_unit}
use Rattle.flame_parse.proofs.laws.matched_files.Goals as goal

pub returns : goal.returns
returns c = λ tokens rest. (
  λ h. unit_goes tokens rest h.0 (whole rest) h.1 done,
  λ h. means_unit tokens rest (matches_means a_unit tokens rest h),
)
