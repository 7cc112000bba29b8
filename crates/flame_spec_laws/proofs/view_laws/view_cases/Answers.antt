-- The cases compute, but for what conditions say.
use Rattle.std.proofs.Common.{refl}
use Rattle.flame_spec.proofs.ConditionForms.{truth-Compare, truth-Time}
use Rattle.flame_spec_laws.proofs.view_laws.view_cases.Goals as goal

pub returns-clause-filtered : goal.returns-clause-filtered
returns-clause-filtered c = simp truth-Compare refl

pub returns-clause-week : goal.returns-clause-week
returns-clause-week c = simp truth-Time refl

pub returns-clause-first : goal.returns-clause-first
returns-clause-first c = simp truth-Compare refl

pub returns-clause-none : goal.returns-clause-none
returns-clause-none c = simp truth-Compare refl

pub returns-clause-next : goal.returns-clause-next
returns-clause-next c = simp truth-Compare refl
