use Rattle.flame_spec.specs.Definitions.{takes}
use Rattle.flame_compile.proofs.CallsKept.{emitted_calls}
use Rattle.flame_compile.proofs.laws.code_calls_fit.Goals as goal

pub returns-clause-passing : goal.returns-clause-passing
returns-clause-passing c = emitted_calls

pub returns-clause-fitting : goal.returns-clause-fitting
returns-clause-fitting c = λ parameters widths tree fits. emitted_calls (takes parameters) tree fits
