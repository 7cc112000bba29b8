-- The cases on whole files: what their trees are seen as computes, form by form.
use Rattle.std.proofs.Common.{refl}
use Rattle.flame_spec.proofs.SeenForms.{expression-Number, expression-Name, statement-Declare, statement-Call}
use Rattle.flame_spec.proofs.SeenForms.{statement-Block}
use Rattle.flame_spec.proofs.SeenForms.{statement-Return, statement-Break}
use Rattle.flame_spec_laws.proofs.fault_cases.check_cases.Goals as goal

pub returns-clause-lone_call : goal.returns-clause-lone_call
returns-clause-lone_call c = simp (statement-Call, expression-Number) refl

pub returns-clause-two_files : goal.returns-clause-two_files
returns-clause-two_files c = simp statement-Break refl

pub returns-clause-own_name : goal.returns-clause-own_name
returns-clause-own_name c = simp (statement-Declare, statement-Return, expression-Name, expression-Number) refl

pub returns-clause-own_name_inside : goal.returns-clause-own_name_inside
returns-clause-own_name_inside c =
    simp (statement-Declare, statement-Block, statement-Return, expression-Name, expression-Number) refl
