-- The cases compute, but for what the trees of files are seen as.
use Rattle.std.proofs.Common.{◌≡◌, [], refl, rules}
use Rattle.flame_spec.specs.declared.conditions.Condition.{the_lemmas}
use Rattle.flame_spec_laws.specs.AcceptedCases.{lone_source}
use Rattle.flame_spec.specs.CheckFaults.{check_faults}
use Rattle.flame_spec.proofs.SeenForms.{expression-Number, statement-Return}
use Rattle.flame_spec_laws.proofs.accepted_laws.accepted_cases.Goals as goal

lone_checked : check_faults lone_source.model lone_source.units ≡ []
lone_checked = simp (statement-Return, expression-Number) refl

pub returns-clause-nothing : goal.returns-clause-nothing
returns-clause-nothing c = record { formed = refl; named = refl; checked = refl; ordered = refl; started = refl }

pub returns-clause-lone_function : goal.returns-clause-lone_function
returns-clause-lone_function c =
    record { formed = refl; named = refl; checked = lone_checked; ordered = refl; started = refl }

pub returns-clause-formed : goal.returns-clause-formed
returns-clause-formed c = (refl, refl, refl, search (rules, the_lemmas), search (rules, the_lemmas))

pub returns-clause-starts : goal.returns-clause-starts
returns-clause-starts c = (refl, refl, refl)
