-- The tables are those of the model and the files.
use Rattle.std.proofs.Common.{◌≡◌, [], subst}
use Rattle.std.specs.Prelude.{IfErr, IfOk, OnOk}
use Rattle.flame_spec.specs.CheckFaults.{check_faults}
use Rattle.flame_spec.specs.FirstFaults.{FailsFirst}
use Rattle.flame_body.specs.FunctionBodies.{function_bodies, helper_bodies}
use Rattle.flame_lookup.specs.Sources.{Sources}
use Rattle.flame_check.proofs.checking.check.Goals as goal

pub returns-clause-accepted : goal.returns-clause-accepted
returns-clause-accepted c =
    let P : Sources → Type 0 = λ s. OnOk c.check_by.result (check_faults s.model s.units ≡ []) in
    subst P c.in_ok-tables.ensures c.check_by.ensures.accepted

pub returns-clause-bodies : goal.returns-clause-bodies
returns-clause-bodies c =
    let P : Sources → Type 0 = λ s. IfOk c.check_by.result (λ checked. checked.bodies ≡ function_bodies s.model s.units) in
    subst P c.in_ok-tables.ensures c.check_by.ensures.bodies

pub returns-clause-helpers : goal.returns-clause-helpers
returns-clause-helpers c =
    let P : Sources → Type 0 = λ s. IfOk c.check_by.result (λ checked. checked.helpers ≡ helper_bodies s.model s.units) in
    subst P c.in_ok-tables.ensures c.check_by.ensures.helpers

pub returns-clause-first : goal.returns-clause-first
returns-clause-first c =
    let P : Sources → Type 0 = λ s. IfErr c.check_by.result (FailsFirst (check_faults s.model s.units)) in
    subst P c.in_ok-tables.ensures c.check_by.ensures.first
