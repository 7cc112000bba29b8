-- A test that is written as the condition says what it says.
use Rattle.std.proofs.Common.{◌∙◌, []}
use Rattle.flame_spec.specs.Conditions.{agent_scope}
use Rattle.flame_cond.specs.Tests.{moment, names}
use Rattle.flame_cond.specs.TestForms.{test_of}
use Rattle.flame_cond.proofs.FormTruths.{written-truth}
use Rattle.flame_cond.proofs.conditions.Cond.of.Goals as goal

pub returns-clause-says : goal.returns-clause-says
returns-clause-says c memory iteration =
    written-truth
    c.in_ok-test.test
    (agent_scope c.args.agent.now c.args.units.now)
    c.args.condition.now
    (c.in_ok-test.ensures ∙ (λ i. test_of (names (c.items.ensures i) [] (c.items-2.ensures i)) c.args.condition.now))
    (moment memory [] iteration)
