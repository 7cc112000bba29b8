-- A test that is written as the filter says what it says.
use Rattle.std.proofs.Common.{◌∙◌, []}
use Rattle.std.specs.Prelude.{pos}
use Rattle.flame_spec.specs.Conditions.{input_scope}
use Rattle.flame_cond.specs.Tests.{moment, names}
use Rattle.flame_cond.specs.TestForms.{test_of}
use Rattle.flame_cond.proofs.FormTruths.{written-truth}
use Rattle.flame_cond.proofs.filters.Filter.of.Goals as goal

pub returns-clause-says : goal.returns-clause-says
returns-clause-says c memory row =
    written-truth
    c.in_ok-test.test
    (input_scope c.args.agent.now c.args.message.now)
    c.args.condition.now
    (c.in_ok-test.ensures ∙ (λ i. test_of (names (c.items.ensures i) (c.items-2.ensures i) []) c.args.condition.now))
    (moment memory row (pos 0))
