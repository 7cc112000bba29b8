-- Room for survivors changes nothing of what is left.
use Rattle.std.proofs.Common.{◌∙◌}
use Rattle.flame_leaving.proofs.leavings.Leaving.expecting.Goals as goal

pub returns : goal.returns
returns c = λ iteration function run.
    let none = c.nothing-leaving.ensures iteration function run in
    record {
      ran = none.ran;
      survivors = c.reserve.ensures.items ∙ none.survivors;
      sent = none.sent;
      born = none.born;
      fault = none.fault;
    }
