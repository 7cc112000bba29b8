use Rattle.std.proofs.Common.{refl}
use Rattle.flame_top.proofs.laws.one_report_for_all_ways.Goals as goal

pub returns : goal.returns
returns c = record {
  run = λ read told order workers way variable trace. refl;
  trial = λ read told order workers way variable trace. refl;
}
