use Rattle.std.proofs.Common.{ap, ◌∙◌}
use Rattle.flame_rows.specs.Bags.{merge, merge_all}
use Rattle.flame_rows.proofs.Merging.{merge_all-push}
use Rattle.flame_rows.proofs.runs.Runs.add.Goals as goal

pub returns-clause-ok : goal.returns-clause-ok
returns-clause-ok c =
    ap merge_all c.in_ok-push.ensures.items
    ∙ merge_all-push c.self.inside.bags.items c.args.bag
    ∙ ap (λ rows. merge rows c.args.bag) c.self.view_is
