use Rattle.std.proofs.Common.{◌∙◌, sym}
use Rattle.std.proofs.lemmas.Bool.{le-leb}
use Rattle.flame_field.proofs.Halving.{halved-enough, enough-wide}
use Rattle.flame_field.proofs.keeping.are_enough.Goals as goal

pub returns-then-views-ge64 : goal.returns-then-views-ge64
returns-then-views-ge64 c =
    le-leb 64 c.args.views c.if-views-ge64.true ∙ sym (enough-wide c.args.views c.args.rows c.if-views-ge64.true c.ranges.rows.fits)

pub returns-else-views-ge64 : goal.returns-else-views-ge64
returns-else-views-ge64 c = halved-enough c.args.views c.args.rows
