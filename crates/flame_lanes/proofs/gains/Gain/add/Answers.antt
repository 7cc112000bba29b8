use Rattle.std.proofs.Common.{◌++◌, ◌∙◌, ap}
use Rattle.flame_leaving.specs.WholeLaws.{least_of}
use Rattle.flame_lanes.proofs.GainSums.{gain-more}
use Rattle.flame_lanes.proofs.gains.Gain.add.Goals as goal

pub returns : goal.returns
returns c = λ iteration function run agents more before further.
    let law = c.parts_make_the_whole.ensures in
    let old = c.args.self.now in
    let rest = c.args.rest in
    gain-more law.survivors law.births law.fault iteration function run agents more old _ rest before further
    (c.in_ok-add_rows.ensures ∙ ap (λ l. old.survivors.items ++ l) c.into_rows-survivors.ensures.rows)
    (c.in_ok-append.ensures.items ∙ ap (λ l. old.born.items ++ l) c.into_items-born.ensures)
    (c.lesser_fault.ensures ∙ ap (λ o. least_of o rest.fault) c.take.ensures.value)
