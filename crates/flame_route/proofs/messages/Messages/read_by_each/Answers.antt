-- There is a message for each input.
use Rattle.std.proofs.Common.{length, refl}
use Rattle.std.proofs.lemmas.Option.{slice_get_read}
use Rattle.flame_route.proofs.messages.Messages.read_by_each.Goals as goal

pub read_by-requires : goal.read_by-requires
read_by-requires c =
    let inputs = c.args.inputs.now in
    let i = c.loop-input.input-index in
    c.requires i c.input-item.result
    (slice_get_read inputs (length inputs) i c.input-item.result refl c.loop-input-test.true c.input-item.is)
