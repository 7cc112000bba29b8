use Rattle.std.proofs.Common.{◌<◌, ◌∙◌, length, arith}
use Rattle.flame_field.proofs.Dealing.{length-there}
use Rattle.flame_field.proofs.pools.Pool.count.Goals as goal

pub returns : goal.returns
returns c =
    let chosen = c.args.self.now.chosen in
    let own = c.index.result.now in
    let within : c.args.place < length chosen.items = omega (arith, c.if-place-len.false, c.len.ensures, chosen.ok.0) in
    c.len-2.ensures ∙ own.rows.ok.0 ∙ length-there chosen.items c.args.place own within c.index.ensures
