use Rattle.std.proofs.Common.{◌≡◌, length, vec_len, ap, arith, rules}
use Rattle.flame_index.proofs.Entered.{laid_length}
use Rattle.flame_index.proofs.indexes.Index.len.Goals as goal

pub returns : goal.returns
returns c =
    let inside = c.self.inside in
    let long : vec_len inside.values ≡ length inside.values.items = search rules in
    let size = laid_length inside.values.items inside.places.items c.self.invariant.0 c.args.self.now.entries (ap (λ t. t.entries) c.self.view_is) in
    omega (arith, long, size, c.len.ensures)
