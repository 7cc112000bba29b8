use Rattle.std.proofs.Common.{◌∙◌, ap, [], ◌∷◌}
use Rattle.flame_compile.specs.Pieces.{one, in_order, written}
use Rattle.flame_compile.specs.Emit.{index, value}
use Rattle.flame_compile.proofs.Writing.{wrote_3}
use Rattle.flame_compile.proofs.stored.write_set.Goals as goal

pub returns : goal.returns
returns c =
    let i = index c.args.target.now in
    let v = value c.args.value.now in
    wrote_3 i v (one c.store.result) _ _ _ _ c.in_ok-write_index.ensures c.in_ok-write_value.ensures c.in_ok-put.ensures
    ∙ ap (λ s. written (in_order (i ∷ v ∷ one s ∷ [])) c.args.out.now.items) c.store.ensures
