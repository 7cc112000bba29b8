use Rattle.std.proofs.Common.{◌∙◌, ap, [], ◌∷◌}
use Rattle.flame_compile.specs.Pieces.{one, in_order, written}
use Rattle.flame_compile.specs.Emit.{operator, index, loaded, value}
use Rattle.flame_compile.proofs.Writing.{wrote_5}
use Rattle.flame_compile.proofs.stored.write_change.Goals as goal

pub returns : goal.returns
returns c =
    let i = index c.args.target.now in
    let l = loaded c.args.target.now in
    let v = value c.args.value.now in
    let o = one (operator c.args.op c.args.line) in
    wrote_5 i l v (one c.operator.result) (one c.store.result) _ _ _ _ _ _ c.in_ok-write_index.ensures
    c.in_ok-write_loaded.ensures c.in_ok-write_value.ensures c.in_ok-put.ensures c.in_ok-put-2.ensures
    ∙ ap (λ x. written (in_order (i ∷ l ∷ v ∷ one x ∷ one c.store.result ∷ [])) c.args.out.now.items) c.operator.ensures
    ∙ ap (λ s. written (in_order (i ∷ l ∷ v ∷ o ∷ one s ∷ [])) c.args.out.now.items) c.store.ensures
