use Rattle.std.proofs.Common.{◌∙◌, ◌==◌, ap, sym}
use Rattle.std.specs.Prelude.{not}
use Rattle.flame_spec.specs.CallFaults.{count}
use Rattle.flame_spec.specs.Seen.{expressions}
use Rattle.flame_numbering.proofs.ArgumentLaws.{count_expressions}
use Rattle.flame_numbering.proofs.call.has_wrong_count.Goals as goal

pub returns : goal.returns
returns c =
    let es = c.args.es.now in
    ap (λ n. not (n == c.wanted.result)) (sym (count_expressions es))
    ∙ ap (λ w. not (count (expressions es) == w)) c.wanted.ensures
