use Rattle.std.proofs.Common.{◌++◌, ◌∙◌, drop, ap, sym}
use Rattle.std.proofs.Math.Seq.{drop-append_seam}
use Rattle.flame_popfile.specs.TailTexts.{held}
use Rattle.flame_popfile.proofs.puts.grow.Goals as goal

pub returns-clause-held : goal.returns-clause-held
returns-clause-held c =
    let zeros = c.resize.new.self.items in
    ap (drop c.in-Some.start)
    (c.in_ok-extend_from_slice.ensures.items ∙ ap (λ text. zeros ++ text) c.text_of.ensures)
    ∙ ap (λ n. drop n (zeros ++ held c.args.tail.now)) (sym c.in_ok-resize.ensures.len ∙ c.resize.new.self.ok.0)
    ∙ drop-append_seam zeros (held c.args.tail.now)
