use Rattle.std.proofs.Common.{◌∙◌, ap, drop}
use Rattle.std.proofs.lemmas.List.{drop-drop}
use Rattle.flame_numbering.proofs.locals.Locals.cut.Goals as goal

pub loop-i-preserved : goal.loop-i-preserved
loop-i-preserved c = c.pop.ensures ∙ ap (drop 1) c.loop-i.invariant ∙ drop-drop 1 c.loop-i.i c.args.self.now
