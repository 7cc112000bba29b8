-- The model is that of the program.
use Rattle.std.proofs.Common.{◌++◌, ◌∙◌, ap, w32, to_z, of_z}
use Rattle.std.specs.Prelude.{ℤ}
use Rattle.std.proofs.lemmas.Int.{to_z-of_z}
use Rattle.flame_spec.specs.declared.outcomes.Source.{Source}
use Rattle.flame_popfile.specs.IterationTexts.{text}
use Rattle.flame_popfile.proofs.texts.text_by.Goals as goal

pub returns : goal.returns
returns g c =
    let format = c.args.format in
    let world = c.args.world.now in
    let boards = c.args.boards.now in
    c.of.ensures
    ∙ c.in_ok-push_text.ensures
    ∙ ap
    (λ before. before ++ text c.source.result.now.model format (to_z w32 (of_z w32 c.args.itno)) world boards)
    c.new-bytes.ensures.items
    ∙ ap (λ (number : ℤ). text c.source.result.now.model format number world boards)
    (to_z-of_z w32 c.args.itno c.ranges.itno)
    ∙ ap (λ (source : Source). text source.model format c.args.itno world boards) c.source.ensures.same
