use mir.Syntax.{w32}
use mir.Val.{SFits}
use Rattle.std.proofs.Common.{rules, ◌∙◌, ap}
use Rattle.std.proofs.lemmas.Int.{to_z-of_z}
use Rattle.flame_spec.specs.Columns.{columned_where}
use Rattle.flame_sense.specs.declared.words.Form.TheVariants.{Get}
use Rattle.flame_meaning.specs.Scenes.{value_found}
use Rattle.flame_sense.specs.StandsFor.{is_written}
use Rattle.flame_sense.proofs.scene.Scene.got.Goals as goal

pub returns : goal.returns
returns c =
    let fits : SFits w32 c.number_of.result = search rules in
    to_z-of_z w32 c.number_of.result fits
    ∙ c.number_of.ensures (columned_where (λ variable. is_written Get c.args.word.now variable.name) c.memory.result.now) c.span_where.ensures
    ∙ ap (value_found (columned_where (λ variable. is_written Get c.args.word.now variable.name) c.memory.result.now)) c.as_slice.ensures.value
    ∙ ap (λ variables. value_found (columned_where (λ variable. is_written Get c.args.word.now variable.name) variables) c.args.s.now.memory.items) c.memory.ensures
