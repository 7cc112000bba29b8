use mir.Syntax.{w32}
use mir.Val.{SFits}
use Rattle.std.proofs.Common.{rules, ◌∙◌, ap, sym}
use Rattle.std.proofs.lemmas.Int.{to_z-of_z}
use Rattle.flame_spec.specs.LookUps.{given, memory_named}
use Rattle.flame_sense.specs.declared.scene.Open.TheVariants.{Nothing}
use Rattle.flame_meaning.specs.Scenes.{value_found, value_given}
use Rattle.flame_sense.specs.StandsFor.{scene_seen, progress_seen}
use Rattle.flame_sense.proofs.Givens.{in_memory_value}
use Rattle.flame_sense.proofs.scene.Scene.value_given.Goals as goal

pub returns-in-Some : goal.returns-in-Some
returns-in-Some c =
    let fits : SFits w32 c.number_of.result = search rules in
    let found = memory_named c.memory.result.now c.args.word.now in
    let constants = c.args.self.now.model.now.constants in
    to_z-of_z w32 c.number_of.result fits
    ∙ c.number_of.ensures found (sym c.in-Some.is ∙ c.span_where.ensures)
    ∙ ap (value_found found) c.as_slice.ensures.value
    ∙ in_memory_value found constants c.args.word.now (scene_seen c.args.self.now Nothing) (progress_seen c.args.s.now)
    c.in-Some.span (sym c.in-Some.is ∙ c.span_where.ensures)
    ∙ ap (λ variables. value_given (given variables constants c.args.word.now) (scene_seen c.args.self.now Nothing) (progress_seen c.args.s.now)) c.memory.ensures
