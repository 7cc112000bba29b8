use mir.Syntax.{w32}
use mir.Val.{SFits}
use Rattle.std.proofs.Common.{rules, ap, ◌∙◌, ◌-◌, List}
use Rattle.std.specs.Prelude.{ℤ}
use Rattle.flame_spec.specs.Definitions.{helpers}
use Rattle.flame_sense.specs.declared.scene.Open.TheVariants.{Nothing}
use Rattle.flame_meaning.specs.HelperCalls.{helper_scene, calls_within}
use Rattle.flame_meaning.specs.Scenes.{Scene, Current}
use Rattle.flame_sense.specs.StandsFor.{currents}
use Rattle.flame_sense.proofs.Turning.{currents_nothing}
use Rattle.std.proofs.lemmas.Int.{to_z-of_z}
use Rattle.flame_sense.proofs.scene.Scene.in_helper.Goals as goal

pub returns-clause-scene : goal.returns-clause-scene
returns-clause-scene c =
    let fits : SFits w32 c.args.self.now.iteration = search rules in
    let model = c.args.self.now.model.now in
    let defs = helpers model c.args.self.now.units.now in
    let constants = c.args.self.now.constants.now in
    let With : ℤ → List Current → Scene = λ i open_loops.
    record (helper_scene model defs constants i (calls_within (c.args.self.now.left - 1) model defs constants i)) { open_loops = open_loops } in
    ap (λ i. With i (currents Nothing)) (to_z-of_z w32 c.args.self.now.iteration fits)
    ∙ ap (With c.args.self.now.iteration) currents_nothing
