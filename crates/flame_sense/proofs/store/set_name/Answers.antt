use mir.Syntax.{w32}
use Rattle.std.proofs.Common.{refl, ap, ◌∙◌}
use Rattle.std.specs.Prelude.{ℤ}
use Rattle.std.proofs.lemmas.Int.{to_z-of_z}
use Rattle.flame_sense.specs.declared.scene.Local as variable
use Rattle.flame_sense.specs.declared.scene.Open.TheVariants.{Nothing}
use Rattle.flame_meaning.specs.Scenes.{Local}
use Rattle.flame_sense.specs.StandsFor.{scene_seen, progress_seen}
use Rattle.flame_sense.proofs.Stores.{stored_there}
use Rattle.flame_sense.proofs.store.set_name.Goals as goal

pub returns-in-Some : goal.returns-in-Some
returns-in-Some c =
    let stands = rw c.as_slice.ensures.value at c.in-Some.ensures in
    let value_is = to_z-of_z w32 c.args.value c.ranges.value in
    let Named : ℤ → variable.Local → Local = λ v l. record { name = l.name.now; value = v } in
    stored_there c.args.word.now c.args.value (scene_seen c.args.scene.now Nothing) (progress_seen c.args.s.now)
    c.args.s.now.locals.items c.in-Some.place c.index_mut-local.result.now _ stands
    (ap (λ v. Named v c.index_mut-local.result.now) value_is ∙ ap (Named c.args.value) c.index_mut-local.ensures.value) refl
