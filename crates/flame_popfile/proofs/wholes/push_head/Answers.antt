use Rattle.std.proofs.Common.{◌≡◌, ◌++◌, ◌∙◌, sym, ap, w32}
use Rattle.std.specs.Prelude.{ℤ}
use Rattle.std.proofs.lemmas.Int.{to_z-of_z}
use Rattle.std.proofs.lemmas.Result.{on_ok_weaker}
use Rattle.flame_popfile.specs.declared.formats.Format.{Format}
use Rattle.flame_popfile.specs.declared.formats.Format.TheVariants.{One, Two}
use Rattle.flame_popfile.specs.IterationTexts.{head_text}
use Rattle.flame_popfile.proofs.wholes.push_head.Goals as goal

pub returns-in-One : goal.returns-in-One
returns-in-One c =
    on_ok_weaker c.push_head_one.result
    (λ e.
    e
    ∙ ap (λ (number : ℤ). c.args.bytes.now.items ++ head_text c.args.model.now One number c.args.world.now)
    (to_z-of_z w32 c.args.itno c.ranges.itno)
    ∙ ap
    (λ (format : Format). c.args.bytes.now.items ++ head_text c.args.model.now format c.args.itno c.args.world.now)
    (sym c.in-One.is))
    c.push_head_one.ensures

pub returns-in-Two : goal.returns-in-Two
returns-in-Two c =
    on_ok_weaker c.push_head_two.result
    (λ e.
    e
    ∙ ap (λ (number : ℤ). c.args.bytes.now.items ++ head_text c.args.model.now Two number c.args.world.now)
    (to_z-of_z w32 c.args.itno c.ranges.itno)
    ∙ ap
    (λ (format : Format). c.args.bytes.now.items ++ head_text c.args.model.now format c.args.itno c.args.world.now)
    (sym c.in-Two.is))
    c.push_head_two.ensures
