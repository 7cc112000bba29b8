use Rattle.std.proofs.Common.{◌++◌, ◌∙◌, ap, w32}
use Rattle.std.specs.Prelude.{ℤ}
use Rattle.std.proofs.lemmas.Int.{to_z-of_z}
use Rattle.flame_popfile.specs.IterationTexts.{head_text}
use Rattle.flame_popfile.proofs.Chains.{chain_five}
use Rattle.flame_popfile.proofs.wholes.push_text.Goals as goal

pub returns : goal.returns
returns g c =
    chain_five _ _ _ _ _ _ _ _ _ _ _
    (c.in_ok-push_head.ensures
    ∙ ap
    (λ (number : ℤ). c.args.bytes.now.items
    ++ head_text c.args.model.now c.args.format number c.args.world.now)
    (to_z-of_z w32 c.args.itno c.ranges.itno))
    c.in_ok-push_agents.ensures c.in_ok-push_str.ensures c.in_ok-push_messages.ensures c.in_ok-push_str-2.ensures
