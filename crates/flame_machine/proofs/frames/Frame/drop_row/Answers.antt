use mir.Syntax.{w32}
use mir.Val.{SFits}
use Rattle.std.proofs.Common.{rules, ◌∷◌, List, length, take, get_or, ◌-◌, ap, sym, ◌∙◌}
use Rattle.std.specs.Prelude.{reverse, ℤ, pos}
use Rattle.std.proofs.lemmas.Int.{to_z-of_z}
use Rattle.flame_machine.specs.MachineFrames.{Held}
use Rattle.flame_machine.proofs.Stacks.{rest_of}
use Rattle.flame_machine.proofs.frames.Frame.drop_row.Goals as goal

pub returns-then-count-gt0-clause-stack : goal.returns-then-count-gt0-clause-stack
returns-then-count-gt0-clause-stack c =
    let cells = c.args.cells.now in
    let frame = c.args.self.now in
    let count = c.args.count in
    let below = get_or cells (frame.height - count) (pos 0) in
    let fits : SFits w32 below = search rules in
    let rest = rest_of cells frame.height count frame.top (pos 0) c.if-count-gt0.true c.requires.count c.requires.fits in
    let with_stack : List ℤ → Held = λ stack. record { stack = stack; room = length cells; fuel = frame.fuel } in
    ap with_stack (ap (λ x. take (frame.height - count) (x ∷ reverse (take (frame.height - count) cells))) (to_z-of_z w32 below fits) ∙ sym rest)
