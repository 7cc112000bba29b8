use mir.Syntax.{w32}
use mir.Val.{SFits}
use Rattle.std.proofs.Common.{rules, ◌+◌, ◌-◌, ◌∷◌, take, drop, ap, ◌∙◌}
use Rattle.std.specs.Prelude.{slice_set, reverse}
use Rattle.std.proofs.lemmas.Int.{to_z-of_z}
use Rattle.flame_machine.proofs.Stacks.{args_from, stack_behind}
use Rattle.flame_machine.proofs.frames.Frame.lent.Goals as goal

pub returns-clause-args : goal.returns-clause-args
returns-clause-args c =
    let cells = c.args.cells.now in
    let frame = c.args.self.now in
    let fits : SFits w32 frame.top = search rules in
    ap (λ t. take c.args.count (drop (frame.height + 1 - c.args.count) (slice_set cells frame.height t))) (to_z-of_z w32 frame.top fits)
    ∙ args_from cells frame.height c.args.count frame.top c.requires.room c.requires.count

pub returns-clause-behind : goal.returns-clause-behind
returns-clause-behind c v =
    let cells = c.args.cells.now in
    let frame = c.args.self.now in
    let fits : SFits w32 frame.top = search rules in
    ap (λ t. take (frame.height + 1 - c.args.count) (v ∷ reverse (take (frame.height + 1 - c.args.count) (slice_set cells frame.height t)))) (to_z-of_z w32 frame.top fits)
    ∙ stack_behind cells frame.height c.args.count frame.top v c.requires.room c.requires.count
