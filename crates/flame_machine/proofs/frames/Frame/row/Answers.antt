use mir.Syntax.{w32}
use mir.Val.{SFits}
use Rattle.std.proofs.Common.{rules, ◌≡◌, ◌+◌, ◌-◌, List, ap, ◌∙◌, subst}
use Rattle.std.specs.Prelude.{ℤ, IfOk, slice_set, slice_range}
use Rattle.std.proofs.lemmas.Int.{to_z-of_z}
use Rattle.flame_machine.proofs.Stacks.{row_of}
use Rattle.flame_machine.proofs.frames.Frame.row.Goals as goal

pub returns-clause-row : goal.returns-clause-row
returns-clause-row c =
    let cells = c.args.cells.now in
    let frame = c.args.self.now in
    let fits : SFits w32 frame.top = search rules in
    subst (λ (l : List ℤ). IfOk c.of_slice.result (λ row. row ≡ l))
    (ap (λ t. slice_range (slice_set cells frame.height t) (frame.height + 1 - c.args.count) (frame.height + 1)) (to_z-of_z w32 frame.top fits)
    ∙ row_of cells frame.height c.args.count frame.top c.requires.room c.requires.count)
    c.of_slice.ensures.row
