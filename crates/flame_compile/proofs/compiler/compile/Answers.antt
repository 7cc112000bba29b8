use Rattle.std.proofs.Common.{◌≡◌, ◌∙◌, List, ap, sym, subst}
use Rattle.flame_spec.specs.declared.outcomes.Widths.{Widths}
use Rattle.flame_code.specs.declared.instrs.Instr.{Instr}
use Rattle.flame_code.specs.Validity.{IsValid}
use Rattle.flame_compile.specs.Emit.{emitted}
use Rattle.flame_compile.proofs.LabelledBodies.{emitted_valid}
use Rattle.flame_compile.proofs.compiler.compile.Goals as goal

pub make-requires-clause-valid : goal.make-requires-clause-valid
make-requires-clause-valid c =
    let body = c.args.body in
    let tree : c.items.result.now ≡ body.tree = c.items.ensures ∙ c.tree.ensures.same in
    let instrs : c.in_ok-instrs.instrs ≡ emitted body.tree = c.in_ok-instrs.ensures.code ∙ ap emitted tree in
    subst (λ (is : List Instr). IsValid (record { instrs = is; widths = c.into_widths.result })) (sym instrs)
    (subst (λ (w : Widths). IsValid (record { instrs = emitted body.tree; widths = w })) (sym c.into_widths.ensures)
    (emitted_valid body.widths body.tree c.tree.ensures.fits))
