use Rattle.std.proofs.Common.{◌∙◌, ◌++◌, sym, ap, codes}
use Rattle.std.proofs.lemmas.Result.{err_from_is_err_and}
use Rattle.flame_spec.specs.Paths.{at_key}
use Rattle.flame_spec.specs.Leaves.{leaf_faults}
use Rattle.flame_spec.proofs.FaultLists.{FailsFirst-front}
use Rattle.flame_spec.proofs.ConditionForms.{leaf_faults-And, leaf_faults-Or}
use Rattle.flame_names.specs.PlacePaths.{text_of}
use Rattle.flame_names.specs.TableScopes.{scope_of}
use Rattle.flame_names.proofs.leaves.+leaves.Goals as goal

pub returns-in_err-leaves-in-And-clause-first : goal.returns-in_err-leaves-in-And-clause-first
returns-in_err-leaves-in-And-clause-first t c =
    let p = err_from_is_err_and
    c.from_residual.result
    c.from_residual.ensures.1 in
    let scope = scope_of c.args.scope.now in
    let path = text_of c.args.place.now in
    rw
    (p.1, p.2)
    (FailsFirst-front
    _
    (leaf_faults scope c.args.condition.now path)
    (leaf_faults scope c.deref.result.now (at_key path (codes "lhs")))
    (leaf_faults scope c.in-And.right (at_key path (codes "rhs")))
    (ap (λ condition. leaf_faults scope condition path) c.in-And.is
    ∙ leaf_faults-And scope path c.in-And.left c.in-And.right
    ∙ ap
    (λ part.
    leaf_faults scope part (at_key path (codes "lhs"))
    ++ leaf_faults scope c.in-And.right (at_key path (codes "rhs")))
    (sym c.deref.ensures))
    c.in_err-leaves-in-And.ensures.first)

pub returns-in_err-leaves-in-Or-clause-first : goal.returns-in_err-leaves-in-Or-clause-first
returns-in_err-leaves-in-Or-clause-first t c =
    let p = err_from_is_err_and
    c.from_residual-in_err-leaves-in-Or.result
    c.from_residual-in_err-leaves-in-Or.ensures.1 in
    let scope = scope_of c.args.scope.now in
    let path = text_of c.args.place.now in
    rw
    (p.1, p.2)
    (FailsFirst-front
    _
    (leaf_faults scope c.args.condition.now path)
    (leaf_faults scope c.deref-in-Or.result.now (at_key path (codes "lhs")))
    (leaf_faults scope c.in-Or.right (at_key path (codes "rhs")))
    (ap (λ condition. leaf_faults scope condition path) c.in-Or.is
    ∙ leaf_faults-Or scope path c.in-Or.left c.in-Or.right
    ∙ ap
    (λ part.
    leaf_faults scope part (at_key path (codes "lhs"))
    ++ leaf_faults scope c.in-Or.right (at_key path (codes "rhs")))
    (sym c.deref-in-Or.ensures))
    c.in_err-leaves-in-Or.ensures.first)
