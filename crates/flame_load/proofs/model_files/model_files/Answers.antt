-- The root is the first name.
use Rattle.std.proofs.Common.{◌≡◌, Ok, subst}
use Rattle.flame_load.specs.LoadAnswers.{Stops}
use Rattle.flame_load.specs.ModelFileReads.{model_files}
use Rattle.flame_load.specs.RestsOfReadings.{files_read}
use Rattle.flame_load.proofs.FileSteps.{gives_by, root_files}
use Rattle.flame_load.proofs.Leftovers.{rest_same}
use Rattle.flame_load.proofs.model_files.model_files.Goals as goal

pub returns-in_err-add_name-clause-gives : goal.returns-in_err-add_name-clause-gives
returns-in_err-add_name-clause-gives g c = λ told held.
    let whole = model_files told c.args.name.now in
    gives_by files_read c.from_residual.result c.in_err-add_name.field-0.0 whole whole c.from_residual.ensures.1 (rest_same whole)
    (subst (Stops c.in_err-add_name.field-0.0)
    (root_files told c.args.name.now c.new.result.items c.new-2.result.items c.new.ensures.items c.new-2.ensures.items)
    (c.in_err-add_name.ensures.gives told held))

pub returns-clause-gives : goal.returns-clause-gives
returns-clause-gives g c = λ told held.
    subst (λ r. r.answer ≡ Ok (files_read c.add_name.new.files))
    (root_files told c.args.name.now c.new.result.items c.new-2.result.items c.new.ensures.items c.new-2.ensures.items)
    (c.in_ok-add_name.ensures.gives told held)
