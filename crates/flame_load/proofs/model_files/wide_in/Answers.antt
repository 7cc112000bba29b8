-- The value of the file comes first.
use Rattle.serde_json.specs.View.{view}
use Rattle.flame_load.specs.FileReads.{source_limit, value_in}
use Rattle.flame_load.specs.InputReads.{input}
use Rattle.flame_load.specs.LoadRefusals.{of_files, file_refusal}
use Rattle.flame_load.specs.ModelFileReads.{wide_of_value}
use Rattle.flame_load.proofs.Leftovers.{passes_first, gives_behind}
use Rattle.flame_load.proofs.model_files.wide_in.Goals as goal

pub returns-in_err-value-clause-gives : goal.returns-in_err-value-clause-gives
returns-in_err-value-clause-gives g c = λ told held.
    let name = c.args.name.now in
    passes_first (λ wide. wide) _ c.from_residual.result
    (input (λ fault. of_files (file_refusal name fault)) name (value_in told source_limit name))
    (wide_of_value name)
    c.from_residual.ensures.1
    (c.in_err-value.ensures.gives told held)

pub returns-clause-gives : goal.returns-clause-gives
returns-clause-gives g c = λ told held.
    let name = c.args.name.now in
    gives_behind (λ wide. wide) c.shaped.result
    (input (λ fault. of_files (file_refusal name fault)) name (value_in told source_limit name))
    (wide_of_value name)
    (view c.in_ok-value.value)
    (c.in_ok-value.ensures.gives told held)
    c.shaped.ensures.gives
