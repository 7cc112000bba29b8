-- The bytes of the file come first.
use Rattle.std.proofs.Common.{subst}
use Rattle.flame_load.specs.FileReads.{source_limit, file_in}
use Rattle.flame_load.specs.FunctionFileReads.{spelled_in}
use Rattle.flame_load.specs.InputReads.{input}
use Rattle.flame_load.specs.LoadAnswers.{Gives}
use Rattle.flame_load.specs.LoadRefusals.{of_files, file_refusal}
use Rattle.flame_load.proofs.Leftovers.{passes_first, gives_behind}
use Rattle.flame_load.proofs.function_files.unit_in.Goals as goal

pub returns-in_err-bytes-clause-gives : goal.returns-in_err-bytes-clause-gives
returns-in_err-bytes-clause-gives g c = λ told read held reads.
    let name = c.args.name.now in
    passes_first (λ unit. unit) _ c.from_residual.result
    (input (λ fault. of_files (file_refusal name fault)) name (file_in told source_limit name))
    (λ bytes. spelled_in name (read bytes))
    c.from_residual.ensures.1
    (c.in_err-bytes.ensures.gives told held)

pub returns-clause-gives : goal.returns-clause-gives
returns-clause-gives g c = λ told read held reads.
    let name = c.args.name.now in
    gives_behind (λ unit. unit) c.spelled.result
    (input (λ fault. of_files (file_refusal name fault)) name (file_in told source_limit name))
    (λ bytes. spelled_in name (read bytes))
    c.in_ok-bytes.bytes
    (c.in_ok-bytes.ensures.gives told held)
    (subst (λ bytes. Gives (λ unit. unit) c.spelled.result (spelled_in name (read bytes))) c.bytes-2.ensures
    (c.spelled.ensures.gives read reads))
