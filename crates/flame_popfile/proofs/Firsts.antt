-- The first fault of lists of faults.
use Rattle.std.proofs.Common.{◌≡◌, List, [], ◌∙◌, Result, Ok, Err}
use Rattle.std.specs.Prelude.{IfOk, IfErr}
use Rattle.flame_rows.specs.declared.fails.Fail.{Fail}
use Rattle.flame_spec.specs.FirstFaults.{FailsFirst, Reads}
use Rattle.flame_popfile.specs.declared.faults.PopFault.{PopFault}

-- ---- what is read, clause by clause

pub reads_none :
    {X : Type 0} (faults faults' : List PopFault) (value : X) (result : Result X (Fail PopFault))
    → faults' ≡ faults → Reads faults value result → IfOk result (λ answer. faults' ≡ [])
reads_none faults faults' value (Ok answer) same reads = same ∙ reads.0
reads_none faults faults' value (Err fail) same reads = tt

pub reads_value :
    {X : Type 0} (faults : List PopFault) (value value' : X) (result : Result X (Fail PopFault))
    → value ≡ value' → Reads faults value result → IfOk result (λ answer. answer ≡ value')
reads_value faults value value' (Ok answer) same reads = reads.1 ∙ same
reads_value faults value value' (Err fail) same reads = tt

pub reads_first :
    {X : Type 0} (faults faults' : List PopFault) (value : X) (result : Result X (Fail PopFault))
    → faults' ≡ faults → Reads faults value result → IfErr result (λ fail. FailsFirst faults' fail)
reads_first faults faults' value (Ok answer) same reads = tt
reads_first faults faults' value (Err fail) same reads = rw same reads
