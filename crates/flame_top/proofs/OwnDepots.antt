-- Depots in memory of which no call fails.
use Rattle.std.proofs.Common.{◌≡◌, [], Some, sym, ap, ◌∙◌, true≢false}
use Rattle.std.specs.Prelude.{IsTrue}
use Rattle.std.specs.FinMap.{empty}
use Rattle.flame_outside.specs.Calls.{never_fails}
use Rattle.flame_outside.specs.Devices.{SeenDepot}
use Rattle.flame_outside.specs.Failures.{ReadFailed}
use Rattle.flame_outside.specs.Memory.{DepotInMemory, seen_depot, new_depot}
use Rattle.flame_top.specs.declared.ending.Ending.{Ending}
use Rattle.flame_top.specs.InputAnswers.{IsReadFault}

module _ (depot : DepotInMemory) (is : depot ≡ new_depot []) where
  -- none fails where none is listed
  pub new_calm : IsTrue (seen_depot depot).calm
  new_calm = ap (λ (d : DepotInMemory). never_fails d.calls) is

  -- a new one holds no file
  pub new_empty : (seen_depot depot).files ≡ Some empty
  new_empty = ap (λ (d : DepotInMemory). Some d.files) is

-- no input of a depot that never fails is to blame
pub no_read_fault :
    (ending : Ending) (old new : SeenDepot)
    → IsTrue old.calm
    → (IsReadFault ending → ReadFailed old new)
    → ¬ IsReadFault ending
no_read_fault ending old new calm failed = λ r. true≢false (sym calm ∙ (failed r).not_calm)
