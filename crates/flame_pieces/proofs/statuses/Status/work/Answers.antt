use Rattle.std.proofs.Common.{◌≡◌, ℕ, List, Option, Some, None, Bor, IfSome, sym, subst}
use Rattle.std.specs.List.{All}
use Rattle.std.specs.Slice.{IsItemAt}
use Rattle.flame_pieces.specs.declared.statuses.Status.{Status}
use Rattle.flame_pieces.specs.declared.works.Work.{Work}
use Rattle.flame_pieces.specs.KeptWorks.{outputs_in}
use Rattle.flame_pieces.specs.KeptStatuses.{HasOutputs}
use Rattle.flame_pieces.proofs.statuses.Status.work.Goals as goal

-- what holds of all elements holds of the one that is looked up
all_lookup : {X : Type 0} (P : X → Type 0) (xs : List X) (i : ℕ) (found : Option (Bor X)) → IsItemAt xs i found → All P xs → IfSome found (λ x. P x.now)
all_lookup P xs i None is all = tt
all_lookup P xs i (Some x) is all = subst P (sym is.1) (all i x.now is.3.0)

pub returns-in-Open-clause-outputs : goal.returns-in-Open-clause-outputs
returns-in-Open-clause-outputs c = λ outputs has.
    let P : Status → Type 0 = λ s. HasOutputs outputs s in
    let Q : List Work → Type 0 = λ l. All (λ work. outputs_in work ≡ outputs) l in
    all_lookup (λ work. outputs_in work ≡ outputs) c.deref.result.now c.args.piece c.get.result c.get.ensures.lookup
    (subst Q (sym c.deref.ensures.value) (subst P c.in-Open.is has))
