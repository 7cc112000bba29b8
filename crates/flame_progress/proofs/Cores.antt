-- Parts of a core, as they are kept.
use Rattle.std.proofs.Common.{◌≡◌, ℕ, zero, suc, ◌<◌, List, [], ◌∷◌, length, map, get_or, sym, ap, ◌∙◌, subst, arith}
use Rattle.std.specs.Prelude.{slice_set, slice_index_or}
use Rattle.std.proofs.lemmas.List.{map-set}
use Rattle.flame_rows.proofs.Lists.{slice_index_or-map}
use Rattle.flame_events.specs.CoreStates.{Status, Waiting}
use Rattle.flame_pieces.specs.declared.statuses.Status as kept
use Rattle.flame_pieces.specs.declared.statuses.Status.TheVariants as is
use Rattle.flame_pieces.specs.KeptStatuses.{status_of as kept_status, HasOutputs}

-- an element that is there, whatever else would be
pub at_default : {X : Type 0} (xs : List X) (k : ℕ) (x d : X) → k < length xs → x ≡ get_or xs k x → x ≡ get_or xs k d
at_default [] k x d less at = absurd (omega (arith, less))
at_default (y ∷ xs) zero x d less at = at
at_default (y ∷ xs) (suc k) x d less at = at_default xs k x d (omega (arith, less)) at

-- ---- statuses

-- the status of the function at hand
pub status_at : (statuses : List kept.Status) (f : ℕ) (old : kept.Status) → f < length statuses → old ≡ get_or statuses f old
    → kept_status old ≡ slice_index_or (map kept_status statuses) f Waiting
status_at statuses f old less at = sym (slice_index_or-map kept_status Waiting statuses f old less at)

-- one is written
pub statuses_put : (statuses : List kept.Status) (f : ℕ) (new : kept.Status) (v : Status) → kept_status new ≡ v
    → map kept_status (slice_set statuses f new) ≡ slice_set (map kept_status statuses) f v
statuses_put statuses f new v is = map-set kept_status statuses f new ∙ ap (slice_set (map kept_status statuses) f) is

-- outputs that the written one has too
pub outputs_put : (statuses : List kept.Status) (f : ℕ) (old new : kept.Status) → f < length statuses → old ≡ get_or statuses f old
    → ((outputs : List ℕ) → HasOutputs outputs old → HasOutputs outputs new)
    → (g : ℕ) (outputs : List ℕ) → HasOutputs outputs (slice_index_or statuses g is.Waiting) → HasOutputs outputs (slice_index_or (slice_set statuses f new) g is.Waiting)
outputs_put [] f old new less at keeps g outputs has = absurd (omega (arith, less))
outputs_put (first ∷ statuses) zero old new less at keeps zero outputs has = keeps outputs (subst (HasOutputs outputs) (sym at) has)
outputs_put (first ∷ statuses) zero old new less at keeps (suc g) outputs has = has
outputs_put (first ∷ statuses) (suc f) old new less at keeps zero outputs has = has
outputs_put (first ∷ statuses) (suc f) old new less at keeps (suc g) outputs has =
    outputs_put statuses f old new (omega (arith, less)) at keeps g outputs has

-- the outputs of the one at hand
pub outputs_at : (statuses : List kept.Status) (f : ℕ) (old : kept.Status) (outputs : List ℕ) → f < length statuses → old ≡ get_or statuses f old
    → HasOutputs outputs (slice_index_or statuses f is.Waiting) → HasOutputs outputs old
outputs_at statuses f old outputs less at has = subst (HasOutputs outputs) (sym (at_default statuses f old is.Waiting less at)) has
