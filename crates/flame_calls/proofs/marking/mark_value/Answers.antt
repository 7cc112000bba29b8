-- What is called is one of the helpers.
use Rattle.std.proofs.Common.{◌<◌, ℕ, Option, IfSome, length, sym, subst}
use Rattle.flame_lookup.specs.Sources.{context_at}
use Rattle.flame_calls.proofs.Callees.{called_within}
use Rattle.flame_calls.proofs.marking.mark_value.Goals as goal

pub mark-requires : goal.mark-requires
mark-requires c =
    let helpers = (context_at c.args.words.now).helpers in
    let Q : ℕ → Type 0 = λ n. IfSome c.value_number.result (λ h. h < n) in
    let R : Option ℕ → Type 0 = λ k. IfSome k (λ h. h < length helpers) in
    subst Q (sym c.requires) (subst R (sym c.value_number.ensures) (called_within helpers c.as_str.result.now))
