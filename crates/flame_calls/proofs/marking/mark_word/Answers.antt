-- What is called is one of the helpers.
use Rattle.std.proofs.Common.{◌<◌, ℕ, Option, IfSome, length, sym, subst}
use Rattle.flame_lookup.specs.Sources.{context_at}
use Rattle.flame_calls.proofs.Callees.{deed_within}
use Rattle.flame_calls.proofs.marking.mark_word.Goals as goal

pub mark-requires : goal.mark-requires
mark-requires c =
    let context = context_at c.args.words.now in
    let Q : ℕ → Type 0 = λ n. IfSome c.deed_number.result (λ h. h < n) in
    let R : Option ℕ → Type 0 = λ k. IfSome k (λ h. h < length context.helpers) in
    subst Q (sym c.requires) (subst R (sym c.deed_number.ensures) (deed_within context c.args.word.now))
