-- What `strip_prefix` leaves of a text.
use Rattle.std.proofs.Common.{◌≡◌, ℕ, List, Option, Some, None, true, false, Bor, refl, sym}
use Rattle.std.proofs.Common.{subst, nat_eq}
use Rattle.std.specs.Prelude.{option_map, MatchOption}
use Rattle.std.specs.List.{starts_with}
use Rattle.std.specs.Str.{IsCharBoundary}
use Rattle.std.specs.Str.Pattern.{FindsTextPrefix, StripsPrefix}
use Rattle.std.proofs.lemmas.Str.Pattern.{starts_text}
use Rattle.flame_xmml.specs.Wants.{after_prefix}

pub stripped :
    (prefix text : List ℕ) (r : Option (Bor (List ℕ)))
    → MatchOption r (FindsTextPrefix prefix text None) (λ x. StripsPrefix (FindsTextPrefix prefix) text x.now)
    → option_map (λ x. x.now) r ≡ after_prefix prefix text
stripped prefix text None lacks =
    let other : false ≡ starts_with nat_eq text prefix = starts_text false prefix text lacks in rw (← other) refl
stripped prefix text (Some x) (k, (same, split, boundary), e, len) =
    let at_k : IsCharBoundary text k = let P : ℕ → Type 0 = λ n. IsCharBoundary text n in subst P (sym same) boundary in
    let begins : true ≡ starts_with nat_eq text prefix =
    starts_text true prefix text (k, (same, split, boundary), at_k) in
    rw (← begins, e, same) refl
