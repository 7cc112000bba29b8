-- Blanks and comments of one line, one more at a time.
use Rattle.std.proofs.Common.{◌≡◌, ℕ, zero, suc, ◌<◌, ◌≤◌, true, false, List, [], ◌∷◌, drop, length, refl, sym}
use Rattle.std.proofs.Common.{ap, ◌∙◌, arith, subst, Option, Some, None}
use Rattle.std.specs.Prelude.{codes}
use Rattle.std.specs.Option.{option_map_or}
use Rattle.flame_lex.specs.ByteRuns.{begins}
use Rattle.flame_lex.specs.DefineLines.{after_close, is_idle_in, is_idle}
use Rattle.flame_lex.proofs.Gaps.{close_within}
use Rattle.flame_lex.proofs.Prefixes.{begins_parts}

alike_by : (o : Option (List ℕ)) (n m : ℕ) → ((rest : List ℕ) → o ≡ Some rest → is_idle_in n rest ≡ is_idle_in m rest)
    → option_map_or (is_idle_in n) o false ≡ option_map_or (is_idle_in m) o false
alike_by None n m same = refl
alike_by (Some rest) n m same = same rest refl

-- what is counted to does not matter where it is at least the number of bytes
pub alike : (n m : ℕ) (bytes : List ℕ) → length bytes ≤ n → length bytes ≤ m → is_idle_in n bytes ≡ is_idle_in m bytes
alike n m [] h k = refl
alike zero m (b ∷ bytes) h k = absurd (omega arith)
alike (suc n) zero (b ∷ bytes) h k = absurd (omega arith)
alike (suc n) (suc m) (b ∷ bytes) h k =
    let one = alike n m bytes (omega arith) (omega arith) in
    let many = alike_by (after_close (drop 1 bytes)) n m (λ rest e. alike n m rest
    (omega (arith, close_within bytes rest 1 e)) (omega (arith, close_within bytes rest 1 e))) in
    rw (one, many) refl

closed : (more rest : List ℕ) → after_close more ≡ Some rest
    → (is_idle rest ≡ is_idle (47 ∷ 42 ∷ more)) × (length rest < length (47 ∷ 42 ∷ more))
closed more rest close =
    let size = close_within more rest 0 close in
    let count = suc (length more) in (
      alike (length rest) count rest (omega arith) (omega (arith, size))
          ∙ ap (λ o. option_map_or (is_idle_in count) o false) (sym close),
      omega (arith, size),
    )

-- a closed comment at the front says nothing more
pub idle_comment : (bytes rest : List ℕ) → begins bytes (codes "/*") ≡ true → after_close (drop 2 bytes) ≡ Some rest
    → (is_idle rest ≡ is_idle bytes) × (length rest < length bytes)
idle_comment bytes rest h close =
    subst (λ l. (is_idle rest ≡ is_idle l) × (length rest < length l)) (sym (begins_parts bytes (codes "/*") h))
    (closed (drop 2 bytes) rest close)
