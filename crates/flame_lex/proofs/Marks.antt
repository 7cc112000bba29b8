-- Operators at the front of some bytes.
use Rattle.std.proofs.Common.{◌≡◌, ℕ, ◌<◌, false, List, take, drop, length, refl, sym, ap, ◌∙◌, arith, subst}
use Rattle.std.proofs.lemmas.List.{take-append-drop, length-append, take_at}
use Rattle.flame_ops.specs.Spellings.{IsLongest, spelling}
use Rattle.flame_ops.specs.Words.{operator_spellings}
use Rattle.flame_lex.specs.declared.token.Kind.TheVariants.{Mark}
use Rattle.flame_lex.specs.LexPieces.{begins_comment}
use Rattle.flame_lex.specs.LexSteps.{IsToken}
use Rattle.flame_lex.proofs.Prefixes.{begins_parts}

pub mark_token : (bytes : List ℕ) (number : ℕ) → begins_comment bytes ≡ false
    → IsLongest operator_spellings bytes number → 0 < length (spelling operator_spellings number)
    → IsToken (Mark number) bytes (length (spelling operator_spellings number))
mark_token bytes number h longest filled =
    let text = spelling operator_spellings number in
    let parts = begins_parts bytes text longest.stands.begins in
    let size = ap length parts in
    let whole = sym (take-append-drop (length text) bytes) in
    let front : text ≡ take (length text) bytes =
    sym (ap (take (length text)) parts ∙ take_at text (drop (length text) bytes) (length text) refl) in
    record {
      more = filled;
      within = omega (arith, length-append text (drop (length text) bytes));
      lexeme = record {
        no_comment = subst (λ l. begins_comment l ≡ false) whole h;
        longest = subst (λ l. IsLongest operator_spellings l number) whole longest;
        spelled = sym front;
      };
    }
