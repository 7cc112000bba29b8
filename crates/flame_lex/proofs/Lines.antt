-- Lines, and the two directives.
use Rattle.std.proofs.Common.{◌≡◌, ℕ, Bool, List, ◌++◌, take, drop, sym, ap, ◌∙◌, arith, get_or, Some}
use Rattle.std.specs.Prelude.{slice_get, take_while}
use Rattle.std.specs.List.{prefix_len}
use Rattle.std.specs.Option.{option_map_or}
use Rattle.std.proofs.lemmas.List.{take-append-drop}
use Rattle.flame_ops.specs.Words.{directive_spellings}
use Rattle.flame_lex.specs.ByteRuns.{IsRun}
use Rattle.flame_lex.specs.LexPieces.{include, define}
use Rattle.flame_lex.proofs.Runs.{run_at}
use Rattle.flame_lex.proofs.WordKinds.{one_run}

-- a run at the front is what is taken while the bytes pass
pub line_is : (p : ℕ → Bool) (text rest : List ℕ) → IsRun p text rest → take_while p (text ++ rest) ≡ text
line_is p text rest run =
    let bytes = text ++ rest in
    sym (one_run p text rest (take (prefix_len p bytes) bytes) (drop (prefix_len p bytes) bytes) run (run_at p bytes)
    (sym (take-append-drop (prefix_len p bytes) bytes)))

-- no word is both directives
pub one_directive : (word : List ℕ) → slice_get directive_spellings include ≡ Some word
    → ¬ (slice_get directive_spellings define ≡ Some word)
one_directive word a b =
    let e : 105 ≡ 100 = ap (λ o. option_map_or (λ l. get_or l 0 0) o 0) (a ∙ sym b) in
    omega (arith, e)
