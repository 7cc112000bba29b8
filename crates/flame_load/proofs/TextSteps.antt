-- A text that is read by its tokens, and what a reader gives for it.
use Rattle.std.proofs.Common.{◌≡◌, ℕ, List, Result, Ok, Err, ap}
use Rattle.std.specs.Result.{IsErrAnd}
use Rattle.flame_rows.specs.declared.fails.Fail.{Fail}
use Rattle.flame_rows.specs.declared.fails.Fail.TheVariants.{Fault, NoMemory}
use Rattle.flame_spec.specs.declared.trees.Unit as file
use Rattle.flame_lex.specs.declared.token.Token.{Token}
use Rattle.flame_lex.specs.Lexing.{Lexes}
use Rattle.flame_load.specs.declared.faults.TextFault.{TextFault}
use Rattle.flame_load.specs.declared.faults.TextFault.TheVariants.{Lex, Parse}
use Rattle.flame_load.specs.FunctionFileReads.{spelled_in}
use Rattle.flame_load.specs.LoadLaws.{TextsAreReadOnce}
use Rattle.flame_load.specs.LoadRefusals.{of_files, text_refusal}
use Rattle.flame_load.specs.TextAnswers.{LexesAs, ParsesAs, ReadsAs}
use Rattle.flame_load.specs.TextReads.{Reader, ReadsTexts, IsReadAs}

-- a text is read as its tokens are
pub text_is_read :
    (bytes : List ℕ) (tokens : List Token) (result : Result file.Unit (Fail TextFault))
    → Lexes bytes tokens
    → ParsesAs tokens result
    → ReadsAs bytes result
text_is_read bytes tokens (Ok unit) lexes parses = (tokens, lexes, parses)
text_is_read bytes tokens (Err (Fault (Lex fault))) lexes parses = absurd parses
text_is_read bytes tokens (Err (Fault (Parse line fault))) lexes parses = (tokens, lexes, parses.0, parses.1)
text_is_read bytes tokens (Err NoMemory) lexes parses = tt

-- a text without tokens is read as its fault
pub text_is_not_lexed :
    (bytes : List ℕ) (fail : Fail TextFault) (result : Result file.Unit (Fail TextFault))
    → IsErrAnd result (λ passed. passed ≡ fail)
    → LexesAs bytes (Err fail)
    → ReadsAs bytes result
text_is_not_lexed bytes fail (Ok unit) passed lexes = absurd passed
text_is_not_lexed bytes fail (Err passed) same lexes = rw same (go fail lexes)
  where
    go : (fail : Fail TextFault) → LexesAs bytes (Err fail) → ReadsAs bytes (Err fail)
    go (Fault (Lex fault)) is = is
    go (Fault (Parse line fault)) is = absurd is
    go NoMemory is = tt

-- ---- what a reader gives

same_text :
    (once : TextsAreReadOnce) (read : Reader)
    → ReadsTexts read
    → (bytes : List ℕ) (found : Result file.Unit TextFault)
    → IsReadAs bytes found
    → read bytes ≡ found
same_text once read reads bytes found is = once bytes (read bytes) found (reads bytes) is

pub text_is_given :
    (once : TextsAreReadOnce) (read : Reader) (name bytes : List ℕ) (unit : file.Unit)
    → ReadsTexts read
    → IsReadAs bytes (Ok unit)
    → (spelled_in name (read bytes)).answer ≡ Ok unit
text_is_given once read name bytes unit reads is =
    ap (λ found. (spelled_in name found).answer) (same_text once read reads bytes (Ok unit) is)

pub text_is_refused :
    (once : TextsAreReadOnce) (read : Reader) (name bytes : List ℕ) (fault : TextFault)
    → ReadsTexts read
    → IsReadAs bytes (Err fault)
    → (spelled_in name (read bytes)).answer ≡ Err (of_files (text_refusal name fault))
text_is_refused once read name bytes fault reads is =
    ap (λ found. (spelled_in name found).answer) (same_text once read reads bytes (Err fault) is)
