-- A fault that stops the reading is the first of all.
use Rattle.std.proofs.Common.{◌≡◌, ℕ, ◌+◌, ◌<◌, List, [], ◌∷◌, ◌++◌, length, map, drop, get_or, Some, Err}
use Rattle.std.proofs.Common.{String, string_bytes}
use Rattle.std.proofs.Common.{sym, ◌∙◌, ap, suc, add-one}
use Rattle.std.specs.declared.alloc.Global.{Global}
use Rattle.std.specs.List.{slice_get}
use Rattle.std.proofs.Math.Seq.{drop-cons}
use Rattle.flame_words.specs.declared.orders.Order.{Order}
use Rattle.flame_words.specs.declared.table.Command.{Command}
use Rattle.flame_words.specs.declared.faults.Usage.{Usage}
use Rattle.flame_rows.specs.declared.fails.Fail.{Fail}
use Rattle.flame_rows.specs.declared.fails.Fail.TheVariants.{Fault, NoMemory}
use Rattle.flame_words.specs.WordRoles.{roles}
use Rattle.flame_words.specs.UsageFaults.{faults_behind, line_behind, missing}
use Rattle.flame_words.specs.CommandLines.{first_or, answer_of, line_order, IsRefused}
use Rattle.flame_words.specs.WordSteps.{Seen, fault_at, FailsBy}
use Rattle.flame_words.proofs.Progress.{Follows}
use Rattle.flame_words.proofs.FoundFaults.{fault_found}

first_refused :
    (faults more : List Usage) (order : Order) (usage : Usage)
    → slice_get faults 0 ≡ Some usage
    → first_or (faults ++ more) order ≡ Err usage
first_refused [] more order usage first = cc
first_refused (fault ∷ faults) more order usage first = let same : fault ≡ usage = cc in ap Err same

-- the failure of the next word is that of the whole line
pub refused :
    (command : Command) (all : List (List ℕ)) (seen : Seen) (number : ℕ) (word : List ℕ) (rest : List (List ℕ))
    (fail : Fail Usage)
    → seen.command ≡ command
    → Follows all seen number (word ∷ rest)
    → FailsBy (fault_at seen.pending seen (number + 1) word) fail
    → IsRefused (answer_of (line_behind command all)) fail
refused command all seen number word rest NoMemory is f fails = tt
refused command all seen number word rest (Fault usage) is f fails =
    let first : slice_get (faults_behind command [] (roles all)) 0 ≡ Some usage =
    ap (λ c. slice_get (faults_behind c [] (roles all)) 0) (sym is)
    ∙ fault_found all seen number word rest usage f fails in
    first_refused (faults_behind command [] (roles all)) (missing command (roles all))
    (line_order (line_behind command all)) usage first

-- the words from a place on begin with the word there
pub words_from :
    (words : List (String Global)) (at : ℕ) (word : String Global)
    → at < length words
    → word ≡ get_or words at word
    → map string_bytes (drop at words) ≡ string_bytes word ∷ map string_bytes (drop (at + 1) words)
words_from words at word within here =
    let cut : drop at words ≡ word ∷ drop (at + 1) words =
    rw add-one (drop-cons words at word within ∙ ap (λ w. w ∷ drop (suc at) words) (sym here)) in
    ap (map string_bytes) cut
