-- Words that open or close a loop over messages, taken apart.
use Rattle.std.proofs.Common.{◌≡◌, ℕ, ◌-◌, true, false, List, ◌++◌, take, drop, length, refl, ap, ◌∙◌}
use Rattle.std.specs.Prelude.{codes, bytes_eq}
use Rattle.std.proofs.lemmas.Bool.{both_ways}
use Rattle.std.proofs.lemmas.List.{take-append-drop, take_at}
use Rattle.std.proofs.lemmas.Slice.Eq.{bytes_eq-Decides}
use Rattle.flame_lex.specs.SourceWords.{IsLoopWord}

pub not_opened : (opening word name : List ℕ) → bytes_eq (take (length opening) word) opening ≡ false
    → ¬ IsLoopWord opening name word
not_opened opening word name h w =
    both_ways _ h ((bytes_eq-Decides _ _).1 (ap (take (length opening)) w.parts
    ∙ take_at opening (name ++ codes "_MESSAGE_LOOP") (length opening) refl))

pub loop_word : (opening word behind name : List ℕ) → bytes_eq (take (length opening) word) opening ≡ true
    → behind ≡ drop (length opening) word → bytes_eq (drop (length behind - 13) behind) (codes "_MESSAGE_LOOP") ≡ true
    → name ≡ take (length behind - 13) behind → word ≡ opening ++ (name ++ codes "_MESSAGE_LOOP")
loop_word opening word behind name o e h n =
    let front = (bytes_eq-Decides (take (length opening) word) opening).0 o in
    let back = (bytes_eq-Decides (drop (length behind - 13) behind) (codes "_MESSAGE_LOOP")).0 h in
    let split = take-append-drop (length opening) word in
    let parted = take-append-drop (length behind - 13) behind in
    let inner : behind ≡ name ++ codes "_MESSAGE_LOOP" = cc in
    cc
