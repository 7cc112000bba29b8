-- What tables say of what a place sees.
use Rattle.std.proofs.Common.{◌≡◌, ℕ, zero, suc, ◌+◌, ◌-◌, ◌<◌, ◌≤◌, Bor, List, [], ◌∷◌, ◌++◌, length, take, drop, Option, Some, None, Bool, true, false, cond, refl, sym, ap, ◌∙◌, arith, length-drop}
use Rattle.std.specs.Prelude.{is_some, nat_le, reverse, map, ◌||◌}
use Rattle.std.specs.List.{list_any}
use Rattle.std.specs.Str.{bytes_eq}
use Rattle.std.proofs.lemmas.List.{take-append-drop, reverse-append, map-append}
use Rattle.std.proofs.lemmas.List.Folds.{list_any-append}
use Rattle.flame_spec.specs.KnownNames.{is_among}
use Rattle.flame_spec.specs.Scopes.{Loop, laid, names_seen, is_local}
use Rattle.flame_body.specs.WordSlots.{local_number}
use Rattle.std.proofs.lemmas.Bool.Decides.{nat_tests}
use Rattle.flame_rows.proofs.Bytes.{bytes_eq-sym}
use Rattle.flame_spec.proofs.NamesLaid.{is_among-laid}
use Rattle.flame_body.proofs.NamesSeen.{among-number, number-below}
use Rattle.flame_numbering.specs.SightTables.{cut, total, sight_of, loop_of}

-- names cut into scopes are those names
pub laid-cut : (ns : List ℕ) (names : List (List ℕ)) → total ns ≡ length names → laid (cut ns names) ≡ names
laid-cut [] [] h = refl
laid-cut [] (name ∷ names) h = absurd (omega arith)
laid-cut (n ∷ ns) names h =
    ap (λ l. take n names ++ l) (laid-cut ns (drop n names) (omega (arith, length-drop n names)))
    ∙ take-append-drop n names

-- the name stands among the first so many, by its number
abbrev pub stands_in : ℕ → ℕ → Option ℕ → Bool
stands_in all here None = false
stands_in all here (Some number) = nat_le (all - here) number

none_there :
    (word : List ℕ) (names : List (List ℕ)) (found : Option ℕ)
    → local_number names word ≡ found
    → false ≡ stands_in (length names) 0 found
none_there word names None h = refl
none_there word names (Some number) h =
    let below : number < length names = number-below word names number h in grind (arith, nat_tests)

one_more : (all here : ℕ) (found : Option ℕ) → stands_in all here found ≡ stands_in (suc all) (suc here) found
one_more all here None = refl
one_more all here (Some number) = ap (λ k. nat_le k number) (omega arith)

pub among-taken :
    (word : List ℕ) (names : List (List ℕ)) (here : ℕ)
    → here ≤ length names
    → is_among word (take here names) ≡ stands_in (length names) here (local_number names word)
among-taken word names zero h = none_there word names (local_number names word) refl
among-taken word [] (suc here) h = absurd (omega arith)
among-taken word (name ∷ names) (suc here) h =
    ap (λ b. b || is_among word (take here names)) (bytes_eq-sym word name)
    ∙ by_test (bytes_eq name word) (among-taken word names here (omega arith))
  where
    by_test :
        (b : Bool)
        → is_among word (take here names) ≡ stands_in (length names) here (local_number names word)
        → (b || is_among word (take here names))
        ≡ stands_in (suc (length names)) (suc here) (cond b (Some (length names)) (local_number names word))
    by_test true more = grind (arith, nat_tests)
    by_test false more = more ∙ one_more (length names) here (local_number names word)

-- the names that are seen are all that the tables have
pub names-all :
    (names : List (List ℕ)) (here : ℕ) (outer : List ℕ) (own : Option (Bor (List ℕ))) (loops : List (Option (Bor (List ℕ))))
    → here + total (reverse outer) ≡ length names
    → names_seen (sight_of names here outer own loops) ≡ names
names-all names here outer own loops h = laid-cut (here ∷ reverse outer) names h

-- the locals that are seen are those that have numbers
pub local-number :
    (names : List (List ℕ)) (here : ℕ) (outer : List ℕ) (own : Option (Bor (List ℕ))) (loops : List (Option (Bor (List ℕ))))
    (word : List ℕ)
    → here + total (reverse outer) ≡ length names
    → is_local (sight_of names here outer own loops) word ≡ is_some (local_number names word)
local-number names here outer own loops word h =
    is_among-laid word (cut (here ∷ reverse outer) names)
    ∙ ap (is_among word) (laid-cut (here ∷ reverse outer) names h)
    ∙ among-number word names

either : (a b : Bool) → (a || (b || false)) ≡ (b || a)
either true true = refl
either true false = refl
either false true = refl
either false false = refl

-- a loop over the message is open where one of the kept loops is over it
pub any-open :
    (test : Loop → Bool) (loops : List (Option (Bor (List ℕ))))
    → list_any (λ over. test (loop_of over)) loops ≡ list_any test (map loop_of (reverse loops))
any-open test [] = refl
any-open test (over ∷ loops) =
    sym (ap (λ l. list_any test (map loop_of l)) (reverse-append (over ∷ []) loops)
    ∙ ap (list_any test) (map-append loop_of (reverse loops) (over ∷ []))
    ∙ list_any-append test (map loop_of (reverse loops)) (loop_of over ∷ [])
    ∙ ap (λ b. b || (test (loop_of over) || false)) (sym (any-open test loops))
    ∙ either (list_any (λ other. test (loop_of other)) loops) (test (loop_of over)))
