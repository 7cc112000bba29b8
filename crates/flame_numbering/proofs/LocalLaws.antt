-- How tables of locals change when a local is declared and when it ends.
use Rattle.std.proofs.Common.{◌≡◌, ℕ, List, [], ◌∷◌, ◌++◌, length, Option, Some, Bool, true, false, cond, refl, sym, ap, ◌∙◌, subst, Bor}
use Rattle.std.specs.Prelude.{reverse}
use Rattle.std.specs.HashMap as hash
use Rattle.std.specs.HashMap.{HashMap}
use Rattle.std.specs.Str.{bytes_eq}
use Rattle.std.proofs.lemmas.List.{reverse-append}
use Rattle.std.proofs.lemmas.Map.Text.{hash_map_updates_str}
use Rattle.std.proofs.lemmas.Slice.Eq.{bytes_eq-Decides}
use Rattle.flame_rows.proofs.Bytes.{bytes_eq-self}
use Rattle.flame_numbering.specs.declared.locals.Mark.{Mark}
use Rattle.flame_body.specs.WordSlots.{local_number}
use Rattle.flame_numbering.specs.LocalTables.{names_of, names_kept, HidesRight, Finds}

pub kept_push : (marks : List Mark) (mark : Mark) → names_kept (marks ++ mark ∷ []) ≡ mark.name.now ∷ names_kept marks
kept_push marks mark = ap names_of (reverse-append marks (mark ∷ []))

pub hides_push :
    (marks : List Mark) (mark : Mark)
    → mark.hides ≡ local_number (names_kept marks) mark.name.now
    → HidesRight (reverse marks)
    → HidesRight (reverse (marks ++ mark ∷ []))
hides_push marks mark there before = subst HidesRight (sym (reverse-append marks (mark ∷ []))) (there, before)

-- the newest local, and those before it
pub hides_pop :
    (marks : List Mark) (mark : Mark)
    → HidesRight (reverse (marks ++ mark ∷ []))
    → (mark.hides ≡ local_number (names_kept marks) mark.name.now) × HidesRight (reverse marks)
hides_pop marks mark all = subst HidesRight (reverse-append marks (mark ∷ [])) all

-- the table has one change, at this name
abbrev pub Changes : {S : Type 0} → List ℕ → HashMap (Bor (List ℕ)) ℕ S → HashMap (Bor (List ℕ)) ℕ S → Option ℕ → Type 0
Changes name m n w = hash.UpdatesBy (λ x y. bytes_eq x.now y.now) (λ k. bytes_eq name k.now) m n w

pub finds_push :
    {S : Type 0} (m n : HashMap (Bor (List ℕ)) ℕ S) (name : List ℕ) (older : List (List ℕ)) (number : ℕ)
    → number ≡ length older
    → Changes name m n (Some number)
    → Finds m older
    → Finds n (name ∷ older)
finds_push m n name older number is changes before = λ word.
    hash_map_updates_str name m n (Some number) changes word
    ∙ ap (λ o. cond (bytes_eq name word) (Some number) o) (before word)
    ∙ ap (λ k. cond (bytes_eq name word) (Some k) (local_number older word)) is

by_name :
    (name word : List ℕ) (older : List (List ℕ)) (b : Bool)
    → bytes_eq name word ≡ b
    → cond b (local_number older name) (cond b (Some (length older)) (local_number older word)) ≡ local_number older word
by_name name word older true same = ap (local_number older) ((bytes_eq-Decides name word).0 same)
by_name name word older false other = refl

pub finds_pop :
    {S : Type 0} (m n : HashMap (Bor (List ℕ)) ℕ S) (name : List ℕ) (older : List (List ℕ)) (hides : Option ℕ)
    → hides ≡ local_number older name
    → Changes name m n hides
    → Finds m (name ∷ older)
    → Finds n older
finds_pop m n name older hides is changes before = λ word.
    hash_map_updates_str name m n hides changes word
    ∙ ap (λ h. cond (bytes_eq name word) h (hash.get_by (λ key. bytes_eq word key.now) m)) is
    ∙ ap (λ o. cond (bytes_eq name word) (local_number older name) o) (before word)
    ∙ by_name name word older (bytes_eq name word) refl

-- the table has the newest name
pub newest_there :
    {S : Type 0} (m : HashMap (Bor (List ℕ)) ℕ S) (name : List ℕ) (older : List (List ℕ))
    → Finds m (name ∷ older)
    → hash.get_by (λ key. bytes_eq name key.now) m ≡ Some (length older)
newest_there m name older finds =
    finds name ∙ ap (λ b. cond b (Some (length older)) (local_number older name)) (bytes_eq-self name)
