-- Files that are set one after another: the last one, and names that none of them has.
use Rattle.std.proofs.Common.{◌≡◌, ◌≢◌, ℕ, zero, suc, cond, List, [], ◌∷◌, length, Some, refl, sym, ap, ◌∙◌, subst, arith}
use Rattle.std.specs.Prelude.{Contains, slice_get}
use Rattle.std.specs.Cmp.{eq_by_cmp_equiv}
use Rattle.std.specs.Cmp.Lexicographic.{nat_list_cmp_total}
use Rattle.std.specs.FinMap.{get, insert, get-insert}
use Rattle.flame_outside.specs.Files.{Files}
use Rattle.flame_outside.specs.WhatIsTold.{with_files}
use Rattle.flame_load.specs.LoadLaws.{Agree}
use Rattle.flame_outside.proofs.PutLemmas.{get-insert_other}

-- a file with its name
abbrev pub Named : Type 0
Named = List ℕ × List ℕ

get-insert_same : (files : Files) (name bytes : List ℕ) → get (insert files name bytes) name ≡ Some bytes
get-insert_same files name bytes =
    get-insert nat_list_cmp_total files name bytes name
    ∙ ap (λ same. cond same (Some bytes) (get files name)) ((eq_by_cmp_equiv nat_list_cmp_total).refl name)

-- names that none of the files has stay as they are
pub left_agree :
    (names : List (List ℕ)) (files : List Named) (told left : Files)
    → with_files files (Some told) ≡ Some left
    → ((file : Named) → Contains files file → ¬ Contains names file.0)
    → Agree told left names
left_agree names [] told left are apart name there =
    let same : told ≡ left = cc in
    ap (λ (files : Files). get files name) same
left_agree names (file ∷ files) told left are apart name there =
    let differs : name ≢ file.0 = λ same. apart file (0, omega arith, refl) (subst (Contains names) same there) in
    sym (get-insert_other told file.0 file.1 name differs)
    ∙ left_agree names files (insert told file.0 file.1) left are
    (λ other later. apart other (suc later.0, omega (arith, later.1), later.2)) name there

-- the last of them is there
pub last_is_left :
    (files : List Named) (told left : Files) (place : ℕ) (file : Named)
    → with_files files (Some told) ≡ Some left
    → slice_get files place ≡ Some file
    → length files ≡ suc place
    → get left file.0 ≡ Some file.1
last_is_left [] told left place file are found count = absurd (omega (arith, count))
last_is_left (one ∷ []) told left zero file are found count =
    let same : one ≡ file = cc in
    let all : insert told one.0 one.1 ≡ left = cc in
    subst (λ (f : Named). get left f.0 ≡ Some f.1) same
    (ap (λ (files : Files). get files one.0) (sym all) ∙ get-insert_same told one.0 one.1)
last_is_left (one ∷ []) told left (suc place) file are found count = absurd (omega (arith, count))
last_is_left (one ∷ next ∷ files) told left zero file are found count = absurd (omega (arith, count))
last_is_left (one ∷ next ∷ files) told left (suc place) file are found count =
    last_is_left (next ∷ files) (insert told one.0 one.1) left place file are found (omega (arith, count))
