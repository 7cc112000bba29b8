-- The bytes of files that are set one after another under names that differ.
use Rattle.std.proofs.Common.{◌≡◌, ◌≢◌, ℕ, suc, ◌+◌, true, false, cond, List, [], ◌∷◌, length, Some, None, refl, sym, ap, ◌∙◌, arith, zero-add}
use Rattle.std.specs.Prelude.{sum_by, slice_get}
use Rattle.std.specs.declared.cmp.Ordering.TheVariants.{Less, Equal, Greater}
use Rattle.std.specs.Ordering.{nat_cmp, is_eq, eq_by_cmp}
use Rattle.std.specs.Cmp.{Equal-is}
use Rattle.std.specs.Cmp.Lexicographic.{slice_cmp, nat_list_cmp_total}
use Rattle.std.specs.FinMap.{get, insert, empty, entries, find, put, get-entries, entries-insert, get-insert, get-empty, len-empty, len-entries, slice_cmp-IsAntisymmetric, nat_cmp-IsAntisymmetric}
use Rattle.std.specs.FinMap.Entries.{by_order}
use Rattle.std.proofs.lemmas.List.{nil_from_length}
use Rattle.std.proofs.lemmas.List.Sums.{sum_by-cons}
use Rattle.std.proofs.lemmas.Option.{none-some, same_Some}
use Rattle.flame_outside.specs.Files.{Files}
use Rattle.flame_outside.specs.Memory.{total_of}
use Rattle.flame_outside.specs.WhatIsTold.{with_files}
use Rattle.flame_top.specs.OrderReports.{bytes_of}

-- a file with its name
abbrev pub Named : Type 0
Named = List ℕ × List ℕ

abbrev size : Named → ℕ
size file = length file.1

-- ---- one file more

one_more : (bytes rest sum file : ℕ) → rest ≡ sum + bytes → file + rest ≡ (file + sum) + bytes
one_more bytes rest sum file is = omega (arith, is)

sum_by-put :
    (name bytes : List ℕ) (files : List Named)
    → find (slice_cmp nat_cmp) name files ≡ None
    → sum_by size (put (slice_cmp nat_cmp) name bytes files) ≡ sum_by size files + length bytes
sum_by-put name bytes [] none = refl
sum_by-put name bytes (file ∷ files) none =
    elim (slice_cmp nat_cmp name file.0) as
    (λ order. cond (is_eq order) (Some file.1) (find (slice_cmp nat_cmp) name files) ≡ None
    → sum_by size
    (by_order order ((name, bytes) ∷ file ∷ files) ((file.0, bytes) ∷ files)
    (file ∷ put (slice_cmp nat_cmp) name bytes files))
    ≡ sum_by size (file ∷ files) + length bytes) [
      | Less ↦ λ h. sum_by-cons size (name, bytes) (file ∷ files) ∙ omega arith
      | Equal ↦ λ h. absurd (none-some file.1 (sym h))
      | Greater ↦ λ h.
          sum_by-cons size file (put (slice_cmp nat_cmp) name bytes files)
          ∙ one_more (length bytes) _ (sum_by size files) (size file) (sum_by-put name bytes files h)
          ∙ ap (λ sum. sum + length bytes) (sym (sum_by-cons size file files))
    ] none

total_of-insert :
    (files : Files) (name bytes : List ℕ)
    → get files name ≡ None
    → total_of (insert files name bytes) ≡ total_of files + length bytes
total_of-insert files name bytes none =
    ap (sum_by size) (entries-insert nat_list_cmp_total files name bytes)
    ∙ sum_by-put name bytes (entries files) (sym (get-entries files name) ∙ none)

total_of-empty : total_of empty ≡ 0
total_of-empty =
    ap (sum_by size)
    (nil_from_length (entries empty)
    (sym (len-entries {R = slice_cmp nat_cmp} empty) ∙ len-empty (slice_cmp nat_cmp) (List ℕ)))

-- ---- many files

-- no file has the name of one before it, or of one of these files
abbrev AreNew : List Named → Files → Type 0
AreNew [] files = Unit {0}
AreNew (file ∷ more) files = (get files file.0 ≡ None) × AreNew more (insert files file.0 file.1)

later : (first more sum rest : ℕ) → sum ≡ first + more → sum + rest ≡ first + (more + rest)
later first more sum rest is = omega (arith, is)

total_of-more :
    (more : List Named) (files after : Files)
    → AreNew more files
    → with_files more (Some files) ≡ Some after
    → total_of after ≡ total_of files + bytes_of more
total_of-more [] files after new is =
    ap total_of (sym (same_Some files after is)) ∙ omega arith
total_of-more (file ∷ more) files after new is =
    total_of-more more (insert files file.0 file.1) after new.1 is
    ∙ later (total_of files) (size file) _ (bytes_of more) (total_of-insert files file.0 file.1 new.0)
    ∙ ap (λ bytes. total_of files + bytes) (sym (sum_by-cons size file more))

-- ---- names that differ

-- no two of these files have one name
pub record NamesStandOnce (files : List Named) : Type 0 where
  pub once :
      (place other : ℕ) (first second : Named)
      → slice_get files place ≡ Some first
      → slice_get files other ≡ Some second
      → first.0 ≡ second.0
      → place ≡ other

none_after_insert :
    (files : Files) (name bytes other : List ℕ)
    → other ≢ name
    → get files other ≡ None
    → get (insert files name bytes) other ≡ None
none_after_insert files name bytes other differs none =
    get-insert nat_list_cmp_total files name bytes other
    ∙ elim (eq_by_cmp (slice_cmp nat_cmp) other name) as
    (λ same. eq_by_cmp (slice_cmp nat_cmp) other name ≡ same → cond same (Some bytes) (get files other) ≡ None) [
      | true ↦ λ e. let tied = (Equal-is (slice_cmp nat_cmp other name)).0 e in
          absurd (differs (slice_cmp-IsAntisymmetric nat_cmp-IsAntisymmetric other name tied))
      | false ↦ λ e. none
    ] refl

are_new :
    (more : List Named) (files : Files)
    → ((place : ℕ) (file : Named) → slice_get more place ≡ Some file → get files file.0 ≡ None)
    → NamesStandOnce more
    → AreNew more files
are_new [] files unused names = tt
are_new (file ∷ more) files unused names = (
  unused 0 file refl,
  are_new more (insert files file.0 file.1)
      (λ place other is.
      none_after_insert files file.0 file.1 other.0
      (λ same. absurd (zero_not_suc place (names.once 0 (suc place) file other refl is (sym same))))
      (unused (suc place) other is))
      (record {
        once = λ place other first second there here same.
            below place other (names.once (suc place) (suc other) first second there here same);
      }),
)
  where
    zero_not_suc : (n : ℕ) → 0 ≡ suc n → ⊥
    zero_not_suc n is = omega (arith, is)

    below : (n m : ℕ) → suc n ≡ suc m → n ≡ m
    below n m is = omega (arith, is)

-- the bytes of a depot in which these files alone were set
pub total_of-files :
    (files : List Named) (after : Files)
    → NamesStandOnce files
    → with_files files (Some empty) ≡ Some after
    → total_of after ≡ bytes_of files
total_of-files files after names is =
    total_of-more files empty after
    (are_new files empty (λ place file there. get-empty (slice_cmp nat_cmp) file.0) names) is
    ∙ ap (λ sum. sum + bytes_of files) total_of-empty
    ∙ zero-add (bytes_of files)
