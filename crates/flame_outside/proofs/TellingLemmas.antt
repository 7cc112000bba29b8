-- What is told where a script stands, in its files and its text.
use Rattle.std.proofs.Common.{◌≡◌, ◌≢◌, ◌+◌, ◌≤◌, ◌⊎◌, ℕ, zero, suc, min, List, [], ◌∷◌, ◌++◌, length, take, drop, refl, sym, ap, ◌∙◌, subst, inl, inr, arith, append_assoc, append-nil}
use Rattle.std.proofs.Math.Seq.{take-append-add}
use Rattle.std.proofs.lemmas.List.{take-append-drop, take-append-le, take_min}
use Rattle.flame_outside.specs.Files.{told_at}
use Rattle.flame_outside.specs.Printed.{with_bytes, PrintsFront}
use Rattle.flame_outside.specs.Failures.{PutFailed}
use Rattle.flame_outside.specs.Scripts.{Act, puts, prints, puts_in, Outside, Told, told, after_act, after_acts, BreaksOff}
use Rattle.flame_outside.specs.WhatIsTold.{files_by, printed_by, with_files, WholeIsTold, FirstIsTold}
use Rattle.flame_outside.proofs.FrameLemmas.{with_bytes-none, with_bytes-both}

-- ---- files and texts of acts

after_acts-files : (acts : List Act) (was : Told) → (after_acts acts was).files ≡ with_files (files_by acts) was.files
after_acts-files [] was = refl
after_acts-files (puts name bytes ∷ acts) was = after_acts-files acts (after_act (puts name bytes) was)
after_acts-files (prints text ∷ acts) was = after_acts-files acts (after_act (prints text) was)

after_acts-written :
    (acts : List Act) (was : Told) → (after_acts acts was).written ≡ with_bytes (printed_by acts) was.written
after_acts-written [] was = sym (with_bytes-none was.written)
after_acts-written (puts name bytes ∷ acts) was = after_acts-written acts (after_act (puts name bytes) was)
after_acts-written (prints text ∷ acts) was =
    after_acts-written acts (after_act (prints text) was) ∙ with_bytes-both text (printed_by acts) was.written

files_by-take : (done : ℕ) (acts : List Act) → files_by (take done acts) ≡ take (puts_in (take done acts)) (files_by acts)
files_by-take zero acts = refl
files_by-take (suc done) [] = refl
files_by-take (suc done) (puts name bytes ∷ acts) = ap (λ files. (name, bytes) ∷ files) (files_by-take done acts)
files_by-take (suc done) (prints text ∷ acts) = files_by-take done acts

printed_by-append : (acts more : List Act) → printed_by (acts ++ more) ≡ printed_by acts ++ printed_by more
printed_by-append [] more = refl
printed_by-append (puts name bytes ∷ acts) more = printed_by-append acts more
printed_by-append (prints text ∷ acts) more =
    ap (λ rest. text ++ rest) (printed_by-append acts more)
    ∙ sym (append_assoc text (printed_by acts) (printed_by more))

-- ---- the whole

pub whole_is_told : WholeIsTold
whole_is_told = record {
  files = λ acts old new whole. ap (λ (t : Told). t.files) whole ∙ after_acts-files acts (told old);
  output = λ acts old new whole. ap (λ (t : Told). t.written) whole ∙ after_acts-written acts (told old);
}

-- ---- the first acts

module _ (acts : List Act) (done : ℕ) (old new : Outside) where
  stood_files :
      (after_acts (take done acts) (told old)).files
      ≡ with_files (take (puts_in (take done acts)) (files_by acts)) old.depot.files
  stood_files =
      after_acts-files (take done acts) (told old)
      ∙ ap (λ files. with_files files old.depot.files) (files_by-take done acts)

  all_printed : printed_by acts ≡ printed_by (take done acts) ++ printed_by (drop done acts)
  all_printed = ap printed_by (sym (take-append-drop done acts)) ∙ printed_by-append (take done acts) (drop done acts)

  files_by_break :
      (rest : List Act) (was : Told)
      → (told new ≡ was) ⊎ BreaksOff rest was old new
      → ¬ PutFailed old.depot new.depot
      → new.depot.files ≡ was.files
  files_by_break rest was (inl same) calm = ap (λ (t : Told). t.files) same
  files_by_break [] was (inr off) calm = absurd off
  files_by_break (puts name bytes ∷ rest) was (inr off) calm = absurd (calm off.failed)
  files_by_break (prints text ∷ rest) was (inr off) calm = off.files

  names_by_break :
      (rest : List Act) (was : Told) (name : List ℕ)
      → (told new ≡ was) ⊎ BreaksOff rest was old new
      → ((bytes : List ℕ) (more : List Act) → rest ≢ puts name bytes ∷ more)
      → told_at new.depot.files name ≡ told_at was.files name
  names_by_break rest was name (inl same) other = ap (λ (t : Told). told_at t.files name) same
  names_by_break [] was name (inr off) other = absurd off
  names_by_break (puts file bytes ∷ rest) was name (inr off) other =
      off.others name (λ same. other bytes rest (ap (λ (n : List ℕ). puts n bytes ∷ rest) (sym same)))
  names_by_break (prints text ∷ rest) was name (inr off) other = ap (λ files. told_at files name) off.files

  none_more : PrintsFront (printed_by (take done acts) ++ printed_by (drop done acts)) old.output new.output
      → PrintsFront (printed_by acts) old.output new.output
  none_more = subst (λ text. PrintsFront text old.output new.output) (sym all_printed)

  output_by_break :
      (rest : List Act)
      → (told new ≡ after_acts (take done acts) (told old)) ⊎ BreaksOff rest (after_acts (take done acts) (told old)) old new
      → PrintsFront (printed_by (take done acts) ++ printed_by rest) old.output new.output
  output_by_break rest (inl same) = whole (ap (λ (t : Told). t.written) same)
    where
      whole :
          new.output.written ≡ (after_acts (take done acts) (told old)).written
          → PrintsFront (printed_by (take done acts) ++ printed_by rest) old.output new.output
      whole is = record {
        count = length (printed_by (take done acts)) + 0;
        appended =
            is
            ∙ after_acts-written (take done acts) (told old)
            ∙ ap (λ text. with_bytes text old.output.written)
            (sym (take-append-add (printed_by (take done acts)) (printed_by rest) 0 ∙ append-nil (printed_by (take done acts))));
      }
  output_by_break [] (inr off) = absurd off
  output_by_break (puts name bytes ∷ rest) (inr off) = record {
    count = length (printed_by (take done acts)) + 0;
    appended =
        off.output
        ∙ after_acts-written (take done acts) (told old)
        ∙ ap (λ text. with_bytes text old.output.written)
        (sym (take-append-add (printed_by (take done acts)) (printed_by rest) 0 ∙ append-nil (printed_by (take done acts))));
  }
  output_by_break (prints text ∷ rest) (inr off) =
      let short : min off.count (length text) ≤ length text = omega arith in
      record {
        count = length (printed_by (take done acts)) + min off.count (length text);
        appended =
            off.output
            ∙ ap (with_bytes (take off.count text)) (after_acts-written (take done acts) (told old))
            ∙ with_bytes-both (printed_by (take done acts)) (take off.count text) old.output.written
            ∙ ap (λ bytes. with_bytes (printed_by (take done acts) ++ bytes) old.output.written)
            (sym (take-append-le (min off.count (length text)) text (printed_by rest) short ∙ take_min off.count text))
            ∙ ap (λ bytes. with_bytes bytes old.output.written)
            (sym (take-append-add (printed_by (take done acts)) (text ++ printed_by rest) (min off.count (length text))));
      }

pub first_is_told : FirstIsTold
first_is_told = record {
  files = λ acts done old new s calm.
      files_by_break acts done old new (drop done acts) (after_acts (take done acts) (told old)) s.stands calm
      ∙ stood_files acts done old new;
  other_names = λ acts done old new name s other.
      names_by_break acts done old new (drop done acts) (after_acts (take done acts) (told old)) name s.stands other
      ∙ ap (λ files. told_at files name) (stood_files acts done old new);
  output = λ acts done old new s.
      none_more acts done old new (output_by_break acts done old new (drop done acts) s.stands);
}
