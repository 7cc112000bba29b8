-- What was printed, stage by stage.
use Rattle.std.proofs.Common.{◌≡◌, ◌⊎◌, ℕ, zero, suc, List, [], ◌∷◌, ◌++◌, length, take, drop, Option, sym, ap, ◌∙◌}
use Rattle.std.proofs.Common.{subst, inl, inr, append_assoc, append-nil, le_refl}
use Rattle.std.proofs.lemmas.List.{take_all}
use Rattle.flame_outside.specs.Printed.{with_bytes}
use Rattle.flame_outside.specs.Scripts.{Act, puts, prints, puts_in, Outside, Told, told, after_act, after_acts}
use Rattle.flame_outside.specs.Scripts.{BreaksOff}
use Rattle.flame_outside.proofs.FrameLemmas.{with_bytes-none, with_bytes-both}
use Rattle.flame_driver.specs.Runs.{Stage}
use Rattle.flame_driver.specs.RunScripts.{Writing, file_name, stage_text, stage_line, acts_of}
use Rattle.flame_driver.specs.LineLaws.{lines_of, PrintsLines, LinesFollowFiles}

-- what was printed behind what was told, as PrintsLines says it
pub record ButLast (first last : List ℕ) (was now : Option (List ℕ)) : Type 0 where
  pub count : ℕ
  pub printed : now ≡ with_bytes (first ++ take count last) was

abbrev Lines : List Stage → ℕ → Option (List ℕ) → Option (List ℕ) → Type 0
Lines stages zero was now = now ≡ with_bytes [] was
Lines stages (suc others) was now =
    ButLast (lines_of (take others stages)) (lines_of (take 1 (drop others stages))) was now

-- one line more in front
one_line :
    (done : Stage) (stages : List Stage) (files : ℕ) (was now : Option (List ℕ))
    → Lines stages files (with_bytes (stage_line done) was) now
    → Lines (done ∷ stages) (suc files) was now
one_line done stages zero was now is = record {
  count = length (stage_line done ++ []);
  printed =
      is
      ∙ with_bytes-none (with_bytes (stage_line done) was)
      ∙ ap (λ (bytes : List ℕ). with_bytes bytes was)
      (sym (take_all (length (stage_line done ++ [])) (stage_line done ++ []) (le_refl (length (stage_line done ++ [])))
      ∙ append-nil (stage_line done)));
}
one_line done stages (suc others) was now is = record {
  count = is.count;
  printed =
      is.printed
      ∙ with_bytes-both (stage_line done)
      (lines_of (take others stages) ++ take is.count (lines_of (take 1 (drop others stages)))) was
      ∙ ap (λ (bytes : List ℕ). with_bytes bytes was)
      (sym
      (append_assoc (stage_line done) (lines_of (take others stages))
      (take is.count (lines_of (take 1 (drop others stages))))));
}

module _ (writing : Writing) (old new : Outside) where
  -- how the outside stands behind the first of these acts
  abbrev Stood : List Act → ℕ → Told → Type 0
  Stood acts done was =
      (told new ≡ after_acts (take done acts) was)
      ⊎ BreaksOff (drop done acts) (after_acts (take done acts) was) old new

  -- what is told behind an iteration that was written
  abbrev behind : Stage → Told → Told
  behind stage was =
      after_act (prints (stage_line stage))
      (after_act (puts (file_name writing.prefix stage.itno) (stage_text writing stage)) was)

  nothing_printed : (was : Told) → new.output.written ≡ was.written → new.output.written ≡ with_bytes [] was.written
  nothing_printed was same = same ∙ sym (with_bytes-none was.written)

  front :
      (stages : List Stage) (done : ℕ) (was : Told)
      → Stood (acts_of writing stages) done was
      → Lines stages (puts_in (take done (acts_of writing stages))) was.written new.output.written
  front [] zero was (inl same) = nothing_printed was (ap (λ (t : Told). t.written) same)
  front [] zero was (inr off) = absurd off
  front [] (suc done) was (inl same) = nothing_printed was (ap (λ (t : Told). t.written) same)
  front [] (suc done) was (inr off) = absurd off
  front (stage ∷ stages) zero was (inl same) = nothing_printed was (ap (λ (t : Told). t.written) same)
  front (stage ∷ stages) zero was (inr off) = nothing_printed was off.output
  front (stage ∷ stages) (suc zero) was (inl same) =
      record { count = 0; printed = nothing_printed was (ap (λ (t : Told). t.written) same) }
  front (stage ∷ stages) (suc zero) was (inr off) = record {
    count = off.count;
    printed =
        off.output
        ∙ ap (λ (line : List ℕ). with_bytes (take off.count line) was.written) (sym (append-nil (stage_line stage)));
  }
  front (stage ∷ stages) (suc (suc done)) was s =
      one_line stage stages (puts_in (take done (acts_of writing stages))) was.written new.output.written
      (front stages done (behind stage was) s)

  whole :
      (stages : List Stage) (done : ℕ) (was : Told) (name bytes : List ℕ) (rest : List Act)
      → Stood (acts_of writing stages) done was
      → drop done (acts_of writing stages) ≡ puts name bytes ∷ rest
      → new.output.written
      ≡ with_bytes (lines_of (take (puts_in (take done (acts_of writing stages))) stages)) was.written
  whole [] zero was name bytes rest s next = cc
  whole [] (suc done) was name bytes rest s next = cc
  whole (stage ∷ stages) zero was name bytes rest (inl same) next =
      nothing_printed was (ap (λ (t : Told). t.written) same)
  whole (stage ∷ stages) zero was name bytes rest (inr off) next = nothing_printed was off.output
  whole (stage ∷ stages) (suc zero) was name bytes rest s next = cc
  whole (stage ∷ stages) (suc (suc done)) was name bytes rest s next =
      whole stages done (behind stage was) name bytes rest s next
      ∙ with_bytes-both (stage_line stage)
      (lines_of (take (puts_in (take done (acts_of writing stages))) stages)) was.written

-- as the law says it
prints_lines :
    (stages : List Stage) (files : ℕ) (old new : Outside)
    → Lines stages files old.output.written new.output.written
    → PrintsLines stages files old.output new.output
prints_lines stages zero old new is = is
prints_lines stages (suc others) old new is = record { count = is.count; printed = is.printed }

pub lines_follow_files : LinesFollowFiles
lines_follow_files = record {
  front = λ writing stages done files old new has. prints_lines stages files old new
      (subst (λ (n : ℕ). Lines stages n old.output.written new.output.written) (sym has.count)
      (front writing old new stages done (told old) has.stands.stands));
  whole = λ writing stages done files name bytes old new has fails.
      subst (λ (n : ℕ). new.output.written ≡ with_bytes (lines_of (take n stages)) old.output.written) (sym has.count)
      (whole writing old new stages done (told old) name bytes fails.rest has.stands.stands fails.next);
}
