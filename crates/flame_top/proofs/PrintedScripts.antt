-- What a script prints stands on any depot as it stands beside its files in a depot that never fails.
use Rattle.std.proofs.Common.{◌≡◌, ◌⊎◌, ◌≤◌, ℕ, zero, suc, List, [], ◌∷◌, length, take, drop, refl, sym, ap, ◌∙◌, subst, inl, inr, arith, true≢false}
use Rattle.std.specs.Prelude.{IsTrue}
use Rattle.flame_outside.specs.Printed.{with_bytes}
use Rattle.flame_outside.specs.Devices.{SeenDepot, SeenSink}
use Rattle.flame_outside.specs.Scripts.{Act, puts, prints, outside, Told, told, after_act, after_acts, StandsWhole, BreaksOff, StandsAt, FailsAtOutput}
use Rattle.flame_top.specs.OrderReports.{prints_of}

-- ---- acts that print

pub prints_of-take :
    (done : ℕ) (acts : List Act) → prints_of (take done acts) ≡ take (length (prints_of (take done acts))) (prints_of acts)
prints_of-take zero acts = refl
prints_of-take (suc done) [] = refl
prints_of-take (suc done) (puts name bytes ∷ acts) = prints_of-take done acts
prints_of-take (suc done) (prints text ∷ acts) = ap (λ rest. prints text ∷ rest) (prints_of-take done acts)

prints_of-drop :
    (done : ℕ) (acts : List Act) → prints_of (drop done acts) ≡ drop (length (prints_of (take done acts))) (prints_of acts)
prints_of-drop zero acts = refl
prints_of-drop (suc done) [] = refl
prints_of-drop (suc done) (puts name bytes ∷ acts) = prints_of-drop done acts
prints_of-drop (suc done) (prints text ∷ acts) = prints_of-drop done acts

few_printed : (done : ℕ) (acts : List Act) → length (prints_of (take done acts)) ≤ length (prints_of acts)
few_printed zero acts = omega arith
few_printed (suc done) [] = omega arith
few_printed (suc done) (puts name bytes ∷ acts) = few_printed done acts
few_printed (suc done) (prints text ∷ acts) = let few = few_printed done acts in omega (arith, few)

-- ---- what is told behind them

written_behind :
    (acts : List Act) (was beside : Told)
    → beside.written ≡ was.written
    → (after_acts (prints_of acts) beside).written ≡ (after_acts acts was).written
written_behind [] was beside same = same
written_behind (puts name bytes ∷ acts) was beside same = written_behind acts (after_act (puts name bytes) was) beside same
written_behind (prints text ∷ acts) was beside same =
    written_behind acts (after_act (prints text) was) (after_act (prints text) beside) (ap (with_bytes text) same)

files_behind : (acts : List Act) (beside : Told) → (after_acts (prints_of acts) beside).files ≡ beside.files
files_behind [] beside = refl
files_behind (puts name bytes ∷ acts) beside = files_behind acts beside
files_behind (prints text ∷ acts) beside = files_behind acts (after_act (prints text) beside)

-- ---- where a script stands on the depot `own`, the same output beside the depot `depot`

module _ (acts : List Act) (own own' depot : SeenDepot) (out out' : SeenSink) where
  same_written :
      (first : List Act)
      → (after_acts (prints_of first) (told (outside depot out))).written ≡ (after_acts first (told (outside own out))).written
  same_written first = written_behind first (told (outside own out)) (told (outside depot out)) refl

  same_files : (first : List Act) → (after_acts (prints_of first) (told (outside depot out))).files ≡ depot.files
  same_files first = files_behind first (told (outside depot out))

  told_beside :
      (first : List Act)
      → told (outside own' out') ≡ after_acts first (told (outside own out))
      → told (outside depot out') ≡ after_acts (prints_of first) (told (outside depot out))
  told_beside first stands = λ i. record {
    files = (sym (same_files first)) i;
    written = (ap (λ (t : Told). t.written) stands ∙ sym (same_written first)) i;
  }

  breaks_beside :
      (first rest : List Act)
      → IsTrue own.calm
      → BreaksOff rest (after_acts first (told (outside own out))) (outside own out) (outside own' out')
      → BreaksOff (prints_of rest) (after_acts (prints_of first) (told (outside depot out)))
      (outside depot out) (outside depot out')
  breaks_beside first [] calm off = off
  breaks_beside first (puts name bytes ∷ rest) calm off = absurd (true≢false (sym calm ∙ off.failed.not_calm))
  breaks_beside first (prints text ∷ rest) calm off = record {
    failed = off.failed;
    count = off.count;
    output = off.output ∙ ap (with_bytes (take off.count text)) (sym (same_written first));
    files = sym (same_files first);
  }

  moved :
      {acts acts' : List Act} {stood stood' : Told}
      → acts ≡ acts'
      → stood ≡ stood'
      → BreaksOff acts stood (outside depot out) (outside depot out')
      → BreaksOff acts' stood' (outside depot out) (outside depot out')
  moved {acts = a} {acts' = b} {stood = s} {stood' = t} same_acts same off =
      subst (λ rest. BreaksOff rest t (outside depot out) (outside depot out')) same_acts
      (subst (λ stood. BreaksOff a stood (outside depot out) (outside depot out')) same off)

  pub whole_beside :
      StandsWhole acts (outside own out) (outside own' out')
      → StandsWhole (prints_of acts) (outside depot out) (outside depot out')
  whole_beside = told_beside acts

  -- how many of its prints stand
  abbrev pub printed : ℕ → ℕ
  printed done = length (prints_of (take done acts))

  pub stands_beside :
      (done : ℕ)
      → IsTrue own.calm
      → StandsAt acts done (outside own out) (outside own' out')
      → StandsAt (prints_of acts) (printed done) (outside depot out) (outside depot out')
  stands_beside done calm s = record { few = few_printed done acts; stands = by s.stands }
    where
      first : List Act
      first = take done acts

      stood : Told
      stood = after_acts (take done acts) (told (outside own out))

      by :
          (told (outside own' out') ≡ stood) ⊎ BreaksOff (drop done acts) stood (outside own out) (outside own' out')
          → (told (outside depot out') ≡ after_acts (take (printed done) (prints_of acts)) (told (outside depot out)))
          ⊎ BreaksOff (drop (printed done) (prints_of acts))
          (after_acts (take (printed done) (prints_of acts)) (told (outside depot out)))
          (outside depot out) (outside depot out')
      by (inl whole) =
          inl (told_beside (take done acts) whole
          ∙ ap (λ taken. after_acts taken (told (outside depot out))) (prints_of-take done acts))
      by (inr off) =
          inr (moved (prints_of-drop done acts)
          (ap (λ taken. after_acts taken (told (outside depot out))) (prints_of-take done acts))
          (breaks_beside (take done acts) (drop done acts) calm off))

  pub fails_beside :
      (done : ℕ)
      → FailsAtOutput acts done (outside own out) (outside own' out')
      → FailsAtOutput (prints_of acts) (printed done) (outside depot out) (outside depot out')
  fails_beside done f = record {
    text = f.text;
    fails = record {
      rest = prints_of f.fails.rest;
      next = sym (prints_of-drop done acts) ∙ ap prints_of f.fails.next;
      failed = f.fails.failed;
    };
  }
