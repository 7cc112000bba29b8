-- How scripts stand: act by act, part by part, and over calls that only read.
use Rattle.std.proofs.Common.{◌≡◌, ◌+◌, ◌≤◌, ◌⊎◌, ℕ, zero, suc, List, [], ◌∷◌, ◌++◌, length, take, drop, Option, refl, sym, ap, ◌∙◌, subst, inl, inr, arith, le_refl, length-append, true≢false, take_all}
use Rattle.std.specs.Prelude.{IsTrue}
use Rattle.std.proofs.Math.Seq.{take-append-add, drop-append-add}
use Rattle.std.proofs.lemmas.List.{take-append-le, drop-append-le, take_all, drop_all}
use Rattle.flame_outside.specs.Files.{Files, with_file, OthersStay}
use Rattle.flame_outside.specs.Devices.{SeenDepot, SeenSink}
use Rattle.flame_outside.specs.Printed.{Prints, PrintsFront}
use Rattle.flame_outside.specs.Frames.{OnlyReads}
use Rattle.flame_outside.specs.Failures.{PutFailed, WriteFailed}
use Rattle.flame_outside.specs.Scripts.{Act, puts, prints, puts_in, Outside, outside, Told, told, after_act, after_acts, StandsWhole, BreaksOff, StandsAt, Failed, FailsAt, GoesOn}
use Rattle.flame_outside.specs.ScriptLaws.{NoActs, OneMoreAct, LoneActs, WholeScripts, ScriptsJoin, ReadsStandAside, CalmScripts}
use Rattle.flame_outside.proofs.FrameLemmas.{put_last, put_first, write_last, write_first, reads_go_on, goes_on_same}

-- ---- what breaks off

-- behind what went on before
breaks_later :
    (acts : List Act) (stood : Told) (old mid new : Outside)
    → GoesOn old mid
    → BreaksOff acts stood mid new
    → BreaksOff acts stood old new
breaks_later [] stood old mid new on off = off
breaks_later (puts name bytes ∷ acts) stood old mid new on off = record {
  failed = put_last old.depot mid.depot new.depot on.counts on.calm off.failed;
  others = off.others;
  output = off.output;
}
breaks_later (prints text ∷ acts) stood old mid new on off = record {
  failed = write_last old.output mid.output new.output on.output off.failed;
  count = off.count;
  output = off.output;
  files = off.files;
}

-- before what goes on behind it and tells the same
breaks_before :
    (acts : List Act) (stood : Told) (old mid new : Outside)
    → told new ≡ told mid
    → GoesOn mid new
    → BreaksOff acts stood old mid
    → BreaksOff acts stood old new
breaks_before [] stood old mid new same on off = off
breaks_before (puts name bytes ∷ acts) stood old mid new same on off = record {
  failed = put_first old.depot mid.depot new.depot on.counts off.failed;
  others = subst (OthersStay name stood.files) (sym (ap (λ (t : Told). t.files) same)) off.others;
  output = ap (λ (t : Told). t.written) same ∙ off.output;
}
breaks_before (prints text ∷ acts) stood old mid new same on off = record {
  failed = write_first old.output mid.output new.output on.output off.failed;
  count = off.count;
  output = ap (λ (t : Told). t.written) same ∙ off.output;
  files = ap (λ (t : Told). t.files) same ∙ off.files;
}

-- whatever comes behind it
breaks_more :
    (acts more : List Act) (stood : Told) (old new : Outside)
    → BreaksOff acts stood old new
    → BreaksOff (acts ++ more) stood old new
breaks_more [] more stood old new off = absurd off
breaks_more (puts name bytes ∷ acts) more stood old new off = off
breaks_more (prints text ∷ acts) more stood old new off = off

breaks_by :
    (acts acts' : List Act) (stood stood' : Told) (old mid new : Outside)
    → acts ≡ acts'
    → stood ≡ stood'
    → GoesOn old mid
    → (told new ≡ stood) ⊎ BreaksOff acts stood mid new
    → (told new ≡ stood') ⊎ BreaksOff acts' stood' old new
breaks_by acts acts' stood stood' old mid new same_acts same on (inl whole) = inl (whole ∙ same)
breaks_by acts acts' stood stood' old mid new same_acts same on (inr off) =
    inr (subst (λ rest. BreaksOff rest stood' old new) same_acts
    (subst (λ t. BreaksOff acts t old new) same (breaks_later acts stood old mid new on off)))

calm_breaks :
    (acts : List Act) (stood : Told) (old new : Outside)
    → IsTrue old.depot.calm
    → IsTrue old.output.calm
    → ¬ BreaksOff acts stood old new
calm_breaks [] stood old new depot output off = off
calm_breaks (puts name bytes ∷ acts) stood old new depot output off = true≢false (sym depot ∙ off.failed.not_calm)
calm_breaks (prints text ∷ acts) stood old new depot output off = true≢false (sym output ∙ off.failed.not_calm)

-- ---- acts one after another

pub after_acts-append :
    (acts more : List Act) (was : Told) → after_acts (acts ++ more) was ≡ after_acts more (after_acts acts was)
after_acts-append [] more was = refl
after_acts-append (act ∷ acts) more was = after_acts-append acts more (after_act act was)

take-next :
    (done : ℕ) (acts rest : List Act) (act : Act) → drop done acts ≡ act ∷ rest → take (done + 1) acts ≡ take done acts ++ (act ∷ [])
take-next zero [] rest act behind = cc
take-next zero (first ∷ acts) rest act behind = cc
take-next (suc done) [] rest act behind = cc
take-next (suc done) (first ∷ acts) rest act behind =
    let on : suc done + 1 ≡ suc (done + 1) = omega arith in
    ap (λ n. take n (first ∷ acts)) on ∙ ap (λ taken. first ∷ taken) (take-next done acts rest act behind)

pub whole_join :
    (acts more : List Act) (old mid new : Outside)
    → StandsWhole acts old mid
    → StandsWhole more mid new
    → StandsWhole (acts ++ more) old new
whole_join acts more old mid new first last =
    last ∙ ap (after_acts more) first ∙ sym (after_acts-append acts more (told old))

pub whole_next :
    (acts rest : List Act) (act : Act) (done : ℕ) (old mid new : Outside)
    → drop done acts ≡ act ∷ rest
    → StandsWhole (take done acts) old mid
    → StandsWhole (act ∷ []) mid new
    → StandsWhole (take (done + 1) acts) old new
whole_next acts rest act done old mid new behind first last =
    whole_join (take done acts) (act ∷ []) old mid new first last
    ∙ ap (λ taken. after_acts taken (told old)) (sym (take-next done acts rest act behind))

pub one_more_act : OneMoreAct
one_more_act = record {
  behind = λ acts act. whole_join acts (act ∷ []);
  next = whole_next;
}

-- ---- an act by itself

abbrev both : Option Files → Option (List ℕ) → Told
both files written = record { files = files; written = written }

pub put_stands :
    (name bytes : List ℕ) (old new : SeenDepot) (out : SeenSink)
    → new.files ≡ with_file name bytes old.files
    → StandsWhole (puts name bytes ∷ []) (outside old out) (outside new out)
put_stands name bytes old new out is = ap (λ files. both files out.written) is

pub print_stands :
    (text : List ℕ) (depot : SeenDepot) (old new : SeenSink)
    → Prints text old new
    → StandsWhole (prints text ∷ []) (outside depot old) (outside depot new)
print_stands text depot old new is = ap (λ written. both depot.files written) is

pub failed_put :
    (name bytes : List ℕ) (acts : List Act) (old new : SeenDepot) (out : SeenSink)
    → PutFailed old new
    → OthersStay name old.files new.files
    → StandsAt (puts name bytes ∷ acts) 0 (outside old out) (outside new out)
failed_put name bytes acts old new out failed others = record {
  few = omega arith;
  stands = inr (record { failed = failed; others = others; output = refl });
}

pub failed_print :
    (text : List ℕ) (acts : List Act) (depot : SeenDepot) (old new : SeenSink)
    → WriteFailed old new
    → PrintsFront text old new
    → StandsAt (prints text ∷ acts) 0 (outside depot old) (outside depot new)
failed_print text acts depot old new failed front = record {
  few = omega arith;
  stands = inr (record { failed = failed; count = front.count; output = front.appended; files = refl });
}

pub lone_acts : LoneActs
lone_acts = record {
  put = put_stands;
  print = print_stands;
  failed_put = λ name bytes acts old new out failed others. (
    failed_put name bytes acts old new out failed others,
    record { rest = acts; next = refl; failed = failed },
  );
  failed_print = λ text acts depot old new failed front. (
    failed_print text acts depot old new failed front,
    record { rest = acts; next = refl; failed = failed },
  );
}

-- ---- the whole, and nothing

pub nothing_stands : (acts : List Act) (old new : Outside) → told new ≡ told old → StandsAt acts 0 old new
nothing_stands acts old new same = record { few = omega arith; stands = inl same }

no_acts : (done : ℕ) (old new : Outside) → StandsAt [] done old new → (done ≡ 0) × (told new ≡ told old)
no_acts zero old new s = (refl, of_none s.stands)
  where
    of_none : (told new ≡ told old) ⊎ ⊥ → told new ≡ told old
    of_none (inl same) = same
    of_none (inr off) = absurd off
no_acts (suc done) old new s = absurd (omega (arith, s.few))

pub no_acts_stand : NoActs
no_acts_stand = record { nothing_done = nothing_stands; no_acts = no_acts }

pub first_stand :
    (acts : List Act) (done : ℕ) (old new : Outside)
    → done ≤ length acts
    → StandsWhole (take done acts) old new
    → StandsAt acts done old new
first_stand acts done old new few whole = record { few = few; stands = inl whole }

pub all_stand : (acts : List Act) (old new : Outside) → StandsWhole acts old new → StandsAt acts (length acts) old new
all_stand acts old new whole =
    first_stand acts (length acts) old new (le_refl (length acts))
    (whole ∙ ap (λ taken. after_acts taken (told old)) (sym (take_all (length acts) acts (omega arith))))

pub stands_all : (acts : List Act) (old new : Outside) → StandsAt acts (length acts) old new → StandsWhole acts old new
stands_all acts old new s =
    whole s.stands ∙ ap (λ taken. after_acts taken (told old)) (take_all (length acts) acts (omega arith))
  where
    stood : Told
    stood = after_acts (take (length acts) acts) (told old)

    whole : (told new ≡ stood) ⊎ BreaksOff (drop (length acts) acts) stood old new → told new ≡ stood
    whole (inl same) = same
    whole (inr off) = absurd (subst (λ rest. BreaksOff rest stood old new) (drop_all (length acts) acts (le_refl (length acts))) off)

pub whole_scripts : WholeScripts
whole_scripts = record { all_stand = all_stand; stands_all = stands_all; first_stand = first_stand }

-- ---- two scripts

pub first_of_two :
    (acts more : List Act) (done : ℕ) (old new : Outside)
    → StandsAt acts done old new
    → StandsAt (acts ++ more) done old new
first_of_two acts more done old new s = record {
  few = omega (arith, s.few, length-append acts more);
  stands =
      breaks_by (drop done acts ++ more) (drop done (acts ++ more)) _ _ old old new
      (sym (drop-append-le done acts more s.few))
      (ap (λ taken. after_acts taken (told old)) (sym (take-append-le done acts more s.few)))
      (goes_on_same old)
      (further s.stands);
}
  where
    stood : Told
    stood = after_acts (take done acts) (told old)

    further :
        (told new ≡ stood) ⊎ BreaksOff (drop done acts) stood old new
        → (told new ≡ stood) ⊎ BreaksOff (drop done acts ++ more) stood old new
    further (inl same) = inl same
    further (inr off) = inr (breaks_more (drop done acts) more stood old new off)

pub first_fails :
    (acts more : List Act) (done : ℕ) (act : Act) (old new : Outside)
    → FailsAt acts done act old new
    → FailsAt (acts ++ more) done act old new
first_fails acts more done act old new f = record {
  rest = f.rest ++ more;
  next = drop-append-le done acts more (few_before done acts f.next) ∙ ap (λ rest. rest ++ more) f.next;
  failed = f.failed;
}
  where
    few_before : (done : ℕ) (acts : List Act) → drop done acts ≡ act ∷ f.rest → done ≤ length acts
    few_before zero acts behind = omega arith
    few_before (suc done) [] behind = cc
    few_before (suc done) (first ∷ acts) behind = let few = few_before done acts behind in omega (arith, few)

pub second_of_two :
    (acts more : List Act) (done : ℕ) (old mid new : Outside)
    → StandsWhole acts old mid
    → GoesOn old mid
    → StandsAt more done mid new
    → StandsAt (acts ++ more) (length acts + done) old new
second_of_two acts more done old mid new whole on s = record {
  few = omega (arith, s.few, length-append acts more);
  stands =
      breaks_by (drop done more) (drop (length acts + done) (acts ++ more)) _ _ old mid new
      (sym (drop-append-add acts more done))
      (ap (after_acts (take done more)) whole
      ∙ sym (after_acts-append acts (take done more) (told old))
      ∙ ap (λ taken. after_acts taken (told old)) (sym (take-append-add acts more done)))
      on s.stands;
}

failed_later : (act : Act) (old mid new : Outside) → GoesOn old mid → Failed act mid new → Failed act old new
failed_later (puts name bytes) old mid new on failed = put_last old.depot mid.depot new.depot on.counts on.calm failed
failed_later (prints text) old mid new on failed = write_last old.output mid.output new.output on.output failed

pub second_fails :
    (acts more : List Act) (done : ℕ) (act : Act) (old mid new : Outside)
    → GoesOn old mid
    → FailsAt more done act mid new
    → FailsAt (acts ++ more) (length acts + done) act old new
second_fails acts more done act old mid new on f = record {
  rest = f.rest;
  next = drop-append-add acts more done ∙ f.next;
  failed = failed_later act old mid new on f.failed;
}

pub puts_in-append : (acts more : List Act) → puts_in (acts ++ more) ≡ puts_in acts + puts_in more
puts_in-append [] more = omega arith
puts_in-append (puts name bytes ∷ acts) more = let rest = puts_in-append acts more in omega (arith, rest)
puts_in-append (prints text ∷ acts) more = puts_in-append acts more

pub scripts_join : ScriptsJoin
scripts_join = record {
  puts = puts_in-append;
  whole = whole_join;
  first = first_of_two;
  first_fails = first_fails;
  second = second_of_two;
  second_fails = second_fails;
}

-- ---- reads

same_by_reads :
    (old new : SeenDepot) (out : SeenSink)
    → OnlyReads old new
    → told (outside new out) ≡ told (outside old out)
same_by_reads old new out only = ap (λ files. both files out.written) only.files

pub stands_after_reads :
    (acts : List Act) (done : ℕ) (old mid : SeenDepot) (out : SeenSink) (new : Outside)
    → OnlyReads old mid
    → StandsAt acts done (outside mid out) new
    → StandsAt acts done (outside old out) new
stands_after_reads acts done old mid out new only s = record {
  few = s.few;
  stands =
      breaks_by (drop done acts) (drop done acts) _ _ (outside old out) (outside mid out) new
      refl (ap (after_acts (take done acts)) (same_by_reads old mid out only)) (reads_go_on old mid out only) s.stands;
}

pub fails_after_reads :
    (acts : List Act) (done : ℕ) (act : Act) (old mid : SeenDepot) (out : SeenSink) (new : Outside)
    → OnlyReads old mid
    → FailsAt acts done act (outside mid out) new
    → FailsAt acts done act (outside old out) new
fails_after_reads acts done act old mid out new only f = record {
  rest = f.rest;
  next = f.next;
  failed = failed_later act (outside old out) (outside mid out) new (reads_go_on old mid out only) f.failed;
}

pub stands_on :
    (acts : List Act) (done : ℕ) (old mid new : Outside)
    → StandsAt acts done old mid
    → told new ≡ told mid
    → GoesOn mid new
    → StandsAt acts done old new
stands_on acts done old mid new s same on = record { few = s.few; stands = still s.stands }
  where
    stood : Told
    stood = after_acts (take done acts) (told old)

    still :
        (told mid ≡ stood) ⊎ BreaksOff (drop done acts) stood old mid
        → (told new ≡ stood) ⊎ BreaksOff (drop done acts) stood old new
    still (inl whole) = inl (same ∙ whole)
    still (inr off) = inr (breaks_before (drop done acts) stood old mid new same on off)

pub reads_stand_aside : ReadsStandAside
reads_stand_aside = record {
  before = stands_after_reads;
  before_failing = fails_after_reads;
  behind = stands_on;
}

-- ---- calm devices

pub calm_fails_at :
    (acts : List Act) (done : ℕ) (act : Act) (old new : Outside)
    → IsTrue old.depot.calm
    → IsTrue old.output.calm
    → ¬ FailsAt acts done act old new
calm_fails_at acts done (puts name bytes) old new depot output f = true≢false (sym depot ∙ f.failed.not_calm)
calm_fails_at acts done (prints text) old new depot output f = true≢false (sym output ∙ f.failed.not_calm)

calm_stands :
    (acts : List Act) (done : ℕ) (old new : Outside)
    → IsTrue old.depot.calm
    → IsTrue old.output.calm
    → StandsAt acts done old new
    → StandsWhole (take done acts) old new
calm_stands acts done old new depot output s = whole s.stands
  where
    stood : Told
    stood = after_acts (take done acts) (told old)

    whole : (told new ≡ stood) ⊎ BreaksOff (drop done acts) stood old new → told new ≡ stood
    whole (inl same) = same
    whole (inr off) = absurd (calm_breaks (drop done acts) stood old new depot output off)

pub calm_scripts : CalmScripts
calm_scripts = record { fails_not = calm_fails_at; stands_whole = calm_stands }
