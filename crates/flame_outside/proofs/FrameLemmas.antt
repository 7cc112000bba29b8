-- Frames begin with nothing done and join, and what failed in a part failed in the whole.
use Rattle.std.proofs.Common.{◌≡◌, ◌≤◌, ℕ, List, [], ◌++◌, length, Option, Some, None, Bool, true, false, refl, sym, ap, ◌∙◌, arith, le_refl, append_assoc, append-nil, true≢false}
use Rattle.std.specs.Prelude.{IsTrue, IsFalse}
use Rattle.std.proofs.lemmas.List.{take_all}
use Rattle.flame_outside.specs.Rose.{Rose_within}
use Rattle.flame_outside.specs.Devices.{SeenDepot, SeenSink}
use Rattle.flame_outside.specs.Printed.{with_bytes, Prints, PrintsFront}
use Rattle.flame_outside.specs.Frames.{NeverFall, StaysCalm, OnlyReads, OnlyPuts, Grows}
use Rattle.flame_outside.specs.Failures.{ReadFailed, PutFailed, WriteFailed}
use Rattle.flame_outside.specs.Scripts.{Outside, outside, GoesOn}
use Rattle.flame_outside.specs.FrameLaws.{WholeIsAFront, NothingDone, PartsJoin, FramesGoOn, FailuresStay, CalmFailsNot}

-- ---- printed bytes

pub with_bytes-none : (written : Option (List ℕ)) → with_bytes [] written ≡ written
with_bytes-none None = refl
with_bytes-none (Some bytes) = ap Some (append-nil bytes)

pub with_bytes-both :
    (x y : List ℕ) (written : Option (List ℕ))
    → with_bytes y (with_bytes x written) ≡ with_bytes (x ++ y) written
with_bytes-both x y None = refl
with_bytes-both x y (Some bytes) = ap Some (append_assoc bytes x y)

-- all of the bytes are a front of them
pub prints_front : (bytes : List ℕ) (old new : SeenSink) → Prints bytes old new → PrintsFront bytes old new
prints_front bytes old new prints = record {
  count = length bytes;
  appended =
      prints
      ∙ ap (λ front. with_bytes front old.written) (sym (take_all (length bytes) bytes (le_refl (length bytes))));
}

-- ---- nothing done

calm_same : (old : SeenDepot) → StaysCalm old old
calm_same old = record { stays = λ calm. calm; reads = λ calm. refl; puts = λ calm. refl }

pub reads_same : (old : SeenDepot) → OnlyReads old old
reads_same old = record { files = refl; puts = refl; reads = le_refl old.read_faults; calm = calm_same old }

pub puts_same : (old : SeenDepot) → OnlyPuts old old
puts_same old = record { reads = refl; puts = le_refl old.put_faults; calm = calm_same old }

pub grows_same : (old : SeenSink) → Grows old old
grows_same old = record {
  bytes = [];
  printed = sym (with_bytes-none old.written);
  faults = le_refl old.faults;
  stays_calm = λ calm. calm;
  calm_faults = λ calm. refl;
}

falls_same : (old : SeenDepot) → NeverFall old old
falls_same old = record { reads = le_refl old.read_faults; puts = le_refl old.put_faults }

pub goes_on_same : (old : Outside) → GoesOn old old
goes_on_same old = record { counts = falls_same old.depot; calm = calm_same old.depot; output = grows_same old.output }

pub whole_is_a_front : WholeIsAFront
whole_is_a_front = prints_front

pub nothing_done : NothingDone
nothing_done = record { reads = reads_same; puts = puts_same; writes = grows_same; all = goes_on_same }

-- ---- parts

pub calm_join : (old mid new : SeenDepot) → StaysCalm old mid → StaysCalm mid new → StaysCalm old new
calm_join old mid new first last = record {
  stays = λ calm. last.stays (first.stays calm);
  reads = λ calm. last.reads (first.stays calm) ∙ first.reads calm;
  puts = λ calm. last.puts (first.stays calm) ∙ first.puts calm;
}

pub reads_join : (old mid new : SeenDepot) → OnlyReads old mid → OnlyReads mid new → OnlyReads old new
reads_join old mid new first last = record {
  files = last.files ∙ first.files;
  puts = last.puts ∙ first.puts;
  reads = omega (arith, first.reads, last.reads);
  calm = calm_join old mid new first.calm last.calm;
}

pub puts_join : (old mid new : SeenDepot) → OnlyPuts old mid → OnlyPuts mid new → OnlyPuts old new
puts_join old mid new first last = record {
  reads = last.reads ∙ first.reads;
  puts = omega (arith, first.puts, last.puts);
  calm = calm_join old mid new first.calm last.calm;
}

pub falls_join : (old mid new : SeenDepot) → NeverFall old mid → NeverFall mid new → NeverFall old new
falls_join old mid new first last = record {
  reads = omega (arith, first.reads, last.reads);
  puts = omega (arith, first.puts, last.puts);
}

pub grows_join : (old mid new : SeenSink) → Grows old mid → Grows mid new → Grows old new
grows_join old mid new first last = record {
  bytes = first.bytes ++ last.bytes;
  printed = last.printed ∙ ap (with_bytes last.bytes) first.printed ∙ with_bytes-both first.bytes last.bytes old.written;
  faults = omega (arith, first.faults, last.faults);
  stays_calm = λ calm. last.stays_calm (first.stays_calm calm);
  calm_faults = λ calm. last.calm_faults (first.stays_calm calm) ∙ first.calm_faults calm;
}

pub goes_on_join : (old mid new : Outside) → GoesOn old mid → GoesOn mid new → GoesOn old new
goes_on_join old mid new first last = record {
  counts = falls_join old.depot mid.depot new.depot first.counts last.counts;
  calm = calm_join old.depot mid.depot new.depot first.calm last.calm;
  output = grows_join old.output mid.output new.output first.output last.output;
}

pub parts_join : PartsJoin
parts_join = record {
  reads = reads_join;
  puts = puts_join;
  counts = falls_join;
  calm = calm_join;
  writes = grows_join;
  all = goes_on_join;
}

-- ---- going on

le_same : (a b : ℕ) → b ≡ a → a ≤ b
le_same a b same = omega (arith, same)

pub reads_fall : (old new : SeenDepot) → OnlyReads old new → NeverFall old new
reads_fall old new only = record { reads = only.reads; puts = le_same old.put_faults new.put_faults only.puts }

pub puts_fall : (old new : SeenDepot) → OnlyPuts old new → NeverFall old new
puts_fall old new only = record { reads = le_same old.read_faults new.read_faults only.reads; puts = only.puts }

pub reads_go_on :
    (old new : SeenDepot) (out : SeenSink)
    → OnlyReads old new
    → GoesOn (outside old out) (outside new out)
reads_go_on old new out only = record { counts = reads_fall old new only; calm = only.calm; output = grows_same out }

pub puts_go_on :
    (old new : SeenDepot) (out out' : SeenSink)
    → OnlyPuts old new
    → Grows out out'
    → GoesOn (outside old out) (outside new out')
puts_go_on old new out out' only grows = record { counts = puts_fall old new only; calm = only.calm; output = grows }

pub frames_go_on : FramesGoOn
frames_go_on = record { reads = reads_go_on; puts = puts_go_on }

-- ---- failures

-- what is not calm later was not calm before
not_calm_before : (old new : Bool) → (IsTrue old → IsTrue new) → IsFalse new → IsFalse old
not_calm_before false new stays not_calm = refl
not_calm_before true new stays not_calm = absurd (true≢false (sym (stays refl) ∙ not_calm))

pub read_last :
    (old mid new : SeenDepot)
    → NeverFall old mid
    → StaysCalm old mid
    → ReadFailed mid new
    → ReadFailed old new
read_last old mid new counts calm failed = record {
  rose = Rose_within old.read_faults mid.read_faults new.read_faults new.read_faults counts.reads (le_refl new.read_faults) failed.rose;
  not_calm = not_calm_before old.calm mid.calm calm.stays failed.not_calm;
}

-- a read that failed behind reads
pub read_behind : (old mid new : SeenDepot) → OnlyReads old mid → ReadFailed mid new → ReadFailed old new
read_behind old mid new only = read_last old mid new (reads_fall old mid only) only.calm

pub put_last : (old mid new : SeenDepot) → NeverFall old mid → StaysCalm old mid → PutFailed mid new → PutFailed old new
put_last old mid new counts calm failed = record {
  rose = Rose_within old.put_faults mid.put_faults new.put_faults new.put_faults counts.puts (le_refl new.put_faults) failed.rose;
  not_calm = not_calm_before old.calm mid.calm calm.stays failed.not_calm;
}

pub write_last : (old mid new : SeenSink) → Grows old mid → WriteFailed mid new → WriteFailed old new
write_last old mid new grows failed = record {
  rose = Rose_within old.faults mid.faults new.faults new.faults grows.faults (le_refl new.faults) failed.rose;
  not_calm = not_calm_before old.calm mid.calm grows.stays_calm failed.not_calm;
}

pub read_first : (old mid new : SeenDepot) → NeverFall mid new → ReadFailed old mid → ReadFailed old new
read_first old mid new counts failed = record {
  rose = Rose_within old.read_faults old.read_faults mid.read_faults new.read_faults (le_refl old.read_faults) counts.reads failed.rose;
  not_calm = failed.not_calm;
}

pub put_first : (old mid new : SeenDepot) → NeverFall mid new → PutFailed old mid → PutFailed old new
put_first old mid new counts failed = record {
  rose = Rose_within old.put_faults old.put_faults mid.put_faults new.put_faults (le_refl old.put_faults) counts.puts failed.rose;
  not_calm = failed.not_calm;
}

pub write_first : (old mid new : SeenSink) → Grows mid new → WriteFailed old mid → WriteFailed old new
write_first old mid new grows failed = record {
  rose = Rose_within old.faults old.faults mid.faults new.faults (le_refl old.faults) grows.faults failed.rose;
  not_calm = failed.not_calm;
}

pub failures_stay : FailuresStay
failures_stay = record {
  read_last = read_last;
  put_last = put_last;
  write_last = write_last;
  read_first = read_first;
  put_first = put_first;
  write_first = write_first;
}

pub calm_fails_not : CalmFailsNot
calm_fails_not = record {
  reads = λ old new calm failed. true≢false (sym calm ∙ failed.not_calm);
  puts = λ old new calm failed. true≢false (sym calm ∙ failed.not_calm);
  writes = λ old new calm failed. true≢false (sym calm ∙ failed.not_calm);
}
