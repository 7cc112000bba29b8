-- What is carried out with some text of a trace.
use Rattle.std.proofs.Common.{◌≡◌, ℕ, List, [], Ok, refl, subst}
use Rattle.flame_outside.specs.Devices.{SeenDepot, SeenSink}
use Rattle.flame_outside.specs.Frames.{OnlyReads}
use Rattle.flame_outside.specs.Scripts.{Outside, outside}
use Rattle.flame_load.specs.InputReads.{Reading, known, ◌>>=◌}
use Rattle.flame_top.specs.declared.ending.Ending.{Ending}
use Rattle.flame_top.specs.declared.ending.Ending.TheVariants.{NoMemory}
use Rattle.flame_top.specs.InputAnswers.{Stops, IsReadFault}
use Rattle.flame_top.specs.Reports.{Report, report_in}
use Rattle.flame_top.specs.Standing.{Stands}
use Rattle.flame_top.specs.TraceAnswers.{CarriesSome}
use Rattle.flame_top.specs.TraceReports.{Traced}
use Rattle.flame_top.proofs.Standings.{unchanged, carries_known, carries_given, carries_stopped}
use Rattle.flame_top.proofs.OneAnswers.{one_answer}

-- a text where none was put
abbrev pub no_trace : Traced
no_trace = record { bytes = []; events = 0 }

-- nothing was done, for want of memory
pub some_nothing :
    (such : Traced → Type 0) (reading : Traced → Reading (List ℕ) Report) (out : Outside)
    → CarriesSome such reading NoMemory 0 out out
some_nothing such reading out = record {
  trace = no_trace;
  tells = λ put. absurd (put refl);
  carries = record {
    stands = unchanged NoMemory (report_in (reading no_trace)) out out refl tt (λ whole. absurd whole) tt;
    reached = tt;
  };
}

-- a report that is known with this text
pub some_known :
    (such : Traced → Type 0) (report : Traced → Report) (trace : Traced) (ending : Ending) (files : ℕ) (old new : Outside)
    → such trace
    → ¬ IsReadFault ending
    → Stands ending files (report trace) old new
    → CarriesSome such (λ text. known (report text)) ending files old new
some_known such report trace ending files old new told unread s =
    record { trace = trace; tells = λ put. told; carries = carries_known (report trace) ending files old new unread s }

module _ {X : Type 0} (reading : Reading (List ℕ) X) (such : X → Traced → Type 0) (next : X → Traced → Reading (List ℕ) Report) where
  -- behind an input that was read and gives x
  pub some_given :
      (x : X) (ending : Ending) (files : ℕ) (old mid : SeenDepot) (out : SeenSink) (new : Outside)
      → OnlyReads old mid
      → reading.answer ≡ Ok x
      → CarriesSome (such x) (next x) ending files (outside mid out) new
      → CarriesSome (λ trace. (y : X) → reading.answer ≡ Ok y → such y trace) (λ trace. reading >>= (λ y. next y trace))
      ending files (outside old out) new
  some_given x ending files old mid out new only given c = record {
    trace = c.trace;
    tells = λ put y other.
        subst (λ (z : X). such z c.trace) (one_answer reading.answer x y given other) (c.tells put);
    carries = carries_given reading (λ y. next y c.trace) x ending files old mid out new only given c.carries;
  }

  -- a reading that stops before anything is done
  pub some_stopped :
      (ending : Ending) (old new : SeenDepot) (out : SeenSink)
      → OnlyReads old new
      → Stops ending reading
      → CarriesSome (λ trace. (y : X) → reading.answer ≡ Ok y → such y trace) (λ trace. reading >>= (λ y. next y trace))
      ending 0 (outside old out) (outside new out)
  some_stopped ending old new out only stops = record {
    trace = no_trace;
    tells = λ put. absurd (put refl);
    carries = carries_stopped reading (λ y. next y no_trace) old new out only ending stops;
  }
