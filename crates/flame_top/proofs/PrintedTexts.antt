-- What stands of a report that prints one text.
use Rattle.std.proofs.Common.{◌≡◌, ℕ, List, [], ◌∷◌, Ok, refl, ap, ◌∙◌}
use Rattle.flame_outside.specs.Files.{Files}
use Rattle.flame_outside.specs.Devices.{SeenDepot, SeenSink}
use Rattle.flame_outside.specs.Printed.{Prints}
use Rattle.flame_outside.specs.Frames.{OnlyReads, Grows}
use Rattle.flame_outside.specs.Scripts.{prints, outside, told}
use Rattle.flame_outside.proofs.FrameLemmas.{with_bytes-none, puts_same, puts_go_on}
use Rattle.flame_outside.proofs.ScriptLemmas.{all_stand, print_stands, failed_print}
use Rattle.flame_spec.specs.declared.outcomes.Source.{Source}
use Rattle.flame_load.specs.InputReads.{known}
use Rattle.flame_load.specs.TextReads.{Reader}
use Rattle.flame_top.specs.declared.ending.Ending.{Ending}
use Rattle.flame_top.specs.declared.ending.Ending.TheVariants.{Done, RefusedWords, Refused, Faulted, ReadFault, FileFault, OutputFault, NoMemory}
use Rattle.flame_top.specs.Reports.{carried_out, printing}
use Rattle.flame_top.specs.OrderReports.{source_read, text_reading}
use Rattle.flame_top.specs.Printing.{EndsPrint}
use Rattle.flame_top.specs.Standing.{Stands, Carries, IsOfInput, Keeps}
use Rattle.flame_top.proofs.Standings.{unchanged, carries_known, carries_given, read_is_of_input}

module _ (depot : SeenDepot) (old new : SeenSink) where
  whole_text : (text : List ℕ) → Prints text old new → Stands Done 0 (carried_out (printing text)) (outside depot old) (outside depot new)
  whole_text [] p =
      unchanged Done (carried_out []) (outside depot old) (outside depot new)
      (ap (λ written. record { files = depot.files; written = written }) (p ∙ with_bytes-none old.written))
      (refl, refl) (λ w. refl) tt
  whole_text (byte ∷ bytes) p = record {
    done = 1;
    has_done = record {
      stands =
          all_stand (prints (byte ∷ bytes) ∷ []) (outside depot old) (outside depot new)
          (print_stands (byte ∷ bytes) depot old new p);
      count = refl;
    };
    ends = (refl, refl);
    whole = λ w. refl;
    blames = tt;
  }

  front_text :
      (text : List ℕ)
      → EndsPrint text old new OutputFault
      → Stands OutputFault 0 (carried_out (printing text)) (outside depot old) (outside depot new)
  front_text [] p = absurd (p.0 refl)
  front_text (byte ∷ bytes) p = record {
    done = 0;
    has_done = record { stands = failed_print (byte ∷ bytes) [] depot old new p.1 p.2; count = refl };
    ends = tt;
    whole = λ w. absurd w;
    blames = record { text = byte ∷ bytes; fails = record { rest = []; next = refl; failed = p.1 } };
  }

  pub text_stands :
      (text : List ℕ) (ending : Ending)
      → EndsPrint text old new ending
      → Stands ending 0 (carried_out (printing text)) (outside depot old) (outside depot new)
  text_stands text Done p = whole_text text p
  text_stands text (RefusedWords line) p = absurd p
  text_stands text (Refused line) p = absurd p
  text_stands text (Faulted line) p = absurd p
  text_stands text (ReadFault name) p = absurd p
  text_stands text (FileFault name) p = absurd p
  text_stands text OutputFault p = front_text text p
  text_stands text NoMemory p =
      unchanged NoMemory (carried_out (printing text)) (outside depot old) (outside depot new)
      (ap (λ (sink : SeenSink). told (outside depot sink)) p) tt (λ w. absurd w) tt

  -- no input is to blame
  pub text_is_driven : (text : List ℕ) (ending : Ending) → EndsPrint text old new ending → ¬ IsOfInput ending
  text_is_driven text Done p = λ i. i
  text_is_driven text (RefusedWords line) p = absurd p
  text_is_driven text (Refused line) p = absurd p
  text_is_driven text (Faulted line) p = absurd p
  text_is_driven text (ReadFault name) p = absurd p
  text_is_driven text (FileFault name) p = absurd p
  text_is_driven text OutputFault p = λ i. i
  text_is_driven text NoMemory p = λ i. i

  pub text_keeps :
      (text : List ℕ) (ending : Ending)
      → EndsPrint text old new ending
      → Grows old new
      → Keeps ending 0 (outside depot old) (outside depot new)
  text_keeps text Done p grows = record {
    caused = tt;
    ordered = λ r. r;
    line = tt;
    input = λ i. absurd i;
    goes_on = puts_go_on depot depot old new (puts_same depot) grows;
  }
  text_keeps text (RefusedWords line) p grows = absurd p
  text_keeps text (Refused line) p grows = absurd p
  text_keeps text (Faulted line) p grows = absurd p
  text_keeps text (ReadFault name) p grows = absurd p
  text_keeps text (FileFault name) p grows = absurd p
  text_keeps text OutputFault p grows = record {
    caused = p.1;
    ordered = λ r. r;
    line = tt;
    input = λ i. absurd i;
    goes_on = puts_go_on depot depot old new (puts_same depot) grows;
  }
  text_keeps text NoMemory p grows = record {
    caused = tt;
    ordered = λ r. r;
    line = tt;
    input = λ i. absurd i;
    goes_on = puts_go_on depot depot old new (puts_same depot) grows;
  }

-- a text of a source, behind the inputs that give the source
pub text_carries :
    (read : Reader) (told : Files) (name : List ℕ) (text_of : Source → List ℕ) (source : Source) (ending : Ending)
    (old mid : SeenDepot) (out out' : SeenSink)
    → OnlyReads old mid
    → (source_read read told name).answer ≡ Ok source
    → EndsPrint (text_of source) out out' ending
    → Carries (text_reading read told name text_of) ending 0 (outside old out) (outside mid out')
text_carries read told name text_of source ending old mid out out' only given p =
    carries_given (source_read read told name) (λ s. known (carried_out (printing (text_of s)))) source ending 0
    old mid out (outside mid out') only given
    (carries_known (carried_out (printing (text_of source))) ending 0 (outside mid out) (outside mid out')
    (λ r. text_is_driven mid out out' (text_of source) ending p (read_is_of_input ending r))
    (text_stands mid out out' (text_of source) ending p))
