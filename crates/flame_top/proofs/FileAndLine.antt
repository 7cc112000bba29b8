-- A file that is put, and then a line that is printed.
use Rattle.std.proofs.Common.{◌≡◌, ℕ, List, [], ◌∷◌, refl, sym, ap, ◌∙◌, arith}
use Rattle.flame_outside.specs.Files.{with_file, OthersStay}
use Rattle.flame_outside.specs.Devices.{SeenDepot, SeenSink}
use Rattle.flame_outside.specs.Printed.{Prints}
use Rattle.flame_outside.specs.Frames.{OnlyPuts, Grows}
use Rattle.flame_outside.specs.Scripts.{Act, puts, prints, outside, told}
use Rattle.flame_outside.proofs.FrameLemmas.{grows_same, puts_go_on}
use Rattle.flame_outside.proofs.ScriptLemmas.{put_stands, print_stands, whole_join, all_stand, nothing_stands, first_stand, failed_put, failed_print, second_of_two}
use Rattle.flame_top.specs.declared.ending.Ending.{Ending}
use Rattle.flame_top.specs.declared.ending.Ending.TheVariants.{Done, RefusedWords, Refused, Faulted, ReadFault, FileFault, OutputFault, NoMemory}
use Rattle.flame_top.specs.InputAnswers.{IsReadFault}
use Rattle.flame_top.specs.Printing.{StopsPrint, StopsPut}
use Rattle.flame_top.specs.Reports.{carried_out}
use Rattle.flame_top.specs.Standing.{Stands, Keeps}

module _ (name bytes line : List ℕ) where
  -- both are done
  abbrev both : List Act
  both = puts name bytes ∷ prints line ∷ []

  -- the file is not put
  pub put_stops :
      (ending : Ending) (old new : SeenDepot) (out : SeenSink)
      → StopsPut name old new ending
      → OthersStay name old.files new.files
      → Stands ending 0 (carried_out both) (outside old out) (outside new out)
  put_stops Done old new out s others = absurd s
  put_stops (RefusedWords text) old new out s others = absurd s
  put_stops (Refused text) old new out s others = absurd s
  put_stops (Faulted text) old new out s others = absurd s
  put_stops (ReadFault file) old new out s others = absurd s
  put_stops (FileFault file) old new out s others = record {
    done = 0;
    has_done = record { stands = failed_put name bytes (prints line ∷ []) old new out s.1 others; count = refl };
    ends = tt;
    whole = λ w. absurd w;
    blames = record {
      bytes = bytes;
      fails = record {
        rest = prints line ∷ [];
        next = ap (λ (n : List ℕ). puts n bytes ∷ prints line ∷ []) (sym s.0);
        failed = s.1;
      };
    };
  }
  put_stops OutputFault old new out s others = absurd s
  put_stops NoMemory old new out s others = record {
    done = 0;
    has_done = record {
      stands =
          nothing_stands both (outside old out) (outside new out)
          (ap (λ (depot : SeenDepot). told (outside depot out)) s);
      count = refl;
    };
    ends = tt;
    whole = λ w. absurd w;
    blames = tt;
  }

  -- the file stands, and the line is not printed whole
  pub line_stops :
      (ending : Ending) (depot depot' : SeenDepot) (old new : SeenSink)
      → depot'.files ≡ with_file name bytes depot.files
      → OnlyPuts depot depot'
      → StopsPrint line old new ending
      → Stands ending 1 (carried_out both) (outside depot old) (outside depot' new)
  line_stops Done depot depot' old new put only s = absurd s
  line_stops (RefusedWords text) depot depot' old new put only s = absurd s
  line_stops (Refused text) depot depot' old new put only s = absurd s
  line_stops (Faulted text) depot depot' old new put only s = absurd s
  line_stops (ReadFault file) depot depot' old new put only s = absurd s
  line_stops (FileFault file) depot depot' old new put only s = absurd s
  line_stops OutputFault depot depot' old new put only s = record {
    done = 1;
    has_done = record {
      stands =
          second_of_two (puts name bytes ∷ []) (prints line ∷ []) 0
          (outside depot old) (outside depot' old) (outside depot' new)
          (put_stands name bytes depot depot' old put)
          (puts_go_on depot depot' old old only (grows_same old))
          (failed_print line [] depot' old new s.1 s.2);
      count = refl;
    };
    ends = tt;
    whole = λ w. absurd w;
    blames = record { text = line; fails = record { rest = []; next = refl; failed = s.1 } };
  }
  line_stops NoMemory depot depot' old new put only s = record {
    done = 1;
    has_done = record {
      stands =
          first_stand both 1 (outside depot old) (outside depot' new) (omega arith)
          (ap (λ (output : SeenSink). told (outside depot' output)) s ∙ put_stands name bytes depot depot' old put);
      count = refl;
    };
    ends = tt;
    whole = λ w. absurd w;
    blames = tt;
  }

  -- the file stands, and the line is printed
  pub both_stand :
      (depot depot' : SeenDepot) (old new : SeenSink)
      → depot'.files ≡ with_file name bytes depot.files
      → Prints line old new
      → Stands Done 1 (carried_out both) (outside depot old) (outside depot' new)
  both_stand depot depot' old new put printed = record {
    done = 2;
    has_done = record {
      stands =
          all_stand both (outside depot old) (outside depot' new)
          (whole_join (puts name bytes ∷ []) (prints line ∷ [])
          (outside depot old) (outside depot' old) (outside depot' new)
          (put_stands name bytes depot depot' old put)
          (print_stands line depot' old new printed));
      count = refl;
    };
    ends = (refl, refl);
    whole = λ w. refl;
    blames = tt;
  }

-- ---- whatever the devices tell

pub put_unread : (name : List ℕ) (ending : Ending) (old new : SeenDepot) → StopsPut name old new ending → ¬ IsReadFault ending
put_unread name Done old new s = λ is. is
put_unread name (RefusedWords text) old new s = λ is. is
put_unread name (Refused text) old new s = λ is. is
put_unread name (Faulted text) old new s = λ is. is
put_unread name (ReadFault file) old new s = absurd s
put_unread name (FileFault file) old new s = λ is. is
put_unread name OutputFault old new s = λ is. is
put_unread name NoMemory old new s = λ is. is

pub print_unread : (text : List ℕ) (ending : Ending) (old new : SeenSink) → StopsPrint text old new ending → ¬ IsReadFault ending
print_unread text Done old new s = λ is. is
print_unread text (RefusedWords line) old new s = λ is. is
print_unread text (Refused line) old new s = λ is. is
print_unread text (Faulted line) old new s = λ is. is
print_unread text (ReadFault file) old new s = absurd s
print_unread text (FileFault file) old new s = λ is. is
print_unread text OutputFault old new s = λ is. is
print_unread text NoMemory old new s = λ is. is

-- the file is not put
pub put_keeps :
    (name : List ℕ) (ending : Ending) (old new : SeenDepot) (out : SeenSink)
    → StopsPut name old new ending
    → OnlyPuts old new
    → Keeps ending 0 (outside old out) (outside new out)
put_keeps name Done old new out s only = absurd s
put_keeps name (RefusedWords text) old new out s only = absurd s
put_keeps name (Refused text) old new out s only = absurd s
put_keeps name (Faulted text) old new out s only = absurd s
put_keeps name (ReadFault file) old new out s only = absurd s
put_keeps name (FileFault file) old new out s only = record {
  caused = s.1;
  ordered = λ refuses. refuses;
  line = tt;
  input = λ is. absurd is;
  goes_on = puts_go_on old new out out only (grows_same out);
}
put_keeps name OutputFault old new out s only = absurd s
put_keeps name NoMemory old new out s only = record {
  caused = tt;
  ordered = λ refuses. refuses;
  line = tt;
  input = λ is. absurd is;
  goes_on = puts_go_on old new out out only (grows_same out);
}

-- puts were made, and the line is not printed whole
pub line_keeps :
    (line : List ℕ) (ending : Ending) (files : ℕ) (depot depot' : SeenDepot) (old new : SeenSink)
    → StopsPrint line old new ending
    → OnlyPuts depot depot'
    → Grows old new
    → Keeps ending files (outside depot old) (outside depot' new)
line_keeps line Done files depot depot' old new s only grows = absurd s
line_keeps line (RefusedWords text) files depot depot' old new s only grows = absurd s
line_keeps line (Refused text) files depot depot' old new s only grows = absurd s
line_keeps line (Faulted text) files depot depot' old new s only grows = absurd s
line_keeps line (ReadFault file) files depot depot' old new s only grows = absurd s
line_keeps line (FileFault file) files depot depot' old new s only grows = absurd s
line_keeps line OutputFault files depot depot' old new s only grows = record {
  caused = s.1;
  ordered = λ refuses. refuses;
  line = tt;
  input = λ is. absurd is;
  goes_on = puts_go_on depot depot' old new only grows;
}
line_keeps line NoMemory files depot depot' old new s only grows = record {
  caused = tt;
  ordered = λ refuses. refuses;
  line = tt;
  input = λ is. absurd is;
  goes_on = puts_go_on depot depot' old new only grows;
}

-- puts and writes were made, and all is done
pub done_keeps :
    (files : ℕ) (depot depot' : SeenDepot) (old new : SeenSink)
    → OnlyPuts depot depot'
    → Grows old new
    → Keeps Done files (outside depot old) (outside depot' new)
done_keeps files depot depot' old new only grows = record {
  caused = tt;
  ordered = λ refuses. refuses;
  line = tt;
  input = λ is. absurd is;
  goes_on = puts_go_on depot depot' old new only grows;
}
