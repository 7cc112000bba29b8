-- A trial whose inputs are read, or give nothing.
use Rattle.std.proofs.Common.{◌≡◌, ℕ, List, Result, Ok, Err, refl, sym, ap, subst}
use Rattle.flame_outside.specs.Devices.{SeenDepot, SeenSink}
use Rattle.flame_outside.specs.Scripts.{Outside, outside}
use Rattle.flame_outside.proofs.FrameLemmas.{reads_same}
use Rattle.flame_load.specs.InputReads.{Reading, answer_behind, ◌>>=◌}
use Rattle.flame_top.specs.declared.ending.Ending.{Ending}
use Rattle.flame_top.specs.declared.ending.Ending.TheVariants.{Done, RefusedWords, Refused, Faulted, ReadFault, FileFault, OutputFault, NoMemory}
use Rattle.flame_top.specs.Reports.{Report, report_or, report_in}
use Rattle.flame_top.specs.OrderReports.{trial_of}
use Rattle.flame_top.specs.InputAnswers.{Stops, StopsReading, IsReadFault}
use Rattle.flame_top.specs.Standing.{Stands, Keeps}
use Rattle.flame_top.proofs.Standings.{unchanged, keeps_stopped}

-- ---- behind an input

-- of what is read the trial is that of what comes behind the input that is given
pub behind_input :
    {X : Type 0} (reading : Reading (List ℕ) X) (next : X → Reading (List ℕ) Report) (x : X)
    → reading.answer ≡ Ok x
    → trial_of (report_in (next x)) ≡ trial_of (report_in (reading >>= next))
unfolding ◌>>=◌
behind_input {X = X} reading next x given =
    ap (λ (answer : Result X (List ℕ)). trial_of (report_or (answer_behind answer next))) (sym given)

-- ---- where an input gives nothing

-- memory was not found before anything was done
pub lacks_memory : (report : Report) (old : Outside) → Stands NoMemory 0 report old old
lacks_memory report old = unchanged NoMemory report old old refl tt (λ w. absurd w) tt

-- an input is refused
refused_stands : (line : List ℕ) (old : Outside) → Stands (Refused line) 0 (trial_of (report_or (Err line))) old old
refused_stands line old =
    unchanged (Refused line) (trial_of (report_or (Err line))) old old refl (refl, refl) (λ w. refl) tt

pub stops_at_input :
    {X : Type 0} (reading : Reading (List ℕ) X) (next : X → Reading (List ℕ) Report) (ending : Ending) (old : Outside)
    → Stops ending reading
    → ¬ IsReadFault ending
    → Stands ending 0 (trial_of (report_in (reading >>= next))) old old
unfolding ◌>>=◌
stops_at_input reading next Done old s read = absurd s
stops_at_input {X = X} reading next (Refused line) old s read =
    subst
    (λ (answer : Result X (List ℕ)). Stands (Refused line) 0 (trial_of (report_or (answer_behind answer next))) old old)
    (sym s) (refused_stands line old)
stops_at_input reading next (RefusedWords line) old s read = absurd s
stops_at_input reading next (Faulted line) old s read = absurd s
stops_at_input reading next (ReadFault name) old s read = absurd (read tt)
stops_at_input reading next (FileFault name) old s read = absurd s
stops_at_input reading next OutputFault old s read = absurd s
stops_at_input reading next NoMemory old s read = lacks_memory (trial_of (report_in (reading >>= next))) old

pub keeps_at_input :
    (ending : Ending) (depot : SeenDepot) (out : SeenSink)
    → StopsReading ending
    → ¬ IsReadFault ending
    → Keeps ending 0 (outside depot out) (outside depot out)
keeps_at_input ending depot out stops unread =
    keeps_stopped ending depot depot out stops (λ r. absurd (unread r)) (reads_same depot)
