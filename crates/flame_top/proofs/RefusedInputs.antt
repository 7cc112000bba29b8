-- Inputs that are refused or not read: how the order ends.
use Rattle.std.proofs.Common.{◌≡◌, ℕ, List, [], ◌∷◌, Result, Ok, Err, sym, ap, ◌∙◌, subst}
use Rattle.std.specs.Prelude.{IfOk, Contains, codes}
use Rattle.std.proofs.lemmas.List.Elements.{Contains-append_left, Contains-push}
use Rattle.flame_outside.specs.Files.{Files}
use Rattle.flame_spec.specs.declared.models.Model.{Model}
use Rattle.flame_spec.specs.declared.outcomes.Source.{Source}
use Rattle.flame_load.specs.declared.faults.LoadFail.{LoadFail}
use Rattle.flame_load.specs.declared.faults.LoadFail.TheVariants as load
use Rattle.flame_load.specs.declared.faults.LoadFault.{LoadFault}
use Rattle.flame_load.specs.declared.faults.LoadFault.TheVariants.{Missing, TooLarge, NotJson, Shape, Name, Lex, Parse}
use Rattle.flame_load.specs.declared.faults.LoadFault.TheVariants.{Check, Depend, Nest, TooMany}
use Rattle.flame_load.specs.declared.starts.StartFail.{StartFail}
use Rattle.flame_load.specs.declared.starts.StartFail.TheVariants as start
use Rattle.flame_load.specs.FileReads.{value_in}
use Rattle.flame_load.specs.InputReads.{Reading, input, inputs_behind, ◌>>=◌}
use Rattle.flame_load.specs.LoadAnswers.{Stops as StopsLoad, TellsOf, TellsOfNone}
use Rattle.flame_load.specs.LoadRefusals.{Refusal}
use Rattle.flame_load.specs.StartAnswers.{StopsStart}
use Rattle.flame_load.specs.StartReads.{of_file, population_limit, start_in, starting}
use Rattle.flame_top.specs.declared.ending.Ending.{Ending}
use Rattle.flame_top.specs.declared.ending.Ending.TheVariants.{Done, RefusedWords, Refused, Faulted}
use Rattle.flame_top.specs.declared.ending.Ending.TheVariants.{ReadFault, FileFault as OfFile, OutputFault, NoMemory}
use Rattle.flame_top.specs.InputAnswers.{Stops, StopsReading, IsLoadEnding, IsStartEnding, line_ending}
use Rattle.flame_top.specs.OrderReports.{start_read}
use Rattle.flame_top.specs.RefusalLines.{files_line, model_line, load_line, start_line, answer_told, in_lines}
use Rattle.flame_top.specs.Standing.{IsLine}
use Rattle.flame_top.proofs.ReportLines.{ended_is_line, begun_is_line, file_is_line, name_is_line, check_is_line}
use Rattle.flame_top.proofs.ReportLines.{depend_is_line}

-- ---- the lines of refusals

-- an ending by a line, or by want of memory for it
pub line_stops :
    {E : Type 0} (line : List ℕ) (text : Result (List ℕ) E) (ending : Ending)
    → IsLine line
    → IfOk text (λ told. told ≡ line)
    → ending ≡ line_ending text
    → StopsReading ending
line_stops line (Ok told) ending is_line is same = subst StopsReading (sym same) (subst IsLine (sym is) is_line)
line_stops line (Err fail) ending is_line is same = subst StopsReading (sym same) tt

pub files_is_line : (root : List ℕ) (fault : LoadFault) → TellsOfNone fault → IsLine (files_line root fault)
files_is_line root (Missing name) none = file_is_line (codes "missing") name
files_is_line root (TooLarge name) none = file_is_line (codes "too large") name
files_is_line root (NotJson name) none = file_is_line (codes "not JSON") name
files_is_line root (Shape name shape) none = begun_is_line (codes "shape: ") _ (ended_is_line _)
files_is_line root (Name fault) none = name_is_line root fault
files_is_line root (Lex name fault) none = begun_is_line (codes "lex: ") _ (ended_is_line _)
files_is_line root (Parse name line fault) none = begun_is_line (codes "syntax: ") _ (ended_is_line _)
files_is_line root (Check fault) none = absurd none
files_is_line root (Depend fault) none = absurd none
files_is_line root (Nest fault) none = begun_is_line (codes "nest: ") _ (ended_is_line _)
files_is_line root (TooMany name) none = file_is_line (codes "too many") name

pub model_is_line : (model : Model) (fault : LoadFault) → TellsOf model fault → IsLine (model_line model fault)
model_is_line model (Missing name) of = absurd of
model_is_line model (TooLarge name) of = absurd of
model_is_line model (NotJson name) of = absurd of
model_is_line model (Shape name shape) of = absurd of
model_is_line model (Name fault) of = absurd of
model_is_line model (Lex name fault) of = absurd of
model_is_line model (Parse name line fault) of = absurd of
model_is_line model (Check fault) of = check_is_line model fault
model_is_line model (Depend fault) of = depend_is_line model fault
model_is_line model (Nest fault) of = absurd of
model_is_line model (TooMany name) of = absurd of

-- ---- models

-- what stops the loading stops the reading by its line
pub load_stops :
    {X : Type 0} (root : List ℕ) (fail : LoadFail) (ending : Ending) (reading : Reading Refusal X)
    → StopsLoad fail reading
    → IsLoadEnding root fail ending
    → Stops ending (in_lines (load_line root) reading)
load_stops root fail Done reading stops is = absurd is
load_stops root fail (RefusedWords line) reading stops is = absurd is
load_stops root (load.Refused fault) (Refused line) reading stops is =
    ap (answer_told (load_line root)) stops ∙ ap Err (sym is)
load_stops root (load.RefusedModel fault model) (Refused line) reading stops is =
    ap (answer_told (load_line root)) stops ∙ ap Err (sym is)
load_stops root (load.ReadFault input) (Refused line) reading stops is = absurd is
load_stops root load.NoMemory (Refused line) reading stops is = absurd is
load_stops root fail (Faulted line) reading stops is = absurd is
load_stops root (load.Refused fault) (ReadFault name) reading stops is = absurd is
load_stops root (load.RefusedModel fault model) (ReadFault name) reading stops is = absurd is
load_stops root (load.ReadFault input) (ReadFault name) reading stops is = subst (Contains reading.inputs) (sym is) stops
load_stops root load.NoMemory (ReadFault name) reading stops is = absurd is
load_stops root fail (OfFile name) reading stops is = absurd is
load_stops root fail OutputFault reading stops is = absurd is
load_stops root fail NoMemory reading stops is = tt

-- ---- populations

-- the one input of a population is read
pub reads_population :
    (told : Files) (model : Model) (turns : ℕ) (name : List ℕ) → Contains (starting told model turns name).inputs name
unfolding ◌>>=◌
reads_population told model turns name =
    let population = input of_file name (value_in told population_limit name) in
    Contains-append_left (name ∷ []) (inputs_behind population.answer (start_in model turns)) name
    (Contains-push [] name)

-- what stops the start stops the reading by its line
pub start_stops :
    (told : Files) (source : Source) (turns : ℕ) (name : List ℕ) (fail : StartFail) (ending : Ending)
    → StopsStart fail (starting told source.model turns name)
    → IsStartEnding name fail ending
    → Stops ending (start_read told source turns name)
start_stops told source turns name fail Done stops is = absurd is
start_stops told source turns name fail (RefusedWords line) stops is = absurd is
start_stops told source turns name start.Missing (Refused line) stops is =
    ap (answer_told (start_line name)) stops ∙ ap Err (sym is)
start_stops told source turns name start.TooLarge (Refused line) stops is =
    ap (answer_told (start_line name)) stops ∙ ap Err (sym is)
start_stops told source turns name start.NotJson (Refused line) stops is =
    ap (answer_told (start_line name)) stops ∙ ap Err (sym is)
start_stops told source turns name (start.Pop fault) (Refused line) stops is =
    ap (answer_told (start_line name)) stops ∙ ap Err (sym is)
start_stops told source turns name start.ReadFault (Refused line) stops is = absurd is
start_stops told source turns name start.NoMemory (Refused line) stops is = absurd is
start_stops told source turns name fail (Faulted line) stops is = absurd is
start_stops told source turns name start.Missing (ReadFault input) stops is = absurd is
start_stops told source turns name start.TooLarge (ReadFault input) stops is = absurd is
start_stops told source turns name start.NotJson (ReadFault input) stops is = absurd is
start_stops told source turns name (start.Pop fault) (ReadFault input) stops is = absurd is
start_stops told source turns name start.ReadFault (ReadFault input) stops is =
    subst (Contains (starting told source.model turns name).inputs) (sym is)
    (reads_population told source.model turns name)
start_stops told source turns name start.NoMemory (ReadFault input) stops is = absurd is
start_stops told source turns name fail (OfFile input) stops is = absurd is
start_stops told source turns name fail OutputFault stops is = absurd is
start_stops told source turns name fail NoMemory stops is = tt
