-- Each line of a report ends with its line feed.
use Rattle.std.proofs.Common.{ℕ, List, ◌++◌, codes, refl, sym, ap, ◌∙◌, append_assoc}
use Rattle.flame_words.specs.declared.faults.Usage.{Usage}
use Rattle.flame_spec.specs.declared.models.Model.{Model}
use Rattle.flame_spec.specs.declared.faults.NameFault.{NameFault}
use Rattle.flame_spec.specs.declared.faults.CheckFault.{CheckFault}
use Rattle.flame_depend.specs.declared.faults.DependFault.{DependFault}
use Rattle.flame_depend.specs.declared.faults.DependFault.TheVariants.{Cycle, Starts}
use Rattle.flame_world.specs.declared.faults.SimFault.{SimFault}
use Rattle.flame_world.specs.declared.verdicts.Verdict.{Verdict}
use Rattle.flame_popfile.specs.declared.faults.PopFault.{PopFault}
use Rattle.flame_report.specs.FaultLines.{usage_line, file_line, name_line, check_line, depend_line, sim_line, trace_line}
use Rattle.flame_report.specs.PopulationLines.{population_line}
use Rattle.flame_top.specs.Standing.{IsLine}

-- ---- texts

-- a text with a line feed behind it
pub ended_is_line : (text : List ℕ) → IsLine (text ++ codes "\n")
ended_is_line text = (text, refl)

-- a line with a text before it
pub begun_is_line : (text line : List ℕ) → IsLine line → IsLine (text ++ line)
begun_is_line text line is =
    (text ++ is.0, ap (λ (rest : List ℕ). text ++ rest) is.1 ∙ sym (append_assoc text is.0 (codes "\n")))

-- ---- faults

pub usage_is_line : (fault : Usage) → IsLine (usage_line fault)
usage_is_line fault = begun_is_line (codes "usage: ") _ (ended_is_line _)

pub file_is_line : (word name : List ℕ) → IsLine (file_line word name)
file_is_line word name = ended_is_line (word ++ codes ": " ++ name)

pub name_is_line : (file : List ℕ) (fault : NameFault) → IsLine (name_line file fault)
name_is_line file fault = begun_is_line (codes "name: ") _ (ended_is_line _)

pub check_is_line : (model : Model) (fault : CheckFault) → IsLine (check_line model fault)
check_is_line model fault = begun_is_line (codes "check: ") _ (ended_is_line _)

pub depend_is_line : (model : Model) (fault : DependFault) → IsLine (depend_line model fault)
depend_is_line model (Cycle fault) = begun_is_line (codes "cycle: ") _ (ended_is_line _)
depend_is_line model (Starts fault) = begun_is_line (codes "states: ") _ (ended_is_line _)

pub population_is_line : (file : List ℕ) (fault : PopFault) → IsLine (population_line file fault)
population_is_line file fault = begun_is_line (codes "population: ") _ (ended_is_line _)

pub sim_is_line : (model : Model) (fault : SimFault) → IsLine (sim_line model fault)
sim_is_line model fault = begun_is_line (codes "fault: iteration ") _ (ended_is_line _)

pub trace_is_line : (name : List ℕ) (verdict : Verdict) → IsLine (trace_line name verdict)
trace_is_line name verdict = begun_is_line (codes "trace: ") _ (ended_is_line _)
