-- The line of each refusal and fault, as it is written to err. Each ends with a line feed.
use Rattle.std.specs.Prelude.{ℕ, List, [], ◌++◌, take, codes, decimal, Option, Some, None}
use Rattle.std.specs.Fmt.{signed_decimal}
use Rattle.flame_words.specs.declared.faults.Usage.{Usage}
use Rattle.flame_words.specs.UsageTexts.{fault_name, word_number, missing_word}
use Rattle.flame_xmml.specs.declared.faults.Shape.{Shape}
use Rattle.flame_xmml.specs.WantNames.{name_of_want}
use Rattle.flame_nest.specs.declared.faults.NestFault.{NestFault}
use Rattle.flame_nest.specs.NestKindNames.{name_of_nest_kind}
use Rattle.flame_spec.specs.declared.models.Model.{Model}
use Rattle.flame_spec.specs.declared.faults.NameFault.{NameFault}
use Rattle.flame_spec.specs.declared.faults.CheckFault.{CheckFault}
use Rattle.flame_spec.specs.declared.faults.CheckKind.{CheckKind}
use Rattle.flame_spec.specs.declared.faults.CheckKind.TheVariants.{MissingFunction}
use Rattle.flame_spec.specs.KindNames.{name_of_kind, name_of_check_kind}
use Rattle.flame_lex.specs.declared.fault.LexFault.{LexFault}
use Rattle.flame_lex.specs.LexFaults.{offset_of, name_of as name_of_lex}
use Rattle.flame_expr.specs.declared.faults.ParseFault.{ParseFault}
use Rattle.flame_expr.specs.ParseFaults.{token_of, name_of as name_of_parse}
use Rattle.flame_world.specs.declared.faults.SimFault.{SimFault}
use Rattle.flame_world.specs.declared.verdicts.Verdict.{Verdict}
use Rattle.flame_world.specs.declared.verdicts.Verdict.TheVariants.{Yes, Form, OtherStart, Illegal, Incomplete}
use Rattle.flame_world.specs.declared.verdicts.Verdict.TheVariants.{OtherEnd}
use Rattle.flame_depend.specs.declared.faults.DependFault.{DependFault}
use Rattle.flame_depend.specs.declared.faults.DependFault.TheVariants.{Cycle, Starts}
use Rattle.flame_ops.specs.CauseNames.{name_of_cause}
use Rattle.flame_report.specs.LineParts.{function_name, type_name, function_file, with_between}
use Rattle.flame_report.specs.LineParts.{memory_of, memory_text}

-- ---- words and files

-- ` at word K`, where a word is at fault [own]
abbrev pub word_part : Option ℕ → List ℕ
word_part None = []
word_part (Some number) = codes " at word " ++ decimal number

-- ` WHAT`, where something is missing [own]
abbrev pub missing_part : Option (List ℕ) → List ℕ
missing_part None = []
missing_part (Some what) = codes " " ++ what

-- usage: NoCommand, usage: Missing WHAT, or usage: KIND at word K: a fault has the number of a word, or what is missing, or
-- neither [own]
abbrev pub usage_line : Usage → List ℕ
usage_line fault =
    codes "usage: " ++ fault_name fault
    ++ word_part (word_number fault)
    ++ missing_part (missing_word fault)
    ++ codes "\n"

-- WORD: NAME [own]
abbrev pub file_line : List ℕ → List ℕ → List ℕ
file_line word name = word ++ codes ": " ++ name ++ codes "\n"

-- missing: NAME, where there is no such file [own]
abbrev pub missing_line : List ℕ → List ℕ
missing_line name = file_line (codes "missing") name

-- too large: NAME, where the file is longer than it may be [own]
abbrev pub too_large_line : List ℕ → List ℕ
too_large_line name = file_line (codes "too large") name

-- not JSON: NAME, where the file is no JSON [own]
abbrev pub not_json_line : List ℕ → List ℕ
not_json_line name = file_line (codes "not JSON") name

-- too many: NAME, of the first model file that is one too many [own]
abbrev pub too_many_line : List ℕ → List ℕ
too_many_line name = file_line (codes "too many") name

-- read fault: NAME, where the file could not be read [own]
abbrev pub read_fault_line : List ℕ → List ℕ
read_fault_line name = file_line (codes "read fault") name

-- write fault: NAME, where the file could not be written [own]
abbrev pub write_fault_line : List ℕ → List ℕ
write_fault_line name = file_line (codes "write fault") name

-- write fault: output, where what is printed could not be written [own]
abbrev pub output_fault_line : List ℕ
output_fault_line = write_fault_line (codes "output")

-- ---- models

-- shape: FILE: PATH: wanted WANT [own]
abbrev pub shape_line : List ℕ → Shape → List ℕ
shape_line file fault =
    codes "shape: " ++ file
    ++ codes ": " ++ fault.path
    ++ codes ": wanted " ++ name_of_want fault.want
    ++ codes "\n"

-- nest: FILE: KIND: NAME [own]
abbrev pub nest_line : NestFault → List ℕ
nest_line fault =
    codes "nest: " ++ fault.file
    ++ codes ": " ++ name_of_nest_kind fault.kind
    ++ codes ": " ++ fault.name
    ++ codes "\n"

-- name: FILE: PATH: KIND: NAME [own]
abbrev pub name_line : List ℕ → NameFault → List ℕ
name_line file fault =
    codes "name: " ++ file
    ++ codes ": " ++ fault.path
    ++ codes ": " ++ name_of_kind fault.kind
    ++ codes ": " ++ fault.name
    ++ codes "\n"

-- ---- function files

-- lex: FILE: KIND at byte N [own]
abbrev pub lex_line : List ℕ → LexFault → List ℕ
lex_line file fault =
    codes "lex: " ++ file
    ++ codes ": " ++ name_of_lex fault
    ++ codes " at byte " ++ decimal (offset_of fault)
    ++ codes "\n"

-- syntax: FILE: line L: KIND at token N [own]
abbrev pub parse_line : List ℕ → ℕ → ParseFault → List ℕ
parse_line file line fault =
    codes "syntax: " ++ file
    ++ codes ": line " ++ decimal line
    ++ codes ": " ++ name_of_parse fault
    ++ codes " at token " ++ decimal (token_of fault)
    ++ codes "\n"

-- where a fault stands in the function files, as this text says; a function that they lack stands nowhere [own]
abbrev pub location_part : CheckKind → List ℕ → List ℕ
location_part MissingFunction location = []
location_part kind location = location

-- check: FILE: line L: KIND: NAME, or check: MissingFunction: NAME [own]
abbrev pub check_line : Model → CheckFault → List ℕ
check_line model fault =
    codes "check: "
    ++ location_part fault.kind (function_file model fault.file ++ codes ": line " ++ decimal fault.line ++ codes ": ")
    ++ name_of_check_kind fault.kind
    ++ codes ": " ++ fault.name
    ++ codes "\n"

-- ---- the order of functions

-- cycle: A.f -> B.g -> A.f, the first function again at the end [own]
abbrev pub cycle_line : Model → List ℕ → List ℕ
cycle_line model functions =
    codes "cycle: "
    ++ with_between (codes " -> ") (function_name model) (functions ++ take 1 functions)
    ++ codes "\n"

-- states: TYPE: S, T, all start states [own]
abbrev pub starts_line : Model → ℕ → List (List ℕ) → List ℕ
starts_line model agent states =
    codes "states: " ++ type_name model agent
    ++ codes ": " ++ with_between (codes ", ") (λ state. state) states
    ++ codes "\n"

-- the line of a cycle, or of start states [own]
abbrev pub depend_line : Model → DependFault → List ℕ
depend_line model (Cycle fault) = cycle_line model fault.functions
depend_line model (Starts fault) = starts_line model fault.agent fault.states

-- ---- runs

-- fault: iteration I: TYPE.FUNCTION: CAUSE at line L: memory x=1 y=[2,3], with nothing behind `memory` where the type has no
-- variables [own]
abbrev pub sim_line : Model → SimFault → List ℕ
sim_line model fault =
    codes "fault: iteration " ++ signed_decimal fault.iteration
    ++ codes ": " ++ function_name model fault.function
    ++ codes ": " ++ name_of_cause fault.cause
    ++ codes " at line " ++ decimal fault.line
    ++ codes ": memory" ++ memory_text (memory_of model fault.function) fault.memory
    ++ codes "\n"

-- ---- traces

-- KIND at line L, of a verdict that refuses a trace; Yes has no line [own]
abbrev pub verdict_part : Verdict → List ℕ
verdict_part (Yes events) = []
verdict_part (Form line) = codes "Form" ++ codes " at line " ++ decimal line
verdict_part (OtherStart line) = codes "OtherStart" ++ codes " at line " ++ decimal line
verdict_part (Illegal line) = codes "Illegal" ++ codes " at line " ++ decimal line
verdict_part (Incomplete line) = codes "Incomplete" ++ codes " at line " ++ decimal line
verdict_part (OtherEnd line) = codes "OtherEnd" ++ codes " at line " ++ decimal line

-- trace: FILE: KIND at line L, of a trace that is refused [own]
abbrev pub trace_line : List ℕ → Verdict → List ℕ
trace_line file verdict = codes "trace: " ++ file ++ codes ": " ++ verdict_part verdict ++ codes "\n"
