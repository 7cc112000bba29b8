-- The names of kinds of name faults and check faults, as they are printed.
use Rattle.std.specs.Prelude.{ℕ, List, codes}
use Rattle.flame_spec.specs.declared.faults.NameKind.{NameKind}
use Rattle.flame_spec.specs.declared.faults.NameKind.TheVariants.{Duplicate, Clash, UnknownMessage, UnknownVariable}
use Rattle.flame_spec.specs.declared.faults.NameKind.TheVariants.{UnknownUnit, FunctionShared, RandomOrder, LongUnit}
use Rattle.flame_spec.specs.declared.faults.NameKind.TheVariants.{NotSingle, TooWide}
use Rattle.flame_spec.specs.declared.faults.CheckKind.{CheckKind}
use Rattle.flame_spec.specs.declared.faults.CheckKind.TheVariants.{MissingFunction, DefinedTwice, UnknownName, Redeclared}
use Rattle.flame_spec.specs.declared.faults.CheckKind.TheVariants.{UnknownCall, WrongCount, NotOutput, NotInput}
use Rattle.flame_spec.specs.declared.faults.CheckKind.TheVariants.{OutsideLoop, NestedSame, LoopMismatch, StrayBreak}
use Rattle.flame_spec.specs.declared.faults.CheckKind.TheVariants.{ReadOnly, NotArray, NeedsIndex, WrongLength}
use Rattle.flame_spec.specs.declared.faults.CheckKind.TheVariants.{HasParameters, Recursive, DeepCalls}

-- the name of a kind of name faults [own]
abbrev pub name_of_kind : NameKind → List ℕ
name_of_kind Duplicate = codes "Duplicate"
name_of_kind Clash = codes "Clash"
name_of_kind UnknownMessage = codes "UnknownMessage"
name_of_kind UnknownVariable = codes "UnknownVariable"
name_of_kind UnknownUnit = codes "UnknownUnit"
name_of_kind FunctionShared = codes "FunctionShared"
name_of_kind RandomOrder = codes "RandomOrder"
name_of_kind LongUnit = codes "LongUnit"
name_of_kind NotSingle = codes "NotSingle"
name_of_kind TooWide = codes "TooWide"

-- the name of a kind of check faults [own]
abbrev pub name_of_check_kind : CheckKind → List ℕ
name_of_check_kind MissingFunction = codes "MissingFunction"
name_of_check_kind DefinedTwice = codes "DefinedTwice"
name_of_check_kind UnknownName = codes "UnknownName"
name_of_check_kind Redeclared = codes "Redeclared"
name_of_check_kind UnknownCall = codes "UnknownCall"
name_of_check_kind WrongCount = codes "WrongCount"
name_of_check_kind NotOutput = codes "NotOutput"
name_of_check_kind NotInput = codes "NotInput"
name_of_check_kind OutsideLoop = codes "OutsideLoop"
name_of_check_kind NestedSame = codes "NestedSame"
name_of_check_kind LoopMismatch = codes "LoopMismatch"
name_of_check_kind StrayBreak = codes "StrayBreak"
name_of_check_kind ReadOnly = codes "ReadOnly"
name_of_check_kind NotArray = codes "NotArray"
name_of_check_kind NeedsIndex = codes "NeedsIndex"
name_of_check_kind WrongLength = codes "WrongLength"
name_of_check_kind HasParameters = codes "HasParameters"
name_of_check_kind Recursive = codes "Recursive"
name_of_check_kind DeepCalls = codes "DeepCalls"
