use Rattle.std.proofs.Common.{take}
use Rattle.std.specs.List.{AllZip}
use Rattle.flame_program.specs.SourceInputs.{IsSelectorOf}
use Rattle.flame_program.proofs.reading.selectors_in.Given as goal

abbrev pub invariant-loop-input : goal.invariant-loop-input
invariant-loop-input l = AllZip (IsSelectorOf l.model l.agent) (take l.input-index l.inputs) l.selectors.items
