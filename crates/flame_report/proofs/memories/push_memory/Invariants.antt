use Rattle.std.proofs.Common.{◌≡◌, ◌++◌, drop, string_bytes}
use Rattle.flame_report.specs.LineParts.{memory_text}
use Rattle.flame_report.proofs.memories.push_memory.Given as goal

-- what was added, with the rest of the variables over the rest of the row, is the memory
abbrev pub invariant-loop-variable : goal.invariant-loop-variable
invariant-loop-variable l =
    string_bytes l.fn.text ++ memory_text l.fn.variables l.fn.row
    ≡ string_bytes l.text ++ memory_text (drop l.variable-index l.variables) l.rest
