use Rattle.std.proofs.Common.{◌≡◌, ◌++◌, drop, string_bytes}
use Rattle.flame_spec.specs.Lists.{each, each_from}
use Rattle.flame_report.specs.CodeListings.{instr_line}
use Rattle.flame_report.proofs.listings.push_instrs.Given as goal

-- what was added, with the lines of the instructions that are left, is all lines
abbrev pub invariant-loop-at : goal.invariant-loop-at
invariant-loop-at l =
    string_bytes l.fn.text ++ each instr_line l.fn.instrs
    ≡ string_bytes l.text ++ each_from instr_line l.at (drop l.at l.instrs)
