-- Verdicts on traces.
use Rattle.std.specs.Prelude.{Bool, true, false}
use Rattle.flame_world.specs.declared.verdicts.Verdict.{Verdict}
use Rattle.flame_world.specs.declared.verdicts.Verdict.TheVariants.{Yes, Form, OtherStart, Illegal, Incomplete}
use Rattle.flame_world.specs.declared.verdicts.Verdict.TheVariants.{OtherEnd}

-- the trace tells the iteration [own]
abbrev pub is_yes : Verdict → Bool
is_yes (Yes events) = true
is_yes (Form line) = false
is_yes (OtherStart line) = false
is_yes (Illegal line) = false
is_yes (Incomplete line) = false
is_yes (OtherEnd line) = false
