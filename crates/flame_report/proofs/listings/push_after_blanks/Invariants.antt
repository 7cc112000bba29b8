use Rattle.std.proofs.Common.{◌≡◌, ◌++◌, take, string_bytes}
use Rattle.flame_report.specs.CodeListings.{after_blanks}
use Rattle.flame_report.proofs.listings.push_after_blanks.Given as goal

abbrev pub invariant-loop-number : goal.invariant-loop-number
invariant-loop-number l =
    string_bytes l.text ≡ string_bytes l.fn.text ++ after_blanks (take l.number-index l.numbers)
