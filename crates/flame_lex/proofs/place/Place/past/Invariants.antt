use Rattle.std.proofs.Common.{◌≡◌, ℕ, ◌+◌, List, ◌++◌, take}
use Rattle.flame_lex.specs.LexSteps.{IsPlace}
use Rattle.flame_lex.proofs.place.Place.past.Given as goal

abbrev pub invariant-loop-b : goal.invariant-loop-b
invariant-loop-b l = record {
  at : l.place.at ≡ l.fn.self.at + l.b-index;
  behind : (before : List ℕ) → IsPlace before l.fn.self → IsPlace (before ++ take l.b-index l.bytes) l.place;
}
