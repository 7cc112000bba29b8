use Rattle.std.proofs.Common.{◌≡◌, ℕ, List, true, map, take}
use Rattle.std.specs.List.{All, list_all}
use Rattle.flame_spec.specs.Below.{HasNoTwice}
use Rattle.flame_events.specs.LegalEvents.{is_over}
use Rattle.flame_pieces.specs.KeptWorks.{work_of, outputs_in}
use Rattle.flame_pieces.proofs.works.all_over.Given as goal

abbrev pub invariant-loop-work : goal.invariant-loop-work
invariant-loop-work l =
    (outputs : List ℕ) → HasNoTwice outputs → All (λ work. outputs_in work ≡ outputs) l.works
    → list_all (is_over outputs) (map work_of (take l.work-index l.works)) ≡ true
