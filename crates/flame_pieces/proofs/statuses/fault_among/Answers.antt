use Rattle.std.proofs.Common.{[], ◌∷◌, map, ap, sym, ◌∙◌}
use Rattle.std.specs.Option.{option_or}
use Rattle.std.proofs.lemmas.List.{map-append}
use Rattle.flame_events.specs.CoreStates.{fault_in}
use Rattle.flame_pieces.specs.KeptWorks.{work_of}
use Rattle.flame_pieces.proofs.Faults.{fault_more}
use Rattle.flame_pieces.proofs.statuses.fault_among.Goals as goal

pub loop-work-preserved : goal.loop-work-preserved
loop-work-preserved c =
    c.or-fault.ensures
    ∙ ap (λ one. option_or one c.in-Some.work.fault) c.loop-work.invariant
    ∙ sym (fault_more (map work_of c.loop-work.yielded) (work_of c.in-Some.work))
    ∙ ap fault_in (sym (map-append work_of c.loop-work.yielded (c.in-Some.work ∷ [])))
