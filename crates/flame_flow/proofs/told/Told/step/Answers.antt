-- An event comes, and is noted.
use Rattle.std.proofs.Common.{◌∷◌, ◌++◌, [], refl, subst, ◌∙◌, ap}
use Rattle.std.proofs.lemmas.Bool.{and_from}
use Rattle.std.specs.Prelude.{true}
use Rattle.flame_core.specs.CoreCalls.{allows}
use Rattle.flame_flow.specs.declared.told.Came.{Came}
use Rattle.flame_flow.specs.ToldCores.{IsTold, history_of}
use Rattle.flame_flow.proofs.Tellings.{told_came, told_stays}
use Rattle.flame_flow.proofs.told.Told.step.Goals as goal

pub invariant_of-self-2 : goal.invariant_of-self-2
invariant_of-self-2 c =
    let seen = c.self.inside.core in
    let items = c.self.inside.history.items in
    let came : Came = record { event = c.args.event; times = 1 } in
    let happened = c.in-Ok.ensures.ok in
    subst IsTold
    (told_came seen c.step.new.self items c.push_reserved.new.self.items came (c.args.event ∷ []) happened.left
    (c.push_reserved.ensures.items ∙ ap (λ list. list ++ came ∷ []) c.reserve.ensures.items) refl)
    (told_stays (record { seen = seen; history = history_of items }) (c.args.event ∷ []) c.self.invariant (and_from (allows seen c.args.event) true happened.legal refl))
