-- What a run that adds to lists comes to.
use Rattle.std.proofs.Common.{◌≡◌, List, [], ◌++◌, sym, ap, ◌∙◌, subst, refl}
use Rattle.flame_spec.specs.declared.outcomes.Outcome.{Outcome}
use Rattle.flame_spec.specs.declared.outcomes.Outcome.TheVariants as outcome
use Rattle.flame_spec.specs.declared.outcomes.Sent.{Sent}
use Rattle.flame_spec.specs.declared.outcomes.Born.{Born}
use Rattle.flame_machine.specs.declared.endings.Ending.{Ending}
use Rattle.flame_machine.specs.RunsInto.{RanInto, ending_of, messages_added, births_added, outcome_of_all}

all-added : (o : Outcome) → outcome_of_all (ending_of o) (messages_added o) (births_added o) ≡ o
all-added (outcome.Ended effect) = refl
all-added (outcome.Faulted fault) = refl

-- behind empty lists there is what the run added alone
pub ran-alone : (Holds : Outcome → Type 0) (end : Ending) (sent new_sent : List Sent) (born new_born : List Born)
    → sent ≡ [] → born ≡ []
    → RanInto Holds end sent new_sent born new_born
    → Holds (outcome_of_all end new_sent new_born)
ran-alone Holds end sent new_sent born new_born none nobody ran =
    subst Holds
    (sym (all-added ran.outcome)
    ∙ (λ i. outcome_of_all (sym ran.ends i)
    (sym (ran.messages ∙ ap (λ l. l ++ messages_added ran.outcome) none) i)
    (sym (ran.births ∙ ap (λ l. l ++ births_added ran.outcome) nobody) i)))
    ran.holds
