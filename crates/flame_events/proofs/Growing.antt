-- Histories grow at their end, and what fits stays so along them.
use Rattle.std.proofs.Common.{◌≡◌, ℕ, List, [], ◌∷◌, ◌++◌, true, refl, sym, ap, ◌∙◌, subst}
use Rattle.std.proofs.lemmas.Bool.{and_parts, and_from}
use Rattle.flame_world.specs.Iterations.{Round}
use Rattle.flame_events.specs.declared.events.Event.{Event}
use Rattle.flame_events.specs.CoreStates.{Core}
use Rattle.flame_events.specs.LegalEvents.{is_legal}
use Rattle.flame_events.specs.EventSteps.{after, replay, are_legal}
use Rattle.flame_events.specs.CoreFits.{FitsCore}
use Rattle.flame_events.specs.Histories.{HistoriesGrow, HistoriesFit}
use Rattle.flame_events.proofs.CoreWidths.{fitting_cores_stay}

pub replay-append : (round : Round) (pieces : ℕ) (core : Core) (events more : List Event)
    → replay round pieces core (events ++ more) ≡ replay round pieces (replay round pieces core events) more
replay-append round pieces core [] more = refl
replay-append round pieces core (e ∷ events) more = replay-append round pieces (after round pieces core e) events more

legal-append : (round : Round) (pieces : ℕ) (core : Core) (events more : List Event)
    → are_legal round pieces core events ≡ true → are_legal round pieces (replay round pieces core events) more ≡ true
    → are_legal round pieces core (events ++ more) ≡ true
legal-append round pieces core [] more legal later = later
legal-append round pieces core (e ∷ events) more legal later =
    let next = after round pieces core e in
    let both = and_parts (is_legal round.source.model core e) (are_legal round pieces next events) legal in
    and_from (is_legal round.source.model core e) (are_legal round pieces next (events ++ more)) both.0 (legal-append round pieces next events more both.1 later)

pub histories_grow : HistoriesGrow
histories_grow round pieces start core last events more first then_more = record {
  legal = legal-append round pieces start events more first.legal (subst (λ c. are_legal round pieces c more ≡ true) first.left then_more.legal);
  left = then_more.left ∙ ap (λ c. replay round pieces c more) first.left ∙ sym (replay-append round pieces start events more);
}

fits_replay : (round : Round) (pieces : ℕ) (core : Core) (events : List Event) → FitsCore round.source.model core
    → are_legal round pieces core events ≡ true → FitsCore round.source.model (replay round pieces core events)
fits_replay round pieces core [] fits legal = fits
fits_replay round pieces core (e ∷ events) fits legal =
    let next = after round pieces core e in
    let both = and_parts (is_legal round.source.model core e) (are_legal round pieces next events) legal in
    fits_replay round pieces next events (fitting_cores_stay round pieces core e fits both.0) both.1

pub histories_fit : HistoriesFit
histories_fit round pieces start core events fits leads =
    subst (FitsCore round.source.model) (sym leads.left) (fits_replay round pieces start events fits leads.legal)
