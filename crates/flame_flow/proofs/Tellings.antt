-- Cores with histories, when events came more.
use Rattle.std.proofs.Common.{◌≡◌, ℕ, ◌+◌, true, false, List, [], ◌∷◌, ◌++◌, refl, sym, ap, ◌∙◌, append_assoc}
use Rattle.std.specs.Prelude.{not}
use Rattle.std.proofs.lemmas.Bool.{and_parts, and_from}
use Rattle.std.proofs.lemmas.Grind.{flat_map-append}
use Rattle.std.proofs.lemmas.List.{append-nil}
use Rattle.std.proofs.lemmas.List.Folds.{list_all-append}
use Rattle.flame_world.specs.Iterations.{Round}
use Rattle.flame_events.specs.declared.events.Event.{Event}
use Rattle.flame_events.specs.CoreStates.{Core}
use Rattle.flame_events.specs.EventBounds.{is_of_piece}
use Rattle.flame_events.specs.EventSteps.{after, replay, are_legal}
use Rattle.flame_events.specs.LegalEvents.{is_legal}
use Rattle.flame_events.proofs.CoreWidths.{fitting_cores_open}
use Rattle.flame_events.proofs.Growing.{histories_fit, histories_grow, replay-append}
use Rattle.flame_core.specs.SeenCores.{Seen, round_in, start_in, when_came}
use Rattle.flame_flow.specs.declared.told.Came.{Came}
use Rattle.flame_flow.specs.SeenFlows.{start_of}
use Rattle.flame_flow.specs.ToldCores.{ToldCore, IsTold, told_on, HasGrown, HasGoneOn, came_events, history_of}
use Rattle.flame_flow.proofs.GoneOn.{Known}

-- ---- what came

pub legal-parts : (round : Round) (pieces : ℕ) (core : Core) (events more : List Event) → are_legal round pieces core (events ++ more) ≡ true
    → (are_legal round pieces core events ≡ true) × (are_legal round pieces (replay round pieces core events) more ≡ true)
legal-parts round pieces core [] more legal = (refl, legal)
legal-parts round pieces core (e ∷ events) more legal =
    let next = after round pieces core e in
    let both = and_parts (is_legal round.source.model core e) (are_legal round pieces next (events ++ more)) legal in
    let rest = legal-parts round pieces next events more both.1 in
    (and_from (is_legal round.source.model core e) (are_legal round pieces next events) both.0 rest.0, rest.1)

pub told_again : (events more : List Event) (told : ToldCore) → told_on more (told_on events told) ≡ told_on (events ++ more) told
told_again events more told =
    let core = replay-append (round_in told.seen) told.seen.pieces told.seen.core events more in
    let history = append_assoc told.history events more in
    λ i. record { seen = record told.seen { core = sym core i }; history = history i }

pub told_none : (told : ToldCore) → told_on [] told ≡ told
told_none told = let history = append-nil told.history in λ i. record { seen = told.seen; history = history i }

-- a core with its history stays one
pub told_stays : (told : ToldCore) (events : List Event) → IsTold told → are_legal (round_in told.seen) told.seen.pieces told.seen.core events ≡ true → IsTold (told_on events told)
told_stays told events is legal = record {
  fits = is.fits;
  some = is.some;
  leads = histories_grow (round_in told.seen) told.seen.pieces (start_in told.seen) told.seen.core (replay (round_in told.seen) told.seen.pieces told.seen.core events)
      told.history events is.leads (record { legal = legal; left = refl });
}

pub told_known : (told : ToldCore) → IsTold told → Known (round_in told.seen) told.seen.pieces told.seen.core
told_known told is = record {
  led = record { agents = told.seen.world.agents; events = told.history; leads = is.leads };
  fits = histories_fit (round_in told.seen) told.seen.pieces (start_in told.seen) told.seen.core told.history
      (fitting_cores_open told.seen.source.model told.seen.world is.fits) is.leads;
}

-- ---- how histories are kept

history-push : (items : List Came) (came : Came) → history_of (items ++ came ∷ []) ≡ history_of items ++ came_events came
history-push items came = flat_map-append came_events items (came ∷ []) ∙ ap (λ rest. history_of items ++ rest) (append-nil (came_events came))

pub told_came : (seen next : Seen) (items last : List Came) (came : Came) (events : List Event)
    → next ≡ when_came events seen → last ≡ items ++ came ∷ [] → came_events came ≡ events
    → told_on events (record { seen = seen; history = history_of items }) ≡ record { seen = next; history = history_of last }
told_came seen next items last came events is pushed same =
    let history : history_of last ≡ history_of items ++ events = ap history_of pushed ∙ history-push items came ∙ ap (λ more. history_of items ++ more) same in
    λ i. record { seen = sym is i; history = sym history i }

-- ---- grown, and gone on

pub grown_none : (told : ToldCore) → HasGrown told told
grown_none told = record { more = []; left = sym (told_none told) }

pub grown_more : (told mid last : ToldCore) (events : List Event) → HasGrown told mid → last ≡ told_on events mid → HasGrown told last
grown_more told mid last events grown left = record {
  more = grown.more ++ events;
  left = left ∙ ap (told_on events) grown.left ∙ told_again grown.more events told;
}

pub grown_on : (told mid last : ToldCore) → HasGrown told mid → HasGrown mid last → HasGrown told last
grown_on told mid last grown on = grown_more told mid last on.more grown on.left

pub gone_grown : (told last : ToldCore) → HasGoneOn told last → HasGrown told last
gone_grown told last on = record { more = on.more; left = on.left }

pub gone_none : (told : ToldCore) → HasGoneOn told told
gone_none told = record { more = []; kinds = refl; left = sym (told_none told) }

pub gone_on : (told mid last : ToldCore) → HasGoneOn told mid → HasGoneOn mid last → HasGoneOn told last
gone_on told mid last first second = record {
  more = first.more ++ second.more;
  kinds = list_all-append (λ e. not (is_of_piece e)) first.more second.more ∙ and_from _ _ first.kinds second.kinds;
  left = second.left ∙ ap (told_on second.more) first.left ∙ told_again first.more second.more told;
}

pub gone_one : (told last : ToldCore) (e : Event) → is_of_piece e ≡ false → last ≡ told_on (e ∷ []) told → HasGoneOn told last
gone_one told last e kind left = record {
  more = e ∷ [];
  kinds = and_from (not (is_of_piece e)) true (ap not kind) refl;
  left = left;
}

-- what stays of what was seen
pub gone_round : (told last : ToldCore) → HasGoneOn told last → round_in last.seen ≡ round_in told.seen
gone_round told last on = ap (λ (t : ToldCore). round_in t.seen) on.left

pub gone_pieces : (told last : ToldCore) → HasGoneOn told last → last.seen.pieces ≡ told.seen.pieces
gone_pieces told last on = ap (λ (t : ToldCore). t.seen.pieces) on.left

pub grown_start : (told last : ToldCore) → HasGrown told last → start_of last.seen ≡ start_of told.seen
grown_start told last grown = ap (λ (t : ToldCore). start_of t.seen) grown.left

pub grown_source : (told last : ToldCore) → HasGrown told last → last.seen.source ≡ told.seen.source
grown_source told last grown = ap (λ (t : ToldCore). t.seen.source) grown.left
