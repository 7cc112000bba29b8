-- Every order of events comes to the iteration.
use Rattle.std.proofs.Common.{◌≡◌, ℕ, Bool, true, false, cond, List, [], ◌∷◌, ◌++◌, length, map, Option, Some, None, refl, sym, ap, ◌∙◌, arith, subst}
use Rattle.std.specs.Prelude.{slice_get}
use Rattle.std.specs.List.{zip}
use Rattle.std.proofs.lemmas.Bool.{true≢false}
use Rattle.std.proofs.lemmas.List.{length-map}
use Rattle.flame_rows.specs.Order.{row_order}
use Rattle.flame_rows.specs.Sorted.{IsAscending}
use Rattle.flame_rows.specs.Bags.{ascending, weigh}
use Rattle.flame_rows.proofs.BagLaws.{IsAscending-ascending, weigh-append}
use Rattle.flame_rows.proofs.Lists.{slice_index_or-map_one}
use Rattle.flame_spec.specs.declared.models.Model.{Model}
use Rattle.flame_spec.specs.declared.models.AgentType.{AgentType}
use Rattle.flame_spec.specs.declared.models.MessageType.{MessageType}
use Rattle.flame_spec.specs.Before.{function_count}
use Rattle.flame_spec.specs.Below.{is_in}
use Rattle.flame_spec.specs.Functions.{functions}
use Rattle.flame_spec.specs.ModelOrder.{model_order}
use Rattle.flame_spec.specs.States.{states, is_entered}
use Rattle.flame_meaning.specs.RangeLaws.{Each}
use Rattle.flame_spec_laws.specs.NameLaws.{MessagesDiffer}
use Rattle.flame_world.specs.Fields.{begun, opening}
use Rattle.flame_world.specs.Iterations.{Round, unless_faulted, turn_of, steps, round_of}
use Rattle.flame_world.proofs.Changing.{pool-IsAscending}
use Rattle.flame_world.proofs.Counting.{pools_begin}
use Rattle.flame_world.proofs.Eachs.{mapped}
use Rattle.flame_events.specs.CoreStates.{Status, Waiting, is_waiting, status_of, opening_core}
use Rattle.flame_events.specs.LegalEvents.{outputs_of}
use Rattle.flame_events.specs.EventSteps.{replay}
use Rattle.flame_events.specs.CoreEnds.{first_fault}
use Rattle.flame_events.specs.EveryOrder.{EveryOrderIsTheIteration}
use Rattle.flame_events.proofs.Weights.{Rows, Weight, weigh-same, only, all_from, weigh-all_from-none}
use Rattle.flame_events.proofs.Spots.{Spot, same_spot, enters, pool_at, state_at, choice_at}
use Rattle.flame_events.proofs.Holding.{Ideal, into, onto, bore, rests, resting, Holds}
use Rattle.flame_events.proofs.Serial.{ideal, first_should}
use Rattle.flame_events.proofs.SerialEnds.{one_end, serial_end}
use Rattle.flame_events.proofs.Works.{ran_rows, handed_rows, Fits}
use Rattle.flame_events.proofs.Sound.{Sound}
use Rattle.flame_events.proofs.Legality.{sound_replay}
use Rattle.flame_events.proofs.Messages.{accepted_sends}
use Rattle.flame_events.proofs.Ends.{core_end}
use Rattle.flame_events.proofs.GoingOn.{can_go_on}

-- ---- where an iteration begins

begun_up : (type : AgentType) (agents : Rows) → Each (IsAscending row_order) (begun type agents)
begun_up type agents =
    mapped (IsAscending row_order) (λ state. cond (is_entered type.functions state) [] (ascending agents))
    (λ state. elim (is_entered type.functions state) as (λ b. IsAscending row_order (cond b [] (ascending agents))) [
      | true ↦ tt
      | false ↦ IsAscending-ascending agents
    ])
    (states type.functions)

pools_up : (model : Model) (agents : List Rows) → Each (λ own. Each (IsAscending row_order) own) (opening model agents).pools
pools_up model agents = go model.agents agents
  where
    go : (types : List AgentType) (bags : List Rows) → Each (λ own. Each (IsAscending row_order) own) (map (λ (type, bag). begun type bag) (zip types bags))
    go [] bags = tt
    go (type ∷ types) [] = tt
    go (type ∷ types) (bag ∷ bags) = (begun_up type bag, go types bags)

nothing_from : (b : Bool) (w : Weight) → weigh w (cond b [] []) ≡ 0
nothing_from true w = refl
nothing_from false w = refl

always : (o : Option ℕ) → rests (λ f. true) o ≡ true
always None = refl
always (Some f) = refl

pub Holds-opening : (round : Round) (agents : List Rows) (t : Ideal) → length agents ≡ length round.source.model.agents
    → Holds round (λ p. pool_at round.source.model (opening round.source.model agents).pools p) t (opening round.source.model agents) (λ f. true) (λ g. []) (λ m g. [])
Holds-opening round agents t many =
    let model = round.source.model in
    let n = function_count model in
    let field = opening model agents in
    let from = λ (p : Spot). pool_at model field.pools p in
    record {
      pools = λ p w.
          let none = weigh-all_from-none w n (into model t (λ g. []) p) (λ g. nothing_from (same_spot (enters model g) p) w) in
          let all = weigh-same (only (resting round (λ f. true) p) w) w (from p ++ all_from n (into model t (λ g. []) p))
          (λ memory. ap (λ b. cond b (w memory) 0) (always (choice_at round p memory))) in
          omega (arith, none, all, weigh-append w (from p) (all_from n (into model t (λ g. []) p)));
      boards = λ m w less.
          ap (weigh w) (slice_index_or-map_one [] model.messages m)
          ∙ sym (weigh-all_from-none w n (onto model t (λ g. []) m) (λ g. nothing_from (is_in m (outputs_of model g)) w));
      born = λ k w less.
          ap (weigh w) (slice_index_or-map_one [] model.agents k) ∙ sym (weigh-all_from-none w n (bore t (λ g. []) k) (λ g. refl));
      pools_up = λ p. pool-IsAscending field.pools p.agent (state_at (slice_get model.agents p.agent) p.state) (pools_up model agents);
      boards_up = λ m. subst (IsAscending row_order) (sym (slice_index_or-map_one [] model.messages m)) tt;
      born_up = λ k. subst (IsAscending row_order) (sym (slice_index_or-map_one [] model.agents k)) tt;
      shape = record {
        pools = pools_begin model agents many;
        born = (length-map model.agents (λ (type : AgentType). []));
        boards = (length-map model.messages (λ (message : MessageType). []));
      };
    }

pub Sound-opening : (round : Round) (agents : List Rows) (t : Ideal) → length agents ≡ length round.source.model.agents
    → Sound round (λ p. pool_at round.source.model (opening round.source.model agents).pools p) t (opening_core round.source.model agents)
Sound-opening round agents t many =
    let model = round.source.model in
    let core = opening_core model agents in
    let from = λ (p : Spot). pool_at model (opening model agents).pools p in
    let waits : (λ (f : ℕ). Waiting) ≡ status_of core = λ i f. sym (slice_index_or-map_one Waiting (functions model) f) i in
    let facts =
    subst (λ (status : ℕ → Status).
    Holds round from t (opening model agents) (λ f. is_waiting (status f))
    (λ g. ran_rows (t.agents g) (status g)) (λ m g. handed_rows (outputs_of model g) m (t.agents g) (status g))
    × ((f : ℕ) → Fits round t f (status f))
    × ((f : ℕ) → is_waiting (status f) ≡ false → ⊥))
    waits (Holds-opening round agents t many, (λ f. tt), (λ f e. true≢false e)) in
    record {
      long = (length-map (functions model) (λ place. Waiting));
      marks = (length-map model.messages (λ message. false));
      holds = facts.0;
      fits = facts.1;
      early = λ g f less stands e. absurd (facts.2 f e);
      fed = λ f e. absurd (facts.2 f e);
      written = λ m g less frozen writes. absurd (true≢false (sym frozen ∙ slice_index_or-map_one false model.messages m));
    }

-- ---- the theorem

pub every_order_is_the_iteration : MessagesDiffer → EveryOrderIsTheIteration
every_order_is_the_iteration differ source world number fuel pieces events accepted many some legal =
    let round : Round = round_of source world number fuel in
    let model = source.model in
    let field = opening model world.agents in
    let t = ideal round field in
    let core = replay round pieces (opening_core model world.agents) events in
    let serial = serial_end round field (accepted_sends differ round field accepted) (Holds-opening round world.agents t many) accepted.ordered in
    let sound = sound_replay round (λ p. pool_at model field.pools p) t pieces (opening_core model world.agents) events serial.1 some (Sound-opening round world.agents t many) legal in (
      (λ complete.
          ap (turn_of round.constants)
          (one_end round (λ p. pool_at model field.pools p) t (first_should round t (model_order model))
          (unless_faulted (first_fault core (model_order model)) core.field) (steps round (model_order model) field)
          (core_end round (λ p. pool_at model field.pools p) t core sound accepted.ordered complete) serial.0)),
      λ unfinished. can_go_on model core unfinished,
    )
