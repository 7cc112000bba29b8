-- What functions of a layer leave that is brought where it belongs, one after another.
use Rattle.std.proofs.Common.{◌≡◌, ℕ, ◌<◌, ◌⊎◌, inl, inr, List, [], ◌∷◌, length, refl, sym, ap, ◌∙◌, arith, subst}
use Rattle.std.specs.Prelude.{ℤ, Option, Some, None, option_map, slice_get, slice_index_or}
use Rattle.std.specs.List.{All}
use Rattle.std.specs.Option.{option_or}
use Rattle.std.proofs.lemmas.List.Elements.{All-head, All-tail}
use Rattle.flame_rows.specs.Bags.{ascending, merge}
use Rattle.flame_spec.specs.declared.models.AgentType.{AgentType}
use Rattle.flame_spec.specs.declared.models.Model.{Model}
use Rattle.flame_spec.specs.declared.outcomes.Outcome.{Outcome}
use Rattle.flame_spec.specs.Functions.{Place, functions}
use Rattle.flame_spec.specs.States.{state_place, states}
use Rattle.flame_world.specs.declared.faults.SimFault.{SimFault}
use Rattle.flame_world.specs.AgentRuns.{births_of, born_from, survivors}
use Rattle.flame_world.specs.Fields.{Field, HasPools, changed, changed_pool, joined}
use Rattle.flame_world.specs.Iterations.{Round, outcome_in}
use Rattle.flame_world.proofs.Counting.{length-changed}
use Rattle.flame_world.proofs.Eachs.{zip_at, zip_changed}
use Rattle.flame_world.proofs.RowsKept.{place_type}
use Rattle.flame_world.proofs.JoinedBags.{joined_from-same}
use Rattle.flame_route.specs.declared.routes.Route.{Route}
use Rattle.flame_round.specs.KeptRounds.{GoesBy}
use Rattle.flame_round.proofs.StatePlaces.{to_place}
use Rattle.flame_layers.specs.declared.stops.Stop.{Stop}
use Rattle.flame_layers.specs.LayerFields.{brought_at, brought_by, brought_by_all, first_stop, rank_of, stop_by}
use Rattle.flame_lanes.specs.declared.gains.Gain.{Gain}
use Rattle.flame_lanes.specs.LayerGains.{AreGains, IsGain}

abbrev Rows : Type 0
Rows = List (List ℤ)

-- ---- pools

pub pools-stay : (model : Model) (field : Field) (born : List Rows) (agent state : ℕ) (change : Rows → Rows) → HasPools model field
    → HasPools model (record field { pools = changed_pool agent state change field.pools; born = born })
pools-stay model field born agent state change all =
    zip_changed (λ (type : AgentType) (pools : List Rows). length pools ≡ length (states type.functions)) model.agents field.pools agent
    (changed state change) all
    (λ type pools at same. length-changed state change pools ∙ same)

-- the state that a function enters has a pool
pub enters : (model : Model) (function : ℕ) (route : Route) (field : Field)
    → GoesBy model function route → HasPools model field → route.to < length (slice_index_or field.pools route.agent [])
enters model function route field goes all =
    let place = goes.place in
    let count : length (slice_index_or field.pools place.agent []) ≡ length (states place.type.functions) =
    zip_at (λ (type : AgentType) pools. length pools ≡ length (states type.functions)) model.agents field.pools place.agent place.type []
    all (place_type model function place goes.there) in
    let same : length (slice_index_or field.pools route.agent []) ≡ length (states place.type.functions) =
    ap (λ agent. length (slice_index_or field.pools agent [])) goes.routed.agent ∙ count in
    omega (arith, same, goes.routed.to, to_place model function place goes.there)

-- ---- fields that differ in their boards alone

pub record AreAlike (one other : Field) : Type 0 where
  pub pools : one.pools ≡ other.pools
  pub born : one.born ≡ other.born

bring-alike : (place : Option Place) (round : Round) (read : Field) (function : ℕ) (agents : Rows) (one other : Field) → AreAlike one other
    → AreAlike (brought_at place round read function agents one) (brought_at place round read function agents other)
bring-alike None round read function agents one other same = same
bring-alike (Some place) round read function agents one other same =
    let run : List ℤ → Outcome = outcome_in round function read in
    record {
      pools = ap (changed_pool place.agent (state_place place.type place.function.next) (λ pool. merge pool (survivors run agents))) same.pools;
      born = ap (joined (births_of (born_from run agents))) same.born;
    }

module _ (round : Round) (read : Field) where
  all-alike : (numbers : List ℕ) (takers : List Rows) (one other : Field) → AreAlike one other
      → AreAlike (brought_by_all round read numbers takers one) (brought_by_all round read numbers takers other)
  all-alike [] takers one other same = same
  all-alike (function ∷ numbers) [] one other same = same
  all-alike (function ∷ numbers) (agents ∷ takers) one other same =
      all-alike numbers takers (brought_by round read function agents one) (brought_by round read function agents other)
      (bring-alike (slice_get (functions round.source.model) function) round read function agents one other same)

  -- what one function gained is brought
  gain-brought : (function : ℕ) (agents : Rows) (gain : Gain) (route : Route) (now after : Field)
      → GoesBy round.source.model function route
      → IsGain round.iteration function (outcome_in round function read) agents gain
      → after.pools ≡ changed_pool route.agent route.to (λ pool. merge pool (ascending gain.survivors.items)) now.pools
      → after.born ≡ joined (births_of gain.born.items) now.born
      → AreAlike after (brought_by round read function agents now)
  gain-brought function agents gain route now after goes is pools born =
      let place = goes.place in
      let run : List ℤ → Outcome = outcome_in round function read in
      let there : AreAlike after (brought_at (Some place) round read function agents now) = record {
        pools =
            pools
            ∙ (λ i. changed_pool (goes.routed.agent i) (goes.routed.to i) (λ pool. merge pool (is.survivors_are i)) now.pools);
        born = born ∙ joined_from-same (births_of gain.born.items) (births_of (born_from run agents)) is.births_are 0 now.born;
      } in
      subst (λ (p : Option Place). AreAlike after (brought_at p round read function agents now)) (sym goes.there) there

  -- ---- those of these functions in front are brought, and here the iteration stops

  abbrev pub AreOrdered : List Rows → Type 0
  AreOrdered takers = All (λ agents. ascending agents ≡ agents) takers

  pub record AreBrought
      (numbers : List ℕ) (takers : List Rows) (start : Field) (rest : List ℕ) (gains : List Gain) (now : Field) (stop : Option Stop) :
      Type 0 where
    pub left : List Rows
    pub gained : AreGains round read rest left gains
    pub ordered : AreOrdered takers → AreOrdered left
    pub field : AreAlike (brought_by_all round read rest left now) (brought_by_all round read numbers takers start)
    pub stops : AreOrdered takers → option_or stop (first_stop round read rest left) ≡ first_stop round read numbers takers

  stops-next : (stop one other : Option Stop) → option_or (option_or stop one) other ≡ option_or stop (option_or one other)
  stops-next None one other = refl
  stops-next (Some stop) one other = refl

  pub more-brought : (numbers : List ℕ) (takers : List Rows) (start : Field) (function rank : ℕ) (rest : List ℕ) (gain : Gain) (gains : List Gain)
      (route : Route) (now after : Field) (stop next : Option Stop)
      → AreBrought numbers takers start (function ∷ rest) (gain ∷ gains) now stop
      → GoesBy round.source.model function route
      → after.pools ≡ changed_pool route.agent route.to (λ pool. merge pool (ascending gain.survivors.items)) now.pools
      → after.born ≡ joined (births_of gain.born.items) now.born
      → rank ≡ rank_of round.source.model function
      → next ≡ option_or stop (option_map (λ (fault : SimFault). record { rank = rank; fault = fault }) gain.fault)
      → AreBrought numbers takers start rest gains after next
  more-brought numbers takers start function rank rest gain gains route now after stop next old goes pools born ranked stopped =
      with old.left old.gained old.ordered old.field old.stops
    where
      with : (left : List Rows)
          → AreGains round read (function ∷ rest) left (gain ∷ gains)
          → (AreOrdered takers → AreOrdered left)
          → AreAlike (brought_by_all round read (function ∷ rest) left now) (brought_by_all round read numbers takers start)
          → (AreOrdered takers → option_or stop (first_stop round read (function ∷ rest) left) ≡ first_stop round read numbers takers)
          → AreBrought numbers takers start rest gains after next
      with [] gained ordered field stops = absurd gained
      with (agents ∷ left) gained ordered field stops =
          let is = gained.0 in
          let run : List ℤ → Outcome = outcome_in round function read in
          let here = all-alike rest left after (brought_by round read function agents now) (gain-brought function agents gain route now after goes is pools born) in
          record {
            left = left;
            gained = gained.1;
            ordered = λ order. All-tail (λ a. ascending a ≡ a) agents left (ordered order);
            field = record { pools = here.pools ∙ field.pools; born = here.born ∙ field.born };
            stops = λ order.
                let one : option_map (λ (fault : SimFault). record { rank = rank; fault = fault }) gain.fault ≡ stop_by round read function agents =
                (λ i. option_map (λ (fault : SimFault). record { rank = ranked i; fault = fault }) (is.fault_is i))
                ∙ ap (λ a. stop_by round read function a) (All-head (λ a. ascending a ≡ a) agents left (ordered order)) in
                ap (λ s. option_or s (first_stop round read rest left)) (stopped ∙ ap (option_or stop) one)
                ∙ stops-next stop (stop_by round read function agents) (first_stop round read rest left)
                ∙ stops order;
          }

  stops-so : (stop : Option Stop) → option_or stop None ≡ stop
  stops-so None = refl
  stops-so (Some stop) = refl

  pub record AreAllBrought (numbers : List ℕ) (takers : List Rows) (start now : Field) (stop : Option Stop) : Type 0 where
    pub field : AreAlike now (brought_by_all round read numbers takers start)
    pub stops : AreOrdered takers → stop ≡ first_stop round read numbers takers

  -- where no function is left, or no gain, all is brought
  pub all-brought : (numbers : List ℕ) (takers : List Rows) (start : Field) (rest : List ℕ) (gains : List Gain) (now : Field) (stop : Option Stop)
      → (length rest ≡ 0) ⊎ (length gains ≡ 0)
      → AreBrought numbers takers start rest gains now stop
      → AreAllBrought numbers takers start now stop
  all-brought numbers takers start rest gains now stop over old = with rest gains over old.left old.gained old.field old.stops
    where
      with : (rest : List ℕ) (gains : List Gain) → (length rest ≡ 0) ⊎ (length gains ≡ 0) → (left : List Rows)
          → AreGains round read rest left gains
          → AreAlike (brought_by_all round read rest left now) (brought_by_all round read numbers takers start)
          → (AreOrdered takers → option_or stop (first_stop round read rest left) ≡ first_stop round read numbers takers)
          → AreAllBrought numbers takers start now stop
      with [] gains over left gained field stops = record { field = field; stops = λ order. sym (stops-so stop) ∙ stops order }
      with (f ∷ rest) [] over [] gained field stops = absurd gained
      with (f ∷ rest) [] over (agents ∷ left) gained field stops = absurd gained
      with (f ∷ rest) (gain ∷ gains) over left gained field stops =
          absurd (elim over [ inl gone ↦ (let never : ⊥ = omega (arith, gone) in never) | inr gone ↦ (let never : ⊥ = omega (arith, gone) in never) ])
