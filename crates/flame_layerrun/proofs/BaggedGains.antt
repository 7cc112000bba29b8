-- What agents leave, whatever the order in which they stand.
use Rattle.std.proofs.Common.{◌≡◌, ℕ, suc, List, [], ◌∷◌, length, Some, refl, sym, ap, ◌∙◌, arith, append-nil}
use Rattle.std.specs.Prelude.{ℤ, slice_get, slice_index_or}
use Rattle.std.specs.List.{filter_map}
use Rattle.flame_rows.specs.Bags.{ascending}
use Rattle.flame_rows.proofs.BagLaws.{IsAscending-ascending, empty_is_unit}
use Rattle.flame_spec.specs.declared.outcomes.Outcome.{Outcome}
use Rattle.flame_leaving.specs.WholeLaws.{AreTogether, BirthsMerge, SurvivorsMerge, birth_bag}
use Rattle.flame_world.specs.AgentRuns.{births_of, born_from, kept, least_fault, survivors}
use Rattle.flame_world.specs.Fields.{Field}
use Rattle.flame_world.specs.Iterations.{Round, outcome_in}
use Rattle.flame_events.proofs.Weights.{Row, Rows}
use Rattle.flame_lanes.specs.declared.gains.Gain.{Gain}
use Rattle.flame_lanes.specs.LayerGains.{AreGains, IsGain}

module _ (survivors_merge : SurvivorsMerge) (births_merge : BirthsMerge) where
  -- agents and none
  alone : (one other : Rows) → ascending one ≡ ascending other → AreTogether one [] other
  alone one other same = ap ascending (append-nil one) ∙ same

  same_survivors : (run : Row → Outcome) (one other : Rows) → ascending one ≡ ascending other → survivors run one ≡ survivors run other
  same_survivors run one other same =
      sym (survivors_merge run one [] other (alone one other same)
      ∙ (empty_is_unit (survivors run one) (IsAscending-ascending (filter_map (λ memory. kept (run memory)) one))).1)

  same_births : (run : Row → Outcome) (agent : ℕ) (one other : Rows) → ascending one ≡ ascending other → birth_bag run agent one ≡ birth_bag run agent other
  same_births run agent one other same =
      sym (births_merge run agent one [] other (alone one other same)
      ∙ (empty_is_unit (birth_bag run agent one) (IsAscending-ascending (births_of (born_from run one) agent))).1)

  same_gain : (iteration : ℤ) (function : ℕ) (run : Row → Outcome) (one other : Rows) (gain : Gain)
      → ascending one ≡ ascending other → IsGain iteration function run one gain → IsGain iteration function run other gain
  same_gain iteration function run one other gain same is = record {
    survivors_are = is.survivors_are ∙ same_survivors run one other same;
    births_are = λ agent. is.births_are agent ∙ same_births run agent one other same;
    fault_is = is.fault_is ∙ ap (least_fault iteration function run) same;
  }

  -- what each function's agents left is what its takers left, which are the same agents
  pub all_gains : (round : Round) (read : Field) (fs : List ℕ) (takers : List Rows) (gains : List Gain) (at : ℕ → Rows)
      → length takers ≡ length fs → length gains ≡ length fs
      → ((place : ℕ) → ascending (at place) ≡ ascending (slice_index_or takers place []))
      → ((place function : ℕ) (gain : Gain) → slice_get fs place ≡ Some function → slice_get gains place ≡ Some gain
      → IsGain round.iteration function (outcome_in round function read) (at place) gain)
      → AreGains round read fs takers gains
  all_gains round read [] [] [] at long many same each = tt
  all_gains round read [] [] (gain ∷ gains) at long many same each = absurd (omega (arith, many))
  all_gains round read [] (agents ∷ takers) gains at long many same each = absurd (omega (arith, long))
  all_gains round read (f ∷ fs) [] gains at long many same each = absurd (omega (arith, long))
  all_gains round read (f ∷ fs) (agents ∷ takers) [] at long many same each = absurd (omega (arith, many))
  all_gains round read (f ∷ fs) (agents ∷ takers) (gain ∷ gains) at long many same each = (
    same_gain round.iteration f (outcome_in round f read) (at 0) agents gain (same 0) (each 0 f gain refl refl),
    all_gains round read fs takers gains (λ place. at (suc place)) (omega (arith, long)) (omega (arith, many))
        (λ place. same (suc place))
        (λ place function gain there one. each (suc place) function gain there one),
  )
