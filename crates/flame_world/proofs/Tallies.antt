-- How many agents there are after a whole iteration.
use Rattle.std.proofs.Common.{◌≡◌, ℕ, zero, suc, ◌+◌, ◌-◌, ◌<◌, ◌≤◌, arith}
use Rattle.std.proofs.Common.{true, false, cond, refl, sym, ap, ◌∙◌, subst}
use Rattle.std.proofs.Common.{List, [], ◌∷◌, length, map, Some, Ok, Err, Result, Option, None, inl, inr}
use Rattle.std.specs.Prelude.{ℤ, ◌==◌, slice_get, is_none}
use Rattle.std.specs.List.{filter, filter_map, cons_option, flat_map}
use Rattle.std.specs.Option.{option_map_or}
use Rattle.std.proofs.lemmas.List.{length-append, length-map}
use Rattle.std.proofs.lemmas.Bool.{cases_Bool, eqb-true, eqb-false}
use Rattle.std.proofs.lemmas.Slice.Zip.{AllZip-long}
use Rattle.flame_rows.specs.Order.{row_order}
use Rattle.flame_rows.specs.Bags.{merge}
use Rattle.flame_rows.proofs.Lists.{slice_get-IsSomeAnd}
use Rattle.flame_spec.specs.declared.models.Model.{Model}
use Rattle.flame_spec.specs.declared.outcomes.Born.{Born}
use Rattle.flame_spec.specs.declared.outcomes.Effect.{Effect}
use Rattle.flame_spec.specs.declared.outcomes.Outcome.{Outcome}
use Rattle.flame_spec.specs.declared.outcomes.Outcome.TheVariants.{Ended, Faulted}
use Rattle.flame_spec.specs.Functions.{Place, functions}
use Rattle.flame_spec.specs.ModelOrder.{model_order}
use Rattle.flame_meaning.specs.Outcomes.{readings_of}
use Rattle.flame_meaning.specs.OutcomeLaws.{IsAgent, HasWidths}
use Rattle.flame_meaning.specs.RangeLaws.{Each}
use Rattle.flame_meaning.proofs.Leavings.{rows_have_widths}
use Rattle.flame_world.specs.declared.faults.SimFault.{SimFault}
use Rattle.flame_world.specs.declared.turns.Turn.TheVariants.{Done}
use Rattle.flame_world.specs.declared.worlds.World.{World}
use Rattle.flame_world.specs.declared.worlds.Boards.{Boards}
use Rattle.flame_world.specs.AgentRuns.{kept, born_by, survivors, born_from, births_of}
use Rattle.flame_world.specs.Fields.{Field, HasPools, opening, joined_from, joined, gathered}
use Rattle.flame_world.specs.Iterations.{Round, taking, outcome_in, moved, step_at, step, and_on, steps}
use Rattle.flame_world.specs.Iterations.{turn_of, round_of}
use Rattle.flame_world.specs.CountLaws.{count_in, resting_in}
use Rattle.flame_world.specs.CountLaws.{removed_at, added_at, counted_after, counted_over}
use Rattle.flame_world.specs.CountLaws.{SurvivorsAndBirthsAreAll}
use Rattle.flame_world.proofs.Eachs.{all_each, each_append}
use Rattle.flame_world.proofs.Counting.{length-sorted_by, length-merge, moved_counts, ok_moved}
use Rattle.flame_world.proofs.Counting.{all_agents_begin, survivors_and_births_remain}

-- ---- takers

length-filter_map : {X Y : Type 0} (f : X → Option Y) (xs : List X)
    → length (filter_map f xs) + length (filter (λ x. is_none (f x)) xs) ≡ length xs
length-filter_map f [] = refl
length-filter_map f (x ∷ xs) =
    let rest = length-filter_map f xs in
    elim (f x) as (λ t. length (cons_option t (filter_map f xs))
    + length (cond (is_none t) (x ∷ filter (λ y. is_none (f y)) xs) (filter (λ y. is_none (f y)) xs))
    ≡ suc (length xs)) [
      | None ↦ omega (arith, rest)
      | Some y ↦ omega (arith, rest)
    ]

-- takers survive or are removed
survivors_and_removed : (run : List ℤ → Outcome) (agents : List (List ℤ))
    → length (survivors run agents) + length (filter (λ memory. is_none (kept (run memory))) agents) ≡ length agents
survivors_and_removed run agents =
    let rows = filter_map (λ memory. kept (run memory)) agents in
    omega (arith, length-sorted_by row_order rows, length-filter_map (λ memory. kept (run memory)) agents)

-- ---- births

-- how many of these are of the n types from i on
of_types : List Born → ℕ → ℕ → ℕ
of_types born i zero = 0
of_types born i (suc n) = length (births_of born i) + of_types born (i + 1) n

-- 1 where k is one of the n numbers from i on
is_one_of : ℕ → ℕ → ℕ → ℕ
is_one_of k i zero = 0
is_one_of k i (suc n) = cond (k == i) 1 0 + is_one_of k (i + 1) n

one_of_below : (k i n : ℕ) → k < i → is_one_of k i n ≡ 0
unfolding is_one_of
one_of_below k i zero below = refl
one_of_below k i (suc n) below =
    let rest = one_of_below k (i + 1) n (omega (arith, below)) in
    elim (cases_Bool (k == i)) [
      | inl same ↦ let is : k ≡ i = eqb-true k i same in absurd (omega (arith, is, below))
      | inr other ↦ rw other (omega (arith, rest))
    ]

one_of_within : (k i n : ℕ) → i ≤ k → k < i + n → is_one_of k i n ≡ 1
unfolding is_one_of
one_of_within k i zero above within = absurd (omega (arith, above, within))
one_of_within k i (suc n) above within =
    elim (cases_Bool (k == i)) [
      | inl same ↦
          let is : k ≡ i = eqb-true k i same in
          let rest = one_of_below k (i + 1) n (omega (arith, is)) in
          rw same (omega (arith, rest))
      | inr other ↦
          let not_here : k ≡ i → ⊥ = eqb-false k i other in
          let later : i + 1 ≤ k = omega (arith, above, not_here) in
          let rest = one_of_within k (i + 1) n later (omega (arith, within)) in
          rw other (omega (arith, rest))
    ]

births_of-more : (b : Born) (born : List Born) (i : ℕ)
    → length (births_of (b ∷ born) i) ≡ cond (b.agent == i) 1 0 + length (births_of born i)
births_of-more b born i =
    elim (b.agent == i) as (λ t. length (map (λ (o : Born). o.row)
    (cond t (b ∷ filter (λ (o : Born). o.agent == i) born) (filter (λ (o : Born). o.agent == i) born)))
    ≡ cond t 1 0 + length (births_of born i)) [
      | true ↦ omega arith
      | false ↦ omega arith
    ]

of_types-more : (b : Born) (born : List Born) (i n : ℕ)
    → of_types (b ∷ born) i n ≡ is_one_of b.agent i n + of_types born i n
unfolding of_types is_one_of
of_types-more b born i zero = refl
of_types-more b born i (suc n) = omega (arith, births_of-more b born i, of_types-more b born (i + 1) n)

of_types-none : (i n : ℕ) → of_types [] i n ≡ 0
unfolding of_types
of_types-none i zero = refl
of_types-none i (suc n) = omega (arith, of_types-none (i + 1) n)

-- births of n types are all of one of them
of_types-all : (n : ℕ) (born : List Born) → Each (λ b. b.agent < n) born → of_types born 0 n ≡ length born
of_types-all n [] all = of_types-none 0 n
of_types-all n (b ∷ born) all =
    let one = one_of_within b.agent 0 n (omega arith) (omega (arith, all.0)) in
    omega (arith, one, of_types-more b born 0 n, of_types-all n born all.1)

count_in-joined_from : (born : List Born) (i : ℕ) (bags : List (List (List ℤ)))
    → count_in (joined_from i (births_of born) bags) ≡ count_in bags + of_types born i (length bags)
unfolding of_types
count_in-joined_from born i [] = refl
count_in-joined_from born i (bag ∷ bags) =
    omega (
      arith,
      length-append (merge bag (births_of born i)) (flat_map (λ own. own) (joined_from (i + 1) (births_of born) bags)),
      length-append bag (flat_map (λ own. own) bags),
      length-merge bag (births_of born i),
      count_in-joined_from born (i + 1) bags,
    )

pub length-joined_from : (rows : ℕ → List (List ℤ)) (i : ℕ) (bags : List (List (List ℤ)))
    → length (joined_from i rows bags) ≡ length bags
length-joined_from rows i [] = refl
length-joined_from rows i (bag ∷ bags) = ap suc (length-joined_from rows (i + 1) bags)

agents_known : (model : Model) (born : List Born)
    → Each (IsAgent model) born
    → Each (λ b. b.agent < length model.agents) born
agents_known model [] all = tt
agents_known model (b ∷ born) all = (slice_get-IsSomeAnd _ model.agents b.agent all.0, agents_known model born all.1)

-- the births of an agent are of types of the model
births_known : (round : Round) (function : ℕ) (field : Field) (memory : List ℤ)
    → Each (λ b. b.agent < length round.source.model.agents) (born_by (outcome_in round function field memory))
births_known round function field memory =
    let readings = readings_of round.source function memory field.boards in
    go (outcome_in round function field memory)
    (rows_have_widths round.source function memory readings round.constants round.iteration round.fuel)
  where
    go : (o : Outcome) → ((effect : Effect) → o ≡ Ended effect → HasWidths round.source.model memory effect)
        → Each (λ b. b.agent < length round.source.model.agents) (born_by o)
    go (Ended effect) widths =
        agents_known round.source.model effect.born
        (all_each (IsAgent round.source.model) effect.born (widths effect refl).born)
    go (Faulted fault) widths = tt

each_flat : {X Y : Type 0} (Q : Y → Type 0) (f : X → List Y)
    → ((x : X) → Each Q (f x))
    → (xs : List X)
    → Each Q (flat_map f xs)
each_flat Q f all [] = tt
each_flat Q f all (x ∷ xs) = each_append Q (f x) (flat_map f xs) (all x) (each_flat Q f all xs)

births_join : (round : Round) (function : ℕ) (field : Field) (agents : List (List ℤ))
    → length field.born ≡ length round.source.model.agents
    → count_in (joined (births_of (born_from (outcome_in round function field) agents)) field.born)
    ≡ count_in field.born + length (born_from (outcome_in round function field) agents)
births_join round function field agents long =
    let born = born_from (outcome_in round function field) agents in
    let known =
    each_flat (λ (b : Born). b.agent < length round.source.model.agents)
    (λ memory. born_by (outcome_in round function field memory))
    (births_known round function field) agents in
    count_in-joined_from born 0 field.born
    ∙ ap (λ n. count_in field.born + of_types born 0 n) long
    ∙ ap (λ n. count_in field.born + n) (of_types-all (length round.source.model.agents) born known)

-- ---- steps

-- so many agents were removed and so many added between two fields
record IsTallied (model : Model) (field next : Field) (removed added : ℕ) : Type 0 where
  resting : resting_in next + removed ≡ resting_in field
  births : count_in next.born ≡ count_in field.born + added
  pools : HasPools model next
  long : length next.born ≡ length model.agents

moved_tally : (round : Round) (function : ℕ) (place : Place) (field : Field)
    → HasPools round.source.model field
    → length field.born ≡ length round.source.model.agents
    → slice_get (functions round.source.model) function ≡ Some place
    → IsTallied round.source.model field (moved round function place field) (removed_at round function place field)
    (added_at round function place field)
moved_tally round function place field pooled long at =
    let agents = taking round function place field in
    let run = outcome_in round function field in
    let counts = moved_counts round function place field pooled at in
    let lived = survivors_and_removed run agents in
    record {
      resting = omega (arith, counts.0, lived);
      births = births_join round function field agents long;
      pools = counts.1;
      long = length-joined_from (births_of (born_from run agents)) 0 field.born ∙ long;
    }

none_tally : (model : Model) (field next : Field)
    → HasPools model field
    → length field.born ≡ length model.agents
    → field ≡ next
    → IsTallied model field next 0 0
none_tally model field next pooled long same =
    subst (λ (f : Field). IsTallied model field f 0 0) same
    (record { resting = omega arith; births = omega arith; pools = pooled; long = long })

step_tally : (round : Round) (function : ℕ) (field next : Field) (found : Option Place)
    → HasPools round.source.model field
    → length field.born ≡ length round.source.model.agents
    → slice_get (functions round.source.model) function ≡ found
    → step_at found round function field ≡ Ok next
    → IsTallied round.source.model field next
    (option_map_or (λ place. removed_at round function place field) found 0)
    (option_map_or (λ place. added_at round function place field) found 0)
step_tally round function field next None pooled long at ended =
    let same : field ≡ next = cc in
    none_tally round.source.model field next pooled long same
step_tally round function field next (Some place) pooled long at ended =
    subst
    (λ (f : Field). IsTallied round.source.model field f (removed_at round function place field)
    (added_at round function place field))
    (ok_moved _ _ _ ended) (moved_tally round function place field pooled long at)

-- a step, and those that follow
steps_join : (round : Round) (later : List ℕ) (field last : Field) (r : Result Field SimFault) (removed added : ℕ)
    → ((next : Field) → r ≡ Ok next → IsTallied round.source.model field next removed added)
    → ((next : Field) → HasPools round.source.model next → length next.born ≡ length round.source.model.agents
    → steps round later next ≡ Ok last
    → IsTallied round.source.model next last (counted_over removed_at round later next)
    (counted_over added_at round later next))
    → and_on r (steps round later) ≡ Ok last
    → IsTallied round.source.model field last
    (removed + counted_after r (counted_over removed_at round later))
    (added + counted_after r (counted_over added_at round later))
steps_join round later field last (Ok next) removed added one rest ended =
    let first = one next refl in
    let others = rest next first.pools first.long ended in
    record {
      resting = omega (arith, first.resting, others.resting);
      births = omega (arith, first.births, others.births);
      pools = others.pools;
      long = others.long;
    }
steps_join round later field last (Err fault) removed added one rest ended = absurd cc

steps_tally : (round : Round) (order : List ℕ) (field last : Field)
    → HasPools round.source.model field
    → length field.born ≡ length round.source.model.agents
    → steps round order field ≡ Ok last
    → IsTallied round.source.model field last (counted_over removed_at round order field)
    (counted_over added_at round order field)
steps_tally round [] field last pooled long ended =
    let same : field ≡ last = cc in
    none_tally round.source.model field last pooled long same
steps_tally round (function ∷ later) field last pooled long ended =
    let found = slice_get (functions round.source.model) function in
    steps_join round later field last (step round function field)
    (option_map_or (λ place. removed_at round function place field) found 0)
    (option_map_or (λ place. added_at round function place field) found 0)
    (λ next at. step_tally round function field next found pooled long refl at)
    (λ next pools_next long_next at. steps_tally round later next last pools_next long_next at)
    ended

-- ---- the whole

count_in-none : {X : Type 0} (xs : List X) → count_in (map (λ x. []) xs) ≡ 0
count_in-none [] = refl
count_in-none (x ∷ xs) = count_in-none xs

done_tally :
    (model : Model) (field : Field) (constants : List ℤ) (r : Result Field SimFault) (after : World) (boards : Boards)
    (removed added : ℕ)
    → ((last : Field) → r ≡ Ok last → IsTallied model field last removed added)
    → turn_of constants r ≡ Done after boards
    → count_in field.born ≡ 0
    → (removed ≤ resting_in field) × (count_in after.agents ≡ (resting_in field - removed) + added)
done_tally model field constants (Err fault) after boards removed added tally done none = absurd cc
done_tally model field constants (Ok last) after boards removed added tally done none =
    let all = tally last refl in
    let worlds : record { constants = constants; agents = gathered last } ≡ after = cc in
    let agents : gathered last ≡ after.agents = ap (λ (w : World). w.agents) worlds in
    let pools = AllZip-long _ model.agents last.pools all.pools in
    let end = survivors_and_births_remain last (all.long ∙ sym pools) in
    let counted = ap count_in agents in (
      omega (arith, all.resting),
      omega (arith, all.resting, all.births, end, counted, none),
    )

pub survivors_and_births_are_all : SurvivorsAndBirthsAreAll
survivors_and_births_are_all source world after number fuel boards one long done =
    let model = source.model in
    let field = opening model world.agents in
    let round = round_of source world number fuel in
    let begins = all_agents_begin model world.agents one long in
    let counts =
    done_tally model field world.constants (steps round (model_order model) field) after boards _ _
    (λ last at. steps_tally round (model_order model) field last begins.1 (length-map model.agents (λ type. [])) at)
    done (count_in-none model.agents) in
    let begin = begins.0 in (
      omega (arith, counts.0, begin),
      omega (arith, counts.1, begin),
    )
