-- What pieces of a function leave one after another is what they leave together.
use Rattle.std.proofs.Common.{◌≡◌, ℕ, zero, suc, ◌+◌, ◌<◌, ◌≤◌, ⊎_elim, true, false, List, [], ◌∷◌, ◌++◌, length, map, Option, Some, None, refl, sym, ap, ◌∙◌, arith}
use Rattle.std.specs.Prelude.{◌==◌, is_some, slice_set, slice_index_or}
use Rattle.std.specs.List.{list_all, filter_map, position_or_len}
use Rattle.std.proofs.lemmas.Bool.{cases_Bool, cases_lt, true≢false}
use Rattle.std.proofs.lemmas.List.{length-map}
use Rattle.flame_rows.specs.Bags.{ascending, merge}
use Rattle.flame_rows.proofs.BagLaws.{merge_associates, empty_is_unit}
use Rattle.flame_spec.specs.declared.outcomes.Outcome.{Outcome}
use Rattle.flame_spec.specs.declared.outcomes.Sent.{Sent}
use Rattle.flame_spec.specs.Below.{is_in}
use Rattle.flame_spec.specs.States.{state_place}
use Rattle.flame_spec.specs.Functions.{Place}
use Rattle.flame_meaning.specs.RangeLaws.{Each}
use Rattle.flame_world.specs.AgentRuns.{kept, survivors, sent_from, born_from, messages_of, births_of}
use Rattle.flame_world.specs.Fields.{Field, changed, changed_pool, joined_from, joined, pool_in}
use Rattle.flame_world.proofs.Changing.{changed_pool-same, joined_from-none, pool-IsAscending}
use Rattle.flame_world.proofs.JoinedBags.{joined_from-twice}
use Rattle.flame_events.specs.CoreStates.{part_in}
use Rattle.flame_events.specs.EventSteps.{with_sent}
use Rattle.flame_events.specs.HandedPieces.{with_part, with_parts}
use Rattle.flame_events.proofs.Weights.{Row, Rows}
use Rattle.flame_events.proofs.Holding.{Ideal, lived-append, sent-append, born-append}
use Rattle.flame_events.proofs.Works.{place_in, in_place, past_end, length-with_sent, part_in-with_sent, more_of}
use Rattle.flame_events.proofs.Absorbing.{changed-changed, merge-merge_ascending}
use Rattle.flame_orders.proofs.SortedFields.{Up, IsSorted}

-- ---- what agents leave

module _ (place : Place) (run : Row → Outcome) where
  abbrev ideal_of : Ideal
  ideal_of = record { agents = λ f. []; run = λ f. run }

  -- survivors and births
  abbrev pub came : Rows → Field → Field
  came rows field = record {
    pools = changed_pool place.agent (state_place place.type place.function.next) (λ pool. merge pool (survivors run rows)) field.pools;
    born = joined (births_of (born_from run rows)) field.born;
    boards = field.boards;
  }

  pub came_twice : (one other : Rows) (field : Field) → came other (came one field) ≡ came (one ++ other) field
  came_twice one other field =
      let s = state_place place.type place.function.next in
      let add = λ (rows : Rows) (pool : Rows). merge pool (survivors run rows) in
      let lived = λ (rows : Rows). filter_map (λ memory. kept (run memory)) rows in
      let pool : (pool : Rows) → add other (add one pool) ≡ add (one ++ other) pool =
      λ pool. merge-merge_ascending pool (lived one) (lived other) ∙ ap (λ l. merge pool (ascending l)) (sym (lived-append ideal_of 0 one other)) in
      let pools =
      changed-changed place.agent (changed s (add one)) (changed s (add other)) (changed s (add (one ++ other)))
      (λ own. changed-changed s (add one) (add other) (add (one ++ other)) pool own) field.pools in
      let born =
      (sym (joined_from-twice 0 (births_of (born_from run one)) (births_of (born_from run other)) (births_of (born_from run (one ++ other))) (λ n. born-append ideal_of 0 n one other) field.born)) in
      λ i. record { pools = pools i; born = born i; boards = field.boards }

  pub nobody_came : (field : Field) → IsSorted field → came [] field ≡ field
  nobody_came field sorted =
      let s = state_place place.type place.function.next in
      let pools = changed_pool-same (λ pool. merge pool []) place.agent s field.pools
      (empty_is_unit (pool_in field.pools place.agent s) (pool-IsAscending field.pools place.agent s sorted.pools)).1 in
      let born = joined_from-none (λ n. []) 0 field.born (λ n. refl) sorted.born in
      λ i. record { pools = pools i; born = born i; boards = field.boards }

  -- messages
  pub joined_more : (one other : Rows) (boards : List Rows)
      → joined (messages_of (sent_from run other)) (joined (messages_of (sent_from run one)) boards) ≡ joined (messages_of (sent_from run (one ++ other))) boards
  joined_more one other boards =
      (sym (joined_from-twice 0 (messages_of (sent_from run one)) (messages_of (sent_from run other)) (messages_of (sent_from run (one ++ other))) (λ m. sent-append ideal_of 0 m one other) boards))

-- ---- parts of a piece that is fresh

abbrev pub fresh_parts : List ℕ → List (Option Rows)
fresh_parts outs = map (λ output. Some []) outs

pub all_sent : (outs outputs : List ℕ) (messages : List Sent) → length outs ≡ length outputs → list_all is_some (with_sent outs messages (fresh_parts outputs)) ≡ true
all_sent [] [] messages long = refl
all_sent [] (output ∷ outputs) messages long = refl
all_sent (out ∷ outs) [] messages long = refl
all_sent (out ∷ outs) (output ∷ outputs) messages long = all_sent outs outputs messages (omega (arith, long))

fresh_part : (outs : List ℕ) (m : ℕ) → is_in m outs ≡ true → part_in outs (fresh_parts outs) m ≡ Some []
fresh_part outs m within = go outs (position_or_len (λ output. output == m) outs) (place_in m outs within).0
  where
    go : (outs : List ℕ) (k : ℕ) → k < length outs → slice_index_or (fresh_parts outs) k None ≡ Some []
    go [] k less = absurd (omega (arith, less))
    go (output ∷ outs) zero less = refl
    go (output ∷ outs) (suc k) less = go outs k (omega (arith, less))

no_part : (outs : List ℕ) (parts : List (Option Rows)) (m : ℕ) → length parts ≡ length outs → is_in m outs ≡ false → part_in outs parts m ≡ None
no_part outs parts m long out = ⊎_elim
    (λ (less : position_or_len (λ output. output == m) outs < length outs). absurd (true≢false (sym (in_place m outs less) ∙ out)))
    (λ (over : length outs ≤ position_or_len (λ output. output == m) outs). past_end parts (position_or_len (λ output. output == m) outs) (omega (arith, over, long)))
    (cases_lt (position_or_len (λ output. output == m) outs) (length outs))

-- where messages are of outputs alone, the parts join as all messages do
module _ (outs : List ℕ) (messages : List Sent) (none : (m : ℕ) → is_in m outs ≡ false → messages_of messages m ≡ []) where
  abbrev parts : List (Option Rows)
  parts = with_sent outs messages (fresh_parts outs)

  one_joined : (i : ℕ) (bag : Rows) → Up bag → with_part (part_in outs parts i) bag ≡ merge bag (messages_of messages i)
  one_joined i bag up = ⊎_elim
      (λ (within : is_in i outs ≡ true).
      ap (λ part. with_part part bag) (part_in-with_sent outs messages (fresh_parts outs) i within ∙ ap (more_of messages i) (fresh_part outs i within))
      ∙ sym (merge_associates bag [] (messages_of messages i))
      ∙ ap (λ b. merge b (messages_of messages i)) (empty_is_unit bag up).1)
      (λ (out : is_in i outs ≡ false).
      ap (λ part. with_part part bag) (no_part outs parts i (length-with_sent outs messages (fresh_parts outs) (length-map outs (λ (output : ℕ). Some []))) out)
      ∙ sym (ap (merge bag) (none i out) ∙ (empty_is_unit bag up).1))
      (cases_Bool (is_in i outs))

  parts_from : (i : ℕ) (bags : List Rows) → Each Up bags → with_parts outs parts i bags ≡ joined_from i (messages_of messages) bags
  parts_from i [] up = refl
  parts_from i (bag ∷ bags) up =
      let here = one_joined i bag up.0 in
      let rest = parts_from (i + 1) bags up.1 in
      λ j. here j ∷ rest j

  pub parts_join : (bags : List Rows) → Each Up bags → with_parts outs parts 0 bags ≡ joined (messages_of messages) bags
  parts_join bags up = parts_from 0 bags up

-- ---- one element of a list

pub set_behind : {X : Type 0} (before : List X) (x y : X) (rest : List X) → slice_set (before ++ x ∷ rest) (length before) y ≡ before ++ y ∷ rest
set_behind [] x y rest = refl
set_behind (z ∷ before) x y rest = ap (λ l. z ∷ l) (set_behind before x y rest)
