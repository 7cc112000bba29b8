-- What a field becomes when the takers of several functions ran.
use Rattle.std.proofs.Common.{◌≡◌, ℕ, zero, suc, ◌+◌, ◌<◌, Bool, true, false, cond, List, [], ◌∷◌, length, Option, Some, None, refl, ap, ◌∙◌, arith}
use Rattle.std.specs.Prelude.{slice_get, slice_index_or}
use Rattle.std.specs.List.{All}
use Rattle.std.proofs.lemmas.List.Elements.{All-head, All-tail}
use Rattle.flame_rows.specs.Bags.{weigh}
use Rattle.flame_rows.proofs.BagLaws.{equal_by_weighings, merge_adds_weights}
use Rattle.flame_rows.proofs.Lists.{slice_get-some}
use Rattle.flame_spec.specs.Before.{function_count}
use Rattle.flame_spec.specs.Below.{is_in}
use Rattle.flame_spec.specs.Functions.{Place, functions}
use Rattle.flame_meaning.specs.RangeLaws.{Each}
use Rattle.flame_world.specs.AgentRuns.{messages_of, sent_from}
use Rattle.flame_world.specs.Fields.{Field, joined_from}
use Rattle.flame_world.specs.Iterations.{Round, outcome_in}
use Rattle.flame_world.proofs.Tallies.{length-joined_from}
use Rattle.flame_events.specs.LegalEvents.{outputs_of}
use Rattle.flame_events.proofs.Weights.{Rows, Weight}
use Rattle.flame_orders.proofs.SortedFields.{Up, joined_sorted}
use Rattle.flame_layers.specs.LayerFields.{all_takers, brought_at, brought_by, brought_by_all, left_at, left_by_all, left_by_takers}
use Rattle.flame_layerrun.proofs.SentWeights.{by_takers, sends, sent_weighs, weigh_out}

-- ---- bags beside each other

-- bags in order that weigh the same at each place are equal
pub bags_equal : (xs ys : List Rows) → Each Up xs → Each Up ys → length xs ≡ length ys
    → ((m : ℕ) (w : Weight) → m < length xs → weigh w (slice_index_or xs m []) ≡ weigh w (slice_index_or ys m []))
    → xs ≡ ys
bags_equal [] [] up above long same = refl
bags_equal [] (y ∷ ys) up above long same = absurd (omega (arith, long))
bags_equal (x ∷ xs) [] up above long same = absurd (omega (arith, long))
bags_equal (x ∷ xs) (y ∷ ys) up above long same =
    let here : x ≡ y = equal_by_weighings x y up.0 above.0 (λ w. same 0 w (omega arith)) in
    let rest = bags_equal xs ys up.1 above.1 (omega (arith, long)) (λ m w less. same (suc m) w (omega (arith, less))) in
    (λ i. here i ∷ rest i)

-- a bag to which rows are added weighs as much more
joined-weighs : (w : Weight) (rows : ℕ → Rows) (i m : ℕ) (bags : List Rows) → m < length bags
    → weigh w (slice_index_or (joined_from i rows bags) m []) ≡ weigh w (slice_index_or bags m []) + weigh w (rows (i + m))
joined-weighs w rows i m [] less = absurd (omega (arith, less))
joined-weighs w rows i zero (bag ∷ bags) less =
    merge_adds_weights w bag (rows i) ∙ ap (λ n. weigh w bag + weigh w (rows n)) (omega arith)
joined-weighs w rows i (suc m) (bag ∷ bags) less =
    joined-weighs w rows (i + 1) m bags (omega (arith, less))
    ∙ ap (λ n. weigh w (slice_index_or bags m []) + weigh w (rows n)) (omega arith)

-- ---- takers leave

pub left-boards : (round : Round) (fs : List ℕ) (field : Field) → (left_by_all round fs field).boards ≡ field.boards
left-boards round [] field = refl
left-boards round (f ∷ fs) field =
    left-boards round fs (left_by_takers round f field) ∙ at (slice_get (functions round.source.model) f)
  where
    at : (place : Option Place) → (left_at place round f field).boards ≡ field.boards
    at None = refl
    at (Some place) = refl

pub takers-length : (round : Round) (fs : List ℕ) (field : Field) → length (all_takers round fs field) ≡ length fs
takers-length round [] field = refl
takers-length round (f ∷ fs) field = omega (arith, takers-length round fs (left_by_takers round f field))

-- ---- what they leave behind

module _ (round : Round) (read : Field) where
  -- pools and births do not depend on boards
  at-pools : (place : Option Place) (f : ℕ) (agents : Rows) (field other : Field) → field.pools ≡ other.pools
      → (brought_at place round read f agents field).pools ≡ (brought_at place round read f agents other).pools
  at-pools None f agents field other same = same
  at-pools (Some place) f agents field other same =
      ap (λ pools. (brought_at (Some place) round read f agents (record { pools = pools; born = []; boards = [] })).pools) same

  at-born : (place : Option Place) (f : ℕ) (agents : Rows) (field other : Field) → field.born ≡ other.born
      → (brought_at place round read f agents field).born ≡ (brought_at place round read f agents other).born
  at-born None f agents field other same = same
  at-born (Some place) f agents field other same =
      ap (λ born. (brought_at (Some place) round read f agents (record { pools = []; born = born; boards = [] })).born) same

  pub brought-pools : (fs : List ℕ) (takers : List Rows) (field other : Field) → field.pools ≡ other.pools
      → (brought_by_all round read fs takers field).pools ≡ (brought_by_all round read fs takers other).pools
  brought-pools [] takers field other same = same
  brought-pools (f ∷ fs) [] field other same = same
  brought-pools (f ∷ fs) (agents ∷ takers) field other same =
      brought-pools fs takers (brought_by round read f agents field) (brought_by round read f agents other)
      (at-pools (slice_get (functions round.source.model) f) f agents field other same)

  pub brought-born : (fs : List ℕ) (takers : List Rows) (field other : Field) → field.born ≡ other.born
      → (brought_by_all round read fs takers field).born ≡ (brought_by_all round read fs takers other).born
  brought-born [] takers field other same = same
  brought-born (f ∷ fs) [] field other same = same
  brought-born (f ∷ fs) (agents ∷ takers) field other same =
      brought-born fs takers (brought_by round read f agents field) (brought_by round read f agents other)
      (at-born (slice_get (functions round.source.model) f) f agents field other same)

  -- boards stay as many, and stay in order
  at-length : (place : Option Place) (f : ℕ) (agents : Rows) (field : Field)
      → length (brought_at place round read f agents field).boards ≡ length field.boards
  at-length None f agents field = refl
  at-length (Some place) f agents field =
      length-joined_from (messages_of (sent_from (outcome_in round f read) agents)) 0 field.boards

  pub brought-length : (fs : List ℕ) (takers : List Rows) (field : Field)
      → length (brought_by_all round read fs takers field).boards ≡ length field.boards
  brought-length [] takers field = refl
  brought-length (f ∷ fs) [] field = refl
  brought-length (f ∷ fs) (agents ∷ takers) field =
      brought-length fs takers (brought_by round read f agents field)
      ∙ at-length (slice_get (functions round.source.model) f) f agents field

  at-up : (place : Option Place) (f : ℕ) (agents : Rows) (field : Field) → Each Up field.boards
      → Each Up (brought_at place round read f agents field).boards
  at-up None f agents field up = up
  at-up (Some place) f agents field up =
      joined_sorted 0 (messages_of (sent_from (outcome_in round f read) agents)) field.boards

  pub brought-up : (fs : List ℕ) (takers : List Rows) (field : Field) → Each Up field.boards
      → Each Up (brought_by_all round read fs takers field).boards
  brought-up [] takers field up = up
  brought-up (f ∷ fs) [] field up = up
  brought-up (f ∷ fs) (agents ∷ takers) field up =
      brought-up fs takers (brought_by round read f agents field)
      (at-up (slice_get (functions round.source.model) f) f agents field up)

  -- functions send nothing but what they output
  abbrev pub AreSilent : Type 0
  AreSilent =
      (f : ℕ) → f < function_count round.source.model → (rows : Rows) (m : ℕ)
      → is_in m (outputs_of round.source.model f) ≡ false → messages_of (sent_from (outcome_in round f read) rows) m ≡ []

  sent_is_out : AreSilent → (f : ℕ) → f < function_count round.source.model → (m : ℕ) (w : Weight) (agents : Rows)
      → weigh w (messages_of (sent_from (outcome_in round f read) agents) m) ≡ weigh_out round read m w f agents
  sent_is_out silent f less m w agents = by (is_in m (outputs_of round.source.model f)) refl
    where
      by : (b : Bool) → is_in m (outputs_of round.source.model f) ≡ b
          → weigh w (messages_of (sent_from (outcome_in round f read) agents) m)
          ≡ cond b (weigh (sends round read m w f) agents) 0
      by true is = sent_weighs round read m w f agents
      by false is = ap (weigh w) (silent f less agents m is)

  -- boards weigh more by what was sent
  pub brought-weighs : AreSilent → (m : ℕ) (w : Weight) (fs : List ℕ) (takers : List Rows) (field : Field)
      → All (λ f. f < function_count round.source.model) fs
      → m < length field.boards
      → weigh w (slice_index_or (brought_by_all round read fs takers field).boards m [])
      ≡ weigh w (slice_index_or field.boards m []) + by_takers round read m w fs takers
  brought-weighs silent m w [] takers field there less = omega arith
  brought-weighs silent m w (f ∷ fs) [] field there less = omega arith
  brought-weighs silent m w (f ∷ fs) (agents ∷ takers) field there less =
      let P : ℕ → Type 0 = λ g. g < function_count round.source.model in
      let model = round.source.model in
      let known : f < function_count model = All-head P f fs there in
      let place = slice_get-some (functions model) f known in
      let next : Field = brought_by round read f agents field in
      let here : weigh w (slice_index_or next.boards m []) ≡ weigh w (slice_index_or field.boards m []) + weigh_out round read m w f agents =
      ap (λ o. weigh w (slice_index_or (brought_at o round read f agents field).boards m [])) place.1
      ∙ joined-weighs w (messages_of (sent_from (outcome_in round f read) agents)) 0 m field.boards less
      ∙ ap (λ n. weigh w (slice_index_or field.boards m []) + weigh w (messages_of (sent_from (outcome_in round f read) agents) n)) (omega arith)
      ∙ ap (λ n. weigh w (slice_index_or field.boards m []) + n) (sent_is_out silent f known m w agents) in
      let long = at-length (slice_get (functions model) f) f agents field in
      let rest = brought-weighs silent m w fs takers next (All-tail P f fs there) (omega (arith, less, long)) in
      omega (arith, here, rest)
