-- What a field holds, in terms of how far each function came.
use Rattle.std.proofs.Common.{◌≡◌, ℕ, ◌<◌, Bool, true, false, cond, List, [], ◌++◌, length, map, Option, Some, None, refl, sym, ap, ◌∙◌, arith, ext_get_or}
use Rattle.std.specs.Prelude.{◌==◌, slice_index_or}
use Rattle.std.specs.List.{filter, filter_map}
use Rattle.std.proofs.lemmas.Bool.{eqb-true, true≢false, false≢true}
use Rattle.std.proofs.lemmas.List.{map-append}
use Rattle.std.proofs.lemmas.List.Elements.{filter-append, filter_map-append}
use Rattle.std.proofs.lemmas.List.Concat.{flat_map-append}
use Rattle.flame_rows.specs.Order.{row_order}
use Rattle.flame_rows.specs.Sorted.{IsAscending}
use Rattle.flame_rows.specs.Bags.{ascending, weigh}
use Rattle.flame_rows.proofs.BagLaws.{IsAscending-ascending, weigh-ascending, equal_by_weighings, IsAscending-filter}
use Rattle.flame_spec.specs.declared.models.Model.{Model}
use Rattle.flame_spec.specs.declared.outcomes.Outcome.{Outcome}
use Rattle.flame_spec.specs.declared.outcomes.Sent.{Sent}
use Rattle.flame_spec.specs.Before.{function_count}
use Rattle.flame_spec.specs.Below.{is_in}
use Rattle.flame_spec.specs.Choice.{is_chosen}
use Rattle.flame_meaning.specs.Outcomes.{outcome}
use Rattle.flame_world.specs.AgentRuns.{kept, sent_by, born_by, sent_from, born_from, messages_of, births_of}
use Rattle.flame_world.specs.Fields.{Field, HasPools}
use Rattle.flame_world.specs.Iterations.{Round}
use Rattle.flame_world.proofs.JoinedBags.{births_of-append}
use Rattle.flame_events.specs.LegalEvents.{inputs_of, outputs_of}
use Rattle.flame_events.proofs.Weights.{Row, Rows, Weight, only, weigh-filter, weigh-same, all_from, all_from-same}
use Rattle.flame_events.proofs.Spots.{Spot, same_spot, same_spot-true, leaves, enters, pool_at, choice_at}
use Rattle.flame_events.proofs.Pools.{pools_same}

-- ---- the ideal: which agents a function meets when all that stand before it are done, and what it does with a memory

pub record Ideal : Type 0 where
  pub agents : ℕ → Rows
  pub run : ℕ → Row → Outcome

-- what these agents leave of a function
abbrev pub lived : Ideal → ℕ → Rows → Rows
lived t f rows = filter_map (λ memory. kept (t.run f memory)) rows

abbrev pub sent : Ideal → ℕ → ℕ → Rows → Rows
sent t f m rows = messages_of (sent_from (t.run f) rows) m

abbrev pub born : Ideal → ℕ → ℕ → Rows → Rows
born t f k rows = births_of (born_from (t.run f) rows) k

pub lived-append : (t : Ideal) (f : ℕ) (xs ys : Rows) → lived t f (xs ++ ys) ≡ lived t f xs ++ lived t f ys
lived-append t f xs ys = filter_map-append (λ memory. kept (t.run f memory)) xs ys

pub messages_of-append : (m : ℕ) (xs ys : List Sent) → messages_of (xs ++ ys) m ≡ messages_of xs m ++ messages_of ys m
messages_of-append m xs ys =
    ap (map (λ (s : Sent). s.row)) (filter-append (λ (s : Sent). s.message == m) xs ys)
    ∙ map-append (λ (s : Sent). s.row) (filter (λ (s : Sent). s.message == m) xs) (filter (λ (s : Sent). s.message == m) ys)

pub sent-append : (t : Ideal) (f m : ℕ) (xs ys : Rows) → sent t f m (xs ++ ys) ≡ sent t f m xs ++ sent t f m ys
sent-append t f m xs ys =
    ap (λ l. messages_of l m) (flat_map-append (λ memory. sent_by (t.run f memory)) xs ys)
    ∙ messages_of-append m (sent_from (t.run f) xs) (sent_from (t.run f) ys)

pub born-append : (t : Ideal) (f k : ℕ) (xs ys : Rows) → born t f k (xs ++ ys) ≡ born t f k xs ++ born t f k ys
born-append t f k xs ys =
    ap (λ l. births_of l k) (flat_map-append (λ memory. born_by (t.run f memory)) xs ys)
    ∙ births_of-append k (born_from (t.run f) xs) (born_from (t.run f) ys)

-- ---- what comes from a function

abbrev pub into : Model → Ideal → (ℕ → Rows) → Spot → ℕ → Rows
into model t ran p g = cond (same_spot (enters model g) p) (lived t g (ran g)) []

abbrev pub onto : Model → Ideal → (ℕ → Rows) → ℕ → ℕ → Rows
onto model t handed m g = cond (is_in m (outputs_of model g)) (sent t g m (handed g)) []

abbrev pub bore : Ideal → (ℕ → Rows) → ℕ → ℕ → Rows
bore t ran k g = born t g k (ran g)

-- all that ever rest at a spot
abbrev pub inflow : Model → (Spot → Rows) → Ideal → Spot → Rows
inflow model start t p = start p ++ all_from (function_count model) (into model t t.agents p)

-- all that is ever on a board
abbrev pub full_board : Model → Ideal → ℕ → Rows
full_board model t m = ascending (all_from (function_count model) (onto model t t.agents m))

-- an agent takes the function
abbrev pub takes : Round → ℕ → Row → Bool
takes round f memory = is_chosen f (choice_at round (leaves round.source.model f) memory)

-- what a function does over these boards
abbrev pub over : Round → ℕ → List Rows → Row → Outcome
over round f boards memory = outcome round.source f memory boards round.constants round.iteration round.fuel

pub record IsIdealAt (round : Round) (start : Spot → Rows) (t : Ideal) (f : ℕ) : Type 0 where
  pub agents : t.agents f ≡ filter (takes round f) (ascending (inflow round.source.model start t (leaves round.source.model f)))
  pub run : (boards : List Rows)
      → ((m : ℕ) → is_in m (inputs_of round.source.model f) ≡ true → slice_index_or boards m [] ≡ full_board round.source.model t m)
      → (memory : Row) → over round f boards memory ≡ t.run f memory

abbrev pub IsIdeal : Round → (Spot → Rows) → Ideal → Type 0
IsIdeal round start t = (f : ℕ) → f < function_count round.source.model → IsIdealAt round start t f

-- ---- what a field holds

-- an agent rests where its choice, if it has one, is still to come
abbrev pub rests : (ℕ → Bool) → Option ℕ → Bool
rests still None = true
rests still (Some f) = still f

abbrev pub resting : Round → (ℕ → Bool) → Spot → Row → Bool
resting round still p memory = rests still (choice_at round p memory)

pub record HasShape (model : Model) (field : Field) : Type 0 where
  pub pools : HasPools model field
  pub born : length field.born ≡ length model.agents
  pub boards : length field.boards ≡ length model.messages

-- still f: f is still to come. ran g: the agents of g that ran. handed m g: those whose messages m are handed in
pub record Holds (round : Round) (start : Spot → Rows) (t : Ideal) (field : Field) (still : ℕ → Bool) (ran : ℕ → Rows) (handed : ℕ → ℕ → Rows) : Type 0 where
  pub pools : (p : Spot) (w : Weight)
      → weigh w (pool_at round.source.model field.pools p)
      ≡ weigh (only (resting round still p) w) (start p ++ all_from (function_count round.source.model) (into round.source.model t ran p))
  pub boards : (m : ℕ) (w : Weight) → m < length round.source.model.messages
      → weigh w (slice_index_or field.boards m []) ≡ weigh w (all_from (function_count round.source.model) (onto round.source.model t (handed m) m))
  pub born : (k : ℕ) (w : Weight) → k < length round.source.model.agents
      → weigh w (slice_index_or field.born k []) ≡ weigh w (all_from (function_count round.source.model) (bore t ran k))
  pub pools_up : (p : Spot) → IsAscending row_order (pool_at round.source.model field.pools p)
  pub boards_up : (m : ℕ) → IsAscending row_order (slice_index_or field.boards m [])
  pub born_up : (k : ℕ) → IsAscending row_order (slice_index_or field.born k [])
  pub shape : HasShape round.source.model field

-- ---- when all that stand before f are done, f meets what it should

is_this : (f : ℕ) (o : Option ℕ) → is_chosen f o ≡ true → o ≡ Some f
is_this f None chosen = absurd (false≢true chosen)
is_this f (Some g) chosen = ap Some (eqb-true g f chosen)

only_twice : (taken rest : Bool) (n : ℕ) → (taken ≡ true → rest ≡ true) → cond rest (cond taken n 0) 0 ≡ cond taken n 0
only_twice true true n h = refl
only_twice true false n h = absurd (true≢false (sym (h refl)))
only_twice false true n h = refl
only_twice false false n h = refl

cond-same : (b : Bool) (xs ys : Rows) → (b ≡ true → xs ≡ ys) → cond b xs [] ≡ cond b ys []
cond-same true xs ys h = h refl
cond-same false xs ys h = refl

module _ (round : Round) (start : Spot → Rows) (t : Ideal) (field : Field) (still : ℕ → Bool) (ran : ℕ → Rows) (handed : ℕ → ℕ → Rows)
    (h : Holds round start t field still ran handed) where
  pub meets_agents : (f : ℕ) → still f ≡ true
      → ((g : ℕ) → g < function_count round.source.model → enters round.source.model g ≡ leaves round.source.model f → ran g ≡ t.agents g)
      → filter (takes round f) (pool_at round.source.model field.pools (leaves round.source.model f))
      ≡ filter (takes round f) (ascending (inflow round.source.model start t (leaves round.source.model f)))
  meets_agents f waits done =
      let model = round.source.model in
      let n = function_count model in
      let p = leaves model f in
      let whole = inflow model start t p in
      let pool = pool_at model field.pools p in
      let same : start p ++ all_from n (into model t ran p) ≡ whole =
      ap (λ l. start p ++ l) (all_from-same n (into model t ran p) (into model t t.agents p)
      (λ g less. cond-same (same_spot (enters model g) p) (lived t g (ran g)) (lived t g (t.agents g))
      (λ meets. ap (lived t g) (done g less (same_spot-true (enters model g) p meets))))) in
      equal_by_weighings (filter (takes round f) pool) (filter (takes round f) (ascending whole))
      (IsAscending-filter (takes round f) pool (h.pools_up p))
      (IsAscending-filter (takes round f) (ascending whole) (IsAscending-ascending whole))
      (λ w.
      let v : Weight = only (takes round f) w in
      weigh-filter w (takes round f) pool
      ∙ h.pools p v
      ∙ weigh-same (only (resting round still p) v) v (start p ++ all_from n (into model t ran p))
      (λ memory. only_twice (takes round f memory) (resting round still p memory) (w memory)
      (λ taken. ap (rests still) (is_this f (choice_at round p memory) taken) ∙ waits))
      ∙ ap (weigh v) same
      ∙ sym (weigh-ascending v whole)
      ∙ sym (weigh-filter w (takes round f) (ascending whole)))

  pub meets_board : (m : ℕ) → m < length round.source.model.messages
      → ((g : ℕ) → g < function_count round.source.model → is_in m (outputs_of round.source.model g) ≡ true → handed m g ≡ t.agents g)
      → slice_index_or field.boards m [] ≡ full_board round.source.model t m
  meets_board m within done =
      let model = round.source.model in
      let n = function_count model in
      let same = all_from-same n (onto model t (handed m) m) (onto model t t.agents m)
      (λ g less. cond-same (is_in m (outputs_of model g)) (sent t g m (handed m g)) (sent t g m (t.agents g)) (λ writes. ap (sent t g m) (done g less writes))) in
      equal_by_weighings (slice_index_or field.boards m []) (full_board model t m) (h.boards_up m)
      (IsAscending-ascending (all_from n (onto model t t.agents m)))
      (λ w. h.boards m w within ∙ ap (weigh w) same ∙ sym (weigh-ascending w (all_from n (onto model t t.agents m))))

-- ---- two fields that hold the same are equal

pub same_fields : (round : Round) (start : Spot → Rows) (t : Ideal) (field other : Field) (still : ℕ → Bool) (ran : ℕ → Rows) (handed : ℕ → ℕ → Rows)
    → Holds round start t field still ran handed → Holds round start t other still ran handed → field ≡ other
same_fields round start t field other still ran handed h k =
    let model = round.source.model in
    let pools = pools_same model field other h.shape.pools k.shape.pools
    (λ p. equal_by_weighings (pool_at model field.pools p) (pool_at model other.pools p) (h.pools_up p) (k.pools_up p) (λ w. h.pools p w ∙ sym (k.pools p w))) in
    let births = ext_get_or [] field.born other.born (h.shape.born ∙ sym k.shape.born)
    (λ i less. equal_by_weighings (slice_index_or field.born i []) (slice_index_or other.born i []) (h.born_up i) (k.born_up i)
    (λ w. let within : i < length model.agents = omega (arith, less, h.shape.born) in h.born i w within ∙ sym (k.born i w within))) in
    let boards = ext_get_or [] field.boards other.boards (h.shape.boards ∙ sym k.shape.boards)
    (λ i less. equal_by_weighings (slice_index_or field.boards i []) (slice_index_or other.boards i []) (h.boards_up i) (k.boards_up i)
    (λ w. let within : i < length model.messages = omega (arith, less, h.shape.boards) in h.boards i w within ∙ sym (k.boards i w within))) in
    λ i. record { pools = pools i; born = births i; boards = boards i }
