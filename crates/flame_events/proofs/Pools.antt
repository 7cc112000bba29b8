-- What is seen at a spot, at a board and among the births of a type, when one of them is changed.
use Rattle.std.proofs.Common.{◌≡◌, ℕ, zero, suc, ◌+◌, ◌<◌, Bool, true, false, cond, List, [], ◌∷◌, ◌++◌, length, Some, refl, sym, ap, ◌∙◌, arith, ⊎_elim, ext_get_or, one-add}
use Rattle.std.specs.Prelude.{not, slice_get, slice_index_or}
use Rattle.std.specs.List.{position_or_len}
use Rattle.std.specs.Str.{bytes_eq}
use Rattle.std.proofs.lemmas.Bool.{cases_eq, cases_Bool, or_parts, false≢true}
use Rattle.std.proofs.lemmas.List.Folds.{list_any-append}
use Rattle.std.proofs.lemmas.Slice.Zip.{AllZip-long}
use Rattle.flame_rows.specs.Bags.{merge}
use Rattle.flame_rows.proofs.Bytes.{bytes_eq-true, bytes_eq-same}
use Rattle.flame_rows.proofs.Lists.{slice_get-some}
use Rattle.flame_spec.specs.declared.models.Model.{Model}
use Rattle.flame_spec.specs.declared.models.AgentType.{AgentType}
use Rattle.flame_spec.specs.declared.models.Function.{Function}
use Rattle.flame_spec.specs.KnownNames.{is_among}
use Rattle.flame_spec.specs.States.{distinct_after, states, ends, state_place}
use Rattle.flame_world.specs.Fields.{Field, HasPools, pool_in, changed, changed_pool, joined_from, joined}
use Rattle.flame_world.proofs.Eachs.{zip_at}
use Rattle.flame_world.proofs.Tallies.{length-joined_from}
use Rattle.flame_events.proofs.Weights.{Rows}
use Rattle.flame_events.proofs.Spots.{Spot, state_at, pool_at}

-- ---- one element changed

pub changed-here : {X : Type 0} (place : ℕ) (change : X → X) (d : X) (xs : List X)
    → place < length xs → slice_index_or (changed place change xs) place d ≡ change (slice_index_or xs place d)
changed-here place change d [] less = absurd (omega (arith, less))
changed-here zero change d (x ∷ xs) less = refl
changed-here (suc place) change d (x ∷ xs) less = changed-here place change d xs (omega (arith, less))

pub changed-else : {X : Type 0} (place other : ℕ) (change : X → X) (d : X) (xs : List X)
    → (other ≡ place → ⊥) → slice_index_or (changed place change xs) other d ≡ slice_index_or xs other d
changed-else place other change d [] apart = refl
changed-else zero zero change d (x ∷ xs) apart = absurd (apart refl)
changed-else zero (suc other) change d (x ∷ xs) apart = refl
changed-else (suc place) zero change d (x ∷ xs) apart = refl
changed-else (suc place) (suc other) change d (x ∷ xs) apart = changed-else place other change d xs (λ same. apart (ap suc same))

-- ---- states and their places

-- where a place is within, the element there passes
pub position-passes : {X : Type 0} (test : X → Bool) (d : X) (xs : List X)
    → position_or_len test xs < length xs → test (slice_index_or xs (position_or_len test xs) d) ≡ true
position-passes test d [] less = absurd (omega (arith, less))
position-passes test d (x ∷ xs) less =
    (elim (test x) as (λ t. test x ≡ t → cond (not t) (1 + position_or_len test xs) 0 < suc (length xs)
    → test (slice_index_or (x ∷ xs) (cond (not t) (1 + position_or_len test xs) 0) d) ≡ true) [
      | true ↦ λ passes within. passes
      | false ↦ λ fails within.
          ap (λ k. test (slice_index_or (x ∷ xs) k d)) (one-add (position_or_len test xs))
          ∙ position-passes test d xs (omega (arith, within))
    ])
    refl less

-- two states do not share a place
pub places_apart : (type : AgentType) (state other : List ℕ)
    → state_place type state < length (states type.functions)
    → state_place type other ≡ state_place type state → other ≡ state
places_apart type state other within same =
    let one = position-passes (λ text. bytes_eq text state) [] (states type.functions) within in
    let there : state_place type other < length (states type.functions) = omega (arith, within, same) in
    let two = position-passes (λ text. bytes_eq text other) [] (states type.functions) there in
    let here : slice_index_or (states type.functions) (state_place type other) [] ≡ slice_index_or (states type.functions) (state_place type state) [] =
    ap (λ k. slice_index_or (states type.functions) k []) same in
    sym (bytes_eq-true _ other two) ∙ here ∙ bytes_eq-true _ state one

-- each element differs from those before it
abbrev Apart : List (List ℕ) → List (List ℕ) → Type 0
Apart earlier [] = Unit {0}
Apart earlier (text ∷ texts) = (is_among text earlier ≡ false) × Apart (earlier ++ text ∷ []) texts

distinct_apart : (earlier texts : List (List ℕ)) → Apart earlier (distinct_after earlier texts)
distinct_apart earlier [] = tt
distinct_apart earlier (text ∷ texts) =
    (elim (is_among text earlier) as (λ t. is_among text earlier ≡ t
    → Apart earlier (cond t (distinct_after earlier texts) (text ∷ distinct_after (earlier ++ text ∷ []) texts))) [
      | true ↦ λ among. distinct_apart earlier texts
      | false ↦ λ new. (new, distinct_apart (earlier ++ text ∷ []) texts)
    ])
    refl

apart_earlier : (earlier texts : List (List ℕ)) (k : ℕ) → k < length texts → Apart earlier texts → is_among (slice_index_or texts k []) earlier ≡ false
apart_earlier earlier [] k less apart = absurd (omega (arith, less))
apart_earlier earlier (text ∷ texts) zero less apart = apart.0
apart_earlier earlier (text ∷ texts) (suc k) less apart =
    let later = apart_earlier (earlier ++ text ∷ []) texts k (omega (arith, less)) apart.1 in
    (or_parts (is_among (slice_index_or texts k []) earlier) (is_among (slice_index_or texts k []) (text ∷ []))
    (sym (list_any-append (bytes_eq (slice_index_or texts k [])) earlier (text ∷ [])) ∙ later)).0

-- a text that stands behind the head is not the head
head_apart : (earlier texts : List (List ℕ)) (text : List ℕ) (k : ℕ) → k < length texts → Apart (earlier ++ text ∷ []) texts → bytes_eq text (slice_index_or texts k []) ≡ false
head_apart earlier texts text k less apart =
    let found = apart_earlier (earlier ++ text ∷ []) texts k less apart in
    let parts = or_parts (is_among (slice_index_or texts k []) earlier) (is_among (slice_index_or texts k []) (text ∷ []))
    (sym (list_any-append (bytes_eq (slice_index_or texts k [])) earlier (text ∷ [])) ∙ found) in
    let differs = or_parts (bytes_eq (slice_index_or texts k []) text) false parts.1 in
    ⊎_elim
    (λ (same : bytes_eq text (slice_index_or texts k []) ≡ true).
    absurd (false≢true (sym differs.0 ∙ bytes_eq-same (slice_index_or texts k []) text (sym (bytes_eq-true text (slice_index_or texts k []) same)))))
    (λ (apart : bytes_eq text (slice_index_or texts k []) ≡ false). apart)
    (cases_Bool (bytes_eq text (slice_index_or texts k [])))

position_apart : (earlier texts : List (List ℕ)) (k : ℕ) → k < length texts → Apart earlier texts
    → position_or_len (λ other. bytes_eq other (slice_index_or texts k [])) texts ≡ k
position_apart earlier [] k less apart = absurd (omega (arith, less))
position_apart earlier (text ∷ texts) zero less apart = ap (λ t. cond (not t) (1 + position_or_len (λ other. bytes_eq other text) texts) 0) (bytes_eq-same text text refl)
position_apart earlier (text ∷ texts) (suc k) less apart =
    let later = position_apart (earlier ++ text ∷ []) texts k (omega (arith, less)) apart.1 in
    let differs = head_apart earlier texts text k (omega (arith, less)) apart.1 in
    ap (λ t. cond (not t) (1 + position_or_len (λ other. bytes_eq other (slice_index_or texts k [])) texts) 0) differs
    ∙ one-add _ ∙ ap suc later

apart_states : (functions : List Function) → Apart [] (states functions)
apart_states [] = (refl, tt)
apart_states (function ∷ functions) = distinct_apart [] (ends (function ∷ functions))

-- the state at a place has that place
pub place_of_state : (type : AgentType) (k : ℕ) → k < length (states type.functions)
    → state_place type (slice_index_or (states type.functions) k []) ≡ k
place_of_state type k less = position_apart [] (states type.functions) k less (apart_states type.functions)

-- ---- a pool changed

pub pools_long : (model : Model) (field : Field) (agent : ℕ) (type : AgentType)
    → HasPools model field → slice_get model.agents agent ≡ Some type
    → length (slice_index_or field.pools agent []) ≡ length (states type.functions)
pools_long model field agent type has at =
    zip_at (λ (t : AgentType) (pools : List Rows). length pools ≡ length (states t.functions)) model.agents field.pools agent type [] has at

inner_below : {X : Type 0} (lists : List (List X)) (a s : ℕ) → s < length (slice_index_or lists a []) → a < length lists
inner_below [] a s less = absurd (omega (arith, less))
inner_below (xs ∷ lists) zero s less = omega arith
inner_below (xs ∷ lists) (suc a) s less = omega (arith, inner_below lists a s less)

module _ (model : Model) (field : Field) (agent : ℕ) (type : AgentType) (state : List ℕ) (change : Rows → Rows)
    (has : HasPools model field) (typed : slice_get model.agents agent ≡ Some type)
    (within : state_place type state < length (states type.functions)) where
  there : state_place type state < length (slice_index_or field.pools agent [])
  there = omega (arith, within, pools_long model field agent type has typed)

  outer : agent < length field.pools
  outer = inner_below field.pools agent (state_place type state) there

  -- the pool of the state is changed
  pub changed_pool-here :
      pool_at model (changed_pool agent (state_place type state) change field.pools) (record { agent = agent; state = state })
      ≡ change (pool_at model field.pools (record { agent = agent; state = state }))
  changed_pool-here =
      let at : state_at (slice_get model.agents agent) state ≡ state_place type state = ap (λ o. state_at o state) typed in
      ap (λ k. pool_in (changed_pool agent (state_place type state) change field.pools) agent k) at
      ∙ ap (λ own. slice_index_or own (state_place type state) []) (changed-here agent (changed (state_place type state) change) [] field.pools outer)
      ∙ changed-here (state_place type state) change [] (slice_index_or field.pools agent []) there
      ∙ ap (λ k. change (pool_in field.pools agent k)) (sym at)

  -- all other pools stay
  pub changed_pool-else : (p : Spot) → (p ≡ record { agent = agent; state = state } → ⊥)
      → pool_at model (changed_pool agent (state_place type state) change field.pools) p ≡ pool_at model field.pools p
  changed_pool-else p apart = ⊎_elim
      (λ (same : p.agent ≡ agent).
      let typed_p : slice_get model.agents p.agent ≡ Some type = ap (slice_get model.agents) same ∙ typed in
      let at : state_at (slice_get model.agents p.agent) p.state ≡ state_place type p.state = ap (λ o. state_at o p.state) typed_p in
      let differs : state_place type p.state ≡ state_place type state → ⊥ =
      λ e. apart (let texts = places_apart type state p.state within e in λ i. record { agent = same i; state = texts i }) in
      ap (λ k. pool_in (changed_pool agent (state_place type state) change field.pools) p.agent k) at
      ∙ ap (λ a. pool_in (changed_pool agent (state_place type state) change field.pools) a (state_place type p.state)) same
      ∙ ap (λ own. slice_index_or own (state_place type p.state) []) (changed-here agent (changed (state_place type state) change) [] field.pools outer)
      ∙ changed-else (state_place type state) (state_place type p.state) change [] (slice_index_or field.pools agent []) differs
      ∙ ap (λ a. pool_in field.pools a (state_place type p.state)) (sym same)
      ∙ ap (λ k. pool_in field.pools p.agent k) (sym at))
      (λ (differs : p.agent ≡ agent → ⊥).
      ap (λ own. slice_index_or own (state_at (slice_get model.agents p.agent) p.state) [])
      (changed-else agent p.agent (changed (state_place type state) change) [] field.pools differs))
      (cases_eq p.agent agent)

-- ---- rows joined

pub length-joined : (rows : ℕ → Rows) (bags : List Rows) → length (joined rows bags) ≡ length bags
length-joined rows bags = length-joined_from rows 0 bags

joined_from-at : (i : ℕ) (rows : ℕ → Rows) (bags : List Rows) (k : ℕ) → k < length bags
    → slice_index_or (joined_from i rows bags) k [] ≡ merge (slice_index_or bags k []) (rows (i + k))
joined_from-at i rows [] k less = absurd (omega (arith, less))
joined_from-at i rows (bag ∷ bags) zero less = ap (λ n. merge bag (rows n)) (omega arith)
joined_from-at i rows (bag ∷ bags) (suc k) less =
    joined_from-at (i + 1) rows bags k (omega (arith, less)) ∙ ap (λ n. merge (slice_index_or bags k []) (rows n)) (omega arith)

pub joined-at : (rows : ℕ → Rows) (bags : List Rows) (k : ℕ) → k < length bags
    → slice_index_or (joined rows bags) k [] ≡ merge (slice_index_or bags k []) (rows k)
joined-at rows bags k less = joined_from-at 0 rows bags k less ∙ ap (λ n. merge (slice_index_or bags k []) (rows n)) (omega arith)

-- ---- all pools, by what is seen at spots

pub pools_same : (model : Model) (field other : Field) → HasPools model field → HasPools model other
    → ((p : Spot) → pool_at model field.pools p ≡ pool_at model other.pools p)
    → field.pools ≡ other.pools
pools_same model field other has have same =
    let R : AgentType → List Rows → Type 0 = λ type own. length own ≡ length (states type.functions) in
    let many : length field.pools ≡ length model.agents = AllZip-long R model.agents field.pools has in
    let long : length field.pools ≡ length other.pools = many ∙ sym (AllZip-long R model.agents other.pools have) in
    ext_get_or [] field.pools other.pools long
    (λ a less.
    let found = slice_get-some model.agents a (omega (arith, less, many)) in
    let type = found.0 in
    let one = pools_long model field a type has found.1 in
    let two = pools_long model other a type have found.1 in
    ext_get_or [] (slice_index_or field.pools a []) (slice_index_or other.pools a []) (one ∙ sym two)
    (λ s within.
    let text = slice_index_or (states type.functions) s [] in
    let here : state_at (slice_get model.agents a) text ≡ s = ap (λ o. state_at o text) found.1 ∙ place_of_state type s (omega (arith, within, one)) in
    ap (λ k. pool_in field.pools a k) (sym here) ∙ same (record { agent = a; state = text }) ∙ ap (λ k. pool_in other.pools a k) here))
