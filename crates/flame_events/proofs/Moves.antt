-- How a field goes on: a function is opened, or it adds something.
use Rattle.std.proofs.Common.{◌≡◌, ℕ, ◌+◌, ◌<◌, Bool, true, false, cond, List, [], ◌++◌, length, Option, Some, None, refl, sym, ap, ◌∙◌, arith, subst}
use Rattle.std.specs.Prelude.{not, ◌==◌, slice_get, slice_index_or}
use Rattle.std.specs.List.{AllZip}
use Rattle.std.proofs.lemmas.Bool.{eq-eqb, ne_eqb, false≢true}
use Rattle.flame_rows.specs.Order.{row_order}
use Rattle.flame_rows.specs.Sorted.{IsAscending}
use Rattle.flame_rows.specs.Bags.{ascending, merge, weigh}
use Rattle.flame_rows.proofs.BagLaws.{weigh-append, weigh-ascending, merge_adds_weights, IsAscending-merge, IsAscending-filter}
use Rattle.flame_spec.specs.declared.models.Model.{Model}
use Rattle.flame_spec.specs.declared.models.AgentType.{AgentType}
use Rattle.flame_spec.specs.Before.{function_count}
use Rattle.flame_spec.specs.Below.{is_in}
use Rattle.flame_spec.specs.Choice.{is_chosen}
use Rattle.flame_spec.specs.Functions.{Place, functions}
use Rattle.flame_spec.specs.States.{states, state_place}
use Rattle.flame_world.specs.Fields.{Field, HasPools, changed, changed_pool}
use Rattle.flame_world.specs.Iterations.{Round, staying}
use Rattle.flame_world.proofs.Eachs.{zip_changed}
use Rattle.flame_events.specs.LegalEvents.{outputs_of}
use Rattle.flame_events.proofs.Weights.{Row, Rows, Weight, only, weigh-filter, weigh-same, all_from, weigh-all_from-more}
use Rattle.flame_events.proofs.Spots.{Spot, same_spot, same_spot-true, true-same_spot, leaves_at, leaves, enters_at, enters, pool_at, choice_at, choice_leaves, at_type}
use Rattle.flame_events.proofs.Pools.{changed_pool-here, changed_pool-else}
use Rattle.flame_events.proofs.Holding.{Ideal, lived, sent, born, into, onto, bore, rests, resting, HasShape, Holds}
use Rattle.flame_world.proofs.Counting.{length-changed}

-- ---- tables

abbrev pub put : {A : Type 0} → (ℕ → A) → ℕ → A → ℕ → A
put table i value j = cond (j == i) value (table j)

pub put-same : {A : Type 0} (table : ℕ → A) (i : ℕ) (value : A) → put table i value i ≡ value
put-same table i value = ap (λ b. cond b value (table i)) (eq-eqb i i refl)

pub put-else : {A : Type 0} (table : ℕ → A) (i : ℕ) (value : A) (j : ℕ) → (j ≡ i → ⊥) → put table i value j ≡ table j
put-else table i value j apart = ap (λ b. cond b value (table j)) (ne_eqb j i apart)

-- ---- pools keep their shape

pub has_changed : (model : Model) (pools : List (List Rows)) (agent state : ℕ) (change : Rows → Rows)
    → AllZip (λ (type : AgentType) own. length own ≡ length (states type.functions)) model.agents pools
    → AllZip (λ (type : AgentType) own. length own ≡ length (states type.functions)) model.agents (changed_pool agent state change pools)
has_changed model pools agent state change has =
    zip_changed (λ (type : AgentType) own. length own ≡ length (states type.functions)) model.agents pools agent (changed state change) has
    (λ type own at long. length-changed state change own ∙ long)

-- ---- f is opened: its takers leave

two_tests : (chosen rest : Bool) (n : ℕ) → cond rest (cond (not chosen) n 0) 0 ≡ cond (cond chosen false rest) n 0
two_tests true true n = refl
two_tests true false n = refl
two_tests false true n = refl
two_tests false false n = refl

rests_opened : (still : ℕ → Bool) (f : ℕ) (o : Option ℕ) (n : ℕ)
    → cond (rests still o) (cond (not (is_chosen f o)) n 0) 0 ≡ cond (rests (put still f false) o) n 0
rests_opened still f None n = refl
rests_opened still f (Some g) n = two_tests (g == f) (still g) n

abbrev pub left : Round → ℕ → Place → Field → Field
left round f place field = record field {
  pools = changed_pool place.agent (state_place place.type place.function.current) (staying round f place) field.pools;
}

module _ (round : Round) (start : Spot → Rows) (t : Ideal) (field : Field) (still : ℕ → Bool) (ran : ℕ → Rows) (handed : ℕ → ℕ → Rows)
    (h : Holds round start t field still ran handed) (f : ℕ) (place : Place) (at : slice_get (functions round.source.model) f ≡ Some place) where
  abbrev model : Model
  model = round.source.model

  abbrev from : Spot
  from = leaves_at (Some place)

  is_from : leaves model f ≡ from
  is_from = ap leaves_at at

  here : pool_at model (left round f place field).pools from ≡ staying round f place (pool_at model field.pools from)
  here = let typed = at_type model f place at in
      changed_pool-here model field place.agent place.type place.function.current (staying round f place) h.shape.pools typed.type typed.current

  else : (p : Spot) → (p ≡ from → ⊥) → pool_at model (left round f place field).pools p ≡ pool_at model field.pools p
  else p apart = let typed = at_type model f place at in
      changed_pool-else model field place.agent place.type place.function.current (staying round f place) h.shape.pools typed.type typed.current p apart

  abbrev come : Spot → Rows
  come p = start p ++ all_from (function_count model) (into model t ran p)

  at_from : (w : Weight) → weigh w (pool_at model (left round f place field).pools from) ≡ weigh (only (resting round (put still f false) from) w) (come from)
  at_from w =
      let v : Weight = only (λ memory. not (is_chosen f (choice_at round from memory))) w in
      ap (weigh w) here
      ∙ weigh-filter w (λ memory. not (is_chosen f (choice_at round from memory))) (pool_at model field.pools from)
      ∙ h.pools from v
      ∙ weigh-same (only (resting round still from) v) (only (resting round (put still f false) from) w) (come from)
      (λ memory. rests_opened still f (choice_at round from memory) (w memory))

  rests_else : (p : Spot) → (p ≡ from → ⊥) → (memory : Row) (o : Option ℕ) → choice_at round p memory ≡ o → rests still o ≡ rests (put still f false) o
  rests_else p apart memory None chosen = refl
  rests_else p apart memory (Some g) chosen =
      sym (put-else still f false g
      (λ same. apart (sym (choice_leaves round p memory g chosen).from ∙ ap (leaves model) same ∙ is_from)))

  at_else : (p : Spot) (w : Weight) → (p ≡ from → ⊥)
      → weigh w (pool_at model (left round f place field).pools p) ≡ weigh (only (resting round (put still f false) p) w) (come p)
  at_else p w apart =
      ap (weigh w) (else p apart)
      ∙ h.pools p w
      ∙ weigh-same (only (resting round still p) w) (only (resting round (put still f false) p) w) (come p)
      (λ memory. ap (λ b. cond b (w memory) 0) (rests_else p apart memory (choice_at round p memory) refl))

  same_or_not : (p : Spot) (P : Type 0) → (p ≡ from → P) → ((p ≡ from → ⊥) → P) → P
  same_or_not p P one other =
      (elim (same_spot p from) as (λ b. same_spot p from ≡ b → P) [
        | true ↦ λ is. one (same_spot-true p from is)
        | false ↦ λ is. other (λ same. false≢true (sym is ∙ true-same_spot p from same))
      ])
      refl

  pub holds-opened : Holds round start t (left round f place field) (put still f false) ran handed
  holds-opened = record {
    pools = λ p w. same_or_not p (weigh w (pool_at model (left round f place field).pools p) ≡ weigh (only (resting round (put still f false) p) w) (come p))
        (λ same. subst (λ (q : Spot). weigh w (pool_at model (left round f place field).pools q) ≡ weigh (only (resting round (put still f false) q) w) (come q)) (sym same) (at_from w))
        (λ apart. at_else p w apart);
    boards = h.boards;
    born = h.born;
    pools_up = λ p. same_or_not p (IsAscending row_order (pool_at model (left round f place field).pools p))
        (λ same. subst (λ (q : Spot). IsAscending row_order (pool_at model (left round f place field).pools q)) (sym same)
        (subst (IsAscending row_order) (sym here)
        (IsAscending-filter (λ memory. not (is_chosen f (choice_at round from memory))) (pool_at model field.pools from) (h.pools_up from))))
        (λ apart. subst (IsAscending row_order) (sym (else p apart)) (h.pools_up p));
    boards_up = h.boards_up;
    born_up = h.born_up;
    shape = record {
      pools = has_changed model field.pools place.agent (state_place place.type place.function.current) (staying round f place) h.shape.pools;
      born = h.shape.born;
      boards = h.shape.boards;
    };
  }

-- ---- f adds: survivors, messages, births

pub record Adds (round : Round) (t : Ideal) (f : ℕ) (field other : Field) (still : ℕ → Bool) (ran now : ℕ → Rows) (handed given : ℕ → ℕ → Rows) (L : Rows) (P B : ℕ → Rows) : Type 0 where
  pub pools : (p : Spot) (w : Weight)
      → weigh w (pool_at round.source.model other.pools p)
      ≡ weigh w (pool_at round.source.model field.pools p) + weigh w (cond (same_spot (enters round.source.model f) p) L [])
  pub boards : (m : ℕ) (w : Weight) → m < length round.source.model.messages
      → weigh w (slice_index_or other.boards m [])
      ≡ weigh w (slice_index_or field.boards m []) + weigh w (cond (is_in m (outputs_of round.source.model f)) (P m) [])
  pub births : (k : ℕ) (w : Weight) → k < length round.source.model.agents
      → weigh w (slice_index_or other.born k []) ≡ weigh w (slice_index_or field.born k []) + weigh w (B k)
  pub pools_up : (p : Spot) → IsAscending row_order (pool_at round.source.model other.pools p)
  pub boards_up : (m : ℕ) → IsAscending row_order (slice_index_or other.boards m [])
  pub born_up : (k : ℕ) → IsAscending row_order (slice_index_or other.born k [])
  pub shape : HasShape round.source.model other
  pub ran_else : (g : ℕ) → (g ≡ f → ⊥) → now g ≡ ran g
  pub handed_else : (m g : ℕ) → (g ≡ f → ⊥) → given m g ≡ handed m g
  pub lived_more : (w : Weight) → weigh w (lived t f (now f)) ≡ weigh w (lived t f (ran f)) + weigh w L
  pub sent_more : (m : ℕ) (w : Weight) → is_in m (outputs_of round.source.model f) ≡ true → weigh w (sent t f m (given m f)) ≡ weigh w (sent t f m (handed m f)) + weigh w (P m)
  pub born_more : (k : ℕ) (w : Weight) → weigh w (born t f k (now f)) ≡ weigh w (born t f k (ran f)) + weigh w (B k)
  -- nothing that arrives has a choice that is already opened
  pub arrive : (w : Weight) → weigh (only (resting round still (enters round.source.model f)) w) L ≡ weigh w L

cond-more : (b : Bool) (w : Weight) (xs ys zs : Rows) → (b ≡ true → weigh w xs ≡ weigh w ys + weigh w zs)
    → weigh w (cond b xs []) ≡ weigh w (cond b ys []) + weigh w (cond b zs [])
cond-more true w xs ys zs more = more refl
cond-more false w xs ys zs more = refl

module _ (round : Round) (start : Spot → Rows) (t : Ideal) (f : ℕ) (field other : Field) (still : ℕ → Bool) (ran now : ℕ → Rows) (handed given : ℕ → ℕ → Rows) (L : Rows) (P B : ℕ → Rows)
    (h : Holds round start t field still ran handed) (below : f < function_count round.source.model)
    (d : Adds round t f field other still ran now handed given L P B) where
  arrives : (p : Spot) (w : Weight) (b : Bool) → same_spot (enters round.source.model f) p ≡ b
      → weigh (only (resting round still p) w) (cond b L []) ≡ weigh w (cond b L [])
  arrives p w true same =
      subst (λ (q : Spot). weigh (only (resting round still q) w) L ≡ weigh w L) (same_spot-true (enters round.source.model f) p same) (d.arrive w)
  arrives p w false same = refl

  pub holds-more : Holds round start t other still now given
  holds-more =
      let model = round.source.model in
      let n = function_count model in
      record {
        pools = λ p w.
            let v : Weight = only (resting round still p) w in
            let flow = weigh-all_from-more v n f (weigh v (cond (same_spot (enters model f) p) L [])) (into model t ran p) (into model t now p) below
            (λ g less apart. ap (λ l. cond (same_spot (enters model g) p) (lived t g l) []) (d.ran_else g apart))
            (cond-more (same_spot (enters model f) p) v (lived t f (now f)) (lived t f (ran f)) L (λ _. d.lived_more v)) in
            omega (
              arith,
              d.pools p w,
              h.pools p w,
              flow,
              arrives p w (same_spot (enters model f) p) refl,
              weigh-append v (start p) (all_from n (into model t ran p)),
              weigh-append v (start p) (all_from n (into model t now p)),
            );
        boards = λ m w within.
            let flow = weigh-all_from-more w n f (weigh w (cond (is_in m (outputs_of model f)) (P m) [])) (onto model t (handed m) m) (onto model t (given m) m) below
            (λ g less apart. ap (λ l. cond (is_in m (outputs_of model g)) (sent t g m l) []) (d.handed_else m g apart))
            (cond-more (is_in m (outputs_of model f)) w (sent t f m (given m f)) (sent t f m (handed m f)) (P m) (d.sent_more m w)) in
            omega (arith, d.boards m w within, h.boards m w within, flow);
        born = λ k w within.
            let flow = weigh-all_from-more w n f (weigh w (B k)) (bore t ran k) (bore t now k) below
            (λ g less apart. ap (born t g k) (d.ran_else g apart)) (d.born_more k w) in
            omega (arith, d.births k w within, h.born k w within, flow);
        pools_up = d.pools_up;
        boards_up = d.boards_up;
        born_up = d.born_up;
        shape = d.shape;
      }

-- ---- rows arrive at the spot that f enters

pub record Arrives (round : Round) (f : ℕ) (pools others : List (List Rows)) (rows : Rows) : Type 0 where
  pub weighs : (p : Spot) (w : Weight)
      → weigh w (pool_at round.source.model others p)
      ≡ weigh w (pool_at round.source.model pools p) + weigh w (cond (same_spot (enters round.source.model f) p) rows [])
  pub up : (p : Spot) → IsAscending row_order (pool_at round.source.model others p)
  pub shape : AllZip (λ (type : AgentType) own. length own ≡ length (states type.functions)) round.source.model.agents others

pub rows_arrive : (round : Round) (f : ℕ) (place : Place) (field : Field) (rows : Rows)
    → slice_get (functions round.source.model) f ≡ Some place
    → HasPools round.source.model field
    → ((p : Spot) → IsAscending row_order (pool_at round.source.model field.pools p))
    → Arrives round f field.pools (changed_pool place.agent (state_place place.type place.function.next) (λ pool. merge pool (ascending rows)) field.pools) rows
rows_arrive round f place field rows at has up =
    let model = round.source.model in
    let typed = at_type model f place at in
    let to : Spot = enters_at (Some place) in
    let is_to : enters model f ≡ to = ap enters_at at in
    let change = λ (pool : Rows). merge pool (ascending rows) in
    let new = changed_pool place.agent (state_place place.type place.function.next) change field.pools in
    let here = changed_pool-here model field place.agent place.type place.function.next change has typed.type typed.next in
    let else = changed_pool-else model field place.agent place.type place.function.next change has typed.type typed.next in
    let at_to : (w : Weight) → weigh w (pool_at model new to) ≡ weigh w (pool_at model field.pools to) + weigh w rows =
    λ w. ap (weigh w) here ∙ merge_adds_weights w (pool_at model field.pools to) (ascending rows)
    ∙ ap (λ n. weigh w (pool_at model field.pools to) + n) (weigh-ascending w rows) in
    record {
      weighs = λ p w.
          (elim (same_spot (enters model f) p) as (λ b. same_spot (enters model f) p ≡ b
          → weigh w (pool_at model new p) ≡ weigh w (pool_at model field.pools p) + weigh w (cond b rows [])) [
            | true ↦ λ same.
                let equal : to ≡ p = sym is_to ∙ same_spot-true (enters model f) p same in
                subst (λ (q : Spot). weigh w (pool_at model new q) ≡ weigh w (pool_at model field.pools q) + weigh w rows) equal (at_to w)
            | false ↦ λ apart.
                let differs : p ≡ to → ⊥ = λ same. false≢true (sym apart ∙ true-same_spot (enters model f) p (is_to ∙ sym same)) in
                ap (weigh w) (else p differs) ∙ omega arith
          ])
          refl;
      up = λ p.
          (elim (same_spot (enters model f) p) as (λ b. same_spot (enters model f) p ≡ b → IsAscending row_order (pool_at model new p)) [
            | true ↦ λ same.
                let equal : to ≡ p = sym is_to ∙ same_spot-true (enters model f) p same in
                subst (λ (q : Spot). IsAscending row_order (pool_at model new q)) equal
                (subst (IsAscending row_order) (sym here) (IsAscending-merge (pool_at model field.pools to) (ascending rows)))
            | false ↦ λ apart.
                let differs : p ≡ to → ⊥ = λ same. false≢true (sym apart ∙ true-same_spot (enters model f) p (is_to ∙ sym same)) in
                subst (IsAscending row_order) (sym (else p differs)) (up p)
          ])
          refl;
      shape = has_changed model field.pools place.agent (state_place place.type place.function.next) change has;
    }
