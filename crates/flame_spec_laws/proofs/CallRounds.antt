-- Calls of helpers that come round, and how deep they go.
use Rattle.std.proofs.Common.{◌≡◌, ℕ, zero, suc, ◌+◌, ◌<◌, ◌≤◌, true, List, [], ◌∷◌, ◌++◌, length, reverse, Option}
use Rattle.std.proofs.Common.{Some, None, refl, ap, sym, ◌∙◌, subst, arith}
use Rattle.std.specs.Prelude.{slice_get, nat_lt, not}
use Rattle.std.proofs.lemmas.Bool.{ltb-false}
use Rattle.std.proofs.lemmas.List.{reverse-append}
use Rattle.flame_spec.specs.declared.models.Model.{Model}
use Rattle.flame_spec.specs.declared.faults.CheckKind.{CheckKind}
use Rattle.flame_spec.specs.declared.faults.CheckKind.TheVariants.{Recursive, DeepCalls}
use Rattle.flame_spec.specs.declared.trees.Unit as file
use Rattle.flame_spec.specs.Below.{is_in}
use Rattle.flame_spec.specs.Definitions.{Definition, helpers}
use Rattle.flame_spec.specs.ModelOrder.{order, first_left, step_back, walk_back, begun_with_least, from_there}
use Rattle.flame_spec.specs.HelperFaults.{is_called_by, call_cycle, call_cycle_from, call_height, name_in, cycle_text}
use Rattle.flame_spec.specs.HelperFaults.{fault_at}
use Rattle.flame_spec.specs.HelperFaults.{recursive_at, first_deep, deep_at, deepest_calls}
use Rattle.flame_spec.specs.CheckFaults.{check_faults}
use Rattle.flame_spec.proofs.FirstBelow.{first_is_first, none_fails}
use Rattle.flame_spec.proofs.Orders.{Relation, remaining_all}
use Rattle.flame_spec.proofs.Heights.{layer_rises}
use Rattle.flame_spec_laws.specs.OrderLaws.{IsChain, IsRound, IsCycle, AreFunctions}
use Rattle.flame_spec_laws.specs.HelperLaws.{calls_in}
use Rattle.flame_spec_laws.proofs.Rounds.{chain_join, begun_round, AreOnce, fewer_once, times-reverse}
use Rattle.flame_spec_laws.proofs.Rounds.{times-begun, at_least_one, begun_least, walk_round, left_back, nothing_once}
use Rattle.flame_spec_laws.proofs.RisingRounds.{round_leaves_over}
use Rattle.flame_spec_laws.proofs.CheckedBodies.{none_of_all}

-- ---- rounds turned round

-- the other way
abbrev turned_round : Relation → Relation
turned_round before f g = before g f

chain_turned : (before : Relation) (xs : List ℕ) → IsChain before xs → IsChain (turned_round before) (reverse xs)
chain_turned before [] c = tt
chain_turned before (x ∷ []) c = tt
chain_turned before (x ∷ y ∷ xs) c =
    let P : List ℕ → Type 0 = IsChain (turned_round before) in
    let rest : P (reverse xs ++ y ∷ []) = subst P (reverse-append (y ∷ []) xs) (chain_turned before (y ∷ xs) c.1) in
    let joined : P (reverse xs ++ y ∷ x ∷ []) =
    chain_join (turned_round before) (reverse xs) y (x ∷ []) rest (c.0, tt) in
    subst P (sym (reverse-append (x ∷ y ∷ []) xs)) joined

round_turned : (before : Relation) (xs : List ℕ) → IsRound before xs → IsRound (turned_round before) (reverse xs)
round_turned before xs r =
    let P : List ℕ → Type 0 = IsRound (turned_round before) in
    subst (λ l. P (reverse l)) (sym r.ends) (by_front r.front refl)
  where
    back : List ℕ → List ℕ
    back front = reverse (front ++ r.last ∷ [])

    by_front : (front : List ℕ) → front ≡ r.front → IsRound (turned_round before) (reverse (front ++ r.last ∷ []))
    by_front [] e =
        let Q : List ℕ → Type 0 = IsChain before in
        let closes : IsChain before (r.last ∷ r.last ∷ [])
        = subst Q (ap (λ l. r.last ∷ l) (r.ends ∙ ap (λ f. f ++ r.last ∷ []) (sym e))) r.closes in
        record { front = []; last = r.last; ends = refl; closes = (closes.0, tt) }
    by_front (x ∷ front) e =
        let Q : List ℕ → Type 0 = IsChain before in
        let T : List ℕ → Type 0 = IsChain (turned_round before) in
        let closes : IsChain before (r.last ∷ x ∷ (front ++ r.last ∷ []))
        = subst Q (ap (λ l. r.last ∷ l) (r.ends ∙ ap (λ f. f ++ r.last ∷ []) (sym e))) r.closes in
        let whole : reverse (x ∷ (front ++ r.last ∷ [])) ≡ reverse (front ++ r.last ∷ []) ++ x ∷ []
        = reverse-append (x ∷ []) (front ++ r.last ∷ []) in
        let first : reverse (front ++ r.last ∷ []) ≡ r.last ∷ reverse front = reverse-append front (r.last ∷ []) in
        let chain : T (reverse (x ∷ (front ++ r.last ∷ []))) =
        chain_turned before (x ∷ (front ++ r.last ∷ [])) closes.1 in
        let begun : reverse (x ∷ (front ++ r.last ∷ [])) ≡ r.last ∷ (reverse front ++ x ∷ [])
        = whole ∙ ap (λ l. l ++ x ∷ []) first in
        let closed : T (x ∷ r.last ∷ (reverse front ++ x ∷ [])) = (closes.0, subst T begun chain) in
        record {
          front = reverse (front ++ r.last ∷ []);
          last = x;
          ends = whole;
          closes = subst T (ap (λ l. x ∷ l) (sym begun)) closed;
        }

-- ---- the cycle of calls

-- the path that comes round, and what stands in it
record Comes (n : ℕ) (before : Relation) (g : ℕ) : Type 0 where
  round : IsRound before (walk_back (n + 1) (step_back n before) [] g)
  once : AreOnce n (walk_back (n + 1) (step_back n before) [] g)

comes : (n : ℕ) (before : Relation) (g : ℕ) → first_left n before ≡ Some g → Comes n before g
comes n before g e =
    let found = first_is_first (λ g. not (is_in g (order n before))) n g e in
    let walked = walk_round n before (λ g. not (is_in g (order n before))) (step_back n before) (left_back n before)
    (n + 1) [] g (omega (arith, remaining_all n)) found.below found.passes tt (nothing_once n) in
    record { round = walked.0; once = walked.1 }

pub calls_cycle :
    (n : ℕ) (before : Relation) (g : ℕ)
    → first_left n before ≡ Some g
    → IsCycle n (turned_round before) (call_cycle_from n before g)
calls_cycle n before g e =
    let walked = comes n before g e in
    let path = walk_back (n + 1) (step_back n before) [] g in
    let once : AreOnce n (begun_with_least (reverse path))
    = fewer_once n path (begun_with_least (reverse path))
    (λ x. omega (arith, times-begun x (reverse path), times-reverse x path)) walked.once in
    record {
      round = begun_round (turned_round before) (reverse path) (round_turned before path walked.round);
      once = once.once;
      first = begun_least (reverse path);
      below = λ place l. once.below _ (at_least_one (begun_with_least (reverse path)) place l);
    }

pub calls_come_round :
    (n : ℕ) (before : Relation) (g : ℕ)
    → first_left n before ≡ Some g
    → IsCycle n (turned_round before) (call_cycle n before)
calls_come_round n before g e =
    let P : List ℕ → Type 0 = IsCycle n (turned_round before) in
    subst P (sym (ap (λ o. from_there o (call_cycle_from n before)) e)) (calls_cycle n before g e)

-- ---- files without check faults

some_fault :
    (kind : CheckKind) (word : List ℕ) (hs : List Definition) (h : ℕ)
    → h < length hs
    → fault_at kind word (slice_get hs h) ≡ []
    → ⊥
some_fault kind word [] h below none = absurd (omega arith)
some_fault kind word (d ∷ hs) zero below none = cc
some_fault kind word (d ∷ hs) (suc h) below none = some_fault kind word hs h (omega arith) none

no_end : (front : List ℕ) (last : ℕ) → [] ≡ front ++ last ∷ [] → ⊥
no_end [] last e = cc
no_end (x ∷ front) last e = cc

cycle_fault :
    (hs : List Definition) (before : Relation) (cycle : List ℕ)
    → IsCycle (length hs) before cycle
    → recursive_at hs cycle ≡ []
    → ⊥
cycle_fault hs before [] is none = no_end is.round.front is.round.last is.round.ends
cycle_fault hs before (h ∷ more) is none =
    some_fault Recursive (cycle_text hs (h ∷ more)) hs h (is.below 0 (omega arith)) none

module _ (model : Model) (units : List file.Unit) (none : check_faults model units ≡ []) where
  hs : List Definition
  hs = helpers model units

  pub none_left :
      first_left (length (helpers model units)) (is_called_by model (helpers model units)) ≡ None
  none_left = by_first (first_left (length (helpers model units)) (is_called_by model (helpers model units))) refl
    where
      by_first :
          (o : Option ℕ)
          → first_left (length (helpers model units)) (is_called_by model (helpers model units)) ≡ o
          → o ≡ None
      by_first None e = refl
      by_first (Some g) e =
          absurd (cycle_fault (helpers model units) (turned_round (is_called_by model (helpers model units)))
          (call_cycle (length (helpers model units)) (is_called_by model (helpers model units)))
          (calls_come_round (length (helpers model units)) (is_called_by model (helpers model units)) g e)
          (none_of_all model units none).recursive)

  none_deep : first_deep model (helpers model units) ≡ None
  none_deep = by_first (first_deep model (helpers model units)) refl
    where
      by_first : (o : Option ℕ) → first_deep model (helpers model units) ≡ o → o ≡ None
      by_first None e = refl
      by_first (Some h) e =
          let found = first_is_first (λ k. nat_lt deepest_calls (call_height model (helpers model units) k))
          (length (helpers model units)) h e in
          let clear : deep_at (helpers model units) (Some h) ≡ []
          = sym (ap (deep_at (helpers model units)) e) ∙ (none_of_all model units none).deep in
          absurd (some_fault DeepCalls (name_in (slice_get (helpers model units) h))
          (helpers model units) h found.below clear)

  pub low : (g : ℕ) → g < length (helpers model units) → call_height model (helpers model units) g ≤ 64
  low g below =
      ltb-false deepest_calls (call_height model (helpers model units) g)
      (none_fails (λ k. nat_lt deepest_calls (call_height model (helpers model units) k)) (length (helpers model units))
      none_deep g below)

  pub rises :
      (g h : ℕ)
      → g < length (helpers model units)
      → h < length (helpers model units)
      → calls_in model units g h ≡ true
      → call_height model (helpers model units) h < call_height model (helpers model units) g
  rises g h g_below h_below calls =
      let higher = layer_rises (length (helpers model units)) (is_called_by model (helpers model units)) none_left h g
      h_below g_below calls in
      omega arith

  chain_low :
      (g : ℕ) (chain : List ℕ)
      → AreFunctions (length (helpers model units)) (g ∷ chain)
      → IsChain (calls_in model units) (g ∷ chain)
      → length (g ∷ chain) ≤ call_height model (helpers model units) g
  chain_low g [] are c = omega arith
  chain_low g (h ∷ chain) are c =
      let more = chain_low h chain are.1 c.1 in
      let up = rises g h are.0 are.1.0 c.0 in
      omega arith

  pub chain_short :
      (chain : List ℕ)
      → AreFunctions (length (helpers model units)) chain
      → IsChain (calls_in model units) chain
      → length chain ≤ 64
  chain_short [] are c = omega arith
  chain_short (g ∷ chain) are c =
      let short = chain_low g chain are c in
      let most = low g are.0 in
      omega arith

  pub no_round :
      (round : List ℕ)
      → AreFunctions (length (helpers model units)) round
      → IsRound (is_called_by model (helpers model units)) round
      → ⊥
  no_round round are is =
      round_leaves_over (length (helpers model units)) (is_called_by model (helpers model units)) round are is none_left
