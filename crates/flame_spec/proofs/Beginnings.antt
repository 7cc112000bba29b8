-- In a model without a cycle each type has a start state.
use Rattle.std.proofs.Common.{◌≡◌, ℕ, zero, suc, ◌+◌, ◌-◌, ◌<◌, ◌≤◌, List, [], ◌∷◌, ◌++◌, length, take, get_or, map, refl, sym, ap, ◌∙◌, subst, arith, true, false, Bool, Some, None, Option, cond, ◌⊎◌, ⊎_elim}
use Rattle.std.specs.Prelude.{◌==◌, ◌&&◌, ◌||◌, slice_get, option_map}
use Rattle.std.specs.List.{list_any, All}
use Rattle.std.specs.Str.{bytes_eq}
use Rattle.std.proofs.lemmas.Bool.{eq-eqb, eqb-true, false≢true, cases_lt, cases_eq, cases_Bool, or_cases, or_left, or_right}
use Rattle.std.proofs.lemmas.List.{length-map, get_or-take, length-take-le}
use Rattle.std.proofs.lemmas.List.Folds.{list_any-append}
use Rattle.std.proofs.lemmas.Slice.Eq.{bytes_eq-Decides}
use Rattle.std.proofs.lemmas.Option.{slice_get_within, slice_get-map, slice_get-get_or}
use Rattle.flame_rows.proofs.Bytes.{bytes_eq-self}
use Rattle.flame_spec.specs.declared.models.Model.{Model}
use Rattle.flame_spec.specs.declared.models.AgentType.{AgentType}
use Rattle.flame_spec.specs.declared.models.Function.{Function}
use Rattle.flame_spec.specs.Functions.{Place, at_type, functions_from, functions}
use Rattle.flame_spec.specs.Before.{leads_to, feeds, both_stand, before, function_count}
use Rattle.flame_spec.specs.Below.{is_in}
use Rattle.flame_spec.specs.ModelOrder.{order, left_over}
use Rattle.flame_spec.specs.KnownNames.{is_among}
use Rattle.flame_spec.specs.States.{distinct_after, ends, states, is_entered, start_states}
use Rattle.flame_spec.proofs.Orders.{order_is_order, ready_taken, none_left_over}
use Rattle.flame_spec.proofs.Starts.{start_from}

-- ---- elements by their places

get_left : {X : Type 0} (xs ys : List X) (i : ℕ) → i < length xs → slice_get (xs ++ ys) i ≡ slice_get xs i
get_left [] ys i h = absurd (omega arith)
get_left (x ∷ xs) ys zero h = refl
get_left (x ∷ xs) ys (suc i) h = get_left xs ys i (omega arith)

get_right : {X : Type 0} (xs ys : List X) (i j : ℕ) → j ≡ length xs + i → slice_get (xs ++ ys) j ≡ slice_get ys i
get_right [] ys i j e = let same : j ≡ i = omega (arith, e) in ap (slice_get ys) same
get_right (x ∷ xs) ys i zero e = absurd (omega (arith, e))
get_right (x ∷ xs) ys i (suc j) e = get_right xs ys i j (omega (arith, e))

in_at : (f : ℕ) (xs : List ℕ) → is_in f xs ≡ true → (i : ℕ) × ((i < length xs) × (get_or xs i 0 ≡ f))
in_at f [] h = absurd (false≢true h)
in_at f (x ∷ xs) h = go (x == f) refl h (in_at f xs)
  where
    go : (b : Bool) → (x == f) ≡ b → (b || is_in f xs) ≡ true → (is_in f xs ≡ true → (i : ℕ) × ((i < length xs) × (get_or xs i 0 ≡ f))) → (i : ℕ) × ((i < suc (length xs)) × (get_or (x ∷ xs) i 0 ≡ f))
    go true e h rest = (0, (omega arith, eqb-true x f e))
    go false e h rest = let r = rest h in (suc r.0, (omega (arith, r.1.0), r.1.1))

any_at : {X : Type 0} (test : X → Bool) (xs : List X) → list_any test xs ≡ true → (k : ℕ) × ((x : X) × ((slice_get xs k ≡ Some x) × (test x ≡ true)))
any_at test [] h = absurd (false≢true h)
any_at {X} test (x ∷ xs) h = go (test x) refl h (any_at test xs)
  where
    go : (b : Bool) → test x ≡ b → (b || list_any test xs) ≡ true → (list_any test xs ≡ true → (k : ℕ) × ((y : X) × ((slice_get xs k ≡ Some y) × (test y ≡ true)))) → (k : ℕ) × ((y : X) × ((slice_get (x ∷ xs) k ≡ Some y) × (test y ≡ true)))
    go true e h rest = (0, (x, (refl, e)))
    go false e h rest = let r = rest h in (suc r.0, (r.1.0, (r.1.1.0, r.1.1.1)))

-- ---- functions of types

pub function_at : (first : ℕ) (types : List AgentType) (a : ℕ) (type : AgentType) (k : ℕ) (function : Function) → slice_get types a ≡ Some type → slice_get type.functions k ≡ Some function → (f : ℕ) × (slice_get (functions_from first types) f ≡ Some (at_type (first + a) type function))
function_at first [] a type k function h g = cc
function_at first (t ∷ ts) zero type k function h g =
    let same : t ≡ type = cc in
    let there : slice_get t.functions k ≡ Some function = ap (λ (u : AgentType). slice_get u.functions k) same ∙ g in
    let number : first ≡ first + 0 = omega arith in (
      k,
      get_left (map (at_type first t) t.functions) (functions_from (first + 1) ts) k (omega (arith, slice_get_within t.functions k function there, length-map t.functions (at_type first t)))
          ∙ slice_get-map (at_type first t) t.functions k ∙ ap (option_map (at_type first t)) there
          ∙ ap (λ u. Some (at_type first u function)) same ∙ ap (λ n. Some (at_type n type function)) number,
    )
function_at first (t ∷ ts) (suc a) type k function h g =
    let rest = function_at (first + 1) ts a type k function h g in
    let number : first + 1 + a ≡ first + suc a = omega arith in
    let place = length (map (at_type first t) t.functions) in
    (place + rest.0, get_right (map (at_type first t) t.functions) (functions_from (first + 1) ts) rest.0 (place + rest.0) refl ∙ rest.1 ∙ ap (λ n. Some (at_type n type function)) number)

-- of which type a function is
record IsOfType (first : ℕ) (types : List AgentType) (p : Place) : Type 0 where
  a : ℕ
  type : AgentType
  k : ℕ
  here : slice_get types a ≡ Some type
  there : slice_get type.functions k ≡ Some p.function
  number : p.agent ≡ first + a

of_type : (first : ℕ) (types : List AgentType) (f : ℕ) (p : Place) → slice_get (functions_from first types) f ≡ Some p → IsOfType first types p
of_type first [] f p h = cc
of_type first (t ∷ ts) f p h = ⊎_elim
    (λ l. go (slice_get t.functions f) refl (sym (slice_get-map (at_type first t) t.functions f) ∙ sym (get_left (map (at_type first t) t.functions) (functions_from (first + 1) ts) f l) ∙ h))
    (λ l. later (of_type (first + 1) ts (f - length (map (at_type first t) t.functions)) p (sym (get_right (map (at_type first t) t.functions) (functions_from (first + 1) ts) (f - length (map (at_type first t) t.functions)) f (omega (arith, l))) ∙ h)))
    (cases_lt f (length (map (at_type first t) t.functions)))
  where
    go : (o : Option Function) → slice_get t.functions f ≡ o → option_map (at_type first t) o ≡ Some p → IsOfType first (t ∷ ts) p
    go None e q = cc
    go (Some function) e q =
        let same : at_type first t function ≡ p = cc in
        record {
          a = 0;
          type = t;
          k = f;
          here = refl;
          there = e ∙ ap (λ (r : Place). Some r.function) same;
          number = let number : first ≡ p.agent = ap (λ (r : Place). r.agent) same in omega (arith, number);
        }

    later : IsOfType (first + 1) ts p → IsOfType first (t ∷ ts) p
    later r = record { a = suc r.a; type = r.type; k = r.k; here = r.here; there = r.there; number = omega (arith, r.number) }

-- ---- states of a type

current_among : (fs : List Function) (k : ℕ) (f : Function) → slice_get fs k ≡ Some f → is_among f.current (ends fs) ≡ true
current_among [] k f h = cc
current_among (x ∷ fs) zero f h =
    let same : x ≡ f = cc in
    ap (λ (y : Function). bytes_eq f.current y.current || (bytes_eq f.current y.next || is_among f.current (ends fs))) same
    ∙ ap (λ b. b || (bytes_eq f.current f.next || is_among f.current (ends fs))) (bytes_eq-self f.current)
current_among (x ∷ fs) (suc k) f h = both (bytes_eq f.current x.current) (bytes_eq f.current x.next) (is_among f.current (ends fs)) (current_among fs k f h)
  where
    both : (a b c : Bool) → c ≡ true → (a || (b || c)) ≡ true
    both true b c e = refl
    both false true c e = refl
    both false false c e = e

kept : (earlier texts : List (List ℕ)) (text : List ℕ) → is_among text texts ≡ true → (is_among text earlier || is_among text (distinct_after earlier texts)) ≡ true
kept earlier [] text h = absurd (false≢true h)
kept earlier (t ∷ texts) text h = go (is_among t earlier) refl (or_cases (bytes_eq text t) (is_among text texts) h) (kept earlier texts text) (kept (earlier ++ t ∷ []) texts text)
  where
    same : bytes_eq text t ≡ true → text ≡ t
    same e = (bytes_eq-Decides text t).0 e

    regroup : (a b c : Bool) → ((a || (b || false)) || c) ≡ (a || (b || c))
    regroup true b c = refl
    regroup false true c = refl
    regroup false false c = refl

    go : (b : Bool) → is_among t earlier ≡ b → (bytes_eq text t ≡ true) ⊎ (is_among text texts ≡ true)
        → (is_among text texts ≡ true → (is_among text earlier || is_among text (distinct_after earlier texts)) ≡ true)
        → (is_among text texts ≡ true → (is_among text (earlier ++ t ∷ []) || is_among text (distinct_after (earlier ++ t ∷ []) texts)) ≡ true)
        → (is_among text earlier || is_among text (cond b (distinct_after earlier texts) (t ∷ distinct_after (earlier ++ t ∷ []) texts))) ≡ true
    go true p c rest more = ⊎_elim (λ e. or_left (is_among text earlier) (is_among text (distinct_after earlier texts)) (ap (λ q. is_among q earlier) (same e) ∙ p)) rest c
    go false p c rest more = ⊎_elim
        (λ e. or_right (is_among text earlier) (bytes_eq text t || is_among text (distinct_after (earlier ++ t ∷ []) texts)) (or_left (bytes_eq text t) (is_among text (distinct_after (earlier ++ t ∷ []) texts)) e))
        (λ e. sym (regroup (is_among text earlier) (bytes_eq text t) (is_among text (distinct_after (earlier ++ t ∷ []) texts))) ∙ ap (λ b. b || is_among text (distinct_after (earlier ++ t ∷ []) texts)) (sym (list_any-append (bytes_eq text) earlier (t ∷ []))) ∙ more e)
        c

state_of : (fs : List Function) (k : ℕ) (f : Function) → slice_get fs k ≡ Some f → is_among f.current (states fs) ≡ true
state_of [] k f h = cc
state_of (x ∷ fs) k f h = kept [] (ends (x ∷ fs)) f.current (current_among (x ∷ fs) k f h)

none_among : (xs : List (List ℕ)) (text : List ℕ) → (0 < length xs → ⊥) → is_among text xs ≡ false
none_among [] text h = refl
none_among (x ∷ xs) text h = absurd (h (omega arith))

-- without a start state each state that a function leaves is entered
all_entered : (fs : List Function) → (0 < length (start_states fs) → ⊥) → (k : ℕ) (f : Function) → slice_get fs k ≡ Some f → is_entered fs f.current ≡ true
all_entered fs none k f h = ⊎_elim
    (λ e. e)
    (λ e. absurd (false≢true (sym (none_among (start_states fs) f.current none) ∙ start_from fs f.current (state_of fs k f h, e))))
    (cases_Bool (is_entered fs f.current))

-- ---- the first function of a type in model order leaves a start state

module _ (model : Model) (acyclic : left_over model ≡ None) (a : ℕ) (type : AgentType) (typed : slice_get model.agents a ≡ Some type) (none : 0 < length (start_states type.functions) → ⊥) where
  -- no function of the type is among the first m of the order
  none_first : (m : ℕ) → m ≤ length (order (function_count model) (before model)) → (i : ℕ) → i < m → (p : Place) → slice_get (functions model) (get_or (order (function_count model) (before model)) i 0) ≡ Some p → p.agent ≡ a → ⊥
  none_first zero l i h p e q = omega arith
  none_first (suc m) l i h p e q = ⊎_elim (here (none_first m (omega arith))) (λ s. none_first m (omega arith) i (below s) p e q) (cases_eq m i)
    where
      below : (m ≡ i → ⊥) → i < m
      below s = omega arith

      here : ((j : ℕ) → j < m → (r : Place) → slice_get (functions model) (get_or (order (function_count model) (before model)) j 0) ≡ Some r → r.agent ≡ a → ⊥) → m ≡ i → ⊥
      here rest s =
          let fs = order (function_count model) (before model) in
          let g = get_or fs i 0 in
          let of = of_type 0 model.agents g p e in
          let number : of.a ≡ a = omega (arith, of.number, q) in
          let same : of.type ≡ type = let both : Some of.type ≡ Some type = sym of.here ∙ ap (slice_get model.agents) number ∙ typed in cc in
          let mine : slice_get type.functions of.k ≡ Some p.function = ap (λ (t : AgentType). slice_get t.functions of.k) (sym same) ∙ of.there in
          let entered = any_at (λ (f : Function). bytes_eq f.next p.function.current) type.functions (all_entered type.functions none of.k p.function mine) in
          let from = function_at 0 model.agents a type entered.0 entered.1.0 typed entered.1.1.0 in
          let state : p.function.current ≡ entered.1.0.next = sym ((bytes_eq-Decides entered.1.0.next p.function.current).0 entered.1.1.1) in
          let leads : leads_to (at_type (0 + a) type entered.1.0) p ≡ true =
          ap (λ b. b && bytes_eq p.function.current entered.1.0.next) (eq-eqb (0 + a) p.agent (omega (arith, q)))
          ∙ (bytes_eq-Decides p.function.current entered.1.0.next).1 state in
          let stands : before model from.0 g ≡ true = ap (λ o. both_stand o (slice_get (functions model) g)) from.1 ∙ ap (both_stand (Some (at_type (0 + a) type entered.1.0))) e ∙ ap (λ b. b || feeds entered.1.0 p.function) leads in
          let within = slice_get_within (functions model) from.0 (at_type (0 + a) type entered.1.0) from.1 in
          let o = order_is_order (function_count model) (before model) in
          let taken = ready_taken (function_count model) (before model) (take i fs) g (o.ready i (omega (arith, l, h))) from.0 within stands in
          let at = in_at from.0 (take i fs) taken in
          let earlier : at.0 < m = omega (arith, at.1.0, s, length-take-le i fs (omega (arith, l, h))) in
          let it : get_or fs at.0 0 ≡ from.0 = sym (get_or-take i fs at.0 0 (omega (arith, earlier, s))) ∙ at.1.1 in
          rest at.0 earlier (at_type (0 + a) type entered.1.0) (ap (slice_get (functions model)) it ∙ from.1) (omega arith)

  -- so the type has no functions
  no_functions : (k : ℕ) (f : Function) → slice_get type.functions k ≡ Some f → ⊥
  no_functions k f h =
      let fs = order (function_count model) (before model) in
      let there = function_at 0 model.agents a type k f typed h in
      let within = slice_get_within (functions model) there.0 (at_type (0 + a) type f) there.1 in
      let at = in_at there.0 fs (none_left_over (function_count model) (before model) acyclic there.0 within) in
      none_first (length fs) (omega arith) at.0 at.1.0 (at_type (0 + a) type f) (ap (slice_get (functions model)) at.1.1 ∙ there.1) (omega arith)

  no_type : ⊥
  no_type = go type.functions refl
    where
      go : (xs : List Function) → type.functions ≡ xs → ⊥
      go [] e = none (let P : List Function → Type 0 = λ xs. 0 < length (start_states xs) in let one : 0 < length (start_states []) = omega arith in subst P (sym e) one)
      go (x ∷ xs) e = no_functions 0 x (ap (λ ys. slice_get ys 0) e)

pub types_start : (model : Model) → left_over model ≡ None → All (λ type. 0 < length (start_states type.functions)) model.agents
types_start model acyclic = λ a d l. ⊎_elim
    (λ h. h)
    (λ h. absurd (no_type model acyclic a (get_or model.agents a d) (slice_get-get_or model.agents a d l) (λ k. omega (arith, h, k))))
    (cases_lt 0 (length (start_states (get_or model.agents a d).functions)))
