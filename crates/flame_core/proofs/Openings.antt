-- How a core begins.
use Rattle.std.proofs.Common.{◌≡◌, ℕ, zero, suc, ◌+◌, ◌<◌, ◌≤◌, Bool, true, false, List, [], ◌∷◌, ◌++◌, length, map, take, get_or, replicate, Option, Some, None, refl, sym, ap, ◌∙◌, subst, arith, ⊎_elim}
use Rattle.std.specs.Prelude.{◌==◌, ◌&&◌, ◌||◌, nat_lt, slice_get, slice_index_or}
use Rattle.std.specs.List.{All, cons_option, filter_map, list_any}
use Rattle.std.proofs.lemmas.Bool.{cases_eq, cases_lt, eq-eqb, ne_eqb, lt-ltb, le-ltb, ltb-true, and_parts, or_right}
use Rattle.std.proofs.lemmas.List.{take_more}
use Rattle.std.proofs.lemmas.List.Folds.{list_any-append}
use Rattle.std.proofs.lemmas.Option.{slice_get_within, slice_get_past}
use Rattle.flame_rows.proofs.Lists.{list_any_map, slice_get-some}
use Rattle.flame_spec.specs.declared.models.Model.{Model}
use Rattle.flame_spec.specs.Before.{before, both_stand, function_count}
use Rattle.flame_spec.specs.Below.{all_below, is_in}
use Rattle.flame_spec.specs.Functions.{Place, functions}
use Rattle.flame_spec.proofs.FirstBelow.{is_in-all_below}
use Rattle.flame_depend.specs.declared.pairs.Edge.{Edge}
use Rattle.flame_depend.specs.Edges.{edge, edges_below, edges_of, edges_to}
use Rattle.flame_meaning.specs.Outcomes.{outputs_at}
use Rattle.flame_events.specs.CoreStates.{Waiting}
use Rattle.flame_events.specs.LegalEvents.{inputs_at, inputs_of, outputs_of}
use Rattle.flame_events.proofs.Spots.{output_named}
use Rattle.flame_pieces.specs.FreeThings.{Tells}
use Rattle.flame_pieces.specs.Waiting as waits
use Rattle.flame_pieces.specs.declared.statuses.Status.TheVariants as is
use Rattle.flame_pieces.specs.KeptStatuses.{status_of, HasOutputs}
use Rattle.flame_pieces.proofs.Freeing.{waiters_are_told}
use Rattle.flame_progress.specs.ManyWait.{waited_for_by, waiting_for}
use Rattle.flame_progress.proofs.Allowing.{all_in, inputs_below}
use Rattle.flame_progress.proofs.Waiters.{waiters_told, waiting_is_told}

-- ---- statuses

pub all_wait : {X : Type 0} (n : ℕ) (xs : List X) → n ≡ length xs → map status_of (replicate n is.Waiting) ≡ map (λ x. Waiting) xs
all_wait zero [] long = refl
all_wait zero (x ∷ xs) long = absurd (omega (arith, long))
all_wait (suc n) [] long = absurd (omega (arith, long))
all_wait (suc n) (x ∷ xs) long = λ i. Waiting ∷ all_wait n xs (omega (arith, long)) i

pub none_has : (n f : ℕ) (outputs : List ℕ) → HasOutputs outputs (slice_index_or (replicate n is.Waiting) f is.Waiting)
none_has zero f outputs = tt
none_has (suc n) zero outputs = tt
none_has (suc n) (suc f) outputs = none_has n f outputs

-- ---- who waits for whom

-- one of these edges leads from f to g
abbrev pub is_edge : List Edge → ℕ → ℕ → Bool
is_edge edges f g = list_any (λ e. (f == e.before) && (g == e.after)) edges

any_also : (b : Bool) (g : ℕ) (targets : List ℕ) → list_any (λ t. b && (g == t)) targets ≡ (b && list_any (λ t. g == t) targets)
any_also true g targets = refl
any_also false g [] = refl
any_also false g (t ∷ targets) = any_also false g targets

any_turned : (g : ℕ) (targets : List ℕ) → list_any (λ t. g == t) targets ≡ is_in g targets
any_turned g [] = refl
any_turned g (t ∷ targets) = λ i. turned g t i || any_turned g targets i
  where
    turned : (a b : ℕ) → (a == b) ≡ (b == a)
    turned a b = ⊎_elim
        (λ (same : a ≡ b). eq-eqb a b same ∙ sym (eq-eqb b a (sym same)))
        (λ (apart : a ≡ b → ⊥). ne_eqb a b apart ∙ sym (ne_eqb b a (λ e. apart (sym e))))
        (cases_eq a b)

last_or_less : (k f : ℕ) (x : ℕ → Bool) → ((nat_lt f k && x f) || ((f == k) && x k)) ≡ (nat_lt f (suc k) && x f)
last_or_less k f x = ⊎_elim
    (λ (less : f < k).
    let below = lt-ltb f k less in
    let apart = ne_eqb f k (λ e. omega (arith, e, less)) in
    let within = lt-ltb f (suc k) (omega (arith, less)) in
    (λ i. (below i && x f) || (apart i && x k)) ∙ or_none (x f) ∙ sym (ap (λ b. b && x f) within))
    (λ (over : k ≤ f). ⊎_elim
    (λ (same : f ≡ k).
    let below = le-ltb f k over in
    let here = eq-eqb f k same in
    let within = lt-ltb f (suc k) (omega (arith, same)) in
    (λ i. (below i && x f) || (here i && x k)) ∙ ap x (sym same) ∙ sym (ap (λ b. b && x f) within))
    (λ (apart : f ≡ k → ⊥).
    let below = le-ltb f k over in
    let off = ne_eqb f k apart in
    let past = le-ltb f (suc k) (over_more apart over) in
    (λ i. (below i && x f) || (off i && x k)) ∙ sym (ap (λ b. b && x f) past))
    (cases_eq f k))
    (cases_lt f k)
  where
    or_none : (b : Bool) → (b || false) ≡ b
    or_none true = refl
    or_none false = refl

    over_more : (f ≡ k → ⊥) → k ≤ f → suc k ≤ f
    over_more apart over = omega (arith, apart, over)

edge_below : (n : ℕ) (stands : ℕ → ℕ → Bool) (k f g : ℕ) → is_edge (edges_below k n stands) f g ≡ (nat_lt f k && (nat_lt g n && stands f g))
edge_below n stands zero f g = sym (ap (λ b. b && (nat_lt g n && stands f g)) (le-ltb f 0 (omega arith)))
edge_below n stands (suc k) f g =
    let targets = all_below (stands k) n in
    let row : is_edge (edges_to k targets) f g ≡ ((f == k) && (nat_lt g n && stands k g)) =
    list_any_map (λ (e : Edge). (f == e.before) && (g == e.after)) (edge k) targets
    ∙ any_also (f == k) g targets
    ∙ ap (λ b. (f == k) && b) (any_turned g targets ∙ is_in-all_below (stands k) n g) in
    list_any-append (λ (e : Edge). (f == e.before) && (g == e.after)) (edges_below k n stands) (edges_to k targets)
    ∙ (λ i. edge_below n stands k f g i || row i)
    ∙ last_or_less k f (λ h. nat_lt g n && stands h g)

stands_no : (one : Option Place) → both_stand one None ≡ false
stands_no None = refl
stands_no (Some place) = refl

-- the edges of a model tell which function stands before which
pub edges_tell : (model : Model) (f g : ℕ) → f < function_count model → is_edge (edges_of model) f g ≡ before model f g
edges_tell model f g less =
    let n = function_count model in
    edge_below n (before model) n f g
    ∙ ap (λ b. b && (nat_lt g n && before model f g)) (lt-ltb f n less)
    ∙ ⊎_elim
    (λ (within : g < n). ap (λ b. b && before model f g) (lt-ltb g n within))
    (λ (over : n ≤ g).
    ap (λ b. b && before model f g) (le-ltb g n over)
    ∙ sym (ap (both_stand (slice_get (functions model) f)) (slice_get_past (functions model) g over) ∙ stands_no (slice_get (functions model) f)))
    (cases_lt g n)

-- ---- edges are between functions

pub record Between (n : ℕ) (e : Edge) : Type 0 where
  pub from : e.before < n
  pub to : e.after < n

pub each_edge : (edges : List Edge) (k : ℕ) (e : Edge) → k < length edges → e ≡ get_or edges k e → is_edge edges e.before e.after ≡ true
each_edge [] k e less at = absurd (omega (arith, less))
each_edge (first ∷ edges) zero e less at =
    ap (λ (x : Edge). ((e.before == x.before) && (e.after == x.after)) || is_edge edges e.before e.after) (sym at)
    ∙ (λ i. (eq-eqb e.before e.before refl i && eq-eqb e.after e.after refl i) || is_edge edges e.before e.after)
each_edge (first ∷ edges) (suc k) e less at =
    or_right ((e.before == first.before) && (e.after == first.after)) (is_edge edges e.before e.after) (each_edge edges k e (omega (arith, less)) at)

pub edges_between : (model : Model) (k : ℕ) (e : Edge) → k < length (edges_of model) → e ≡ get_or (edges_of model) k e → Between (function_count model) e
edges_between model k e less at =
    let n = function_count model in
    let is = sym (edge_below n (before model) n e.before e.after) ∙ each_edge (edges_of model) k e less at in
    let one = and_parts (nat_lt e.before n) (nat_lt e.after n && before model e.before e.after) is in
    let two = and_parts (nat_lt e.after n) (before model e.before e.after) one.1 in
    record { from = ltb-true e.before n one.0; to = ltb-true e.after n two.0 }

-- one edge more
pub edge_more : (edges : List Edge) (k : ℕ) (e : Edge) (f g : ℕ) → k < length edges → e ≡ get_or edges k e
    → (is_edge (take k edges) f g || ((f == e.before) && (g == e.after))) ≡ is_edge (take (k + 1) edges) f g
edge_more edges k e f g less at =
    sym (ap (λ l. is_edge l f g) (take_more edges k e less ∙ ap (λ x. take k edges ++ x ∷ []) (sym at))
    ∙ list_any-append (λ (x : Edge). (f == x.before) && (g == x.after)) (take k edges) (e ∷ [])
    ∙ ap (λ b. is_edge (take k edges) f g || b) (or_nothing ((f == e.before) && (g == e.after))))
  where
    or_nothing : (b : Bool) → (b || false) ≡ b
    or_nothing true = refl
    or_nothing false = refl

-- ---- who is told to wait

pub tells_as : (all many : ℕ) (told other : ℕ → ℕ → Bool) (is_done : ℕ → Bool) (waiting : waits.Waiting)
    → ((thing number : ℕ) → thing < all → told thing number ≡ other thing number)
    → Tells all many told is_done waiting → Tells all many other is_done waiting
tells_as all many told other is_done waiting same tells = record {
  long = tells.long;
  many = tells.many;
  who = λ thing number less. tells.who thing number less ∙ same thing number less;
  which = tells.which;
}

-- one edge more is told
pub edge_told : (n : ℕ) (items : List Edge) (k : ℕ) (e : Edge) (waiting next : waits.Waiting)
    → k < length items → e ≡ get_or items k e → e.before < n → next ≡ waits.with_waiter e.before e.after waiting
    → Tells n n (λ f g. is_edge (take k items) f g) (λ f. false) waiting
    → Tells n n (λ f g. is_edge (take (k + 1) items) f g) (λ f. false) next
edge_told n items k e waiting next less at from is tells =
    let P : waits.Waiting → Type 0 = λ w. Tells n n (λ f g. is_edge (take (k + 1) items) f g) (λ f. false) w in
    subst P (sym is)
    (tells_as n n (λ f g. is_edge (take k items) f g || ((f == e.before) && (g == e.after)))
    (λ f g. is_edge (take (k + 1) items) f g) (λ f. false) (waits.with_waiter e.before e.after waiting)
    (λ f g within. edge_more items k e f g less at)
    (waiters_are_told n n (λ f g. is_edge (take k items) f g) (λ f. false) waiting e.before e.after from tells))

-- the functions before this one are told, and this one now too
pub told_more : (k f : ℕ) (test : ℕ → Bool) (own : Bool) → test k ≡ own → ((nat_lt f k && test f) || (own && (f == k))) ≡ (nat_lt f (k + 1) && test f)
told_more k f test own is =
    ap (λ b. (nat_lt f k && test f) || b) (and_turned own (f == k) ∙ ap (λ b. (f == k) && b) (sym is))
    ∙ last_or_less k f test
    ∙ ap (λ n. nat_lt f n && test f) (let next : suc k ≡ k + 1 = omega arith in next)
  where
    and_turned : (a b : Bool) → (a && b) ≡ (b && a)
    and_turned true true = refl
    and_turned true false = refl
    and_turned false true = refl
    and_turned false false = refl

-- ---- routes

pub all_found : {X : Type 0} (f : X → Option ℕ) (xs : List X) (numbers : List ℕ) → map f xs ≡ map Some numbers → filter_map f xs ≡ numbers
all_found f [] [] is = refl
all_found f [] (n ∷ numbers) is = absurd cc
all_found f (x ∷ xs) [] is = absurd cc
all_found {X} f (x ∷ xs) (n ∷ numbers) is =
    let here : f x ≡ Some n = cc in
    let rest : map f xs ≡ map Some numbers = cc in
    ap (λ o. cons_option o (filter_map f xs)) here ∙ (λ i. n ∷ all_found f xs numbers rest i)

-- what is told of the functions so far, and of the next one, which waits for these
pub inputs_told : (model : Model) (k : ℕ) (own : List ℕ) (waiting : waits.Waiting) → k < function_count model → own ≡ inputs_of model k
    → Tells (length model.messages) (function_count model) (λ m f. nat_lt f k && is_in m (inputs_of model f)) (λ m. false) waiting
    → Tells (length model.messages) (function_count model) (λ m f. nat_lt f (k + 1) && is_in m (inputs_of model f)) (λ m. false) (waiting_for k own waiting)
inputs_told model k own waiting less is tells =
    tells_as (length model.messages) (function_count model)
    (λ m f. (nat_lt f k && is_in m (inputs_of model f)) || (is_in m own && (f == k)))
    (λ m f. nat_lt f (k + 1) && is_in m (inputs_of model f)) (λ m. false) (waiting_for k own waiting)
    (λ m f within. told_more k f (λ g. is_in m (inputs_of model g)) (is_in m own) (ap (is_in m) (sym is)))
    (waiting_is_told (length model.messages) (function_count model) (λ m f. nat_lt f k && is_in m (inputs_of model f)) (λ m. false) k own waiting
    (subst (All (λ m. m < length model.messages)) (sym is) (inputs_below model k less)) tells)

pub outputs_told : (model : Model) (k : ℕ) (own : List ℕ) (waiting : waits.Waiting) → k < function_count model → own ≡ outputs_of model k
    → Tells (function_count model) (length model.messages) (λ f m. nat_lt f k && is_in m (outputs_of model f)) (λ f. false) waiting
    → Tells (function_count model) (length model.messages) (λ f m. nat_lt f (k + 1) && is_in m (outputs_of model f)) (λ f. false) (waited_for_by k own waiting)
outputs_told model k own waiting less is tells =
    tells_as (function_count model) (length model.messages)
    (λ f m. (nat_lt f k && is_in m (outputs_of model f)) || ((f == k) && is_in m own))
    (λ f m. nat_lt f (k + 1) && is_in m (outputs_of model f)) (λ f. false) (waited_for_by k own waiting)
    (λ f m within.
    ap (λ b. (nat_lt f k && is_in m (outputs_of model f)) || b) (turned (f == k) (is_in m own))
    ∙ told_more k f (λ g. is_in m (outputs_of model g)) (is_in m own) (ap (is_in m) (sym is)))
    (waiters_told (function_count model) (length model.messages) (λ f m. nat_lt f k && is_in m (outputs_of model f)) (λ f. false) k own waiting less tells)
  where
    turned : (a b : Bool) → (a && b) ≡ (b && a)
    turned true true = refl
    turned true false = refl
    turned false true = refl
    turned false false = refl

-- no function past the last reads anything
pub all_read : (model : Model) (m f : ℕ) → (nat_lt f (function_count model) && is_in m (inputs_of model f)) ≡ is_in m (inputs_of model f)
all_read model m f = ⊎_elim
    (λ (less : f < function_count model). ap (λ b. b && is_in m (inputs_of model f)) (lt-ltb f (function_count model) less))
    (λ (over : function_count model ≤ f).
    ap (λ b. b && is_in m (inputs_of model f)) (le-ltb f (function_count model) over)
    ∙ sym (ap (λ o. is_in m (inputs_at o model)) (slice_get_past (functions model) f over)))
    (cases_lt f (function_count model))

-- all functions are told of
pub all_told : (n f : ℕ) (b : Bool) → f < n → (nat_lt f n && b) ≡ b
all_told n f b less = ap (λ t. t && b) (lt-ltb f n less)

pub output_below : (model : Model) (f m : ℕ) → f < function_count model → is_in m (outputs_of model f) ≡ true → m < length model.messages
output_below model f m less among =
    let place = slice_get-some (functions model) f less in
    let output = output_named model place.0 m (sym (ap (λ o. is_in m (outputs_at o model)) place.1) ∙ among) in
    slice_get_within model.messages m output.named.message output.named.there

pub outputs_below : (model : Model) (f : ℕ) → f < function_count model → All (λ m. m < length model.messages) (outputs_of model f)
outputs_below model f less = all_in (λ m. m < length model.messages) (outputs_of model f) (λ m among. output_below model f m less among)
