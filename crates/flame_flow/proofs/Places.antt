-- Numbers at places of lists.
use Rattle.std.proofs.Common.{◌≡◌, ℕ, zero, suc, ◌+◌, ◌<◌, ◌≤◌, ⊎_elim, Bool, true, false, cond, List, [], ◌∷◌, ◌++◌, length, map, get_or, take, drop, Option, Some, None, refl, sym, ap, ◌∙◌, arith, get_or-set_same, get_or-set_other, length-set}
use Rattle.std.specs.Prelude.{◌==◌, ◌&&◌, ◌||◌, ◌↔◌, nat_lt, slice_get, slice_index, slice_index_or, slice_set, IsSome, IfSome}
use Rattle.std.specs.Ordering.{match_ordering, nat_cmp}
use Rattle.std.specs.declared.cmp.Ordering.TheVariants.{Less, Equal, Greater}
use Rattle.std.specs.BTreeSet.{insert_key}
use Rattle.std.proofs.lemmas.Bool.{and_from, cases_eq, cases_lt, ne_eqb, or_from, or_left, or_right, eq-eqb, eqb-true, lt-ltb, le-ltb, false≢true}
use Rattle.std.proofs.Math.Bool.{or-false}
use Rattle.std.proofs.lemmas.List.{map-set, take_more}
use Rattle.std.proofs.lemmas.List.Folds.{list_any-append}
use Rattle.std.proofs.lemmas.Option.{slice_get_past}
use Rattle.flame_rows.proofs.Lists.{slice_index_or-map}
use Rattle.flame_spec.specs.declared.models.Model.{Model}
use Rattle.flame_spec.specs.Before.{before, both_stand, function_count}
use Rattle.flame_spec.specs.Below.{all_below, is_in}
use Rattle.flame_spec.specs.Functions.{Place, functions}
use Rattle.flame_spec.proofs.FirstBelow.{is_in-all_below, is_in_push}
use Rattle.flame_depend.specs.declared.pairs.Edge.{Edge}
use Rattle.flame_depend.specs.Edges.{edges_below, edges_of, edges_to}
use Rattle.flame_flow.specs.BegunPieces.{with_number}
use Rattle.flame_flow.specs.KeptWays.{has_edge, with_added}

-- ---- a number in order

pub key_inserted : (keys : List ℕ) (number : ℕ) → insert_key nat_cmp keys number ≡ with_number number keys
key_inserted [] number = refl
key_inserted (n ∷ keys) number = go (key_inserted keys number) (nat_lt number n) (number == n)
  where
    go : insert_key nat_cmp keys number ≡ with_number number keys
        → (less same : Bool)
        → match_ordering (cond less Less (cond same Equal Greater)) (number ∷ n ∷ keys) (n ∷ keys) (n ∷ insert_key nat_cmp keys number)
        ≡ cond less (number ∷ n ∷ keys) (cond same (n ∷ keys) (n ∷ with_number number keys))
    go later true same = refl
    go later false true = refl
    go later false false = ap (λ l. n ∷ l) later

pub taken_first : (found : Option ℕ) (keys left : List ℕ) → 0 < length keys → IsSome found ↔ (0 < length keys) → IfSome found (λ k. keys ≡ k ∷ left) → left ≡ drop 1 keys
taken_first None keys left some there is = absurd (false≢true (there.1 some))
taken_first (Some found) keys left some there is = sym (ap (drop 1) is)

-- ---- one number more

below_more : (k n : ℕ) → (nat_lt k n || (n == k)) ≡ nat_lt k (n + 1)
below_more k n = ⊎_elim
    (λ (less : k < n). or_left (nat_lt k n) (n == k) (lt-ltb k n less) ∙ sym (lt-ltb k (n + 1) (omega arith)))
    (λ (over : n ≤ k). ⊎_elim
    (λ (same : n ≡ k). or_right (nat_lt k n) (n == k) (eq-eqb n k same) ∙ sym (lt-ltb k (n + 1) (omega arith)))
    (λ (apart : n ≡ k → ⊥). or_from (nat_lt k n) (n == k) (le-ltb k n over) (ne_eqb n k apart) ∙ sym (le-ltb k (n + 1) (above over apart)))
    (cases_eq n k))
    (cases_lt k n)
  where
    above : n ≤ k → (n ≡ k → ⊥) → n + 1 ≤ k
    above over apart = omega (arith, over, apart)

pub in_pushed : (numbers : List ℕ) (place next : ℕ) → ((k : ℕ) → is_in k numbers ≡ nat_lt k place) → next ≡ place → (k : ℕ)
    → is_in k (numbers ++ next ∷ []) ≡ nat_lt k (place + 1)
in_pushed numbers place next earlier is k =
    is_in_push k next numbers ∙ (λ i. earlier k i || (is i == k)) ∙ below_more k place

-- ---- lists that are written

pub added_at : {X : Type 0} (g : X → List ℕ) (xs : List X) (place number : ℕ) (old new : X) → place < length xs → old ≡ get_or xs place old → g new ≡ g old ++ number ∷ []
    → map g (slice_set xs place new) ≡ with_added place number (map g xs)
added_at g xs place number old new less at grown =
    map-set g xs place new
    ∙ ap (slice_set (map g xs) place) (grown ∙ ap (λ l. l ++ number ∷ []) (sym (slice_index_or-map g [] xs place old less at)))

pub empty_more : (lists : List (List ℕ)) (list : List ℕ) → list ≡ [] → ((place : ℕ) → slice_index_or lists place [] ≡ [])
    → (place : ℕ) → slice_index_or (lists ++ list ∷ []) place [] ≡ []
empty_more [] list none empty zero = none
empty_more [] list none empty (suc place) = refl
empty_more (l ∷ lists) list none empty zero = empty 0
empty_more (l ∷ lists) list none empty (suc place) = empty_more lists list none (λ k. empty (suc k)) place

-- ---- edges

has_more : (f g : ℕ) (edges : List Edge) (k : ℕ) (e : Edge) → k < length edges
    → has_edge f g (take (k + 1) edges) ≡ (has_edge f g (take k edges) || (((get_or edges k e).before == f) && ((get_or edges k e).after == g)))
has_more f g edges k e less =
    let last : Edge = get_or edges k e in
    ap (has_edge f g) (take_more edges k e less)
    ∙ list_any-append (λ (edge : Edge). (edge.before == f) && (edge.after == g)) (take k edges) (last ∷ [])
    ∙ ap (λ b. has_edge f g (take k edges) || b) (or-false ((last.before == f) && (last.after == g)))

-- lists that have what these edges lead to
pub record HasNext (count : ℕ) (edges : List Edge) (k : ℕ) (lists : List (List ℕ)) : Type 0 where
  pub long : length lists ≡ count
  pub has : (f g : ℕ) → f < count → is_in g (slice_index_or lists f []) ≡ has_edge f g (take k edges)

pub next_none : (count : ℕ) (edges : List Edge) (lists : List (List ℕ)) → length lists ≡ count → ((place : ℕ) → slice_index_or lists place [] ≡ [])
    → HasNext count edges 0 lists
next_none count edges lists long empty = record { long = long; has = λ f g below. ap (is_in g) (empty f) }

pub next_more : (count : ℕ) (edges : List Edge) (k : ℕ) (e : Edge) (lists new : List (List ℕ)) → k < length edges
    → new ≡ with_added (get_or edges k e).before (get_or edges k e).after lists → HasNext count edges k lists → HasNext count edges (k + 1) new
next_more count edges k e lists new less is old = record {
  long = ap length is ∙ length-set lists place list ∙ old.long;
  has = λ f g below.
      ap (λ l. is_in g (slice_index_or l f [])) is ∙ ⊎_elim
      (λ (same : f ≡ place). here f g same below)
      (λ (apart : f ≡ place → ⊥).
      ap (is_in g) (get_or-set_other lists place f list [] apart)
      ∙ old.has f g below
      ∙ sym (or-false (has_edge f g (take k edges)))
      ∙ ap (λ b. has_edge f g (take k edges) || (b && (number == g))) (sym (ne_eqb place f (λ same. apart (sym same))))
      ∙ sym (has_more f g edges k e less))
      (cases_eq f place);
}
  where
    place : ℕ
    place = (get_or edges k e).before

    number : ℕ
    number = (get_or edges k e).after

    list : List ℕ
    list = slice_index_or lists (get_or edges k e).before [] ++ (get_or edges k e).after ∷ []

    here : (f g : ℕ) → f ≡ (get_or edges k e).before → f < count
        → is_in g (slice_index_or (with_added (get_or edges k e).before (get_or edges k e).after lists) f []) ≡ has_edge f g (take (k + 1) edges)
    here f g same below =
        ap (λ n. is_in g (slice_index_or (slice_set lists n list) f [])) (sym same)
        ∙ ap (is_in g) (get_or-set_same lists f list [] (omega (arith, below, old.long)))
        ∙ is_in_push g (get_or edges k e).after (slice_index_or lists (get_or edges k e).before [])
        ∙ ap (λ b. b || ((get_or edges k e).after == g)) (ap (λ n. is_in g (slice_index_or lists n [])) (sym same) ∙ old.has f g below)
        ∙ ap (λ b. has_edge f g (take k edges) || (b && ((get_or edges k e).after == g))) (sym (eq-eqb (get_or edges k e).before f (sym same)))
        ∙ sym (has_more f g edges k e less)

-- an edge of a model for each function that stands before another, and no others
to_is : (h f g : ℕ) (targets : List ℕ) → has_edge f g (edges_to h targets) ≡ ((h == f) && is_in g targets)
to_is h f g [] = sym (none (h == f))
  where
    none : (b : Bool) → (b && false) ≡ false
    none true = refl
    none false = refl
to_is h f g (t ∷ targets) = ap (λ b. ((h == f) && (t == g)) || b) (to_is h f g targets) ∙ parted (h == f) (t == g) (is_in g targets)
  where
    parted : (a b c : Bool) → ((a && b) || (a && c)) ≡ (a && (b || c))
    parted true b c = refl
    parted false b c = refl

below_is : (n : ℕ) (stands : ℕ → ℕ → Bool) (k f g : ℕ) → has_edge f g (edges_below k n stands) ≡ (nat_lt f k && (nat_lt g n && stands f g))
below_is n stands zero f g = sym (ap (λ b. b && (nat_lt g n && stands f g)) (le-ltb f zero (omega arith)))
below_is n stands (suc k) f g =
    list_any-append (λ (e : Edge). (e.before == f) && (e.after == g)) (edges_below k n stands) (edges_to k (all_below (stands k) n))
    ∙ ap (λ b. b || has_edge f g (edges_to k (all_below (stands k) n))) (below_is n stands k f g)
    ∙ ap (λ b. (nat_lt f k && (nat_lt g n && stands f g)) || b) (to_is k f g (all_below (stands k) n) ∙ here (k == f) refl)
    ∙ joined (nat_lt f k) (k == f) (nat_lt g n && stands f g)
    ∙ ap (λ b. b && (nat_lt g n && stands f g)) (below_more f k ∙ ap (nat_lt f) (omega arith))
  where
    here : (b : Bool) → (k == f) ≡ b → (b && is_in g (all_below (stands k) n)) ≡ (b && (nat_lt g n && stands f g))
    here false apart = refl
    here true same = is_in-all_below (stands k) n g ∙ ap (λ h. nat_lt g n && stands h g) (eqb-true k f same)

    joined : (a b c : Bool) → ((a && c) || (b && c)) ≡ ((a || b) && c)
    joined true true true = refl
    joined true true false = refl
    joined true false true = refl
    joined true false false = refl
    joined false b c = refl

-- functions that stand before one another are functions of the model
pub stands_below : (model : Model) (f g : ℕ) → before model f g ≡ true → (f < function_count model) × (g < function_count model)
stands_below model f g is = (
  ⊎_elim (λ (less : f < function_count model). less)
      (λ (over : function_count model ≤ f).
      absurd (false≢true (sym (ap (λ o. both_stand o (slice_get (functions model) g)) (slice_get_past (functions model) f over)) ∙ is)))
      (cases_lt f (function_count model)),
  ⊎_elim (λ (less : g < function_count model). less)
      (λ (over : function_count model ≤ g).
      absurd (false≢true (sym (ap (both_stand (slice_get (functions model) f)) (slice_get_past (functions model) g over) ∙ none_after (slice_get (functions model) f)) ∙ is)))
      (cases_lt g (function_count model)),
)
  where
    none_after : (o : Option Place) → both_stand o None ≡ false
    none_after None = refl
    none_after (Some place) = refl

pub edges_are : (model : Model) (f g : ℕ) → f < function_count model → has_edge f g (edges_of model) ≡ before model f g
edges_are model f g less =
    below_is (function_count model) (before model) (function_count model) f g
    ∙ ap (λ b. b && (nat_lt g (function_count model) && before model f g)) (lt-ltb f (function_count model) less)
    ∙ within (before model f g) refl
  where
    none : (b : Bool) → (b && false) ≡ false
    none true = refl
    none false = refl

    within : (b : Bool) → before model f g ≡ b → (nat_lt g (function_count model) && b) ≡ b
    within true is = and_from (nat_lt g (function_count model)) true (lt-ltb g (function_count model) (stands_below model f g is).1) refl
    within false is = none (nat_lt g (function_count model))

-- ---- ranks

-- one rank more
pub ranks_more : (order ranks : List ℕ) (count k next : ℕ) → length ranks ≡ count → k < length order → slice_index order k < count → next ≡ k
    → ((i j : ℕ) → i < length order → j < length order → slice_index order i ≡ slice_index order j → i ≡ j)
    → ((j : ℕ) → j < k → slice_index ranks (slice_index order j) ≡ j)
    → (j : ℕ) → j < k + 1 → slice_index (slice_set ranks (slice_index order k) next) (slice_index order j) ≡ j
ranks_more order ranks count k next long less below is once earlier j within = ⊎_elim
    (λ (same : j ≡ k).
    ap (λ n. slice_index (slice_set ranks (slice_index order k) next) (slice_index order n)) same
    ∙ get_or-set_same ranks (slice_index order k) next 0 (omega (arith, below, long)) ∙ is ∙ sym same)
    (λ (apart : j ≡ k → ⊥).
    get_or-set_other ranks (slice_index order k) (slice_index order j) next 0 (λ same. apart (once j k (earlier_less apart) less same))
    ∙ earlier j (earlier_than apart))
    (cases_eq j k)
  where
    earlier_less : (j ≡ k → ⊥) → j < length order
    earlier_less apart = omega (arith, less)

    earlier_than : (j ≡ k → ⊥) → j < k
    earlier_than apart = omega arith
