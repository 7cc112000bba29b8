-- Agents that rest with those that chose alike: what they weigh together, and who of them chose a place.
use Rattle.std.proofs.Common.{◌≡◌, ℕ, zero, suc, ◌+◌, ◌<◌, ◌≤◌, Bool, true, false, cond, List, [], ◌∷◌, ◌++◌, map, length, get_or, Some, None, refl, sym, ap, ◌∙◌, subst, arith, ◌⊎◌, inl, inr}
use Rattle.std.specs.Prelude.{ℤ, ◌==◌, not, slice_get, slice_set, slice_index_or}
use Rattle.std.specs.List.{All, filter, flat_map}
use Rattle.std.specs.Vec.{vec_len, vec_capacity}
use Rattle.std.proofs.lemmas.Bool.{eqb-true, eq-eqb, ne_eqb, cases_lt}
use Rattle.std.proofs.lemmas.Option.{slice_get_read}
use Rattle.std.proofs.lemmas.List.{nil_from_length}
use Rattle.flame_rows.specs.Order.{row_order}
use Rattle.flame_rows.specs.Sorted.{IsAscending}
use Rattle.flame_rows.specs.Bags.{ascending, merge, merge_all, weigh}
use Rattle.flame_rows.proofs.Truths.{cases_Option}
use Rattle.flame_rows.proofs.BagLaws.{IsAscending-ascending, IsAscending-merge, equal_by_weighings, merge_adds_weights, weigh-append, weigh-ascending, weigh-ones, IsAscending-filter}
use Rattle.flame_rows.proofs.Lists.{slice_get-slice_set_cases}
use Rattle.flame_field.specs.declared.gatherings.Gathering.{Gathering}
use Rattle.flame_field.specs.declared.pools.Pool.{Pool}
use Rattle.flame_field.specs.KeptGatherings.{bag_of, bags_of}
use Rattle.flame_field.specs.KeptPools.{pool_bag, choosing, AreApart}

abbrev Rows : Type 0
Rows = List (List ℤ)

abbrev Weight : Type 0
Weight = List ℤ → ℕ

-- ---- what they weigh

-- the weights of all rows of some gatherings together
abbrev pub weighs : Weight → List Gathering → ℕ
weighs w [] = 0
weighs w (own ∷ others) = weigh w own.rows.items + weighs w others

weigh-all : (w : Weight) (all : List Gathering) → weigh w (flat_map (λ bag. bag) (map bag_of all)) ≡ weighs w all
weigh-all w [] = refl
weigh-all w (own ∷ others) =
    weigh-append w (bag_of own) (flat_map (λ bag. bag) (map bag_of others))
    ∙ (λ i. weigh-ascending w own.rows.items i + weigh-all w others i)

pub weigh-bags : (w : Weight) (all : List Gathering) → weigh w (merge_all (map bag_of all)) ≡ weighs w all
weigh-bags w all = weigh-ascending w (flat_map (λ bag. bag) (map bag_of all)) ∙ weigh-all w all

pub weigh-pool : (w : Weight) (pool : Pool) → weigh w (pool_bag pool) ≡ weigh w pool.fresh.rows.items + weighs w pool.chosen.items
weigh-pool w pool =
    merge_adds_weights w (bag_of pool.fresh) (merge_all (bags_of pool.chosen))
    ∙ (λ i. weigh-ascending w pool.fresh.rows.items i + weigh-bags w pool.chosen.items i)

pub pool-up : (pool : Pool) → IsAscending row_order (pool_bag pool)
pool-up pool = IsAscending-merge (bag_of pool.fresh) (merge_all (bags_of pool.chosen))

pub same_pool : (old new : Pool)
    → ((w : Weight) → weigh w new.fresh.rows.items + weighs w new.chosen.items ≡ weigh w old.fresh.rows.items + weighs w old.chosen.items)
    → pool_bag new ≡ pool_bag old
same_pool old new same =
    equal_by_weighings (pool_bag new) (pool_bag old) (pool-up new) (pool-up old)
    (λ w. weigh-pool w new ∙ same w ∙ sym (weigh-pool w old))

pub weigh-none : (w : Weight) (own : Gathering) → bag_of own ≡ [] → weigh w own.rows.items ≡ 0
weigh-none w own none = sym (weigh-ascending w own.rows.items) ∙ ap (weigh w) none

pub weigh-added : (w : Weight) (old new : Gathering) (rows : Rows) → bag_of new ≡ merge (bag_of old) (ascending rows)
    → weigh w new.rows.items ≡ weigh w old.rows.items + weigh w rows
weigh-added w old new rows added =
    sym (weigh-ascending w new.rows.items)
    ∙ ap (weigh w) added
    ∙ merge_adds_weights w (bag_of old) (ascending rows)
    ∙ (λ i. weigh-ascending w old.rows.items i + weigh-ascending w rows i)

-- ---- one that is written, or comes behind

pub weighs-written : (w : Weight) (all : List Gathering) (place : ℕ) (old new : Gathering) → place < length all → old ≡ get_or all place old
    → weighs w (slice_set all place new) + weigh w old.rows.items ≡ weighs w all + weigh w new.rows.items
weighs-written w [] place old new within at = absurd (omega (arith, within))
weighs-written w (own ∷ all) zero old new within at =
    let same : weigh w old.rows.items ≡ weigh w own.rows.items = ap (λ (o : Gathering). weigh w o.rows.items) at in
    omega (arith, same)
weighs-written w (own ∷ all) (suc place) old new within at =
    omega (arith, weighs-written w all place old new (omega (arith, within)) at)

pub weighs-push : (w : Weight) (all : List Gathering) (new : Gathering) → weighs w (all ++ new ∷ []) ≡ weighs w all + weigh w new.rows.items
weighs-push w [] new = omega arith
weighs-push w (own ∷ all) new = omega (arith, weighs-push w all new)

pub got-push : {X : Type 0} (xs : List X) (k : ℕ) (new x : X) → slice_get (xs ++ new ∷ []) k ≡ Some x → (new ≡ x) ⊎ (slice_get xs k ≡ Some x)
got-push [] zero new x at = inl cc
got-push [] (suc k) new x at = absurd (cc)
got-push (y ∷ xs) zero new x at = inr at
got-push (y ∷ xs) (suc k) new x at = got-push xs k new x at

-- ---- who is where the choice is

abbrev none_or_one : Bool → ℕ
none_or_one here = cond here 0 1

-- one for each that is not where its choice is
abbrev strays : (List ℤ → ℕ) → ℕ → Weight
strays choose place memory = none_or_one (choose memory == place)

-- nobody is where the choice is not, in places that are numbered from i
abbrev ApartFrom : (List ℤ → ℕ) → ℕ → List Gathering → Type 0
ApartFrom choose i all = (k : ℕ) (own : Gathering) → slice_get all k ≡ Some own → weigh (strays choose (i + k)) own.rows.items ≡ 0

abbrev pub Apart : (List ℤ → ℕ) → List Gathering → Type 0
Apart choose all = (k : ℕ) (own : Gathering) → slice_get all k ≡ Some own → weigh (strays choose k) own.rows.items ≡ 0

no_stray : (test : Bool) → none_or_one test ≡ 0 → test ≡ true
no_stray true none = refl
no_stray false none = absurd (omega (arith, none))

pub all-strays : (choose : List ℤ → ℕ) (place : ℕ) (rows : Rows) → All (λ memory. choose memory ≡ place) rows → weigh (strays choose place) rows ≡ 0
all-strays choose place [] all = refl
all-strays choose place (row ∷ rows) all =
    let here : none_or_one (choose row == place) ≡ 0 = ap none_or_one (eq-eqb (choose row) place (all zero row (omega arith))) in
    omega (arith, here, all-strays choose place rows (λ k d less. all (suc k) d (omega (arith, less))))

none-strays : (choose : List ℤ → ℕ) (place : ℕ) (rows : Rows) → weigh (strays choose place) rows ≡ 0 → All (λ memory. choose memory ≡ place) rows
none-strays choose place [] none k d less = absurd (omega (arith, less))
none-strays choose place (row ∷ rows) none zero d less = eqb-true (choose row) place (no_stray (choose row == place) (omega (arith, none)))
none-strays choose place (row ∷ rows) none (suc k) d less = none-strays choose place rows (omega (arith, none)) k d (omega (arith, less))

pub bag-at : (all : List Gathering) (k : ℕ) (own : Gathering) → slice_get all k ≡ Some own → slice_index_or (map bag_of all) k [] ≡ bag_of own
bag-at [] k own at = absurd (cc)
bag-at (other ∷ all) zero own at = let same : other ≡ own = cc in ap bag_of same
bag-at (other ∷ all) (suc k) own at = bag-at all k own at

bag-nowhere : (all : List Gathering) (k : ℕ) → slice_get all k ≡ None → slice_index_or (map bag_of all) k [] ≡ []
bag-nowhere [] k at = refl
bag-nowhere (other ∷ all) zero at = absurd (cc)
bag-nowhere (other ∷ all) (suc k) at = bag-nowhere all k at

pub apart-of : (choose : List ℤ → ℕ) (all : List Gathering) → AreApart choose (map bag_of all) → Apart choose all
apart-of choose all apart k own at =
    let here : All (λ memory. choose memory ≡ k) (bag_of own) =
    subst (λ (rows : Rows). All (λ memory. choose memory ≡ k) rows) (bag-at all k own at) (apart k) in
    sym (weigh-ascending (strays choose k) own.rows.items) ∙ all-strays choose k (bag_of own) here

pub apart-to : (choose : List ℤ → ℕ) (all : List Gathering) → Apart choose all → AreApart choose (map bag_of all)
apart-to choose all apart place =
    let here : All (λ memory. choose memory ≡ place) (slice_index_or (map bag_of all) place []) =
    elim (cases_Option (slice_get all place)) [
      | inl none ↦ subst (λ (rows : Rows). All (λ memory. choose memory ≡ place) rows) (sym (bag-nowhere all place none)) (λ k d less. absurd (omega (arith, less)))
      | inr there ↦ subst (λ (rows : Rows). All (λ memory. choose memory ≡ place) rows) (sym (bag-at all place there.0 there.1))
          (none-strays choose place (bag_of there.0) (weigh-ascending (strays choose place) there.0.rows.items ∙ apart place there.0 there.1))
    ] in
    here

pub apart-written : (choose : List ℤ → ℕ) (all : List Gathering) (place : ℕ) (new : Gathering) → Apart choose all
    → weigh (strays choose place) new.rows.items ≡ 0 → Apart choose (slice_set all place new)
apart-written choose all place new apart none k own at =
    elim (slice_get-slice_set_cases all place k new own at) [
      | inl same ↦ subst (λ n. weigh (strays choose n) own.rows.items ≡ 0) same.0 (subst (λ (o : Gathering). weigh (strays choose place) o.rows.items ≡ 0) same.1 none)
      | inr there ↦ apart k own there.1
    ]

pub apart-push : (choose : List ℤ → ℕ) (all : List Gathering) (new : Gathering) → Apart choose all → bag_of new ≡ [] → Apart choose (all ++ new ∷ [])
apart-push choose all new apart none k own at =
    elim (got-push all k new own at) [
      | inl same ↦ subst (λ (o : Gathering). weigh (strays choose k) o.rows.items ≡ 0) same (weigh-none (strays choose k) new none)
      | inr there ↦ apart k own there
    ]

-- one more, which chose the place
pub apart-more : (choose : List ℤ → ℕ) (all : List Gathering) (place : ℕ) (old new : Gathering) (row : List ℤ) → Apart choose all
    → place < length all → old ≡ get_or all place old → new.rows.items ≡ old.rows.items ++ row ∷ [] → place ≡ choose row
    → Apart choose (slice_set all place new)
apart-more choose all place old new row apart within at more is =
    let here : none_or_one (choose row == place) ≡ 0 = ap none_or_one (eq-eqb (choose row) place (sym is)) in
    apart-written choose all place new apart
    (ap (weigh (strays choose place)) more
    ∙ weigh-append (strays choose place) old.rows.items (row ∷ [])
    ∙ omega (arith, here, apart place old (slice_get_read all (length all) place old refl within at)))

-- ---- those that chose a place, and the others

-- what the rows weigh that chose the place, and what the others do
abbrev on : (List ℤ → ℕ) → ℕ → Weight → Weight
on choose place w memory = cond (choose memory == place) (w memory) 0

abbrev off : (List ℤ → ℕ) → ℕ → Weight → Weight
off choose place w memory = cond (choose memory == place) 0 (w memory)

module _ (choose : List ℤ → ℕ) (place : ℕ) (w : Weight) where
  on-off : (rows : Rows) → weigh (on choose place w) rows + weigh (off choose place w) rows ≡ weigh w rows
  on-off [] = omega arith
  on-off (row ∷ rows) =
      let rest = on-off rows in
      elim (choose row == place) as (λ t. (cond t (w row) 0 + weigh (on choose place w) rows) + (cond t 0 (w row) + weigh (off choose place w) rows) ≡ w row + weigh w rows) [
        | true ↦ omega (arith, rest)
        | false ↦ omega (arith, rest)
      ]

  ons-offs : (all : List Gathering) → weighs (on choose place w) all + weighs (off choose place w) all ≡ weighs w all
  ons-offs [] = omega arith
  ons-offs (own ∷ all) = omega (arith, on-off own.rows.items, ons-offs all)

  weigh-takers : (rows : Rows) → weigh w (filter (λ memory. choose memory == place) rows) ≡ weigh (on choose place w) rows
  weigh-takers [] = refl
  weigh-takers (row ∷ rows) =
      let rest = weigh-takers rows in
      elim (choose row == place) as (λ t. weigh w (cond t (row ∷ filter (λ memory. choose memory == place) rows) (filter (λ memory. choose memory == place) rows))
      ≡ cond t (w row) 0 + weigh (on choose place w) rows) [
        | true ↦ omega (arith, rest)
        | false ↦ omega (arith, rest)
      ]

  weigh-others : (rows : Rows) → weigh w (filter (λ memory. not (choose memory == place)) rows) ≡ weigh (off choose place w) rows
  weigh-others [] = refl
  weigh-others (row ∷ rows) =
      let rest = weigh-others rows in
      elim (choose row == place) as (λ t. weigh w (cond (not t) (row ∷ filter (λ memory. not (choose memory == place)) rows) (filter (λ memory. not (choose memory == place)) rows))
      ≡ cond t 0 (w row) + weigh (off choose place w) rows) [
        | true ↦ omega (arith, rest)
        | false ↦ omega (arith, rest)
      ]

  all-on : (rows : Rows) (n : ℕ) → weigh (strays choose n) rows ≡ 0 → n ≡ place → weigh (on choose place w) rows ≡ weigh w rows
  all-on [] n none same = refl
  all-on (row ∷ rows) n none same =
      let is : choose row ≡ n = eqb-true (choose row) n (no_stray (choose row == n) (omega (arith, none))) in
      let here : cond (choose row == place) (w row) 0 ≡ w row = ap (λ t. cond t (w row) 0) (eq-eqb (choose row) place (is ∙ same)) in
      omega (arith, here, all-on rows n (omega (arith, none)) same)

  none-on : (rows : Rows) (n : ℕ) → weigh (strays choose n) rows ≡ 0 → (n ≡ place → ⊥) → weigh (on choose place w) rows ≡ 0
  none-on [] n none other = refl
  none-on (row ∷ rows) n none other =
      let is : choose row ≡ n = eqb-true (choose row) n (no_stray (choose row == n) (omega (arith, none))) in
      let here : cond (choose row == place) (w row) 0 ≡ 0 = ap (λ t. cond t (w row) 0) (ne_eqb (choose row) place (λ same. other (sym is ∙ same))) in
      omega (arith, here, none-on rows n (omega (arith, none)) other)

  first : (i : ℕ) (own : Gathering) (all : List Gathering) → ApartFrom choose i (own ∷ all) → weigh (strays choose i) own.rows.items ≡ 0
  first i own all apart =
      let same : i + 0 ≡ i = omega arith in
      subst (λ n. weigh (strays choose n) own.rows.items ≡ 0) same (apart zero own refl)

  later : (i : ℕ) (own : Gathering) (all : List Gathering) → ApartFrom choose i (own ∷ all) → ApartFrom choose (i + 1) all
  later i own all apart k other at =
      let same : i + suc k ≡ i + 1 + k = omega arith in
      subst (λ n. weigh (strays choose n) other.rows.items ≡ 0) same (apart (suc k) other at)

  ons-past : (i : ℕ) (all : List Gathering) → place < i → ApartFrom choose i all → weighs (on choose place w) all ≡ 0
  ons-past i [] past apart = refl
  ons-past i (own ∷ all) past apart =
      let here = none-on own.rows.items i (first i own all apart) (λ same. omega (arith, same, past)) in
      omega (arith, here, ons-past (i + 1) all (omega (arith, past)) (later i own all apart))

  ons-at : (i k : ℕ) (all : List Gathering) (own : Gathering) → slice_get all k ≡ Some own → place ≡ i + k → ApartFrom choose i all
      → weighs (on choose place w) all ≡ weigh w own.rows.items
  ons-at i k [] own at is apart = absurd (cc)
  ons-at i zero (other ∷ all) own at is apart =
      let same : other ≡ own = cc in
      let here = all-on other.rows.items i (first i other all apart) (omega (arith, is)) in
      omega (arith, here, ons-past (i + 1) all (omega (arith, is)) (later i other all apart), ap (λ (o : Gathering). weigh w o.rows.items) same)
  ons-at i (suc k) (other ∷ all) own at is apart =
      let here = none-on other.rows.items i (first i other all apart) (λ same. omega (arith, same, is)) in
      omega (arith, here, ons-at (i + 1) k all own at (omega (arith, is)) (later i other all apart))

  ons-nowhere : (i : ℕ) (all : List Gathering) → i + length all ≤ place → ApartFrom choose i all → weighs (on choose place w) all ≡ 0
  ons-nowhere i [] is apart = refl
  ons-nowhere i (other ∷ all) is apart =
      let here = none-on other.rows.items i (first i other all apart) (λ same. omega (arith, same, is)) in
      omega (arith, here, ons-nowhere (i + 1) all (omega (arith, is)) (later i other all apart))

from_first : (choose : List ℤ → ℕ) (all : List Gathering) → Apart choose all → ApartFrom choose 0 all
from_first choose all apart k own at =
    let same : k ≡ 0 + k = omega arith in
    subst (λ n. weigh (strays choose n) own.rows.items ≡ 0) same (apart k own at)

-- those that lie at the place are those that chose it
pub ons-there : (choose : List ℤ → ℕ) (place : ℕ) (w : Weight) (all : List Gathering) (own : Gathering) → Apart choose all
    → place < length all → own ≡ get_or all place own → weighs (on choose place w) all ≡ weigh w own.rows.items
ons-there choose place w all own apart within at =
    ons-at choose place w 0 place all own (slice_get_read all (length all) place own refl within at) (omega arith) (from_first choose all apart)

pub ons-none : (choose : List ℤ → ℕ) (place : ℕ) (w : Weight) (all : List Gathering) → Apart choose all
    → length all ≤ place → weighs (on choose place w) all ≡ 0
ons-none choose place w all apart past =
    ons-nowhere choose place w 0 all (omega (arith, past)) (from_first choose all apart)

pub takers_are : (choose : List ℤ → ℕ) (place : ℕ) (pool : Pool) (rows : Rows) → pool.fresh.rows.items ≡ []
    → ((w : Weight) → weighs (on choose place w) pool.chosen.items ≡ weigh w rows)
    → ascending rows ≡ filter (λ memory. choose memory == place) (pool_bag pool)
takers_are choose place pool rows none there =
    equal_by_weighings (ascending rows) (filter (λ memory. choose memory == place) (pool_bag pool))
    (IsAscending-ascending rows) (IsAscending-filter (λ memory. choose memory == place) (pool_bag pool) (pool-up pool))
    (λ w.
    omega (
      arith,
      weigh-ascending w rows,
      there w,
      ap (weigh (on choose place w)) none,
      weigh-pool (on choose place w) pool,
      weigh-takers choose place w (pool_bag pool),
    ))

pub others_are : (choose : List ℤ → ℕ) (place : ℕ) (old new : Pool) → old.fresh.rows.items ≡ [] → new.fresh.rows.items ≡ []
    → ((w : Weight) → weighs w new.chosen.items + weighs (on choose place w) old.chosen.items ≡ weighs w old.chosen.items)
    → pool_bag new ≡ filter (λ memory. not (choose memory == place)) (pool_bag old)
others_are choose place old new none still left =
    equal_by_weighings (pool_bag new) (filter (λ memory. not (choose memory == place)) (pool_bag old))
    (pool-up new) (IsAscending-filter (λ memory. not (choose memory == place)) (pool_bag old) (pool-up old))
    (λ w.
    omega (
      arith,
      weigh-pool w new,
      ap (weigh w) still,
      left w,
      ap (weigh (off choose place w)) none,
      weigh-pool (off choose place w) old,
      weigh-others choose place w (pool_bag old),
      ons-offs choose place w old.chosen.items,
    ))

-- ---- how many they are

pub length-there : (all : List Gathering) (place : ℕ) (own : Gathering) → place < length all → own ≡ get_or all place own
    → length own.rows.items ≡ length (slice_index_or (map bag_of all) place [])
length-there all place own within at =
    sym (weigh-ones own.rows.items)
    ∙ sym (weigh-ascending (λ row. 1) own.rows.items)
    ∙ weigh-ones (bag_of own)
    ∙ ap length (sym (bag-at all place own (slice_get_read all (length all) place own refl within at)))

-- ---- room for those that choose a place

abbrev pub RoomsIn : List ℕ → List Gathering → Type 0
RoomsIn choices all = (place : ℕ) (own : Gathering) → slice_get all place ≡ Some own
    → vec_len own.rows + choosing choices place ≤ vec_capacity own.rows

choosing-own : (choice : ℕ) (choices : List ℕ) → choosing (choice ∷ choices) choice ≡ choosing choices choice + 1
choosing-own choice choices =
    ap (λ t. length (cond t (choice ∷ filter (λ c. c == choice) choices) (filter (λ c. c == choice) choices))) (eq-eqb choice choice refl)
    ∙ omega arith

choosing-more : (choice place : ℕ) (choices : List ℕ) → choosing choices place ≤ choosing (choice ∷ choices) place
choosing-more choice place choices =
    elim (choice == place) as (λ t. length (filter (λ c. c == place) choices) ≤ length (cond t (choice ∷ filter (λ c. c == place) choices) (filter (λ c. c == place) choices))) [
      | true ↦ omega arith
      | false ↦ omega arith
    ]

pub room-there : (choice : ℕ) (choices : List ℕ) (all : List Gathering) (own : Gathering) → RoomsIn (choice ∷ choices) all
    → choice < length all → own ≡ get_or all choice own → vec_len own.rows < vec_capacity own.rows
room-there choice choices all own rooms within at =
    omega (arith, rooms choice own (slice_get_read all (length all) choice own refl within at), choosing-own choice choices)

pub rooms_left : (choice : ℕ) (choices : List ℕ) (all : List Gathering) (old new : Gathering) → RoomsIn (choice ∷ choices) all
    → choice < length all → old ≡ get_or all choice old
    → vec_len new.rows ≡ vec_len old.rows + 1 → vec_capacity new.rows ≡ vec_capacity old.rows
    → RoomsIn choices (slice_set all choice new)
rooms_left choice choices all old new rooms within at long wide place own there =
    elim (slice_get-slice_set_cases all choice place new own there) [
      | inl same ↦
          subst (λ (o : Gathering). vec_len o.rows + choosing choices place ≤ vec_capacity o.rows) same.1
          (subst (λ n. vec_len new.rows + choosing choices n ≤ vec_capacity new.rows) same.0
          (omega (arith, long, wide, rooms choice old (slice_get_read all (length all) choice old refl within at), choosing-own choice choices)))
      | inr still ↦ omega (arith, rooms place own still.1, choosing-more choice place choices)
    ]

strictly : (k place : ℕ) → k < place + 1 → (place ≡ k → ⊥) → k < place
strictly k place less apart = elim (cases_lt k place) [ inl under ↦ under | inr over ↦ absurd (apart (omega (arith, less, over))) ]

-- room that is made at one place
pub rooms_more : (choices : List ℕ) (all : List Gathering) (place : ℕ) (new : Gathering)
    → ((k : ℕ) (own : Gathering) → k < place → slice_get all k ≡ Some own → vec_len own.rows + choosing choices k ≤ vec_capacity own.rows)
    → vec_len new.rows + choosing choices place ≤ vec_capacity new.rows
    → (k : ℕ) (own : Gathering) → k < place + 1 → slice_get (slice_set all place new) k ≡ Some own
    → vec_len own.rows + choosing choices k ≤ vec_capacity own.rows
rooms_more choices all place new rooms room k own less at =
    elim (slice_get-slice_set_cases all place k new own at) [
      | inl same ↦
          subst (λ (o : Gathering). vec_len o.rows + choosing choices k ≤ vec_capacity o.rows) same.1
          (subst (λ n. vec_len new.rows + choosing choices n ≤ vec_capacity new.rows) same.0 room)
      | inr still ↦ rooms k own (strictly k place less still.0) still.1
    ]

pub both_over : (left more : ℕ) → more ≡ left → (left ≡ 0) ⊎ (more ≡ 0) → left ≡ 0
both_over left more same ends = elim ends [ inl none ↦ none | inr none ↦ omega (arith, same, none) ]

pub apart-emptied : (choose : List ℤ → ℕ) (all : List Gathering) (place : ℕ) (new : Gathering) → Apart choose all → new.rows.items ≡ []
    → Apart choose (slice_set all place new)
apart-emptied choose all place new apart none = apart-written choose all place new apart (ap (weigh (strays choose place)) none)

-- all that have not chosen yet come to a place
pub apart-moved : (choose : List ℤ → ℕ) (all : List Gathering) (place : ℕ) (old new : Gathering) → Apart choose all → new ≡ old
    → All (λ memory. choose memory ≡ place) old.rows.items → Apart choose (slice_set all place new)
apart-moved choose all place old new apart is chose =
    apart-written choose all place new apart
    (ap (λ (o : Gathering). weigh (strays choose place) o.rows.items) is ∙ all-strays choose place old.rows.items chose)

pub none_there : (own : Gathering) → bag_of own ≡ [] → own.rows.items ≡ []
none_there own none = nil_from_length own.rows.items (sym (weigh-ones own.rows.items) ∙ weigh-none (λ row. 1) own none)

all_mapped : (choose : List ℤ → ℕ) (choice : ℕ) (rows : Rows) → All (λ other. other ≡ choice) (map choose rows) → All (λ memory. choose memory ≡ choice) rows
all_mapped choose choice [] all k d less = absurd (omega (arith, less))
all_mapped choose choice (row ∷ rows) all zero d less = all zero choice (omega arith)
all_mapped choose choice (row ∷ rows) all (suc k) d less =
    all_mapped choose choice rows (λ j e under. all (suc j) e (omega (arith, under))) k d (omega (arith, less))

pub all_chose : (choose : List ℤ → ℕ) (choice : ℕ) (rows : Rows) (choices : List ℕ) → choices ≡ map choose rows
    → All (λ other. other ≡ choice) choices → All (λ memory. choose memory ≡ choice) rows
all_chose choose choice rows choices is all =
    all_mapped choose choice rows (subst (λ (l : List ℕ). All (λ other. other ≡ choice) l) is all)
