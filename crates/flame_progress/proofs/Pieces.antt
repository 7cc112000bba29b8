-- Agents that are given to pieces, run by run.
use Rattle.std.proofs.Common.{◌≡◌, ℕ, zero, suc, ◌+◌, ◌-◌, ◌<◌, ◌≤◌, List, [], ◌∷◌, ◌++◌, length, map, take, drop, replicate, get_or, refl, sym, ap, ◌∙◌, subst, arith}
use Rattle.std.proofs.lemmas.List.{length-drop, length-replicate}
use Rattle.std.specs.Prelude.{ℤ, slice_set}
use Rattle.std.specs.List.{All}
use Rattle.flame_rows.specs.Order.{row_order}
use Rattle.flame_rows.specs.Sorted.{IsAscending}
use Rattle.flame_rows.specs.Bags.{ascending}
use Rattle.flame_rows.specs.Cuts.{runs}
use Rattle.flame_rows.proofs.BagLaws.{ascending-IsAscending}
use Rattle.flame_rows.proofs.Subsequences.{IsAscending-front}
use Rattle.flame_events.specs.CoreStates.{Work}
use Rattle.flame_events.specs.EventSteps.{fresh_work}
use Rattle.flame_pieces.specs.declared.works.Work as run
use Rattle.flame_pieces.specs.KeptWorks.{work_of}

abbrev pub Rows : Type 0
Rows = List (List ℤ)

-- ---- how many runs

none_to_run : (more size : ℕ) → length (runs more size (let none : Rows = [] in none)) ≡ 0
none_to_run zero size = refl
none_to_run (suc more) size = refl

long-drop : (n : ℕ) (xs ys : Rows) → length xs ≡ length ys → length (drop n xs) ≡ length (drop n ys)
long-drop zero xs ys same = same
long-drop (suc n) [] [] same = refl
long-drop (suc n) [] (y ∷ ys) same = absurd (omega (arith, same))
long-drop (suc n) (x ∷ xs) [] same = absurd (omega (arith, same))
long-drop (suc n) (x ∷ xs) (y ∷ ys) same = long-drop n xs ys (omega (arith, same))

-- as many of lists that are as long
pub same_runs : (more size : ℕ) (xs ys : Rows) → length xs ≡ length ys → length (runs more size xs) ≡ length (runs more size ys)
same_runs zero size xs ys same = refl
same_runs (suc more) size [] [] same = refl
same_runs (suc more) size [] (y ∷ ys) same = absurd (omega (arith, same))
same_runs (suc more) size (x ∷ xs) [] same = absurd (omega (arith, same))
same_runs (suc more) size (x ∷ xs) (y ∷ ys) same =
    ap suc (same_runs more size (drop size (x ∷ xs)) (drop size (y ∷ ys)) (long-drop size (x ∷ xs) (y ∷ ys) same))

pub no_runs : (more size : ℕ) (left : Rows) → length left ≡ 0 → length (runs more size left) ≡ 0
no_runs more size [] none = none_to_run more size
no_runs more size (row ∷ left) none = absurd (omega (arith, none))

abbrev some_rows : (n : ℕ) → Rows
some_rows n = replicate n []

long-some : (n : ℕ) → length (some_rows n) ≡ n
long-some n = length-replicate n []

-- one run more, where some are left
run_more : (pieces k size : ℕ) (before left : Rows) → k < pieces → 0 < length before → left ≡ drop size before
    → length (runs (pieces - k) size before) ≡ 1 + length (runs (pieces - (k + 1)) size left)
run_more pieces k size [] left more some is = absurd (omega (arith, some))
run_more pieces k size (row ∷ before) left more some is =
    let fewer : pieces - k ≡ suc (pieces - (k + 1)) = omega (arith, more) in
    ap (λ n. length (runs n size (row ∷ before))) fewer
    ∙ (let rest = ap (λ l. length (runs (pieces - (k + 1)) size l)) (sym is) in omega (arith, rest))

-- what is counted after so many pieces, where so many agents are left
abbrev pub Counted : (agents pieces size k rest : ℕ) → Type 0
Counted agents pieces size k rest =
    (rows left : Rows) → length rows ≡ agents → length left ≡ rest
    → length (runs pieces size rows) ≡ k + length (runs (pieces - k) size left)

pub counted_none : (agents pieces size : ℕ) → Counted agents pieces size 0 agents
counted_none agents pieces size rows left long longer =
    let same = same_runs pieces size rows left (long ∙ sym longer) in
    let all : pieces - 0 ≡ pieces = omega arith in
    same ∙ ap (λ n. length (runs n size left)) (sym all) ∙ (let none : length (runs (pieces - 0) size left) ≡ 0 + length (runs (pieces - 0) size left) = omega arith in none)

pub counted_more : (agents pieces size k rest : ℕ) → k < pieces → 0 < rest → Counted agents pieces size k rest
    → Counted agents pieces size (k + 1) (rest - size)
counted_more agents pieces size k rest more some so_far rows left long longer =
    let before = some_rows rest in
    let counted = so_far rows before long (long-some rest) in
    let next = run_more pieces k size before (drop size before) more (omega (arith, some, long-some rest)) refl in
    let same = same_runs (pieces - (k + 1)) size (drop size before) left (omega (arith, length-drop size before, long-some rest, longer)) in
    omega (arith, counted, next, same)

pub counted_over : (agents pieces size k rest : ℕ) → rest ≡ 0 → Counted agents pieces size k rest → (rows : Rows) → length rows ≡ agents
    → length (runs pieces size rows) ≡ k
counted_over agents pieces size k rest none so_far rows long =
    let counted = so_far rows [] long (sym none) in
    omega (arith, counted, no_runs (pieces - k) size [] refl)

pub counted_all : (agents pieces size rest : ℕ) → Counted agents pieces size pieces rest → (rows : Rows) → length rows ≡ agents
    → length (runs pieces size rows) ≡ pieces
counted_all agents pieces size rest so_far rows long =
    let counted = so_far rows (some_rows rest) long (long-some rest) in
    let none : pieces - pieces ≡ 0 = omega arith in
    omega (arith, counted, ap (λ n. length (runs n size (some_rows rest))) none)

-- ---- all pieces without agents

pub map_alike : {X : Type 0} (work : Work) (xs : List X) → map (λ x. work) xs ≡ replicate (length xs) work
map_alike work [] = refl
map_alike work (x ∷ xs) = ap (λ l. work ∷ l) (map_alike work xs)

pub one_more : (work : Work) (n : ℕ) → replicate n work ++ work ∷ [] ≡ replicate (suc n) work
one_more work zero = refl
one_more work (suc n) = ap (λ l. work ∷ l) (one_more work n)

-- ---- runs are given to pieces

-- the pieces, each with the next run
abbrev pub given : ℕ → Rows → List Work → List Work
given size rows [] = []
given size rows (work ∷ works) = record work { agents = take size rows } ∷ given size (drop size rows) works

-- the runs have still to be given, of which the first is given to the piece at this place
abbrev pub giving : ℕ → ℕ → Rows → List run.Work → List Work
giving k size rows works = take k (map work_of works) ++ given size rows (map work_of (drop k works))

pub giving_more : (works : List run.Work) (k size : ℕ) (rows : Rows) (before after : run.Work) → k < length works → before ≡ get_or works k before
    → work_of after ≡ record (work_of before) { agents = take size rows }
    → giving (suc k) size (drop size rows) (slice_set works k after) ≡ giving k size rows works
giving_more [] k size rows before after within at is = absurd (omega (arith, within))
giving_more (first ∷ works) zero size rows before after within at is =
    ap (λ w. w ∷ given size (drop size rows) (map work_of works)) (is ∙ ap (λ w. record (work_of w) { agents = take size rows }) at)
giving_more (first ∷ works) (suc k) size rows before after within at is =
    ap (λ l. work_of first ∷ l) (giving_more works k size rows before after (omega (arith, within)) at is)

pub given_all : (works : List run.Work) (k size : ℕ) (rows : Rows) → length works ≤ k → giving k size rows works ≡ map work_of works
given_all [] zero size rows over = refl
given_all [] (suc k) size rows over = refl
given_all (first ∷ works) zero size rows over = absurd (omega (arith, over))
given_all (first ∷ works) (suc k) size rows over = ap (λ l. work_of first ∷ l) (given_all works k size rows (omega (arith, over)))

-- pieces without agents are given all runs, where there are as many
pub given_runs : {X : Type 0} (outputs : List ℕ) (more size : ℕ) (rows : Rows) (xs : List X) → length (runs more size rows) ≡ length xs
    → given size rows (map (λ x. fresh_work outputs []) xs) ≡ map (fresh_work outputs) (runs more size rows)
given_runs outputs zero size rows [] long = refl
given_runs outputs zero size rows (x ∷ xs) long = absurd (omega (arith, long))
given_runs outputs (suc more) size [] [] long = refl
given_runs outputs (suc more) size [] (x ∷ xs) long = absurd (omega (arith, long))
given_runs outputs (suc more) size (row ∷ rows) [] long = absurd (omega (arith, long))
given_runs outputs (suc more) size (row ∷ rows) (x ∷ xs) long =
    ap (λ l. fresh_work outputs (take size (row ∷ rows)) ∷ l)
    (given_runs outputs more size (drop size (row ∷ rows)) xs (omega (arith, long)))

-- ---- outputs that stay

pub all_alike : {X Y : Type 0} (f : X → Y) (y : Y) (xs more : List X) → map f xs ≡ map f more → All (λ x. f x ≡ y) more
    → (k : ℕ) (d : X) → k < length xs → f (get_or xs k d) ≡ y
all_alike f y [] more same all k d less = absurd (omega (arith, less))
all_alike f y (x ∷ xs) [] same all k d less = absurd cc
all_alike f y (x ∷ xs) (z ∷ more) same all zero d less =
    let here : f x ≡ f z = cc in here ∙ all 0 z (omega arith)
all_alike f y (x ∷ xs) (z ∷ more) same all (suc k) d less =
    let rest : map f xs ≡ map f more = cc in
    all_alike f y xs more rest (λ j e there. all (suc j) e (omega (arith, there))) k d (omega (arith, less))

-- ---- a run stands in order

front_and_rest : (n : ℕ) (rows : Rows) → take n rows ++ drop n rows ≡ rows
front_and_rest zero rows = refl
front_and_rest (suc n) [] = refl
front_and_rest (suc n) (row ∷ rows) = ap (λ l. row ∷ l) (front_and_rest n rows)

pub run_in_order : (n : ℕ) (rows : Rows) → IsAscending row_order rows → ascending (take n rows) ≡ take n rows
run_in_order n rows up =
    ascending-IsAscending (take n rows)
    (IsAscending-front row_order (take n rows) (drop n rows) (subst (IsAscending row_order) (sym (front_and_rest n rows)) up))
