-- How the takers of a function are parted among nodes: a bag for each node.
use Rattle.std.specs.Prelude.{ℕ, ◌*◌, ◌%◌, ◌==◌, ℤ, List, [], length, map, take, drop, slice_index_or}
use Rattle.std.specs.List.{filter, range_with_len}
use Rattle.std.specs.declared.cmp.Ordering.{Ordering}
use Rattle.std.specs.Int.{div_ceil}
use Rattle.std.specs.Ordering.{then_cmp}
use Rattle.flame_rows.specs.Bags.{ascending}
use Rattle.flame_rows.specs.Order.{row_order}
use Rattle.flame_rows.specs.Sorted.{sorted_by}
use Rattle.flame_spec.specs.Views.{column_order}
use Rattle.flame_nodes.specs.declared.partings.Parting.{Parting}
use Rattle.flame_nodes.specs.declared.partings.Parting.TheVariants.{Rounds, Ranges}

-- ---- by rounds

-- the rows in these places [own]
abbrev pub rows_at : List (List ℤ) → List ℕ → List (List ℤ)
rows_at rows places = map (λ place. slice_index_or rows place []) places

-- for each node the takers in the places that leave its number when they are divided by the number of nodes [own]
abbrev pub rounds : ℕ → List (List ℤ) → List (List (List ℤ))
rounds nodes takers =
    map (λ node. rows_at takers (filter (λ place. (place % nodes) == node) (range_with_len 0 (length takers))))
    (range_with_len 0 nodes)

-- ---- by ranges of a column

-- by the numbers in the column, the least first; where these are equal by content [own]
abbrev pub range_order : ℕ → List ℤ → List ℤ → Ordering
range_order column = then_cmp (column_order column) row_order

-- the run of this number, from 0, of those of this length that follow each other; behind the last there is none [own]
abbrev pub run_at : ℕ → List (List ℤ) → ℕ → List (List ℤ)
run_at size rows number = take size (drop (number * size) rows)

-- for each node the run of its number, as long as an equal share is, rounded up, of the takers in this order [own]
abbrev pub ranges : ℕ → ℕ → List (List ℤ) → List (List (List ℤ))
ranges column nodes takers =
    let size : ℕ = div_ceil (length takers) nodes in
    let ordered : List (List ℤ) = sorted_by (range_order column) takers in
    map (λ number. ascending (run_at size ordered number)) (range_with_len 0 nodes)

-- ---- either

-- the takers of each node [own]
abbrev pub parted : Parting → ℕ → List (List ℤ) → List (List (List ℤ))
parted Rounds nodes takers = rounds nodes takers
parted (Ranges column) nodes takers = ranges column nodes takers
