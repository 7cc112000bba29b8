-- Each taker goes to one node.
use Rattle.std.specs.Prelude.{◌≡◌, ◌≤◌, ℕ, ℤ, List, length}
use Rattle.flame_rows.specs.Bags.{ascending, merge_all}
use Rattle.flame_nodes.specs.declared.partings.Parting.{Parting}
use Rattle.flame_nodes.specs.Partings.{parted}

-- there is a bag for each node [own]
abbrev pub HasABagForEach : Type 0
HasABagForEach =
    (parting : Parting) (nodes : ℕ) (takers : List (List ℤ)) → length (parted parting nodes takers) ≡ nodes

-- the bags of all nodes together have each taker as often as it was there [own]
abbrev pub EachGoesToOneNode : Type 0
EachGoesToOneNode =
    (parting : Parting) (nodes : ℕ) (takers : List (List ℤ))
    → 1 ≤ nodes
    → merge_all (parted parting nodes takers) ≡ ascending takers
