use Rattle.std.proofs.Common.{◌≡◌, ◌%◌, ◌∙◌, ap, length, map, sym, List}
use Rattle.std.specs.Prelude.{ℤ}
use Rattle.std.specs.List.{range_with_len}
use Rattle.std.proofs.lemmas.List.FromFn.{length-map-range_with_len}
use Rattle.flame_rows.specs.Parted.{parts_by}
use Rattle.flame_nodes.proofs.DealtTakers.{dealt-rounds}
use Rattle.flame_nodes.proofs.partings.by_rounds.Goals as goal

pub parted_by-requires : goal.parted_by-requires
parted_by-requires c =
    ap length (c.as_slice.ensures.value ∙ c.in_ok-turns.ensures)
    ∙ length-map-range_with_len (λ place. place % c.args.nodes) 0 (length c.rows.result.now)
    ∙ ap length c.rows.ensures.rows

pub returns : goal.returns
returns c =
    c.in_ok-bags.ensures.parts
    ∙ ap (parts_by c.args.nodes c.args.takers) (c.as_slice.ensures.value ∙ c.in_ok-turns.ensures)
    ∙ ap (λ count. parts_by c.args.nodes c.args.takers (map (λ place. place % c.args.nodes) (range_with_len 0 count))) (ap length c.rows.ensures.rows)
    ∙ dealt-rounds c.args.nodes c.args.takers
