use Rattle.std.proofs.Common.{◌≡◌, ◌∙◌, List, ap, length, map, subst, sym}
use Rattle.std.specs.Prelude.{ℤ, IfOk, Ok, Result, slice_index_or}
use Rattle.std.proofs.lemmas.List.{length-map}
use Rattle.flame_rows.specs.Bags.{ascending}
use Rattle.flame_rows.specs.declared.fails.NoMemory.{NoMemory}
use Rattle.flame_merging.specs.RowLists.{rows_in}
use Rattle.flame_merging.proofs.RowWeights.{parts-sorted}
use Rattle.flame_merging.proofs.merging.sort_all.Goals as goal

pub returns : goal.returns
returns g c = λ weight.
    let parts = c.args.parts.items in
    let bags = c.in_ok-bags.bags.items in
    let same : map Ok bags ≡ c.in_ok-results.results.items = c.in_ok-bags.ensures in
    parts-sorted weight parts bags (sym (length-map bags Ok) ∙ ap length same ∙ c.in_ok-results.ensures.count)
    (λ place other part less.
    subst
    (λ (results : List (Result (List (List ℤ)) NoMemory)).
    IfOk (slice_index_or results place other) (λ bag. bag ≡ ascending (rows_in (slice_index_or parts place part).items)))
    (sym same) (c.in_ok-results.ensures.each place other part less))
