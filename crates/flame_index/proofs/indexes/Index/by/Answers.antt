use Rattle.std.proofs.Common.{◌≡◌, map, length, sym, ap, ◌∙◌, subst}
use Rattle.std.specs.Ordering.{int_cmp}
use Rattle.std.proofs.lemmas.List.{length-map}
use Rattle.std.proofs.lemmas.Simd.{map-map}
use Rattle.flame_cond.specs.Said.{key_by}
use Rattle.flame_rows.specs.Sorted.{IsAscending, sorted_by}
use Rattle.flame_index.specs.declared.entries.Pair.{Pair}
use Rattle.flame_index.specs.Indexes.{Entry, IndexTable, entries_from, entry_order}
use Rattle.flame_index.specs.IndexBodies.{IsTableOf, entry_of, entries_of}
use Rattle.flame_index.proofs.Entered.{entries_of-pairs}
use Rattle.flame_index.proofs.Searching.{values_ascend}
use Rattle.flame_index.proofs.indexes.Index.by.Goals.{then-by, else-by}
use Rattle.flame_index.proofs.indexes.Index.by.Goals as goal

pub returns-clause-stands : goal.returns-clause-stands
returns-clause-stands c =
    let pairs = c.in_ok-pairs.pairs.items in
    let values : c.in_ok-values.values.items ≡ map (λ pair. pair.value) pairs =
    c.in_ok-values.ensures ∙ ap (map (λ pair. pair.value)) c.deref.ensures.value in
    let places : c.in_ok-places.places.items ≡ map (λ pair. pair.place) pairs =
    c.in_ok-places.ensures ∙ ap (map (λ pair. pair.place)) c.deref-2.ensures.value in
    (λ i. entries_of (values i) (places i))
    ∙ entries_of-pairs pairs
    ∙ c.in_ok-pairs.ensures
    ∙ ap (λ rows. sorted_by (entry_order c.args.by.descending) (entries_from c.args.by.variable 0 rows)) (c.rows.ensures.rows ∙ c.bag.ensures)

pub of-starts-requires : goal.of-starts-requires
of-starts-requires c =
    let pairs = c.in_ok-pairs.pairs.items in
    let values : c.in_ok-values.values.items ≡ map (λ (pair : Pair). pair.value) pairs =
    c.in_ok-values.ensures ∙ ap (map (λ (pair : Pair). pair.value)) c.deref.ensures.value in
    let index : IndexTable = record { key = key_by c.args.by; entries = map entry_of pairs } in
    let up : IsAscending int_cmp (map (λ (pair : Pair). pair.value) pairs) =
    subst (IsAscending int_cmp) (map-map (λ (entry : Entry). entry.value) entry_of pairs)
    (values_ascend index c.rows.result.now c.in_ok-pairs.ensures c.if-by.false) in
    subst (IsAscending int_cmp) (sym (c.deref-else-by.ensures.value ∙ values)) up

pub invariant_of-result : goal.invariant_of-result
invariant_of-result c =
    let pairs = c.in_ok-pairs.pairs.items in
    let values : c.in_ok-values.values.items ≡ map (λ (pair : Pair). pair.value) pairs =
    c.in_ok-values.ensures ∙ ap (map (λ (pair : Pair). pair.value)) c.deref.ensures.value in
    let places : c.in_ok-places.places.items ≡ map (λ (pair : Pair). pair.place) pairs =
    c.in_ok-places.ensures ∙ ap (map (λ (pair : Pair). pair.place)) c.deref-2.ensures.value in
    let all = c.in_ok-values.values.items in
    let starts = c.if-by.starts in
    let stand : IsTableOf starts.least starts.counts.items all =
    elim c.if-by.branch [
      | then-by w ↦
          subst (λ least. IsTableOf least starts.counts.items all) (ap (λ s. s.least) (sym w.starts-is))
          (subst (λ counts. IsTableOf w.none-starts.result.least counts all) (ap (λ s. s.counts.items) (sym w.starts-is))
          (w.none-starts.ensures all))
      | else-by w ↦
          subst (λ least. IsTableOf least starts.counts.items all) (ap (λ s. s.least) (sym w.starts-is))
          (subst (λ counts. IsTableOf w.of-starts.result.least counts all) (ap (λ s. s.counts.items) (sym w.starts-is))
          (subst (IsTableOf w.of-starts.result.least w.of-starts.result.counts.items) w.deref-else-by.ensures.value w.of-starts.ensures))
    ] in
    (ap length values ∙ length-map pairs (λ (pair : Pair). pair.value) ∙ sym (length-map pairs (λ (pair : Pair). pair.place)) ∙ sym (ap length places), stand)
