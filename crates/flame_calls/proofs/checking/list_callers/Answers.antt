-- One helper more has marked its calls.
use Rattle.std.proofs.Common.{◌≡◌, ℕ, [], List, Some, length, map, ap, sym, ◌∙◌, arith, slice_index_or}
use Rattle.std.specs.Prelude.{slice_get}
use Rattle.std.proofs.lemmas.List.{length-map, length-replicate}
use Rattle.flame_rows.proofs.Lists.{take-written}
use Rattle.flame_spec.specs.Below.{all_below}
use Rattle.flame_spec.specs.Definitions.{Definition, helpers}
use Rattle.flame_spec.specs.HelperFaults.{statements_call, is_called_by}
use Rattle.flame_spec.specs.Seen.{statements}
use Rattle.flame_lookup.specs.Sources.{context_at}
use Rattle.flame_lookup.specs.WordsFound.{definition_found}
use Rattle.flame_lookup.specs.declared.found.CFunction.{CFunction}
use Rattle.flame_graph.specs.Marks.{marked_where}
use Rattle.flame_calls.proofs.Listing.{listed_more}
use Rattle.flame_calls.proofs.Marks.{no_lists}
use Rattle.flame_calls.proofs.Writing.{found_at}
use Rattle.flame_calls.proofs.checking.list_callers.Goals as goal

-- as many helpers as the definition has
counted : (all : List CFunction) (hs : List Definition) → map definition_found all ≡ hs → length all ≡ length hs
counted all hs e = sym (length-map all definition_found) ∙ ap (length {A = Definition}) e

pub loop-i-init : goal.loop-i-init
loop-i-init c =
    let n = length c.args.all.now in
    record {
      len = ap (length {A = List ℕ}) c.in_ok-lists.ensures ∙ length-replicate {A = List ℕ} n [] ∙ counted c.args.all.now (helpers c.args.tables.now.model c.args.tables.now.units) c.requires.all;
      at = λ f. ap (λ xs. slice_index_or xs f []) c.in_ok-lists.ensures ∙ no_lists n f;
    }

pub mark_statements-requires : goal.mark_statements-requires
mark_statements-requires c =
    ap (length {A = List ℕ}) c.deref_mut.ensures.value
    ∙ c.loop-i.invariant.len
    ∙ ap (λ words. length (helpers words.sources.model words.sources.units)) (sym c.for_helper-words.ensures)

pub loop-i-preserved : goal.loop-i-preserved
loop-i-preserved c =
    let sources = c.args.tables.now in
    let i = c.loop-i.i in
    let helper = c.index-all-i.result in
    let words = c.for_helper-words.result in
    let body = c.items.result.now in
    let items = c.deref_mut.ensures.value in
    let same : length c.mark_statements.new.lists ≡ length c.loop-i.lists.items = c.mark_statements.auto.lists ∙ ap (length {A = List ℕ}) items in
    let lent = take-written c.mark_statements.new.lists c.loop-i.lists.items c.loop-i.lists.len same (omega arith) in
    let there : slice_get (helpers sources.model sources.units) i ≡ Some (definition_found helper) =
    ap (λ ds. slice_get ds i) (sym c.requires.all) ∙ found_at c.args.all.now i helper c.loop-i-test.true c.index-all-i.is in
    record {
      len = ap (length {A = List ℕ}) lent ∙ same ∙ c.loop-i.invariant.len;
      at = λ f.
          let old = slice_index_or c.loop-i.lists.items f [] in
          let new = slice_index_or c.mark_statements.new.lists f [] in
          let test = statements_call (context_at words) f (statements body) in
          let marks : new ≡ marked_where i test old = c.in_ok-mark_statements.ensures f ∙ ap (λ xs. marked_where i test (slice_index_or xs f [])) items in
          ap (λ xs. slice_index_or xs f []) lent
          ∙ listed_more sources i helper words body f old new there c.for_helper-words.ensures c.items.ensures (c.loop-i.invariant.at f) marks;
    }

pub returns : goal.returns
returns c =
    let sources = c.args.tables.now in
    let hs = helpers sources.model sources.units in
    let end : c.loop-i.i ≡ length hs = omega (arith, c.loop-i-test.false, c.loop-i.auto.i-end, counted c.args.all.now hs c.requires.all) in
    record {
      len = c.loop-i.invariant.len;
      at = λ f. c.loop-i.invariant.at f ∙ ap (all_below (is_called_by sources.model hs f)) end;
    }
