-- The first height above 64 is that of the definition.
use Rattle.std.proofs.Common.{ℕ, Some, None, length, map, ap, sym, ◌∙◌, arith}
use Rattle.std.proofs.lemmas.List.{length-map}
use Rattle.std.proofs.lemmas.List.FromFn.{length-map-range_with_len}
use Rattle.flame_spec.specs.Layers.{layer, layers}
use Rattle.flame_spec.specs.Lists.{first}
use Rattle.flame_graph.specs.Graph.{follows}
use Rattle.flame_lookup.specs.WordsFound.{definition_found}
use Rattle.flame_calls.proofs.Outcomes.{deep_within, deep_is}
use Rattle.flame_calls.proofs.judging.judge_depth.Goals as goal

pub find_deep-requires : goal.find_deep-requires
find_deep-requires c =
    let n = length c.args.lists.now in
    let before = follows c.args.lists.now in
    omega (arith, ap (length {A = ℕ}) c.deref.ensures.value, ap (length {A = ℕ}) c.in_ok-heights.ensures, length-map-range_with_len (layer n before) 0 n, c.requires.few)

pub deep_fault-requires : goal.deep_fault-requires
deep_fault-requires c =
    let n = length c.args.lists.now in
    let before = follows c.args.lists.now in
    let below = deep_within c.deref.result.now c.in-Some.number c.in-Some.ensures in
    omega (arith, below, ap (length {A = ℕ}) c.deref.ensures.value, ap (length {A = ℕ}) c.in_ok-heights.ensures, length-map-range_with_len (layer n before) 0 n, c.requires.same)

pub returns-in-Some-clause-first : goal.returns-in-Some-clause-first
returns-in-Some-clause-first c =
    let hs = map definition_found c.args.helpers.now in
    let before = follows c.args.lists.now in
    let heights = c.in_ok-heights.ensures ∙ ap (λ k. layers k before) (c.requires.same ∙ sym (length-map c.args.helpers.now definition_found)) in
    ap first (sym (deep_is hs before c.in_ok-heights.heights.items c.deref.result.now (Some c.in-Some.number) heights c.deref.ensures.value c.in-Some.ensures)
    ∙ c.in_ok-deep_fault-in-Some.ensures)

pub returns-clause-none : goal.returns-clause-none
returns-clause-none c =
    let hs = map definition_found c.args.helpers.now in
    let before = follows c.args.lists.now in
    let heights = c.in_ok-heights.ensures ∙ ap (λ k. layers k before) (c.requires.same ∙ sym (length-map c.args.helpers.now definition_found)) in
    sym (deep_is hs before c.in_ok-heights.heights.items c.deref.result.now None heights c.deref.ensures.value c.in-None.ensures)
