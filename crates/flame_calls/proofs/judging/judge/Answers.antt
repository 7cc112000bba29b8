-- Where a helper waits at the end one is left over, and the cycle is that of the calls.
use Rattle.std.proofs.Common.{◌≡◌, ℕ, [], List, Some, None, length, map, ap, sym, ◌∙◌, subst, arith, IfOk, IfErr}
use Rattle.std.proofs.lemmas.List.{length-map}
use Rattle.flame_spec.specs.declared.faults.CheckFault.{CheckFault}
use Rattle.flame_spec.specs.FirstFaults.{FailsFirst}
use Rattle.flame_spec.specs.ModelOrder.{order, first_left}
use Rattle.flame_graph.proofs.Walking.{left_is}
use Rattle.flame_graph.specs.Graph.{AreWaiting, follows}
use Rattle.flame_lookup.specs.WordsFound.{definition_found}
use Rattle.flame_calls.proofs.Outcomes.{only_deep, recursive_first}
use Rattle.flame_calls.proofs.Repeats.{IsRound, cycle_round}
use Rattle.flame_calls.proofs.judging.judge.Goals as goal

pub meet_cycle-requires-clause-waiting : goal.meet_cycle-requires-clause-waiting
meet_cycle-requires-clause-waiting c =
    let n = length c.args.lists.now in
    let before = follows c.args.lists.now in
    let P : List ℕ → Type 0 = AreWaiting n n before (order n before) in
    subst P (sym c.deref-in-Some.ensures.value) c.in_ok-ordered.ensures.waiting

pub meet_cycle-requires-clause-start : goal.meet_cycle-requires-clause-start
meet_cycle-requires-clause-start c =
    left_is (length c.args.lists.now) (follows c.args.lists.now) c.in_ok-ordered.ordered.waiting.items c.deref.result.now (Some c.in-Some.start)
    c.in_ok-ordered.ensures.left c.deref.ensures.value c.in-Some.ensures

pub recursive_fault-requires-clause-some : goal.recursive_fault-requires-clause-some
recursive_fault-requires-clause-some c =
    let n = length c.args.lists.now in
    let before = follows c.args.lists.now in
    let start = c.in-Some.start in
    let left = left_is n before c.in_ok-ordered.ordered.waiting.items c.deref.result.now (Some start) c.in_ok-ordered.ensures.left c.deref.ensures.value c.in-Some.ensures in
    (subst (IsRound n) (sym (c.deref-in-Some-2.ensures.value ∙ c.in_ok-cycle-in-Some.ensures)) (cycle_round n before start left)).some

pub recursive_fault-requires-clause-below : goal.recursive_fault-requires-clause-below
recursive_fault-requires-clause-below c = λ k d l.
    let n = length c.args.lists.now in
    let before = follows c.args.lists.now in
    let start = c.in-Some.start in
    let left = left_is n before c.in_ok-ordered.ordered.waiting.items c.deref.result.now (Some start) c.in_ok-ordered.ensures.left c.deref.ensures.value c.in-Some.ensures in
    let below = (subst (IsRound n) (sym (c.deref-in-Some-2.ensures.value ∙ c.in_ok-cycle-in-Some.ensures)) (cycle_round n before start left)).below k d l in
    omega (arith, below, c.requires.same)

pub returns-in-Some-clause-first : goal.returns-in-Some-clause-first
returns-in-Some-clause-first c =
    let before = follows c.args.lists.now in
    recursive_first (map definition_found c.args.helpers.now) before (length c.args.lists.now) c.deref-in-Some-2.result.now c.in_ok-recursive_fault-in-Some.field-0
    (c.requires.same ∙ sym (length-map c.args.helpers.now definition_found)) (c.deref-in-Some-2.ensures.value ∙ c.in_ok-cycle-in-Some.ensures) c.in_ok-recursive_fault-in-Some.ensures

pub judge_depth-requires-clause-whole : goal.judge_depth-requires-clause-whole
judge_depth-requires-clause-whole c =
    let lists = c.args.lists.now in
    left_is (length lists) (follows lists) c.in_ok-ordered.ordered.waiting.items c.deref.result.now None
    c.in_ok-ordered.ensures.left c.deref.ensures.value c.in-None.ensures

pub returns-clause-none : goal.returns-clause-none
returns-clause-none c =
    let lists = c.args.lists.now in
    let hs = map definition_found c.args.helpers.now in
    let left = left_is (length lists) (follows lists) c.in_ok-ordered.ordered.waiting.items c.deref.result.now None
    c.in_ok-ordered.ensures.left c.deref.ensures.value c.in-None.ensures in
    let whole : first_left (length hs) (follows lists) ≡ None = ap (λ k. first_left k (follows lists)) (length-map c.args.helpers.now definition_found ∙ sym c.requires.same) ∙ left in
    let P : List CheckFault → Type 0 = λ faults. IfOk c.judge_depth.result (λ done. faults ≡ []) in
    subst P (sym (only_deep hs (follows lists) whole)) c.judge_depth.ensures.none

pub returns-clause-first : goal.returns-clause-first
returns-clause-first c =
    let lists = c.args.lists.now in
    let hs = map definition_found c.args.helpers.now in
    let left = left_is (length lists) (follows lists) c.in_ok-ordered.ordered.waiting.items c.deref.result.now None
    c.in_ok-ordered.ensures.left c.deref.ensures.value c.in-None.ensures in
    let whole : first_left (length hs) (follows lists) ≡ None = ap (λ k. first_left k (follows lists)) (length-map c.args.helpers.now definition_found ∙ sym c.requires.same) ∙ left in
    let P : List CheckFault → Type 0 = λ faults. IfErr c.judge_depth.result (FailsFirst faults) in
    subst P (sym (only_deep hs (follows lists) whole)) c.judge_depth.ensures.first
