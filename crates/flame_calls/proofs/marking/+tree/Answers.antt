-- One statement or body more; and what the forms with several parts are seen as.
use Rattle.std.proofs.Common.{◌≡◌, [], option_map, ap, refl, sym, ◌∙◌, slice_index_or}
use Rattle.std.specs.Prelude.{◌||◌}
use Rattle.flame_spec.specs.HelperFaults.{step_calls, statement_calls, statements_call, arms_call}
use Rattle.flame_spec.specs.Seen.{assigned, statement, statements, arms}
use Rattle.flame_spec.proofs.SeenForms.{statement-If, statement-For}
use Rattle.flame_lookup.specs.Sources.{context_at}
use Rattle.flame_graph.specs.Marks.{marked_where}
use Rattle.flame_calls.proofs.Marks.{then_marked, loop_marked}
use Rattle.flame_calls.proofs.marking.+tree.Goals as goal

pub mark_statements-loop-one-preserved : goal.mark_statements-loop-one-preserved
mark_statements-loop-one-preserved t c = λ h.
    let context = context_at c.args.words.now in
    loop_marked c.args.caller (λ one. statement_calls context h (statement one)) (λ body. statements_call context h (statements body))
    c.args.body.now c.loop-one.one-index c.one-item.result
    (statements_call context h (statements c.args.body.now)) (slice_index_or c.args.lists.now h [])
    (slice_index_or c.loop-one.lists h []) (slice_index_or c.mark_statement.new.lists h [])
    (λ one body. refl) c.loop-one-test.true c.one-item.is (c.in_ok-mark_statement.ensures h) (c.loop-one.invariant h)

pub mark_arms-loop-arm-preserved : goal.mark_arms-loop-arm-preserved
mark_arms-loop-arm-preserved t c = λ h.
    let context = context_at c.args.words.now in
    let old = slice_index_or c.loop-arm.lists h [] in
    let new = slice_index_or c.mark_statements.new.lists h [] in
    let test = statements_call context h (statements c.arm-item.result.body) in
    let marks : new ≡ marked_where c.args.caller test old =
    c.in_ok-mark_statements.ensures h ∙ ap (λ b. marked_where c.args.caller (statements_call context h (statements b)) old) c.items.ensures in
    loop_marked c.args.caller (λ arm. statements_call context h (statements arm.body)) (λ bodies. arms_call context h (arms bodies))
    c.args.bodies.now c.loop-arm.arm-index c.arm-item.result
    (arms_call context h (arms c.args.bodies.now)) (slice_index_or c.args.lists.now h [])
    old new
    (λ arm bodies. refl) c.loop-arm-test.true c.arm-item.is
    marks (c.loop-arm.invariant h)

pub mark_statement-returns-in_ok-mark_statements-in-If :
    goal.mark_statement-returns-in_ok-mark_statements-in-If
mark_statement-returns-in_ok-mark_statements-in-If t c = λ h.
    let context = context_at c.args.words.now in
    let tests = c.items-in-If.result.now in
    let otherwise = c.items-in-If-2.result.now in
    let old = slice_index_or c.args.lists.now h [] in
    let new = slice_index_or c.mark_statements-in-If.new.lists h [] in
    let both : new ≡ marked_where c.args.caller (arms_call context h (arms tests) || statements_call context h (statements otherwise)) old =
    then_marked c.args.caller (arms_call context h (arms tests)) (statements_call context h (statements otherwise))
    old (slice_index_or c.mark_arms.new.lists h []) new (c.in_ok-mark_arms-in-If.ensures h) (c.in_ok-mark_statements-in-If.ensures h) in
    let seen : statement_calls context h (statement c.args.one.now) ≡ (arms_call context h (arms tests) || statements_call context h (statements otherwise)) =
    ap (λ s. statement_calls context h (statement s)) c.in-If.is
    ∙ ap (statement_calls context h) (statement-If c.in-If.arms c.in-If.otherwise)
    ∙ ap (λ ts. arms_call context h (arms ts) || statements_call context h (statements c.in-If.otherwise)) (sym c.items-in-If.ensures)
    ∙ ap (λ ss. arms_call context h (arms tests) || statements_call context h (statements ss)) (sym c.items-in-If-2.ensures) in
    both ∙ ap (λ b. marked_where c.args.caller b old) (sym seen)

pub mark_statement-returns-in_ok-mark_statements-in-For-2 :
    goal.mark_statement-returns-in_ok-mark_statements-in-For-2
mark_statement-returns-in_ok-mark_statements-in-For-2 t c = λ h.
    let context = context_at c.args.words.now in
    let first = c.items-in-For.result.now in
    let body = c.items-in-For-2.result.now in
    let step = c.get-head.result.now.step in
    let a = statements_call context h (statements first) in
    let b = step_calls context h (option_map assigned step) in
    let d = statements_call context h (statements body) in
    let old = slice_index_or c.args.lists.now h [] in
    let mid = slice_index_or c.mark_statements-in-For.new.lists h [] in
    let late = slice_index_or c.mark_step.new.lists h [] in
    let new = slice_index_or c.mark_statements-in-For-2.new.lists h [] in
    let begun : late ≡ marked_where c.args.caller (a || b) old =
    then_marked c.args.caller a b old mid late (c.in_ok-mark_statements-in-For.ensures h) (c.in_ok-mark_step-in-For.ensures h) in
    let all : new ≡ marked_where c.args.caller ((a || b) || d) old =
    then_marked c.args.caller (a || b) d old late new begun (c.in_ok-mark_statements-in-For-2.ensures h) in
    let seen : statement_calls context h (statement c.args.one.now) ≡ ((a || b) || d) =
    ap (λ s. statement_calls context h (statement s)) c.in-For.is
    ∙ ap (statement_calls context h) (statement-For c.in-For.field-0 c.in-For.head c.in-For.body)
    ∙ ap (λ head. (statements_call context h (statements head.first) || step_calls context h (option_map assigned head.step)) || statements_call context h (statements c.in-For.body)) (sym c.get-head.ensures)
    ∙ ap (λ ss. (statements_call context h (statements ss) || b) || statements_call context h (statements c.in-For.body)) (sym c.items-in-For.ensures)
    ∙ ap (λ ss. (a || b) || statements_call context h (statements ss)) (sym c.items-in-For-2.ensures) in
    all ∙ ap (λ t. marked_where c.args.caller t old) (sym seen)
