use Rattle.std.proofs.Common.{◌≡◌, ◌+◌, ◌++◌, ◌∙◌, List, [], ◌∷◌, drop, ap, sym, subst, refl}
use Rattle.std.specs.Prelude.{IfErr, OnOk}
use Rattle.std.proofs.lemmas.Result.{err_from_is_err_and}
use Rattle.flame_spec.proofs.SeenForms.{statement-If, statement-For}
use Rattle.flame_spec.specs.FirstFaults.{FailsFirst}
use Rattle.flame_spec.specs.declared.faults.CheckFault.{CheckFault}
use Rattle.flame_spec.specs.ExpressionFaults.{expression_faults}
use Rattle.flame_spec.specs.Scopes.{Sight, after, after_all, in_loop, in_scope, over_none}
use Rattle.flame_spec.specs.Seen.{arms, statement, statements, tested}
use Rattle.flame_spec.specs.StatementFaults.{arms_faults, statement_faults, statements_faults}
use Rattle.flame_spec.proofs.FaultLists.{FailsFirst-front}
use Rattle.flame_lookup.specs.Sources.{context_at}
use Rattle.flame_body.specs.declared.slots.SlotArm.{SlotArm}
use Rattle.flame_body.specs.NumberedTrees.{numbered, numbered_arms, numbered_statement, numbered_statements}
use Rattle.flame_numbering.specs.Heads.{head_faults, head_seen}
use Rattle.flame_numbering.specs.SightTables.{loop_of}
use Rattle.flame_numbering.specs.WordPlaces.{words_at}
use Rattle.flame_numbering.proofs.Firsts.{clean-next}
use Rattle.flame_numbering.proofs.Rests.{rest-next, rest-pushed}
use Rattle.flame_numbering.proofs.Scoping.{scope-round, scope-left, loop-round, loop-left}
use Rattle.flame_numbering.proofs.statement.+walk_statement.Goals as goal

pub block-returns-clause-kept : goal.block-returns-clause-kept
block-returns-clause-kept t c =
    let s = c.args.spot.now in
    let body = statements c.args.body.now in
    let is = c.in_ok-body.ensures.after ∙ ap (λ x. after_all x body) c.in_ok-enter.ensures in
    scope-left s body _ _ is (c.leave.ensures s.scope s.outer (scope-round s body _ is))

pub turn-returns-clause-kept : goal.turn-returns-clause-kept
turn-returns-clause-kept t c =
    let s = c.args.spot.now in
    let over = loop_of c.args.over in
    let body = statements c.args.body.now in
    let is = c.in_ok-body.ensures.after ∙ ap (λ x. after_all x body) c.in_ok-enter_loop.ensures in
    let round = loop-round s over body _ is in
    loop-left s over body _ _ is (c.leave_loop.ensures s.scope s.outer over s.loops round.0 round.1)

pub statement-returns-in_err-tests-in-If-clause-first : goal.statement-returns-in_err-tests-in-If-clause-first
statement-returns-in_err-tests-in-If-clause-first t c =
    let p = err_from_is_err_and c.from_residual.result c.from_residual.ensures.1 in
    let context = context_at c.args.words.now in
    let sight = c.args.spot.now in
    let rest = statements_faults context (in_scope sight) (statements c.in-If.otherwise) in
    rw (p.1, p.2)
    (FailsFirst-front
    _
    (statement_faults context sight (statement c.args.s.now))
    (arms_faults context sight (arms c.items-in-If.result.now))
    rest
    (ap (λ s. statement_faults context sight (statement s)) c.in-If.is
    ∙ ap (statement_faults context sight) (statement-If c.in-If.tests c.in-If.otherwise)
    ∙ ap (λ l. arms_faults context sight (arms l) ++ rest) (sym c.items-in-If.ensures))
    c.in_err-tests-in-If.ensures.first)

pub statement-returns-in_ok-tests-in-If-clause-first : goal.statement-returns-in_ok-tests-in-If-clause-first
statement-returns-in_ok-tests-in-If-clause-first t c =
    let context = context_at c.args.words.now in
    let sight = c.args.spot.now in
    let tests = arms_faults context sight (arms c.items-in-If.result.now) in
    let body = c.items-in-If-2.result.now in
    let last = c.arms.new.spot in
    let rest = statements_faults context (in_scope sight) (statements c.in-If.otherwise) in
    let is : statement_faults context sight (statement c.args.s.now)
    ≡ statements_faults context (in_scope last) (statements body) =
    ap (λ s. statement_faults context sight (statement s)) c.in-If.is
    ∙ ap (statement_faults context sight) (statement-If c.in-If.tests c.in-If.otherwise)
    ∙ ap (λ l. arms_faults context sight (arms l) ++ rest) (sym c.items-in-If.ensures)
    ∙ ap (λ l. tests ++ statements_faults context (in_scope sight) (statements l)) (sym c.items-in-If-2.ensures)
    ∙ ap (λ x. tests ++ statements_faults context (in_scope x) (statements body))
    (sym c.in_ok-tests-in-If.ensures.kept)
    ∙ ap (λ l. l ++ statements_faults context (in_scope last) (statements body)) c.in_ok-tests-in-If.ensures.clean in
    subst (λ l. IfErr c.conditional.result (FailsFirst l)) (sym is) c.conditional.ensures.first

pub statement-returns-in_err-head-in-For-clause-first : goal.statement-returns-in_err-head-in-For-clause-first
statement-returns-in_err-head-in-For-clause-first t c =
    let fail = c.from_residual-in_err-head-in-For in
    let p = err_from_is_err_and fail.result fail.ensures.1 in
    let context = context_at c.args.words.now in
    let sight = c.args.spot.now in
    let first = statements c.in-For.head.first in
    let last = in_loop over_none (after_all (in_scope sight) first) in
    let rest = statements_faults context last (statements c.in-For.body) in
    rw (p.1, p.2)
    (FailsFirst-front
    _
    (statement_faults context sight (statement c.args.s.now))
    (head_faults context (in_scope sight) (head_seen c.get.result.now))
    rest
    (ap (λ s. statement_faults context sight (statement s)) c.in-For.is
    ∙ ap (statement_faults context sight) (statement-For c.in-For.line c.in-For.head c.in-For.body)
    ∙ ap (λ h. head_faults context (in_scope sight) (head_seen h) ++ rest) (sym c.get.ensures))
    c.in_err-head-in-For.ensures.first)

pub statement-returns-in_ok-head-in-For-clause-after : goal.statement-returns-in_ok-head-in-For-clause-after
statement-returns-in_ok-head-in-For-clause-after t c =
    let s = c.args.spot.now in
    let inside = c.for_head.new.spot in
    let first = statements c.get.result.now.first in
    let is = c.in_ok-head-in-For.ensures.after in
    subst (λ x. OnOk c.for_loop.result (c.for_loop.new.spot ≡ x))
    (scope-left s first inside (record inside { scope = s.scope; outer = s.outer }) is refl
    ∙ sym
    (ap (λ x. after s (statement x)) c.in-For.is
    ∙ ap (after s) (statement-For c.in-For.line c.in-For.head c.in-For.body)))
    (c.for_loop.ensures.left s.scope s.outer (scope-round s first inside is))

pub statements-loop-s-preserved : goal.statements-loop-s-preserved
statements-loop-s-preserved t c =
    let context = context_at c.args.words.now in
    let words = words_at c.args.words.now in
    let start = c.args.spot.now in
    let sight = c.loop-s.spot in
    let i = c.loop-s.s-index in
    let all = c.args.body.now in
    let one = c.s-item.result in
    let left = statements (drop i all) in
    let behind = statements (drop (i + 1) all) in
    let seen = sym c.in_ok-slot.ensures.after in
    record {
      clean = clean-next (statements_faults context start (statements all)) (statements_faults context sight left)
          (statement_faults context sight (statement one)) (statements_faults context (after sight (statement one)) behind)
          c.loop-s.invariant.clean
          (rest-next (λ l. statements_faults context sight (statements l)) all i one c.loop-s-test.true c.s-item.is)
          c.in_ok-slot.ensures.clean
          ∙ ap (λ x. statements_faults context x behind) seen;
      stands = rest-pushed (numbered_statements words start (statements all)) c.loop-s.slots.items _
          (numbered_statements words sight left) (numbered_statement words sight (statement one)) c.in_ok-slot.slot
          (numbered_statements words c.statement.new.spot behind)
          c.loop-s.invariant.stands
          (rest-next (λ l. numbered_statements words sight (statements l)) all i one c.loop-s-test.true c.s-item.is
          ∙ ap (λ x. numbered_statement words sight (statement one) ∷ numbered_statements words x behind) seen)
          c.in_ok-slot.ensures.stands
          c.in_ok-push.ensures.items;
      seen = c.loop-s.invariant.seen
          ∙ rest-next (λ l. after_all sight (statements l)) all i one c.loop-s-test.true c.s-item.is
          ∙ ap (λ x. after_all x behind) seen;
    }

pub arms-loop-a-preserved : goal.arms-loop-a-preserved
arms-loop-a-preserved t c =
    let context = context_at c.args.words.now in
    let words = words_at c.args.words.now in
    let sight = c.args.spot.now in
    let i = c.loop-a.a-index in
    let all = c.args.tests.now in
    let one = tested c.a-item.result in
    let same = c.loop-a.invariant.seen in
    let faults : Sight → List CheckFault =
    λ x. expression_faults context x one.test ++ statements_faults context (in_scope x) one.body in
    let slot : Sight → SlotArm = λ x. record {
      test = numbered words x one.test;
      body = numbered_statements words (in_scope x) one.body;
    } in
    record {
      clean = clean-next (arms_faults context sight (arms all)) (arms_faults context sight (arms (drop i all)))
          (faults sight) (arms_faults context sight (arms (drop (i + 1) all)))
          c.loop-a.invariant.clean
          (rest-next (λ l. arms_faults context sight (arms l)) all i c.a-item.result c.loop-a-test.true c.a-item.is)
          (subst (λ x. faults x ≡ []) same c.in_ok-slot.ensures.clean);
      stands = rest-pushed (numbered_arms words sight (arms all)) c.loop-a.slots.items _
          (numbered_arms words sight (arms (drop i all))) (slot sight) c.in_ok-slot.slot
          (numbered_arms words sight (arms (drop (i + 1) all)))
          c.loop-a.invariant.stands
          (rest-next (λ l. numbered_arms words sight (arms l)) all i c.a-item.result c.loop-a-test.true c.a-item.is)
          (subst (λ x. c.in_ok-slot.slot ≡ slot x) same c.in_ok-slot.ensures.stands)
          c.in_ok-push.ensures.items;
      seen = c.in_ok-slot.ensures.kept ∙ same;
    }
