-- Each way that a reader returns, by the parts that it read.
use Rattle.std.proofs.Common.{drop, sym, refl, ap, ◌∙◌, arith, rules}
use Rattle.std.proofs.lemmas.Int.{to_z-of_z}
use mir.Syntax.{w32}
use mir.Val.{SFits}
use Rattle.flame_spec.specs.Seen.{expression}
use Rattle.flame_spec.proofs.SeenForms.{expression-Number, expression-Get}
use Rattle.flame_expr.specs.declared.lexemes.Lexeme.TheVariants.{AndAnd, OrOr}
use Rattle.flame_expr.specs.OperatorLevels.{op_of}
use Rattle.flame_expr.specs.ExpressionGrammar.{a_unary, a_chain, a_conjunction, a_disjunction, Conjuncts, Disjuncts, no_conjunct, no_disjunct, no_index, in_brackets, bracketed, Closed}
use Rattle.flame_expr.proofs.Ends.{stops_by}
use Rattle.flame_expr.proofs.Readings.{at_next, number_read, name_read, field_read, get_read, index_read, closed_read, links_step, links_read, links_ended, op_part_stopped, level_ended, level_stopped, level_first_stopped, parts_step, parts_read, parts_ended, and_joint, or_joint, joint_stopped, conjunct_on, disjunct_on, unlike}
use Rattle.flame_expr.proofs.Primaries.{name_ended, name_stopped, field_ended, field_word_stopped, field_index_stopped, get_ended, get_stopped, no_index_ended, index_ended, index_stopped, index_end_stopped, number_ended, none_stopped, brackets_ended, brackets_stopped, unary_ended, unary_stopped, closed_stopped, close_stopped, closed_ended}
use Rattle.flame_expr.proofs.reader.+expr.Goals as goal

pub chain-returns-in_err-first-clause-stopped : goal.chain-returns-in_err-first-clause-stopped
chain-returns-in_err-first-clause-stopped t c =
    stops_by _ _ c.from_residual.ensures.1 (λ n h. level_first_stopped c.args.level c.args.tokens.now c.args.at n (omega (arith, c.requires.level)) h)
    c.in_err-first.ensures.stopped

pub chain-returns-in_err-links-clause-stopped : goal.chain-returns-in_err-links-clause-stopped
chain-returns-in_err-links-clause-stopped t c =
    stops_by _ _ c.from_residual-in_err-links.ensures.1
    (λ n h. level_stopped c.args.level c.args.tokens.now c.args.at c.in_ok-first.mid n (omega (arith, c.requires.level)) c.in_ok-first.ensures.ended h)
    c.in_err-links.ensures.stopped

pub chain-returns-clause-tree : goal.chain-returns-clause-tree
chain-returns-clause-tree t c = rw c.in_ok-chained.ensures (a_chain c.requires.level c.in_ok-first.ensures.tree c.in_ok-links.ensures.tree)

pub chain-returns-clause-ended : goal.chain-returns-clause-ended
chain-returns-clause-ended t c =
    level_ended c.args.level c.args.tokens.now c.args.at c.in_ok-first.mid c.in_ok-links.end (omega (arith, c.requires.level))
    c.in_ok-first.ensures.ended c.in_ok-links.ensures.ended

pub conjunction-returns-in_err-first-clause-stopped : goal.conjunction-returns-in_err-first-clause-stopped
conjunction-returns-in_err-first-clause-stopped t c = stops_by _ _ c.from_residual.ensures.1 (λ n h. level_first_stopped 4 c.args.tokens.now c.args.at n (omega arith) h) c.in_err-first.ensures.stopped

pub conjunction-returns-in_err-others-clause-stopped : goal.conjunction-returns-in_err-others-clause-stopped
conjunction-returns-in_err-others-clause-stopped t c =
    stops_by _ _ c.from_residual-in_err-others.ensures.1
    (λ n h. level_stopped 4 c.args.tokens.now c.args.at c.in_ok-first.mid n (omega arith) c.in_ok-first.ensures.ended h)
    c.in_err-others.ensures.stopped

pub conjunction-returns-clause-tree : goal.conjunction-returns-clause-tree
conjunction-returns-clause-tree t c = rw c.in_ok-all_of.ensures (a_conjunction refl c.in_ok-first.ensures.tree c.in_ok-others.ensures.tree)

pub conjunction-returns-clause-ended : goal.conjunction-returns-clause-ended
conjunction-returns-clause-ended t c = level_ended 4 c.args.tokens.now c.args.at c.in_ok-first.mid c.in_ok-others.end (omega arith) c.in_ok-first.ensures.ended c.in_ok-others.ensures.ended

pub disjunction-returns-in_err-first-clause-stopped : goal.disjunction-returns-in_err-first-clause-stopped
disjunction-returns-in_err-first-clause-stopped t c = stops_by _ _ c.from_residual.ensures.1 (λ n h. level_first_stopped 5 c.args.tokens.now c.args.at n (omega arith) h) c.in_err-first.ensures.stopped

pub disjunction-returns-in_err-others-clause-stopped : goal.disjunction-returns-in_err-others-clause-stopped
disjunction-returns-in_err-others-clause-stopped t c =
    stops_by _ _ c.from_residual-in_err-others.ensures.1
    (λ n h. level_stopped 5 c.args.tokens.now c.args.at c.in_ok-first.mid n (omega arith) c.in_ok-first.ensures.ended h)
    c.in_err-others.ensures.stopped

pub disjunction-returns-clause-tree : goal.disjunction-returns-clause-tree
disjunction-returns-clause-tree t c = rw c.in_ok-any_of.ensures (a_disjunction refl c.in_ok-first.ensures.tree c.in_ok-others.ensures.tree)

pub disjunction-returns-clause-ended : goal.disjunction-returns-clause-ended
disjunction-returns-clause-ended t c = level_ended 5 c.args.tokens.now c.args.at c.in_ok-first.mid c.in_ok-others.end (omega arith) c.in_ok-first.ensures.ended c.in_ok-others.ensures.ended

pub closed-returns-in_err-tree-clause-stopped : goal.closed-returns-in_err-tree-clause-stopped
closed-returns-in_err-tree-clause-stopped t c = stops_by _ _ c.from_residual.ensures.1 (λ n h. closed_stopped c.args.tokens.now c.args.at n h) c.in_err-tree.ensures.stopped

pub closed-returns-in_err-end-clause-stopped : goal.closed-returns-in_err-end-clause-stopped
closed-returns-in_err-end-clause-stopped t c =
    stops_by _ _ c.from_residual-in_err-end.ensures.1
    (λ n h. close_stopped c.args.tokens.now c.args.at c.in_ok-tree.close n c.in_ok-tree.ensures.ended h) c.in_err-end.ensures.stopped

pub closed-returns-clause-tree : goal.closed-returns-clause-tree
closed-returns-clause-tree t c =
    closed_read c.args.tokens.now c.args.at c.in_ok-tree.close c.in_ok-end.end (expression c.in_ok-tree.tree) c.in_ok-tree.ensures.tree
    c.in_ok-end.ensures.found c.in_ok-end.ensures.next

pub closed-returns-clause-ended : goal.closed-returns-clause-ended
closed-returns-clause-ended t c = closed_ended c.args.tokens.now c.args.at c.in_ok-tree.close c.in_ok-end.end c.in_ok-tree.ensures.ended c.in_ok-end.ensures.ended

pub conjuncts-returns-in_err-part-clause-stopped : goal.conjuncts-returns-in_err-part-clause-stopped
conjuncts-returns-in_err-part-clause-stopped t c =
    stops_by _ _ c.from_residual.ensures.1
    (λ n h. c.parts.invariant.stopped n (joint_stopped 4 AndAnd c.args.tokens.now c.parts.place n and_joint (omega arith) (sym c.in-AndAnd.ensures) h))
    c.in_err-part.ensures.stopped

pub conjuncts-parts-preserved : goal.conjuncts-parts-preserved
conjuncts-parts-preserved t c =
    rw c.in_ok-push.ensures.items
    (parts_step 4 AndAnd Conjuncts c.args.tokens.now c.args.at c.parts.place c.in_ok-part.end c.parts.found.items c.in_ok-part.part and_joint
    (omega arith) c.parts.invariant (sym c.in-AndAnd.ensures)
    (conjunct_on c.args.tokens.now c.parts.place c.in_ok-part.end (expression c.in_ok-part.part) (sym c.in-AndAnd.ensures) c.in_ok-part.ensures.tree)
    (omega (arith, c.in_ok-part.ensures.ahead)) c.in_ok-part.ensures.ended)

pub conjuncts-returns-in_default-clause-tree : goal.conjuncts-returns-in_default-clause-tree
conjuncts-returns-in_default-clause-tree t c = parts_read 4 Conjuncts c.args.tokens.now c.args.at c.parts.place c.parts.found.items c.parts.invariant no_conjunct

pub conjuncts-returns-in_default-clause-ended : goal.conjuncts-returns-in_default-clause-ended
conjuncts-returns-in_default-clause-ended t c =
    parts_ended 4 AndAnd Conjuncts c.args.tokens.now c.args.at c.parts.place c.parts.found.items refl (omega arith) c.parts.invariant
    (unlike c.lexeme_at.ensures c.in_default.not-AndAnd)

pub disjuncts-returns-in_err-part-clause-stopped : goal.disjuncts-returns-in_err-part-clause-stopped
disjuncts-returns-in_err-part-clause-stopped t c =
    stops_by _ _ c.from_residual.ensures.1
    (λ n h. c.parts.invariant.stopped n (joint_stopped 5 OrOr c.args.tokens.now c.parts.place n or_joint (omega arith) (sym c.in-OrOr.ensures) h))
    c.in_err-part.ensures.stopped

pub disjuncts-parts-preserved : goal.disjuncts-parts-preserved
disjuncts-parts-preserved t c =
    rw c.in_ok-push.ensures.items
    (parts_step 5 OrOr Disjuncts c.args.tokens.now c.args.at c.parts.place c.in_ok-part.end c.parts.found.items c.in_ok-part.part or_joint
    (omega arith) c.parts.invariant (sym c.in-OrOr.ensures)
    (disjunct_on c.args.tokens.now c.parts.place c.in_ok-part.end (expression c.in_ok-part.part) (sym c.in-OrOr.ensures) c.in_ok-part.ensures.tree)
    (omega (arith, c.in_ok-part.ensures.ahead)) c.in_ok-part.ensures.ended)

pub disjuncts-returns-in_default-clause-tree : goal.disjuncts-returns-in_default-clause-tree
disjuncts-returns-in_default-clause-tree t c = parts_read 5 Disjuncts c.args.tokens.now c.args.at c.parts.place c.parts.found.items c.parts.invariant no_disjunct

pub disjuncts-returns-in_default-clause-ended : goal.disjuncts-returns-in_default-clause-ended
disjuncts-returns-in_default-clause-ended t c =
    parts_ended 5 OrOr Disjuncts c.args.tokens.now c.args.at c.parts.place c.parts.found.items refl (omega arith) c.parts.invariant
    (unlike c.lexeme_at.ensures c.in_default.not-OrOr)

pub tail-returns-in_err-right-clause-stopped : goal.tail-returns-in_err-right-clause-stopped
tail-returns-in_err-right-clause-stopped t c =
    let s = ap (op_of c.args.level) (sym c.lexeme_at.ensures) ∙ sym c.in-Some.ensures in
    stops_by _ _ c.from_residual.ensures.1
    (λ n h. c.loop-op.invariant.stopped n
    (op_part_stopped c.args.level c.args.tokens.now c.loop-op.place n c.in-Some.op (omega (arith, c.requires.level)) s h))
    c.in_err-right.ensures.stopped

pub tail-loop-op-preserved : goal.tail-loop-op-preserved
tail-loop-op-preserved t c =
    let s = ap (op_of c.args.level) (sym c.lexeme_at.ensures) ∙ sym c.in-Some.ensures in
    rw c.in_ok-push.ensures.items
    (links_step c.args.level c.args.tokens.now c.args.at c.loop-op.place c.in_ok-right.end c.loop-op.found.items _ (omega (arith, c.requires.level))
    c.loop-op.invariant s c.line_at.ensures (omega (arith, c.in_ok-right.ensures.ahead)) c.in_ok-right.ensures.tree c.in_ok-right.ensures.ended)

pub tail-returns-in_default-clause-tree : goal.tail-returns-in_default-clause-tree
tail-returns-in_default-clause-tree t c = links_read c.args.level c.args.tokens.now c.args.at c.loop-op.place c.loop-op.found.items c.loop-op.invariant

pub tail-returns-in_default-clause-ended : goal.tail-returns-in_default-clause-ended
tail-returns-in_default-clause-ended t c =
    links_ended c.args.level c.args.tokens.now c.args.at c.loop-op.place c.loop-op.found.items c.requires.level c.loop-op.invariant
    (ap (op_of c.args.level) (sym c.lexeme_at.ensures) ∙ sym c.in_default.ensures)

pub unary-returns-in_err-part-clause-stopped : goal.unary-returns-in_err-part-clause-stopped
unary-returns-in_err-part-clause-stopped t c =
    stops_by _ _ c.from_residual-in_err-part.ensures.1
    (λ n h. unary_stopped c.args.tokens.now c.args.at c.in_ok-signs.mid n c.in_ok-signs.ensures.ended h) c.in_err-part.ensures.stopped

pub unary-returns-clause-tree : goal.unary-returns-clause-tree
unary-returns-clause-tree t c = rw c.in_ok-with_signs.ensures (a_unary c.in_ok-signs.ensures.tree c.in_ok-part.ensures.tree)

pub unary-returns-clause-ended : goal.unary-returns-clause-ended
unary-returns-clause-ended t c = unary_ended c.args.tokens.now c.args.at c.in_ok-signs.mid c.in_ok-part.end c.in_ok-signs.ensures.ended c.in_ok-part.ensures.ended

pub primary-returns-in_err-tree-in-Open-clause-stopped : goal.primary-returns-in_err-tree-in-Open-clause-stopped
primary-returns-in_err-tree-in-Open-clause-stopped t c =
    stops_by _ _ c.from_residual-in_err-tree-in-Open.ensures.1 (λ n h. brackets_stopped c.args.tokens.now c.args.at n (sym c.in-Open.ensures) h)
    c.in_err-tree-in-Open.ensures.stopped

pub primary-returns-in-Number-clause-tree : goal.primary-returns-in-Number-clause-tree
primary-returns-in-Number-clause-tree t c =
    let f : SFits w32 c.number_at.result = search rules in
    rw (expression-Number _, to_z-of_z w32 c.number_at.result f, c.number_at.ensures) (number_read c.args.tokens.now c.args.at (sym c.in-Number.ensures))

pub primary-returns-in-Number-clause-ended : goal.primary-returns-in-Number-clause-ended
primary-returns-in-Number-clause-ended t c = number_ended c.args.tokens.now c.args.at (sym c.in-Number.ensures)

pub primary-returns-in_ok-tree-in-Open-clause-tree : goal.primary-returns-in_ok-tree-in-Open-clause-tree
primary-returns-in_ok-tree-in-Open-clause-tree t c =
    in_brackets
    (bracketed (sym c.in-Open.ensures)
    (at_next (λ ts. Closed ts (expression c.in_ok-tree-in-Open.tree) (drop c.in_ok-tree-in-Open.end c.args.tokens.now)) c.args.tokens.now c.args.at
    c.in_ok-tree-in-Open.ensures.tree))

pub primary-returns-in_ok-tree-in-Open-clause-ended : goal.primary-returns-in_ok-tree-in-Open-clause-ended
primary-returns-in_ok-tree-in-Open-clause-ended t c = brackets_ended c.args.tokens.now c.args.at c.in_ok-tree-in-Open.end (sym c.in-Open.ensures) c.in_ok-tree-in-Open.ensures.ended

pub primary-returns-in_default : goal.primary-returns-in_default
primary-returns-in_default t c = record {
  tree = tt;
  ended = tt;
  ahead = tt;
  stopped = rw c.syntax.ensures
      (none_stopped c.args.tokens.now c.args.at c.requires.within (
        unlike c.lexeme_at.ensures c.in_default.not-Number,
        (unlike c.lexeme_at.ensures c.in_default.not-Word, (unlike c.lexeme_at.ensures c.in_default.not-Open, tt)),
      ));
}

pub word_form-returns-in_err-mid-in-Arrow-clause-stopped : goal.word_form-returns-in_err-mid-in-Arrow-clause-stopped
word_form-returns-in_err-mid-in-Arrow-clause-stopped t c =
    stops_by _ _ c.from_residual-in_err-mid-in-Arrow.ensures.1
    (λ n h. field_word_stopped c.args.tokens.now c.args.at n c.requires.word (sym c.in-Arrow.ensures) h) c.in_err-mid-in-Arrow.ensures.stopped

pub word_form-returns-in_err-which-in-Arrow-clause-stopped : goal.word_form-returns-in_err-which-in-Arrow-clause-stopped
word_form-returns-in_err-which-in-Arrow-clause-stopped t c =
    stops_by _ _ c.from_residual-in_err-which-in-Arrow.ensures.1
    (λ n h. field_index_stopped c.args.tokens.now c.args.at c.in_ok-mid-in-Arrow.mid n c.requires.word (sym c.in-Arrow.ensures)
    c.in_ok-mid-in-Arrow.ensures.ended h)
    c.in_err-which-in-Arrow.ensures.stopped

pub word_form-returns-in_ok-which-in-Arrow-clause-tree : goal.word_form-returns-in_ok-which-in-Arrow-clause-tree
word_form-returns-in_ok-which-in-Arrow-clause-tree t c =
    rw (c.field_form.ensures, c.line_at-line.ensures, c.in_ok-word.ensures, c.in_ok-variable-in-Arrow.ensures)
    (field_read c.args.tokens.now c.args.at c.in_ok-mid-in-Arrow.mid _ _ c.requires.word (sym c.in-Arrow.ensures) c.in_ok-mid-in-Arrow.ensures.found
    c.in_ok-mid-in-Arrow.ensures.next c.in_ok-which-in-Arrow.ensures.tree)

pub word_form-returns-in_ok-which-in-Arrow-clause-ended : goal.word_form-returns-in_ok-which-in-Arrow-clause-ended
word_form-returns-in_ok-which-in-Arrow-clause-ended t c =
    field_ended c.args.tokens.now c.args.at c.in_ok-mid-in-Arrow.mid c.in_ok-which-in-Arrow.end c.requires.word (sym c.in-Arrow.ensures)
    c.in_ok-mid-in-Arrow.ensures.ended c.in_ok-which-in-Arrow.ensures.ended

pub word_form-returns-in_err-end-in-Open-clause-stopped : goal.word_form-returns-in_err-end-in-Open-clause-stopped
word_form-returns-in_err-end-in-Open-clause-stopped t c =
    stops_by _ _ c.from_residual-in_err-end-in-Open.ensures.1
    (λ n h. get_stopped c.args.tokens.now c.args.at n c.requires.word (sym c.in-Open.ensures) h) c.in_err-end-in-Open.ensures.stopped

pub word_form-returns-in_ok-end-in-Open-clause-tree : goal.word_form-returns-in_ok-end-in-Open-clause-tree
word_form-returns-in_ok-end-in-Open-clause-tree t c =
    rw (expression-Get _ _, c.line_at-line.ensures, c.in_ok-word.ensures)
    (get_read c.args.tokens.now c.args.at c.in_ok-end-in-Open.end c.requires.word (sym c.in-Open.ensures) c.in_ok-end-in-Open.ensures.found
    c.in_ok-end-in-Open.ensures.next)

pub word_form-returns-in_ok-end-in-Open-clause-ended : goal.word_form-returns-in_ok-end-in-Open-clause-ended
word_form-returns-in_ok-end-in-Open-clause-ended t c = get_ended c.args.tokens.now c.args.at c.in_ok-end-in-Open.end c.requires.word (sym c.in-Open.ensures) c.in_ok-end-in-Open.ensures.ended

pub word_form-returns-in_err-which-in_default-clause-stopped : goal.word_form-returns-in_err-which-in_default-clause-stopped
word_form-returns-in_err-which-in_default-clause-stopped t c =
    stops_by _ _ c.from_residual-in_err-which-in_default.ensures.1
    (λ n h. name_stopped c.args.tokens.now c.args.at n c.requires.word (unlike c.lexeme_at.ensures c.in_default.not-Arrow)
    (unlike c.lexeme_at.ensures c.in_default.not-Open) h)
    c.in_err-which-in_default.ensures.stopped

pub word_form-returns-in_ok-which-in_default-clause-tree : goal.word_form-returns-in_ok-which-in_default-clause-tree
word_form-returns-in_ok-which-in_default-clause-tree t c =
    rw (c.name_form.ensures, c.line_at-line.ensures, c.in_ok-word.ensures)
    (name_read c.args.tokens.now c.args.at _ _ c.requires.word c.in_ok-which-in_default.ensures.tree)

pub word_form-returns-in_ok-which-in_default-clause-ended : goal.word_form-returns-in_ok-which-in_default-clause-ended
word_form-returns-in_ok-which-in_default-clause-ended t c =
    name_ended c.args.tokens.now c.args.at c.in_ok-which-in_default.end c.requires.word (unlike c.lexeme_at.ensures c.in_default.not-Arrow)
    (unlike c.lexeme_at.ensures c.in_default.not-Open) c.in_ok-which-in_default.ensures.ended

pub subscript-returns-in_err-which-clause-stopped : goal.subscript-returns-in_err-which-clause-stopped
subscript-returns-in_err-which-clause-stopped t c =
    stops_by _ _ c.from_residual.ensures.1 (λ n h. index_stopped c.args.tokens.now c.args.at n (sym c.in-OpenBracket.ensures) h)
    c.in_err-which.ensures.stopped

pub subscript-returns-in_err-end-clause-stopped : goal.subscript-returns-in_err-end-clause-stopped
subscript-returns-in_err-end-clause-stopped t c =
    stops_by _ _ c.from_residual-in_err-end.ensures.1
    (λ n h. index_end_stopped c.args.tokens.now c.args.at c.in_ok-which.close n (sym c.in-OpenBracket.ensures) c.in_ok-which.ensures.ended h)
    c.in_err-end.ensures.stopped

pub subscript-returns-in_default : goal.subscript-returns-in_default
subscript-returns-in_default t c = record {
  tree = no_index;
  ended = no_index_ended c.args.tokens.now c.args.at c.requires.within (unlike c.lexeme_at.ensures c.in_default.not-OpenBracket);
  stopped = tt;
}

pub subscript-returns-clause-ended : goal.subscript-returns-clause-ended
subscript-returns-clause-ended t c = index_ended c.args.tokens.now c.args.at c.in_ok-which.close c.in_ok-end.end (sym c.in-OpenBracket.ensures) c.in_ok-which.ensures.ended c.in_ok-end.ensures.ended

pub subscript-returns-clause-tree : goal.subscript-returns-clause-tree
subscript-returns-clause-tree t c =
    rw (c.line_at-line.ensures, c.in_ok-index.ensures)
    (index_read c.args.tokens.now c.args.at c.in_ok-which.close c.in_ok-end.end (expression c.in_ok-which.which) (sym c.in-OpenBracket.ensures)
    c.in_ok-which.ensures.tree c.in_ok-end.ensures.found c.in_ok-end.ensures.next)
