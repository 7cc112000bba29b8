-- Each way that the reader returns, by the parts that it read.
use Rattle.std.proofs.Common.{◌+◌, [], ◌∷◌, drop, map, sym, refl, arith}
use Rattle.flame_spec.specs.Trees.{no_more}
use Rattle.flame_spec.specs.Seen.{declared}
use Rattle.flame_spec.proofs.SeenForms.{statement-Declare, statement-Assign}
use Rattle.flame_expr.specs.declared.lexemes.Lexeme.TheVariants.{Semicolon, Int}
use Rattle.flame_expr.specs.Lexemes.{first}
use Rattle.flame_expr.specs.ViablePrefixes.{form, lexeme, maybe, either, more_items, an_item, an_assign, a_decl}
use Rattle.flame_expr.proofs.Places.{there}
use Rattle.flame_expr.proofs.Ends.{stops_by, any_ended, one_ended, any_stopped, one_stopped, begin_ended, begin_stopped, ended_then, stopped_then, stopped_before, nothing_ended}
use Rattle.flame_expr.proofs.Readings.{at_next, unlike}
use Rattle.flame_parse.specs.AssignmentOperators.{joins_items}
use Rattle.flame_parse.specs.StatementGrammar as grammar
use Rattle.flame_expr.proofs.Likeness.{alike_ended, alike_stopped}
use Rattle.flame_parse.proofs.Beginnings as begin
use Rattle.flame_parse.proofs.Runs.{end_of}
use Rattle.std.proofs.lemmas.Result.{err_from_is_err_and}
use Rattle.flame_parse.proofs.simple.first.Goals as goal

pub returns-in_err-items-in-Int-clause-stopped : goal.returns-in_err-items-in-Int-clause-stopped
returns-in_err-items-in-Int-clause-stopped c =
    stops_by _ _ c.from_residual.ensures.1
    (λ n h. begin_stopped [] (maybe (either (form an_assign) (form a_decl)) ∷ lexeme Semicolon ∷ [])
    (form an_item ∷ more_items ∷ lexeme Semicolon ∷ []) c.args.tokens.now c.args.at n Int refl refl refl (sym c.in-Int.ensures)
    (stopped_before joins_items [] (form an_item ∷ more_items ∷ []) (lexeme Semicolon ∷ []) c.args.tokens.now (c.args.at + 1) n refl h))
    c.in_err-items-in-Int.ensures.stopped

pub returns-in_err-end-in-Int-clause-stopped : goal.returns-in_err-end-in-Int-clause-stopped
returns-in_err-end-in-Int-clause-stopped c =
    stops_by _ _ c.from_residual-in_err-end-in-Int.ensures.1
    (λ n h. begin_stopped [] (maybe (either (form an_assign) (form a_decl)) ∷ lexeme Semicolon ∷ [])
    (form an_item ∷ more_items ∷ lexeme Semicolon ∷ []) c.args.tokens.now c.args.at n Int refl refl refl (sym c.in-Int.ensures)
    (stopped_then joins_items [] (form an_item ∷ more_items ∷ []) (lexeme Semicolon ∷ []) c.args.tokens.now (c.args.at + 1) c.in_ok-items-in-Int.mid
    n refl c.in_ok-items-in-Int.ensures.ended h))
    c.in_err-end-in-Int.ensures.stopped

pub returns-in_ok-one-in-Int-clause-ended : goal.returns-in_ok-one-in-Int-clause-ended
returns-in_ok-one-in-Int-clause-ended c =
    begin_ended [] (maybe (either (form an_assign) (form a_decl)) ∷ lexeme Semicolon ∷ []) (form an_item ∷ more_items ∷ lexeme Semicolon ∷ [])
    c.args.tokens.now c.args.at c.in_ok-end-in-Int.end Int refl refl refl (sym c.in-Int.ensures)
    (ended_then joins_items [] (form an_item ∷ more_items ∷ []) (lexeme Semicolon ∷ []) c.args.tokens.now (c.args.at + 1) c.in_ok-items-in-Int.mid
    c.in_ok-end-in-Int.end refl c.in_ok-items-in-Int.ensures.ended c.in_ok-end-in-Int.ensures.ended)

pub returns-in_ok-one-in-Int-clause-tree : goal.returns-in_ok-one-in-Int-clause-tree
returns-in_ok-one-in-Int-clause-tree c =
    rw (c.in_ok-one-in-Int.ensures, statement-Declare _, c.of.ensures)
    (end_of (grammar.First (drop c.args.at c.args.tokens.now) _) c.args.tokens.now c.in_ok-items-in-Int.mid c.in_ok-end-in-Int.end
    c.in_ok-end-in-Int.ensures.next
    (grammar.first_decl
    (grammar.declaration (sym c.in-Int.ensures)
    (at_next (λ ts. grammar.Items ts (map declared c.in_ok-items-in-Int.items.items) (drop c.in_ok-items-in-Int.mid c.args.tokens.now))
    c.args.tokens.now c.args.at c.in_ok-items-in-Int.ensures.tree))
    c.in_ok-end-in-Int.ensures.found))

pub returns-in-Semicolon-clause-tree : goal.returns-in-Semicolon-clause-tree
returns-in-Semicolon-clause-tree c =
    rw c.new.ensures.items
    (end_of (grammar.First (drop c.args.at c.args.tokens.now) no_more) c.args.tokens.now c.args.at (c.args.at + 1) refl
    (grammar.no_first (sym c.in-Semicolon.ensures)))

pub returns-in-Semicolon-clause-ended : goal.returns-in-Semicolon-clause-ended
returns-in-Semicolon-clause-ended c = begin_ended [] (maybe (either (form an_assign) (form a_decl)) ∷ lexeme Semicolon ∷ []) [] c.args.tokens.now c.args.at (c.args.at + 1) Semicolon refl refl refl (sym c.in-Semicolon.ensures) (nothing_ended [] c.args.tokens.now (c.args.at + 1) (let q = there c.args.tokens.now c.args.at Semicolon (sym c.in-Semicolon.ensures) refl in omega (arith, q)))

pub returns-in_err-assign-in_default : goal.returns-in_err-assign-in_default
returns-in_err-assign-in_default c =
    let p = err_from_is_err_and c.from_residual-in_err-assign-in_default.result c.from_residual-in_err-assign-in_default.ensures.1 in
    record {
      tree = rw p.1 tt;
      ended = rw p.1 tt;
      ahead = rw p.1 tt;
      stopped = stops_by _ _ c.from_residual-in_err-assign-in_default.ensures.1
          (λ n h. one_stopped
          (alike_stopped [] ((form an_assign ∷ lexeme Semicolon ∷ []) ∷ [])
          ((maybe (either (form an_assign) (form a_decl)) ∷ lexeme Semicolon ∷ []) ∷ []) c.args.tokens.now c.args.at n (omega arith) (omega arith)
          (begin.first_alike (first (drop c.args.at c.args.tokens.now)) (unlike c.lexeme_at.ensures c.in_default.not-Semicolon)
          (unlike c.lexeme_at.ensures c.in_default.not-Int))
          (any_stopped h)))
          c.in_err-assign-in_default.ensures.stopped;
    }

pub returns-in_ok-one-in_default : goal.returns-in_ok-one-in_default
returns-in_ok-one-in_default c = record {
  tree = rw (c.in_ok-one-in_default.ensures, statement-Assign _) (grammar.first_assign c.in_ok-assign-in_default.ensures.tree);
  ended = one_ended
      (alike_ended [] ((form an_assign ∷ lexeme Semicolon ∷ []) ∷ []) ((maybe (either (form an_assign) (form a_decl)) ∷ lexeme Semicolon ∷ []) ∷ [])
      c.args.tokens.now c.args.at c.in_ok-assign-in_default.end (omega arith) (omega arith)
      (begin.first_alike (first (drop c.args.at c.args.tokens.now)) (unlike c.lexeme_at.ensures c.in_default.not-Semicolon)
      (unlike c.lexeme_at.ensures c.in_default.not-Int))
      (any_ended c.in_ok-assign-in_default.ensures.ended));
  ahead = c.in_ok-assign-in_default.ensures.ahead;
  stopped = tt;
}
