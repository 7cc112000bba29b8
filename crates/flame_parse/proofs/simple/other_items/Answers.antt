-- Each way that the reader returns, by the parts that it read.
use Rattle.std.proofs.Common.{◌+◌, [], ◌∷◌, drop, map, sym, refl, arith}
use Rattle.flame_spec.specs.Seen.{declared}
use Rattle.flame_expr.specs.declared.lexemes.Lexeme.TheVariants.{Comma}
use Rattle.flame_expr.specs.Lexemes.{first}
use Rattle.flame_expr.specs.ViablePrefixes.{form, more_items, an_item}
use Rattle.flame_expr.proofs.Ends.{stops_by, one_ended, here_ended, begin_ended, begin_stopped, ended_then, stopped_then, stopped_before}
use Rattle.flame_expr.proofs.Readings.{at_next, unlike}
use Rattle.flame_parse.specs.AssignmentOperators.{joins_item, joins_items}
use Rattle.flame_parse.specs.StatementGrammar as grammar
use Rattle.flame_parse.proofs.Beginnings as begin
use Rattle.flame_parse.proofs.Runs.{run_begin, run_step, run_read}
use Rattle.flame_parse.proofs.simple.other_items.Goals as goal

pub returns-in_err-next-clause-stopped : goal.returns-in_err-next-clause-stopped
returns-in_err-next-clause-stopped c =
    stops_by _ _ c.from_residual.ensures.1
    (λ n h. c.items.invariant.stopped n
    (begin_stopped joins_items (more_items ∷ []) (form an_item ∷ more_items ∷ []) c.args.tokens.now c.items.place n Comma refl refl refl
    (sym c.in-Comma.ensures)
    (stopped_before joins_item joins_items (form an_item ∷ []) (more_items ∷ []) c.args.tokens.now (c.items.place + 1) n refl h)))
    c.in_err-next.ensures.stopped

pub items-init : goal.items-init
items-init c = rw c.new-found.ensures.items (run_begin joins_items (more_items ∷ []) grammar.MoreItems c.args.tokens.now c.args.at c.requires.within)

pub items-preserved : goal.items-preserved
items-preserved c =
    rw c.in_ok-push.ensures.items
    (run_step declared joins_items (more_items ∷ []) grammar.MoreItems c.args.tokens.now c.args.at c.items.place c.in_ok-next.end c.items.found.items
    c.in_ok-next.next c.items.invariant (omega (arith, c.in_ok-next.ensures.ahead)) c.in_ok-next.ensures.ended.within
    (λ ds rest x. grammar.item_more (sym c.in-Comma.ensures)
    (at_next (λ ts. grammar.Item ts (declared c.in_ok-next.next) (drop c.in_ok-next.end c.args.tokens.now)) c.args.tokens.now c.items.place
    c.in_ok-next.ensures.tree)
    x)
    (λ end x. begin_ended joins_items (more_items ∷ []) (form an_item ∷ more_items ∷ []) c.args.tokens.now c.items.place end Comma refl refl refl
    (sym c.in-Comma.ensures)
    (ended_then joins_item joins_items (form an_item ∷ []) (more_items ∷ []) c.args.tokens.now (c.items.place + 1) c.in_ok-next.end end refl
    c.in_ok-next.ensures.ended x))
    (λ n x. begin_stopped joins_items (more_items ∷ []) (form an_item ∷ more_items ∷ []) c.args.tokens.now c.items.place n Comma refl refl refl
    (sym c.in-Comma.ensures)
    (stopped_then joins_item joins_items (form an_item ∷ []) (more_items ∷ []) c.args.tokens.now (c.items.place + 1) c.in_ok-next.end n refl
    c.in_ok-next.ensures.ended x)))

pub returns-in_default : goal.returns-in_default
returns-in_default c = record {
  tree = run_read joins_items (more_items ∷ []) grammar.MoreItems c.args.tokens.now c.args.at c.items.place (map declared c.items.found.items)
      c.items.invariant grammar.no_item;
  ended = c.items.invariant.ended c.items.place
      (one_ended
      (here_ended joins_items ((more_items ∷ []) ∷ []) c.args.tokens.now c.items.place c.items.invariant.within
      (begin.items_end (first (drop c.items.place c.args.tokens.now)) (unlike c.lexeme_at.ensures c.in_default.not-Comma))));
  stopped = tt;
}
