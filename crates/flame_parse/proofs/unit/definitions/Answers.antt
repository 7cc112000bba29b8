-- Each way that the reader returns, by the parts that it read.
use Rattle.std.proofs.Common.{◌≡◌, ◌<◌, [], ◌∷◌, drop, length, map, sym, refl, ap, arith}
use Rattle.flame_expr.specs.Lexemes.{first}
use Rattle.flame_expr.specs.ViablePrefixes.{form, many, a_def}
use Rattle.flame_expr.proofs.Parts.{any_heads, pasts}
use Rattle.flame_expr.proofs.Ends.{stops_by, one_ended, here_ended}
use Rattle.flame_expr.proofs.Readings.{unlike}
use Rattle.flame_parse.specs.StatementGrammar as grammar
use Rattle.flame_parse.proofs.Repeats.{many_ended, many_stopped, first_stopped}
use Rattle.flame_parse.proofs.Beginnings as begin
use Rattle.flame_parse.proofs.Runs.{run_begin, run_step, run_read}
use Rattle.std.proofs.Common.{true}
use Rattle.flame_expr.proofs.Parts.{joins_on}
use Rattle.flame_parse.specs.Parsing.{defined, joins_unit}
use Rattle.flame_parse.proofs.Defs.{def_starts}
use Rattle.flame_parse.proofs.unit.definitions.Goals as goal

pub returns-in_err-next-clause-stopped : goal.returns-in_err-next-clause-stopped
returns-in_err-next-clause-stopped c =
    let j : joins_on (first (drop c.units.place c.args.tokens.now)) joins_unit ≡ true = ap (λ d. joins_on d joins_unit) (sym c.in-Int.ensures) in
    let m : 0 < length (pasts (any_heads ((form a_def ∷ []) ∷ []) (first (drop c.units.place c.args.tokens.now)))) = def_starts (first (drop c.units.place c.args.tokens.now)) (sym c.in-Int.ensures) in
    stops_by _ _ c.from_residual.ensures.1 (λ n h. c.units.invariant.stopped n (first_stopped [] joins_unit (form a_def) c.args.tokens.now c.units.place n refl j m h)) c.in_err-next.ensures.stopped

pub units-init : goal.units-init
units-init c = rw c.new-found.ensures.items (run_begin joins_unit (many (form a_def) ∷ []) grammar.Definitions c.args.tokens.now c.args.at c.requires.within)

pub units-preserved : goal.units-preserved
units-preserved c =
    let j : joins_on (first (drop c.units.place c.args.tokens.now)) joins_unit ≡ true = ap (λ d. joins_on d joins_unit) (sym c.in-Int.ensures) in
    rw c.in_ok-push.ensures.items
    (run_step defined joins_unit (many (form a_def) ∷ []) grammar.Definitions c.args.tokens.now c.args.at c.units.place c.in_ok-next.end
    c.units.found.items c.in_ok-next.next c.units.invariant (omega (arith, c.in_ok-next.ensures.ahead)) c.in_ok-next.ensures.ended.within
    (λ ds rest x. grammar.definition_more c.in_ok-next.ensures.tree x)
    (λ end x. many_ended [] joins_unit (form a_def) c.args.tokens.now c.units.place c.in_ok-next.end end refl j c.in_ok-next.ensures.ahead
    c.in_ok-next.ensures.ended x)
    (λ n x. many_stopped [] joins_unit (form a_def) c.args.tokens.now c.units.place c.in_ok-next.end n refl j c.in_ok-next.ensures.ahead
    c.in_ok-next.ensures.ended x))

pub returns-in_default : goal.returns-in_default
returns-in_default c = record {
  tree = run_read joins_unit (many (form a_def) ∷ []) grammar.Definitions c.args.tokens.now c.args.at c.units.place (map defined c.units.found.items)
      c.units.invariant grammar.no_definition;
  ended = c.units.invariant.ended c.units.place
      (one_ended
      (here_ended joins_unit ((many (form a_def) ∷ []) ∷ []) c.args.tokens.now c.units.place c.units.invariant.within
      (begin.unit_ends (first (drop c.units.place c.args.tokens.now)) (unlike c.lexeme_at.ensures c.in_default.not-Int))));
  stopped = tt;
}
