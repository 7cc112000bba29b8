-- Each way that the reader returns, by the parts that it read.
use Rattle.std.proofs.Common.{[], ◌∷◌, refl}
use Rattle.flame_spec.specs.Seen.{statements}
use Rattle.flame_expr.specs.declared.lexemes.Lexeme.TheVariants.{Word, Open, Close, Int}
use Rattle.flame_expr.specs.ViablePrefixes.{parameters, form, lexeme, a_block}
use Rattle.flame_expr.proofs.Ends.{stops_by, ended_then, stopped_then, stopped_before}
use Rattle.flame_parse.proofs.Defs.{def_stopped, def_ended, definition_read}
use Rattle.flame_parse.proofs.unit.definition.Goals as goal

pub returns-in_err-word-clause-stopped : goal.returns-in_err-word-clause-stopped
returns-in_err-word-clause-stopped c =
    stops_by _ _ c.from_residual.ensures.1
    (λ n h. def_stopped c.args.tokens.now c.args.at n
    (stopped_before [] [] (lexeme Int ∷ []) (lexeme Word ∷ lexeme Open ∷ parameters ∷ lexeme Close ∷ form a_block ∷ []) c.args.tokens.now c.args.at
    n refl h))
    c.in_err-word.ensures.stopped

pub returns-in_err-open-clause-stopped : goal.returns-in_err-open-clause-stopped
returns-in_err-open-clause-stopped c =
    stops_by _ _ c.from_residual-in_err-open.ensures.1
    (λ n h. def_stopped c.args.tokens.now c.args.at n
    (stopped_then [] [] (lexeme Int ∷ []) (lexeme Word ∷ lexeme Open ∷ parameters ∷ lexeme Close ∷ form a_block ∷ []) c.args.tokens.now c.args.at
    c.in_ok-word.word n refl c.in_ok-word.ensures.ended
    (stopped_before [] [] (lexeme Word ∷ []) (lexeme Open ∷ parameters ∷ lexeme Close ∷ form a_block ∷ []) c.args.tokens.now c.in_ok-word.word n
    refl h)))
    c.in_err-open.ensures.stopped

pub returns-in_err-inside-clause-stopped : goal.returns-in_err-inside-clause-stopped
returns-in_err-inside-clause-stopped c =
    stops_by _ _ c.from_residual-in_err-inside.ensures.1
    (λ n h. def_stopped c.args.tokens.now c.args.at n
    (stopped_then [] [] (lexeme Int ∷ []) (lexeme Word ∷ lexeme Open ∷ parameters ∷ lexeme Close ∷ form a_block ∷ []) c.args.tokens.now c.args.at
    c.in_ok-word.word n refl c.in_ok-word.ensures.ended
    (stopped_then [] [] (lexeme Word ∷ []) (lexeme Open ∷ parameters ∷ lexeme Close ∷ form a_block ∷ []) c.args.tokens.now c.in_ok-word.word
    c.in_ok-open.open n refl c.in_ok-open.ensures.ended
    (stopped_before [] [] (lexeme Open ∷ []) (parameters ∷ lexeme Close ∷ form a_block ∷ []) c.args.tokens.now c.in_ok-open.open n refl h))))
    c.in_err-inside.ensures.stopped

pub returns-in_err-found-clause-stopped : goal.returns-in_err-found-clause-stopped
returns-in_err-found-clause-stopped c =
    stops_by _ _ c.from_residual-in_err-found.ensures.1
    (λ n h. def_stopped c.args.tokens.now c.args.at n
    (stopped_then [] [] (lexeme Int ∷ []) (lexeme Word ∷ lexeme Open ∷ parameters ∷ lexeme Close ∷ form a_block ∷ []) c.args.tokens.now c.args.at
    c.in_ok-word.word n refl c.in_ok-word.ensures.ended
    (stopped_then [] [] (lexeme Word ∷ []) (lexeme Open ∷ parameters ∷ lexeme Close ∷ form a_block ∷ []) c.args.tokens.now c.in_ok-word.word
    c.in_ok-open.open n refl c.in_ok-open.ensures.ended
    (stopped_then [] [] (lexeme Open ∷ []) (parameters ∷ lexeme Close ∷ form a_block ∷ []) c.args.tokens.now c.in_ok-open.open
    c.in_ok-inside.inside n refl c.in_ok-inside.ensures.ended
    (stopped_before [] [] (parameters ∷ lexeme Close ∷ []) (form a_block ∷ []) c.args.tokens.now c.in_ok-inside.inside n refl h)))))
    c.in_err-found.ensures.stopped

pub returns-in_err-inner-clause-stopped : goal.returns-in_err-inner-clause-stopped
returns-in_err-inner-clause-stopped c =
    stops_by _ _ c.from_residual-in_err-inner.ensures.1
    (λ n h. def_stopped c.args.tokens.now c.args.at n
    (stopped_then [] [] (lexeme Int ∷ []) (lexeme Word ∷ lexeme Open ∷ parameters ∷ lexeme Close ∷ form a_block ∷ []) c.args.tokens.now c.args.at
    c.in_ok-word.word n refl c.in_ok-word.ensures.ended
    (stopped_then [] [] (lexeme Word ∷ []) (lexeme Open ∷ parameters ∷ lexeme Close ∷ form a_block ∷ []) c.args.tokens.now c.in_ok-word.word
    c.in_ok-open.open n refl c.in_ok-open.ensures.ended
    (stopped_then [] [] (lexeme Open ∷ []) (parameters ∷ lexeme Close ∷ form a_block ∷ []) c.args.tokens.now c.in_ok-open.open
    c.in_ok-inside.inside n refl c.in_ok-inside.ensures.ended
    (stopped_then [] [] (parameters ∷ lexeme Close ∷ []) (form a_block ∷ []) c.args.tokens.now c.in_ok-inside.inside c.in_ok-found.close n
    refl c.in_ok-found.ensures.ended h)))))
    c.in_err-inner.ensures.stopped

pub returns-clause-ended : goal.returns-clause-ended
returns-clause-ended c =
    def_ended c.args.tokens.now c.args.at c.in_ok-inner.end
    (ended_then [] [] (lexeme Int ∷ []) (lexeme Word ∷ lexeme Open ∷ parameters ∷ lexeme Close ∷ form a_block ∷ []) c.args.tokens.now c.args.at
    c.in_ok-word.word c.in_ok-inner.end refl c.in_ok-word.ensures.ended
    (ended_then [] [] (lexeme Word ∷ []) (lexeme Open ∷ parameters ∷ lexeme Close ∷ form a_block ∷ []) c.args.tokens.now c.in_ok-word.word
    c.in_ok-open.open c.in_ok-inner.end refl c.in_ok-open.ensures.ended
    (ended_then [] [] (lexeme Open ∷ []) (parameters ∷ lexeme Close ∷ form a_block ∷ []) c.args.tokens.now c.in_ok-open.open c.in_ok-inside.inside
    c.in_ok-inner.end refl c.in_ok-inside.ensures.ended
    (ended_then [] [] (parameters ∷ lexeme Close ∷ []) (form a_block ∷ []) c.args.tokens.now c.in_ok-inside.inside c.in_ok-found.close
    c.in_ok-inner.end refl c.in_ok-found.ensures.ended c.in_ok-inner.ensures.ended))))

pub returns-clause-tree : goal.returns-clause-tree
returns-clause-tree c =
    rw (c.line_at-line.ensures, c.in_ok-name.ensures, c.of-parameters.ensures, c.of-body.ensures)
    (definition_read c.args.tokens.now c.args.at c.in_ok-word.word c.in_ok-open.open c.in_ok-inside.inside c.in_ok-found.close c.in_ok-inner.end
    c.in_ok-found.found.items (statements c.in_ok-inner.inner.items) c.in_ok-word.ensures.found c.in_ok-word.ensures.next c.in_ok-open.ensures.found
    c.in_ok-open.ensures.next c.in_ok-inside.ensures.found c.in_ok-inside.ensures.next c.in_ok-found.ensures.tree c.in_ok-inner.ensures.tree)
