-- Each way that the reader returns, by the parts that it read.
use Rattle.std.proofs.Common.{◌≡◌, ◌+◌, [], ◌∷◌, drop, sym, refl, ap, ◌∙◌, rules}
use Rattle.flame_spec.specs.Seen.{expressions}
use Rattle.flame_spec.proofs.SeenForms.{statement-Assign, statement-Call}
use Rattle.flame_expr.specs.declared.lexemes.Lexeme.TheVariants.{Word, Open, Close, Semicolon}
use Rattle.flame_expr.specs.Lexemes.{first}
use Rattle.flame_expr.specs.ViablePrefixes.{form, lexeme, maybe, a_simple, some_args}
use Rattle.flame_expr.proofs.Parts.{any_heads, pasts}
use Rattle.flame_expr.proofs.Places.{behind-drop}
use Rattle.flame_expr.proofs.Ends.{stops_by, any_ended, one_ended, any_stopped, one_stopped, enter_ended, enter_stopped, ended_then, stopped_then, stopped_before}
use Rattle.flame_parse.specs.StatementGrammar as grammar
use Rattle.flame_parse.proofs.Beginnings as begin
use denote.Enum.Bare.{same_false}
use Rattle.flame_expr.specs.contracts.lexemes.Lexeme as kind
use Rattle.flame_parse.proofs.Assigns.{calling_read}
use Rattle.flame_parse.proofs.simple.word_simple.Goals as goal

pub returns-in_err-parts-clause-stopped : goal.returns-in_err-parts-clause-stopped
returns-in_err-parts-clause-stopped c =
    let s : first (drop (c.args.at + 1) c.args.tokens.now) ≡ Open = search rules in
    stops_by _ _ c.from_residual-in_err-parts.ensures.1
    (λ n h. one_stopped
    (enter_stopped [] ((form a_simple ∷ []) ∷ []) c.args.tokens.now c.args.at n Word refl refl c.requires.begun
    (enter_stopped [] (pasts (any_heads ((form a_simple ∷ []) ∷ []) Word)) c.args.tokens.now (c.args.at + 1) n Open refl refl s
    (any_stopped
    (stopped_before [] [] (maybe (form some_args) ∷ lexeme Close ∷ []) (lexeme Semicolon ∷ []) c.args.tokens.now (c.args.at + 1 + 1) n refl
    h)))))
    c.in_err-parts.ensures.stopped

pub returns-in_err-end-clause-stopped : goal.returns-in_err-end-clause-stopped
returns-in_err-end-clause-stopped c =
    let s : first (drop (c.args.at + 1) c.args.tokens.now) ≡ Open = search rules in
    stops_by _ _ c.from_residual-in_err-end.ensures.1
    (λ n h. one_stopped
    (enter_stopped [] ((form a_simple ∷ []) ∷ []) c.args.tokens.now c.args.at n Word refl refl c.requires.begun
    (enter_stopped [] (pasts (any_heads ((form a_simple ∷ []) ∷ []) Word)) c.args.tokens.now (c.args.at + 1) n Open refl refl s
    (any_stopped
    (stopped_then [] [] (maybe (form some_args) ∷ lexeme Close ∷ []) (lexeme Semicolon ∷ []) c.args.tokens.now (c.args.at + 1 + 1)
    c.in_ok-parts.mid n refl c.in_ok-parts.ensures.ended h)))))
    c.in_err-end.ensures.stopped

pub returns-then-eq-clause-ended : goal.returns-then-eq-clause-ended
returns-then-eq-clause-ended c =
    let s : first (drop (c.args.at + 1) c.args.tokens.now) ≡ Open = search rules in
    one_ended
    (enter_ended [] ((form a_simple ∷ []) ∷ []) c.args.tokens.now c.args.at c.in_ok-end.end Word refl refl c.requires.begun
    (enter_ended [] (pasts (any_heads ((form a_simple ∷ []) ∷ []) Word)) c.args.tokens.now (c.args.at + 1) c.in_ok-end.end Open refl refl s
    (any_ended
    (ended_then [] [] (maybe (form some_args) ∷ lexeme Close ∷ []) (lexeme Semicolon ∷ []) c.args.tokens.now (c.args.at + 1 + 1)
    c.in_ok-parts.mid c.in_ok-end.end refl c.in_ok-parts.ensures.ended c.in_ok-end.ensures.ended))))

pub returns-then-eq-clause-tree : goal.returns-then-eq-clause-tree
returns-then-eq-clause-tree c =
    let s : first (drop (c.args.at + 1) c.args.tokens.now) ≡ Open = search rules in
    rw (statement-Call _ _ _, c.of.ensures, c.line_at-line.ensures, c.in_ok-word.ensures)
    (calling_read c.args.tokens.now c.args.at c.in_ok-parts.mid c.in_ok-end.end (expressions c.in_ok-parts.parts.items) c.requires.begun s
    c.in_ok-parts.ensures.tree c.in_ok-end.ensures.found c.in_ok-end.ensures.next)

pub returns-in_err-assign-clause-stopped : goal.returns-in_err-assign-clause-stopped
returns-in_err-assign-clause-stopped c =
    stops_by _ _ c.from_residual-in_err-assign.ensures.1
    (λ n h. begin.word_stopped c.args.tokens.now c.args.at n c.requires.begun
    (λ q. same_false kind.the_type c.lexeme_at.result Open (sym c.eq.ensures ∙ c.if-eq.false)
    (c.lexeme_at.ensures ∙ ap first (sym (behind-drop c.args.tokens.now c.args.at)) ∙ q))
    h)
    c.in_err-assign.ensures.stopped

pub returns-clause-ended : goal.returns-clause-ended
returns-clause-ended c =
    begin.word_ended c.args.tokens.now c.args.at c.in_ok-assign.end c.requires.begun
    (λ q. same_false kind.the_type c.lexeme_at.result Open (sym c.eq.ensures ∙ c.if-eq.false)
    (c.lexeme_at.ensures ∙ ap first (sym (behind-drop c.args.tokens.now c.args.at)) ∙ q))
    c.in_ok-assign.ensures.ended

pub returns-clause-tree : goal.returns-clause-tree
returns-clause-tree c = rw (statement-Assign _) (grammar.assigning c.in_ok-assign.ensures.tree)
