-- Function definitions, token by token.
use Rattle.std.proofs.Common.{◌≡◌, ℕ, ◌+◌, ◌<◌, List, [], ◌∷◌, length, drop, refl, sym, ap, ◌∙◌, subst, arith}
use Rattle.flame_spec.specs.declared.trees.Parameter.{Parameter}
use Rattle.flame_spec.specs.Trees.{Statements}
use Rattle.flame_lex.specs.declared.token.Token.{Token}
use Rattle.flame_expr.specs.declared.lexemes.Lexeme.{Lexeme}
use Rattle.flame_expr.specs.declared.lexemes.Lexeme.TheVariants.{Int, Word, Open, Close}
use Rattle.flame_expr.specs.Lexemes.{first, text, line, behind}
use Rattle.flame_expr.specs.ViablePrefixes.{Symbol, form, lexeme, parameter, parameters, a_def, a_block, expand, in_turn}
use Rattle.flame_expr.specs.ReadParts.{Ended, Stopped}
use Rattle.flame_expr.proofs.Walk.{at_form, at_both}
use Rattle.flame_expr.proofs.Parts.{any_heads, pasts}
use Rattle.flame_expr.proofs.Places.{behind-drop}
use Rattle.flame_parse.specs.StatementGrammar.{OneParameter, a_parameter, Parameters, Block, Definition, definition}
use Rattle.flame_expr.proofs.Ends.{ended_then, stopped_then, stopped_before}

abbrev Inside : List Symbol
Inside = lexeme Int ∷ lexeme Word ∷ lexeme Open ∷ parameters ∷ lexeme Close ∷ form a_block ∷ []

-- a definition by its parts
pub def_ended : (tokens : List Token) (at end : ℕ) → Ended [] Inside tokens at end → Ended [] (form a_def ∷ []) tokens at end
def_ended tokens at end p = record {
  ahead = p.ahead;
  within = p.within;
  passes = record {
    shorter = p.passes.shorter;
    goes = λ K e h. expand (in_turn (in_turn (in_turn (in_turn (in_turn (p.passes.goes K e h))))));
    bound = λ K e b h. p.passes.bound K e b (at_both (at_both (at_both (at_both (at_both (at_form h))))));
  };
}

pub def_stopped : (tokens : List Token) (at stop : ℕ) → Stopped [] Inside tokens at stop → Stopped [] (form a_def ∷ []) tokens at stop
def_stopped tokens at stop p = record {
  ahead = p.ahead;
  within = p.within;
  halts = record {
    shorter = p.halts.shorter;
    goes = λ K. expand (in_turn (in_turn (in_turn (in_turn (in_turn (p.halts.goes K))))));
    bound = λ K e b h. p.halts.bound K e b (at_both (at_both (at_both (at_both (at_both (at_form h))))));
  };
}

pub def_starts : (d : Lexeme) → d ≡ Int → 0 < length (pasts (any_heads ((form a_def ∷ []) ∷ []) d))
def_starts d f =
    let int : 0 < length (pasts (any_heads ((form a_def ∷ []) ∷ []) Int)) = omega arith in
    subst (λ l. 0 < length (pasts (any_heads ((form a_def ∷ []) ∷ []) l))) (sym f) int

pub definition_read : (tokens : List Token) (at word bracket inside close end : ℕ) (ps : List Parameter) (ss : Statements) → first (drop at tokens) ≡
    Int → word ≡ at + 1 → first (drop word tokens) ≡ Word → bracket ≡ word + 1 → first (drop bracket tokens) ≡ Open → inside ≡ bracket + 1 → Parameters
    (drop inside tokens) ps (drop close tokens) → Block (drop close tokens) ss (drop end tokens) → Definition (drop at tokens)
    (record { line = line (drop at tokens); name = text (drop word tokens); parameters = ps; body = ss }) (drop end tokens)
definition_read tokens at word bracket inside close end ps ss f a g b h c r s =
    let x : behind (drop at tokens) ≡ drop word tokens = behind-drop tokens at ∙ ap (λ n. drop n tokens) (sym a) in
    let y : behind (behind (drop at tokens)) ≡ drop bracket tokens = ap behind x ∙ behind-drop tokens word ∙ ap (λ n. drop n tokens) (sym b) in
    let z : behind (behind (behind (drop at tokens))) ≡ drop inside tokens = ap behind y ∙ behind-drop tokens bracket ∙ ap (λ n. drop n tokens) (sym c) in
    subst (λ ts. Definition (drop at tokens) (record { line = line (drop at tokens); name = text ts; parameters = ps; body = ss }) (drop end tokens)) x
    (definition f (ap first x ∙ g) (ap first y ∙ h) (subst (λ ts. Parameters ts ps (drop close tokens)) (sym z) r) s)

pub parameter_read : (tokens : List Token) (at word end : ℕ) → first (drop at tokens) ≡ Int → word ≡ at + 1 → first (drop word tokens) ≡ Word → end ≡
    word + 1 → OneParameter (drop at tokens) (record { line = line (drop at tokens); name = text (drop word tokens) }) (drop end tokens)
parameter_read tokens at word end f a g b =
    let x : behind (drop at tokens) ≡ drop word tokens = behind-drop tokens at ∙ ap (λ n. drop n tokens) (sym a) in
    let y : behind (behind (drop at tokens)) ≡ drop end tokens = ap behind x ∙ behind-drop tokens word ∙ ap (λ n. drop n tokens) (sym b) in
    subst (λ ts. OneParameter (drop at tokens) (record { line = line (drop at tokens); name = text ts }) (drop end tokens)) x
    (subst (λ ts. OneParameter (drop at tokens) (record { line = line (drop at tokens); name = text (behind (drop at tokens)) }) ts) y (a_parameter f (ap first x ∙ g)))

pub parameter_ended : (tokens : List Token) (at mid end : ℕ) → Ended [] (lexeme Int ∷ []) tokens at mid → Ended [] (lexeme Word ∷ []) tokens mid end → Ended [] (parameter ∷ []) tokens at end
parameter_ended tokens at mid end p q =
    let r = ended_then [] [] (lexeme Int ∷ []) (lexeme Word ∷ []) tokens at mid end refl p q in
    record {
      ahead = r.ahead;
      within = r.within;
      passes = record {
        shorter = r.passes.shorter;
        goes = λ K e h. in_turn (r.passes.goes K e h);
        bound = λ K e b h. r.passes.bound K e b (at_both h);
      };
    }

parameter_halted : (tokens : List Token) (at stop : ℕ) → Stopped [] (lexeme Int ∷ lexeme Word ∷ []) tokens at stop → Stopped [] (parameter ∷ []) tokens at stop
parameter_halted tokens at stop p = record {
  ahead = p.ahead;
  within = p.within;
  halts = record {
    shorter = p.halts.shorter;
    goes = λ K. in_turn (p.halts.goes K);
    bound = λ K e b h. p.halts.bound K e b (at_both h);
  };
}

pub int_stopped : (tokens : List Token) (at stop : ℕ) → Stopped [] (lexeme Int ∷ []) tokens at stop → Stopped [] (parameter ∷ []) tokens at stop
int_stopped tokens at stop p = parameter_halted tokens at stop (stopped_before [] [] (lexeme Int ∷ []) (lexeme Word ∷ []) tokens at stop refl p)

pub name_stopped : (tokens : List Token) (at mid stop : ℕ) → Ended [] (lexeme Int ∷ []) tokens at mid → Stopped [] (lexeme Word ∷ []) tokens mid stop → Stopped [] (parameter ∷ []) tokens at stop
name_stopped tokens at mid stop p q = parameter_halted tokens at stop (stopped_then [] [] (lexeme Int ∷ []) (lexeme Word ∷ []) tokens at mid stop refl p q)
