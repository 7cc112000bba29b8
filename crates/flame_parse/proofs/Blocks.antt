-- Blocks, and the arms of an `if`.
use Rattle.std.proofs.Common.{◌≡◌, ℕ, ◌≤◌, List, [], ◌∷◌, ◌++◌, length, drop, map, refl, sym, ap, ◌∙◌, subst, arith}
use Rattle.flame_spec.specs.declared.trees.Arm.{Arm}
use Rattle.flame_spec.specs.Trees.{Statements, no_more}
use Rattle.flame_spec.specs.Seen.{Tested, tested, arms, arms_of}
use Rattle.flame_lex.specs.declared.token.Token.{Token}
use Rattle.flame_expr.specs.declared.lexemes.Lexeme.TheVariants.{OpenBrace, CloseBrace}
use Rattle.flame_expr.specs.Lexemes.{first}
use Rattle.flame_expr.specs.ViablePrefixes.{Symbol, form, lexeme, many, else_ifs, else_body, a_stmt, a_block, a_body, expand, in_turn}
use Rattle.flame_expr.specs.ReadParts.{Ended, Stopped}
use Rattle.flame_expr.proofs.Walk.{at_form, at_both}
use Rattle.flame_expr.proofs.Parts.{any_heads}
use Rattle.flame_expr.proofs.Ends.{any_ended, one_ended, any_stopped, one_stopped, ended_weaker, stopped_weaker}
use Rattle.flame_parse.specs.AssignmentOperators.{joins_stmt}
use Rattle.flame_parse.specs.StatementGrammar.{Elses, no_else}
use Rattle.flame_expr.proofs.Likeness.{alike_ended, alike_stopped}

abbrev Inside : List Symbol
Inside = lexeme OpenBrace ∷ many (form a_stmt) ∷ lexeme CloseBrace ∷ []

-- a block by its parts
pub block_ended : (tokens : List Token) (at end : ℕ) → Ended [] Inside tokens at end → Ended [] (form a_block ∷ []) tokens at end
block_ended tokens at end p = record {
  ahead = p.ahead;
  within = p.within;
  passes = record {
    shorter = p.passes.shorter;
    goes = λ K e h. expand (in_turn (in_turn (p.passes.goes K e h)));
    bound = λ K e b h. p.passes.bound K e b (at_both (at_both (at_form h)));
  };
}

pub block_stopped : (tokens : List Token) (at stop : ℕ) → Stopped [] Inside tokens at stop → Stopped [] (form a_block ∷ []) tokens at stop
block_stopped tokens at stop p = record {
  ahead = p.ahead;
  within = p.within;
  halts = record {
    shorter = p.halts.shorter;
    goes = λ K. expand (in_turn (in_turn (p.halts.goes K)));
    bound = λ K e b h. p.halts.bound K e b (at_both (at_both (at_form h)));
  };
}

brace_body : (tokens : List Token) (at : ℕ) → first (drop at tokens) ≡ OpenBrace → any_heads ((form a_block ∷ []) ∷ []) (first (drop at tokens)) ≡
    any_heads ((form a_body ∷ []) ∷ []) (first (drop at tokens))
brace_body tokens at f = ap (any_heads ((form a_block ∷ []) ∷ [])) f ∙ sym (ap (any_heads ((form a_body ∷ []) ∷ [])) f)

brace_stmt : (tokens : List Token) (at : ℕ) → first (drop at tokens) ≡ OpenBrace → any_heads ((form a_block ∷ []) ∷ []) (first (drop at tokens)) ≡
    any_heads ((form a_stmt ∷ []) ∷ []) (first (drop at tokens))
brace_stmt tokens at f = ap (any_heads ((form a_block ∷ []) ∷ [])) f ∙ sym (ap (any_heads ((form a_stmt ∷ []) ∷ [])) f)

pub brace_body_ended : (tokens : List Token) (at end : ℕ) → first (drop at tokens) ≡ OpenBrace → Ended [] (form a_block ∷ []) tokens at end → Ended [] (form a_body ∷ []) tokens at end
brace_body_ended tokens at end f p = one_ended (alike_ended [] ((form a_block ∷ []) ∷ []) ((form a_body ∷ []) ∷ []) tokens at end (omega arith) (omega arith) (brace_body tokens at f) (any_ended p))

pub brace_body_stopped : (tokens : List Token) (at stop : ℕ) → first (drop at tokens) ≡ OpenBrace → Stopped [] (form a_block ∷ []) tokens at stop → Stopped [] (form a_body ∷ []) tokens at stop
brace_body_stopped tokens at stop f p =
    one_stopped
    (alike_stopped [] ((form a_block ∷ []) ∷ []) ((form a_body ∷ []) ∷ []) tokens at stop (omega arith) (omega arith) (brace_body tokens at f)
    (any_stopped p))

pub brace_stmt_ended : (tokens : List Token) (at end : ℕ) → first (drop at tokens) ≡ OpenBrace → Ended [] (form a_block ∷ []) tokens at end → Ended joins_stmt (form a_stmt ∷ []) tokens at end
brace_stmt_ended tokens at end f p =
    one_ended
    (alike_ended joins_stmt ((form a_block ∷ []) ∷ []) ((form a_stmt ∷ []) ∷ []) tokens at end (omega arith) (omega arith) (brace_stmt tokens at f)
    (any_ended (ended_weaker [] joins_stmt (form a_block ∷ []) tokens at end refl p)))

pub brace_stmt_stopped : (tokens : List Token) (at stop : ℕ) → first (drop at tokens) ≡ OpenBrace → Stopped [] (form a_block ∷ []) tokens at stop → Stopped joins_stmt (form a_stmt ∷ []) tokens at stop
brace_stmt_stopped tokens at stop f p =
    one_stopped
    (alike_stopped joins_stmt ((form a_block ∷ []) ∷ []) ((form a_stmt ∷ []) ∷ []) tokens at stop (omega arith) (omega arith) (brace_stmt tokens at f)
    (any_stopped (stopped_weaker [] joins_stmt (form a_block ∷ []) tokens at stop refl p)))

abbrev Others : List Symbol
Others = else_ifs ∷ else_body ∷ []

-- arms before others
abbrev pub arms_before : List Arm → List Tested → List Tested
arms_before [] as' = as'
arms_before (a ∷ found) as' = tested a ∷ arms_before found as'

-- arms up to a place
pub record ArmsOn (tokens : List Token) (at place : ℕ) (found : List Arm) : Type 0 where
  pub ahead : at ≤ place
  pub within : place ≤ length tokens
  pub tree : (ds : List Tested) (os : Statements) (rest : List Token) → Elses (drop place tokens) (arms_of ds) os rest → Elses (drop at tokens) (arms_of (arms_before found ds)) os rest
  pub ended : (end : ℕ) → Ended joins_stmt Others tokens place end → Ended joins_stmt Others tokens at end
  pub stopped : (n : ℕ) → Stopped joins_stmt Others tokens place n → Stopped joins_stmt Others tokens at n

pub arms_begin : (tokens : List Token) (at : ℕ) → at ≤ length tokens → ArmsOn tokens at at []
arms_begin tokens at h = record { ahead = omega arith; within = h; tree = λ ds os rest p. p; ended = λ end p. p; stopped = λ n p. p }

before_one : (found : List Arm) (a : Arm) (ds : List Tested) → arms_before (found ++ a ∷ []) ds ≡ arms_before found (tested a ∷ ds)
before_one [] a ds = refl
before_one (x ∷ found) a ds = ap (λ ys. tested x ∷ ys) (before_one found a ds)

before_none : (found : List Arm) → arms_before found [] ≡ map tested found
before_none [] = refl
before_none (x ∷ found) = ap (λ ys. tested x ∷ ys) (before_none found)

pub arms_step : (tokens : List Token) (at place mid : ℕ) (found : List Arm) (a : Arm) → ArmsOn tokens at place found → place ≤ mid → mid ≤ length
    tokens →
    ((ds : List Tested) (os : Statements) (rest : List Token) → Elses (drop mid tokens) (arms_of ds) os rest → Elses (drop place tokens)
    (arms_of (tested a ∷ ds)) os rest)
    → ((end : ℕ) → Ended joins_stmt Others tokens mid end → Ended joins_stmt Others tokens place end) →
    ((n : ℕ) → Stopped joins_stmt Others tokens mid n → Stopped joins_stmt Others tokens place n) → ArmsOn tokens at mid (found ++ a ∷ [])
arms_step tokens at place mid found a i le within t e s = record {
  ahead = omega (arith, i.ahead, le);
  within = within;
  tree = λ ds os rest p. subst (λ ys. Elses (drop at tokens) (arms_of ys) os rest) (sym (before_one found a ds)) (i.tree _ os rest (t ds os rest p));
  ended = λ end p. i.ended end (e end p);
  stopped = λ n p. i.stopped n (s n p);
}

pub arms_with : (tokens : List Token) (at place : ℕ) (found : List Arm) (os : Statements) (rest : List Token) → ArmsOn tokens at place found → Elses
    (drop place tokens) (arms_of []) os rest → Elses (drop at tokens) (arms found) os rest
arms_with tokens at place found os rest i p = subst (λ ys. Elses (drop at tokens) (arms_of ys) os rest) (before_none found) (i.tree [] os rest p)

pub arms_read : (tokens : List Token) (at place : ℕ) (found : List Arm) → ArmsOn tokens at place found → Elses (drop at tokens) (arms found) no_more (drop place tokens)
arms_read tokens at place found i = arms_with tokens at place found no_more (drop place tokens) i no_else
