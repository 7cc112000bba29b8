-- Assignments, calls and the like, token by token.
use Rattle.std.proofs.Common.{◌≡◌, ℕ, pos, ◌+◌, List, drop, sym, ap, ◌∙◌, subst, Option, Some}
use Rattle.flame_ops.specs.declared.integers.Op.{Op}
use Rattle.flame_spec.specs.Trees.{number, Expressions, Stored, plain, called, Indexed, Assigned, call, break, continue}
use Rattle.flame_lex.specs.declared.token.Token.{Token}
use Rattle.flame_expr.specs.declared.lexemes.Lexeme.TheVariants.{Word, Open, Close, Semicolon, Break, Continue}
use Rattle.flame_expr.specs.Lexemes.{first, text, line}
use Rattle.flame_expr.specs.ExpressionGrammar.{Index}
use Rattle.flame_expr.proofs.Places.{behind-drop}
use Rattle.flame_parse.specs.AssignmentOperators.{IsCall, set_op, step_op}
use Rattle.flame_parse.specs.StatementGrammar.{Args, Stores, a_call, Place, placed, Assignment, sets, steps_behind, steps_before, Called, Simple, calling, breaking, continuing}
use Rattle.flame_expr.proofs.Readings.{at_next, from_next, two_behind}
use Rattle.flame_parse.proofs.Runs.{next_of, end_of}

pub call_read : (tokens : List Token) (at close end : ℕ) (us : Expressions) → IsCall (drop at tokens) → Args (drop (at + 1 + 1) tokens) us
    (drop close tokens) → first (drop close tokens) ≡ Close → end ≡ close + 1 → Stores (drop at tokens)
    (called (line (drop at tokens)) (text (drop at tokens)) us) (drop end tokens)
call_read tokens at close end us c r f n =
    end_of (Stores (drop at tokens) (called (line (drop at tokens)) (text (drop at tokens)) us)) tokens close end n
    (a_call c.0 c.1 (subst (λ ts. Args ts us (drop close tokens)) (sym (two_behind tokens at)) r) f)

pub place_read : (tokens : List Token) (at mid : ℕ) (s : Option Indexed) (rest : List Token) → first (drop at tokens) ≡ Word → mid ≡ at + 1 → Index
    (drop mid tokens) s rest → Place (drop at tokens) (text (drop at tokens)) s rest
place_read tokens at mid s rest f n r = placed f (next_of (λ ts. Index ts s rest) tokens at mid n r)

abbrev pub Made : ℕ → List ℕ → Option Indexed → Option Op → ℕ → Stored → Assigned
Made n word s op m v = record { line = n; name = word; subscript = s; op = op; op_line = m; value = v }

pub sets_read : (tokens : List Token) (at mid end : ℕ) (word : List ℕ) (s : Option Indexed) (op : Option Op) (v : Stored) → Place (drop at tokens)
    word s (drop mid tokens) → set_op (first (drop mid tokens)) ≡ Some op → Stores (drop (mid + 1) tokens) v (drop end tokens) → Assignment
    (drop at tokens) (Made (line (drop at tokens)) word s op (line (drop mid tokens)) v) (drop end tokens)
sets_read tokens at mid end word s op v p g r = sets p g (at_next (λ ts. Stores ts v (drop end tokens)) tokens mid r)

pub step_behind_read : (tokens : List Token) (at mid : ℕ) (word : List ℕ) (s : Option Indexed) (op : Op) → Place (drop at tokens) word s
    (drop mid tokens) → step_op (first (drop mid tokens)) ≡ Some op → Assignment (drop at tokens)
    (Made (line (drop at tokens)) word s (Some op) (line (drop mid tokens)) (plain (number (pos 1)))) (drop (mid + 1) tokens)
step_behind_read tokens at mid word s op p g =
    from_next (Assignment (drop at tokens) (Made (line (drop at tokens)) word s (Some op) (line (drop mid tokens)) (plain (number (pos 1))))) tokens
    mid (steps_behind p g)

pub step_before_read : (tokens : List Token) (at : ℕ) (word : List ℕ) (s : Option Indexed) (op : Op) (rest : List Token) → step_op
    (first (drop at tokens)) ≡ Some op → Place (drop (at + 1) tokens) word s rest → Assignment (drop at tokens)
    (Made (line (drop (at + 1) tokens)) word s (Some op) (line (drop at tokens)) (plain (number (pos 1)))) rest
step_before_read tokens at word s op rest g p =
    subst (λ ts. Assignment (drop at tokens) (Made (line ts) word s (Some op) (line (drop at tokens)) (plain (number (pos 1)))) rest) (behind-drop tokens at)
    (steps_before g (at_next (λ ts. Place ts word s rest) tokens at p))

pub breaking_read : (tokens : List Token) (at end : ℕ) → first (drop at tokens) ≡ Break → first (drop (at + 1) tokens) ≡ Semicolon → end ≡ at + 1 + 1
    → Simple (drop at tokens) (break (line (drop at tokens))) (drop end tokens)
breaking_read tokens at end f g n =
    subst (Simple (drop at tokens) (break (line (drop at tokens)))) (two_behind tokens at ∙ ap (λ m. drop m tokens) (sym n))
    (breaking f (ap first (behind-drop tokens at) ∙ g))

pub continuing_read : (tokens : List Token) (at end : ℕ) → first (drop at tokens) ≡ Continue → first (drop (at + 1) tokens) ≡ Semicolon → end ≡ at + 1
    + 1 → Simple (drop at tokens) (continue (line (drop at tokens))) (drop end tokens)
continuing_read tokens at end f g n =
    subst (Simple (drop at tokens) (continue (line (drop at tokens)))) (two_behind tokens at ∙ ap (λ m. drop m tokens) (sym n))
    (continuing f (ap first (behind-drop tokens at) ∙ g))

pub calling_read : (tokens : List Token) (at mid end : ℕ) (us : Expressions) → first (drop at tokens) ≡ Word → first (drop (at + 1) tokens) ≡ Open →
    Called (drop (at + 1 + 1) tokens) us (drop mid tokens) → first (drop mid tokens) ≡ Semicolon → end ≡ mid + 1 → Simple (drop at tokens)
    (call (line (drop at tokens)) (text (drop at tokens)) us) (drop end tokens)
calling_read tokens at mid end us f g r h n =
    end_of (Simple (drop at tokens) (call (line (drop at tokens)) (text (drop at tokens)) us)) tokens mid end n
    (calling f (ap first (behind-drop tokens at) ∙ g) (subst (λ ts. Called ts us (drop mid tokens)) (sym (two_behind tokens at)) r) h)
