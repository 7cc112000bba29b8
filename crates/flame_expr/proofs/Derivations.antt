-- What the grammar reads is reached by steps.
use Rattle.std.proofs.Common.{◌≡◌, inl, inr, ℕ, zero, suc, List, [], ◌∷◌, refl, sym, subst, Option}
use Rattle.flame_spec.specs.declared.trees.Sign.{Sign}
use Rattle.flame_spec.specs.Trees.{Expression, Expressions, Links, Indexed}
use Rattle.flame_lex.specs.declared.token.Token.{Token}
use Rattle.flame_expr.specs.declared.lexemes.Lexeme.{Lexeme}
use Rattle.flame_expr.specs.declared.lexemes.Lexeme.TheVariants.{Word, Number, Open, Close, OpenBracket, CloseBracket, Arrow, AndAnd, OrOr}
use Rattle.flame_expr.specs.Lexemes.{first, behind}
use Rattle.flame_expr.specs.OperatorLevels.{signs}
use Rattle.flame_expr.specs.ViablePrefixes.{Symbol, lexeme, form, level, primary, expr, index, one_of, many, tail, End, Goes, expand, in_turn, without, enough}
use Rattle.flame_expr.specs.ExpressionGrammar.{Reads, a_unary, a_chain, a_conjunction, a_disjunction, Tail, no_link, a_link, Conjuncts, no_conjunct, a_conjunct, Disjuncts, no_disjunct, a_disjunct, Signs, no_sign, a_sign, Primary, a_number, a_name, a_field, a_get, in_brackets, Index, no_index, an_index, Bracketed, bracketed, Closed, closed}
use Rattle.flame_expr.proofs.Heads.{matched}
use Rattle.flame_expr.proofs.Parts.{any_heads, pasts, GoesAny, go_on}
use Rattle.flame_expr.proofs.LevelFacts.{enters_tail, enters_signs}

one_rest : (X Y K : List Symbol) (ts : List Token) (e : End) (a : Lexeme) → pasts (any_heads (X ∷ []) a) ≡ Y ∷ [] → first ts ≡ a → GoesAny (Y ∷ []) K
    (behind ts) e → GoesAny (pasts (any_heads (X ∷ []) a)) K (behind ts) e
one_rest X Y K ts e a g f h = subst (λ A. GoesAny A K (behind ts) e) (sym g) h

mutual
  pub reads_go : (k : ℕ) (K : List Symbol) (ts mid : List Token) (t : Expression) (e : End) → Reads k ts t mid → Goes K mid e → Goes (form (level k) ∷ K) ts e
  reads_go zero K ts mid t e (a_unary {mid = m} {ss = ss} {e = u} a b) h = expand (in_turn (signs_go (form primary ∷ K) ts m ss e a (primary_goes K m mid u e b h)))
  reads_go (suc k) K ts mid t e (a_chain {mid = m} {e = u} {ls = ls} l a b) h = expand (in_turn (reads_go k (tail k ∷ K) ts m u e a (tail_goes k K m mid ls e b h)))
  reads_go (suc k) K ts mid t e (a_conjunction {mid = m} {e = u} {us = us} l a b) h = expand
      (in_turn (reads_go k (tail k ∷ K) ts m u e a (subst (λ j. Goes (tail j ∷ K) m e) (sym l) (conjuncts_go K m mid us e b h))))
  reads_go (suc k) K ts mid t e (a_disjunction {mid = m} {e = u} {us = us} l a b) h = expand
      (in_turn (reads_go k (tail k ∷ K) ts m u e a (subst (λ j. Goes (tail j ∷ K) m e) (sym l) (disjuncts_go K m mid us e b h))))

  tail_goes : (k : ℕ) (K : List Symbol) (ts mid : List Token) (ls : Links) (e : End) → Tail k ts ls mid → Goes K mid e → Goes (tail k ∷ K) ts e
  tail_goes k K ts mid ls e no_link h = enough h
  tail_goes k K ts mid ls e (a_link {mid = m} {op = o} {e = u} {ls = x} s a b) h =
      let p = enters_tail k (first ts) o s in
      go_on (tail k ∷ []) K ts e (first ts) refl
      (one_rest (tail k ∷ []) (form (level k) ∷ tail k ∷ []) K ts e (first ts) p.2 refl
      (inl (reads_go k (tail k ∷ K) (behind ts) m u e a (tail_goes k K m mid x e b h))))

  conjuncts_go : (K : List Symbol) (ts mid : List Token) (us : Expressions) (e : End) → Conjuncts ts us mid → Goes K mid e → Goes (tail 4 ∷ K) ts e
  conjuncts_go K ts mid us e no_conjunct h = enough h
  conjuncts_go K ts mid us e (a_conjunct {mid = m} {e = u} {us = x} s a b) h = go_on (tail 4 ∷ []) K ts e AndAnd s (inl (reads_go 4 (tail 4 ∷ K) (behind ts) m u e a (conjuncts_go K m mid x e b h)))

  disjuncts_go : (K : List Symbol) (ts mid : List Token) (us : Expressions) (e : End) → Disjuncts ts us mid → Goes K mid e → Goes (tail 5 ∷ K) ts e
  disjuncts_go K ts mid us e no_disjunct h = enough h
  disjuncts_go K ts mid us e (a_disjunct {mid = m} {e = u} {us = x} s a b) h = go_on (tail 5 ∷ []) K ts e OrOr s (inl (reads_go 5 (tail 5 ∷ K) (behind ts) m u e a (disjuncts_go K m mid x e b h)))

  signs_go : (K : List Symbol) (ts mid : List Token) (ss : List Sign) (e : End) → Signs ts ss mid → Goes K mid e → Goes (many (one_of signs) ∷ K) ts e
  signs_go K ts mid ss e no_sign h = enough h
  signs_go K ts mid ss e (a_sign {kind = kind} {ss = x} s a) h =
      let p = enters_signs (first ts) kind s in
      go_on (many (one_of signs) ∷ []) K ts e (first ts) refl
      (one_rest (many (one_of signs) ∷ []) (many (one_of signs) ∷ []) K ts e (first ts) p.2 refl (inl (signs_go K (behind ts) mid x e a h)))

  primary_goes : (K : List Symbol) (ts mid : List Token) (t : Expression) (e : End) → Primary ts t mid → Goes K mid e → Goes (form primary ∷ K) ts e
  primary_goes K ts mid t e (a_number f) h = go_on (form primary ∷ []) K ts e Number f (inl h)
  primary_goes K ts mid t e (a_name {s = s} f a) h = go_on (form primary ∷ []) K ts e Word f (inl (index_goes K (behind ts) mid s e a h))
  primary_goes K ts mid t e (a_field {s = s} f g i a) h = go_on (form primary ∷ []) K ts e Word f
      (inr
      (inl
      (matched Arrow (lexeme Word ∷ index ∷ K) (behind ts) e refl (sym g)
      (matched Word (index ∷ K) (behind (behind ts)) e refl (sym i) (index_goes K (behind (behind (behind ts))) mid s e a h)))))
  primary_goes K ts mid t e (a_get f g i) h = go_on (form primary ∷ []) K ts e Word f
      (inr (inr (inl (matched Open (lexeme Close ∷ K) (behind ts) e refl (sym g) (matched Close K (behind (behind ts)) e refl (sym i) h)))))
  primary_goes K ts mid t e (in_brackets a) h = bracketed_goes K ts mid t e a h

  pub index_goes : (K : List Symbol) (ts mid : List Token) (s : Option Indexed) (e : End) → Index ts s mid → Goes K mid e → Goes (index ∷ K) ts e
  index_goes K ts mid s e no_index h = without h
  index_goes K ts mid s e (an_index {mid = m} {e = u} f a g) h = go_on (index ∷ []) K ts e OpenBracket f
      (inl (reads_go 6 (lexeme CloseBracket ∷ K) (behind ts) m u e a (matched CloseBracket K m e refl (sym g) h)))

  bracketed_goes : (K : List Symbol) (ts mid : List Token) (t : Expression) (e : End) → Bracketed ts t mid → Goes K mid e → Goes (form primary ∷ K) ts e
  bracketed_goes K ts mid t e (bracketed f a) h = go_on (form primary ∷ []) K ts e Open f (inl (closed_goes K (behind ts) mid t e a h))

  pub closed_goes : (K : List Symbol) (ts mid : List Token) (t : Expression) (e : End) → Closed ts t mid → Goes K mid e → Goes (expr ∷ lexeme Close ∷ K) ts e
  closed_goes K ts mid t e (closed {mid = m} a f) h = reads_go 6 (lexeme Close ∷ K) ts m t e a (matched Close K m e refl (sym f) h)

pub brackets_go : (K : List Symbol) (ts mid : List Token) (t : Expression) (e : End) → Bracketed ts t mid → Goes K mid e → Goes (lexeme Open ∷ expr ∷ lexeme Close ∷ K) ts e
brackets_go K ts mid t e (bracketed f a) h = matched Open (expr ∷ lexeme Close ∷ K) ts e refl (sym f) (closed_goes K (behind ts) mid t e a h)
