-- A list of tokens is at most one expression.
use Rattle.std.proofs.Common.{◌≡◌, ℕ, zero, suc, List, [], ◌∷◌, ◌++◌, refl, sym, ap, ◌∙◌, subst, arith, Bool, true, false, Option, Some, None}
use Rattle.std.proofs.lemmas.Bool.{false≢true}
use Rattle.std.proofs.lemmas.Option.{same_Some}
use Rattle.flame_spec.specs.declared.trees.Sign.{Sign}
use Rattle.flame_spec.specs.Trees.{Expression, Expressions, part, Links, link, Indexed}
use Rattle.flame_lex.specs.declared.token.Token.{Token}
use Rattle.flame_expr.specs.declared.lexemes.Lexeme.{Lexeme}
use Rattle.flame_expr.specs.declared.lexemes.Lexeme.TheVariants.{Word, Number, Open, Close, OpenBracket, CloseBracket, Arrow, AndAnd, OrOr}
use Rattle.flame_expr.specs.Lexemes.{first, text, line, behind}
use Rattle.flame_expr.specs.OperatorLevels.{operators, joins, sign_of}
use Rattle.flame_expr.specs.ExpressionGrammar.{named, field_of, with_signs, chained, all_parts, any_parts, Reads, a_unary, a_chain, a_conjunction, a_disjunction, Tail, no_link, a_link, Conjuncts, no_conjunct, a_conjunct, Disjuncts, no_disjunct, a_disjunct, Signs, no_sign, a_sign, Primary, a_number, a_name, a_field, a_get, in_brackets, Index, no_index, an_index, Bracketed, bracketed, Closed, closed}
use Rattle.flame_expr.proofs.LexemeFacts.{or, same, same_self, among}
use Rattle.flame_expr.proofs.Operators.{op_stops, op_joins}

-- nothing that makes a form of the level longer is next
abbrev pub IsStop : ℕ → List Token → Type 0
IsStop k ts = among (first ts) (joins k) ≡ false

or_left_false : (a b : Bool) → or a b ≡ false → a ≡ false
or_left_false true b h = h
or_left_false false b h = refl

pub or_right_false : (a b : Bool) → or a b ≡ false → b ≡ false
or_right_false true b h = absurd (false≢true (sym h))
or_right_false false b h = h

among_front : (d : Lexeme) (xs ys : List Lexeme) → among d (xs ++ ys) ≡ false → among d xs ≡ false
among_front d [] ys h = refl
among_front d (x ∷ xs) ys h = let i = or_left_false (same x d) (among d (xs ++ ys)) h in rw (i) (among_front d xs ys (or_right_false (same x d) (among d (xs ++ ys)) h))

pub stop_below : (k : ℕ) (ts : List Token) → IsStop (suc k) ts → IsStop k ts
stop_below k ts h = among_front (first ts) (joins k) (operators k) h

stop_if : (k : ℕ) (d : Lexeme) (ts : List Token) → first ts ≡ d → among d (joins k) ≡ false → IsStop k ts
stop_if k d ts f h = ap (λ x. among x (joins k)) f ∙ h

pub tail_stop : (k : ℕ) (mid rest : List Token) (ls : Links) → Tail k mid ls rest → IsStop (suc k) rest → IsStop k mid
tail_stop k mid rest ls no_link h = stop_below k rest h
tail_stop k mid rest ls (a_link {op = o} s a b) h = op_stops k (first mid) o s

pub conjuncts_stop : (mid rest : List Token) (us : Expressions) → Conjuncts mid us rest → IsStop 5 rest → IsStop 4 mid
conjuncts_stop mid rest us no_conjunct h = stop_below 4 rest h
conjuncts_stop mid rest us (a_conjunct s a b) h = stop_if 4 AndAnd mid s refl

pub disjuncts_stop : (mid rest : List Token) (us : Expressions) → Disjuncts mid us rest → IsStop 6 rest → IsStop 5 mid
disjuncts_stop mid rest us no_disjunct h = stop_below 5 rest h
disjuncts_stop mid rest us (a_disjunct s a b) h = stop_if 5 OrOr mid s refl

bracket_stop : (mid : List Token) → first mid ≡ CloseBracket → IsStop 6 mid
bracket_stop mid f = stop_if 6 CloseBracket mid f refl

close_stop : (mid : List Token) → first mid ≡ Close → IsStop 6 mid
close_stop mid f = stop_if 6 Close mid f refl

primary_no_sign : (ts rest : List Token) (t : Expression) → Primary ts t rest → sign_of (first ts) ≡ None
primary_no_sign ts rest t (a_number f) = ap sign_of f
primary_no_sign ts rest t (a_name f a) = ap sign_of f
primary_no_sign ts rest t (a_field f g h a) = ap sign_of f
primary_no_sign ts rest t (a_get f g h) = ap sign_of f
primary_no_sign ts rest t (in_brackets (bracketed f a)) = ap sign_of f

no_some : {X : Type 0} (o : Option X) (x : X) → o ≡ None → o ≡ Some x → ⊥
no_some o x f g = let h : None ≡ Some x = sym f ∙ g in cc

one_signs : (ts m m' : List Token) (ss ss' : List Sign) → Signs ts ss m → Signs ts ss' m' → sign_of (first m) ≡ None → sign_of (first m') ≡ None → (ss ≡ ss') × (m ≡ m')
one_signs ts m m' ss ss' no_sign no_sign h h' = (refl, refl)
one_signs ts m m' ss ss' no_sign (a_sign {kind = kind} s a) h h' = absurd (no_some (sign_of (first ts)) kind h s)
one_signs ts m m' ss ss' (a_sign {kind = kind} s a) no_sign h h' = absurd (no_some (sign_of (first ts)) kind h' s)
one_signs ts m m' ss ss' (a_sign {kind = kind} {ss = x} s a) (a_sign {kind = kind'} {ss = x'} s' a') h h' =
    let i = one_signs (behind ts) m m' x x' a a' h h' in
    let k : kind ≡ kind' = same_Some kind kind' (sym s ∙ s') in
    (ap (λ z. record { kind = z; line = line ts } ∷ x) k ∙ ap (λ z. record { kind = kind'; line = line ts } ∷ z) i.0, i.1)

pub unlike_words : (a b : Lexeme) (ts : List Token) → same a b ≡ false → first ts ≡ a → first ts ≡ b → ⊥
unlike_words a b ts n f g = false≢true (sym n ∙ ap (λ x. same x b) (sym f ∙ g) ∙ same_self b)

pub opened : (ts r : List Token) (t : Expression) → Bracketed ts t r → first ts ≡ Open
opened ts r t (bracketed f a) = f

joins_next : (d : Lexeme) (ts : List Token) → among d (joins 0) ≡ true → IsStop 0 ts → first ts ≡ d → ⊥
joins_next d ts m h f = false≢true (sym h ∙ ap (λ x. among x (joins 0)) f ∙ m)

-- an index of a name that ends at a stop does not begin with another join
index_next : (d : Lexeme) (ts r : List Token) (s : Option Indexed) → among d (joins 0) ≡ true → same d OpenBracket ≡ false → Index ts s r → IsStop 0 r → first ts ≡ d → ⊥
index_next d ts r s m n no_index h f = joins_next d ts m h f
index_next d ts r s m n (an_index g a k) h f = unlike_words d OpenBracket ts n f g

mutual
  pub one_read : (k : ℕ) (ts r r' : List Token) (t t' : Expression) → Reads k ts t r → Reads k ts t' r' → IsStop k r → IsStop k r' → (t ≡ t') × (r ≡ r')
  one_read zero ts r r' t t' (a_unary {mid = m} {ss = ss} {e = u} a b) (a_unary {mid = m'} {ss = ss'} {e = u'} a' b') h h' =
      let i = one_signs ts m m' ss ss' a a' (primary_no_sign m r u b) (primary_no_sign m' r' u' b') in
      let j = one_primary m' r r' u u' (subst (λ x. Primary x u r) i.1 b) b' h h' in
      (ap (λ x. with_signs x u) i.0 ∙ ap (with_signs ss') j.0, j.1)
  one_read (suc k) ts r r' t t' (a_chain {mid = m} {e = u} {ls = ls} l a b) (a_chain {mid = m'} {e = u'} {ls = ls'} l' a' b') h h' =
      let i = one_read k ts m m' u u' a a' (tail_stop k m r ls b h) (tail_stop k m' r' ls' b' h') in
      let j = one_tail k m' r r' ls ls' (subst (λ x. Tail k x ls r) i.1 b) b' h h' in
      (ap (λ x. chained x ls) i.0 ∙ ap (chained u') j.0, j.1)
  one_read (suc k) ts r r' t t' (a_conjunction {mid = m} {e = u} {us = us} l a b) (a_conjunction {mid = m'} {e = u'} {us = us'} l' a' b') h h' =
      let s : IsStop 5 r = subst (λ n. IsStop (suc n) r) l h in
      let s' : IsStop 5 r' = subst (λ n. IsStop (suc n) r') l h' in
      let i = one_read k ts m m' u u' a a' (subst (λ n. IsStop n m) (sym l) (conjuncts_stop m r us b s)) (subst (λ n. IsStop n m') (sym l) (conjuncts_stop m' r' us' b' s')) in
      let j = one_conjuncts m' r r' us us' (subst (λ x. Conjuncts x us r) i.1 b) b' s s' in
      (ap (λ x. all_parts x us) i.0 ∙ ap (all_parts u') j.0, j.1)
  one_read (suc k) ts r r' t t' (a_disjunction {mid = m} {e = u} {us = us} l a b) (a_disjunction {mid = m'} {e = u'} {us = us'} l' a' b') h h' =
      let s : IsStop 6 r = subst (λ n. IsStop (suc n) r) l h in
      let s' : IsStop 6 r' = subst (λ n. IsStop (suc n) r') l h' in
      let i = one_read k ts m m' u u' a a' (subst (λ n. IsStop n m) (sym l) (disjuncts_stop m r us b s)) (subst (λ n. IsStop n m') (sym l) (disjuncts_stop m' r' us' b' s')) in
      let j = one_disjuncts m' r r' us us' (subst (λ x. Disjuncts x us r) i.1 b) b' s s' in
      (ap (λ x. any_parts x us) i.0 ∙ ap (any_parts u') j.0, j.1)
  one_read (suc k) ts r r' t t' (a_chain l a b) (a_conjunction l' a' b') h h' = absurd (omega (arith, l, l'))
  one_read (suc k) ts r r' t t' (a_chain l a b) (a_disjunction l' a' b') h h' = absurd (omega (arith, l, l'))
  one_read (suc k) ts r r' t t' (a_conjunction l a b) (a_chain l' a' b') h h' = absurd (omega (arith, l, l'))
  one_read (suc k) ts r r' t t' (a_conjunction l a b) (a_disjunction l' a' b') h h' = absurd (omega (arith, l, l'))
  one_read (suc k) ts r r' t t' (a_disjunction l a b) (a_chain l' a' b') h h' = absurd (omega (arith, l, l'))
  one_read (suc k) ts r r' t t' (a_disjunction l a b) (a_conjunction l' a' b') h h' = absurd (omega (arith, l, l'))

  one_tail : (k : ℕ) (ts r r' : List Token) (ls ls' : Links) → Tail k ts ls r → Tail k ts ls' r' → IsStop (suc k) r → IsStop (suc k) r' → (ls ≡ ls') × (r ≡ r')
  one_tail k ts r r' ls ls' no_link no_link h h' = (refl, refl)
  one_tail k ts r r' ls ls' no_link (a_link {op = o} s a b) h h' = absurd (false≢true (sym h ∙ op_joins k (first ts) o s))
  one_tail k ts r r' ls ls' (a_link {op = o} s a b) no_link h h' = absurd (false≢true (sym h' ∙ op_joins k (first ts) o s))
  one_tail k ts r r' ls ls' (a_link {mid = m} {op = o} {e = u} {ls = x} s a b) (a_link {mid = m'} {op = o'} {e = u'} {ls = x'} s' a' b') h h' =
      let i = one_read k (behind ts) m m' u u' a a' (tail_stop k m r x b h) (tail_stop k m' r' x' b' h') in
      let j = one_tail k m' r r' x x' (subst (λ y. Tail k y x r) i.1 b) b' h h' in
      let p : o ≡ o' = same_Some o o' (sym s ∙ s') in
      (ap (λ z. link z (line ts) u x) p ∙ ap (λ z. link o' (line ts) z x) i.0 ∙ ap (link o' (line ts) u') j.0, j.1)

  one_conjuncts : (ts r r' : List Token) (us us' : Expressions) → Conjuncts ts us r → Conjuncts ts us' r' → IsStop 5 r → IsStop 5 r' → (us ≡ us') × (r ≡ r')
  one_conjuncts ts r r' us us' no_conjunct no_conjunct h h' = (refl, refl)
  one_conjuncts ts r r' us us' no_conjunct (a_conjunct s a b) h h' = absurd (false≢true (sym h ∙ ap (λ x. among x (joins 5)) s))
  one_conjuncts ts r r' us us' (a_conjunct s a b) no_conjunct h h' = absurd (false≢true (sym h' ∙ ap (λ x. among x (joins 5)) s))
  one_conjuncts ts r r' us us' (a_conjunct {mid = m} {e = u} {us = x} s a b) (a_conjunct {mid = m'} {e = u'} {us = x'} s' a' b') h h' =
      let i = one_read 4 (behind ts) m m' u u' a a' (conjuncts_stop m r x b h) (conjuncts_stop m' r' x' b' h') in
      let j = one_conjuncts m' r r' x x' (subst (λ y. Conjuncts y x r) i.1 b) b' h h' in
      (ap (λ z. part z x) i.0 ∙ ap (part u') j.0, j.1)

  one_disjuncts : (ts r r' : List Token) (us us' : Expressions) → Disjuncts ts us r → Disjuncts ts us' r' → IsStop 6 r → IsStop 6 r' → (us ≡ us') × (r ≡ r')
  one_disjuncts ts r r' us us' no_disjunct no_disjunct h h' = (refl, refl)
  one_disjuncts ts r r' us us' no_disjunct (a_disjunct s a b) h h' = absurd (false≢true (sym h ∙ ap (λ x. among x (joins 6)) s))
  one_disjuncts ts r r' us us' (a_disjunct s a b) no_disjunct h h' = absurd (false≢true (sym h' ∙ ap (λ x. among x (joins 6)) s))
  one_disjuncts ts r r' us us' (a_disjunct {mid = m} {e = u} {us = x} s a b) (a_disjunct {mid = m'} {e = u'} {us = x'} s' a' b') h h' =
      let i = one_read 5 (behind ts) m m' u u' a a' (disjuncts_stop m r x b h) (disjuncts_stop m' r' x' b' h') in
      let j = one_disjuncts m' r r' x x' (subst (λ y. Disjuncts y x r) i.1 b) b' h h' in
      (ap (λ z. part z x) i.0 ∙ ap (part u') j.0, j.1)

  one_primary : (ts r r' : List Token) (t t' : Expression) → Primary ts t r → Primary ts t' r' → IsStop 0 r → IsStop 0 r' → (t ≡ t') × (r ≡ r')
  one_primary ts r r' t t' (a_number f) (a_number f') h h' = (refl, refl)
  one_primary ts r r' t t' (a_name {s = s} f a) (a_name {s = s'} f' a') h h' =
      let i = one_index (behind ts) r r' s s' a a' h h' in (ap (named (line ts) (text ts)) i.0, i.1)
  one_primary ts r r' t t' (a_field {s = s} f g i a) (a_field {s = s'} f' g' i' a') h h' =
      let j = one_index (behind (behind (behind ts))) r r' s s' a a' h h' in (ap (field_of (line ts) (text ts) (text (behind (behind ts)))) j.0, j.1)
  one_primary ts r r' t t' (a_get f g i) (a_get f' g' i') h h' = (refl, refl)
  one_primary ts r r' t t' (in_brackets a) (in_brackets b) h h' = one_bracketed ts r r' t t' a b
  one_primary ts r r' t t' (a_name {s = s} f a) (a_field f' g' i' a') h h' = absurd (index_next Arrow (behind ts) r s refl refl a h g')
  one_primary ts r r' t t' (a_name {s = s} f a) (a_get f' g' i') h h' = absurd (index_next Open (behind ts) r s refl refl a h g')
  one_primary ts r r' t t' (a_field f g i a) (a_name {s = s'} f' a') h h' = absurd (index_next Arrow (behind ts) r' s' refl refl a' h' g)
  one_primary ts r r' t t' (a_get f g i) (a_name {s = s'} f' a') h h' = absurd (index_next Open (behind ts) r' s' refl refl a' h' g)
  one_primary ts r r' t t' (a_field f g i a) (a_get f' g' i') h h' = absurd (unlike_words Arrow Open (behind ts) refl g g')
  one_primary ts r r' t t' (a_get f g i) (a_field f' g' i' a') h h' = absurd (unlike_words Open Arrow (behind ts) refl g g')
  one_primary ts r r' t t' (a_number f) (a_name f' a') h h' = absurd (unlike_words Number Word ts refl f f')
  one_primary ts r r' t t' (a_number f) (a_field f' g' i' a') h h' = absurd (unlike_words Number Word ts refl f f')
  one_primary ts r r' t t' (a_number f) (a_get f' g' i') h h' = absurd (unlike_words Number Word ts refl f f')
  one_primary ts r r' t t' (a_name f a) (a_number f') h h' = absurd (unlike_words Word Number ts refl f f')
  one_primary ts r r' t t' (a_field f g i a) (a_number f') h h' = absurd (unlike_words Word Number ts refl f f')
  one_primary ts r r' t t' (a_get f g i) (a_number f') h h' = absurd (unlike_words Word Number ts refl f f')
  one_primary ts r r' t t' (a_number f) (in_brackets b) h h' = absurd (unlike_words Number Open ts refl f (opened ts r' t' b))
  one_primary ts r r' t t' (a_name f a) (in_brackets b) h h' = absurd (unlike_words Word Open ts refl f (opened ts r' t' b))
  one_primary ts r r' t t' (a_field f g i a) (in_brackets b) h h' = absurd (unlike_words Word Open ts refl f (opened ts r' t' b))
  one_primary ts r r' t t' (a_get f g i) (in_brackets b) h h' = absurd (unlike_words Word Open ts refl f (opened ts r' t' b))
  one_primary ts r r' t t' (in_brackets a) (a_number f) h h' = absurd (unlike_words Open Number ts refl (opened ts r t a) f)
  one_primary ts r r' t t' (in_brackets a) (a_name f b) h h' = absurd (unlike_words Open Word ts refl (opened ts r t a) f)
  one_primary ts r r' t t' (in_brackets a) (a_field f g i b) h h' = absurd (unlike_words Open Word ts refl (opened ts r t a) f)
  one_primary ts r r' t t' (in_brackets a) (a_get f g i) h h' = absurd (unlike_words Open Word ts refl (opened ts r t a) f)

  pub one_index : (ts r r' : List Token) (s s' : Option Indexed) → Index ts s r → Index ts s' r' → IsStop 0 r → IsStop 0 r' → (s ≡ s') × (r ≡ r')
  one_index ts r r' s s' no_index no_index h h' = (refl, refl)
  one_index ts r r' s s' no_index (an_index f a g) h h' = absurd (joins_next OpenBracket ts refl h f)
  one_index ts r r' s s' (an_index f a g) no_index h h' = absurd (joins_next OpenBracket ts refl h' f)
  one_index ts r r' s s' (an_index {mid = m} {e = u} f a g) (an_index {mid = m'} {e = u'} f' a' g') h h' =
      let i = one_read 6 (behind ts) m m' u u' a a' (bracket_stop m g) (bracket_stop m' g') in
      (ap (λ z. Some (record { line = line ts; index = z })) i.0, ap behind i.1)

  pub one_bracketed : (ts r r' : List Token) (t t' : Expression) → Bracketed ts t r → Bracketed ts t' r' → (t ≡ t') × (r ≡ r')
  one_bracketed ts r r' t t' (bracketed f a) (bracketed f' a') = one_closed (behind ts) r r' t t' a a'

  one_closed : (ts r r' : List Token) (t t' : Expression) → Closed ts t r → Closed ts t' r' → (t ≡ t') × (r ≡ r')
  one_closed ts r r' t t' (closed {mid = m} a f) (closed {mid = m'} a' f') =
      let i = one_read 6 ts m m' t t' a a' (close_stop m f) (close_stop m' f') in
      (i.0, ap behind i.1)

pub at_most_one : (ts : List Token) (t u : Expression) → Reads 6 ts t [] → Reads 6 ts u [] → t ≡ u
at_most_one ts t u a b = (one_read 6 ts [] [] t u a b refl refl).0
