-- What symbols stand for, in one piece, and the trees of it.
use Rattle.std.proofs.Common.{◌≡◌, ℕ, zero, suc, ◌<◌, ◌≤◌, List, [], ◌∷◌, refl, sym, subst, arith, Bool, true, false, Option, Some, None}
use Rattle.std.proofs.lemmas.Bool.{false≢true}
use Rattle.flame_ops.specs.declared.integers.Op.{Op}
use Rattle.flame_ops.specs.declared.integers.Op.TheVariants.{Add, Sub, Mul, Div, Rem, Lt, Gt, Le, Ge, Eq, Ne}
use Rattle.flame_spec.specs.declared.trees.Sign.{Sign}
use Rattle.flame_spec.specs.declared.trees.SignKind as kind
use Rattle.flame_spec.specs.Trees.{Expression, number, get, Expressions, no_parts, part, Links, no_links, link, Indexed}
use Rattle.flame_lex.specs.declared.token.Token.{Token}
use Rattle.flame_expr.specs.declared.lexemes.Lexeme.{Lexeme}
use Rattle.flame_expr.specs.declared.lexemes.Lexeme.TheVariants.{Star, Slash, Percent, Plus, Minus, Bang, Below, Above, AtMost, AtLeast, Same, Differs, AndAnd, OrOr}
use Rattle.flame_expr.specs.Lexemes.{lexeme_of, first, text, value, line, behind}
use Rattle.flame_expr.specs.OperatorLevels.{operators, signs, op_of, sign_of}
use Rattle.flame_expr.specs.ViablePrefixes.{Form, Symbol, lexeme, form, level, primary, both, either, one_of, maybe, many, index, tail, right_side, whole, Goes, done, match, expand, in_turn, first_part, second_part, this, later, with_it, without, more, enough, Matches}
use Rattle.flame_expr.specs.ExpressionGrammar.{named, field_of, with_signs, chained, all_parts, any_parts, Reads, a_unary, a_chain, a_conjunction, a_disjunction, Tail, no_link, a_link, Conjuncts, no_conjunct, a_conjunct, Disjuncts, no_disjunct, a_disjunct, Signs, no_sign, a_sign, Primary, a_number, a_name, a_field, a_get, in_brackets, Index, no_index, an_index, bracketed, closed}
use Rattle.flame_expr.proofs.LexemeFacts.{or, same, same_equal, same_self, among}

-- a symbol stands for the tokens up to some rest
pub data Means : Symbol → List Token → List Token → Type 0 where
  one : {l : Lexeme} {token : Token} {ts : List Token} → lexeme_of token.kind ≡ l → Means (lexeme l) (token ∷ ts) ts
  side : {n : Form} {ts rest : List Token} → Means (right_side n) ts rest → Means (form n) ts rest
  pair :
      {x y : Symbol} {ts mid rest : List Token}
      → Means x ts mid → Means y mid rest → Means (both x y) ts rest
  former : {x y : Symbol} {ts rest : List Token} → Means x ts rest → Means (either x y) ts rest
  latter : {x y : Symbol} {ts rest : List Token} → Means y ts rest → Means (either x y) ts rest
  head_of :
      {l : Lexeme} {ls : List Lexeme} {ts rest : List Token}
      → Means (lexeme l) ts rest → Means (one_of (l ∷ ls)) ts rest
  tail_of :
      {l : Lexeme} {ls : List Lexeme} {ts rest : List Token}
      → Means (one_of ls) ts rest → Means (one_of (l ∷ ls)) ts rest
  some : {x : Symbol} {ts rest : List Token} → Means x ts rest → Means (maybe x) ts rest
  none : {x : Symbol} {ts : List Token} → Means (maybe x) ts ts
  again :
      {x : Symbol} {ts mid rest : List Token} → Means x ts mid → Means (many x) mid rest → Means (many x) ts rest
  stop : {x : Symbol} {ts : List Token} → Means (many x) ts ts

-- symbols stand for tokens, one after another
pub data MeansAll : List Symbol → List Token → List Token → Type 0 where
  empty : {ts : List Token} → MeansAll [] ts ts
  then' :
      {x : Symbol} {K : List Symbol} {ts mid rest : List Token}
      → Means x ts mid → MeansAll K mid rest → MeansAll (x ∷ K) ts rest

by_side : {n : Form} {K : List Symbol} {ts rest : List Token} → MeansAll (right_side n ∷ K) ts rest → MeansAll (form n ∷ K) ts rest
by_side (then' a b) = then' (side a) b

by_pair : {x y : Symbol} {K : List Symbol} {ts rest : List Token} → MeansAll (x ∷ y ∷ K) ts rest → MeansAll (both x y ∷ K) ts rest
by_pair (then' a (then' b c)) = then' (pair a b) c

by_former : {x y : Symbol} {K : List Symbol} {ts rest : List Token} → MeansAll (x ∷ K) ts rest → MeansAll (either x y ∷ K) ts rest
by_former (then' a b) = then' (former a) b

by_latter : {x y : Symbol} {K : List Symbol} {ts rest : List Token} → MeansAll (y ∷ K) ts rest → MeansAll (either x y ∷ K) ts rest
by_latter (then' a b) = then' (latter a) b

by_head : {l : Lexeme} {ls : List Lexeme} {K : List Symbol} {ts rest : List Token} → MeansAll (lexeme l ∷ K) ts rest → MeansAll (one_of (l ∷ ls) ∷ K) ts rest
by_head (then' a b) = then' (head_of a) b

by_tail : {l : Lexeme} {ls : List Lexeme} {K : List Symbol} {ts rest : List Token} → MeansAll (one_of ls ∷ K) ts rest → MeansAll (one_of (l ∷ ls) ∷ K) ts rest
by_tail (then' a b) = then' (tail_of a) b

by_some : {x : Symbol} {K : List Symbol} {ts rest : List Token} → MeansAll (x ∷ K) ts rest → MeansAll (maybe x ∷ K) ts rest
by_some (then' a b) = then' (some a) b

by_again : {x : Symbol} {K : List Symbol} {ts rest : List Token} → MeansAll (x ∷ many x ∷ K) ts rest → MeansAll (many x ∷ K) ts rest
by_again (then' a (then' b c)) = then' (again a b) c

-- steps that match all, as what the symbols stand for
pub means_all : (K : List Symbol) (ts rest : List Token) → Goes K ts (whole rest) → MeansAll K ts rest
means_all K ts rest done = empty
means_all K ts rest (match {K = J} {ts = us} f h) = then' (one f) (means_all J us rest h)
means_all K ts rest (expand h) = by_side (means_all _ ts rest h)
means_all K ts rest (in_turn h) = by_pair (means_all _ ts rest h)
means_all K ts rest (first_part h) = by_former (means_all _ ts rest h)
means_all K ts rest (second_part h) = by_latter (means_all _ ts rest h)
means_all K ts rest (this h) = by_head (means_all _ ts rest h)
means_all K ts rest (later h) = by_tail (means_all _ ts rest h)
means_all K ts rest (with_it h) = by_some (means_all _ ts rest h)
means_all K ts rest (without h) = then' none (means_all _ ts rest h)
means_all K ts rest (more h) = by_again (means_all _ ts rest h)
means_all K ts rest (enough h) = then' stop (means_all _ ts rest h)

alone : (x : Symbol) (ts rest : List Token) → MeansAll (x ∷ []) ts rest → Means x ts rest
alone x ts rest (then' a empty) = a

pub matches_means : (n : Form) (ts rest : List Token) → Matches n ts rest → Means (form n) ts rest
matches_means n ts rest h = alone (form n) ts rest (means_all (form n ∷ []) ts rest h)

-- one of some lexemes
among_here : (l d : Lexeme) (ls : List Lexeme) → d ≡ l → among d (l ∷ ls) ≡ true
among_here l d ls f = rw (f, same_self l) refl

or_later : (a b : Bool) → b ≡ true → or a b ≡ true
or_later true b h = refl
or_later false b h = h

pub means_one : (ls : List Lexeme) (ts rest : List Token) → Means (one_of ls) ts rest → (among (first ts) ls ≡ true) × (rest ≡ behind ts)
means_one [] ts rest h = elim h [ ]
means_one (l ∷ ls) ts rest (head_of (one {token = token} f)) = (among_here l (lexeme_of token.kind) ls f, refl)
means_one (l ∷ ls) ts rest (tail_of h) = let i = means_one ls ts rest h in (or_later (same l (first ts)) (among (first ts) ls) i.0, i.1)

or_false_right : (a : Bool) → or a false ≡ true → a ≡ true
or_false_right true h = refl
or_false_right false h = h

only_one : (d l : Lexeme) → among d (l ∷ []) ≡ true → d ≡ l
only_one d l h = sym (same_equal l d (or_false_right (same l d) h))

sign_among : (d : Lexeme) → among d signs ≡ true → (s : kind.SignKind) × (sign_of d ≡ Some s)
sign_among Minus h = (kind.TheVariants.Minus, refl)
sign_among Plus h = (kind.TheVariants.Plus, refl)
sign_among Bang h = (kind.TheVariants.Bang, refl)
sign_among d h = absurd (false≢true h)

op_among : (k : ℕ) (d : Lexeme) → k < 4 → among d (operators k) ≡ true → (op : Op) × (op_of k d ≡ Some op)
op_among zero Star h e = (Mul, refl)
op_among zero Slash h e = (Div, refl)
op_among zero Percent h e = (Rem, refl)
op_among zero d h e = absurd (false≢true e)
op_among (suc zero) Plus h e = (Add, refl)
op_among (suc zero) Minus h e = (Sub, refl)
op_among (suc zero) d h e = absurd (false≢true e)
op_among (suc (suc zero)) Below h e = (Lt, refl)
op_among (suc (suc zero)) Above h e = (Gt, refl)
op_among (suc (suc zero)) AtMost h e = (Le, refl)
op_among (suc (suc zero)) AtLeast h e = (Ge, refl)
op_among (suc (suc zero)) d h e = absurd (false≢true e)
op_among (suc (suc (suc zero))) Same h e = (Eq, refl)
op_among (suc (suc (suc zero))) Differs h e = (Ne, refl)
op_among (suc (suc (suc zero))) d h e = absurd (false≢true e)
op_among (suc (suc (suc (suc k)))) d h e = absurd (omega arith)

means_signs : (ts rest : List Token) → Means (many (one_of signs)) ts rest → (ss : List Sign) × Signs ts ss rest
means_signs ts rest stop = ([], no_sign)
means_signs ts rest (again {mid = m} a b) =
    let i = means_one signs ts m a in
    let s = sign_among (first ts) i.0 in
    let r = means_signs m rest b in
    (record { kind = s.0; line = line ts } ∷ r.0, a_sign s.1 (subst (λ us. Signs us r.0 rest) i.1 r.1))

chain_of : (k : ℕ) (ts mid rest : List Token) → k < 4 → ((e : Expression) × Reads k ts e mid) → ((ls : Links) × Tail k mid ls rest) → (e : Expression) × Reads (suc k) ts e rest
chain_of k ts mid rest h e t = (chained e.0 t.0, a_chain h e.1 t.1)

mutual
  pub means_level : (k : ℕ) (ts rest : List Token) → k ≤ 6 → Means (form (level k)) ts rest → (e : Expression) × Reads k ts e rest
  means_level zero ts rest h (side (pair {mid = m} a b)) =
      let s = means_signs ts m a in
      let p = means_primary m rest b in
      (with_signs s.0 p.0, a_unary s.1 p.1)
  means_level (suc zero) ts rest h (side (pair {mid = m} a b)) = chain_of 0 ts m rest (omega arith) (means_level 0 ts m (omega arith) a) (means_tail 0 (operators 0) m rest (omega arith) refl b)
  means_level (suc (suc zero)) ts rest h (side (pair {mid = m} a b)) = chain_of 1 ts m rest (omega arith) (means_level 1 ts m (omega arith) a) (means_tail 1 (operators 1) m rest (omega arith) refl b)
  means_level (suc (suc (suc zero))) ts rest h (side (pair {mid = m} a b)) = chain_of 2 ts m rest (omega arith) (means_level 2 ts m (omega arith) a)
      (means_tail 2 (operators 2) m rest (omega arith) refl b)
  means_level (suc (suc (suc (suc zero)))) ts rest h (side (pair {mid = m} a b)) = chain_of 3 ts m rest (omega arith)
      (means_level 3 ts m (omega arith) a) (means_tail 3 (operators 3) m rest (omega arith) refl b)
  means_level (suc (suc (suc (suc (suc zero))))) ts rest h (side (pair {mid = m} a b)) =
      let e = means_level 4 ts m (omega arith) a in
      let u = means_conjuncts m rest b in
      (all_parts e.0 u.0, a_conjunction refl e.1 u.1)
  means_level (suc (suc (suc (suc (suc (suc zero)))))) ts rest h (side (pair {mid = m} a b)) =
      let e = means_level 5 ts m (omega arith) a in
      let u = means_disjuncts m rest b in
      (any_parts e.0 u.0, a_disjunction refl e.1 u.1)
  means_level (suc (suc (suc (suc (suc (suc (suc k))))))) ts rest h a = absurd (omega arith)

  means_tail : (k : ℕ) (os : List Lexeme) (ts rest : List Token) → k < 4 → os ≡ operators k → Means (many (both (one_of os) (form (level k)))) ts rest → (ls : Links) × Tail k ts ls rest
  means_tail k os ts rest h f stop = (no_links, no_link)
  means_tail k os ts rest h f (again {mid = m} (pair {mid = n} o a) b) =
      let i = means_one os ts n o in
      let op = op_among k (first ts) h (subst (λ xs. among (first ts) xs ≡ true) f i.0) in
      let e = means_level k n m (omega arith) a in
      let t = means_tail k os m rest h f b in
      (link op.0 (line ts) e.0 t.0, a_link op.1 (subst (λ us. Reads k us e.0 m) i.1 e.1) t.1)

  means_conjuncts : (ts rest : List Token) → Means (tail 4) ts rest → (us : Expressions) × Conjuncts ts us rest
  means_conjuncts ts rest stop = (no_parts, no_conjunct)
  means_conjuncts ts rest (again {mid = m} (pair {mid = n} o a) b) =
      let i = means_one (operators 4) ts n o in
      let e = means_level 4 n m (omega arith) a in
      let t = means_conjuncts m rest b in
      (part e.0 t.0, a_conjunct (only_one (first ts) AndAnd i.0) (subst (λ us. Reads 4 us e.0 m) i.1 e.1) t.1)

  means_disjuncts : (ts rest : List Token) → Means (tail 5) ts rest → (us : Expressions) × Disjuncts ts us rest
  means_disjuncts ts rest stop = (no_parts, no_disjunct)
  means_disjuncts ts rest (again {mid = m} (pair {mid = n} o a) b) =
      let i = means_one (operators 5) ts n o in
      let e = means_level 5 n m (omega arith) a in
      let t = means_disjuncts m rest b in
      (part e.0 t.0, a_disjunct (only_one (first ts) OrOr i.0) (subst (λ us. Reads 5 us e.0 m) i.1 e.1) t.1)

  means_primary : (ts rest : List Token) → Means (form primary) ts rest → (e : Expression) × Primary ts e rest
  means_primary ts rest (side (former (one f))) = (number (value ts), a_number f)
  means_primary ts rest (side (latter (former (pair {mid = m} (one f) a)))) =
      let s = means_index m rest a in
      (named (line ts) (text ts) s.0, a_name f s.1)
  means_primary ts rest (side (latter (latter (former (pair {mid = m} (pair (pair (one f) (one g)) (one i)) a))))) =
      let s = means_index m rest a in
      (field_of (line ts) (text ts) (text (behind (behind ts))) s.0, a_field f g i s.1)
  means_primary ts rest (side (latter (latter (latter (former (pair (pair (one f) (one g)) (one i))))))) = (get (line ts) (text ts), a_get f g i)
  means_primary ts rest (side (latter (latter (latter (latter (pair {mid = m} (pair (one {ts = us} f) a) (one g))))))) =
      let e = means_level 6 us m (omega arith) a in
      (e.0, in_brackets (bracketed f (closed e.1 g)))

  pub means_index : (ts rest : List Token) → Means index ts rest → (s : Option Indexed) × Index ts s rest
  means_index ts rest none = (None, no_index)
  means_index ts rest (some (pair {mid = m} (pair (one {ts = us} f) a) (one g))) =
      let e = means_level 6 us m (omega arith) a in
      (Some (record { line = line ts; index = e.0 }), an_index f e.1 g)
