-- What readers have read, token by token.
use Rattle.std.proofs.Common.{◌≡◌, ℕ, suc, ◌+◌, ◌<◌, ◌≤◌, List, [], ◌∷◌, ◌++◌, length, drop, refl, sym, ap, ◌∙◌, subst, arith, Option, Some, None, append_assoc, append-nil}
use Rattle.flame_ops.specs.declared.integers.Op.{Op}
use Rattle.flame_spec.specs.declared.trees.Sign.{Sign}
use Rattle.flame_spec.specs.declared.trees.SignKind.{SignKind}
use Rattle.flame_spec.specs.declared.trees.Link.{Link}
use Rattle.flame_spec.specs.declared.trees.Expr.{Expr}
use Rattle.flame_spec.specs.Trees.{Expression, number, get, chain, Expressions, no_parts, part, Links, no_links, link, Indexed}
use Rattle.flame_spec.specs.Seen.{links, expression, expressions}
use Rattle.flame_lex.specs.declared.token.Token.{Token}
use Rattle.flame_expr.specs.declared.lexemes.Lexeme.{Lexeme}
use Rattle.flame_expr.specs.declared.lexemes.Lexeme.TheVariants.{Word, Number, Open, Close, OpenBracket, CloseBracket, Arrow, AndAnd, OrOr}
use Rattle.flame_expr.specs.Lexemes.{first, text, value, line, behind}
use Rattle.flame_expr.specs.OperatorLevels.{operators, signs, op_of, sign_of, joins}
use Rattle.flame_expr.specs.ViablePrefixes.{form, level, one_of, many, tail}
use Rattle.flame_expr.specs.ExpressionGrammar.{named, field_of, chained, Reads, Tail, no_link, a_link, Conjuncts, a_conjunct, Disjuncts, a_disjunct, Signs, no_sign, a_sign, Primary, a_number, a_name, a_field, a_get, Index, an_index, Bracketed, bracketed, Closed, closed}
use Rattle.flame_expr.specs.ReadParts.{Ended, Stopped}
use Rattle.flame_expr.proofs.LexemeFacts.{among, not_among}
use Rattle.flame_expr.proofs.Places.{behind-drop}
use Rattle.flame_expr.proofs.Ends.{one_ended, here_ended, begin_ended, begin_stopped, ended_then, stopped_then, stopped_before, form_ended, form_stopped}
use Rattle.flame_expr.proofs.LevelFacts.{Enters, fine_tail, enters_tail, tail_ends, none_among, enters_signs, signs_end}

-- links before others
abbrev pub before : List Link → Links → Links
before [] ls = ls
before (l ∷ found) ls = link l.op l.line (expression l.right) (before found ls)

-- expressions before others
abbrev pub ahead_of : List Expr → Expressions → Expressions
ahead_of [] us = us
ahead_of (e ∷ found) us = part (expression e) (ahead_of found us)

-- what holds of the tokens behind one that is read holds of those at the next place
pub at_next : (P : List Token → Type 0) (tokens : List Token) (at : ℕ) → P (drop (at + 1) tokens) → P (behind (drop at tokens))
at_next P tokens at h = subst P (sym (behind-drop tokens at)) h

pub from_next : (P : List Token → Type 0) (tokens : List Token) (at : ℕ) → P (behind (drop at tokens)) → P (drop (at + 1) tokens)
from_next P tokens at h = subst P (behind-drop tokens at) h

-- forms of one word
pub name_read : (tokens : List Token) (at : ℕ) (s : Option Indexed) (rest : List Token) → first (drop at tokens) ≡ Word → Index (drop (at + 1) tokens)
    s rest → Primary (drop at tokens) (named (line (drop at tokens)) (text (drop at tokens)) s) rest
name_read tokens at s rest a r = a_name a (at_next (λ ts. Index ts s rest) tokens at r)

pub number_read : (tokens : List Token) (at : ℕ) → first (drop at tokens) ≡ Number → Primary (drop at tokens) (number (value (drop at tokens))) (drop (at + 1) tokens)
number_read tokens at a = from_next (Primary (drop at tokens) (number (value (drop at tokens)))) tokens at (a_number a)

pub two_behind : (tokens : List Token) (at : ℕ) → behind (behind (drop at tokens)) ≡ drop (at + 1 + 1) tokens
two_behind tokens at = ap behind (behind-drop tokens at) ∙ behind-drop tokens (at + 1)

three_behind : (tokens : List Token) (at : ℕ) → behind (behind (behind (drop at tokens))) ≡ drop (at + 1 + 1 + 1) tokens
three_behind tokens at = ap behind (two_behind tokens at) ∙ behind-drop tokens (at + 1 + 1)

pub field_read : (tokens : List Token) (at mid : ℕ) (s : Option Indexed) (rest : List Token) → first (drop at tokens) ≡ Word → first
    (drop (at + 1) tokens) ≡ Arrow → first (drop (at + 1 + 1) tokens) ≡ Word → mid ≡ at + 1 + 1 + 1 → Index (drop mid tokens) s rest → Primary
    (drop at tokens) (field_of (line (drop at tokens)) (text (drop at tokens)) (text (drop (at + 1 + 1) tokens)) s) rest
field_read tokens at mid s rest a b c d r =
    let ts = drop at tokens in
    let y = two_behind tokens at in
    let z : drop mid tokens ≡ behind (behind (behind ts)) = ap (λ n. drop n tokens) d ∙ sym (three_behind tokens at) in
    let h : Primary ts (field_of (line ts) (text ts) (text (behind (behind ts))) s) rest = a_field a (ap first (behind-drop tokens at) ∙ b) (ap first y ∙ c) (subst (λ ts. Index ts s rest) z r) in
    subst (λ v. Primary ts (field_of (line ts) (text ts) (text v) s) rest) y h

pub get_read : (tokens : List Token) (at end : ℕ) → first (drop at tokens) ≡ Word → first (drop (at + 1) tokens) ≡ Open → first
    (drop (at + 1 + 1) tokens) ≡ Close → end ≡ at + 1 + 1 + 1 → Primary (drop at tokens) (get (line (drop at tokens)) (text (drop at tokens)))
    (drop end tokens)
get_read tokens at end a b c d =
    let ts = drop at tokens in
    subst (Primary ts (get (line ts) (text ts))) (three_behind tokens at ∙ ap (λ n. drop n tokens) (sym d)) (a_get a (ap first (behind-drop tokens at) ∙ b) (ap first (two_behind tokens at) ∙ c))

pub index_read : (tokens : List Token) (at close end : ℕ) (e : Expression) → first (drop at tokens) ≡ OpenBracket → Reads 6 (drop (at + 1) tokens) e
    (drop close tokens) → first (drop close tokens) ≡ CloseBracket → end ≡ close + 1 → Index (drop at tokens)
    (Some (record { line = line (drop at tokens); index = e })) (drop end tokens)
index_read tokens at close end e a r c g =
    let s : Option Indexed = Some (record { line = line (drop at tokens); index = e }) in
    subst (λ n. Index (drop at tokens) s (drop n tokens)) (sym g) (from_next (Index (drop at tokens) s) tokens close (an_index a (at_next (λ ts. Reads 6 ts e (drop close tokens)) tokens at r) c))

pub closed_read : (tokens : List Token) (at close end : ℕ) (e : Expression) → Reads 6 (drop at tokens) e (drop close tokens) → first
    (drop close tokens) ≡ Close → end ≡ close + 1 → Closed (drop at tokens) e (drop end tokens)
closed_read tokens at close end e r c g = subst (λ n. Closed (drop at tokens) e (drop n tokens)) (sym g) (from_next (Closed (drop at tokens) e) tokens close (closed r c))

pub bracketed_read : (tokens : List Token) (at inside end : ℕ) (e : Expression) → first (drop at tokens) ≡ Open → inside ≡ at + 1 → Closed
    (drop inside tokens) e (drop end tokens) → Bracketed (drop at tokens) e (drop end tokens)
bracketed_read tokens at inside end e a f r = bracketed a (at_next (λ ts. Closed ts e (drop end tokens)) tokens at (subst (λ n. Closed (drop n tokens) e (drop end tokens)) f r))

-- signs up to a place: what is read from there is read from the start
pub record SignsOn (tokens : List Token) (at place : ℕ) (found : List Sign) : Type 0 where
  pub ahead : at ≤ place
  pub within : place ≤ length tokens
  pub tree : (ss : List Sign) (rest : List Token) → Signs (drop place tokens) ss rest → Signs (drop at tokens) (found ++ ss) rest
  pub ended : (end : ℕ) → Ended signs (many (one_of signs) ∷ []) tokens place end → Ended signs (many (one_of signs) ∷ []) tokens at end

pub signs_begin : (tokens : List Token) (at : ℕ) → at ≤ length tokens → SignsOn tokens at at []
signs_begin tokens at h = record { ahead = omega arith; within = h; tree = λ ss rest s. s; ended = λ end e. e }

pub signs_step : (tokens : List Token) (at place : ℕ) (found : List Sign) (kind : SignKind) → SignsOn tokens at place found → sign_of
    (first (drop place tokens)) ≡ Some kind → place < length tokens → SignsOn tokens at (place + 1)
    (found ++ record { kind = kind; line = line (drop place tokens) } ∷ [])
signs_step tokens at place found kind i s h =
    let p = enters_signs (first (drop place tokens)) kind s in
    record {
      ahead = omega (arith, i.ahead);
      within = omega (arith, h);
      tree = λ ss rest x. subst (λ ys. Signs (drop at tokens) ys rest)
          (sym (append_assoc found ((record { kind = kind; line = line (drop place tokens) }) ∷ []) ss))
          (i.tree _ rest (a_sign s (at_next (λ ts. Signs ts ss rest) tokens place x)));
      ended = λ end x. i.ended end (begin_ended signs (many (one_of signs) ∷ []) (many (one_of signs) ∷ []) tokens place end (first (drop place tokens)) p.0 p.1 p.2 refl x);
    }

pub signs_read : (tokens : List Token) (at place : ℕ) (found : List Sign) → SignsOn tokens at place found → Signs (drop at tokens) found (drop place tokens)
signs_read tokens at place found i = subst (λ ys. Signs (drop at tokens) ys (drop place tokens)) (append-nil found) (i.tree [] _ no_sign)

pub signs_ended : (tokens : List Token) (at place : ℕ) (found : List Sign) → SignsOn tokens at place found → sign_of (first (drop place tokens)) ≡
    None → Ended signs (many (one_of signs) ∷ []) tokens at place
signs_ended tokens at place found i n = i.ended place (one_ended (here_ended signs ((many (one_of signs) ∷ []) ∷ []) tokens place i.within (signs_end (first (drop place tokens)) n)))

pub chain-chained : (e : Expression) (ls : List Link) → 0 < length ls → chain e (links ls) ≡ chained e (links ls)
chain-chained e [] h = absurd (omega arith)
chain-chained e (l ∷ ls) h = refl

-- links up to a place
pub record LinksOn (k : ℕ) (tokens : List Token) (at place : ℕ) (found : List Link) : Type 0 where
  pub ahead : at ≤ place
  pub within : place ≤ length tokens
  pub tree : (ls : Links) (rest : List Token) → Tail k (drop place tokens) ls rest → Tail k (drop at tokens) (before found ls) rest
  pub ended : (end : ℕ) → Ended (joins (suc k)) (tail k ∷ []) tokens place end → Ended (joins (suc k)) (tail k ∷ []) tokens at end
  pub stopped : (n : ℕ) → Stopped (joins (suc k)) (tail k ∷ []) tokens place n → Stopped (joins (suc k)) (tail k ∷ []) tokens at n

-- an operator and what is behind it, at a place
op_ended : (k : ℕ) (tokens : List Token) (place mid end : ℕ) (op : Op) → k < 6 → op_of k (first (drop place tokens)) ≡ Some op → Ended (joins k)
    (form (level k) ∷ []) tokens (place + 1) mid → Ended (joins (suc k)) (tail k ∷ []) tokens mid end → Ended (joins (suc k)) (tail k ∷ []) tokens place
    end
op_ended k tokens place mid end op h s x y =
    let p = enters_tail k (first (drop place tokens)) op s in
    begin_ended (joins (suc k)) (tail k ∷ []) (form (level k) ∷ tail k ∷ []) tokens place end (first (drop place tokens)) p.0 p.1 p.2 refl
    (ended_then (joins k) (joins (suc k)) (form (level k) ∷ []) (tail k ∷ []) tokens (place + 1) mid end (fine_tail k h) x y)

op_stopped : (k : ℕ) (tokens : List Token) (place mid n : ℕ) (op : Op) → k < 6 → op_of k (first (drop place tokens)) ≡ Some op → Ended (joins k)
    (form (level k) ∷ []) tokens (place + 1) mid → Stopped (joins (suc k)) (tail k ∷ []) tokens mid n → Stopped (joins (suc k)) (tail k ∷ []) tokens
    place n
op_stopped k tokens place mid n op h s x y =
    let p = enters_tail k (first (drop place tokens)) op s in
    begin_stopped (joins (suc k)) (tail k ∷ []) (form (level k) ∷ tail k ∷ []) tokens place n (first (drop place tokens)) p.0 p.1 p.2 refl
    (stopped_then (joins k) (joins (suc k)) (form (level k) ∷ []) (tail k ∷ []) tokens (place + 1) mid n (fine_tail k h) x y)

pub op_part_stopped : (k : ℕ) (tokens : List Token) (place n : ℕ) (op : Op) → k < 6 → op_of k (first (drop place tokens)) ≡ Some op → Stopped
    (joins k) (form (level k) ∷ []) tokens (place + 1) n → Stopped (joins (suc k)) (tail k ∷ []) tokens place n
op_part_stopped k tokens place n op h s x =
    let p = enters_tail k (first (drop place tokens)) op s in
    begin_stopped (joins (suc k)) (tail k ∷ []) (form (level k) ∷ tail k ∷ []) tokens place n (first (drop place tokens)) p.0 p.1 p.2 refl
    (stopped_before (joins k) (joins (suc k)) (form (level k) ∷ []) (tail k ∷ []) tokens (place + 1) n (fine_tail k h) x)

before_one : (found : List Link) (l : Link) (ls : Links) → before (found ++ l ∷ []) ls ≡ before found (link l.op l.line (expression l.right) ls)
before_one [] l ls = refl
before_one (x ∷ found) l ls = ap (λ ys. link x.op x.line (expression x.right) ys) (before_one found l ls)

pub links_step : (k : ℕ) (tokens : List Token) (at place mid : ℕ) (found : List Link) (l : Link) → k < 6 → LinksOn k tokens at place found → op_of k
    (first (drop place tokens)) ≡ Some l.op → l.line ≡ line (drop place tokens) → place < mid → Reads k (drop (place + 1) tokens) (expression l.right)
    (drop mid tokens) → Ended (joins k) (form (level k) ∷ []) tokens (place + 1) mid → LinksOn k tokens at mid (found ++ l ∷ [])
links_step k tokens at place mid found l h i s n m r x = record {
  ahead = omega (arith, i.ahead);
  within = x.within;
  tree = λ ls rest t. subst (λ ys. Tail k (drop at tokens) ys rest) (sym (before_one found l ls)) (i.tree _ rest
      (subst (λ m. Tail k (drop place tokens) (link l.op m (expression l.right) ls) rest) (sym n)
      (a_link s (at_next (λ ts. Reads k ts (expression l.right) (drop mid tokens)) tokens place r) t)));
  ended = λ end e. i.ended end (op_ended k tokens place mid end l.op h s x e);
  stopped = λ n e. i.stopped n (op_stopped k tokens place mid n l.op h s x e);
}

before_none : (found : List Link) → before found no_links ≡ links found
before_none [] = refl
before_none (x ∷ found) = ap (λ ys. link x.op x.line (expression x.right) ys) (before_none found)

pub links_read : (k : ℕ) (tokens : List Token) (at place : ℕ) (found : List Link) → LinksOn k tokens at place found → Tail k (drop at tokens) (links found) (drop place tokens)
links_read k tokens at place found i = subst (λ ys. Tail k (drop at tokens) ys (drop place tokens)) (before_none found) (i.tree no_links _ no_link)

pub links_ended : (k : ℕ) (tokens : List Token) (at place : ℕ) (found : List Link) → k < 4 → LinksOn k tokens at place found → op_of k
    (first (drop place tokens)) ≡ None → Ended (joins (suc k)) (tail k ∷ []) tokens at place
links_ended k tokens at place found h i n =
    i.ended place
    (one_ended
    (here_ended (joins (suc k)) ((tail k ∷ []) ∷ []) tokens place i.within
    (tail_ends k (first (drop place tokens)) (omega arith) (none_among k (first (drop place tokens)) h n))))

-- a form of the level above
pub level_ended : (k : ℕ) (tokens : List Token) (at mid end : ℕ) → k < 6 → Ended (joins k) (form (level k) ∷ []) tokens at mid → Ended (joins (suc k))
    (tail k ∷ []) tokens mid end → Ended (joins (suc k)) (form (level (suc k)) ∷ []) tokens at end
level_ended k tokens at mid end h x y =
    form_ended (joins (suc k)) (level (suc k)) (form (level k)) (tail k) tokens at end refl
    (ended_then (joins k) (joins (suc k)) (form (level k) ∷ []) (tail k ∷ []) tokens at mid end (fine_tail k h) x y)

pub level_stopped : (k : ℕ) (tokens : List Token) (at mid n : ℕ) → k < 6 → Ended (joins k) (form (level k) ∷ []) tokens at mid → Stopped
    (joins (suc k)) (tail k ∷ []) tokens mid n → Stopped (joins (suc k)) (form (level (suc k)) ∷ []) tokens at n
level_stopped k tokens at mid n h x y =
    form_stopped (joins (suc k)) (level (suc k)) (form (level k)) (tail k) tokens at n refl
    (stopped_then (joins k) (joins (suc k)) (form (level k) ∷ []) (tail k ∷ []) tokens at mid n (fine_tail k h) x y)

pub level_first_stopped : (k : ℕ) (tokens : List Token) (at n : ℕ) → k < 6 → Stopped (joins k) (form (level k) ∷ []) tokens at n → Stopped (joins (suc k)) (form (level (suc k)) ∷ []) tokens at n
level_first_stopped k tokens at n h x =
    form_stopped (joins (suc k)) (level (suc k)) (form (level k)) (tail k) tokens at n refl
    (stopped_before (joins k) (joins (suc k)) (form (level k) ∷ []) (tail k ∷ []) tokens at n (fine_tail k h) x)

-- parts of `&&` (level 4) and `||` (level 5) up to a place
pub record PartsOn (k : ℕ) (P : List Token → Expressions → List Token → Type 0) (tokens : List Token) (at place : ℕ) (found : List Expr) : Type 0 where
  pub ahead : at ≤ place
  pub within : place ≤ length tokens
  pub tree : (us : Expressions) (rest : List Token) → P (drop place tokens) us rest → P (drop at tokens) (ahead_of found us) rest
  pub ended : (end : ℕ) → Ended (joins (suc k)) (tail k ∷ []) tokens place end → Ended (joins (suc k)) (tail k ∷ []) tokens at end
  pub stopped : (n : ℕ) → Stopped (joins (suc k)) (tail k ∷ []) tokens place n → Stopped (joins (suc k)) (tail k ∷ []) tokens at n

-- the one operator of the level, before a part
pub and_joint : Enters 4 AndAnd
and_joint = (refl, refl, refl)

pub or_joint : Enters 5 OrOr
or_joint = (refl, refl, refl)

pub joint_stopped : (k : ℕ) (d : Lexeme) (tokens : List Token) (place n : ℕ) → Enters k d → k < 6 → first (drop place tokens) ≡ d → Stopped (joins k)
    (form (level k) ∷ []) tokens (place + 1) n → Stopped (joins (suc k)) (tail k ∷ []) tokens place n
joint_stopped k d tokens place n p h s x =
    begin_stopped (joins (suc k)) (tail k ∷ []) (form (level k) ∷ tail k ∷ []) tokens place n d p.0 p.1 p.2 s
    (stopped_before (joins k) (joins (suc k)) (form (level k) ∷ []) (tail k ∷ []) tokens (place + 1) n (fine_tail k h) x)

ahead_one : (found : List Expr) (e : Expr) (us : Expressions) → ahead_of (found ++ e ∷ []) us ≡ ahead_of found (part (expression e) us)
ahead_one [] e us = refl
ahead_one (x ∷ found) e us = ap (λ ys. part (expression x) ys) (ahead_one found e us)

pub parts_step : (k : ℕ) (d : Lexeme) (P : List Token → Expressions → List Token → Type 0) (tokens : List Token) (at place mid : ℕ)
    (found : List Expr) (e : Expr) → Enters k d → k < 6 → PartsOn k P tokens at place found → first (drop place tokens) ≡ d →
    ((us : Expressions) (rest : List Token) → P (drop mid tokens) us rest → P (drop place tokens) (part (expression e) us) rest) → place < mid → Ended
    (joins k) (form (level k) ∷ []) tokens (place + 1) mid → PartsOn k P tokens at mid (found ++ e ∷ [])
parts_step k d P tokens at place mid found e p h i s r m x = record {
  ahead = omega (arith, i.ahead);
  within = x.within;
  tree = λ us rest t. subst (λ ys. P (drop at tokens) ys rest) (sym (ahead_one found e us)) (i.tree _ rest (r us rest t));
  ended = λ end y. i.ended end (begin_ended (joins (suc k)) (tail k ∷ []) (form (level k) ∷ tail k ∷ []) tokens place end d p.0 p.1 p.2 s
      (ended_then (joins k) (joins (suc k)) (form (level k) ∷ []) (tail k ∷ []) tokens (place + 1) mid end (fine_tail k h) x y));
  stopped = λ n y. i.stopped n (begin_stopped (joins (suc k)) (tail k ∷ []) (form (level k) ∷ tail k ∷ []) tokens place n d p.0 p.1 p.2 s
      (stopped_then (joins k) (joins (suc k)) (form (level k) ∷ []) (tail k ∷ []) tokens (place + 1) mid n (fine_tail k h) x y));
}

pub conjunct_on : (tokens : List Token) (place mid : ℕ) (e : Expression) → first (drop place tokens) ≡ AndAnd → Reads 4 (drop (place + 1) tokens) e
    (drop mid tokens) → (us : Expressions) (rest : List Token) → Conjuncts (drop mid tokens) us rest → Conjuncts (drop place tokens) (part e us) rest
conjunct_on tokens place mid e s r us rest t = a_conjunct s (at_next (λ ts. Reads 4 ts e (drop mid tokens)) tokens place r) t

pub disjunct_on : (tokens : List Token) (place mid : ℕ) (e : Expression) → first (drop place tokens) ≡ OrOr → Reads 5 (drop (place + 1) tokens) e
    (drop mid tokens) → (us : Expressions) (rest : List Token) → Disjuncts (drop mid tokens) us rest → Disjuncts (drop place tokens) (part e us) rest
disjunct_on tokens place mid e s r us rest t = a_disjunct s (at_next (λ ts. Reads 5 ts e (drop mid tokens)) tokens place r) t

ahead_none : (found : List Expr) → ahead_of found no_parts ≡ expressions found
ahead_none [] = refl
ahead_none (x ∷ found) = ap (λ ys. part (expression x) ys) (ahead_none found)

pub parts_read : (k : ℕ) (P : List Token → Expressions → List Token → Type 0) (tokens : List Token) (at place : ℕ) (found : List Expr) → PartsOn k P
    tokens at place found → P (drop place tokens) no_parts (drop place tokens) → P (drop at tokens) (expressions found) (drop place tokens)
parts_read k P tokens at place found i n = subst (λ ys. P (drop at tokens) ys (drop place tokens)) (ahead_none found) (i.tree no_parts _ n)

pub parts_ended : (k : ℕ) (d : Lexeme) (P : List Token → Expressions → List Token → Type 0) (tokens : List Token) (at place : ℕ) (found : List Expr) →
    operators k ≡ d ∷ [] → k < 6 → PartsOn k P tokens at place found → (first (drop place tokens) ≡ d → ⊥) → Ended (joins (suc k)) (tail k ∷ []) tokens
    at place
parts_ended k d P tokens at place found o h i n =
    i.ended place
    (one_ended
    (here_ended (joins (suc k)) ((tail k ∷ []) ∷ []) tokens place i.within
    (tail_ends k (first (drop place tokens)) h (ap (among (first (drop place tokens))) o ∙ not_among (first (drop place tokens)) (d ∷ []) (n, tt)))))

-- a fact of one value is one of its equal
pub unlike : {a b l : Lexeme} → a ≡ b → (a ≡ l → ⊥) → b ≡ l → ⊥
unlike e n f = n (e ∙ f)
