-- What has been read up to a place.
use Rattle.std.proofs.Common.{◌≡◌, ℕ, ◌+◌, ◌≤◌, List, [], ◌∷◌, ◌++◌, length, drop, map, sym, subst, arith, append_assoc, append-nil}
use Rattle.std.proofs.lemmas.List.{map_push}
use Rattle.flame_spec.specs.Trees.{Expression, Statement}
use Rattle.flame_spec.specs.Seen.{expressions_of, statements_of}
use Rattle.flame_lex.specs.declared.token.Token.{Token}
use Rattle.flame_expr.specs.declared.lexemes.Lexeme.{Lexeme}
use Rattle.flame_expr.specs.Lexemes.{behind}
use Rattle.flame_expr.specs.ViablePrefixes.{Symbol}
use Rattle.flame_expr.specs.ReadParts.{Ended, Stopped}
use Rattle.flame_expr.proofs.Places.{behind-drop}
use Rattle.flame_parse.specs.StatementGrammar.{MoreArgs, Stmts}

-- what holds of the tokens at the next place holds of those behind the first
pub next_of : (P : List Token → Type 0) (tokens : List Token) (at mid : ℕ) → mid ≡ at + 1 → P (drop mid tokens) → P (behind (drop at tokens))
next_of P tokens at mid f h = subst P (sym (behind-drop tokens at)) (subst (λ n. P (drop n tokens)) f h)

pub end_of : (P : List Token → Type 0) (tokens : List Token) (at end : ℕ) → end ≡ at + 1 → P (behind (drop at tokens)) → P (drop end tokens)
end_of P tokens at end f h = subst (λ n. P (drop n tokens)) (sym f) (subst P (behind-drop tokens at) h)

-- parts of a list up to a place: what is read from there is read from the start
pub record RunOn {D : Type 0} (J : List Lexeme) (X : List Symbol) (P : List Token → List D → List Token → Type 0) (tokens : List Token) (at place : ℕ) (found : List D) : Type 0 where
  pub ahead : at ≤ place
  pub within : place ≤ length tokens
  pub tree : (ds : List D) (rest : List Token) → P (drop place tokens) ds rest → P (drop at tokens) (found ++ ds) rest
  pub ended : (end : ℕ) → Ended J X tokens place end → Ended J X tokens at end
  pub stopped : (n : ℕ) → Stopped J X tokens place n → Stopped J X tokens at n

pub run_begin : {D : Type 0} (J : List Lexeme) (X : List Symbol) (P : List Token → List D → List Token → Type 0) (tokens : List Token) (at : ℕ) → at ≤ length tokens → RunOn J X P tokens at at []
run_begin J X P tokens at h = record { ahead = omega arith; within = h; tree = λ ds rest p. p; ended = λ end p. p; stopped = λ n p. p }

pub run_step : {X D : Type 0} (f : X → D) (J : List Lexeme) (S : List Symbol) (P : List Token → List D → List Token → Type 0) (tokens : List Token)
    (at place mid : ℕ) (found : List X) (x : X) → RunOn J S P tokens at place (map f found) → place ≤ mid → mid ≤ length tokens →
    ((ds : List D) (rest : List Token) → P (drop mid tokens) ds rest → P (drop place tokens) (f x ∷ ds) rest) →
    ((end : ℕ) → Ended J S tokens mid end → Ended J S tokens place end) → ((n : ℕ) → Stopped J S tokens mid n → Stopped J S tokens place n) → RunOn J S
    P tokens at mid (map f (found ++ x ∷ []))
run_step f J S P tokens at place mid found x i le within t e s = subst (RunOn J S P tokens at mid) (sym (map_push f found x)) (record {
  ahead = omega (arith, i.ahead, le);
  within = within;
  tree = λ ds rest p. subst (λ ys. P (drop at tokens) ys rest) (sym (append_assoc (map f found) ((f x) ∷ []) ds)) (i.tree _ rest (t ds rest p));
  ended = λ end p. i.ended end (e end p);
  stopped = λ n p. i.stopped n (s n p);
})

pub run_push : {D : Type 0} (J : List Lexeme) (S : List Symbol) (P : List Token → List D → List Token → Type 0) (tokens : List Token)
    (at place mid : ℕ) (found : List D) (d : D) → RunOn J S P tokens at place found → place ≤ mid → mid ≤ length tokens →
    ((ds : List D) (rest : List Token) → P (drop mid tokens) ds rest → P (drop place tokens) (d ∷ ds) rest) →
    ((end : ℕ) → Ended J S tokens mid end → Ended J S tokens place end) → ((n : ℕ) → Stopped J S tokens mid n → Stopped J S tokens place n) → RunOn J S
    P tokens at mid (found ++ d ∷ [])
run_push J S P tokens at place mid found d i le within t e s = record {
  ahead = omega (arith, i.ahead, le);
  within = within;
  tree = λ ds rest p. subst (λ ys. P (drop at tokens) ys rest) (sym (append_assoc found (d ∷ []) ds)) (i.tree _ rest (t ds rest p));
  ended = λ end p. i.ended end (e end p);
  stopped = λ n p. i.stopped n (s n p);
}

pub run_read : {D : Type 0} (J : List Lexeme) (X : List Symbol) (P : List Token → List D → List Token → Type 0) (tokens : List Token) (at place : ℕ)
    (found : List D) → RunOn J X P tokens at place found → P (drop place tokens) [] (drop place tokens) → P (drop at tokens) found (drop place tokens)
run_read J X P tokens at place found i n = subst (λ ys. P (drop at tokens) ys (drop place tokens)) (append-nil found) (i.tree [] _ n)

-- the lists by their parts
abbrev pub ArgsRead : List Token → List Expression → List Token → Type 0
ArgsRead ts es rest = MoreArgs ts (expressions_of es) rest

abbrev pub StmtsRead : List Token → List Statement → List Token → Type 0
StmtsRead ts ss rest = Stmts ts (statements_of ss) rest
