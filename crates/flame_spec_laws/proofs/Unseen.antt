-- Expressions and statements that are seen as the same are the same.
use Rattle.std.proofs.Common.{◌≡◌, refl, sym, ap, ◌∙◌, List, [], ◌∷◌, map, subst}
use Rattle.flame_spec.specs.declared.trees.Expr.{Expr, Number, Name, Field, Get, At, FieldAt, Unary, Chain, All, Any}
use Rattle.flame_spec.specs.declared.trees.Expr.{roll-Expr, ind-Expr, map-Expr}
use Rattle.flame_spec.specs.declared.trees.Expr.TheVariants.{rolls-Number, rolls-Name, rolls-Field, rolls-Get, rolls-At}
use Rattle.flame_spec.specs.declared.trees.Expr.TheVariants.{rolls-FieldAt, rolls-Unary, rolls-Chain, rolls-All}
use Rattle.flame_spec.specs.declared.trees.Expr.TheVariants.{rolls-Any}
use Rattle.flame_spec.specs.declared.trees.Expr.TheOpen.{Expr-F}
use Rattle.flame_spec.specs.declared.trees.Link.{Link}
use Rattle.flame_spec.specs.declared.trees.Subscript.{Subscript}
use Rattle.flame_spec.specs.Trees.{Expression, number, name, field, get, field_at, signed, chain, all_of, any_of}
use Rattle.flame_spec.specs.Trees.{at as element}
use Rattle.flame_spec.specs.Trees.{Expressions, no_parts, part, Links, no_links, link}
use Rattle.flame_spec.specs.Seen.{expression, expressions, expressions_of, links_of, joined}
use Rattle.flame_spec.proofs.SeenForms.{expression-Number, expression-Name, expression-Field, expression-Get}
use Rattle.flame_spec.proofs.SeenForms.{expression-At}
use Rattle.flame_spec.proofs.SeenForms.{expression-FieldAt, expression-Unary, expression-Chain, expression-All}
use Rattle.flame_spec.proofs.SeenForms.{expression-Any}

-- ---- expressions

mutual
  pub data_of : Expression → Expr
  data_of (number n) = Number n
  data_of (name line word) = Name line word
  data_of (field line word variable) = Field line word variable
  data_of (get line word) = Get line word
  data_of (element line word index_line index) = At line word (record { line = index_line; index = data_of index })
  data_of (field_at line word variable index_line index) =
      FieldAt line word variable (record { line = index_line; index = data_of index })
  data_of (signed signs e) = Unary signs (data_of e)
  data_of (chain e links) = Chain (data_of e) (links_data links)
  data_of (all_of parts) = All (parts_data parts)
  data_of (any_of parts) = Any (parts_data parts)

  pub links_data : Links → List Link
  links_data no_links = []
  links_data (link op line e links) = record { op = op; line = line; right = data_of e } ∷ links_data links

  pub parts_data : Expressions → List Expr
  parts_data no_parts = []
  parts_data (part e parts) = data_of e ∷ parts_data parts

abbrev Back : Expr → Type 0
Back e = data_of (expression e) ≡ e

abbrev BackLink : Link → Type 0
BackLink l = Back l.right

abbrev BackIndex : Subscript → Type 0
BackIndex s = Back s.index

parts_back :
    (ps : List ((e : Expr) × Back e))
    → parts_data (expressions_of (map expression (map (λ p. p.0) ps))) ≡ map (λ p. p.0) ps
unfolding data_of
parts_back [] = refl
parts_back (p ∷ ps) = λ i. p.1 i ∷ parts_back ps i

links_back :
    (ls : List ((l : Link) × BackLink l))
    → links_data (links_of (map joined (map (λ l. l.0) ls))) ≡ map (λ l. l.0) ls
unfolding data_of
links_back [] = refl
links_back (l ∷ ls) = λ i. record { op = l.0.op; line = l.0.line; right = l.1 i } ∷ links_back ls i

abbrev firsts :
    Expr-F ((e : Expr) × Back e) ((l : Link) × BackLink l) ((s : Subscript) × BackIndex s)
    → Expr-F Expr Link Subscript
firsts =
    map-Expr ((e : Expr) × Back e) ((l : Link) × BackLink l) ((s : Subscript) × BackIndex s) Expr Link Subscript
    (λ p. p.0) (λ l. l.0) (λ s. s.0)

layer_back :
    (y : Expr-F ((e : Expr) × Back e) ((l : Link) × BackLink l) ((s : Subscript) × BackIndex s))
    → Back (roll-Expr (firsts y))
unfolding data_of
layer_back (Expr-F.Number n) = subst Back (sym (rolls-Number n)) (ap data_of (expression-Number n))
layer_back (Expr-F.Name line word) = subst Back (sym (rolls-Name line word)) (ap data_of (expression-Name line word))
layer_back (Expr-F.Field line word variable) =
    subst Back (sym (rolls-Field line word variable)) (ap data_of (expression-Field line word variable))
layer_back (Expr-F.Get line word) = subst Back (sym (rolls-Get line word)) (ap data_of (expression-Get line word))
layer_back (Expr-F.At line word s) =
    subst Back (sym (rolls-At line word s.0))
    (ap data_of (expression-At line word s.0) ∙ λ i. At line word (record { line = s.0.line; index = s.1 i }))
layer_back (Expr-F.FieldAt line word variable s) =
    subst Back (sym (rolls-FieldAt line word variable s.0))
    (ap data_of (expression-FieldAt line word variable s.0)
    ∙ λ i. FieldAt line word variable (record { line = s.0.line; index = s.1 i }))
layer_back (Expr-F.Unary signs p) =
    subst Back (sym (rolls-Unary signs p.0)) (ap data_of (expression-Unary signs p.0) ∙ ap (Unary signs) p.1)
layer_back (Expr-F.Chain p ls) =
    subst Back (sym (rolls-Chain p.0 (map (λ l. l.0) ls)))
    (ap data_of (expression-Chain p.0 (map (λ l. l.0) ls)) ∙ λ i. Chain (p.1 i) (links_back ls i))
layer_back (Expr-F.All ps) =
    subst Back (sym (rolls-All (map (λ p. p.0) ps)))
    (ap data_of (expression-All (map (λ p. p.0) ps)) ∙ ap All (parts_back ps))
layer_back (Expr-F.Any ps) =
    subst Back (sym (rolls-Any (map (λ p. p.0) ps)))
    (ap data_of (expression-Any (map (λ p. p.0) ps)) ∙ ap Any (parts_back ps))

-- an expression is what its tree stands for
pub expression_back : (e : Expr) → data_of (expression e) ≡ e
expression_back =
    ind-Expr Back BackLink BackIndex
    (λ x y e. subst (λ z. Back (roll-Expr z)) e (layer_back y))
    (λ x y e. subst Back (λ i. (e i).right) y.right.1)
    (λ x y e. subst Back (λ i. (e i).index) y.index.1)

-- expressions that are seen as the same are the same
pub expression_tells : (a b : Expr) → expression a ≡ expression b → a ≡ b
expression_tells a b e = sym (expression_back a) ∙ (ap data_of e ∙ expression_back b)

pub all_parts_back : (es : List Expr) → parts_data (expressions es) ≡ es
unfolding data_of
all_parts_back [] = refl
all_parts_back (e ∷ es) = λ i. expression_back e i ∷ all_parts_back es i

-- ---- a tree is what its expression is seen as

mutual
  unfolding data_of

  pub expression_forth : (x : Expression) → expression (data_of x) ≡ x
  expression_forth (number n) = expression-Number n
  expression_forth (name line word) = expression-Name line word
  expression_forth (field line word variable) = expression-Field line word variable
  expression_forth (get line word) = expression-Get line word
  expression_forth (element line word index_line index) =
      expression-At line word (record { line = index_line; index = data_of index })
      ∙ ap (element line word index_line) (expression_forth index)
  expression_forth (field_at line word variable index_line index) =
      expression-FieldAt line word variable (record { line = index_line; index = data_of index })
      ∙ ap (field_at line word variable index_line) (expression_forth index)
  expression_forth (signed signs e) = expression-Unary signs (data_of e) ∙ ap (signed signs) (expression_forth e)
  expression_forth (chain e links) =
      expression-Chain (data_of e) (links_data links)
      ∙ λ i. chain (expression_forth e i) (links_forth links i)
  expression_forth (all_of parts) = expression-All (parts_data parts) ∙ ap all_of (parts_forth parts)
  expression_forth (any_of parts) = expression-Any (parts_data parts) ∙ ap any_of (parts_forth parts)

  pub links_forth : (x : Links) → links_of (map joined (links_data x)) ≡ x
  links_forth no_links = refl
  links_forth (link op line e links) = λ i. link op line (expression_forth e i) (links_forth links i)

  pub parts_forth : (x : Expressions) → expressions (parts_data x) ≡ x
  parts_forth no_parts = refl
  parts_forth (part e parts) = λ i. part (expression_forth e i) (parts_forth parts i)
