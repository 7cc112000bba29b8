-- What trees are seen as tells them apart, and each tree that is seen is one of data. [own]
use Rattle.std.specs.Prelude.{◌≡◌, List}
use Rattle.flame_spec.specs.declared.trees.Expr.{Expr}
use Rattle.flame_spec.specs.declared.trees.Stmt.{Stmt}
use Rattle.flame_spec.specs.Trees.{Statements}
use Rattle.flame_spec.specs.Seen.{expression, statement, statements}

-- expressions that are seen as the same are the same
abbrev pub ExpressionsAreTold : Type 0
ExpressionsAreTold = (a b : Expr) → expression a ≡ expression b → a ≡ b

-- statements that are seen as the same are the same
abbrev pub StatementsAreTold : Type 0
StatementsAreTold = (a b : Stmt) → statement a ≡ statement b → a ≡ b

-- whatever statements definitions may see are what some statements are seen as
abbrev pub StatementsAreSeen : Type 0
StatementsAreSeen = (body : Statements) → (ss : List Stmt) × (statements ss ≡ body)
