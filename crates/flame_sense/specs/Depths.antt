-- How deep trees are.
use Rattle.std.specs.Prelude.{ℕ, List}
use denote.Param.Weighed.{most}
use Rattle.flame_spec.specs.declared.trees.Stmt.{Stmt, size-Stmt}
use Rattle.flame_spec.specs.declared.trees.Def.{Def}
use Rattle.flame_spec.specs.declared.trees.Unit.{Unit}

-- the depth of the deepest statement [own]
abbrev pub depth : List Stmt → ℕ
depth = most size-Stmt

-- that of the deepest body of these C functions [own]
abbrev pub deepest_in : List Def → ℕ
deepest_in = most (λ def. depth def.body)

-- that of the deepest body of all files [own]
abbrev pub deepest : List Unit → ℕ
deepest = most (λ unit. deepest_in unit.functions)
