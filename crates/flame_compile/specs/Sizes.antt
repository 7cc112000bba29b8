-- That pieces are as long as their sizes say: so the sums of sizes are the places where the parts of a form stand.
use Rattle.std.specs.Prelude.{◌≡◌, ℕ, List, length}
use Rattle.flame_body.specs.declared.slots.SlotExpr.{SlotExpr}
use Rattle.flame_body.specs.declared.slots.SlotStmt.{SlotStmt}
use Rattle.flame_compile.specs.Pieces.{Piece, Block}
use Rattle.flame_compile.specs.Emit.{expression, statements}

-- a piece is as long as its size says, wherever it begins [own]
abbrev pub IsSized : Piece → Type 0
IsSized piece = (p : ℕ) → length (piece.code p) ≡ piece.size

-- so is a block, wherever `break` and `continue` go [own]
abbrev pub IsSizedBlock : Block → Type 0
IsSizedBlock block = (leave again p : ℕ) → length (block.code leave again p) ≡ block.size

-- ---- laws

-- every expression is as long as its size says [own]
abbrev pub ExpressionsAreSized : Type 0
ExpressionsAreSized = (e : SlotExpr) → IsSized (expression e)

-- statements are as long as their size says [own]
abbrev pub StatementsAreSized : Type 0
StatementsAreSized = (body : List SlotStmt) → IsSizedBlock (statements body)
