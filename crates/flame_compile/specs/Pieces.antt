-- Pieces of code, and how they stand one behind another.
use Rattle.std.specs.Prelude.{ℕ, ◌+◌, List, [], ◌∷◌, ◌++◌, length, map}
use Rattle.flame_code.specs.declared.instrs.Instr.{Instr}

-- ---- pieces

-- a piece of code: how many instructions it has, and which they are where it begins at a place of the code [own]
pub record Piece : Type 0 where
  pub size : ℕ
  pub code : ℕ → List Instr

-- these instructions, the same at every place [own]
abbrev pub row : List Instr → Piece
row instrs = record { size = length instrs; code = λ p. instrs }

-- one instruction [own]
abbrev pub one : Instr → Piece
one instr = row (instr ∷ [])

-- a piece, and behind it another [own]
abbrev pub both : Piece → Piece → Piece
both a b = record { size = a.size + b.size; code = λ p. a.code p ++ b.code (p + length (a.code p)) }

-- pieces one behind another, in order [own]
abbrev pub in_order : List Piece → Piece
in_order [] = row []
in_order (piece ∷ pieces) = both piece (in_order pieces)

-- a piece of this size that depends on the place where it begins [own]
abbrev pub placed : ℕ → (ℕ → Piece) → Piece
placed size piece = record { size = size; code = λ p. (piece p).code p }

-- the code with the piece behind it [own]
unfoldable pub written : Piece → List Instr → List Instr
written piece code = code ++ piece.code (length code)

-- ---- blocks

-- a piece of code that depends on where `break` and `continue` in it go: how many instructions it has, and which they
-- are by the place where `break` goes, the place where `continue` goes, and the place where it begins [own]
pub record Block : Type 0 where
  pub size : ℕ
  pub code : ℕ → ℕ → ℕ → List Instr

-- the piece where `break` and `continue` go to these places [own]
abbrev pub going : ℕ → ℕ → Block → Piece
going leave again block = record { size = block.size; code = block.code leave again }

-- a block of this size, by the places where `break` and `continue` go and the place where it begins [own]
abbrev pub standing : ℕ → (ℕ → ℕ → ℕ → Piece) → Block
standing size piece = record { size = size; code = λ leave again p. (piece leave again p).code p }

-- a piece without `break` and `continue` [own]
abbrev pub plain : Piece → Block
plain piece = standing piece.size (λ leave again p. piece)

-- how many instructions the blocks have together [own]
abbrev pub blocks_size : List Block → ℕ
blocks_size [] = 0
blocks_size (block ∷ blocks) = block.size + blocks_size blocks

-- blocks one behind another, in order [own]
abbrev pub in_turn : List Block → Block
in_turn blocks = record {
  size = blocks_size blocks;
  code = λ leave again. (in_order (map (going leave again) blocks)).code;
}
