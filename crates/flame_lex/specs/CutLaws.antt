-- A text has exactly one reading: its tokens, of which there are at most as many as bytes, or its fault.
use Rattle.std.specs.Prelude.{◌≡◌, ◌⊎◌, ℕ, ◌≤◌, List, [], ◌++◌, length}
use Rattle.flame_lex.specs.declared.token.Token.{Token}
use Rattle.flame_lex.specs.declared.fault.LexFault.{LexFault}
use Rattle.flame_lex.specs.LexPieces.{Form, Here, Stands}
use Rattle.flame_lex.specs.Lexing.{Piece, nothing, IsCut, Lexes, Faults}

-- at one place at most one piece stands [own]
abbrev pub PieceIsUnique : Type 0
PieceIsUnique =
    (here : Here) (form more : Form) (text rest other after : List ℕ)
    → Stands here form text rest
    → Stands here more other after
    → text ++ rest ≡ other ++ after
    → (form ≡ more) × (text ≡ other)

-- at most one cut covers a text [own]
abbrev pub CutIsUnique : Type 0
CutIsUnique =
    (bytes : List ℕ) (pieces more : List Piece)
    → IsCut nothing pieces bytes []
    → IsCut nothing more bytes []
    → pieces ≡ more

-- a text has at most one list of tokens [own]
abbrev pub TokensAreUnique : Type 0
TokensAreUnique = (bytes : List ℕ) (tokens more : List Token) → Lexes bytes tokens → Lexes bytes more → tokens ≡ more

-- a text has at most one fault [own]
abbrev pub FaultIsUnique : Type 0
FaultIsUnique = (bytes : List ℕ) (fault other : LexFault) → Faults bytes fault → Faults bytes other → fault ≡ other

-- a text that has tokens has no fault [own]
abbrev pub TokensOrFault : Type 0
TokensOrFault = (bytes : List ℕ) (tokens : List Token) (fault : LexFault) → Lexes bytes tokens → ¬ Faults bytes fault

-- every text has tokens or a fault [own]
abbrev pub EveryTextIsRead : Type 0
EveryTextIsRead =
    (bytes : List ℕ)
    → ((tokens : List Token) × Lexes bytes tokens)
    ⊎ ((fault : LexFault) × Faults bytes fault)

-- a text has at most as many tokens as bytes [own]
abbrev pub TokensAreFew : Type 0
TokensAreFew = (bytes : List ℕ) (tokens : List Token) → Lexes bytes tokens → length tokens ≤ length bytes
