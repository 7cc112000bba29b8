-- What the lexer's own functions promise of one piece.
use Rattle.std.specs.Prelude.{◌≡◌, ℕ, ◌<◌, ◌≤◌, ℤ, Bool, false, List, length, take, drop, Option, None}
use Rattle.std.specs.HashMap.{get_by_text}
use Rattle.flame_rows.specs.declared.fails.Fail.{Fail}
use Rattle.flame_rows.specs.declared.fails.Fail.TheVariants.{Fault, NoMemory}
use Rattle.flame_lex.specs.declared.token.Kind.{Kind}
use Rattle.flame_lex.specs.declared.fault.LexFault.{LexFault}
use Rattle.flame_lex.specs.declared.fault.LexFault.TheVariants.{BadByte, BadNumber, BigNumber, OpenComment, Directive}
use Rattle.flame_lex.specs.declared.fault.LexFault.TheVariants.{BadDefine}
use Rattle.flame_lex.specs.declared.found.Found.{Found}
use Rattle.flame_lex.specs.declared.place.Place.{Place}
use Rattle.flame_lex.specs.declared.define_table.DefineTable.{DefineTable}
use Rattle.flame_lex.specs.ByteRuns.{is_blank, first_is}
use Rattle.flame_lex.specs.Numerals.{number_value, IsBigNumber}
use Rattle.flame_lex.specs.TextPlaces.{line_of, begins_line}
use Rattle.flame_lex.specs.LexPieces.{Form, Here, begins_comment, IsLexeme, Stands}
use Rattle.flame_lex.specs.LexFaults.{IsFault}
use Rattle.flame_lex.specs.Lexing.{Before, found_of}

-- what a place keeps of the bytes before it [own]
pub record IsPlace (bytes : List ℕ) (place : Place) : Type 0 where
  pub at : place.at ≡ length bytes
  pub line : place.line ≡ line_of bytes
  pub line_begins : place.line_begins ≡ begins_line bytes

-- the number that the table has for a word [own]
abbrev pub known_in : DefineTable → List ℕ → Option ℤ
known_in defines word = get_by_text defines.numbers word

-- place and table are those of what stands before [own]
pub record IsBehind (before : Before) (spot : Place) (defines : DefineTable) : Type 0 where
  pub place : IsPlace before.bytes spot
  pub known : (word : List ℕ) → known_in defines word ≡ before.known word

-- what a place with such a table says [own]
abbrev pub here_at : Bool → DefineTable → Here
here_at line_begins defines = record { line_begins = line_begins; known = known_in defines }

-- so many bytes at the front are a piece of which this is found [own]
pub record IsPiece (here : Here) (bytes : List ℕ) (found : Found) (count : ℕ) : Type 0 where
  pub form : Form
  pub says : found_of form ≡ found
  pub more : 0 < count
  pub within : count ≤ length bytes
  pub stands : Stands here form (take count bytes) (drop count bytes)

-- no blank and no comment begins with the bytes [own]
pub record BeginsNoGap (bytes : List ℕ) : Type 0 where
  pub no_blank : first_is is_blank bytes ≡ false
  pub no_comment : begins_comment bytes ≡ false

-- so many bytes at the front are a lexeme of this kind [own]
pub record IsToken (kind : Kind) (bytes : List ℕ) (count : ℕ) : Type 0 where
  pub more : 0 < count
  pub within : count ≤ length bytes
  pub lexeme : IsLexeme kind (take count bytes) (drop count bytes)

-- the run is no number, or one that is too big [own]
abbrev pub IsNumberFault : ℕ → List ℕ → LexFault → Type 0
IsNumberFault place run (BadNumber at) = (at ≡ place) × (number_value run ≡ None)
IsNumberFault place run (BigNumber at) = (at ≡ place) × IsBigNumber run
IsNumberFault place run (BadByte at) = ⊥
IsNumberFault place run (OpenComment at) = ⊥
IsNumberFault place run (Directive at) = ⊥
IsNumberFault place run (BadDefine at) = ⊥

-- a failure is the fault at this place, or want of memory [own]
abbrev pub FailsAt : Here → ℕ → List ℕ → Fail LexFault → Type 0
FailsAt here place bytes (Fault fault) = IsFault here place bytes fault
FailsAt here place bytes NoMemory = Unit {0}
