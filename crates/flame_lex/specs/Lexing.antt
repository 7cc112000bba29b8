-- What `lex` promises: the lexemes of the pieces that are laid end to end over all of a text, or the first place where
-- they cannot go on.
use Rattle.std.specs.Prelude.{◌≡◌, ℕ, ℤ, List, [], ◌∷◌, ◌++◌, length, Option, Some, None, if◌then◌else◌}
use Rattle.std.specs.Option.{option_map_or}
use Rattle.std.specs.Str.{bytes_eq}
use Rattle.flame_rows.specs.declared.fails.Fail.{Fail}
use Rattle.flame_rows.specs.declared.fails.Fail.TheVariants.{Fault, NoMemory}
use Rattle.flame_lex.specs.declared.found.Found.{Found}
use Rattle.flame_lex.specs.declared.found.Found.TheVariants.{Gap, Defined, Lexeme}
use Rattle.flame_lex.specs.declared.token.Kind.{Kind}
use Rattle.flame_lex.specs.declared.token.Kind.TheVariants.{Word, Number, Mark, Key, Start, Finish}
use Rattle.flame_lex.specs.declared.token.Token.{Token}
use Rattle.flame_lex.specs.declared.fault.LexFault.{LexFault}
use Rattle.flame_lex.specs.TextPlaces.{line_of, begins_line}
use Rattle.flame_lex.specs.LexPieces.{Form, blank, comment, line_comment, include_line, define_line, lexeme}
use Rattle.flame_lex.specs.LexPieces.{Here, Stands}
use Rattle.flame_lex.specs.LexFaults.{IsFault}

-- a piece of a text [own]
pub record Piece : Type 0 where
  pub form : Form
  pub text : List ℕ

-- what a piece of this form is to the tokens: a gap, a define, or a lexeme [own]
abbrev pub found_of : Form → Found
found_of blank = Gap
found_of comment = Gap
found_of line_comment = Gap
found_of include_line = Gap
found_of (define_line said) = Defined said
found_of (lexeme kind) = Lexeme kind

-- the numbers of words after a piece: a define gives its word its number [C, 6.10.3]
abbrev pub known_after : Found → (List ℕ → Option ℤ) → List ℕ → Option ℤ
known_after Gap known word = known word
known_after (Lexeme kind) known word = known word
known_after (Defined said) known word = if bytes_eq word said.name then Some said.value else known word

-- what stands before a place: its bytes, and the number that a define line among them gives a word [own]
pub record Before : Type 0 where
  pub bytes : List ℕ
  pub known : List ℕ → Option ℤ

-- what stands before a text [own]
abbrev pub nothing : Before
nothing = record { bytes = []; known = λ word. None }

-- what stands before the place that follows a piece [own]
abbrev pub past : Before → Piece → Before
past before piece = record {
  bytes = before.bytes ++ piece.text;
  known = known_after (found_of piece.form) before.known;
}

-- what stands before the place that follows some pieces [own]
abbrev pub past_all : Before → List Piece → Before
past_all before [] = before
past_all before (piece ∷ pieces) = past_all (past before piece) pieces

-- what the bytes before a place say of it [own]
abbrev pub here : Before → Here
here before = record { line_begins = begins_line before.bytes; known = before.known }

-- behind what stands before them, the pieces are laid end to end over the bytes up to the rest, and each stands at its
-- place [C, 6.4]
abbrev pub IsCut : Before → List Piece → List ℕ → List ℕ → Type 0
IsCut before [] bytes rest = bytes ≡ rest
IsCut before (piece ∷ pieces) bytes rest =
    (after : List ℕ)
    × (bytes ≡ piece.text ++ after)
    × Stands (here before) piece.form piece.text after
    × IsCut (past before piece) pieces after rest

-- the kind of the token that a lexeme makes: a word that has a number is that number [C, 6.10.3]
abbrev pub meant : (List ℕ → Option ℤ) → Kind → Kind
meant known (Word name) = option_map_or Number (known name) (Word name)
meant known (Number n) = Number n
meant known (Mark number) = Mark number
meant known (Key number) = Key number
meant known (Start name) = Start name
meant known (Finish name) = Finish name

-- the token that stands behind what is before: none, where no lexeme is found [own]
abbrev pub token_at : Before → Found → List Token
token_at before Gap = []
token_at before (Defined said) = []
token_at before (Lexeme kind) =
    record { kind = meant before.known kind; at = length before.bytes; line = line_of before.bytes } ∷ []

-- the tokens of pieces that stand behind what is before [own]
abbrev pub tokens_of : Before → List Piece → List Token
tokens_of before [] = []
tokens_of before (piece ∷ pieces) = token_at before (found_of piece.form) ++ tokens_of (past before piece) pieces

-- these are the tokens of a cut that covers the text [C, 6.4]
abbrev pub Lexes : List ℕ → List Token → Type 0
Lexes bytes tokens = (pieces : List Piece) × IsCut nothing pieces bytes [] × (tokens ≡ tokens_of nothing pieces)

-- a cut of the text comes to a place where it cannot go on, for this cause [own]
abbrev pub Faults : List ℕ → LexFault → Type 0
Faults bytes fault =
    (pieces : List Piece)
    × (rest : List ℕ)
    × IsCut nothing pieces bytes rest
    × IsFault (here (past_all nothing pieces)) (length (past_all nothing pieces).bytes) rest fault

-- a failure is the text's fault, or want of memory [own]
abbrev pub FailsBy : List ℕ → Fail LexFault → Type 0
FailsBy bytes (Fault fault) = Faults bytes fault
FailsBy bytes NoMemory = Unit {0}
