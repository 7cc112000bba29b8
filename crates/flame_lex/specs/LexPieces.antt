-- The pieces of a text: what may stand at a place, always the longest of its form.
use Rattle.std.specs.Prelude.{◌≡◌, ℕ, ℤ, Bool, true, false, ◌||◌, List, [], ◌∷◌, ◌++◌, take_while, drop, codes}
use Rattle.std.specs.Prelude.{Option, Some, slice_get}
use Rattle.std.specs.Char.{is_ascii_digit}
use Rattle.flame_ops.specs.Ascii.{is_word_byte}
use Rattle.flame_ops.specs.Spellings.{IsLongest, spelling}
use Rattle.flame_ops.specs.Words.{operator_spellings, directive_spellings}
use Rattle.flame_lex.specs.declared.define.Define.{Define}
use Rattle.flame_lex.specs.declared.token.Kind.{Kind}
use Rattle.flame_lex.specs.declared.token.Kind.TheVariants.{Word, Number, Mark, Key, Start, Finish}
use Rattle.flame_lex.specs.ByteRuns.{is_blank, is_hash, stays_on_line, first_is, begins, IsRun}
use Rattle.flame_lex.specs.DefineLines.{after_close, Defines}
use Rattle.flame_lex.specs.Numerals.{IsNumber}
use Rattle.flame_lex.specs.SourceWords.{IsWord, IsLoopWord, IsKeyword, IsPlain, start, finish}

-- a blank, a comment from `/*` to `*/`, a comment from `//` to the end of its line, an include line, a define line, or
-- a lexeme [C, 6.4]
pub data Form : Type 0 where
  blank : Form
  comment : Form
  line_comment : Form
  include_line : Form
  define_line : Define → Form
  lexeme : Kind → Form

-- what the bytes before a place say of it: whether nothing but spaces and tabs stands there on its line, and the number
-- that a define line there gives a word [own]
pub record Here : Type 0 where
  pub line_begins : Bool
  pub known : List ℕ → Option ℤ

-- a comment begins with the bytes [C, 6.4.9]
abbrev pub begins_comment : List ℕ → Bool
begins_comment bytes = begins bytes (codes "/*") || begins bytes (codes "//")

-- a digit, and all the letters, digits and `_` after it [C, 6.4.4.1]
pub record IsNumeral (text rest : List ℕ) : Type 0 where
  pub first : first_is is_ascii_digit text ≡ true
  pub run : IsRun is_word_byte text rest

-- the longest operator at the front of text and rest, where no comment begins [C, 6.4.6]
pub record IsMark (number : ℕ) (text rest : List ℕ) : Type 0 where
  pub no_comment : begins_comment (text ++ rest) ≡ false
  pub longest : IsLongest operator_spellings (text ++ rest) number
  pub spelled : text ≡ spelling operator_spellings number

-- the text stands at the front of text and rest as a lexeme of this kind [C, 6.4]
abbrev pub IsLexeme : Kind → List ℕ → List ℕ → Type 0
IsLexeme (Word name) text rest = IsWord text rest × IsPlain text × (name ≡ text)
IsLexeme (Number n) text rest = IsNumeral text rest × IsNumber n text
IsLexeme (Mark number) text rest = IsMark number text rest
IsLexeme (Key number) text rest = IsWord text rest × IsKeyword number text
IsLexeme (Start name) text rest = IsWord text rest × IsLoopWord start name text
IsLexeme (Finish name) text rest = IsWord text rest × IsLoopWord finish name text

-- all the letters, digits and `_` behind a first byte [own]
abbrev pub directive_word : List ℕ → List ℕ
directive_word bytes = take_while is_word_byte (drop 1 bytes)

-- at the front of its line stand `#` and the directive of this number, and no letter, digit or `_` behind it [C, 6.10]
pub record IsDirective (here : Here) (number : ℕ) (bytes : List ℕ) : Type 0 where
  pub line_begins : here.line_begins ≡ true
  pub hash : first_is is_hash bytes ≡ true
  pub spelled : slice_get directive_spellings number ≡ Some (directive_word bytes)

-- the number of `include` among the directives [C, 6.10.2]
abbrev pub include : ℕ
include = 0

-- the number of `define` among the directives [C, 6.10.3]
abbrev pub define : ℕ
define = 1

-- the text stands at the front of text and rest as a piece of this form [own]
abbrev pub Stands : Here → Form → List ℕ → List ℕ → Type 0
Stands here blank text rest = (b : ℕ) × (text ≡ b ∷ []) × (is_blank b ≡ true)
Stands here comment text rest =
    (begins (text ++ rest) (codes "/*") ≡ true)
    × (after_close (drop 2 (text ++ rest)) ≡ Some rest)
Stands here line_comment text rest =
    (begins (text ++ rest) (codes "//") ≡ true)
    × IsRun stays_on_line text rest
Stands here include_line text rest =
    IsDirective here include (text ++ rest)
    × IsRun stays_on_line text rest
Stands here (define_line said) text rest =
    IsDirective here define (text ++ rest)
    × IsRun stays_on_line text rest
    × Defines here.known text said
Stands here (lexeme kind) text rest = IsLexeme kind text rest
