-- Where a cut cannot go on.
use Rattle.std.specs.Prelude.{◌≡◌, ℕ, ◌<◌, true, false, ◌&&◌, List, ◌++◌, length, take_while, drop, codes, None}
use Rattle.std.specs.Prelude.{Contains}
use Rattle.std.specs.Char.{is_ascii_digit}
use Rattle.flame_ops.specs.Ascii.{begins_word}
use Rattle.flame_ops.specs.Spellings.{NoneStands}
use Rattle.flame_ops.specs.Words.{operator_spellings, directive_spellings}
use Rattle.flame_lex.specs.declared.define.Define.{Define}
use Rattle.flame_lex.specs.declared.fault.LexFault.{LexFault}
use Rattle.flame_lex.specs.declared.fault.LexFault.TheVariants.{BadByte, BadNumber, BigNumber, OpenComment, Directive}
use Rattle.flame_lex.specs.declared.fault.LexFault.TheVariants.{BadDefine}
use Rattle.flame_lex.specs.ByteRuns.{is_blank, is_hash, stays_on_line, first_is, begins}
use Rattle.flame_lex.specs.DefineLines.{after_close, Defines}
use Rattle.flame_lex.specs.Numerals.{number_value, IsBigNumber}
use Rattle.flame_lex.specs.LexPieces.{Here, IsNumeral, IsDirective, directive_word, define}

-- the bytes begin with a run that begins with a digit [C, 6.4.4.1]
pub record IsNumeralAt (bytes text : List ℕ) : Type 0 where
  pub rest : List ℕ
  pub parts : bytes ≡ text ++ rest
  pub numeral : IsNumeral text rest

-- there is a byte, and no blank, word, number, operator or directive begins with it [own]
pub record BeginsNothing (here : Here) (bytes : List ℕ) : Type 0 where
  pub more : 0 < length bytes
  pub no_blank : first_is is_blank bytes ≡ false
  pub no_word : first_is begins_word bytes ≡ false
  pub no_number : first_is is_ascii_digit bytes ≡ false
  pub no_operator : NoneStands operator_spellings bytes
  pub no_directive : first_is is_hash bytes && here.line_begins ≡ false

-- at this place, whose offset is `place`, no piece stands at the front of the bytes, for this cause [own]
abbrev pub IsFault : Here → ℕ → List ℕ → LexFault → Type 0
IsFault here place bytes (BadByte at) = (at ≡ place) × BeginsNothing here bytes
IsFault here place bytes (BadNumber at) =
    (at ≡ place)
    × (run : List ℕ)
    × IsNumeralAt bytes run
    × (number_value run ≡ None)
IsFault here place bytes (BigNumber at) =
    (at ≡ place)
    × (run : List ℕ)
    × IsNumeralAt bytes run
    × IsBigNumber run
IsFault here place bytes (OpenComment at) =
    (at ≡ place)
    × (begins bytes (codes "/*") ≡ true)
    × (after_close (drop 2 bytes) ≡ None)
IsFault here place bytes (Directive at) =
    (at ≡ place)
    × (here.line_begins ≡ true)
    × (first_is is_hash bytes ≡ true)
    × ¬ Contains directive_spellings (directive_word bytes)
IsFault here place bytes (BadDefine at) =
    (at ≡ place)
    × IsDirective here define bytes
    × ((said : Define) → ¬ Defines here.known (take_while stays_on_line bytes) said)

-- the offset of the place [own]
abbrev pub offset_of : LexFault → ℕ
offset_of (BadByte at) = at
offset_of (BadNumber at) = at
offset_of (BigNumber at) = at
offset_of (OpenComment at) = at
offset_of (Directive at) = at
offset_of (BadDefine at) = at

-- the cause's name, as it is printed [own]
abbrev pub name_of : LexFault → List ℕ
name_of (BadByte at) = codes "BadByte"
name_of (BadNumber at) = codes "BadNumber"
name_of (BigNumber at) = codes "BigNumber"
name_of (OpenComment at) = codes "OpenComment"
name_of (Directive at) = codes "Directive"
name_of (BadDefine at) = codes "BadDefine"
