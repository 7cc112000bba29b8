-- Words: which of them are keywords, and which open or close a loop over messages.
use Rattle.std.specs.Prelude.{◌≡◌, ℕ, ◌<◌, true, List, ◌++◌, length, codes, Contains, slice_get, Some}
use Rattle.flame_lex.specs.declared.token.Kind.{Kind}
use Rattle.flame_lex.specs.declared.token.Kind.TheVariants.{Word, Number, Mark, Key, Start, Finish}
use Rattle.flame_ops.specs.Ascii.{begins_word, is_word_byte}
use Rattle.flame_ops.specs.Words.{keyword_spellings}
use Rattle.flame_lex.specs.ByteRuns.{first_is, IsRun}

-- a letter or `_`, and all the letters, digits and `_` after it [C, 6.4.2.1]
pub record IsWord (text rest : List ℕ) : Type 0 where
  pub first : first_is begins_word text ≡ true
  pub run : IsRun is_word_byte text rest

-- the word is the opening, a name of at least one byte, and `_MESSAGE_LOOP` [FLAME User Manual]
pub record IsLoopWord (opening name word : List ℕ) : Type 0 where
  pub parts : word ≡ opening ++ (name ++ codes "_MESSAGE_LOOP")
  pub named : 0 < length name

-- how a word begins that opens a loop over messages [FLAME User Manual]
abbrev pub start : List ℕ
start = codes "START_"

-- how a word begins that closes such a loop [FLAME User Manual]
abbrev pub finish : List ℕ
finish = codes "FINISH_"

-- the word is the keyword of this number [C, 6.4.1]
abbrev pub IsKeyword : ℕ → List ℕ → Type 0
IsKeyword number word = slice_get keyword_spellings number ≡ Some word

-- the word is no keyword, and neither opens nor closes a loop over messages [own]
pub record IsPlain (word : List ℕ) : Type 0 where
  pub no_keyword : ¬ Contains keyword_spellings word
  pub no_start : (name : List ℕ) → ¬ IsLoopWord start name word
  pub no_finish : (name : List ℕ) → ¬ IsLoopWord finish name word

-- the word is of this kind [own]
abbrev pub IsWordKind : Kind → List ℕ → Type 0
IsWordKind (Word name) word = IsPlain word × (name ≡ word)
IsWordKind (Key number) word = IsKeyword number word
IsWordKind (Start name) word = IsLoopWord start name word
IsWordKind (Finish name) word = IsLoopWord finish name word
IsWordKind (Number n) word = ⊥
IsWordKind (Mark number) word = ⊥
