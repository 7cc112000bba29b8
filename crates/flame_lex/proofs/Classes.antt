-- What the first bytes say of the piece or the fault that stands there.
use Rattle.std.proofs.Common.{◌≡◌, ℕ, zero, suc, ◌<◌, true, false, Bool, List, [], ◌∷◌, ◌++◌, drop, length, refl, sym}
use Rattle.std.proofs.Common.{ap, ◌∙◌, arith, subst, get_or}
use Rattle.std.specs.Char.{is_ascii_digit}
use Rattle.std.specs.List.{list_all}
use Rattle.std.specs.Prelude.{codes, not, ◌||◌, ◌&&◌, if◌then◌else◌, ◌==◌, nat_eq}
use Rattle.std.proofs.lemmas.Bool.{and_parts, or_parts, false_from_ne_true, not-true, and_left, both_ways}
use Rattle.std.proofs.lemmas.Bool.Decides.{nat_tests}
use Rattle.flame_ops.specs.Spellings.{Stands, NoneStands, spelling}
use Rattle.flame_ops.specs.Words.{operator_spellings}
use Rattle.flame_ops.specs.Ascii.{begins_word, is_word_byte}
use Rattle.flame_lex.specs.declared.token.Kind.{Kind}
use Rattle.flame_lex.specs.declared.token.Kind.TheVariants.{Word, Number, Mark, Key, Start, Finish}
use Rattle.flame_lex.specs.declared.fault.LexFault.{LexFault}
use Rattle.flame_lex.specs.declared.fault.LexFault.TheVariants.{BadByte, BadNumber, BigNumber, OpenComment, Directive}
use Rattle.flame_lex.specs.declared.fault.LexFault.TheVariants.{BadDefine}
use Rattle.flame_lex.specs.ByteRuns.{is_blank, is_hash, first_is, begins}
use Rattle.flame_lex.specs.LexPieces as pieces
use Rattle.flame_lex.specs.LexPieces.{Form, blank, comment, line_comment, include_line, define_line, lexeme}
use Rattle.flame_lex.specs.LexPieces.{begins_comment}
use Rattle.flame_lex.specs.LexPieces.{Here, IsNumeral, IsMark, IsLexeme}
use Rattle.flame_lex.specs.LexFaults.{IsFault, IsNumeralAt, BeginsNothing}
use Rattle.flame_lex.proofs.Prefixes.{begins_parts, begins_from}
use Rattle.flame_lex.proofs.Lexemes.{word_passes, digit_passes}

pub data Class : Type 0 where
  blanks : Class
  comments : Class
  line_comments : Class
  directives : Class
  words : Class
  numerals : Class
  others : Class

abbrev pub class_of : Here → List ℕ → Class
class_of site bytes =
    if first_is is_blank bytes then blanks
    else if begins bytes (codes "/*") then comments
    else if begins bytes (codes "//") then line_comments
    else if first_is is_hash bytes && site.line_begins then directives
    else if first_is begins_word bytes then words
    else if first_is is_ascii_digit bytes then numerals
    else others

abbrev pub kind_class : Kind → Class
kind_class (Word name) = words
kind_class (Number n) = numerals
kind_class (Mark number) = others
kind_class (Key number) = words
kind_class (Start name) = words
kind_class (Finish name) = words

abbrev pub form_class : Form → Class
form_class blank = blanks
form_class comment = comments
form_class line_comment = line_comments
form_class include_line = directives
form_class (define_line said) = directives
form_class (lexeme kind) = kind_class kind

abbrev pub fault_class : LexFault → Class
fault_class (BadByte at) = others
fault_class (BadNumber at) = numerals
fault_class (BigNumber at) = numerals
fault_class (OpenComment at) = comments
fault_class (Directive at) = directives
fault_class (BadDefine at) = directives

comment_class : (site : Here) (bytes : List ℕ) → begins bytes (codes "/*") ≡ true
    → class_of site bytes ≡ comments
comment_class site bytes h = ap (class_of site) (begins_parts bytes (codes "/*") h)

line_comment_class : (site : Here) (bytes : List ℕ) → begins bytes (codes "//") ≡ true
    → class_of site bytes ≡ line_comments
line_comment_class site bytes h = ap (class_of site) (begins_parts bytes (codes "//") h)

abbrev is_slash : ℕ → Bool
is_slash b = b == 47

-- bytes that no blank and no comment begins are classed by their first byte
by_first : (site : Here) (bytes : List ℕ) → first_is is_blank bytes ≡ false → begins bytes (codes "/*") ≡ false
    → begins bytes (codes "//") ≡ false
    → class_of site bytes ≡ (
    if first_is is_hash bytes && site.line_begins then directives
    else if first_is begins_word bytes then words
    else if first_is is_ascii_digit bytes then numerals
    else others)
by_first site bytes no_blank no_comment no_line = rw (no_blank, no_comment, no_line) refl

first_apart : (p q : ℕ → Bool) → ((b : ℕ) → p b ≡ true → q b ≡ false) → (bytes : List ℕ) → first_is p bytes ≡ true
    → first_is q bytes ≡ false
first_apart p q apart [] h = refl
first_apart p q apart (b ∷ bytes) h = apart b h

slash_differs : (b : ℕ) → is_slash b ≡ false → nat_eq 47 b ≡ false
slash_differs b h = grind (arith, nat_tests)

no_slash : (bytes : List ℕ) (mark : ℕ) → first_is is_slash bytes ≡ false → begins bytes (47 ∷ mark ∷ []) ≡ false
no_slash [] mark h = refl
no_slash (b ∷ bytes) mark h = and_left _ _ (slash_differs b h)

hash_slash : (b : ℕ) → is_hash b ≡ true → is_slash b ≡ false
hash_slash b h = grind (arith, nat_tests)

hash_blank : (b : ℕ) → is_hash b ≡ true → is_blank b ≡ false
hash_blank b h = grind (arith, nat_tests)

word_slash : (b : ℕ) → is_word_byte b ≡ true → is_slash b ≡ false
word_slash b h = grind (arith, nat_tests)

word_blank : (b : ℕ) → is_word_byte b ≡ true → is_blank b ≡ false
word_blank b h = grind (arith, nat_tests)

word_hash : (b : ℕ) → is_word_byte b ≡ true → is_hash b ≡ false
word_hash b h = grind (arith, nat_tests)

digit_word : (b : ℕ) → is_ascii_digit b ≡ true → begins_word b ≡ false
digit_word b h = grind (arith, nat_tests)

directive_class : (site : Here) (bytes : List ℕ) → site.line_begins ≡ true → first_is is_hash bytes ≡ true
    → class_of site bytes ≡ directives
directive_class site bytes b h =
    let slash = first_apart is_hash is_slash hash_slash bytes h in
    by_first site bytes (first_apart is_hash is_blank hash_blank bytes h) (no_slash bytes 42 slash)
    (no_slash bytes 47 slash)
    ∙ rw (h, b) refl

word_class : (site : Here) (bytes : List ℕ) → first_is begins_word bytes ≡ true
    → class_of site bytes ≡ words
word_class site bytes h =
    let byte = word_passes bytes h in
    let slash = first_apart is_word_byte is_slash word_slash bytes byte in
    let hash = and_left _ site.line_begins (first_apart is_word_byte is_hash word_hash bytes byte) in
    by_first site bytes (first_apart is_word_byte is_blank word_blank bytes byte) (no_slash bytes 42 slash)
    (no_slash bytes 47 slash)
    ∙ rw (hash, h) refl

numeral_class : (site : Here) (bytes : List ℕ) → first_is is_ascii_digit bytes ≡ true
    → class_of site bytes ≡ numerals
numeral_class site bytes h =
    let byte = digit_passes bytes h in
    let slash = first_apart is_word_byte is_slash word_slash bytes byte in
    let hash = and_left _ site.line_begins (first_apart is_word_byte is_hash word_hash bytes byte) in
    let word = first_apart is_ascii_digit begins_word digit_word bytes h in
    by_first site bytes (first_apart is_word_byte is_blank word_blank bytes byte) (no_slash bytes 42 slash)
    (no_slash bytes 47 slash)
    ∙ rw (hash, word, h) refl

-- an operator begins with a byte of no other class
abbrev is_mark_byte : ℕ → Bool
is_mark_byte b = not (is_blank b || is_hash b || is_word_byte b)

pub all_at : (p : List ℕ → Bool) (texts : List (List ℕ)) (n : ℕ) → list_all p texts ≡ true → n < length texts
    → p (get_or texts n []) ≡ true
all_at p [] n h within = absurd (omega arith)
all_at p (text ∷ texts) zero h within = (and_parts _ _ h).0
all_at p (text ∷ texts) (suc n) h within = all_at p texts n (and_parts _ _ h).1 (omega arith)

first_is-append : (p : ℕ → Bool) (text rest : List ℕ) → first_is p text ≡ true → first_is p (text ++ rest) ≡ true
first_is-append p [] rest h = cc
first_is-append p (b ∷ text) rest h = h

pub mark_byte : (bytes : List ℕ) (number : ℕ) → Stands operator_spellings bytes number
    → first_is is_mark_byte bytes ≡ true
mark_byte bytes number stands =
    let text = spelling operator_spellings number in
    let first = all_at (first_is is_mark_byte) operator_spellings number refl stands.within in
    subst (λ l. first_is is_mark_byte l ≡ true) (sym (begins_parts bytes text stands.begins))
    (first_is-append is_mark_byte text (drop (length text) bytes) first)

mark_blank : (b : ℕ) → is_mark_byte b ≡ true → is_blank b ≡ false
mark_blank b h = (or_parts _ _ (or_parts _ _ (not-true _ h)).0).0

mark_hash : (b : ℕ) → is_mark_byte b ≡ true → is_hash b ≡ false
mark_hash b h = (or_parts _ _ (or_parts _ _ (not-true _ h)).0).1

mark_word : (b : ℕ) → is_mark_byte b ≡ true → begins_word b ≡ false
mark_word b h = (or_parts (begins_word b) (is_ascii_digit b) (or_parts _ _ (not-true _ h)).1).0

hash_word : (b : ℕ) → is_hash b ≡ true → begins_word b ≡ false
hash_word b h = grind (arith, nat_tests)

hash_digit : (b : ℕ) → is_hash b ≡ true → is_ascii_digit b ≡ false
hash_digit b h = grind (arith, nat_tests)

hash_both : (bytes : List ℕ) → first_is is_hash bytes ≡ true → ¬ (first_is is_mark_byte bytes ≡ true)
hash_both [] h m = cc
hash_both (b ∷ bytes) h m = both_ways _ (mark_hash b m) h

-- a `#` that something stands before on its line begins nothing
pub hash_nothing : (site : Here) (bytes : List ℕ) → 0 < length bytes → first_is is_hash bytes ≡ true
    → site.line_begins ≡ false → BeginsNothing site bytes
hash_nothing site bytes more h b = record {
  more = more;
  no_blank = first_apart is_hash is_blank hash_blank bytes h;
  no_word = first_apart is_hash begins_word hash_word bytes h;
  no_number = first_apart is_hash is_ascii_digit hash_digit bytes h;
  no_operator = λ number stands. hash_both bytes h (mark_byte bytes number stands);
  no_directive = rw (h, b) refl;
}

mark_digit : (b : ℕ) → is_mark_byte b ≡ true → is_ascii_digit b ≡ false
mark_digit b h = (or_parts (begins_word b) (is_ascii_digit b) (or_parts _ _ (not-true _ h)).1).1

mark_class : (site : Here) (bytes : List ℕ) (number : ℕ) → begins_comment bytes ≡ false
    → Stands operator_spellings bytes number → class_of site bytes ≡ others
mark_class site bytes number no_comment stands =
    let byte = mark_byte bytes number stands in
    let comment = or_parts _ _ no_comment in
    let hash = and_left _ site.line_begins (first_apart is_mark_byte is_hash mark_hash bytes byte) in
    let word = first_apart is_mark_byte begins_word mark_word bytes byte in
    let digit = first_apart is_mark_byte is_ascii_digit mark_digit bytes byte in
    by_first site bytes (first_apart is_mark_byte is_blank mark_blank bytes byte) comment.0 comment.1
    ∙ rw (hash, word, digit) refl

no_operator_slash : (bytes : List ℕ) (mark : ℕ) → NoneStands operator_spellings bytes
    → begins bytes (47 ∷ mark ∷ []) ≡ false
no_operator_slash bytes mark none = false_from_ne_true _ (λ h.
    let parts = begins_parts bytes (47 ∷ mark ∷ []) h in
    none 3 (record { within = omega arith; begins = begins_from bytes (47 ∷ []) (mark ∷ drop 2 bytes) parts }))

nothing_class : (site : Here) (bytes : List ℕ) → BeginsNothing site bytes
    → class_of site bytes ≡ others
nothing_class site bytes none =
    by_first site bytes none.no_blank (no_operator_slash bytes 42 none.no_operator)
    (no_operator_slash bytes 47 none.no_operator)
    ∙ rw (none.no_directive, none.no_word, none.no_number) refl

first_of_text : (p : ℕ → Bool) (bytes text rest : List ℕ) → bytes ≡ text ++ rest → first_is p text ≡ true
    → first_is p bytes ≡ true
first_of_text p bytes text rest e h = subst (λ l. first_is p l ≡ true) (sym e) (first_is-append p text rest h)

lexeme_class : (site : Here) (kind : Kind) (text rest : List ℕ) → IsLexeme kind text rest
    → class_of site (text ++ rest) ≡ kind_class kind
lexeme_class site (Word name) text rest s =
    word_class site (text ++ rest) (first_is-append begins_word text rest s.0.first)
lexeme_class site (Number n) text rest s =
    numeral_class site (text ++ rest) (first_is-append is_ascii_digit text rest s.0.first)
lexeme_class site (Mark number) text rest s =
    mark_class site (text ++ rest) number s.no_comment s.longest.stands
lexeme_class site (Key number) text rest s =
    word_class site (text ++ rest) (first_is-append begins_word text rest s.0.first)
lexeme_class site (Start name) text rest s =
    word_class site (text ++ rest) (first_is-append begins_word text rest s.0.first)
lexeme_class site (Finish name) text rest s =
    word_class site (text ++ rest) (first_is-append begins_word text rest s.0.first)

pub piece_class : (site : Here) (form : Form) (text rest : List ℕ) → pieces.Stands site form text rest
    → class_of site (text ++ rest) ≡ form_class form
piece_class site blank text rest s =
    let h : first_is is_blank (text ++ rest) ≡ true = ap (λ l. first_is is_blank (l ++ rest)) s.1 ∙ s.2 in
    rw h refl
piece_class site comment text rest s = comment_class site (text ++ rest) s.0
piece_class site line_comment text rest s = line_comment_class site (text ++ rest) s.0
piece_class site include_line text rest s =
    directive_class site (text ++ rest) s.0.line_begins s.0.hash
piece_class site (define_line said) text rest s =
    directive_class site (text ++ rest) s.0.line_begins s.0.hash
piece_class site (lexeme kind) text rest s = lexeme_class site kind text rest s

pub numeral_first : (bytes run : List ℕ) → IsNumeralAt bytes run → first_is is_ascii_digit bytes ≡ true
numeral_first bytes run at = first_of_text is_ascii_digit bytes run at.rest at.parts at.numeral.first

numeral_at_class : (site : Here) (bytes run : List ℕ) → IsNumeralAt bytes run
    → class_of site bytes ≡ numerals
numeral_at_class site bytes run at =
    numeral_class site bytes (numeral_first bytes run at)

pub cause_class : (site : Here) (place : ℕ) (bytes : List ℕ) (fault : LexFault)
    → IsFault site place bytes fault → class_of site bytes ≡ fault_class fault
cause_class site place bytes (BadByte at) f = nothing_class site bytes f.1
cause_class site place bytes (BadNumber at) f = numeral_at_class site bytes f.1 f.2
cause_class site place bytes (BigNumber at) f = numeral_at_class site bytes f.1 f.2
cause_class site place bytes (OpenComment at) f = comment_class site bytes f.1
cause_class site place bytes (Directive at) f = directive_class site bytes f.1 f.2
cause_class site place bytes (BadDefine at) f = directive_class site bytes f.1.line_begins f.1.hash
