-- At a place stands at most one piece, or one cause why none stands there.
use Rattle.std.proofs.Common.{◌≡◌, ℕ, true, false, Bool, List, [], ◌∷◌, ◌++◌, take, drop, length, refl, sym, ap, ◌∙◌}
use Rattle.std.proofs.Common.{arith, subst, Some, None}
use Rattle.std.specs.Prelude.{ℤ, pos, Option, slice_get}
use Rattle.std.proofs.lemmas.Bool.{both_ways}
use Rattle.std.proofs.lemmas.List.{append_cancel_right, take_at}
use Rattle.flame_ops.specs.Spellings.{IsLongest, spelling}
use Rattle.flame_ops.specs.Words.{operator_spellings, directive_spellings}
use Rattle.flame_lex.specs.declared.token.Kind.{Kind}
use Rattle.flame_lex.specs.declared.token.Kind.TheVariants.{Word, Number, Mark, Key, Start, Finish}
use Rattle.flame_lex.specs.declared.fault.LexFault.{LexFault}
use Rattle.flame_lex.specs.declared.fault.LexFault.TheVariants.{BadByte, BadNumber, BigNumber, OpenComment, Directive}
use Rattle.flame_lex.specs.declared.fault.LexFault.TheVariants.{BadDefine}
use Rattle.flame_lex.specs.declared.define.Define.{Define}
use Rattle.flame_ops.specs.Ascii.{is_word_byte}
use Rattle.flame_lex.specs.ByteRuns.{stays_on_line}
use Rattle.flame_lex.specs.DefineLines.{after_close, Defines}
use Rattle.flame_lex.specs.Numerals.{number_value, IsNumber, IsBigNumber}
use Rattle.flame_lex.specs.SourceWords.{IsWord, IsWordKind}
use Rattle.flame_lex.specs.LexPieces.{Form, blank, comment, line_comment, include_line, define_line, lexeme}
use Rattle.flame_lex.specs.LexPieces.{Here, IsMark, IsLexeme, Stands, directive_word, include, define}
use Rattle.flame_lex.specs.LexFaults.{IsFault, IsNumeralAt}
use Rattle.flame_lex.proofs.Prefixes.{begins_parts}
use Rattle.flame_lex.proofs.Classes.{Class, blanks, comments, line_comments, directives, words, numerals, others}
use Rattle.flame_lex.proofs.Classes.{class_of, kind_class, form_class, fault_class, piece_class, cause_class}
use Rattle.flame_lex.proofs.WordKinds.{one_word_kind, one_run, operators_table, contained}
use Rattle.flame_lex.proofs.Lines.{one_directive}

word_parts : (kind : Kind) (text rest : List ℕ) → kind_class kind ≡ words → IsLexeme kind text rest
    → IsWord text rest × IsWordKind kind text
word_parts (Word name) text rest e s = (s.0, (s.1, s.2))
word_parts (Number n) text rest e s = cc
word_parts (Mark number) text rest e s = cc
word_parts (Key number) text rest e s = s
word_parts (Start name) text rest e s = s
word_parts (Finish name) text rest e s = s

one_word : (kind more : Kind) (text rest other behind : List ℕ) → kind_class kind ≡ words → kind_class more ≡ words
    → IsLexeme kind text rest → IsLexeme more other behind → text ++ rest ≡ other ++ behind → (kind ≡ more) ×
    (text ≡ other)
one_word kind more text rest other behind e f s t same =
    let w = word_parts kind text rest e s in
    let v = word_parts more other behind f t in
    let texts = one_run is_word_byte text rest other behind w.0.run v.0.run same in
    (one_word_kind kind more other (subst (λ l. IsWordKind kind l) texts w.1) v.1, texts)

one_number : (n m : ℤ) (run : List ℕ) → IsNumber n run → IsNumber m run → n ≡ m
one_number n m run a b =
    let e : Some a.value ≡ Some b.value = sym a.written ∙ b.written in
    let v : a.value ≡ b.value = cc in
    a.same ∙ ap pos v ∙ sym b.same

mark_text : (number : ℕ) (bytes : List ℕ) → IsLongest operator_spellings bytes number
    → spelling operator_spellings number ≡ take (length (spelling operator_spellings number)) bytes
mark_text number bytes longest =
    let text = spelling operator_spellings number in
    sym (ap (take (length text)) (begins_parts bytes text longest.stands.begins)
    ∙ take_at text (drop (length text) bytes) (length text) refl)

one_longest : (number other : ℕ) (bytes : List ℕ) → IsLongest operator_spellings bytes number
    → IsLongest operator_spellings bytes other → number ≡ other
one_longest number other bytes a b =
    let size : length (spelling operator_spellings number) ≡ length (spelling operator_spellings other) =
    omega (arith, a.longest other b.stands, b.longest number a.stands) in
    operators_table.once number other a.stands.within b.stands.within
    (mark_text number bytes a ∙ ap (λ n. take n bytes) size ∙ sym (mark_text other bytes b))

one_mark : (number more : ℕ) (text rest other behind : List ℕ) → IsMark number text rest → IsMark more other behind
    → text ++ rest ≡ other ++ behind → (number ≡ more) × (text ≡ other)
one_mark number more text rest other behind a b same =
    let e =
    one_longest number more (other ++ behind) (subst (λ l. IsLongest operator_spellings l number) same a.longest)
    b.longest in
    (e, a.spelled ∙ ap (spelling operator_spellings) e ∙ sym b.spelled)

one_lexeme : (kind more : Kind) (text rest other behind : List ℕ) → kind_class kind ≡ kind_class more
    → IsLexeme kind text rest → IsLexeme more other behind → text ++ rest ≡ other ++ behind → (kind ≡ more) ×
    (text ≡ other)
one_lexeme (Word name) more text rest other behind e s t same =
    one_word (Word name) more text rest other behind refl (sym e) s t same
one_lexeme (Key number) more text rest other behind e s t same =
    one_word (Key number) more text rest other behind refl (sym e) s t same
one_lexeme (Start name) more text rest other behind e s t same =
    one_word (Start name) more text rest other behind refl (sym e) s t same
one_lexeme (Finish name) more text rest other behind e s t same =
    one_word (Finish name) more text rest other behind refl (sym e) s t same
one_lexeme (Number n) (Number m) text rest other behind e s t same =
    let texts = one_run is_word_byte text rest other behind s.0.run t.0.run same in
    (ap Number (one_number n m other (subst (λ l. IsNumber n l) texts s.1) t.1), texts)
one_lexeme (Mark number) (Mark more) text rest other behind e s t same =
    let marks = one_mark number more text rest other behind s t same in
    (ap Mark marks.0, marks.1)
one_lexeme (Number n) more text rest other behind e s t same = cc
one_lexeme (Mark number) more text rest other behind e s t same = cc

abbrev is_gap : Class → Bool
is_gap blanks = true
is_gap comments = true
is_gap line_comments = true
is_gap directives = true
is_gap words = false
is_gap numerals = false
is_gap others = false

no_gap : (kind : Kind) → is_gap (kind_class kind) ≡ false
no_gap (Word name) = refl
no_gap (Number n) = refl
no_gap (Mark number) = refl
no_gap (Key number) = refl
no_gap (Start name) = refl
no_gap (Finish name) = refl

gap_or_lexeme : (kind : Kind) (class : Class) → is_gap class ≡ true → ¬ (class ≡ kind_class kind)
gap_or_lexeme kind class h e = both_ways _ (ap is_gap e ∙ no_gap kind) h

-- the directive of this number stands behind the first byte
abbrev IsAt : ℕ → List ℕ → Type 0
IsAt number bytes = slice_get directive_spellings number ≡ Some (directive_word bytes)

one_define : (known : List ℕ → Option ℤ) (said more : Define) (line : List ℕ) → Defines known line said
    → Defines known line more → said ≡ more
one_define known said more line a b =
    let e : Some said ≡ Some more = sym a.says ∙ b.says in
    cc

pub one_form : (site : Here) (form more : Form) (text rest other behind : List ℕ)
    → form_class form ≡ form_class more
    → Stands site form text rest → Stands site more other behind → text ++ rest ≡ other ++ behind →
    (form ≡ more) × (text ≡ other)
one_form site blank blank text rest other behind e s t same =
    let parts : s.0 ∷ rest ≡ t.0 ∷ behind = ap (λ l. l ++ rest) (sym s.1) ∙ same ∙ ap (λ l. l ++ behind) t.1 in
    let first : s.0 ≡ t.0 = cc in
    (refl, s.1 ∙ ap (λ b. b ∷ []) first ∙ sym t.1)
one_form site comment comment text rest other behind e s t same =
    let close : Some rest ≡ Some behind = sym s.1 ∙ ap (λ l. after_close (drop 2 l)) same ∙ t.1 in
    let rests : rest ≡ behind = cc in
    (refl, append_cancel_right text other behind (ap (λ l. text ++ l) (sym rests) ∙ same))
one_form site line_comment line_comment text rest other behind e s t same =
    (refl, one_run stays_on_line text rest other behind s.1 t.1 same)
one_form site include_line include_line text rest other behind e s t same =
    (refl, one_run stays_on_line text rest other behind s.1 t.1 same)
one_form site (define_line said) (define_line more) text rest other behind e s t same =
    let texts = one_run stays_on_line text rest other behind s.1 t.1 same in
    let define = one_define site.known said more other (subst (λ l. Defines site.known l said) texts s.2) t.2 in
    (ap define_line define, texts)
one_form site include_line (define_line said) text rest other behind e s t same =
    absurd (one_directive (directive_word (text ++ rest)) s.0.spelled
    (subst (λ l. IsAt define l) (sym same) t.0.spelled))
one_form site (define_line said) include_line text rest other behind e s t same =
    absurd (one_directive (directive_word (text ++ rest)) (subst (λ l. IsAt include l) (sym same) t.0.spelled)
    s.0.spelled)
one_form site (lexeme kind) (lexeme more) text rest other behind e s t same =
    let lexemes = one_lexeme kind more text rest other behind e s t same in
    (ap lexeme lexemes.0, lexemes.1)
one_form site blank (lexeme kind) text rest other behind e s t same = absurd (gap_or_lexeme kind blanks refl e)
one_form site comment (lexeme kind) text rest other behind e s t same =
    absurd (gap_or_lexeme kind comments refl e)
one_form site line_comment (lexeme kind) text rest other behind e s t same =
    absurd (gap_or_lexeme kind line_comments refl e)
one_form site (define_line said) (lexeme kind) text rest other behind e s t same =
    absurd (gap_or_lexeme kind directives refl e)
one_form site (lexeme kind) (define_line said) text rest other behind e s t same =
    absurd (gap_or_lexeme kind directives refl (sym e))
one_form site include_line (lexeme kind) text rest other behind e s t same =
    absurd (gap_or_lexeme kind directives refl e)
one_form site (lexeme kind) blank text rest other behind e s t same =
    absurd (gap_or_lexeme kind blanks refl (sym e))
one_form site (lexeme kind) comment text rest other behind e s t same =
    absurd (gap_or_lexeme kind comments refl (sym e))
one_form site (lexeme kind) line_comment text rest other behind e s t same =
    absurd (gap_or_lexeme kind line_comments refl (sym e))
one_form site (lexeme kind) include_line text rest other behind e s t same =
    absurd (gap_or_lexeme kind directives refl (sym e))
one_form site blank more text rest other behind e s t same = cc
one_form site comment more text rest other behind e s t same = cc
one_form site line_comment more text rest other behind e s t same = cc
one_form site include_line more text rest other behind e s t same = cc
one_form site (define_line said) more text rest other behind e s t same = cc

-- two pieces that stand at one place are one
pub one_piece : (site : Here) (form more : Form) (text rest other behind : List ℕ)
    → Stands site form text rest → Stands site more other behind → text ++ rest ≡ other ++ behind →
    (form ≡ more) × (text ≡ other)
one_piece site form more text rest other behind s t same =
    let e =
    sym (piece_class site form text rest s) ∙ ap (class_of site) same
    ∙ piece_class site more other behind t in
    one_form site form more text rest other behind e s t same

one_numeral : (bytes run other : List ℕ) → IsNumeralAt bytes run → IsNumeralAt bytes other → run ≡ other
one_numeral bytes run other a b =
    one_run is_word_byte run a.rest other b.rest a.numeral.run b.numeral.run (sym a.parts ∙ b.parts)

apart_numbers : (run other : List ℕ) → run ≡ other → number_value run ≡ None → ¬ IsBigNumber other
apart_numbers run other e none big =
    let f : None ≡ Some big.value = sym none ∙ ap number_value e ∙ big.written in
    cc

one_cause : (site : Here) (place : ℕ) (bytes : List ℕ) (fault other : LexFault)
    → fault_class fault ≡ fault_class other
    → IsFault site place bytes fault → IsFault site place bytes other → fault ≡ other
one_cause site place bytes (BadByte at) (BadByte to) e f g = ap BadByte (f.0 ∙ sym g.0)
one_cause site place bytes (BadNumber at) (BadNumber to) e f g = ap BadNumber (f.0 ∙ sym g.0)
one_cause site place bytes (BigNumber at) (BigNumber to) e f g = ap BigNumber (f.0 ∙ sym g.0)
one_cause site place bytes (OpenComment at) (OpenComment to) e f g = ap OpenComment (f.0 ∙ sym g.0)
one_cause site place bytes (Directive at) (Directive to) e f g = ap Directive (f.0 ∙ sym g.0)
one_cause site place bytes (BadDefine at) (BadDefine to) e f g = ap BadDefine (f.0 ∙ sym g.0)
one_cause site place bytes (Directive at) (BadDefine to) e f g =
    absurd (f.3 (contained directive_spellings define (directive_word bytes) g.1.spelled))
one_cause site place bytes (BadDefine at) (Directive to) e f g =
    absurd (g.3 (contained directive_spellings define (directive_word bytes) f.1.spelled))
one_cause site place bytes (BadNumber at) (BigNumber to) e f g =
    absurd (apart_numbers f.1 g.1 (one_numeral bytes f.1 g.1 f.2 g.2) f.3 g.3)
one_cause site place bytes (BigNumber at) (BadNumber to) e f g =
    absurd (apart_numbers g.1 f.1 (one_numeral bytes g.1 f.1 g.2 f.2) g.3 f.3)
one_cause site place bytes (BadByte at) other e f g = cc
one_cause site place bytes (BadNumber at) other e f g = cc
one_cause site place bytes (BigNumber at) other e f g = cc
one_cause site place bytes (OpenComment at) other e f g = cc
one_cause site place bytes (Directive at) other e f g = cc
one_cause site place bytes (BadDefine at) other e f g = cc

-- two causes why nothing stands at one place are one
pub one_fault : (site : Here) (place : ℕ) (bytes : List ℕ) (fault other : LexFault)
    → IsFault site place bytes fault → IsFault site place bytes other → fault ≡ other
one_fault site place bytes fault other f g =
    one_cause site place bytes fault other (sym (cause_class site place bytes fault f)
    ∙ cause_class site place bytes other g) f g
