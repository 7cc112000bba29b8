-- Where a piece stands, no cause stands.
use Rattle.std.proofs.Common.{◌≡◌, ℕ, true, false, Bool, List, ◌++◌, refl, sym, ap, ◌∙◌, arith, subst, Some, None}
use Rattle.std.proofs.lemmas.Bool.{both_ways}
use Rattle.flame_lex.specs.declared.token.Kind.{Kind}
use Rattle.flame_lex.specs.declared.token.Kind.TheVariants.{Word, Number, Mark, Key, Start, Finish}
use Rattle.flame_lex.specs.declared.fault.LexFault.{LexFault}
use Rattle.flame_lex.specs.declared.fault.LexFault.TheVariants.{BadByte, BadNumber, BigNumber, OpenComment, Directive}
use Rattle.flame_lex.specs.declared.fault.LexFault.TheVariants.{BadDefine}
use Rattle.flame_ops.specs.Ascii.{is_word_byte}
use Rattle.flame_ops.specs.Words.{directive_spellings}
use Rattle.flame_lex.specs.ByteRuns.{stays_on_line}
use Rattle.flame_lex.specs.DefineLines.{Defines}
use Rattle.flame_lex.specs.Numerals.{number_value}
use Rattle.flame_lex.specs.LexPieces.{Form, blank, comment, line_comment, include_line, define_line, lexeme}
use Rattle.flame_lex.specs.LexPieces.{Here, IsNumeral, IsLexeme, directive_word, include, define, Stands}
use Rattle.flame_lex.specs.LexFaults.{IsFault, IsNumeralAt}
use Rattle.flame_lex.proofs.Classes.{Class, blanks, comments, line_comments, directives, words, numerals, others}
use Rattle.flame_lex.proofs.Classes.{kind_class, form_class, fault_class, piece_class, cause_class}
use Rattle.flame_lex.proofs.WordKinds.{one_run, contained}
use Rattle.flame_lex.proofs.Lines.{line_is, one_directive}

same_run : (text rest run : List ℕ) → IsNumeral text rest → IsNumeralAt (text ++ rest) run
    → number_value text ≡ number_value run
same_run text rest run s f = ap number_value (one_run is_word_byte text rest run f.rest s.run f.numeral.run f.parts)

-- no cause begins as a blank, a `//` comment or a word does
abbrev is_of_cause : Class → Bool
is_of_cause blanks = false
is_of_cause comments = true
is_of_cause line_comments = false
is_of_cause directives = true
is_of_cause words = false
is_of_cause numerals = true
is_of_cause others = true

of_cause : (fault : LexFault) → is_of_cause (fault_class fault) ≡ true
of_cause (BadByte at) = refl
of_cause (BadNumber at) = refl
of_cause (BigNumber at) = refl
of_cause (OpenComment at) = refl
of_cause (Directive at) = refl
of_cause (BadDefine at) = refl

no_cause : (fault : LexFault) (class : Class) → is_of_cause class ≡ false → ¬ (class ≡ fault_class fault)
no_cause fault class h e = both_ways _ h (ap is_of_cause e ∙ of_cause fault)

lexeme_apart : (site : Here) (place : ℕ) (kind : Kind) (fault : LexFault) (text rest : List ℕ)
    → kind_class kind ≡ fault_class fault
    → IsLexeme kind text rest → IsFault site place (text ++ rest) fault → ⊥
lexeme_apart site place (Number n) (BadNumber at) text rest e s f =
    let impossible : Some s.1.value ≡ None = sym s.1.written ∙ same_run text rest f.1 s.0 f.2 ∙ f.3 in
    cc
lexeme_apart site place (Number n) (BigNumber at) text rest e s f =
    let values : Some s.1.value ≡ Some f.3.value = sym s.1.written ∙ same_run text rest f.1 s.0 f.2 ∙ f.3.written in
    let value : s.1.value ≡ f.3.value = cc in
    omega (arith, s.1.small, f.3.big)
lexeme_apart site place (Mark number) (BadByte at) text rest e s f = f.1.no_operator number s.longest.stands
lexeme_apart site place (Number n) fault text rest e s f = cc
lexeme_apart site place (Mark number) fault text rest e s f = cc
lexeme_apart site place (Word name) fault text rest e s f = absurd (no_cause fault words refl e)
lexeme_apart site place (Key number) fault text rest e s f = absurd (no_cause fault words refl e)
lexeme_apart site place (Start name) fault text rest e s f = absurd (no_cause fault words refl e)
lexeme_apart site place (Finish name) fault text rest e s f = absurd (no_cause fault words refl e)

form_apart : (site : Here) (place : ℕ) (form : Form) (fault : LexFault) (text rest : List ℕ)
    → form_class form ≡ fault_class fault
    → Stands site form text rest → IsFault site place (text ++ rest) fault → ⊥
form_apart site place comment (OpenComment at) text rest e s f =
    let impossible : Some rest ≡ None = sym s.1 ∙ f.2 in
    cc
form_apart site place include_line (Directive at) text rest e s f =
    f.3 (contained directive_spellings include (directive_word (text ++ rest)) s.0.spelled)
form_apart site place include_line (BadDefine at) text rest e s f =
    one_directive (directive_word (text ++ rest)) s.0.spelled f.1.spelled
form_apart site place (define_line said) (Directive at) text rest e s f =
    f.3 (contained directive_spellings define (directive_word (text ++ rest)) s.0.spelled)
form_apart site place (define_line said) (BadDefine at) text rest e s f =
    f.2 said (subst (λ line. Defines site.known line said) (sym (line_is stays_on_line text rest s.1)) s.2)
form_apart site place (lexeme kind) fault text rest e s f =
    lexeme_apart site place kind fault text rest e s f
form_apart site place blank fault text rest e s f = absurd (no_cause fault blanks refl e)
form_apart site place comment fault text rest e s f = cc
form_apart site place line_comment fault text rest e s f = absurd (no_cause fault line_comments refl e)
form_apart site place include_line fault text rest e s f = cc
form_apart site place (define_line said) fault text rest e s f = cc

pub apart : (site : Here) (place : ℕ) (form : Form) (fault : LexFault) (text rest : List ℕ)
    → Stands site form text rest → ¬ IsFault site place (text ++ rest) fault
apart site place form fault text rest s f =
    let e = sym (piece_class site form text rest s) ∙ cause_class site place (text ++ rest) fault f in
    form_apart site place form fault text rest e s f
