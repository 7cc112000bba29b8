-- A text is cut in one way.
use Rattle.std.proofs.Common.{◌≡◌, ℕ, ◌<◌, ◌≤◌, List, [], ◌∷◌, ◌++◌, length, refl, sym, ap, ◌∙◌, arith, subst}
use Rattle.std.proofs.lemmas.List.{append_cancel_left, length-append}
use Rattle.flame_lex.specs.declared.token.Token.{Token}
use Rattle.flame_lex.specs.declared.token.Kind.{Kind}
use Rattle.flame_lex.specs.declared.token.Kind.TheVariants.{Word, Number, Mark, Key, Start, Finish}
use Rattle.flame_lex.specs.declared.fault.LexFault.{LexFault}
use Rattle.flame_lex.specs.declared.fault.LexFault.TheVariants.{BadByte, BadNumber, BigNumber, OpenComment, Directive}
use Rattle.flame_lex.specs.declared.fault.LexFault.TheVariants.{BadDefine}
use Rattle.flame_lex.specs.LexPieces.{Form, blank, comment, line_comment, include_line, define_line, lexeme, Here}
use Rattle.flame_lex.specs.LexPieces.{IsLexeme, Stands}
use Rattle.flame_lex.specs.LexFaults.{IsFault}
use Rattle.flame_lex.specs.Lexing.{Piece, Before, nothing, past, past_all, here, IsCut, found_of, token_at, tokens_of}
use Rattle.flame_lex.specs.Lexing.{Lexes, Faults}
use Rattle.flame_lex.proofs.Classes.{mark_byte, numeral_first}
use Rattle.flame_lex.proofs.WordKinds.{operators_table}
use Rattle.flame_lex.proofs.Unique.{one_piece, one_fault}
use Rattle.flame_lex.proofs.Apart.{apart}

-- no piece stands at the front of the rest
abbrev Stops : Here → List ℕ → Type 0
Stops site rest =
    (form : Form) (text behind : List ℕ) → rest ≡ text ++ behind → ¬ Stands site form text behind

no_empty_piece : (site : Here) (form : Form) → ¬ Stands site form [] []
no_empty_piece site blank s = cc
no_empty_piece site comment s = cc
no_empty_piece site line_comment s = cc
no_empty_piece site include_line s = let hash = s.0.hash in cc
no_empty_piece site (define_line said) s = let hash = s.0.hash in cc
no_empty_piece site (lexeme (Word name)) s = cc
no_empty_piece site (lexeme (Number n)) s = cc
no_empty_piece site (lexeme (Mark number)) s = let first = mark_byte [] number s.longest.stands in cc
no_empty_piece site (lexeme (Key number)) s = cc
no_empty_piece site (lexeme (Start name)) s = cc
no_empty_piece site (lexeme (Finish name)) s = cc

stops_at_end : (site : Here) → Stops site []
stops_at_end site form [] [] e s = no_empty_piece site form s
stops_at_end site form [] (b ∷ behind) e s = cc
stops_at_end site form (b ∷ text) behind e s = cc

stops_at_fault : (site : Here) (place : ℕ) (rest : List ℕ) (fault : LexFault)
    → IsFault site place rest fault → Stops site rest
stops_at_fault site place rest fault f form text behind e s =
    apart site place form fault text behind s (subst (λ l. IsFault site place l fault) e f)

-- two cuts that both stop are one
one_cut : (before : Before) (pieces more : List Piece) (bytes rest behind : List ℕ)
    → IsCut before pieces bytes rest → Stops (here (past_all before pieces)) rest
    → IsCut before more bytes behind → Stops (here (past_all before more)) behind
    → (pieces ≡ more) × (rest ≡ behind)
one_cut before [] [] bytes rest behind c stops d ends = (refl, sym c ∙ d)
one_cut before [] (q ∷ more) bytes rest behind c stops d ends =
    absurd (stops q.form q.text d.0 (sym c ∙ d.1) d.2)
one_cut before (p ∷ pieces) [] bytes rest behind c stops d ends =
    absurd (ends p.form p.text c.0 (sym d ∙ c.1) c.2)
one_cut before (p ∷ pieces) (q ∷ more) bytes rest behind c stops d ends =
    let first = one_piece (here before) p.form q.form p.text c.0 q.text d.0 c.2 d.2 (sym c.1 ∙ d.1) in
    let middle : c.0 ≡ d.0 = append_cancel_left q.text c.0 d.0 (ap (λ l. l ++ c.0) (sym first.1) ∙ sym c.1 ∙ d.1) in
    let head : p ≡ q = λ i. record { form = first.0 i; text = first.1 i } in
    let shared : IsCut (past before p) more c.0 behind =
    subst (λ x. IsCut (past before x) more c.0 behind) (sym head)
    (subst (λ l. IsCut (past before q) more l behind) (sym middle) d.3) in
    let ends' = subst (λ x. Stops (here (past_all (past before x) more)) behind) (sym head) ends in
    let further = one_cut (past before p) pieces more c.0 rest behind c.3 stops shared ends' in
    (ap (λ x. x ∷ pieces) head ∙ ap (λ l. q ∷ l) further.0, further.1)

-- a cut of the whole text stops
stops_whole : (pieces : List Piece) → Stops (here (past_all nothing pieces)) []
stops_whole pieces = stops_at_end (here (past_all nothing pieces))

-- a cut up to a fault stops
stops_behind : (bytes : List ℕ) (fault : LexFault) (f : Faults bytes fault)
    → Stops (here (past_all nothing f.0)) f.1
stops_behind bytes fault f =
    let before = past_all nothing f.0 in
    stops_at_fault (here before) (length before.bytes) f.1 fault f.3

pub one_whole_cut : (bytes : List ℕ) (pieces more : List Piece) → IsCut nothing pieces bytes []
    → IsCut nothing more bytes [] → pieces ≡ more
one_whole_cut bytes pieces more a b =
    (one_cut nothing pieces more bytes [] [] a (stops_whole pieces) b (stops_whole more)).0

pub one_token_list : (bytes : List ℕ) (tokens more : List Token) → Lexes bytes tokens → Lexes bytes more → tokens ≡ more
one_token_list bytes tokens more a b =
    a.2 ∙ ap (tokens_of nothing) (one_whole_cut bytes a.0 b.0 a.1 b.1) ∙ sym b.2

pub one_fault_of : (bytes : List ℕ) (fault other : LexFault) → Faults bytes fault → Faults bytes other → fault ≡ other
one_fault_of bytes fault other f g =
    let cuts =
    one_cut nothing f.0 g.0 bytes f.1 g.1 f.2 (stops_behind bytes fault f) g.2 (stops_behind bytes other g) in
    let before = past_all nothing g.0 in
    let moved =
    subst (λ p. IsFault (here (past_all nothing p)) (length (past_all nothing p).bytes) f.1 fault) cuts.0 f.3 in
    one_fault (here before) (length before.bytes) g.1 fault other
    (subst (λ l. IsFault (here before) (length before.bytes) l fault) cuts.1 moved) g.3

no_fault_at_end : (site : Here) (place : ℕ) (fault : LexFault) → ¬ IsFault site place [] fault
no_fault_at_end site place (BadByte at) f = omega (arith, f.1.more)
no_fault_at_end site place (BadNumber at) f = let first = numeral_first [] f.1 f.2 in cc
no_fault_at_end site place (BigNumber at) f = let first = numeral_first [] f.1 f.2 in cc
no_fault_at_end site place (OpenComment at) f = cc
no_fault_at_end site place (Directive at) f = let hash = f.2 in cc
no_fault_at_end site place (BadDefine at) f = let hash = f.1.hash in cc

pub tokens_or_fault : (bytes : List ℕ) (tokens : List Token) (fault : LexFault) → Lexes bytes tokens
    → ¬ Faults bytes fault
tokens_or_fault bytes tokens fault a f =
    let cuts =
    one_cut nothing a.0 f.0 bytes [] f.1 a.1 (stops_whole a.0) f.2 (stops_behind bytes fault f) in
    let before = past_all nothing f.0 in
    no_fault_at_end (here before) (length before.bytes) fault
    (subst (λ l. IsFault (here before) (length before.bytes) l fault) (sym cuts.1) f.3)

-- a lexeme has a byte
lexeme_filled : (kind : Kind) (text rest : List ℕ) → IsLexeme kind text rest → 0 < length text
lexeme_filled kind (b ∷ text) rest s = omega arith
lexeme_filled (Word name) [] rest s = cc
lexeme_filled (Number n) [] rest s = cc
lexeme_filled (Mark number) [] rest s =
    let filled = operators_table.filled number s.longest.stands.within in
    let size = ap length s.spelled in
    omega (arith, filled, size)
lexeme_filled (Key number) [] rest s = cc
lexeme_filled (Start name) [] rest s = cc
lexeme_filled (Finish name) [] rest s = cc

-- a piece makes at most as many tokens as it has bytes
few_at : (before : Before) (site : Here) (form : Form) (text rest : List ℕ) → Stands site form text rest
    → length (token_at before (found_of form)) ≤ length text
few_at before site blank text rest s = omega arith
few_at before site comment text rest s = omega arith
few_at before site line_comment text rest s = omega arith
few_at before site include_line text rest s = omega arith
few_at before site (define_line said) text rest s = omega arith
few_at before site (lexeme kind) text rest s = omega (arith, lexeme_filled kind text rest s)

pub few_of : (before : Before) (pieces : List Piece) (bytes rest : List ℕ) → IsCut before pieces bytes rest
    → length (tokens_of before pieces) ≤ length bytes
few_of before [] bytes rest cut = omega arith
few_of before (piece ∷ pieces) bytes rest cut =
    let first = few_at before (here before) piece.form piece.text cut.0 cut.2 in
    let further = few_of (past before piece) pieces cut.0 rest cut.3 in
    let size = ap length cut.1 in
    omega (
      arith,
      first,
      further,
      size,
      length-append piece.text cut.0,
      length-append (token_at before (found_of piece.form)) (tokens_of (past before piece) pieces),
    )

pub few_tokens : (bytes : List ℕ) (tokens : List Token) → Lexes bytes tokens → length tokens ≤ length bytes
few_tokens bytes tokens a = let size = ap length a.2 in omega (arith, size, few_of nothing a.0 bytes [] a.1)
