-- A cut grows by one piece at its end.
use Rattle.std.proofs.Common.{◌≡◌, ℕ, List, [], ◌∷◌, ◌++◌, take, drop, refl, sym, ap, ◌∙◌, subst}
use Rattle.std.proofs.Common.{append_assoc}
use Rattle.std.proofs.lemmas.List.{append-nil, take-append-drop}
use Rattle.flame_lex.specs.declared.define_table.DefineTable.{DefineTable}
use Rattle.flame_lex.specs.declared.found.Found.{Found}
use Rattle.flame_lex.specs.declared.found.Found.TheVariants.{Lexeme}
use Rattle.flame_lex.specs.declared.token.Kind.{Kind}
use Rattle.flame_lex.specs.declared.token.Token.{Token}
use Rattle.flame_lex.specs.declared.place.Place.{Place}
use Rattle.flame_lex.specs.LexPieces.{Here, lexeme, Stands}
use Rattle.flame_lex.specs.Lexing.{Piece, Before, nothing, past, past_all, here, IsCut, found_of, known_after}
use Rattle.flame_lex.specs.Lexing.{token_at, tokens_of}
use Rattle.flame_lex.specs.LexSteps.{IsPlace, IsBehind, IsPiece, IsToken, here_at, known_in}

-- the bytes before a cut and those of its pieces are what stands before its rest
pub cut-bytes : (before : Before) (pieces : List Piece) (bytes rest : List ℕ) → IsCut before pieces bytes rest
    → before.bytes ++ bytes ≡ (past_all before pieces).bytes ++ rest
cut-bytes before [] bytes rest cut = ap (λ l. before.bytes ++ l) cut
cut-bytes before (piece ∷ pieces) bytes rest cut =
    ap (λ l. before.bytes ++ l) cut.1
    ∙ sym (append_assoc before.bytes piece.text cut.0)
    ∙ cut-bytes (past before piece) pieces cut.0 rest cut.3

pub cut_more : (before : Before) (pieces : List Piece) (bytes behind rest : List ℕ) (piece : Piece)
    → IsCut before pieces bytes behind
    → behind ≡ piece.text ++ rest
    → Stands (here (past_all before pieces)) piece.form piece.text rest
    → IsCut before (pieces ++ piece ∷ []) bytes rest
cut_more before [] bytes behind rest piece cut parts stands = (rest, cut ∙ parts, stands, refl)
cut_more before (first ∷ pieces) bytes behind rest piece cut parts stands = (
  cut.0,
  cut.1,
  cut.2,
  cut_more (past before first) pieces cut.0 behind rest piece cut.3 parts stands,
)

past_all_more : (before : Before) (pieces : List Piece) (piece : Piece)
    → past_all before (pieces ++ piece ∷ []) ≡ past (past_all before pieces) piece
past_all_more before [] piece = refl
past_all_more before (first ∷ pieces) piece = past_all_more (past before first) pieces piece

tokens_of_more : (before : Before) (pieces : List Piece) (piece : Piece)
    → tokens_of before (pieces ++ piece ∷ []) ≡ tokens_of before pieces ++ token_at (past_all before pieces)
    (found_of piece.form)
tokens_of_more before [] piece = append-nil (token_at before (found_of piece.form))
tokens_of_more before (first ∷ pieces) piece =
    ap (λ l. token_at before (found_of first.form) ++ l) (tokens_of_more (past before first) pieces piece)
    ∙ sym (append_assoc (token_at before (found_of first.form)) (tokens_of (past before first) pieces)
    (token_at (past_all (past before first) pieces) (found_of piece.form)))

-- what has been read up to the rest of the bytes
pub record IsReadUpTo (bytes rest : List ℕ) (tokens : List Token) (spot : Place) (defines : DefineTable) : Type 0 where
  pub pieces : List Piece
  pub parts : bytes ≡ (past_all nothing pieces).bytes ++ rest
  pub cut : IsCut nothing pieces bytes rest
  pub tokens_are : tokens ≡ tokens_of nothing pieces
  pub behind : IsBehind (past_all nothing pieces) spot defines

-- the table is what the define lines before say
same_known : (before : Before) (spot : Place) (defines : DefineTable) → IsBehind before spot defines
    → known_in defines ≡ before.known
same_known before spot defines behind = λ i word. behind.known word i

-- place and table say of the place what stands before it says
same_here : (before : Before) (spot : Place) (defines : DefineTable) → IsBehind before spot defines
    → here_at spot.line_begins defines ≡ here before
same_here before spot defines behind =
    λ i. record { line_begins = behind.place.line_begins i; known = λ word. behind.known word i }

pub read_more : (bytes rest : List ℕ) (tokens more : List Token) (spot next : Place) (defines after : DefineTable)
    (found : Found) (count : ℕ)
    → IsReadUpTo bytes rest tokens spot defines
    → IsPiece (here_at spot.line_begins defines) rest found count
    → ((before : Before) → IsPlace before.bytes spot → known_in defines ≡ before.known
    → more ≡ tokens ++ token_at before found)
    → ((word : List ℕ) → known_in after word ≡ known_after found (known_in defines) word)
    → ((before : List ℕ) → IsPlace before spot → IsPlace (before ++ take count rest) next)
    → IsReadUpTo bytes (drop count rest) more next after
read_more bytes rest tokens more spot next defines after found count read piece put add go =
    let before = past_all nothing read.pieces in
    let last : Piece = record { form = piece.form; text = take count rest } in
    let split = sym (take-append-drop count rest) in
    let known = same_known before spot defines read.behind in
    let stands =
    subst (λ site. Stands site piece.form (take count rest) (drop count rest))
    (same_here before spot defines read.behind) piece.stands in
    let cut = cut_more nothing read.pieces bytes rest (drop count rest) last read.cut split stands in
    let behind : IsBehind (past before last) next after = record {
      place = go before.bytes read.behind.place;
      known = λ word. add word
          ∙ ap (λ k. known_after found k word) known
          ∙ ap (λ f. known_after f before.known word) (sym piece.says);
    } in
    record {
      pieces = read.pieces ++ last ∷ [];
      parts = cut-bytes nothing (read.pieces ++ last ∷ []) bytes (drop count rest) cut;
      cut = cut;
      tokens_are =
          put before read.behind.place known
          ∙ ap (λ l. l ++ token_at before found) read.tokens_are
          ∙ ap (λ f. tokens_of nothing read.pieces ++ token_at before f) (sym piece.says)
          ∙ sym (tokens_of_more nothing read.pieces last);
      behind = subst (λ b. IsBehind b next after) (sym (past_all_more nothing read.pieces last)) behind;
    }

pub token_piece : (site : Here) (bytes : List ℕ) (kind : Kind) (count : ℕ) → IsToken kind bytes count
    → IsPiece site bytes (Lexeme kind) count
token_piece site bytes kind count token =
    record { form = lexeme kind; says = refl; more = token.more; within = token.within; stands = token.lexeme }
