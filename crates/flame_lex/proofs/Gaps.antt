-- Comments and directives at the front of some bytes.
use Rattle.std.proofs.Common.{◌≡◌, ℕ, ◌-◌, ◌<◌, ◌≤◌, true, false, Bool, List, [], ◌∷◌, ◌++◌, take, drop, length, refl}
use Rattle.std.proofs.Common.{sym, ap, ◌∙◌, arith, subst, cond, Some}
use Rattle.std.specs.List.{take_while, prefix_len}
use Rattle.std.specs.Prelude.{codes, slice_get}
use Rattle.std.proofs.lemmas.List.{take-append-drop, drop_at, length-append, length-take, length-drop}
use Rattle.std.proofs.lemmas.List.Folds.{length-prefix_len}
use Rattle.std.proofs.lemmas.Bool.Decides.{nat_tests}
use Rattle.std.proofs.lemmas.Option.{slice_get_within}
use Rattle.flame_ops.specs.Ascii.{is_word_byte}
use Rattle.flame_ops.specs.Words.{directive_spellings}
use Rattle.flame_lex.specs.declared.define.Define.{Define}
use Rattle.flame_lex.specs.declared.found.Found.TheVariants.{Gap, Defined}
use Rattle.flame_lex.specs.ByteRuns.{is_hash, begins, first_is, stays_on_line}
use Rattle.flame_lex.specs.DefineLines.{after_close, Defines}
use Rattle.flame_lex.specs.LexPieces.{Here, comment, line_comment, include_line, define_line, include, define}
use Rattle.flame_lex.specs.LexPieces.{IsDirective}
use Rattle.flame_lex.specs.LexSteps.{IsPiece}
use Rattle.flame_lex.proofs.Prefixes.{begins_parts}
use Rattle.flame_lex.proofs.Runs.{run_front}

-- how many bytes stand before the next LF or the end
abbrev pub line_count : List ℕ → ℕ
line_count bytes = length (take_while stays_on_line bytes)

-- what follows a `*/` is an end of the bytes
by_test : (a : ℕ) (bytes rest : List ℕ) (t : Bool)
    → ((after_close bytes ≡ Some rest) → (text : List ℕ) × (bytes ≡ text ++ rest))
    → cond t (Some (drop 1 bytes)) (after_close bytes) ≡ Some rest → (text : List ℕ) × (a ∷ bytes ≡ text ++ rest)
by_test a bytes rest true further h =
    let e : drop 1 bytes ≡ rest = cc in
    (a ∷ take 1 bytes, ap (λ l. a ∷ l) (sym (take-append-drop 1 bytes) ∙ ap (λ l. take 1 bytes ++ l) e))
by_test a bytes rest false further h = let q = further h in (a ∷ q.0, ap (λ l. a ∷ l) q.1)

close_text : (bytes rest : List ℕ) → after_close bytes ≡ Some rest → (text : List ℕ) × (bytes ≡ text ++ rest)
close_text [] rest h = cc
close_text (a ∷ bytes) rest h = by_test a bytes rest (begins (a ∷ bytes) (codes "*/")) (close_text bytes rest) h

pub close_within : (bytes rest : List ℕ) (n : ℕ) → after_close (drop n bytes) ≡ Some rest → length rest ≤ length bytes
close_within bytes rest n h =
    let text = close_text (drop n bytes) rest h in
    let size = ap length text.1 in
    omega (arith, length-append text.0 rest, length-drop n bytes)

behind_text : (bytes text rest : List ℕ) → bytes ≡ text ++ rest → drop (length bytes - length rest) bytes ≡ rest
behind_text bytes text rest e =
    let size = ap length e in
    let n : length bytes - length rest ≡ length text = omega (arith, length-append text rest) in
    ap (λ k. drop k bytes) n ∙ ap (drop (length text)) e ∙ drop_at text rest (length text) refl

pub comment_piece : (site : Here) (bytes rest : List ℕ) → begins bytes (codes "/*") ≡ true
    → after_close (drop 2 bytes) ≡ Some rest → IsPiece site bytes Gap (length bytes - length rest)
comment_piece site bytes rest h close =
    let inside = close_text (drop 2 bytes) rest close in
    let parts = begins_parts bytes (codes "/*") h ∙ ap (λ l. codes "/*" ++ l) inside.1 in
    let size = ap length parts in
    let count = length bytes - length rest in
    let whole = sym (take-append-drop count bytes) in
    let behind = behind_text bytes (codes "/*" ++ inside.0) rest parts in
    record {
      form = comment;
      says = refl;
      more = omega (arith, length-append inside.0 rest);
      within = omega arith;
      stands = (
        subst (λ l. begins l (codes "/*") ≡ true) whole h,
        subst
            (λ l. after_close (drop 2 l) ≡ Some (drop count bytes)) whole (close ∙ ap Some (sym behind)),
      );
    }

pub line_count-within : (bytes : List ℕ) → line_count bytes ≤ length bytes
line_count-within bytes = omega (arith, length-take (prefix_len stays_on_line bytes) bytes)

pub line_count-more : (bytes : List ℕ) → first_is stays_on_line bytes ≡ true → 0 < line_count bytes
line_count-more [] h = cc
line_count-more (b ∷ bytes) h = rw (length-prefix_len stays_on_line (b ∷ bytes)) (rw h (omega arith))

pub line_comment_piece : (site : Here) (bytes : List ℕ) → begins bytes (codes "//") ≡ true
    → IsPiece site bytes Gap (line_count bytes)
line_comment_piece site bytes h =
    let parts = begins_parts bytes (codes "//") h in
    record {
      form = line_comment;
      says = refl;
      more = line_count-more bytes (ap (first_is stays_on_line) parts);
      within = line_count-within bytes;
      stands = (
        subst (λ l. begins l (codes "//") ≡ true) (sym (take-append-drop (line_count bytes) bytes)) h,
        run_front stays_on_line bytes,
      );
    }

hash_stays : (b : ℕ) → is_hash b ≡ true → stays_on_line b ≡ true
hash_stays b h = grind (arith, nat_tests)

line_filled : (bytes : List ℕ) → first_is is_hash bytes ≡ true → 0 < line_count bytes
line_filled [] h = cc
line_filled (b ∷ bytes) h = line_count-more (b ∷ bytes) (hash_stays b h)

pub include_piece : (site : Here) (bytes : List ℕ) → IsDirective site include bytes
    → IsPiece site bytes Gap (line_count bytes)
include_piece site bytes directive =
    let whole = sym (take-append-drop (line_count bytes) bytes) in
    record {
      form = include_line;
      says = refl;
      more = line_filled bytes directive.hash;
      within = line_count-within bytes;
      stands = (subst (λ l. IsDirective site include l) whole directive, run_front stays_on_line bytes);
    }

pub define_piece : (site : Here) (bytes : List ℕ) (said : Define) → IsDirective site define bytes
    → Defines site.known (take (line_count bytes) bytes) said
    → IsPiece site bytes (Defined said) (line_count bytes)
define_piece site bytes said directive defines =
    let whole = sym (take-append-drop (line_count bytes) bytes) in
    record {
      form = define_line said;
      says = refl;
      more = line_filled bytes directive.hash;
      within = line_count-within bytes;
      stands = (subst (λ l. IsDirective site define l) whole directive, run_front stays_on_line bytes, defines);
    }

-- a directive's word is what has been counted
pub directive_at : (site : Here) (number count : ℕ) (bytes : List ℕ) → site.line_begins ≡ true
    → first_is is_hash bytes ≡ true
    → slice_get directive_spellings number ≡ Some (take count (drop 1 bytes))
    → count ≡ length (take_while is_word_byte (drop 1 bytes))
    → IsDirective site number bytes
directive_at site number count bytes b h found e = record {
  line_begins = b;
  hash = h;
  spelled = found ∙ ap (λ n. Some (take n (drop 1 bytes))) (e ∙ length-prefix_len is_word_byte (drop 1 bytes));
}

-- a directive that is not the first is the second
pub second : (number : ℕ) (word : List ℕ) → slice_get directive_spellings number ≡ Some word → ¬ (number ≡ include)
    → number ≡ define
second number word found other =
    let within = slice_get_within directive_spellings number word found in
    omega (arith, within, other)
