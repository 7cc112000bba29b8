-- Every text is read to its end or to a fault.
use Rattle.std.proofs.Common.{◌≡◌, ◌⊎◌, inl, inr, ℕ, zero, suc, ◌<◌, ◌≤◌, true, false, List, [], ◌∷◌, ◌++◌, take, drop}
use Rattle.std.proofs.Common.{length, refl, sym, ap, ◌∙◌, arith, subst}
use Rattle.std.specs.Prelude.{pos, codes, slice_get, take_while}
use Rattle.std.specs.Char.{is_ascii_digit}
use Rattle.std.proofs.lemmas.Bool.{and_left, cases_lt, cases_eq, cases_Bool}
use Rattle.std.proofs.lemmas.List.{take-append-drop, length-drop}
use Rattle.std.proofs.lemmas.List.Folds.{length-prefix_len}
use Rattle.flame_rows.proofs.Truths.{cases_Option}
use Rattle.flame_ops.specs.Ascii.{begins_word}
use Rattle.flame_ops.specs.Words.{operator_spellings, directive_spellings}
use Rattle.flame_lex.specs.declared.fault.LexFault.{LexFault}
use Rattle.flame_lex.specs.declared.fault.LexFault.TheVariants.{BadByte, BadNumber, BigNumber, OpenComment, Directive}
use Rattle.flame_lex.specs.declared.fault.LexFault.TheVariants.{BadDefine}
use Rattle.flame_lex.specs.declared.found.Found.{Found}
use Rattle.flame_lex.specs.declared.found.Found.TheVariants.{Gap}
use Rattle.flame_lex.specs.declared.token.Kind.TheVariants.{Number}
use Rattle.flame_lex.specs.declared.token.Token.{Token}
use Rattle.flame_lex.specs.ByteRuns.{is_blank, is_hash, stays_on_line, first_is, begins}
use Rattle.flame_lex.specs.Numerals.{number_value}
use Rattle.flame_lex.specs.DefineLines.{after_close, Defines}
use Rattle.flame_lex.specs.LexPieces.{Here, blank, IsDirective, directive_word, define}
use Rattle.flame_lex.specs.LexFaults.{IsFault}
use Rattle.flame_lex.specs.Lexing.{Piece, nothing, past_all, here, IsCut, tokens_of, Lexes, Faults}
use Rattle.flame_lex.specs.LexSteps.{IsPiece}
use Rattle.flame_lex.proofs.Classes.{hash_nothing}
use Rattle.flame_lex.proofs.Cuts.{cut_more, token_piece}
use Rattle.flame_lex.proofs.Decisions.{contains_or_not, number_at, word_kind_of, define_or_not}
use Rattle.flame_lex.proofs.Decisions.{longest_or_none}
use Rattle.flame_lex.proofs.Gaps.{comment_piece, line_comment_piece, include_piece, define_piece, second}
use Rattle.flame_lex.proofs.Lexemes.{word_count, word_token, number_token, number_fault}
use Rattle.flame_lex.proofs.Marks.{mark_token}
use Rattle.flame_lex.proofs.WordKinds.{operators_table}

-- a piece stands at the front of the bytes, or there is a cause why none does
abbrev IsRead : Here → ℕ → List ℕ → Type 0
IsRead site place bytes =
    ((found : Found) × (count : ℕ) × IsPiece site bytes found count)
    ⊎ ((fault : LexFault) × IsFault site place bytes fault)

define_read : (site : Here) (place : ℕ) (bytes : List ℕ) → IsDirective site define bytes → IsRead site place bytes
define_read site place bytes directive = elim (define_or_not site.known (take_while stays_on_line bytes)) [
  | inl said ↦ inl (
    _,
    _,
    define_piece site bytes said.0 directive
        (subst (λ n. Defines site.known (take n bytes) said.0) (sym (length-prefix_len stays_on_line bytes)) said.1),
  )
  | inr none ↦ inr (BadDefine place, (refl, directive, none))
]

directive_read : (site : Here) (place : ℕ) (bytes : List ℕ) → site.line_begins ≡ true → first_is is_hash bytes ≡ true
    → IsRead site place bytes
directive_read site place bytes b h = elim (contains_or_not directive_spellings (directive_word bytes)) [
  | inr none ↦ inr (Directive place, (refl, b, h, none))
  | inl c ↦
      let at = number_at directive_spellings (directive_word bytes) c in
      elim (cases_eq c.0 0) [
        | inl e ↦ inl (
          _,
          _,
          include_piece site bytes (record {
            line_begins = b;
            hash = h;
            spelled = ap (slice_get directive_spellings) (sym e) ∙ at;
          }),
        )
        | inr other ↦ define_read site place bytes (record {
          line_begins = b;
          hash = h;
          spelled = ap (slice_get directive_spellings) (sym (second c.0 (directive_word bytes) at other)) ∙ at;
        })
      ]
]

hash_read : (site : Here) (place : ℕ) (bytes : List ℕ) → 0 < length bytes → first_is is_hash bytes ≡ true
    → IsRead site place bytes
hash_read site place bytes more h = elim (cases_Bool site.line_begins) [
  | inl b ↦ directive_read site place bytes b h
  | inr b ↦ inr (BadByte place, (refl, hash_nothing site bytes more h b))
]

blank_read : (site : Here) (place : ℕ) (bytes : List ℕ) → first_is is_blank bytes ≡ true → IsRead site place bytes
blank_read site place [] h = cc
blank_read site place (b ∷ bytes) h = inl (
  Gap,
  1,
  record {
    form = blank;
    says = refl;
    more = omega arith;
    within = omega arith;
    stands = (b, refl, h);
  },
)

comment_read : (site : Here) (place : ℕ) (bytes : List ℕ) → begins bytes (codes "/*") ≡ true → IsRead site place bytes
comment_read site place bytes h = elim (cases_Option (after_close (drop 2 bytes))) [
  | inl endless ↦ inr (OpenComment place, (refl, h, endless))
  | inr close ↦ inl (_, _, comment_piece site bytes close.0 h close.1)
]

number_read : (site : Here) (place : ℕ) (bytes : List ℕ) → first_is is_ascii_digit bytes ≡ true
    → IsRead site place bytes
number_read site place bytes h =
    let run = take (word_count bytes) bytes in
    elim (cases_Option (number_value run)) [
      | inl none ↦ inr (BadNumber place, number_fault site place bytes (BadNumber place) h (refl, none))
      | inr n ↦ elim (cases_lt 2147483647 n.0) [
        | inl big ↦ inr (
          BigNumber place,
          number_fault site place bytes (BigNumber place) h
              (refl, record { value = n.0; written = n.1; big = big }),
        )
        | inr small ↦ inl (
          _,
          _,
          token_piece site bytes (Number (pos n.0)) (word_count bytes)
              (number_token (pos n.0) bytes h (record { value = n.0; written = n.1; small = small; same = refl })),
        )
      ]
    ]

other_read : (site : Here) (place : ℕ) (bytes : List ℕ) → 0 < length bytes → first_is is_hash bytes ≡ false
    → first_is is_blank bytes ≡ false → begins bytes (codes "/*") ≡ false → begins bytes (codes "//") ≡ false
    → first_is begins_word bytes ≡ false → first_is is_ascii_digit bytes ≡ false
    → IsRead site place bytes
other_read site place bytes more no_hash no_blank no_comment no_line no_word no_digit =
    elim (longest_or_none operator_spellings bytes) [
      | inl best ↦ inl (
        _,
        _,
        token_piece site bytes _ _ (mark_token bytes best.0 (rw (no_comment, no_line) refl) best.1
            (operators_table.filled best.0 best.1.stands.within)),
      )
      | inr none ↦ inr (
        BadByte place,
        (
          refl,
          record {
            more = more;
            no_blank = no_blank;
            no_word = no_word;
            no_number = no_digit;
            no_operator = none;
            no_directive = and_left _ site.line_begins no_hash;
          },
        ),
      )
    ]

piece_or_fault : (site : Here) (place : ℕ) (bytes : List ℕ) → 0 < length bytes → IsRead site place bytes
piece_or_fault site place bytes more = elim (cases_Bool (first_is is_hash bytes)) [
  | inl h ↦ hash_read site place bytes more h
  | inr no_hash ↦ elim (cases_Bool (first_is is_blank bytes)) [
    | inl h ↦ blank_read site place bytes h
    | inr no_blank ↦ elim (cases_Bool (begins bytes (codes "/*"))) [
      | inl h ↦ comment_read site place bytes h
      | inr no_comment ↦ elim (cases_Bool (begins bytes (codes "//"))) [
        | inl h ↦ inl (_, _, line_comment_piece site bytes h)
        | inr no_line ↦ elim (cases_Bool (first_is begins_word bytes)) [
          | inl h ↦
              let kind = word_kind_of (take (word_count bytes) bytes) in
              inl (_, _, token_piece site bytes kind.0 (word_count bytes) (word_token kind.0 bytes h kind.1))
          | inr no_word ↦ elim (cases_Bool (first_is is_ascii_digit bytes)) [
            | inl h ↦ number_read site place bytes h
            | inr no_digit ↦
                other_read site place bytes more no_hash no_blank no_comment no_line no_word no_digit
          ]
        ]
      ]
    ]
  ]
]

read_from : (n : ℕ) (bytes rest : List ℕ) (pieces : List Piece) → length rest ≤ n → IsCut nothing pieces bytes rest
    → ((tokens : List Token) × Lexes bytes tokens) ⊎ ((fault : LexFault) × Faults bytes fault)
read_from n bytes [] pieces h cut = inl (tokens_of nothing pieces, (pieces, cut, refl))
read_from zero bytes (b ∷ rest) pieces h cut = absurd (omega (arith, h))
read_from (suc n) bytes (b ∷ rest) pieces h cut =
    let before = past_all nothing pieces in
    elim (piece_or_fault (here before) (length before.bytes) (b ∷ rest) (omega arith)) [
      | inl p ↦
          let count = p.1 in
          let last : Piece = record { form = p.2.form; text = take count (b ∷ rest) } in
          read_from n bytes (drop count (b ∷ rest)) (pieces ++ last ∷ [])
          (omega (arith, h, p.2.more, p.2.within, length-drop count (b ∷ rest)))
          (cut_more nothing pieces bytes (b ∷ rest) (drop count (b ∷ rest)) last cut
          (sym (take-append-drop count (b ∷ rest))) p.2.stands)
      | inr f ↦ inr (f.0, (pieces, b ∷ rest, cut, f.1))
    ]

pub every_text_is_read : (bytes : List ℕ)
    → ((tokens : List Token) × Lexes bytes tokens) ⊎ ((fault : LexFault) × Faults bytes fault)
every_text_is_read bytes = read_from (length bytes) bytes bytes [] (omega arith) refl
