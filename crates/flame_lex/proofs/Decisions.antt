-- What a word is, which operator is the longest, and whether a line is a define line, can always be told.
use Rattle.std.proofs.Common.{◌≡◌, ◌⊎◌, inl, inr, ℕ, zero, suc, ◌-◌, ◌<◌, ◌≤◌, false, List, [], ◌∷◌, ◌++◌}
use Rattle.std.proofs.Common.{take, drop, length, get_or, refl, sym, ap, ◌∙◌, arith, subst, Option, Some, None}
use Rattle.std.specs.Prelude.{ℤ, codes, Contains, slice_get, nat_eq, bytes_eq}
use Rattle.std.specs.List.{starts_with}
use Rattle.std.proofs.lemmas.Bool.{both_ways, cases_lt, cases_Bool}
use Rattle.std.proofs.lemmas.List.{take-append-drop, drop_at, length-append, append_cancel_left, append_cancel_right}
use Rattle.std.proofs.lemmas.Option.{slice_get-get_or}
use Rattle.std.proofs.lemmas.Slice.Eq.{bytes_eq-Decides}
use Rattle.flame_rows.proofs.Truths.{cases_Option}
use Rattle.flame_ops.specs.Spellings.{Stands, IsLongest, NoneStands, spelling}
use Rattle.flame_ops.specs.Words.{keyword_spellings}
use Rattle.flame_lex.specs.declared.define.Define.{Define}
use Rattle.flame_lex.specs.declared.token.Kind.{Kind}
use Rattle.flame_lex.specs.declared.token.Kind.TheVariants.{Word, Number, Mark, Key, Start, Finish}
use Rattle.flame_lex.specs.ByteRuns.{begins}
use Rattle.flame_lex.specs.DefineLines.{definition, Defines}
use Rattle.flame_lex.specs.SourceWords.{IsLoopWord, IsPlain, IsWordKind, start, finish}
use Rattle.flame_lex.proofs.Defining.{not_plain, one_name_said}
use Rattle.flame_lex.proofs.Prefixes.{begins_parts, begins_from}

later : (s word : List ℕ) (ss : List (List ℕ)) → bytes_eq s word ≡ false → ¬ Contains ss word
    → (k : ℕ) → k < length (s ∷ ss) → ¬ (get_or (s ∷ ss) k word ≡ word)
later s word ss h none zero within e = both_ways _ h ((bytes_eq-Decides s word).1 e)
later s word ss h none (suc k) within e = none (k, omega arith, e)

-- a word is among the spellings or not
pub contains_or_not : (spellings : List (List ℕ)) (word : List ℕ)
    → Contains spellings word ⊎ (¬ Contains spellings word)
contains_or_not [] word = inr (λ c. omega (arith, c.1))
contains_or_not (s ∷ ss) word = elim (cases_Bool (bytes_eq s word)) [
  | inl h ↦ inl (0, omega arith, (bytes_eq-Decides s word).0 h)
  | inr h ↦ elim (contains_or_not ss word) [
    | inl c ↦ inl (suc c.0, omega (arith, c.1), c.2)
    | inr none ↦ inr (λ c. later s word ss h none c.0 c.1 c.2)
  ]
]

pub number_at : (spellings : List (List ℕ)) (word : List ℕ) (c : Contains spellings word)
    → slice_get spellings c.0 ≡ Some word
number_at spellings word c = slice_get-get_or spellings c.0 word c.1 ∙ ap Some c.2

abbrev suffix : List ℕ
suffix = codes "_MESSAGE_LOOP"

behind_opening : (opening word name : List ℕ) → word ≡ opening ++ (name ++ suffix)
    → drop (length opening) word ≡ name ++ suffix
behind_opening opening word name e =
    ap (drop (length opening)) e ∙ drop_at opening (name ++ suffix) (length opening) refl

ends_so : (rest name : List ℕ) → rest ≡ name ++ suffix → drop (length rest - 13) rest ≡ suffix
ends_so rest name e =
    let size = ap length e in
    let n : length rest - 13 ≡ length name = omega (arith, size, length-append name suffix) in
    ap (λ k. drop k rest) n ∙ ap (drop (length name)) e ∙ drop_at name suffix (length name) refl

named_or_not : (opening word name : List ℕ) → word ≡ opening ++ (name ++ suffix)
    → ((name : List ℕ) × IsLoopWord opening name word) ⊎ ((name : List ℕ) → ¬ IsLoopWord opening name word)
named_or_not opening word [] e = inr (λ name w.
    let same : name ≡ [] =
    append_cancel_right name [] suffix (append_cancel_left opening _ _ (sym w.parts ∙ e)) in
    let size = ap length same in
    omega (arith, size, w.named))
named_or_not opening word (b ∷ name) e = inl (b ∷ name, record { parts = e; named = omega arith })

-- a word opens or closes a loop over messages or not
loop_or_not : (opening word : List ℕ)
    → ((name : List ℕ) × IsLoopWord opening name word) ⊎ ((name : List ℕ) → ¬ IsLoopWord opening name word)
loop_or_not opening word =
    let rest = drop (length opening) word in
    let name = take (length rest - 13) rest in
    elim (cases_Bool (begins word opening)) [
      | inr h ↦ inr (λ other w. both_ways _ h (begins_from word opening _ w.parts))
      | inl h ↦ elim (cases_Bool (bytes_eq (drop (length rest - 13) rest) suffix)) [
        | inr k ↦ inr (λ other w. both_ways _ k ((bytes_eq-Decides _ _).1 (ends_so rest other
            (behind_opening opening word other w.parts))))
        | inl k ↦ named_or_not opening word name
            (begins_parts word opening h
            ∙ ap (λ l. opening ++ l) (sym (take-append-drop (length rest - 13) rest)
            ∙ ap (λ l. name ++ l) ((bytes_eq-Decides _ _).0 k)))
      ]
    ]

-- every word is of some kind
pub word_kind_of : (word : List ℕ) → (kind : Kind) × IsWordKind kind word
word_kind_of word = elim (contains_or_not keyword_spellings word) [
  | inl c ↦ (Key c.0, number_at keyword_spellings word c)
  | inr no_key ↦ elim (loop_or_not start word) [
    | inl s ↦ (Start s.0, s.1)
    | inr no_start ↦ elim (loop_or_not finish word) [
      | inl f ↦ (Finish f.0, f.1)
      | inr no_finish ↦ (
        Word word,
        (record { no_keyword = no_key; no_start = no_start; no_finish = no_finish }, refl),
      )
    ]
  ]
]

plain_by : (kind : Kind) (word : List ℕ) → IsWordKind kind word → IsPlain word ⊎ (¬ IsPlain word)
plain_by (Word name) word k = inl k.0
plain_by (Number n) word k = absurd k
plain_by (Mark number) word k = absurd k
plain_by (Key number) word k = inr (not_plain (Key number) word (λ name e. cc) k)
plain_by (Start other) word k = inr (not_plain (Start other) word (λ name e. cc) k)
plain_by (Finish other) word k = inr (not_plain (Finish other) word (λ name e. cc) k)

-- a word is plain or not
plain_or_not : (word : List ℕ) → IsPlain word ⊎ (¬ IsPlain word)
plain_or_not word = plain_by (word_kind_of word).0 word (word_kind_of word).1

-- a line that begins with `#define` gives a word a number or not
pub define_or_not : (known : List ℕ → Option ℤ) (line : List ℕ)
    → ((said : Define) × Defines known line said) ⊎ ((said : Define) → ¬ Defines known line said)
define_or_not known line = elim (cases_Option (definition (drop 7 line))) [
  | inl none ↦ inr (λ said d. let e : None ≡ Some said = sym none ∙ d.says in cc)
  | inr s ↦ elim (plain_or_not s.0.name) [
    | inr other ↦ inr (λ said d. other (subst IsPlain (sym (one_name_said s.0 said (sym s.1 ∙ d.says))) d.plain))
    | inl plain ↦ elim (cases_Option (known s.0.name)) [
      | inl once ↦ inl (s.0, record { says = s.1; plain = plain; once = once })
      | inr twice ↦ inr (λ said d.
          let e : Some twice.0 ≡ None =
          sym twice.1 ∙ ap known (one_name_said s.0 said (sym s.1 ∙ d.says)) ∙ d.once in
          cc)
    ]
  ]
]

-- the longest among the first spellings that stand at the front of the bytes
record IsBest (spellings : List (List ℕ)) (bytes : List ℕ) (count number : ℕ) : Type 0 where
  stands : Stands spellings bytes number
  longest :
      (other : ℕ)
      → other < count
      → Stands spellings bytes other
      → length (spelling spellings other) ≤ length (spelling spellings number)

-- one more spelling stands there too
better : (spellings : List (List ℕ)) (bytes : List ℕ) (count number : ℕ) → IsBest spellings bytes count number
    → Stands spellings bytes count
    → (best : ℕ) × IsBest spellings bytes (suc count) best
better spellings bytes count number best stands =
    elim (cases_lt (length (spelling spellings number)) (length (spelling spellings count))) [
      | inl more ↦ (
        count,
        record {
          stands = stands;
          longest = λ other within s. elim (cases_lt other count) [
            | inl l ↦ omega (arith, best.longest other l s, more)
            | inr l ↦ let e : other ≡ count = omega (arith, l, within) in
                rw e (omega arith)
          ];
        },
      )
      | inr less ↦ (
        number,
        record {
          stands = best.stands;
          longest = λ other within s. elim (cases_lt other count) [
            | inl l ↦ best.longest other l s
            | inr l ↦ let e : other ≡ count = omega (arith, l, within) in
                rw e less
          ];
        },
      )
    ]

best_or_none : (spellings : List (List ℕ)) (bytes : List ℕ) (count : ℕ) → count ≤ length spellings
    → ((number : ℕ) × IsBest spellings bytes count number)
    ⊎ ((number : ℕ) → number < count → ¬ Stands spellings bytes number)
best_or_none spellings bytes zero h = inr (λ number within s. omega (arith, within))
best_or_none spellings bytes (suc count) h =
    elim (cases_Bool (starts_with nat_eq bytes (spelling spellings count))) [
      | inl b ↦
          let stands : Stands spellings bytes count = record { within = omega (arith, h); begins = b } in
          elim (best_or_none spellings bytes count (omega (arith, h))) [
            | inl best ↦ inl (better spellings bytes count best.0 best.1 stands)
            | inr none ↦ inl (
              count,
              record {
                stands = stands;
                longest = λ other within s. elim (cases_lt other count) [
                  | inl l ↦ absurd (none other l s)
                  | inr l ↦ let e : other ≡ count = omega (arith, l, within) in
                      rw e (omega arith)
                ];
              },
            )
          ]
      | inr b ↦ elim (best_or_none spellings bytes count (omega (arith, h))) [
        | inl best ↦ inl (
          best.0,
          record {
            stands = best.1.stands;
            longest = λ other within s. elim (cases_lt other count) [
              | inl l ↦ best.1.longest other l s
              | inr l ↦ let e : other ≡ count = omega (arith, l, within) in
                  absurd (both_ways _ (rw (sym e) at b) s.begins)
            ];
          },
        )
        | inr none ↦ inr (λ other within s. elim (cases_lt other count) [
          | inl l ↦ none other l s
          | inr l ↦ let e : other ≡ count = omega (arith, l, within) in
              both_ways _ (rw (sym e) at b) s.begins
        ])
      ]
    ]

-- one of the spellings is the longest, or none stands there
pub longest_or_none : (spellings : List (List ℕ)) (bytes : List ℕ)
    → ((number : ℕ) × IsLongest spellings bytes number) ⊎ NoneStands spellings bytes
longest_or_none spellings bytes = elim (best_or_none spellings bytes (length spellings) (omega arith)) [
  | inl best ↦ inl (
    best.0,
    record {
      stands = best.1.stands;
      longest = λ other s. best.1.longest other s.within s;
    },
  )
  | inr none ↦ inr (λ number s. none number s.within s)
]
