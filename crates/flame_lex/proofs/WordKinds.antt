-- A text is of one kind.
use Rattle.std.proofs.Common.{◌≡◌, ℕ, true, Bool, List, [], ◌∷◌, ◌++◌, refl, sym, ap, ◌∙◌, arith, subst, get_or}
use Rattle.std.specs.Prelude.{codes, not, ◌&&◌, Contains, slice_get, Some}
use Rattle.std.proofs.lemmas.Bool.{and_parts, both_ways, not-true}
use Rattle.std.proofs.lemmas.List.{append_cancel_left, append_cancel_right}
use Rattle.std.proofs.lemmas.Option.{slice_get_within, get_or_from_slice_get}
use Rattle.flame_ops.specs.Spellings.{IsTable}
use Rattle.flame_ops.specs.Words.{operator_spellings, keyword_spellings}
use Rattle.flame_ops.proofs.Distinct.{IsTable-is_table}
use Rattle.flame_lex.specs.declared.token.Kind.{Kind}
use Rattle.flame_lex.specs.declared.token.Kind.TheVariants.{Word, Number, Mark, Key, Start, Finish}
use Rattle.flame_lex.specs.ByteRuns.{first_is, IsRun, begins}
use Rattle.flame_lex.specs.SourceWords.{IsLoopWord, IsKeyword, IsWordKind, start, finish}
use Rattle.flame_lex.proofs.Prefixes.{begins_from}
use Rattle.flame_lex.proofs.Classes.{all_at}

pub operators_table : IsTable operator_spellings
operators_table = IsTable-is_table operator_spellings refl

keywords_table : IsTable keyword_spellings
keywords_table = IsTable-is_table keyword_spellings refl

-- the spelling of a number is among the spellings
pub contained : (spellings : List (List ℕ)) (number : ℕ) (word : List ℕ) → slice_get spellings number ≡ Some word
    → Contains spellings word
contained spellings number word k = (
  number,
  slice_get_within spellings number word k,
  get_or_from_slice_get spellings number word word k,
)

pub keyword_contained : (number : ℕ) (word : List ℕ) → IsKeyword number word → Contains keyword_spellings word
keyword_contained number word k = contained keyword_spellings number word k

abbrev is_unopened : List ℕ → Bool
is_unopened word = not (begins word start) && not (begins word finish)

keyword_unopened : (number : ℕ) (word : List ℕ) → IsKeyword number word → is_unopened word ≡ true
keyword_unopened number word k =
    subst (λ l. is_unopened l ≡ true) (get_or_from_slice_get keyword_spellings number word [] k)
    (all_at is_unopened keyword_spellings number refl (slice_get_within keyword_spellings number word k))

no_start_key : (number : ℕ) (name word : List ℕ) → IsKeyword number word → ¬ IsLoopWord start name word
no_start_key number name word k w =
    both_ways _ (not-true _ (and_parts _ _ (keyword_unopened number word k)).0) (begins_from word start _ w.parts)

no_finish_key : (number : ℕ) (name word : List ℕ) → IsKeyword number word → ¬ IsLoopWord finish name word
no_finish_key number name word k w =
    both_ways _ (not-true _ (and_parts _ _ (keyword_unopened number word k)).1) (begins_from word finish _ w.parts)

one_key : (number other : ℕ) (word : List ℕ) → IsKeyword number word → IsKeyword other word → number ≡ other
one_key number other word k j =
    keywords_table.once number other (slice_get_within keyword_spellings number word k)
    (slice_get_within keyword_spellings other word j)
    (get_or_from_slice_get keyword_spellings number word [] k
    ∙ sym (get_or_from_slice_get keyword_spellings other word [] j))

one_name : (opening name other word : List ℕ) → IsLoopWord opening name word → IsLoopWord opening other word
    → name ≡ other
one_name opening name other word w v =
    append_cancel_right name other (codes "_MESSAGE_LOOP") (append_cancel_left opening _ _ (sym w.parts ∙ v.parts))

start_finish : (name other word : List ℕ) → IsLoopWord start name word → ¬ IsLoopWord finish other word
start_finish name other word w v =
    let e = ap (λ l. get_or l 0 0) (sym w.parts ∙ v.parts) in
    omega (arith, e)

pub one_word_kind : (kind more : Kind) (word : List ℕ) → IsWordKind kind word → IsWordKind more word → kind ≡ more
one_word_kind (Word a) (Word b) word k j = ap Word (k.1 ∙ sym j.1)
one_word_kind (Word a) (Key n) word k j = absurd (k.0.no_keyword (keyword_contained n word j))
one_word_kind (Word a) (Start b) word k j = absurd (k.0.no_start b j)
one_word_kind (Word a) (Finish b) word k j = absurd (k.0.no_finish b j)
one_word_kind (Key n) (Word b) word k j = absurd (j.0.no_keyword (keyword_contained n word k))
one_word_kind (Key n) (Key m) word k j = ap Key (one_key n m word k j)
one_word_kind (Key n) (Start b) word k j = absurd (no_start_key n b word k j)
one_word_kind (Key n) (Finish b) word k j = absurd (no_finish_key n b word k j)
one_word_kind (Start a) (Word b) word k j = absurd (j.0.no_start a k)
one_word_kind (Start a) (Key n) word k j = absurd (no_start_key n a word j k)
one_word_kind (Start a) (Start b) word k j = ap Start (one_name start a b word k j)
one_word_kind (Start a) (Finish b) word k j = absurd (start_finish a b word k j)
one_word_kind (Finish a) (Word b) word k j = absurd (j.0.no_finish a k)
one_word_kind (Finish a) (Key n) word k j = absurd (no_finish_key n a word j k)
one_word_kind (Finish a) (Start b) word k j = absurd (start_finish b a word j k)
one_word_kind (Finish a) (Finish b) word k j = ap Finish (one_name finish a b word k j)
one_word_kind (Number n) more word k j = absurd k
one_word_kind (Mark n) more word k j = absurd k
one_word_kind kind (Number n) word k j = absurd j
one_word_kind kind (Mark n) word k j = absurd j

pub one_run : (p : ℕ → Bool) (text rest other behind : List ℕ) → IsRun p text rest → IsRun p other behind
    → text ++ rest ≡ other ++ behind → text ≡ other
one_run p [] rest [] behind r q e = refl
one_run p [] rest (b ∷ other) behind r q e =
    absurd (both_ways _ (sym (ap (first_is p) e) ∙ r.ends) (and_parts _ _ q.all).0)
one_run p (a ∷ text) rest [] behind r q e =
    absurd (both_ways _ (ap (first_is p) e ∙ q.ends) (and_parts _ _ r.all).0)
one_run p (a ∷ text) rest (b ∷ other) behind r q e =
    let first : a ≡ b = cc in
    let further : text ++ rest ≡ other ++ behind = cc in
    let same =
    one_run p text rest other behind (record { all = (and_parts _ _ r.all).1; ends = r.ends })
    (record { all = (and_parts _ _ q.all).1; ends = q.ends }) further in
    ap (λ x. x ∷ text) first ∙ ap (λ l. b ∷ l) same
