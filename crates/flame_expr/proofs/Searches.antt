-- The longest run of tokens that steps match, found token by token.
use Rattle.std.proofs.Common.{◌≡◌, ◌⊎◌, inl, inr, ℕ, zero, suc, ◌+◌, ◌*◌, ◌<◌, ◌≤◌, List, [], ◌∷◌, length, drop, refl, sym, ap, ◌∙◌, subst, arith, Bool, true, false, length-drop}
use Rattle.std.proofs.lemmas.Bool.{false≢true}
use Rattle.flame_lex.specs.declared.token.Token.{Token}
use Rattle.flame_expr.specs.declared.lexemes.Lexeme.{Lexeme}
use Rattle.flame_expr.specs.declared.lexemes.Lexeme.TheVariants.{Nothing}
use Rattle.flame_expr.specs.Lexemes.{first, behind, is_real}
use Rattle.flame_expr.specs.ViablePrefixes.{Form, level, primary, a_unit, a_def, a_block, a_stmt, a_decl, an_item, a_simple, an_assign, a_place, a_value, some_args, a_body, an_if, a_while, a_for, a_do, a_loop, Symbol, lexeme, form, both, either, one_of, maybe, many, right_side, End, left, whole, Goes, done, Matches, IsLongest}
use Rattle.flame_expr.specs.ReadParts.{onto, left_of}
use Rattle.flame_expr.proofs.LexemeFacts.{and, and_left, and_right, or, all_pass, same, same_equal}
use Rattle.flame_expr.proofs.Heads.{Head, past, through, unknown, if_fits, joined, heads, One, one_apart, Heads, left_heads, right_heads, all_heads, from_heads}
use Rattle.flame_expr.proofs.Parts.{GoesAny, pasts, pasts_one, stay_any}
use Rattle.flame_expr.proofs.LongestPrefixes.{nothing_left}

-- whether a symbol may stand for nothing
abbrev nothing_form : Form → Bool
nothing_form a_unit = true
nothing_form n = false

abbrev nothing : Symbol → Bool
nothing (lexeme l) = false
nothing (form n) = nothing_form n
nothing (both x y) = and (nothing x) (nothing y)
nothing (either x y) = or (nothing x) (nothing y)
nothing (one_of ls) = false
nothing (maybe x) = true
nothing (many x) = true

-- a number that is above what the right side needs
abbrev rank : Form → ℕ
rank (level k) = 200 + 2 * k
rank primary = 100
rank a_unit = 100
rank a_def = 50
rank a_block = 50
rank a_stmt = 3000
rank a_decl = 50
rank an_item = 50
rank a_simple = 1000
rank an_assign = 500
rank a_place = 50
rank a_value = 500
rank some_args = 300
rank a_body = 2000
rank an_if = 50
rank a_while = 50
rank a_for = 50
rank a_do = 50
rank a_loop = 50

-- as many steps as heads takes at most, up to the first lexeme
abbrev upto : Bool → ℕ → ℕ
upto true n = n
upto false n = 0

abbrev need : Symbol → ℕ
need (lexeme l) = 1
need (form n) = rank n
need (both x y) = 1 + (need x + upto (nothing x) (need y))
need (either x y) = 1 + (need x + need y)
need (one_of ls) = 2 + length ls
need (maybe x) = 1 + need x
need (many x) = 1 + need x

abbrev needs : List Symbol → ℕ
needs [] = 1
needs (x ∷ X) = need x + upto (nothing x) (needs X)

abbrev negated : Bool → Bool
negated true = false
negated false = true

-- lexemes are real, and what repeats does not stand for nothing
abbrev sound : Symbol → Bool
sound (lexeme l) = is_real l
sound (form n) = true
sound (both x y) = and (sound x) (sound y)
sound (either x y) = and (sound x) (sound y)
sound (one_of ls) = all_pass is_real ls
sound (maybe x) = sound x
sound (many x) = and (negated (nothing x)) (sound x)

abbrev all_sound : List Symbol → Bool
all_sound [] = true
all_sound (x ∷ X) = and (sound x) (all_sound X)

abbrev Sided : Form → Type 0
Sided n = (need (right_side n) < rank n) × (nothing (right_side n) ≡ nothing_form n) × (sound (right_side n) ≡ true)

sided : (n : Form) → Sided n
sided (level zero) = (omega arith, refl, refl)
sided (level (suc zero)) = (omega arith, refl, refl)
sided (level (suc (suc zero))) = (omega arith, refl, refl)
sided (level (suc (suc (suc zero)))) = (omega arith, refl, refl)
sided (level (suc (suc (suc (suc zero))))) = (omega arith, refl, refl)
sided (level (suc (suc (suc (suc (suc zero)))))) = (omega arith, refl, refl)
sided (level (suc (suc (suc (suc (suc (suc zero))))))) = (omega arith, refl, refl)
sided (level (suc (suc (suc (suc (suc (suc (suc k)))))))) = (omega arith, refl, refl)
sided primary = (omega arith, refl, refl)
sided a_unit = (omega arith, refl, refl)
sided a_def = (omega arith, refl, refl)
sided a_block = (omega arith, refl, refl)
sided a_stmt = (omega arith, refl, refl)
sided a_decl = (omega arith, refl, refl)
sided an_item = (omega arith, refl, refl)
sided a_simple = (omega arith, refl, refl)
sided an_assign = (omega arith, refl, refl)
sided a_place = (omega arith, refl, refl)
sided a_value = (omega arith, refl, refl)
sided some_args = (omega arith, refl, refl)
sided a_body = (omega arith, refl, refl)
sided an_if = (omega arith, refl, refl)
sided a_while = (omega arith, refl, refl)
sided a_for = (omega arith, refl, refl)
sided a_do = (omega arith, refl, refl)
sided a_loop = (omega arith, refl, refl)

-- heads of which all is known: what is left is sound, and only a real lexeme is matched
abbrev Known : Lexeme → List Head → Type 0
Known d [] = Unit {0}
Known d (past X ∷ hs) = (is_real d ≡ true) × (all_sound X ≡ true) × Known d hs
Known d (through ∷ hs) = Known d hs
Known d (unknown X ∷ hs) = ⊥

known_joined : (d : Lexeme) (hs gs : List Head) → Known d hs → Known d gs → Known d (joined hs gs)
known_joined d [] gs h g = g
known_joined d (past X ∷ hs) gs h g = (h.0, h.1, known_joined d hs gs h.2 g)
known_joined d (through ∷ hs) gs h g = known_joined d hs gs h g
known_joined d (unknown X ∷ hs) gs h g = absurd h

known_fits : (r b : Bool) (l d : Lexeme) (X : List Symbol) → is_real l ≡ r → same l d ≡ b → r ≡ true → all_sound X ≡ true → Known d (if_fits r b l X)
known_fits false b l d X f g h s = absurd (false≢true h)
known_fits true true l d X f g h s = (ap is_real (sym (same_equal l d g)) ∙ f, s, tt)
known_fits true false l d X f g h s = tt

upto_pair : (a b : Bool) (m n p f : ℕ) → 1 + (m + upto a n) + upto (and a b) p ≤ suc f → m + upto a (n + upto b p) ≤ f
upto_pair true b m n p f h = omega (arith, h)
upto_pair false b m n p f h = omega (arith, h)

upto_former : (a b : Bool) (m n p f : ℕ) → 1 + (m + n) + upto (or a b) p ≤ suc f → m + upto a p ≤ f
upto_former true b m n p f h = omega (arith, h)
upto_former false b m n p f h = omega (arith, h)

upto_latter : (a b : Bool) (m n p f : ℕ) → 1 + (m + n) + upto (or a b) p ≤ suc f → n + upto b p ≤ f
upto_latter true true m n p f h = omega (arith, h)
upto_latter true false m n p f h = omega (arith, h)
upto_latter false b m n p f h = omega (arith, h)

upto_many : (a : Bool) (m n p f : ℕ) → negated a ≡ true → 1 + m + p ≤ suc f → m + upto a n ≤ f
upto_many true m n p f g h = absurd (false≢true g)
upto_many false m n p f g h = omega (arith, h)

upto_most : (a : Bool) (m p f : ℕ) → 1 + m + p ≤ suc f → m + upto a p ≤ f
upto_most true m p f h = omega (arith, h)
upto_most false m p f h = omega (arith, h)

upto_form : (a b : Bool) (m n p f : ℕ) → m < n → b ≡ a → n + upto a p ≤ suc f → m + upto b p ≤ f
upto_form a b m n p f l g h = let i : upto b p ≡ upto a p = ap (λ c. upto c p) g in omega (arith, l, h, i)

and_intro : (a b : Bool) → a ≡ true → b ≡ true → and a b ≡ true
and_intro true b f g = g
and_intro false b f g = f

-- enough steps leave nothing unknown
known : (f : ℕ) (X : List Symbol) (d : Lexeme) → needs X ≤ f → all_sound X ≡ true → Known d (heads f X d)
known zero [] d h s = absurd (omega (arith, h))
known zero (lexeme l ∷ X) d h s = absurd (omega (arith, h))
known zero (form n ∷ X) d h s = absurd (omega (arith, h, (sided n).0))
known zero (both x y ∷ X) d h s = absurd (omega (arith, h))
known zero (either x y ∷ X) d h s = absurd (omega (arith, h))
known zero (one_of ls ∷ X) d h s = absurd (omega (arith, h))
known zero (maybe x ∷ X) d h s = absurd (omega (arith, h))
known zero (many x ∷ X) d h s = absurd (omega (arith, h))
known (suc f) [] d h s = tt
known (suc f) (lexeme l ∷ X) d h s = known_fits (is_real l) (same l d) l d X refl refl (and_left (is_real l) (all_sound X) s) (and_right (is_real l) (all_sound X) s)
known (suc f) (form n ∷ X) d h s =
    let i = sided n in
    known f (right_side n ∷ X) d (upto_form (nothing_form n) (nothing (right_side n)) (need (right_side n)) (rank n) (needs X) f i.0 i.1 h) (and_intro (sound (right_side n)) (all_sound X) i.2 s)
known (suc f) (both x y ∷ X) d h s =
    let a = and_left (and (sound x) (sound y)) (all_sound X) s in
    known f (x ∷ y ∷ X) d (upto_pair (nothing x) (nothing y) (need x) (need y) (needs X) f h)
    (and_intro (sound x) (and (sound y) (all_sound X)) (and_left (sound x) (sound y) a)
    (and_intro (sound y) (all_sound X) (and_right (sound x) (sound y) a) (and_right (and (sound x) (sound y)) (all_sound X) s)))
known (suc f) (either x y ∷ X) d h s =
    let a = and_left (and (sound x) (sound y)) (all_sound X) s in
    let b = and_right (and (sound x) (sound y)) (all_sound X) s in
    known_joined d (heads f (x ∷ X) d) (heads f (y ∷ X) d)
    (known f (x ∷ X) d (upto_former (nothing x) (nothing y) (need x) (need y) (needs X) f h) (and_intro (sound x) (all_sound X) (and_left (sound x) (sound y) a) b))
    (known f (y ∷ X) d (upto_latter (nothing x) (nothing y) (need x) (need y) (needs X) f h) (and_intro (sound y) (all_sound X) (and_right (sound x) (sound y) a) b))
known (suc f) (one_of [] ∷ X) d h s = tt
known (suc f) (one_of (l ∷ ls) ∷ X) d h s =
    let a = and_left (and (is_real l) (all_pass is_real ls)) (all_sound X) s in
    let b = and_right (and (is_real l) (all_pass is_real ls)) (all_sound X) s in
    known_joined d (heads f (lexeme l ∷ X) d) (heads f (one_of ls ∷ X) d)
    (known f (lexeme l ∷ X) d (omega (arith, h)) (and_intro (is_real l) (all_sound X) (and_left (is_real l) (all_pass is_real ls) a) b))
    (known f (one_of ls ∷ X) d (omega (arith, h)) (and_intro (all_pass is_real ls) (all_sound X) (and_right (is_real l) (all_pass is_real ls) a) b))
known (suc f) (maybe x ∷ X) d h s =
    let a = and_left (sound x) (all_sound X) s in
    let b = and_right (sound x) (all_sound X) s in
    known_joined d (heads f (x ∷ X) d) (heads f X d)
    (known f (x ∷ X) d (upto_most (nothing x) (need x) (needs X) f h) (and_intro (sound x) (all_sound X) a b))
    (known f X d (omega (arith, h)) b)
known (suc f) (many x ∷ X) d h s =
    let a = and_left (and (negated (nothing x)) (sound x)) (all_sound X) s in
    let b = and_right (and (negated (nothing x)) (sound x)) (all_sound X) s in
    known_joined d (heads f (x ∷ many x ∷ X) d) (heads f X d)
    (known f (x ∷ many x ∷ X) d (upto_many (nothing x) (need x) (needs (many x ∷ X)) (needs X) f (and_left (negated (nothing x)) (sound x) a) h)
    (and_intro (sound x) (and (sound (many x)) (all_sound X)) (and_right (negated (nothing x)) (sound x) a) (and_intro (sound (many x)) (all_sound X) a b)))
    (known f X d (omega (arith, h)) b)

-- the heads of some rests, each with as many steps as it needs
abbrev next_heads : List (List Symbol) → Lexeme → List Head
next_heads [] d = []
next_heads (X ∷ A) d = joined (heads (needs X) X d) (next_heads A d)

next_all : (A : List (List Symbol)) (K : List Symbol) (ts : List Token) (e : End) → GoesAny A K ts e → Heads (next_heads A (first ts)) K ts e
next_all [] K ts e h = absurd h
next_all (X ∷ A) K ts e h = elim h [
  | inl i ↦ left_heads _ _ K ts e (all_heads (needs X) X K ts e i)
  | inr i ↦ right_heads (heads (needs X) X (first ts)) _ K ts e (next_all A K ts e i)
]

next_from : (A : List (List Symbol)) (K : List Symbol) (ts : List Token) (e : End) → One (next_heads A (first ts)) K ts e → GoesAny A K ts e
next_from [] K ts e h = absurd h
next_from (X ∷ A) K ts e h = elim (one_apart (heads (needs X) X (first ts)) _ K ts e h) [
  | inl i ↦ inl (from_heads (needs X) X K ts e i)
  | inr i ↦ inr (next_from A K ts e i)
]

abbrev Sound : List (List Symbol) → Type 0
Sound [] = Unit {0}
Sound (X ∷ A) = (all_sound X ≡ true) × Sound A

next_known : (A : List (List Symbol)) (d : Lexeme) → Sound A → Known d (next_heads A d)
next_known [] d s = tt
next_known (X ∷ A) d s = known_joined d (heads (needs X) X d) (next_heads A d) (known (needs X) X d (omega arith) s.0) (next_known A d s.1)

pasts_sound : (d : Lexeme) (hs : List Head) → Known d hs → Sound (pasts hs)
pasts_sound d [] k = tt
pasts_sound d (past X ∷ hs) k = (k.1, pasts_sound d hs k.2)
pasts_sound d (through ∷ hs) k = pasts_sound d hs k
pasts_sound d (unknown X ∷ hs) k = absurd k

-- whether nothing more has to be matched
abbrev may_end : List Head → Bool
may_end [] = false
may_end (past X ∷ hs) = may_end hs
may_end (through ∷ hs) = true
may_end (unknown X ∷ hs) = may_end hs

one_end : (hs : List Head) (K : List Symbol) (ts : List Token) (e : End) → may_end hs ≡ true → Goes K ts e → One hs K ts e
one_end [] K ts e m h = absurd (false≢true m)
one_end (past X ∷ hs) K ts e m h = inr (one_end hs K ts e m h)
one_end (through ∷ hs) K ts e m h = inl h
one_end (unknown X ∷ hs) K ts e m h = inr (one_end hs K ts e m h)

one_either : (d : Lexeme) (hs : List Head) (K : List Symbol) (ts : List Token) (e : End) → Known d hs → One hs K ts e → GoesAny (pasts hs) K (behind ts) e ⊎ ((may_end hs ≡ true) × Goes K ts e)
one_either d [] K ts e k h = absurd h
one_either d (past X ∷ hs) K ts e k h = elim h [
  | inl i ↦ inl (inl i)
  | inr i ↦ elim (one_either d hs K ts e k.2 i) [ inl j ↦ inl (inr j) | inr j ↦ inr j ]
]
one_either d (through ∷ hs) K ts e k h = elim h [
  | inl i ↦ inr (refl, i)
  | inr i ↦ elim (one_either d hs K ts e k i) [ inl j ↦ inl j | inr j ↦ inr (refl, j.1) ]
]
one_either d (unknown X ∷ hs) K ts e k h = absurd k

-- what steps from no rest, or from some rests, come to
any_either : (A : List (List Symbol)) (ts : List Token) (e : End) → Sound A → GoesAny A [] ts e → (e ≡ left ts) ⊎
    (GoesAny (pasts (next_heads A (first ts))) [] (behind ts) e ⊎ ((may_end (next_heads A (first ts)) ≡ true) × Goes [] ts e))
any_either A ts e s h = elim (next_all A [] ts e h) [
  | inl i ↦ inl i
  | inr i ↦ inr (one_either (first ts) (next_heads A (first ts)) [] ts e (next_known A (first ts) s) i)
]

any_on : (A : List (List Symbol)) (ts : List Token) (e : End) → GoesAny (pasts (next_heads A (first ts))) [] (behind ts) e → GoesAny A [] ts e
any_on A ts e h = next_from A [] ts e (pasts_one (next_heads A (first ts)) [] ts e h)

-- as far as steps from some rests get, and whether one of them is matched then
pub record Reach (A : List (List Symbol)) (ts : List Token) : Type 0 where
  pub count : ℕ
  pub within : count ≤ length ts
  pub gets : GoesAny A [] ts (left (drop count ts))
  pub longest : (m : ℕ) → count < m → m ≤ length ts → GoesAny A [] ts (left (drop m ts)) → ⊥
  pub ends : GoesAny A [] ts (whole (drop count ts)) ⊎ (GoesAny A [] ts (whole (drop count ts)) → ⊥)

no_pasts : (hs : List Head) → Known Nothing hs → pasts hs ≡ []
no_pasts [] k = refl
no_pasts (past X ∷ hs) k = absurd (false≢true k.0)
no_pasts (through ∷ hs) k = no_pasts hs k
no_pasts (unknown X ∷ hs) k = absurd k

abbrev is_whole : End → Bool
is_whole (left ts) = false
is_whole (whole ts) = true

left_not_whole : (ts us : List Token) → whole ts ≡ left us → ⊥
left_not_whole ts us f = false≢true (sym (ap is_whole f))

no_way : (P : List (List Symbol)) (ts : List Token) (e : End) → P ≡ [] → GoesAny P [] ts e → ⊥
no_way P ts e f h = subst (λ Q. GoesAny Q [] ts e) f h

-- nothing is matched
ends_or_not : (b : Bool) (A : List (List Symbol)) (ts : List Token) → may_end (next_heads A (first ts)) ≡ b → Sound A → pasts
    (next_heads A (first ts)) ≡ [] → GoesAny A [] ts (whole ts) ⊎ (GoesAny A [] ts (whole ts) → ⊥)
ends_or_not true A ts m s p = inl (next_from A [] ts (whole ts) (one_end (next_heads A (first ts)) [] ts (whole ts) m done))
ends_or_not false A ts m s p = inr (λ h. elim (any_either A ts (whole ts) s h) [
  | inl i ↦ left_not_whole ts ts i
  | inr i ↦ elim i [
    | inl j ↦ no_way (pasts (next_heads A (first ts))) (behind ts) (whole ts) p j
    | inr j ↦ false≢true (sym m ∙ j.0)
  ]
])

past_left : (ts : List Token) (m : ℕ) → 0 < m → m ≤ length ts → left (drop m ts) ≡ left ts → ⊥
past_left ts m l w f = let g : length (drop m ts) ≡ length ts = ap (λ e. length (left_of e)) f in absurd (omega (arith, l, w, g, length-drop m ts))

past_nothing : (ts : List Token) (m : ℕ) → 0 < m → m ≤ length ts → Goes [] ts (left (drop m ts)) → ⊥
past_nothing ts m l w h = let g = nothing_left ts (left (drop m ts)) h in absurd (omega (arith, l, w, g, length-drop m ts))

stays : (A : List (List Symbol)) (ts : List Token) → 0 < length A → Sound A → pasts (next_heads A (first ts)) ≡ [] → Reach A ts
stays A ts n s p = record {
  count = 0;
  within = omega arith;
  gets = stay_any A [] ts n;
  longest = λ m l w h. elim (any_either A ts (left (drop m ts)) s h) [
    | inl i ↦ past_left ts m l w i
    | inr i ↦ elim i [
      | inl j ↦ no_way (pasts (next_heads A (first ts))) (behind ts) (left (drop m ts)) p j
      | inr j ↦ past_nothing ts m l w j.1
    ]
  ];
  ends = ends_or_not (may_end (next_heads A (first ts))) A ts refl s p;
}

-- one token is matched, and then others
no_longer : (A B : List (List Symbol)) (token : Token) (ts : List Token) (q : Reach B ts) → B ≡ pasts (next_heads A (first (token ∷ ts))) → Sound A →
    (m : ℕ) → suc q.count < m → m ≤ length (token ∷ ts) → GoesAny A [] (token ∷ ts) (left (drop m (token ∷ ts))) → ⊥
no_longer A B token ts q f s zero l w h = absurd (omega (arith, l))
no_longer A B token ts q f s (suc m) l w h = elim (any_either A (token ∷ ts) (left (drop m ts)) s h) [
  | inl i ↦ past_left (token ∷ ts) (suc m) (omega arith) w i
  | inr i ↦ elim i [
    | inl j ↦ q.longest m (omega (arith, l)) (omega (arith, w)) (subst (λ Q. GoesAny Q [] ts (left (drop m ts))) (sym f) j)
    | inr j ↦ past_nothing (token ∷ ts) (suc m) (omega arith) w j.1
  ]
]

no_end : (A B : List (List Symbol)) (token : Token) (ts rest : List Token) → length rest ≤ length ts → B ≡ pasts (next_heads A (first (token ∷ ts))) →
    Sound A → (GoesAny B [] ts (whole rest) → ⊥) → GoesAny A [] (token ∷ ts) (whole rest) → ⊥
no_end A B token ts rest l f s n h = elim (any_either A (token ∷ ts) (whole rest) s h) [
  | inl i ↦ left_not_whole rest (token ∷ ts) i
  | inr i ↦ elim i [
    | inl j ↦ n (subst (λ Q. GoesAny Q [] ts (whole rest)) (sym f) j)
    | inr j ↦ absurd (let g = nothing_left (token ∷ ts) (whole rest) j.1 in omega (arith, g, l))
  ]
]

goes_on : (A B : List (List Symbol)) (token : Token) (ts : List Token) → B ≡ pasts (next_heads A (first (token ∷ ts))) → Sound A → Reach B ts → Reach A (token ∷ ts)
goes_on A B token ts f s q = record {
  count = suc q.count;
  within = omega (arith, q.within);
  gets = any_on A (token ∷ ts) (left (drop q.count ts)) (subst (λ Q. GoesAny Q [] ts (left (drop q.count ts))) f q.gets);
  longest = no_longer A B token ts q f s;
  ends = elim q.ends [
    | inl i ↦ inl (any_on A (token ∷ ts) (whole (drop q.count ts)) (subst (λ Q. GoesAny Q [] ts (whole (drop q.count ts))) f i))
    | inr i ↦ inr (no_end A B token ts (drop q.count ts) (omega (arith, length-drop q.count ts)) f s i)
  ];
}

reach_by : (A P : List (List Symbol)) (token : Token) (ts : List Token) → P ≡ pasts (next_heads A (first (token ∷ ts))) → 0 < length A → Sound A →
    (0 < length P → Sound P → Reach P ts) → Reach A (token ∷ ts)
reach_by A [] token ts f n s r = stays A (token ∷ ts) n s (sym f)
reach_by A (X ∷ P) token ts f n s r = goes_on A (X ∷ P) token ts f s
    (r (omega arith) (subst Sound (sym f) (pasts_sound (first (token ∷ ts)) (next_heads A (first (token ∷ ts))) (next_known A (first (token ∷ ts)) s))))

reach : (ts : List Token) (A : List (List Symbol)) → 0 < length A → Sound A → Reach A ts
reach [] A n s = stays A [] n s (no_pasts (next_heads A Nothing) (next_known A Nothing s))
reach (token ∷ ts) A n s = reach_by A (pasts (next_heads A (first (token ∷ ts)))) token ts refl n s (λ m t. reach ts (pasts (next_heads A (first (token ∷ ts)))) m t)

-- the longest prefix of a nonterminal, and whether it is matched then
pub record Longest (n : Form) (ts : List Token) : Type 0 where
  pub count : ℕ
  pub longest : IsLongest n ts count
  pub ends : Matches n ts (drop count ts) ⊎ (Matches n ts (drop count ts) → ⊥)

sole : (K : List Symbol) (ts : List Token) (e : End) → GoesAny (K ∷ []) [] ts e → Goes (onto K []) ts e
sole K ts e h = elim h [ inl i ↦ i | inr i ↦ absurd i ]

pub longest : (n : Form) (ts : List Token) → Longest n ts
longest n ts =
    let r = reach ts ((form n ∷ []) ∷ []) (omega arith) (refl, tt) in
    record {
      count = r.count;
      longest = record {
        within = r.within;
        is_prefix = sole (form n ∷ []) ts (left (drop r.count ts)) r.gets;
        longest = λ m l w h. r.longest m l w (inl h);
      };
      ends = elim r.ends [
        | inl i ↦ inl (sole (form n ∷ []) ts (whole (drop r.count ts)) i)
        | inr i ↦ inr (λ h. i (inl h))
      ];
    }
