-- Start states, one function after another.
use mathlib.Core.Bool.{or-false}
use Rattle.std.proofs.Common.{◌≡◌, ℕ, ◌+◌, ◌<◌, List, [], ◌∷◌, ◌++◌, length, drop, get_or, refl, sym, ap, ◌∙◌, arith, true, false, Bool, not, cond}
use Rattle.std.specs.Prelude.{◌&&◌, ◌||◌, filter}
use Rattle.std.specs.Str.{bytes_eq}
use Rattle.std.proofs.lemmas.Bool.{false≢true}
use Rattle.std.proofs.lemmas.List.{drop_more, append-nil}
use Rattle.std.proofs.lemmas.List.Folds.{list_any_at, list_any-append}
use Rattle.std.proofs.lemmas.Slice.Eq.{bytes_eq-Decides}
use Rattle.flame_rows.proofs.Bytes.{bytes_eq-sym, bytes_eq-self}
use Rattle.flame_spec.specs.declared.models.Function.{Function}
use Rattle.flame_spec.specs.KnownNames.{is_among}
use Rattle.flame_spec.specs.States.{distinct_after, ends, is_entered, start_states}
use Rattle.flame_spec.proofs.Starts.{is_among-filter}

filter_push : (test : List ℕ → Bool) (xs : List (List ℕ)) (x : List ℕ) → filter test (xs ++ x ∷ []) ≡ filter test xs ++ cond (test x) (x ∷ []) []
filter_push test [] x = go (test x)
  where
    go : (b : Bool) → cond b (x ∷ []) [] ≡ [] ++ cond b (x ∷ []) []
    go true = refl
    go false = refl
filter_push test (y ∷ xs) x = go (test y) (filter_push test xs x)
  where
    go : (b : Bool) → filter test (xs ++ x ∷ []) ≡ filter test xs ++ cond (test x) (x ∷ []) [] → cond b (y ∷ filter test (xs ++ x ∷ [])) (filter test (xs ++ x ∷ [])) ≡ cond b (y ∷ filter test xs) (filter test xs) ++ cond (test x) (x ∷ []) []
    go true rest = ap (λ zs. y ∷ zs) rest
    go false rest = rest

-- what is left out by a test may be left out first
pub filter-distinct : (test : List ℕ → Bool) (earlier texts : List (List ℕ)) → filter test (distinct_after earlier texts) ≡ distinct_after (filter test earlier) (filter test texts)
filter-distinct test earlier [] = refl
filter-distinct test earlier (text ∷ texts) = go (test text) refl (is_among text earlier) refl (filter-distinct test earlier texts) (filter-distinct test (earlier ++ text ∷ []) texts)
  where
    go : (b : Bool) → test text ≡ b → (a : Bool) → is_among text earlier ≡ a
        → filter test (distinct_after earlier texts) ≡ distinct_after (filter test earlier) (filter test texts)
        → filter test (distinct_after (earlier ++ text ∷ []) texts) ≡ distinct_after (filter test (earlier ++ text ∷ [])) (filter test texts)
        → filter test (cond a (distinct_after earlier texts) (text ∷ distinct_after (earlier ++ text ∷ []) texts)) ≡ distinct_after (filter test earlier) (cond b (text ∷ filter test texts) (filter test texts))
    go true p true q same more =
        same ∙ ap (λ a. cond a (distinct_after (filter test earlier) (filter test texts)) (text ∷ distinct_after (filter test earlier ++ text ∷ []) (filter test texts))) (sym (is_among-filter test earlier text ∙ ap (λ a. a && test text) q ∙ p))
    go true p false q same more =
        ap (λ b. cond b (text ∷ filter test (distinct_after (earlier ++ text ∷ []) texts)) (filter test (distinct_after (earlier ++ text ∷ []) texts))) p
        ∙ ap (λ xs. text ∷ xs) (more ∙ ap (λ e. distinct_after e (filter test texts)) (filter_push test earlier text ∙ ap (λ b. filter test earlier ++ cond b (text ∷ []) []) p))
        ∙ ap (λ a. cond a (distinct_after (filter test earlier) (filter test texts)) (text ∷ distinct_after (filter test earlier ++ text ∷ []) (filter test texts))) (sym (is_among-filter test earlier text ∙ ap (λ a. a && test text) q))
    go false p true q same more = same
    go false p false q same more =
        ap (λ b. cond b (text ∷ filter test (distinct_after (earlier ++ text ∷ []) texts)) (filter test (distinct_after (earlier ++ text ∷ []) texts))) p
        ∙ more ∙ ap (λ e. distinct_after e (filter test texts)) (filter_push test earlier text ∙ ap (λ b. filter test earlier ++ cond b (text ∷ []) []) p ∙ append-nil (filter test earlier))

-- ---- the states that no function enters

abbrev pub unentered : List Function → List ℕ → Bool
unentered functions state = not (is_entered functions state)

pub starts_are : (functions : List Function) → 0 < length functions → start_states functions ≡ distinct_after [] (filter (unentered functions) (ends functions))
starts_are [] h = absurd (omega arith)
starts_are (f ∷ functions) h = filter-distinct (unentered (f ∷ functions)) [] (ends (f ∷ functions))

-- one function more: its state is passed over, or it is the next start state
pub starts_more : (functions : List Function) (i : ℕ) (f : Function) (found : List (List ℕ)) → i < length functions → f ≡ get_or functions i f
    → distinct_after found (filter (unentered functions) (ends (drop i functions)))
    ≡ cond (not (is_entered functions f.current || is_among f.current found)) (f.current ∷ distinct_after (found ++ f.current ∷ []) (filter (unentered functions) (ends (drop (i + 1) functions)))) (distinct_after found (filter (unentered functions) (ends (drop (i + 1) functions))))
starts_more functions i f found h e =
    ap (λ fs. distinct_after found (filter (unentered functions) (ends fs))) (drop_more functions i f h ∙ ap (λ g. g ∷ drop (i + 1) functions) (sym e))
    ∙ ap (λ b. distinct_after found (cond (unentered functions f.current) (f.current ∷ cond b (f.next ∷ rest) rest) (cond b (f.next ∷ rest) rest))) next_entered
    ∙ go (is_entered functions f.current)
  where
    rest : List (List ℕ)
    rest = filter (unentered functions) (ends (drop (i + 1) functions))

    next_entered : unentered functions f.next ≡ false
    next_entered = ap not (list_any_at (λ g. bytes_eq g.next f.next) functions i f h (ap (λ g. bytes_eq g.next f.next) (sym e) ∙ bytes_eq-self f.next))

    go : (b : Bool) → distinct_after found (cond (not b) (f.current ∷ rest) rest) ≡ cond (not (b || is_among f.current found)) (f.current ∷ distinct_after (found ++ f.current ∷ []) rest) (distinct_after found rest)
    go true = refl
    go false = flip (is_among f.current found)
      where
        flip : (a : Bool) → cond a (distinct_after found rest) (f.current ∷ distinct_after (found ++ f.current ∷ []) rest) ≡ cond (not a) (f.current ∷ distinct_after (found ++ f.current ∷ []) rest) (distinct_after found rest)
        flip true = refl
        flip false = refl

-- ---- texts that are passed over

pub is_among-push : (found : List (List ℕ)) (text q : List ℕ) → is_among q (found ++ text ∷ []) ≡ (is_among q found || bytes_eq text q)
is_among-push found text q = list_any-append (bytes_eq q) found (text ∷ []) ∙ ap (λ b. is_among q found || b) (or-false (bytes_eq q text) ∙ bytes_eq-sym q text)

pub absorbed : (a b : Bool) → (b ≡ true → a ≡ true) → (a || b) ≡ a
absorbed true b h = refl
absorbed false true h = absurd (false≢true (h refl))
absorbed false false h = refl

-- a text that is there already adds nothing
pub there_already : (test : List ℕ → Bool) (text q : List ℕ) → test text ≡ true → (test q || bytes_eq text q) ≡ test q
there_already test text q h = absorbed (test q) (bytes_eq text q) (λ e. ap test (sym ((bytes_eq-Decides text q).0 e)) ∙ h)
