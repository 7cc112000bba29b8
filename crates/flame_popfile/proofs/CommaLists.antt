-- Texts with commas between them, one text more.
use Rattle.std.proofs.Common.{◌≡◌, ℕ, ◌+◌, ◌<◌, List, [], ◌∷◌, ◌++◌, Bool, true, false, ◌||◌, length, drop, get_or, map, refl, ap, sym, ◌∙◌}
use Rattle.std.proofs.Common.{◌≤◌, ◌⊎◌, append_assoc, append-nil, inl, inr, ap₂}
use Rattle.std.specs.Prelude.{ℤ, pos}
use Rattle.std.specs.Fmt.{signed_decimal}
use Rattle.std.specs.List.{zip, flat_map}
use Rattle.std.proofs.lemmas.List.{at_drop_more, drop_all, get_or_default}
use Rattle.flame_popfile.specs.RowTexts.{with_commas, comma}
use Rattle.flame_popfile.specs.CommaTexts.{comma_where, behind, has_some}

-- a text and those behind it
after_first : (x : List ℕ) (xs : List (List ℕ)) → with_commas (x ∷ xs) ≡ x ++ behind true xs
after_first x [] = sym (append-nil x)
after_first x (y ∷ xs) = ap (λ text. x ++ (comma ∷ text)) (after_first y xs)

-- behind nothing there are commas between the texts alone
pub behind_nothing : (xs : List (List ℕ)) → behind false xs ≡ with_commas xs
behind_nothing [] = refl
behind_nothing (x ∷ xs) = sym (after_first x xs)

-- a comma and a text were added, and those behind it are left
pub one_more :
    (before : List ℕ) (more : Bool) (x : List ℕ) (xs : List (List ℕ))
    → ((before ++ comma_where more) ++ x) ++ behind true xs ≡ before ++ behind more (x ∷ xs)
one_more before more x xs =
    append_assoc (before ++ comma_where more) x (behind true xs)
    ∙ append_assoc before (comma_where more) (x ++ behind true xs)

-- the same, where the texts are those of a list from a place on
pub one_more_of :
    {X : Type 0} (text : X → List ℕ) (before : List ℕ) (more : Bool) (xs : List X) (i : ℕ) (x : X)
    → i < length xs
    → x ≡ get_or xs i x
    → ((before ++ comma_where more) ++ text x) ++ behind true (map text (drop (i + 1) xs))
    ≡ before ++ behind more (map text (drop i xs))
one_more_of text before more xs i x h is =
    one_more before more (text x) (map text (drop (i + 1) xs))
    ∙ ap (λ y. before ++ behind more (map text (y ∷ drop (i + 1) xs))) is
    ∙ sym (ap (λ l. before ++ behind more l) (at_drop_more (map text) xs i x h))

-- the same, of what was written in two steps
pub commas_more :
    {X : Type 0} (text : X → List ℕ) (before commad written : List ℕ) (more : Bool) (xs : List X) (i : ℕ) (x : X)
    → i < length xs
    → x ≡ get_or xs i x
    → commad ≡ before ++ comma_where more
    → written ≡ commad ++ text x
    → written ++ behind true (map text (drop (i + 1) xs)) ≡ before ++ behind more (map text (drop i xs))
commas_more text before commad written more xs i x h is comma item =
    ap (λ l. l ++ behind true (map text (drop (i + 1) xs))) (item ∙ ap (λ l. l ++ text x) comma)
    ∙ one_more_of text before more xs i x h is

-- the same of numbers
pub numbers_more :
    (before commad written : List ℕ) (more : Bool) (numbers : List ℤ) (i : ℕ)
    → i < length numbers
    → commad ≡ before ++ comma_where more
    → written ≡ commad ++ signed_decimal (get_or numbers i (pos 0))
    → written ++ behind true (map signed_decimal (drop (i + 1) numbers))
    ≡ before ++ behind more (map signed_decimal (drop i numbers))
numbers_more before commad written more numbers i h comma item =
    let number = get_or numbers i (pos 0) in
    commas_more signed_decimal before commad written more numbers i number h (get_or_default numbers i (pos 0) number h) comma item

-- nothing is left
pub commas_ended :
    {X : Type 0} (text : X → List ℕ) (written whole : List ℕ) (more : Bool) (xs : List X) (i : ℕ)
    → length xs ≤ i
    → written ++ behind more (map text (drop i xs)) ≡ whole
    → written ≡ whole
commas_ended text written whole more xs i h is =
    sym (append-nil written)
    ∙ ap (λ l. written ++ behind more (map text l)) (sym (drop_all i xs h))
    ∙ is

-- all texts were written
pub commas_all :
    {X : Type 0} (text : X → List ℕ) (before written : List ℕ) (more : Bool) (xs : List X) (i : ℕ)
    → length xs ≤ i
    → written ++ behind more (map text (drop i xs)) ≡ before ++ behind false (map text xs)
    → written ≡ before ++ with_commas (map text xs)
commas_all text before written more xs i h is =
    commas_ended text written _ more xs i h is ∙ ap (λ l. before ++ l) (behind_nothing (map text xs))

-- ---- of two lists side by side

zip_ended : {A B : Type 0} (xs : List A) (ys : List B) → (xs ≡ []) ⊎ (ys ≡ []) → zip xs ys ≡ []
zip_ended [] ys h = refl
zip_ended (x ∷ xs) [] h = refl
zip_ended (x ∷ xs) (y ∷ ys) h = elim h [ inl e ↦ cc | inr e ↦ cc ]

-- the same of what each of the first list gives
pub mapped_ended :
    {A B C : Type 0} (f : A → C) (xs : List A) (ys : List B)
    → (xs ≡ []) ⊎ (ys ≡ []) → (map f xs ≡ []) ⊎ (ys ≡ [])
mapped_ended f xs ys h = elim h [ inl e ↦ inl (ap (map f) e) | inr e ↦ inr e ]

-- a comma and a text were added, and those of the pairs behind it are left
pub pairs_more :
    {A B : Type 0} (text : A × B → List ℕ) (before commad written : List ℕ) (more : Bool)
    (firsts firsts' : List A) (seconds seconds' : List B) (a : A) (b : B)
    → firsts ≡ a ∷ firsts'
    → seconds ≡ b ∷ seconds'
    → commad ≡ before ++ comma_where more
    → written ≡ commad ++ text (a, b)
    → written ++ behind true (map text (zip firsts' seconds')) ≡ before ++ behind more (map text (zip firsts seconds))
pairs_more text before commad written more firsts firsts' seconds seconds' a b first second comma item =
    ap (λ l. l ++ behind true (map text (zip firsts' seconds'))) (item ∙ ap (λ l. l ++ text (a, b)) comma)
    ∙ one_more before more (text (a, b)) (map text (zip firsts' seconds'))
    ∙ sym (ap₂ (λ xs ys. before ++ behind more (map text (zip xs ys))) first second)

-- all texts were written
pub pairs_all :
    {A B : Type 0} (texts : List (A × B) → List (List ℕ)) (before written : List ℕ) (more : Bool)
    (firsts : List A) (seconds : List B) (whole : List (List ℕ))
    → texts [] ≡ []
    → (firsts ≡ []) ⊎ (seconds ≡ [])
    → written ++ behind more (texts (zip firsts seconds)) ≡ before ++ behind false whole
    → written ≡ before ++ with_commas whole
pairs_all texts before written more firsts seconds whole none ended is =
    sym (append-nil written)
    ∙ ap (λ l. written ++ behind more l) (sym none)
    ∙ ap (λ pairs. written ++ behind more (texts pairs)) (sym (zip_ended firsts seconds ended))
    ∙ is
    ∙ ap (λ l. before ++ l) (behind_nothing whole)

-- ---- texts behind texts

-- texts behind texts
pub behind-append :
    (more : Bool) (xs ys : List (List ℕ))
    → behind more (xs ++ ys) ≡ behind more xs ++ behind (more || has_some xs) ys
behind-append false [] ys = refl
behind-append true [] ys = refl
behind-append more (x ∷ xs) ys =
    ap (λ text. comma_where more ++ (x ++ text)) (behind-append true xs ys)
    ∙ ap (λ text. comma_where more ++ text) (sym (append_assoc x (behind true xs) (behind true ys)))
    ∙ sym (append_assoc (comma_where more) (x ++ behind true xs) (behind true ys))
    ∙ ap (λ b. (comma_where more ++ (x ++ behind true xs)) ++ behind b ys) (sym (some more))
  where
    some : (b : Bool) → b || true ≡ true
    some true = refl
    some false = refl

-- the texts of some are some
pub has_some-map : {X Y : Type 0} (f : X → Y) (xs : List X) → has_some (map f xs) ≡ has_some xs
has_some-map f [] = refl
has_some-map f (x ∷ xs) = refl

-- the texts of a pair's list were written, and those of the pairs behind it are left
pub lists_more :
    {A B : Type 0} (texts : A × List B → List (List ℕ)) (before written : List ℕ) (more later some : Bool)
    (firsts firsts' : List A) (seconds seconds' : List (List B)) (a : A) (bs : List B)
    → firsts ≡ a ∷ firsts'
    → seconds ≡ bs ∷ seconds'
    → has_some (texts (a, bs)) ≡ some
    → later ≡ (more || some)
    → written ≡ before ++ behind more (texts (a, bs))
    → written ++ behind later (flat_map texts (zip firsts' seconds'))
    ≡ before ++ behind more (flat_map texts (zip firsts seconds))
lists_more texts before written more later some firsts firsts' seconds seconds' a bs first second has now item =
    let rest = flat_map texts (zip firsts' seconds') in
    ap₂ (λ l b. l ++ behind b rest) item (now ∙ ap (λ b. more || b) (sym has))
    ∙ append_assoc before (behind more (texts (a, bs))) (behind (more || has_some (texts (a, bs))) rest)
    ∙ ap (λ l. before ++ l) (sym (behind-append more (texts (a, bs)) rest))
    ∙ sym (ap₂ (λ xs ys. before ++ behind more (flat_map texts (zip xs ys))) first second)
