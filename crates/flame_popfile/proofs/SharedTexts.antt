-- Texts of runs of rows make up the text of all rows.
use Rattle.std.proofs.Common.{◌≡◌, ℕ, zero, suc, ◌+◌, ◌*◌, ◌-◌, ◌<◌, ◌≤◌, List, [], ◌∷◌, ◌++◌, Bool, true, false, ◌||◌, length, take, drop, map, Vec, refl, ap, subst, sym, ◌∙◌, arith, append_assoc}
use Rattle.std.specs.Prelude.{ℤ, Result, Ok, IfOk, slice_index_or}
use Rattle.std.specs.Fork.{slice_chunk}
use Rattle.std.specs.Global.{Global}
use Rattle.std.proofs.lemmas.List.{drop-drop, get_or-map, length-drop, length-map, map-append, take-append-drop, nil_from_length}
use Rattle.std.proofs.lemmas.Grind.{div_ceil_times}
use Rattle.flame_rows.specs.declared.fails.NoMemory.{NoMemory}
use Rattle.flame_popfile.specs.declared.forms.Form.{Form}
use Rattle.flame_popfile.specs.CommaTexts.{AreTexts, behind, comma_where, form_text, has_some}
use Rattle.flame_popfile.proofs.CommaLists.{behind-append, has_some-map}

abbrev pub bytes_of : Vec ℕ Global → List ℕ
bytes_of text = text.items

module _ {X : Type 0} (text : X → List ℕ) (size : ℕ) (wide : 0 < size) where
  -- some texts after another, with a comma before all of them
  behind-some : (before : Bool) (xs : List X) → 0 < length xs
      → behind before (map text xs) ≡ comma_where before ++ behind false (map text xs)
  behind-some before [] some = absurd (omega (arith, some))
  behind-some before (x ∷ xs) some = refl

  some-some : (before : Bool) (xs : List X) → 0 < length xs → before || has_some xs ≡ true
  some-some before [] some = absurd (omega (arith, some))
  some-some true (x ∷ xs) some = refl
  some-some false (x ∷ xs) some = refl

  some-first : (xs : List X) → 0 < length xs → 0 < length (take size xs)
  some-first [] some = absurd (omega (arith, some))
  some-first (x ∷ xs) some = more size wide
    where
      more : (n : ℕ) → 0 < n → 0 < length (take n (x ∷ xs))
      more zero w = absurd (omega (arith, w))
      more (suc n) w = omega arith

  times-none : 0 * size ≡ 0
  times-none = omega arith

  times-more : (n : ℕ) → suc n * size ≡ size + n * size
  times-more n = omega arith

  shared : (before : Bool) (xs : List X) (texts : List (Vec ℕ Global))
      → ((n : ℕ) (other : Vec ℕ Global) → n < length texts
      → (slice_index_or texts n other).items ≡ behind false (map text (slice_chunk xs size n)))
      → ((n : ℕ) → n < length texts → n * size < length xs)
      → length xs ≤ length texts * size
      → behind before (map bytes_of texts) ≡ behind before (map text xs)
  shared before xs [] each within enough =
      ap (λ l. behind before (map text l)) (sym (nil_from_length xs (omega (arith, enough))))
  shared before xs (first ∷ texts) each within enough =
      let some : 0 < length xs = let at = within 0 (omega arith) in omega (arith, at) in
      let front = take size xs in
      let back = drop size xs in
      let less : length back ≡ length xs - size = length-drop size xs in
      ap (λ l. comma_where before ++ (first.items ++ l))
      (shared true back texts
      (λ n other more.
      each (suc n) other (omega (arith, more))
      ∙ ap (λ l. behind false (map text (take size l)))
      (ap (λ m. drop m xs) (times-more n) ∙ sym (drop-drop (n * size) size xs)))
      (λ n more. let at = within (suc n) (omega (arith, more)) in omega (arith, less, at, times-more n))
      (omega (arith, less, enough, times-more (length texts))))
      ∙ ap (λ l. comma_where before ++ (l ++ behind true (map text back)))
      (each 0 first (omega arith) ∙ ap (λ n. behind false (map text (take size (drop n xs)))) times-none)
      ∙ sym (append_assoc (comma_where before) (behind false (map text front)) (behind true (map text back)))
      ∙ ap (λ l. l ++ behind true (map text back)) (sym (behind-some before front (some-first xs some)))
      ∙ ap (λ b. behind before (map text front) ++ behind b (map text back))
      (sym (ap (λ b. before || b) (has_some-map text front) ∙ some-some before front (some-first xs some)))
      ∙ sym (behind-append before (map text front) (map text back))
      ∙ ap (behind before) (sym (map-append text front back) ∙ ap (map text) (take-append-drop size xs))

-- where each text was made, they make up the text of all rows
pub texts-whole :
    (form : Form) (size : ℕ) (before : Bool) (rows : List (List ℤ)) (results : List (Result (Vec ℕ Global) NoMemory))
    (texts : List (Vec ℕ Global))
    → 0 < size
    → AreTexts form size rows results
    → map Ok texts ≡ results
    → behind before (map bytes_of texts) ≡ behind before (map (form_text form) rows)
texts-whole form size before rows results texts wide are made =
    let as_many : length texts ≡ length results = sym (length-map texts Ok) ∙ ap length made in
    shared (form_text form) size wide before rows texts
    (λ n other more.
    subst
    (λ r. IfOk r (λ text. text.items ≡ behind false (map (form_text form) (slice_chunk rows size n))))
    (ap (λ rs. slice_index_or rs n (Ok other)) (sym made) ∙ get_or-map Ok texts n other (Ok other) more)
    (are.each n (Ok other) (omega (arith, more, as_many))))
    (λ n more. are.within n (omega (arith, more, as_many)))
    (let enough = (div_ceil_times (length rows) size wide).0 in
    subst (λ k. length rows ≤ k * size) (sym (as_many ∙ are.count)) enough)
