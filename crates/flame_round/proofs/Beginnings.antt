-- Agents that begin in the one state of their type that no function enters.
use Rattle.std.proofs.Common.{◌≡◌, ℕ, suc, ◌+◌, ◌<◌, Bool, true, false, cond, List, [], ◌∷◌, length, map, drop, Some, refl, sym, ap, ◌∙◌, arith, length-drop}
use Rattle.std.specs.Prelude.{not, slice_get}
use Rattle.std.specs.List.{filter, position_or_len}
use Rattle.std.proofs.lemmas.Option.{get_or_from_slice_get}
use Rattle.std.proofs.lemmas.List.{drop_more}
use Rattle.flame_world.specs.Fields.{changed}
use Rattle.flame_round.proofs.Gets.{has-at}

-- where none passes, all are alike
none-passes : {X Y : Type 0} (entered : X → Bool) (b none : Y) (xs : List X)
    → filter (λ x. not (entered x)) xs ≡ []
    → map (λ x. none) xs ≡ map (λ x. cond (entered x) none b) xs
none-passes entered b none [] is = refl
none-passes {X} entered b none (x ∷ xs) is =
    (elim (entered x) as (λ t. cond (not t) (x ∷ filter (λ y. not (entered y)) xs) (filter (λ y. not (entered y)) xs) ≡ []
    → none ∷ map (λ y. none) xs ≡ cond t none b ∷ map (λ y. cond (entered y) none b) xs) [
      | true ↦ λ rest i. none ∷ none-passes entered b none xs rest i
      | false ↦ λ some. absurd cc
    ])
    is

-- where one passes, it has a place, and the others are alike
pub record StandsAlone {X Y : Type 0} (entered : X → Bool) (b none : Y) (xs : List X) : Type 0 where
  pub within : position_or_len (λ x. not (entered x)) xs < length xs
  pub there : changed (position_or_len (λ x. not (entered x)) xs) (λ old. b) (map (λ x. none) xs)
      ≡ map (λ x. cond (entered x) none b) xs

pub stands-alone : {X Y : Type 0} (entered : X → Bool) (b none : Y) (xs : List X) (state : X)
    → filter (λ x. not (entered x)) xs ≡ state ∷ []
    → StandsAlone entered b none xs
stands-alone entered b none [] state is = absurd cc
stands-alone {X} {Y} entered b none (x ∷ xs) state is =
    by_test (entered x) refl is (stands-alone entered b none xs state)
  where
    by_test : (t : Bool) → entered x ≡ t
        → cond (not t) (x ∷ filter (λ y. not (entered y)) xs) (filter (λ y. not (entered y)) xs) ≡ state ∷ []
        → (filter (λ y. not (entered y)) xs ≡ state ∷ [] → StandsAlone entered b none xs)
        → StandsAlone entered b none (x ∷ xs)
    by_test true is_so rest more =
        let later = more rest in
        let place = position_or_len (λ y. not (entered y)) xs in
        let at : position_or_len (λ y. not (entered y)) (x ∷ xs) ≡ suc place =
        ap (λ t. cond (not (not t)) (1 + place) 0) is_so ∙ (let next : 1 + place ≡ suc place = omega arith in next) in
        record {
          within = omega (arith, at, later.within);
          there =
              ap (λ k. changed k (λ old. b) (none ∷ map (λ y. none) xs)) at
              ∙ (λ i. none ∷ later.there i)
              ∙ ap (λ t. cond t none b ∷ map (λ y. cond (entered y) none b) xs) (sym is_so);
        }
    by_test false is_so rest more =
        let others : filter (λ y. not (entered y)) xs ≡ [] = cc in
        let at : position_or_len (λ y. not (entered y)) (x ∷ xs) ≡ 0 =
        ap (λ t. cond (not (not t)) (1 + position_or_len (λ y. not (entered y)) xs) 0) is_so in
        record {
          within = omega (arith, at);
          there =
              ap (λ k. changed k (λ old. b) (none ∷ map (λ y. none) xs)) at
              ∙ (λ i. b ∷ none-passes entered b none xs others i)
              ∙ ap (λ t. cond t none b ∷ map (λ y. cond (entered y) none b) xs) (sym is_so);
        }

-- ---- type by type

-- the next of the types that are left
pub record NextType {X : Type 0} (xs : List X) (k : ℕ) : Type 0 where
  pub item : X
  pub there : slice_get xs k ≡ Some item
  pub left : drop k xs ≡ item ∷ drop (k + 1) xs

pub next-type : {X : Type 0} (xs : List X) (k : ℕ) → k < length xs → NextType xs k
next-type xs k within =
    let found = has-at xs k within in
    record {
      item = found.item;
      there = found.there;
      left = drop_more xs k found.item within ∙ ap (λ x. x ∷ drop (k + 1) xs) (get_or_from_slice_get xs k found.item found.item found.there);
    }

pub some-left : {X : Type 0} (xs : List X) (k n : ℕ) → suc n ≡ length (drop k xs) → k < length xs
some-left xs k n some = omega (arith, some, length-drop k xs)

pub nones : {X Y Z : Type 0} (f : X → Y) (none : Z) (xs : List X) → map (λ y. none) (map f xs) ≡ map (λ x. none) xs
nones f none [] = refl
nones f none (x ∷ xs) = λ i. none ∷ nones f none xs i
