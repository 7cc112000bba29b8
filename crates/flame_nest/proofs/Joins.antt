-- Lists of all files, and of data types that come one after another.
use mathlib.Core.Bool.{or_assoc, or-false}
use Rattle.std.proofs.Common.{◌≡◌, ℕ, ◌+◌, ◌<◌, List, [], ◌∷◌, ◌++◌, length, take, get_or, map, refl, sym, ap, ◌∙◌, Bool, true, false, cond, true≢false, not, append_assoc}
use Rattle.std.specs.Prelude.{◌||◌}
use Rattle.std.specs.List.{filter, flat_map, fold}
use Rattle.std.specs.Str.{bytes_eq}
use Rattle.std.proofs.lemmas.Slice.Eq.{bytes_eq-Decides}
use Rattle.std.proofs.lemmas.List.{map-append, append-nil, take_more}
use Rattle.std.proofs.lemmas.List.Elements.{filter-append}
use Rattle.std.proofs.lemmas.List.Folds.{list_any-append}
use Rattle.std.proofs.lemmas.List.Sums.{fold-append}
use Rattle.std.proofs.lemmas.Bool.{or_parts, or_from}
use Rattle.flame_spec.specs.declared.wide.Wide.{Wide}
use Rattle.flame_spec.specs.KnownNames.{is_among}
use Rattle.flame_nest.specs.FlatModels.{new_behind, with_new, joined_once}

module _ {X : Type 0} (name_of : X → List ℕ) where
  filter_step : (name : List ℕ) (b : Bool) (x : X) (rest : List X)
      → bytes_eq name (name_of x) ≡ false
      → is_among name (map name_of rest) ≡ false
      → is_among name (map name_of (cond b (x ∷ rest) rest)) ≡ false
  filter_step name true x rest first h = or_from (bytes_eq name (name_of x)) (is_among name (map name_of rest)) first h
  filter_step name false x rest first h = h

  -- a name that no member has is that of no member that passes
  pub among-filter : (p : X → Bool) (name : List ℕ) (xs : List X)
      → is_among name (map name_of xs) ≡ false → is_among name (map name_of (filter p xs)) ≡ false
  among-filter p name [] h = h
  among-filter p name (x ∷ xs) h =
      filter_step
      name
      (p x)
      x
      (filter p xs)
      ((or_parts (bytes_eq name (name_of x)) (is_among name (map name_of xs)) h).0)
      (among-filter p name xs (or_parts (bytes_eq name (name_of x)) (is_among name (map name_of xs)) h).1)

  -- a name that is neither given nor one of the members is none of both
  pub with_new-none : (name : List ℕ) (earlier xs : List X)
      → is_among name (map name_of earlier) ≡ false
      → is_among name (map name_of xs) ≡ false
      → is_among name (map name_of (with_new name_of earlier xs)) ≡ false
  with_new-none name earlier xs p q =
      ap (is_among name) (map-append name_of earlier (new_behind name_of earlier xs))
      ∙ (list_any-append (bytes_eq name) (map name_of earlier) (map name_of (new_behind name_of earlier xs)))
      ∙ or_from
      (is_among name (map name_of earlier))
      (is_among name (map name_of (new_behind name_of earlier xs)))
      p
      (among-filter (λ member. not (is_among (name_of member) (map name_of earlier))) name xs q)

  one_more : (b : Bool) (x : X) (xs : List X) → xs ++ cond (not b) (x ∷ []) [] ≡ cond b xs (xs ++ x ∷ [])
  one_more true x xs = append-nil xs
  one_more false x xs = refl

  -- the earlier ones and the new ones of one member more
  pub with_new-more : (earlier xs : List X) (i : ℕ) (d item : X) (has : Bool)
      → i < length xs
      → item ≡ get_or xs i d
      → is_among (name_of item) (map name_of earlier) ≡ has
      → with_new name_of earlier (take (i + 1) xs)
      ≡ cond has (with_new name_of earlier (take i xs)) (with_new name_of earlier (take i xs) ++ item ∷ [])
  with_new-more earlier xs i d item has inside is e =
      ap (λ l. earlier ++ new_behind name_of earlier l)
      (take_more xs i d inside ∙ ap (λ x. take i xs ++ x ∷ []) (sym is))
      ∙ ap (λ l. earlier ++ l) (filter-append (λ member. not (is_among (name_of member) (map name_of earlier))) (take i xs) (item ∷ []))
      ∙ sym (append_assoc earlier (new_behind name_of earlier (take i xs)) (cond (not (is_among (name_of item) (map name_of earlier))) (item ∷ []) []))
      ∙ ap (λ b. with_new name_of earlier (take i xs) ++ cond (not b) (item ∷ []) []) e
      ∙ one_more has item (with_new name_of earlier (take i xs))

  gather_cases : (a same kept rest wanted : Bool)
      → (same ≡ true → kept ≡ not a)
      → (a || rest) ≡ (a || wanted)
      → (a || cond kept (same || rest) rest) ≡ (a || (same || wanted))
  gather_cases true same kept rest wanted h e = refl
  gather_cases false true true rest wanted h e = refl
  gather_cases false true false rest wanted h e = absurd (true≢false (sym (h refl)))
  gather_cases false false true rest wanted h e = e
  gather_cases false false false rest wanted h e = e

  among_cond : (name : List ℕ) (b : Bool) (x : X) (rest : List X)
      → is_among name (map name_of (cond b (x ∷ rest) rest))
      ≡ cond b (bytes_eq name (name_of x) || is_among name (map name_of rest)) (is_among name (map name_of rest))
  among_cond name true x rest = refl
  among_cond name false x rest = refl

  gathered : (name : List ℕ) (earlier xs : List X)
      → (is_among name (map name_of earlier) || is_among name (map name_of (new_behind name_of earlier xs)))
      ≡ (is_among name (map name_of earlier) || is_among name (map name_of xs))
  gathered name earlier [] = refl
  gathered name earlier (x ∷ xs) =
      let kept = not (is_among (name_of x) (map name_of earlier)) in
      ap
      (λ b. is_among name (map name_of earlier) || b)
      (among_cond name kept x (new_behind name_of earlier xs))
      ∙ gather_cases
      (is_among name (map name_of earlier))
      (bytes_eq name (name_of x))
      kept
      (is_among name (map name_of (new_behind name_of earlier xs)))
      (is_among name (map name_of xs))
      (λ same. ap (λ n. not (is_among n (map name_of earlier))) (sym ((bytes_eq-Decides name (name_of x)).0 same)))
      (gathered name earlier xs)

  -- a name is among the earlier ones and the new ones where it is among these or the members
  pub among-with_new : (name : List ℕ) (earlier xs : List X)
      → is_among name (map name_of (with_new name_of earlier xs))
      ≡ (is_among name (map name_of earlier) || is_among name (map name_of xs))
  among-with_new name earlier xs =
      ap (is_among name) (map-append name_of earlier (new_behind name_of earlier xs))
      ∙ (list_any-append (bytes_eq name) (map name_of earlier) (map name_of (new_behind name_of earlier xs)))
      ∙ gathered name earlier xs

  -- joining the lists of one file more
  pub joined_once-push : (list_of : Wide → List X) (wides : List Wide) (wide : Wide)
      → joined_once name_of list_of (wides ++ wide ∷ [])
      ≡ with_new name_of (joined_once name_of list_of wides) (list_of wide)
  joined_once-push list_of wides wide =
      fold-append (λ joined wide. with_new name_of joined (list_of wide)) [] wides (wide ∷ [])

  joined_names : (list_of : Wide → List X) (name : List ℕ) (earlier : List X) (wides : List Wide)
      → is_among name (map name_of (fold (λ joined wide. with_new name_of joined (list_of wide)) earlier wides))
      ≡ (is_among name (map name_of earlier) || is_among name (flat_map (λ wide. map name_of (list_of wide)) wides))
  joined_names list_of name earlier [] = (sym (or-false (is_among name (map name_of earlier))))
  joined_names list_of name earlier (wide ∷ wides) =
      joined_names list_of name (with_new name_of earlier (list_of wide)) wides
      ∙ ap
      (λ b. b || is_among name (flat_map (λ wide. map name_of (list_of wide)) wides))
      (among-with_new name earlier (list_of wide))
      ∙ or_assoc
      (is_among name (map name_of earlier))
      (is_among name (map name_of (list_of wide)))
      (is_among name (flat_map (λ wide. map name_of (list_of wide)) wides))
      ∙ ap
      (λ b. is_among name (map name_of earlier) || b)
      (sym
      (list_any-append (bytes_eq name) (map name_of (list_of wide)) (flat_map (λ wide. map name_of (list_of wide)) wides)))

  -- the names of joined lists are those that the files give
  pub among-joined : (list_of : Wide → List X) (name : List ℕ) (wides : List Wide)
      → is_among name (map name_of (joined_once name_of list_of wides))
      ≡ is_among name (flat_map (λ wide. map name_of (list_of wide)) wides)
  among-joined list_of name wides = joined_names list_of name [] wides
