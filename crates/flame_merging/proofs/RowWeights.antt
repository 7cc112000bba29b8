-- What lists of rows weigh.
use Rattle.std.proofs.Common.{◌≡◌, ℕ, suc, ◌+◌, ◌<◌, List, [], ◌∷◌, ◌++◌, Vec, length, map, refl, sym, ap, ◌∙◌, arith, append-nil, append_assoc}
use Rattle.std.specs.Prelude.{ℤ, IfOk, Ok, Result, slice_index_or}
use Rattle.std.specs.Global.{Global}
use Rattle.std.specs.List.{flat_map}
use Rattle.flame_rows.specs.Bags.{ascending, weigh}
use Rattle.flame_rows.specs.declared.fails.NoMemory.{NoMemory}
use Rattle.flame_rows.proofs.BagLaws.{weigh-append, weigh-ascending}
use Rattle.flame_merging.specs.RowLists.{rows_in, weigh_parts}

abbrev Rows : Type 0
Rows = List (List ℤ)

-- ---- lists

-- one list more
pub rows-push : (lists : List (Vec (List ℤ) Global)) (list : Vec (List ℤ) Global)
    → rows_in (lists ++ list ∷ []) ≡ rows_in lists ++ list.items
rows-push [] list = append-nil list.items
rows-push (first ∷ lists) list =
    ap (λ rows. first.items ++ rows) (rows-push lists list) ∙ sym (append_assoc first.items (rows_in lists) list.items)

pub rows-over : (rows : Rows) (rest : List (Vec (List ℤ) Global)) → length rest ≡ 0 → rows ++ rows_in rest ≡ rows
rows-over rows [] none = append-nil rows
rows-over rows (list ∷ rest) none = absurd (omega (arith, none))

module _ (weight : List ℤ → ℕ) where
  pub weigh-push : (lists : List (Vec (List ℤ) Global)) (list : Vec (List ℤ) Global)
      → weigh weight (rows_in (lists ++ list ∷ [])) ≡ weigh weight (rows_in lists) + weigh weight list.items
  weigh-push lists list = ap (weigh weight) (rows-push lists list) ∙ weigh-append weight (rows_in lists) list.items

  pub weigh-first : (list : Vec (List ℤ) Global) (lists : List (Vec (List ℤ) Global))
      → weigh weight (rows_in (list ∷ lists)) ≡ weigh weight list.items + weigh weight (rows_in lists)
  weigh-first list lists = weigh-append weight list.items (rows_in lists)

  pub weigh-none : (rest : List (Vec (List ℤ) Global)) → length rest ≡ 0 → weigh weight (rows_in rest) ≡ 0
  weigh-none [] none = refl
  weigh-none (list ∷ rest) none = absurd (omega (arith, none))

  -- ---- bags

  pub bags-push : (bags : List Rows) (bag : Rows)
      → weigh weight (flat_map (λ b. b) (bags ++ bag ∷ [])) ≡ weigh weight (flat_map (λ b. b) bags) + weigh weight bag
  bags-push [] bag = omega (arith, weigh-append weight bag [])
  bags-push (first ∷ bags) bag = omega (
    arith,
    weigh-append weight first (flat_map (λ (b : Rows). b) (bags ++ bag ∷ [])),
    weigh-append weight first (flat_map (λ (b : Rows). b) bags),
    bags-push bags bag,
  )

  pub bags-none : (bags : List Rows) → length bags ≡ 0 → weigh weight (flat_map (λ b. b) bags) ≡ 0
  bags-none [] none = refl
  bags-none (bag ∷ bags) none = absurd (omega (arith, none))

  -- ---- parts

  pub parts-push : (parts : List (Vec (Vec (List ℤ) Global) Global)) (part : Vec (Vec (List ℤ) Global) Global)
      → weigh_parts weight (parts ++ part ∷ []) ≡ weigh_parts weight parts + weigh weight (rows_in part.items)
  parts-push [] part = omega arith
  parts-push (first ∷ parts) part = omega (arith, parts-push parts part)

  -- the rows of each part in order weigh what those of all parts weigh
  pub parts-sorted : (parts : List (Vec (Vec (List ℤ) Global) Global)) (bags : List Rows)
      → length bags ≡ length parts
      → ((place : ℕ) (other : Result Rows NoMemory) (part : Vec (Vec (List ℤ) Global) Global) → place < length parts
      → IfOk (slice_index_or (map Ok bags) place other) (λ bag. bag ≡ ascending (rows_in (slice_index_or parts place part).items)))
      → weigh weight (flat_map (λ b. b) bags) ≡ weigh_parts weight parts
  parts-sorted [] [] long each = refl
  parts-sorted [] (bag ∷ bags) long each = absurd (omega (arith, long))
  parts-sorted (part ∷ parts) [] long each = absurd (omega (arith, long))
  parts-sorted (part ∷ parts) (bag ∷ bags) long each =
      let here : bag ≡ ascending (rows_in part.items) = each 0 (Ok bag) part (omega arith) in
      omega (
        arith,
        weigh-append weight bag (flat_map (λ (b : Rows). b) bags),
        ap (weigh weight) here,
        weigh-ascending weight (rows_in part.items),
        parts-sorted parts bags (omega (arith, long)) (λ place other own less. each (suc place) other own (omega (arith, less))),
      )
