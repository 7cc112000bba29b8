-- Widths and longest names of flat fields.
use mathlib.Core.Bool.{or_assoc}
use Rattle.std.proofs.Common.{◌≡◌, ℕ, ◌+◌, ◌<◌, ◌≤◌, List, [], ◌∷◌, ◌++◌, length, map, codes, refl, sym, ap, ◌∙◌, Bool, true, false, arith, nat_lt, length-append}
use Rattle.std.specs.Prelude.{◌&&◌, ◌||◌, max, min}
use Rattle.std.specs.List.{fold}
use Rattle.flame_spec.specs.declared.models.Variable.{Variable}
use Rattle.flame_spec.specs.Columns.{width, width_of}
use Rattle.flame_nest.specs.NestFaults.{has_long}
use Rattle.flame_nest.specs.KindTables.{reach, flat_inside}

pub width-inside : (name : List ℕ) (fields : List Variable) → width (map (flat_inside name) fields) ≡ width fields
width-inside name [] = refl
width-inside name (field ∷ fields) = ap (λ w. width_of field + w) (width-inside name fields)

-- a field that reaches so far is too long in a variable of so many bytes
abbrev pub is_far : ℕ → ℕ → Bool
is_far bytes most = nat_lt 0 most && nat_lt 100 (bytes + most)

far_max : (bytes a b : ℕ) → is_far bytes (max a (b + 1)) ≡ (is_far bytes a || nat_lt 100 (bytes + (b + 1)))
far_max bytes a b = grind arith

abbrev further : ℕ → Variable → ℕ
further most variable = max most (length variable.name + 1)

inside_bytes : (name field : List ℕ) → length (name ++ (codes "_" ++ field)) ≡ length name + (length field + 1)
inside_bytes name field = let e = length-append name (codes "_" ++ field) in omega (arith, e, length-append (codes "_") field)

far_fold : (name : List ℕ) (most : ℕ) (fields : List Variable)
    → is_far (length name) (fold further most fields) ≡ (is_far (length name) most || has_long (map (flat_inside name) fields))
far_fold name most [] = by (is_far (length name) most)
  where
    by : (b : Bool) → b ≡ (b || false)
    by true = refl
    by false = refl
far_fold name most (field ∷ fields) =
    far_fold name (further most field) fields
    ∙ ap (λ b. b || has_long (map (flat_inside name) fields)) (far_max (length name) most (length field.name))
    ∙ ap (λ n. (is_far (length name) most || nat_lt 100 n) || has_long (map (flat_inside name) fields)) (sym (inside_bytes name field.name))
    ∙ or_assoc (is_far (length name) most) (nat_lt 100 (length (name ++ (codes "_" ++ field.name)))) (has_long (map (flat_inside name) fields))

-- some field has a long name in the variable where the one that reaches farthest has
pub has_long-inside : (name : List ℕ) (fields : List Variable)
    → has_long (map (flat_inside name) fields) ≡ is_far (length name) (reach fields)
has_long-inside name fields = sym (far_fold name 0 fields)

pub far_true : (bytes most : ℕ) → 0 < most → is_far bytes most ≡ nat_lt 100 (bytes + most)
far_true bytes most h = grind arith

pub far_false : (bytes most : ℕ) → most ≤ 0 → is_far bytes most ≡ nat_lt 0 most
far_false bytes most h = grind arith

pub capped-more : (w more : ℕ) → min (min w 4097 + more) 4097 ≡ min (w + more) 4097
capped-more w more = omega arith

pub capped-wide : (n : ℕ) → nat_lt 4096 (min n 4097) ≡ nat_lt 4096 n
capped-wide n = grind arith
