-- The bytes of all files are those of all values of the map.
use Rattle.std.proofs.Common.{◌≡◌, ℕ, ◌+◌, Bool, true, false, ◌&&◌, List, [], ◌∷◌, map, length, refl, sym, ap, ◌∙◌, subst, String, string_bytes, T}
use Rattle.std.specs.Prelude.{Vec, sum_by}
use Rattle.std.specs.declared.alloc.Global.{Global}
use Rattle.std.specs.declared.cmp.Ordering.TheVariants.{Less}
use Rattle.std.specs.Ordering.{nat_cmp, is_lt}
use Rattle.std.specs.Cmp.Lexicographic.{slice_cmp, nat_list_cmp_total}
use Rattle.std.specs.List.{AllByRecursion}
use Rattle.std.specs.List.Sorted.{IsStrictlySortedBy}
use Rattle.std.specs.Map.{keys_of, values_of}
use Rattle.std.specs.String.{string_cmp}
use Rattle.std.specs.BTreeMap.{BTreeMap, IsOrdered, values}
use Rattle.std.specs.FinMap.{entries, from_sorted, is_sorted, entries-from_sorted, get-from_sorted, get-from_entries, same_map, slice_cmp-IsAntisymmetric, nat_cmp-IsAntisymmetric}
use Rattle.std.specs.FinMap.Entries.{below_all}
use Rattle.std.proofs.lemmas.List.Sums.{sum_by-cons}
use Rattle.std.proofs.lemmas.Map.Keys.{sorted_head, sorted_tail}
use Rattle.flame_outside.specs.Memory.{total_of}
use Rattle.flame_outside.specs.Stored.{stored}

abbrev Entries : Type 0
Entries = List (String Global × Vec ℕ Global)

abbrev named : Entries → List (List ℕ × List ℕ)
named texts = map (λ entry. (string_bytes entry.0, entry.1.items)) texts

both : (a b : Bool) → T a → T b → T (a && b)
both true b p q = q
both false b p q = p

below_all-named :
    (key : String Global) (texts : Entries)
    → AllByRecursion (λ other. string_cmp key other ≡ Less) (keys_of texts)
    → T (below_all (slice_cmp nat_cmp) (string_bytes key) (named texts))
below_all-named key [] below = tt
below_all-named key (entry ∷ texts) below =
    both _ _ (subst (λ order. T (is_lt order)) (sym below.0) tt) (below_all-named key texts below.1)

is_sorted-named :
    (texts : Entries)
    → IsStrictlySortedBy string_cmp (keys_of texts)
    → T (is_sorted (slice_cmp nat_cmp) (named texts))
is_sorted-named [] sorted = tt
is_sorted-named (entry ∷ texts) sorted =
    both _ _
    (below_all-named entry.0 texts (sorted_head string_cmp entry.0 (keys_of texts) sorted))
    (is_sorted-named texts (sorted_tail string_cmp entry.0 (keys_of texts) sorted))

entries-stored :
    (texts : Entries) → IsStrictlySortedBy string_cmp (keys_of texts) → entries (stored texts) ≡ named texts
entries-stored texts sorted =
    let rises = is_sorted-named texts sorted in
    ap entries
    (same_map nat_list_cmp_total (slice_cmp-IsAntisymmetric nat_cmp-IsAntisymmetric)
    (stored texts) (from_sorted {R = slice_cmp nat_cmp} (named texts)) (λ name.
    get-from_entries nat_list_cmp_total (named texts) name
    ∙ sym (get-from_sorted (slice_cmp nat_cmp) (named texts) name rises)))
    ∙ entries-from_sorted (slice_cmp nat_cmp) (named texts) rises

sum_by-named :
    (texts : Entries)
    → sum_by (λ entry. length entry.1) (named texts)
    ≡ sum_by (λ (bytes : Vec ℕ Global). length bytes.items) (values_of texts)
sum_by-named [] = refl
sum_by-named (entry ∷ texts) =
    sum_by-cons (λ (e : List ℕ × List ℕ). length e.1) (string_bytes entry.0, entry.1.items) (named texts)
    ∙ ap (λ sum. length entry.1.items + sum) (sum_by-named texts)
    ∙ sym (sum_by-cons (λ (bytes : Vec ℕ Global). length bytes.items) entry.1 (values_of texts))

-- the lengths of all values together are the bytes of all files
pub total_of-stored :
    (texts : BTreeMap (String Global) (Vec ℕ Global))
    → IsOrdered string_cmp texts
    → total_of (stored texts.entries) ≡ sum_by (λ (bytes : Vec ℕ Global). length bytes.items) (values texts)
total_of-stored texts ordered =
    ap (sum_by (λ (e : List ℕ × List ℕ). length e.1)) (entries-stored texts.entries ordered)
    ∙ sum_by-named texts.entries
