-- What a map from texts to bytes holds at a name, after a change, and in all.
use Rattle.std.proofs.Common.{◌≡◌, ℕ, cond, List, [], ◌∷◌, map, Some, option_map, refl, sym, ap, ◌∙◌, String, string_bytes}
use Rattle.std.specs.Prelude.{Vec}
use Rattle.std.specs.declared.alloc.Global.{Global}
use Rattle.std.specs.Ordering.{nat_cmp, is_eq}
use Rattle.std.specs.Cmp.{eq_by_cmp_equiv}
use Rattle.std.specs.Cmp.Lexicographic.{slice_cmp, nat_list_cmp_total}
use Rattle.std.specs.Map.{lookup}
use Rattle.std.specs.String.{string_cmp}
use Rattle.std.specs.BTreeMap.{BTreeMap, get_by_text, is_at, UpdatesBy}
use Rattle.std.specs.FinMap.{get, insert, find, get-from_entries, get-insert, same_map, slice_cmp-IsAntisymmetric, nat_cmp-IsAntisymmetric}
use Rattle.std.proofs.lemmas.Map.Text.{btree_map_updates_text, is_eq-slice_cmp}
use Rattle.std.specs.Str.{bytes_eq}
use Rattle.flame_rows.proofs.Truths.{option_map-cond}
use Rattle.flame_outside.specs.Stored.{stored}

abbrev Entries : Type 0
Entries = List (String Global × Vec ℕ Global)

find-stored :
    (entries : Entries) (name : List ℕ)
    → find (slice_cmp nat_cmp) name (map (λ entry. (string_bytes entry.0, entry.1.items)) entries)
    ≡ option_map (λ bytes. bytes.items) (lookup (is_at (λ key. slice_cmp nat_cmp name (string_bytes key))) entries)
find-stored [] name = refl
find-stored (entry ∷ entries) name =
    (option_map-cond (λ (bytes : Vec ℕ Global). bytes.items) (is_eq (slice_cmp nat_cmp name (string_bytes entry.0))) entry.1 _ _ (find-stored entries name))

-- the file of a name is what the map has at the text of these bytes
pub get-stored :
    (texts : BTreeMap (String Global) (Vec ℕ Global)) (name : List ℕ)
    → get (stored texts.entries) name ≡ option_map (λ bytes. bytes.items) (get_by_text texts name)
get-stored texts name = get-from_entries nat_list_cmp_total _ name ∙ find-stored texts.entries name

-- to set a text's bytes is to set the file of its name
pub stored-insert :
    (old new : BTreeMap (String Global) (Vec ℕ Global)) (name : List ℕ) (bytes : Vec ℕ Global)
    → UpdatesBy string_cmp (λ key. slice_cmp nat_cmp name (string_bytes key)) old new (Some bytes)
    → stored new.entries ≡ insert (stored old.entries) name bytes.items
stored-insert old new name bytes updates =
    let items = λ (b : Vec ℕ Global). b.items in
    same_map nat_list_cmp_total (slice_cmp-IsAntisymmetric nat_cmp-IsAntisymmetric) _ _ (λ other.
    let before = get-stored old other in
    get-stored new other
    ∙ ap (option_map items) (btree_map_updates_text name old new (Some bytes) updates other)
    ∙ sym (option_map-cond items (bytes_eq name other) bytes _ (get_by_text old other) before)
    ∙ ap (λ b. cond b (Some bytes.items) (get (stored old.entries) other))
    (sym (is_eq-slice_cmp name other) ∙ (eq_by_cmp_equiv nat_list_cmp_total).symm name other)
    ∙ sym (get-insert nat_list_cmp_total (stored old.entries) name bytes.items other))
