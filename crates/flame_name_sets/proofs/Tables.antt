-- Tables of names, and looking names up in them.
use Rattle.std.proofs.Common.{◌≡◌, ℕ, List, [], ◌∷◌, ◌++◌, map, refl, sym, ap, ◌∙◌, Bool, true, false, cond, Option, Some, None, Bor}
use Rattle.std.specs.Prelude.{◌||◌}
use Rattle.std.specs.Option.{is_some}
use Rattle.std.specs.Map.{lookup}
use Rattle.std.specs.Str.{bytes_eq}
use Rattle.std.proofs.lemmas.Slice.Eq.{bytes_eq-Decides}
use Rattle.std.proofs.lemmas.List.{map_push}
use Rattle.flame_rows.proofs.Truths.{is_some-false, cond-cond}
use Rattle.flame_spec.specs.KnownNames.{is_among}
use Rattle.flame_name_sets.specs.NameTables.{look, names_of}

-- what a map holds behind a name, as its table shows it
pub look-map : {X : Type 0} (name : List ℕ) (entries : List (Bor (List ℕ) × X))
    → look name (map (λ entry. (entry.0.now, entry.1)) entries) ≡ lookup (λ key. bytes_eq name key.now) entries
look-map name [] = refl
look-map name (entry ∷ entries) = ap (cond (bytes_eq name entry.0.now) (Some entry.1)) (look-map name entries)

pub is_some-cond : {X : Type 0} (b c : Bool) (x : X) (o : Option X)
    → is_some o ≡ c → is_some (cond b (Some x) o) ≡ (b || c)
is_some-cond true c x o h = refl
is_some-cond false c x o h = h

-- a name is found where it is among those of the entries
pub is_some-look : {X : Type 0} (name : List ℕ) (table : List (List ℕ × X))
    → is_some (look name table) ≡ is_among name (names_of table)
is_some-look name [] = refl
is_some-look name (entry ∷ table) =
    is_some-cond
    (bytes_eq name entry.0)
    (is_among name (names_of table))
    entry.1
    (look name table)
    (is_some-look name table)

-- a name that is not among those of the entries is not found
pub look-none : {X : Type 0} (name : List ℕ) (table : List (List ℕ × X))
    → is_among name (names_of table) ≡ false → look name table ≡ None
look-none name table h = is_some-false (look name table) (is_some-look name table ∙ h)

push_cases : {X : Type 0} (name other key : List ℕ) (x y : X) (table more : List (List ℕ × X)) (same : Bool)
    → bytes_eq name key ≡ same
    → cond (bytes_eq name key) (Some y) (look name table) ≡ None
    → (look name table ≡ None → look other more ≡ cond (bytes_eq other name) (Some x) (look other table))
    → cond (bytes_eq other key) (Some y) (look other more)
    ≡ cond (bytes_eq other name) (Some x) (cond (bytes_eq other key) (Some y) (look other table))
push_cases name other key x y table more true e h rest = cc
push_cases name other key x y table more false e h rest =
    ap (cond (bytes_eq other key) (Some y)) (rest (sym (ap (λ c. cond c (Some y) (look name table)) e) ∙ h))
    ∙ cond-cond
    (bytes_eq other name)
    (bytes_eq other key)
    x
    y
    (look other table)
    (λ same. ap (λ text. bytes_eq text key) ((bytes_eq-Decides other name).0 same) ∙ e)

-- looking up behind one entry more, of a new name
pub look-push : {X : Type 0} (name other : List ℕ) (x : X) (table : List (List ℕ × X))
    → look name table ≡ None
    → look other (table ++ (name, x) ∷ []) ≡ cond (bytes_eq other name) (Some x) (look other table)
look-push name other x [] h = refl
look-push name other x (entry ∷ table) h =
    push_cases
    name
    other
    entry.0
    x
    entry.1
    table
    (table ++ (name, x) ∷ [])
    (bytes_eq name entry.0)
    refl
    h
    (look-push name other x table)

pub names_of-push : {X : Type 0} (table : List (List ℕ × X)) (name : List ℕ) (x : X)
    → names_of (table ++ (name, x) ∷ []) ≡ names_of table ++ name ∷ []
names_of-push table name x = map_push (λ entry. entry.0) table (name, x)
