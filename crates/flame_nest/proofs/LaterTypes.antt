-- Data types that come later change no earlier flat form.
use Rattle.std.proofs.Common.{◌≡◌, ℕ, List, [], ◌∷◌, ◌++◌, map, refl, sym, ap, ◌∙◌, Bool, true, false, cond, true≢false, not}
use Rattle.std.specs.Prelude.{◌||◌}
use Rattle.std.specs.List.{flat_map, fold, list_all}
use Rattle.std.specs.Str.{bytes_eq}
use Rattle.std.proofs.lemmas.Slice.Eq.{bytes_eq-Decides}
use Rattle.std.proofs.lemmas.Bool.{and_parts, or_parts, not-true, or_from}
use Rattle.flame_spec.specs.declared.wide.Wide.{Wide}
use Rattle.flame_spec.specs.declared.wide.WideVariable.{WideVariable}
use Rattle.flame_spec.specs.declared.wide.DataType.{DataType}
use Rattle.flame_spec.specs.KnownNames.{is_among}
use Rattle.flame_nest.specs.FlatModels.{inside, replaced, spread, single, flat_variables, new_behind, with_new}
use Rattle.flame_nest.specs.NestFaults.{type_names, is_int}
use Rattle.flame_nest.proofs.Joins.{among-with_new}

spread_split : (types later : List DataType) (variables : List WideVariable)
    → spread (types ++ later) variables ≡ spread types (spread later variables)
spread_split [] later variables = refl
spread_split (type ∷ types) later variables = ap (flat_map (replaced type)) (spread_split types later variables)

-- a variable whose kind is none of these data types stays as it is
spread_own : (later : List DataType) (v : WideVariable)
    → is_among v.kind (type_names later) ≡ false → spread later (v ∷ []) ≡ v ∷ []
spread_own [] v h = refl
spread_own (type ∷ later) v h =
    ap
    (flat_map (replaced type))
    (spread_own later v (or_parts (bytes_eq v.kind type.name) (is_among v.kind (type_names later)) h).1)
    ∙ ap
    (λ b. cond b (map (inside v) type.variables) (v ∷ []) ++ [])
    ((or_parts (bytes_eq v.kind type.name) (is_among v.kind (type_names later)) h).0)

-- `int`, or the name of one of these data types
abbrev pub is_known : List DataType → List ℕ → Bool
is_known types name = is_int name || is_among name (type_names types)

-- none of these data types is named `int`
abbrev pub are_named : List DataType → Bool
are_named types = list_all (λ type. not (is_int type.name)) types

new_step : (name : List ℕ) (known rest : List DataType) (type : DataType) (b same : Bool)
    → is_among type.name (type_names known) ≡ b
    → bytes_eq name type.name ≡ same
    → is_known known name ≡ true
    → is_int type.name ≡ false
    → is_among name (type_names rest) ≡ false
    → is_among name (type_names (cond (not b) (type ∷ rest) rest)) ≡ false
new_step name known rest type true same e s h int r = r
new_step name known rest type false false e s h int r =
    or_from (bytes_eq name type.name) (is_among name (type_names rest)) s r
new_step name known rest type false true e s h int r =
    let is : name ≡ type.name = (bytes_eq-Decides name type.name).0 s in
    absurd
    (true≢false
    (sym h
    ∙ ap (is_known known) is
    ∙ or_from (is_int type.name) (is_among type.name (type_names known)) int e))

-- what is known is the name of no new data type
not_new : (known types : List DataType) (name : List ℕ)
    → is_known known name ≡ true
    → are_named types ≡ true
    → is_among name (type_names (new_behind (λ type. type.name) known types)) ≡ false
not_new known [] name h e = refl
not_new known (type ∷ types) name h e =
    new_step
    name
    known
    (new_behind (λ type. type.name) known types)
    type
    (is_among type.name (type_names known))
    (bytes_eq name type.name)
    refl
    refl
    h
    (not-true (is_int type.name) (and_parts (not (is_int type.name)) (are_named types) e).0)
    (not_new known types name h (and_parts (not (is_int type.name)) (are_named types) e).1)

flat_same : (known types : List DataType) (v : WideVariable)
    → is_known known v.kind ≡ true
    → are_named types ≡ true
    → flat_variables (with_new (λ type. type.name) known types) (v ∷ []) ≡ flat_variables known (v ∷ [])
flat_same known types v h e =
    let later = new_behind (λ type. type.name) known types in
    ap
    (map single)
    (spread_split known later (v ∷ []) ∙ ap (spread known) (spread_own later v (not_new known types v.kind h e)))

or_more : (a b c : Bool) → (a || b) ≡ true → (a || (b || c)) ≡ true
or_more true b c h = refl
or_more false true c h = refl
or_more false false c h = absurd (true≢false (sym h))

pub known_more : (known types : List DataType) (name : List ℕ)
    → is_known known name ≡ true → is_known (with_new (λ type. type.name) known types) name ≡ true
known_more known types name h =
    ap (λ b. is_int name || b) (among-with_new (λ type. type.name) name known types)
    ∙ or_more (is_int name) (is_among name (type_names known)) (is_among name (type_names types)) h

-- the data types of some files more
abbrev pub types_with : List DataType → List Wide → List DataType
types_with known wides = fold (λ joined wide. with_new (λ type. type.name) joined wide.types) known wides

-- the data types of later files do not change the flat form of a variable whose kind is known
pub later_same : (known : List DataType) (rest : List Wide) (v : WideVariable)
    → is_known known v.kind ≡ true
    → list_all (λ wide. are_named wide.types) rest ≡ true
    → flat_variables (types_with known rest) (v ∷ []) ≡ flat_variables known (v ∷ [])
later_same known [] v h e = refl
later_same known (wide ∷ rest) v h e =
    later_same
    (with_new (λ type. type.name) known wide.types)
    rest
    v
    (known_more known wide.types v.kind h)
    (and_parts (are_named wide.types) (list_all (λ wide. are_named wide.types) rest) e).1
    ∙ flat_same known wide.types v h (and_parts (are_named wide.types) (list_all (λ wide. are_named wide.types) rest) e).0
