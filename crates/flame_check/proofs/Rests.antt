-- First faults of a list that is walked.
use Rattle.std.proofs.Common.{◌≡◌, ℕ, ◌+◌, ◌<◌, List, [], ◌∷◌, ◌++◌, length, map, take, drop, get_or, reverse, sym}
use Rattle.std.proofs.Common.{ap, ◌∙◌, true, false, Some}
use Rattle.std.specs.Prelude.{slice_get}
use Rattle.std.specs.List.{flat_map}
use Rattle.std.proofs.lemmas.List.{at_drop_more, take_more, map-append, reverse-append}
use Rattle.std.proofs.lemmas.Option.{slice_get_within, get_or_from_slice_get}
use Rattle.flame_rows.specs.declared.fails.Fail.{Fail}
use Rattle.flame_rows.specs.declared.fails.Fail.TheVariants.{Fault, NoMemory}
use Rattle.flame_spec.specs.declared.faults.CheckFault.{CheckFault}
use Rattle.flame_spec.specs.declared.faults.CheckKind.TheVariants.{DefinedTwice}
use Rattle.flame_spec.specs.CheckFaults.{twice_where, twice_faults}
use Rattle.flame_spec.specs.Definitions.{Definition}
use Rattle.flame_spec.specs.FirstFaults.{FailsBy, FailsFirst}
use Rattle.flame_spec.specs.KnownNames.{is_among}
use Rattle.flame_spec.specs.Lists.{first}
use Rattle.flame_spec.proofs.FaultLists.{FailsFirst-append, FailsFirst-same}
use Rattle.flame_lookup.specs.Sources.{names_before}

-- a fault in front is the first
pub fails_by :
    (fault : CheckFault) (more : List CheckFault) (fail : Fail CheckFault)
    → FailsBy fault fail
    → FailsFirst (fault ∷ more) fail
fails_by fault more (Fault other) h = ap Some (sym h)
fails_by fault more NoMemory h = tt

-- ---- item by item

rest_is :
    {X Y : Type 0} (see : X → Y) (faults : Y → List CheckFault) (xs : List X) (i : ℕ) (x : X)
    → i < length xs
    → x ≡ get_or xs i x
    → flat_map faults (map see (drop i xs)) ≡ faults (see x) ++ flat_map faults (map see (drop (i + 1) xs))
rest_is see faults xs i x h is =
    at_drop_more (λ l. flat_map faults (map see l)) xs i x h
    ∙ ap (λ y. flat_map faults (map see (y ∷ drop (i + 1) xs))) (sym is)

-- the first fault of an item is that of the rest
pub rest_fails :
    {X Y : Type 0} (see : X → Y) (faults : Y → List CheckFault) (xs : List X) (i : ℕ) (x : X) (whole : List CheckFault)
    (fail : Fail CheckFault)
    → i < length xs
    → x ≡ get_or xs i x
    → whole ≡ flat_map faults (map see (drop i xs))
    → FailsFirst (faults (see x)) fail
    → FailsFirst whole fail
rest_fails see faults xs i x whole fail h is rest first =
    FailsFirst-same
    fail
    (faults (see x) ++ flat_map faults (map see (drop (i + 1) xs)))
    whole
    (sym (rest ∙ rest_is see faults xs i x h is))
    (FailsFirst-append fail (faults (see x)) (flat_map faults (map see (drop (i + 1) xs))) first)

-- ---- the same of items as they are

-- an item without a fault
pub item_more :
    {X : Type 0} (faults : X → List CheckFault) (xs : List X) (i : ℕ) (d : X) (whole : List CheckFault)
    → i < length xs
    → whole ≡ flat_map faults (drop i xs)
    → faults (get_or xs i d) ≡ []
    → whole ≡ flat_map faults (drop (i + 1) xs)
item_more faults xs i d whole h rest none =
    rest
    ∙ at_drop_more (flat_map faults) xs i d h
    ∙ ap (λ l. l ++ flat_map faults (drop (i + 1) xs)) none

-- the first fault of an item is that of the rest
pub item_fails :
    {X : Type 0} (faults : X → List CheckFault) (xs : List X) (i : ℕ) (d : X) (whole : List CheckFault)
    (fail : Fail CheckFault)
    → i < length xs
    → whole ≡ flat_map faults (drop i xs)
    → FailsFirst (faults (get_or xs i d)) fail
    → FailsFirst whole fail
item_fails faults xs i d whole fail h rest first =
    FailsFirst-same
    fail
    (faults (get_or xs i d) ++ flat_map faults (drop (i + 1) xs))
    whole
    (sym (rest ∙ at_drop_more (flat_map faults) xs i d h))
    (FailsFirst-append fail (faults (get_or xs i d)) (flat_map faults (drop (i + 1) xs)) first)

-- ---- names of earlier C functions

names_more :
    (ds : List Definition) (i : ℕ) (d : Definition)
    → slice_get ds i ≡ Some d
    → names_before (i + 1) ds ≡ d.name ∷ names_before i ds
names_more ds i d h =
    ap (λ l. reverse (map (λ (e : Definition). e.name) l)) (take_more ds i d (slice_get_within ds i d h))
    ∙ ap reverse (map-append (λ (e : Definition). e.name) (take i ds) (get_or ds i d ∷ []))
    ∙ reverse-append (map (λ (e : Definition). e.name) (take i ds)) ((get_or ds i d).name ∷ [])
    ∙ ap (λ (e : Definition). e.name ∷ names_before i ds) (get_or_from_slice_get ds i d d h)

twice_is :
    (ds : List Definition) (i : ℕ) (d : Definition)
    → slice_get ds i ≡ Some d
    → twice_faults (names_before i ds) (drop i ds)
    ≡ twice_where (is_among d.name (names_before i ds)) d ++ twice_faults (d.name ∷ names_before i ds) (drop (i + 1) ds)
twice_is ds i d h =
    at_drop_more (twice_faults (names_before i ds)) ds i d (slice_get_within ds i d h)
    ∙ ap (λ e. twice_faults (names_before i ds) (e ∷ drop (i + 1) ds)) (get_or_from_slice_get ds i d d h)

-- a C function with a new name
pub twice_more :
    (ds : List Definition) (i : ℕ) (d : Definition) (whole : List CheckFault)
    → slice_get ds i ≡ Some d
    → whole ≡ twice_faults (names_before i ds) (drop i ds)
    → is_among d.name (names_before i ds) ≡ false
    → whole ≡ twice_faults (names_before (i + 1) ds) (drop (i + 1) ds)
twice_more ds i d whole h rest new =
    rest
    ∙ twice_is ds i d h
    ∙ ap (λ b. twice_where b d ++ twice_faults (d.name ∷ names_before i ds) (drop (i + 1) ds)) new
    ∙ ap (λ names. twice_faults names (drop (i + 1) ds)) (sym (names_more ds i d h))

-- a C function with the name of an earlier one
pub twice_fails :
    (ds : List Definition) (i : ℕ) (d : Definition) (whole : List CheckFault) (fail : Fail CheckFault)
    → slice_get ds i ≡ Some d
    → whole ≡ twice_faults (names_before i ds) (drop i ds)
    → is_among d.name (names_before i ds) ≡ true
    → FailsBy (record { kind = DefinedTwice; file = d.file; line = d.line; name = d.name }) fail
    → FailsFirst whole fail
twice_fails ds i d whole fail h rest known by =
    FailsFirst-same fail _ whole (sym (rest
    ∙ twice_is ds i d h
    ∙ ap (λ b. twice_where b d ++ twice_faults (d.name ∷ names_before i ds) (drop (i + 1) ds)) known)) (fails_by (record { kind = DefinedTwice; file = d.file; line = d.line; name = d.name })
    (twice_faults (d.name ∷ names_before i ds) (drop (i + 1) ds)) fail by)
