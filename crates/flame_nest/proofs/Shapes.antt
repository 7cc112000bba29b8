-- Flat variables of well formed ones have the shape of well formed ones, their length apart.
use Rattle.std.proofs.Common.{◌≡◌, ℕ, List, [], ◌∷◌, ◌++◌, length, map, codes, refl, sym, ap, ◌∙◌, Bool, true, false, cond, true≢false, arith, nat_lt}
use Rattle.std.specs.Prelude.{◌&&◌, nat_le, slice_index}
use Rattle.std.specs.List.{flat_map, list_all}
use Rattle.std.specs.Option.{option_map_or}
use Rattle.std.specs.Str.{bytes_eq}
use Rattle.std.proofs.lemmas.List.Folds.{list_all-append, list_all-map}
use Rattle.std.proofs.lemmas.Bool.{and_parts, and_from, or_parts}
use Rattle.flame_ops.specs.Ascii.{begins_word, is_word_byte}
use Rattle.flame_spec.specs.declared.wide.WideVariable.{WideVariable}
use Rattle.flame_spec.specs.declared.wide.DataType.{DataType}
use Rattle.flame_spec.specs.Names.{is_name, is_filled}
use Rattle.flame_spec.specs.WellFormed.{is_array_length, is_well_formed_variable}
use Rattle.flame_spec.specs.WideModels.{is_well_formed_type, is_well_formed_wide_variable}
use Rattle.flame_nest.specs.FlatModels.{inside, replaced, spread, single, flat_variables}
use Rattle.flame_nest.specs.NestFaults.{has_long}

-- what passes in all lists passes in their joined list
pub list_all-flat_map : {X Y : Type 0} (p : Y → Bool) (f : X → List Y) (xs : List X)
    → list_all (λ x. list_all p (f x)) xs ≡ true → list_all p (flat_map f xs) ≡ true
list_all-flat_map p f [] h = refl
list_all-flat_map p f (x ∷ xs) h =
    list_all-append p (f x) (flat_map f xs)
    ∙ and_from
    (list_all p (f x))
    (list_all p (flat_map f xs))
    (and_parts (list_all p (f x)) (list_all (λ x. list_all p (f x)) xs) h).0
    (list_all-flat_map p f xs (and_parts (list_all p (f x)) (list_all (λ x. list_all p (f x)) xs) h).1)

-- what passes one test passes another that follows from it
pub list_all-weaker : {X : Type 0} (p q : X → Bool) → ((x : X) → p x ≡ true → q x ≡ true) → (xs : List X)
    → list_all p xs ≡ true → list_all q xs ≡ true
list_all-weaker p q weaker [] h = refl
list_all-weaker p q weaker (x ∷ xs) h =
    and_from
    (q x)
    (list_all q xs)
    (weaker x (and_parts (p x) (list_all p xs) h).0)
    (list_all-weaker p q weaker xs (and_parts (p x) (list_all p xs) h).1)

-- a name, however long
abbrev pub is_word : List ℕ → Bool
is_word text = is_filled text && (begins_word (slice_index text 0) && list_all is_word_byte text)

-- a well formed variable, however long its name
abbrev pub is_shaped : WideVariable → Bool
is_shaped variable = is_word variable.name && option_map_or is_array_length variable.length true

word_of : (a b c d : Bool) → (a && b && c && d) ≡ true → (a && (c && d)) ≡ true
word_of true true c d h = h
word_of true false c d h = absurd (true≢false (sym h))
word_of false b c d h = absurd (true≢false (sym h))

name_of : (a b c d : Bool) → (a && (c && d)) ≡ true → b ≡ true → (a && b && c && d) ≡ true
name_of true true c d h e = h
name_of true false c d h e = absurd (true≢false (sym e))
name_of false b c d h e = absurd (true≢false (sym h))

pub name_word : (text : List ℕ) → is_name text ≡ true → is_word text ≡ true
name_word text h =
    word_of
    (is_filled text)
    (nat_le (length text) 100)
    (begins_word (slice_index text 0))
    (list_all is_word_byte text)
    h

not_long : (n : ℕ) → nat_lt 100 n ≡ false → nat_le n 100 ≡ true
not_long n h = grind arith

word_name : (text : List ℕ) → is_word text ≡ true → nat_lt 100 (length text) ≡ false → is_name text ≡ true
word_name text h e =
    name_of
    (is_filled text)
    (nat_le (length text) 100)
    (begins_word (slice_index text 0))
    (list_all is_word_byte text)
    h
    (not_long (length text) e)

filled : (b : ℕ) (name : List ℕ) → is_filled (b ∷ name) ≡ true
filled b name = grind arith

-- words joined by `_` are a word
word_inside : (name field : List ℕ) → is_word name ≡ true → is_word field ≡ true → is_word (name ++ (codes "_" ++ field)) ≡ true
word_inside [] field h e = absurd (true≢false (sym h))
word_inside (b ∷ name) field h e =
    let rest = (and_parts (is_filled (b ∷ name)) (begins_word b && list_all is_word_byte (b ∷ name)) h).1 in
    and_from
    (is_filled (b ∷ (name ++ (codes "_" ++ field))))
    (begins_word b && list_all is_word_byte (b ∷ (name ++ (codes "_" ++ field))))
    (filled b (name ++ (codes "_" ++ field)))
    (and_from
    (begins_word b)
    (list_all is_word_byte (b ∷ (name ++ (codes "_" ++ field))))
    (and_parts (begins_word b) (list_all is_word_byte (b ∷ name)) rest).0
    (list_all-append is_word_byte (b ∷ name) (codes "_" ++ field)
    ∙ and_from
    (list_all is_word_byte (b ∷ name))
    (list_all is_word_byte field)
    (and_parts (begins_word b) (list_all is_word_byte (b ∷ name)) rest).1
    (and_parts (begins_word (slice_index field 0)) (list_all is_word_byte field) (and_parts (is_filled field) (begins_word (slice_index field 0) && list_all is_word_byte field) e).1).1))

inside_shaped : (v f : WideVariable) → is_shaped v ≡ true → is_shaped f ≡ true → is_shaped (inside v f) ≡ true
inside_shaped v f h e =
    and_from
    (is_word (inside v f).name)
    (option_map_or is_array_length f.length true)
    (word_inside
    v.name
    f.name
    (and_parts (is_word v.name) (option_map_or is_array_length v.length true) h).0
    (and_parts (is_word f.name) (option_map_or is_array_length f.length true) e).0)
    (and_parts (is_word f.name) (option_map_or is_array_length f.length true) e).1

all_inside : (v : WideVariable) (fields : List WideVariable)
    → is_shaped v ≡ true → list_all is_shaped fields ≡ true → list_all is_shaped (map (inside v) fields) ≡ true
all_inside v fields h e =
    list_all-map is_shaped (inside v) fields
    ∙ list_all-weaker is_shaped (λ f. is_shaped (inside v f)) (λ f. inside_shaped v f h) fields e

replaced_cases : (same : Bool) (type : DataType) (v : WideVariable)
    → list_all is_shaped type.variables ≡ true
    → is_shaped v ≡ true
    → list_all is_shaped (cond same (map (inside v) type.variables) (v ∷ [])) ≡ true
replaced_cases true type v fields h = all_inside v type.variables h fields
replaced_cases false type v fields h = ap (λ b. b && true) h

-- the fields of a data type have the shape
abbrev pub has_shape : DataType → Bool
has_shape type = list_all is_shaped type.variables

pub spread_shaped : (types : List DataType) (variables : List WideVariable)
    → list_all has_shape types ≡ true
    → list_all is_shaped variables ≡ true
    → list_all is_shaped (spread types variables) ≡ true
spread_shaped [] variables shapes h = h
spread_shaped (type ∷ types) variables shapes h =
    let fields = (and_parts (has_shape type) (list_all has_shape types) shapes).0 in
    let rest = spread_shaped types variables (and_parts (has_shape type) (list_all has_shape types) shapes).1 h in
    list_all-flat_map
    is_shaped
    (replaced type)
    (spread types variables)
    (list_all-weaker
    is_shaped
    (λ v. list_all is_shaped (replaced type v))
    (λ v shaped. replaced_cases (bytes_eq v.kind type.name) type v fields shaped)
    (spread types variables)
    rest)

single_formed : (v : WideVariable)
    → is_shaped v ≡ true → nat_lt 100 (length v.name) ≡ false → is_well_formed_variable (single v) ≡ true
single_formed v h e =
    and_from
    (is_name v.name)
    (option_map_or is_array_length v.length true)
    (word_name v.name (and_parts (is_word v.name) (option_map_or is_array_length v.length true) h).0 e)
    (and_parts (is_word v.name) (option_map_or is_array_length v.length true) h).1

pub all_formed : (variables : List WideVariable)
    → list_all is_shaped variables ≡ true
    → has_long (map single variables) ≡ false
    → list_all is_well_formed_variable (map single variables) ≡ true
all_formed [] h e = refl
all_formed (v ∷ variables) h e =
    and_from
    (is_well_formed_variable (single v))
    (list_all is_well_formed_variable (map single variables))
    (single_formed
    v
    (and_parts (is_shaped v) (list_all is_shaped variables) h).0
    ((or_parts (nat_lt 100 (length v.name)) (has_long (map single variables)) e).0))
    (all_formed
    variables
    (and_parts (is_shaped v) (list_all is_shaped variables) h).1
    (or_parts (nat_lt 100 (length v.name)) (has_long (map single variables)) e).1)

-- a well formed variable has the shape
variable_shaped : (v : WideVariable) → is_well_formed_wide_variable v ≡ true → is_shaped v ≡ true
variable_shaped v h =
    and_from
    (is_word v.name)
    (option_map_or is_array_length v.length true)
    (name_word v.name (and_parts (is_name v.name) (is_name v.kind && option_map_or is_array_length v.length true) h).0)
    (and_parts (is_name v.kind) (option_map_or is_array_length v.length true) (and_parts (is_name v.name) (is_name v.kind && option_map_or is_array_length v.length true) h).1).1

pub variables_shaped : (variables : List WideVariable)
    → list_all is_well_formed_wide_variable variables ≡ true → list_all is_shaped variables ≡ true
variables_shaped variables h = list_all-weaker is_well_formed_wide_variable is_shaped variable_shaped variables h

type_shaped : (type : DataType) → is_well_formed_type type ≡ true → has_shape type ≡ true
type_shaped type h =
    variables_shaped
    type.variables
    (and_parts (is_name type.name) (list_all is_well_formed_wide_variable type.variables) h).1

pub types_shaped : (types : List DataType)
    → list_all is_well_formed_type types ≡ true → list_all has_shape types ≡ true
types_shaped types h = list_all-weaker is_well_formed_type has_shape type_shaped types h

-- well formed variables without a long flat name are well formed when flat
pub flat_formed : (types : List DataType) (variables : List WideVariable)
    → list_all has_shape types ≡ true
    → list_all is_shaped variables ≡ true
    → has_long (flat_variables types variables) ≡ false
    → list_all is_well_formed_variable (flat_variables types variables) ≡ true
flat_formed types variables shapes h e = all_formed (spread types variables) (spread_shaped types variables shapes h) e
