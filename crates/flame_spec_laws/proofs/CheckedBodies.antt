-- Where function files have no check faults, each body that is checked has none, and each part of it has none.
use Rattle.std.proofs.Common.{◌≡◌, ◌≢◌, ℕ, Bool, true, false, not, ◌&&◌, ◌||◌, cond, List, [], ◌∷◌, ◌++◌, codes}
use Rattle.std.proofs.Common.{◌+◌, count_by, subst, Contains, Some, ◌⊎◌, inl, inr, arith, refl, ap, sym, ◌∙◌, zero-add}
use Rattle.std.specs.List.{list_any, flat_map, filter, find}
use Rattle.std.specs.Str.{bytes_eq}
use Rattle.std.proofs.lemmas.Bool.{or_left, or_right}
use Rattle.std.proofs.lemmas.List.Sums.{sum_by-cons}
use Rattle.flame_rows.proofs.Bytes.{bytes_eq-true, bytes_eq-same}
use Rattle.flame_rows.proofs.Lists.{append-is_nil_left, append-is_nil_right}
use Rattle.flame_spec.specs.declared.models.Model.{Model}
use Rattle.flame_spec.specs.declared.models.Function.{Function}
use Rattle.flame_spec.specs.declared.trees.Unit as file
use Rattle.flame_spec.specs.KnownNames.{is_among}
use Rattle.flame_spec.specs.Functions.{Place, functions}
use Rattle.flame_spec.specs.declared.faults.CheckFault.{CheckFault}
use Rattle.flame_spec.specs.Definitions.{Definition, definitions, is_idle, is_for, is_transition, has_none, is_helper}
use Rattle.flame_spec.specs.Definitions.{helpers, body_of}
use Rattle.flame_spec.specs.Scopes.{Context, Sight, at_entry}
use Rattle.flame_spec.specs.HelperFaults.{recursive_faults, deep_faults}
use Rattle.flame_spec.specs.CheckFaults.{twice_where, twice_faults, is_run_by}
use Rattle.flame_spec.specs.CheckFaults.{with_parameters_faults, missing_where}
use Rattle.flame_spec.specs.CheckFaults.{missing_faults, definition_faults, body_faults, bodies_faults, check_faults}
use Rattle.flame_meaning.proofs.Checked.{with_parameters_where-none, parameters-none}
use Rattle.flame_spec_laws.specs.BodyParts.{Part, defining, StandsIn}
use Rattle.flame_spec_laws.specs.CheckLaws.{IsBodyOf, IsChecked, for_function, for_helper}
use Rattle.flame_spec_laws.proofs.Found.{Contains-cases, Contains-head, Contains-later, flat_map-none}
use Rattle.flame_spec_laws.proofs.Found.{list_any-at}
use Rattle.flame_spec_laws.proofs.NoFaults.{part_faults, no_faults}

-- ---- texts

pub bytes_eq-other : (xs ys : List ℕ) → xs ≢ ys → bytes_eq xs ys ≡ false
bytes_eq-other xs ys differ = by_answer (bytes_eq xs ys) refl
  where
    by_answer : (b : Bool) → bytes_eq xs ys ≡ b → bytes_eq xs ys ≡ false
    by_answer true e = absurd (differ (bytes_eq-true xs ys e))
    by_answer false e = e

-- ---- the parts of the list

-- what each part of the list says where the list is empty
pub record NoneOfAll (model : Model) (units : List file.Unit) : Type 0 where
  pub twice : twice_faults [] (definitions units) ≡ []
  pub having : flat_map (with_parameters_faults model) (definitions units) ≡ []
  pub missing : flat_map (missing_faults (definitions units)) (functions model) ≡ []
  pub recursive : recursive_faults model (helpers model units) ≡ []
  pub deep : deep_faults model (helpers model units) ≡ []
  pub bodies : flat_map (bodies_faults model (helpers model units)) (definitions units) ≡ []

pub none_of_all : (model : Model) (units : List file.Unit) → check_faults model units ≡ [] → NoneOfAll model units
none_of_all model units none = record {
  twice = twice;
  having = having;
  missing = missing;
  recursive = recursive;
  deep = deep;
  bodies = bodies;
}
  where
    ds : List Definition
    ds = definitions units

    hs : List Definition
    hs = helpers model units

    a : List CheckFault
    a = twice_faults [] ds

    b : List CheckFault
    b = flat_map (with_parameters_faults model) ds

    c : List CheckFault
    c = flat_map (missing_faults ds) (functions model)

    d : List CheckFault
    d = recursive_faults model hs

    e : List CheckFault
    e = deep_faults model hs

    f : List CheckFault
    f = flat_map (bodies_faults model hs) ds

    bodies : f ≡ []
    bodies = append-is_nil_right (a ++ b ++ c ++ d ++ e) f none

    before_bodies : a ++ b ++ c ++ d ++ e ≡ []
    before_bodies = append-is_nil_left (a ++ b ++ c ++ d ++ e) f none

    deep : e ≡ []
    deep = append-is_nil_right (a ++ b ++ c ++ d) e before_bodies

    before_deep : a ++ b ++ c ++ d ≡ []
    before_deep = append-is_nil_left (a ++ b ++ c ++ d) e before_bodies

    recursive : d ≡ []
    recursive = append-is_nil_right (a ++ b ++ c) d before_deep

    before_recursive : a ++ b ++ c ≡ []
    before_recursive = append-is_nil_left (a ++ b ++ c) d before_deep

    missing : c ≡ []
    missing = append-is_nil_right (a ++ b) c before_recursive

    having : b ≡ []
    having = append-is_nil_right a b (append-is_nil_left (a ++ b) c before_recursive)

    twice : a ≡ []
    twice = append-is_nil_left a b (append-is_nil_left (a ++ b) c before_recursive)

-- ---- C functions that are checked

pub is_run :
    (model : Model) (units : List file.Unit) (place : Place) (d : Definition)
    → IsBodyOf model units place d
    → is_run_by d place ≡ true
is_run model units place d is =
    rw (bytes_eq-other place.function.name (codes "idle") is.has_body)
    (bytes_eq-same d.name place.function.name is.named)

no-helper :
    (model : Model) (units : List file.Unit) (place : Place) (d : Definition)
    → IsBodyOf model units place d
    → is_helper model d ≡ false
no-helper model units place d is =
    let named : is_transition model d ≡ true
    = list_any-at (λ p. is_for p.function d) (functions model) place is.listed
    (bytes_eq-same d.name place.function.name is.named) in
    and-false (not (has_none d.parameters)) (is_transition model d) named
  where
    and-false : (a b : Bool) → b ≡ true → a && not b ≡ false
    and-false true b e = ap not e
    and-false false b e = refl

filter-found :
    {X : Type 0} (p : X → Bool) (xs : List X) (y : X)
    → Contains (filter p xs) y
    → Contains xs y × (p y ≡ true)
filter-found p [] y (k, below, at) = absurd (omega arith)
filter-found {X} p (x ∷ xs) y c = by_head (p x) refl c (filter-found p xs y)
  where
    by_head :
        (b : Bool)
        → p x ≡ b
        → Contains (cond b (x ∷ filter p xs) (filter p xs)) y
        → (Contains (filter p xs) y → Contains xs y × (p y ≡ true))
        → Contains (x ∷ xs) y × (p y ≡ true)
    by_head true e c' later = by_place (Contains-cases x (filter p xs) y c')
      where
        by_place : (x ≡ y) ⊎ Contains (filter p xs) y → Contains (x ∷ xs) y × (p y ≡ true)
        by_place (inl same) =
            (subst (λ z. Contains (x ∷ xs) z) same (Contains-head x xs), sym (ap p same) ∙ e)
        by_place (inr c'') = let (there, holds) = later c'' in (Contains-later x xs y there, holds)
    by_head false e c' later = let (there, holds) = later c' in (Contains-later x xs y there, holds)

by-true : {X : Type 0} (b : Bool) (x y : X) → b ≡ true → cond b x y ≡ x
by-true true x y e = refl
by-true false x y e = cc

by-false : {X : Type 0} (b : Bool) (x y : X) → b ≡ false → cond b x y ≡ y
by-false true x y e = cc
by-false false x y e = refl

-- a C function that is checked has no faults there
pub definition-none :
    (model : Model) (units : List file.Unit) (d : Definition) (at : Context)
    → check_faults model units ≡ []
    → IsChecked model units d at
    → definition_faults at d ≡ []
definition-none model units d at none (for_function place is same) =
    let hs : List Definition = helpers model units in
    let of_d : bodies_faults model hs d ≡ []
    = flat_map-none (bodies_faults model hs) (definitions units) d is.defined (none_of_all model units none).bodies in
    let of_all : flat_map (body_faults model hs d) (functions model) ≡ []
    = sym (by-false (is_helper model d) _ _ (no-helper model units place d is)) ∙ of_d in
    let of_place : body_faults model hs d place ≡ []
    = flat_map-none (body_faults model hs d) (functions model) place is.listed of_all in
    ap (λ a. definition_faults a d) same
    ∙ (sym (by-true (is_run_by d place) _ _ (is_run model units place d is)) ∙ of_place)
definition-none model units d at none (for_helper known same) =
    let hs : List Definition = helpers model units in
    let (defined, helps) = filter-found (is_helper model) (definitions units) d known in
    let of_d : bodies_faults model hs d ≡ []
    = flat_map-none (bodies_faults model hs) (definitions units) d defined (none_of_all model units none).bodies in
    ap (λ a. definition_faults a d) same ∙ (sym (by-true (is_helper model d) _ _ helps) ∙ of_d)

-- no part of a C function that is checked has a fault
pub part-none :
    (inner : Part) (model : Model) (units : List file.Unit) (d : Definition) (at : Context) (sight : Sight)
    → check_faults model units ≡ []
    → IsChecked model units d at
    → StandsIn at inner sight (defining d.parameters d.body) at_entry
    → part_faults at inner sight ≡ []
part-none inner model units d at sight none is stands =
    no_faults at inner sight stands (definition-none model units d at none is)

pub no-parameters :
    (model : Model) (units : List file.Unit) (place : Place) (d : Definition)
    → check_faults model units ≡ []
    → IsBodyOf model units place d
    → d.parameters ≡ []
no-parameters model units place d none is =
    let of_d : with_parameters_faults model d ≡ []
    = flat_map-none (with_parameters_faults model) (definitions units) d is.defined
    (none_of_all model units none).having in
    parameters-none d.parameters (list_any (is_run_by d) (functions model))
    (list_any-at (is_run_by d) (functions model) place is.listed (is_run model units place d is))
    (with_parameters_where-none _ d of_d)

-- ---- C functions

twice_where-none : (b : Bool) (d : Definition) → twice_where b d ≡ [] → b ≡ false
twice_where-none true d none = cc
twice_where-none false d none = refl

missing_where-none : (b : Bool) (function : Function) → missing_where b function ≡ [] → b ≡ false
missing_where-none true function none = cc
missing_where-none false function none = refl

pub any-defined :
    (place : Place) (ds : List Definition)
    → place.function.name ≢ codes "idle"
    → missing_faults ds place ≡ []
    → list_any (is_for place.function) ds ≡ true
any-defined place ds has_body none = by_answer (list_any (is_for place.function) ds) refl
  where
    by_answer : (b : Bool) → list_any (is_for place.function) ds ≡ b → list_any (is_for place.function) ds ≡ true
    by_answer true e = e
    by_answer false e =
        let missing : not (is_idle place.function) && not (list_any (is_for place.function) ds) ≡ false
        = missing_where-none _ place.function none in
        let idle : bytes_eq place.function.name (codes "idle") ≡ false
        = bytes_eq-other place.function.name (codes "idle") has_body in
        let found : not (is_idle place.function) && not (list_any (is_for place.function) ds) ≡ true
        = rw idle (rw e refl) in
        cc

-- no later C function has a name that an earlier one has
none-later :
    (function : Function) (earlier : List (List ℕ)) (ds : List Definition)
    → is_among function.name earlier ≡ true
    → twice_faults earlier ds ≡ []
    → count_by (is_for function) ds ≡ 0
none-later function earlier [] among none = refl
none-later function earlier (d ∷ ds) among none =
    by_name (bytes_eq d.name function.name) refl
    (none-later function (d.name ∷ earlier) ds (or_right (bytes_eq function.name d.name) _ among))
  where
    by_name :
        (b : Bool)
        → bytes_eq d.name function.name ≡ b
        → (twice_faults (d.name ∷ earlier) ds ≡ [] → count_by (is_for function) ds ≡ 0)
        → count_by (is_for function) (d ∷ ds) ≡ 0
    by_name true e later =
        let once : is_among d.name earlier ≡ false
        = twice_where-none (is_among d.name earlier) d (append-is_nil_left _ (twice_faults (d.name ∷ earlier) ds) none) in
        let same : d.name ≡ function.name = bytes_eq-true d.name function.name e in
        let moved : is_among d.name earlier ≡ true = ap (λ name. is_among name earlier) same ∙ among in
        cc
    by_name false e later =
        sum_by-cons (λ c. cond (is_for function c) 1 0) d ds
        ∙ rw e (zero-add _ ∙ later (append-is_nil_right (twice_where (is_among d.name earlier) d) _ none))

-- of C functions of which none has an earlier one's name, one has a name that one of them has
one-named :
    (function : Function) (earlier : List (List ℕ)) (ds : List Definition)
    → list_any (is_for function) ds ≡ true
    → twice_faults earlier ds ≡ []
    → count_by (is_for function) ds ≡ 1
one-named function earlier [] any none = cc
one-named function earlier (d ∷ ds) any none =
    by_name (bytes_eq d.name function.name) refl any (one-named function (d.name ∷ earlier) ds)
  where
    more : twice_faults (d.name ∷ earlier) ds ≡ []
    more = append-is_nil_right (twice_where (is_among d.name earlier) d) _ none

    by_name :
        (b : Bool)
        → bytes_eq d.name function.name ≡ b
        → b || list_any (is_for function) ds ≡ true
        → (list_any (is_for function) ds ≡ true
        → twice_faults (d.name ∷ earlier) ds ≡ []
        → count_by (is_for function) ds ≡ 1)
        → count_by (is_for function) (d ∷ ds) ≡ 1
    by_name true e any' later =
        let same : function.name ≡ d.name = sym (bytes_eq-true d.name function.name e) in
        let among : is_among function.name (d.name ∷ earlier) ≡ true
        = or_left (bytes_eq function.name d.name) _ (bytes_eq-same function.name d.name same) in
        sum_by-cons (λ c. cond (is_for function c) 1 0) d ds
        ∙ rw e (rw (none-later function (d.name ∷ earlier) ds among more) refl)
    by_name false e any' later =
        sum_by-cons (λ c. cond (is_for function c) 1 0) d ds ∙ rw e (zero-add _ ∙ later any' more)

pub one-function :
    (model : Model) (units : List file.Unit) (place : Place)
    → check_faults model units ≡ []
    → Contains (functions model) place
    → place.function.name ≢ codes "idle"
    → count_by (is_for place.function) (definitions units) ≡ 1
one-function model units place none listed has_body =
    let ds : List Definition = definitions units in
    let all : NoneOfAll model units = none_of_all model units none in
    let of_place : missing_faults ds place ≡ []
    = flat_map-none (missing_faults ds) (functions model) place listed all.missing in
    one-named place.function [] ds (any-defined place ds has_body of_place) all.twice

-- ---- the body of a function

none-found : {X : Type 0} (p : X → Bool) (xs : List X) (y : X) → count_by p xs ≡ 0 → Contains xs y → p y ≡ false
none-found p [] y none (k, below, at) = absurd (omega arith)
none-found {X} p (x ∷ xs) y none c = by_place (Contains-cases x xs y c) (none-found p xs y)
  where
    counted : cond (p x) 1 0 + count_by p xs ≡ 0
    counted = sym (sum_by-cons (λ z. cond (p z) 1 0) x xs) ∙ none

    at_head : (b : Bool) → p x ≡ b → cond b 1 0 + count_by p xs ≡ 0 → p x ≡ false
    at_head true e n = absurd (omega arith)
    at_head false e n = e

    by_place : (x ≡ y) ⊎ Contains xs y → (count_by p xs ≡ 0 → Contains xs y → p y ≡ false) → p y ≡ false
    by_place (inl e) later = ap p (sym e) ∙ at_head (p x) refl counted
    by_place (inr c') later = later (omega (arith, counted)) c'

one-found :
    {X : Type 0} (p : X → Bool) (xs : List X) (y : X)
    → count_by p xs ≡ 1
    → Contains xs y
    → p y ≡ true
    → find p xs ≡ Some y
one-found p [] y one (k, below, at) holds = absurd (omega arith)
one-found {X} p (x ∷ xs) y one c holds = by_head (p x) refl counted (Contains-cases x xs y c) (one-found p xs y)
  where
    counted : cond (p x) 1 0 + count_by p xs ≡ 1
    counted = sym (sum_by-cons (λ z. cond (p z) 1 0) x xs) ∙ one

    by_head :
        (b : Bool)
        → p x ≡ b
        → cond b 1 0 + count_by p xs ≡ 1
        → (x ≡ y) ⊎ Contains xs y
        → (count_by p xs ≡ 1 → Contains xs y → p y ≡ true → find p xs ≡ Some y)
        → cond b (Some x) (find p xs) ≡ Some y
    by_head true e n (inl same) later = ap Some same
    by_head true e n (inr c') later =
        let none : p y ≡ false = none-found p xs y (omega arith) c' in
        cc
    by_head false e n (inl same) later =
        let other : p y ≡ false = ap p (sym same) ∙ e in
        cc
    by_head false e n (inr c') later = later (omega arith) c' holds

pub one-body :
    (model : Model) (units : List file.Unit) (place : Place) (d : Definition)
    → check_faults model units ≡ []
    → IsBodyOf model units place d
    → body_of units place.function ≡ d.body
one-body model units place d none is =
    let idle : is_idle place.function ≡ false
    = bytes_eq-other place.function.name (codes "idle") is.has_body in
    let found : find (is_for place.function) (definitions units) ≡ Some d
    = one-found (is_for place.function) (definitions units) d
    (one-function model units place none is.listed is.has_body)
    is.defined
    (bytes_eq-same d.name place.function.name is.named) in
    rw idle (rw found refl)
