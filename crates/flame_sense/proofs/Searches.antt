-- What is looked up in lists that are made of lists.
use Rattle.std.proofs.Common.{◌≡◌, ℕ, zero, suc, ◌+◌, ◌<◌, List, [], ◌∷◌, ◌++◌, length, drop, map, get_or, refl, sym, ap, ◌∙◌, Bool, true, false, ◌&&◌, ◌||◌, cond, Some, None, option_map, arith}
use Rattle.std.specs.Prelude.{find, slice_get}
use Rattle.std.specs.List.{filter, list_any}
use Rattle.std.specs.Str.{bytes_eq}
use Rattle.std.proofs.lemmas.List.{at_drop_more}
use Rattle.flame_rows.proofs.Lists.{find-map}
use Rattle.flame_spec.specs.declared.models.AgentType.{AgentType}
use Rattle.flame_spec.specs.declared.models.Model.{Model}
use Rattle.flame_spec.specs.declared.models.Function.{Function}
use Rattle.flame_spec.specs.declared.trees.Def.{Def}
use Rattle.flame_spec.specs.declared.trees.Unit.{Unit}
use Rattle.flame_spec.specs.Definitions.{Definition, definition, definitions_of, is_helper, helpers, helper_named, definitions}
use Rattle.flame_spec.specs.Functions.{functions_from, at_type}
use Rattle.flame_spec.specs.Lists.{each_from, numbered_from}
use Rattle.flame_sense.specs.declared.found.Wanted.{Wanted}
use Rattle.flame_sense.specs.declared.found.Wanted.TheVariants.{Any, Helpers}
use Rattle.flame_sense.specs.StandsFor.{is_wanted}

-- ---- the first that passes

found_before :
    {X : Type 0} (passes : X → Bool) (xs ys : List X) (x : X)
    → find passes xs ≡ Some x
    → find passes (xs ++ ys) ≡ Some x
found_before passes [] ys x h = cc
found_before passes (y ∷ xs) ys x h = by_test (passes y) (found_before passes xs ys x) h
  where
    by_test :
        (b : Bool)
        → (find passes xs ≡ Some x → find passes (xs ++ ys) ≡ Some x)
        → cond b (Some y) (find passes xs) ≡ Some x
        → cond b (Some y) (find passes (xs ++ ys)) ≡ Some x
    by_test true more g = g
    by_test false more g = more g

found_behind :
    {X : Type 0} (passes : X → Bool) (xs ys : List X)
    → find passes xs ≡ None
    → find passes (xs ++ ys) ≡ find passes ys
found_behind passes [] ys h = refl
found_behind passes (y ∷ xs) ys h = by_test (passes y) (found_behind passes xs ys) h
  where
    by_test :
        (b : Bool)
        → (find passes xs ≡ None → find passes (xs ++ ys) ≡ find passes ys)
        → cond b (Some y) (find passes xs) ≡ None
        → cond b (Some y) (find passes (xs ++ ys)) ≡ find passes ys
    by_test true more g = cc
    by_test false more g = more g

-- what is found among those that are left over
found_among :
    {X : Type 0} (passes keeps : X → Bool) (i : ℕ) (xs : List X)
    → find (λ x. passes x && keeps x) xs ≡ option_map (λ found. found.1) (numbered_from passes i (filter keeps xs))
found_among passes keeps i [] = refl
found_among {X} passes keeps i (x ∷ xs) =
    by_tests (passes x) refl (keeps x) (found_among passes keeps i xs) (found_among passes keeps (i + 1) xs)
  where
    by_tests :
        (p : Bool) → passes x ≡ p → (k : Bool)
        → find (λ x. passes x && keeps x) xs ≡ option_map (λ found. found.1) (numbered_from passes i (filter keeps xs))
        → find (λ x. passes x && keeps x) xs ≡ option_map (λ found. found.1) (numbered_from passes (i + 1) (filter keeps xs))
        → cond (p && k) (Some x) (find (λ x. passes x && keeps x) xs)
        ≡ option_map (λ found. found.1) (numbered_from passes i (cond k (x ∷ filter keeps xs) (filter keeps xs)))
    by_tests true q true e f = ap (λ b. option_map (λ (found : ℕ × X). found.1) (cond b (Some (i, x)) (numbered_from passes (i + 1) (filter keeps xs)))) (sym q)
    by_tests true q false e f = e
    by_tests false q true e f =
        f ∙ ap (λ b. option_map (λ (found : ℕ × X). found.1) (cond b (Some (i, x)) (numbered_from passes (i + 1) (filter keeps xs)))) (sym q)
    by_tests false q false e f = e

found_alike :
    {X : Type 0} (passes other : X → Bool) (xs : List X)
    → ((x : X) → passes x ≡ other x)
    → find passes xs ≡ find other xs
found_alike passes other [] same = refl
found_alike passes other (x ∷ xs) same =
    ap (λ b. cond b (Some x) (find passes xs)) (same x) ∙ ap (cond (other x) (Some x)) (found_alike passes other xs same)

-- ---- C functions

pub defined_here :
    (passes : Definition → Bool) (units : List Unit) (i : ℕ) (unit : Unit) (found : Def)
    → i < length units
    → unit ≡ get_or units i unit
    → Some found ≡ find (λ def. passes (definition i def)) unit.functions
    → find passes (each_from definitions_of i (drop i units)) ≡ Some (definition i found)
defined_here passes units i unit found h is e =
    at_drop_more (λ l. find passes (each_from definitions_of i l)) units i unit h
    ∙ ap (λ u. find passes (definitions_of i u ++ each_from definitions_of (i + 1) (drop (i + 1) units))) (sym is)
    ∙ found_before passes (definitions_of i unit) (each_from definitions_of (i + 1) (drop (i + 1) units)) (definition i found)
    (find-map passes (definition i) unit.functions ∙ ap (option_map (definition i)) (sym e))

pub defined_later :
    (passes : Definition → Bool) (units : List Unit) (i : ℕ) (unit : Unit)
    → i < length units
    → unit ≡ get_or units i unit
    → None ≡ find (λ def. passes (definition i def)) unit.functions
    → find passes (each_from definitions_of i (drop i units)) ≡ find passes (each_from definitions_of (i + 1) (drop (i + 1) units))
defined_later passes units i unit h is e =
    at_drop_more (λ l. find passes (each_from definitions_of i l)) units i unit h
    ∙ ap (λ u. find passes (definitions_of i u ++ each_from definitions_of (i + 1) (drop (i + 1) units))) (sym is)
    ∙ found_behind passes (definitions_of i unit) (each_from definitions_of (i + 1) (drop (i + 1) units))
    (find-map passes (definition i) unit.functions ∙ ap (option_map (definition i)) (sym e))

-- the number of the file plays no part
same_wanted : (wanted : Wanted) (i : ℕ) (def : Def) → is_wanted wanted (definition 0 def) ≡ is_wanted wanted (definition i def)
same_wanted Any i def = refl
same_wanted (Helpers model) i def = refl

pub wanted_alike :
    (wanted : Wanted) (name : List ℕ) (i : ℕ) (defs : List Def)
    → find (λ (def : Def). bytes_eq def.name name && is_wanted wanted (definition 0 def)) defs
    ≡ find (λ (def : Def). bytes_eq def.name name && is_wanted wanted (definition i def)) defs
wanted_alike wanted name i defs =
    found_alike (λ (def : Def). bytes_eq def.name name && is_wanted wanted (definition 0 def))
    (λ (def : Def). bytes_eq def.name name && is_wanted wanted (definition i def)) defs
    (λ def. ap (λ b. bytes_eq def.name name && b) (same_wanted wanted i def))

pub helper_found :
    (model : Model) (units : List Unit) (word : List ℕ)
    → find (λ d. bytes_eq d.name word && is_helper model d) (definitions units)
    ≡ option_map (λ found. found.1) (helper_named (helpers model units) word)
helper_found model units word = found_among (λ d. bytes_eq d.name word) (is_helper model) 0 (definitions units)

-- ---- functions of the model

got_before :
    {X Y : Type 0} (f : X → Y) (xs : List X) (ys : List Y) (k : ℕ) (d : X)
    → k < length xs
    → slice_get (map f xs ++ ys) k ≡ Some (f (get_or xs k d))
got_before f [] ys k d h = absurd (omega arith)
got_before f (x ∷ xs) ys zero d h = refl
got_before f (x ∷ xs) ys (suc k) d h = got_before f xs ys k d (omega arith)

got_behind :
    {X Y : Type 0} (f : X → Y) (xs : List X) (ys : List Y) (k rest : ℕ)
    → k ≡ length xs + rest
    → slice_get (map f xs ++ ys) k ≡ slice_get ys rest
got_behind f [] ys k rest e = let same : k ≡ rest = omega arith in ap (slice_get ys) same
got_behind f (x ∷ xs) ys zero rest e = absurd (omega arith)
got_behind f (x ∷ xs) ys (suc k) rest e = got_behind f xs ys k rest (omega arith)

pub function_here :
    (agents : List AgentType) (i : ℕ) (agent : AgentType) (left : ℕ) (d : Function)
    → i < length agents
    → agent ≡ get_or agents i agent
    → left < length agent.functions
    → slice_get (functions_from i (drop i agents)) left ≡ Some (at_type i agent (get_or agent.functions left d))
function_here agents i agent left d h is within =
    at_drop_more (λ l. slice_get (functions_from i l) left) agents i agent h
    ∙ ap (λ a. slice_get (functions_from i (a ∷ drop (i + 1) agents)) left) (sym is)
    ∙ got_before (at_type i agent) agent.functions (functions_from (i + 1) (drop (i + 1) agents)) left d within

pub function_later :
    (agents : List AgentType) (i : ℕ) (agent : AgentType) (left rest : ℕ)
    → i < length agents
    → agent ≡ get_or agents i agent
    → left ≡ length agent.functions + rest
    → slice_get (functions_from i (drop i agents)) left ≡ slice_get (functions_from (i + 1) (drop (i + 1) agents)) rest
function_later agents i agent left rest h is e =
    at_drop_more (λ l. slice_get (functions_from i l) left) agents i agent h
    ∙ ap (λ a. slice_get (functions_from i (a ∷ drop (i + 1) agents)) left) (sym is)
    ∙ got_behind (at_type i agent) agent.functions (functions_from (i + 1) (drop (i + 1) agents)) left rest e

any_mapped :
    {X Y : Type 0} (f : X → Y) (passes : Y → Bool) (xs : List X) (ys : List Y)
    → list_any passes (map f xs ++ ys) ≡ (list_any (λ x. passes (f x)) xs || list_any passes ys)
any_mapped f passes [] ys = refl
any_mapped f passes (x ∷ xs) ys = by_test (passes (f x)) (any_mapped f passes xs ys)
  where
    by_test :
        (b : Bool)
        → list_any passes (map f xs ++ ys) ≡ (list_any (λ x. passes (f x)) xs || list_any passes ys)
        → (b || list_any passes (map f xs ++ ys)) ≡ ((b || list_any (λ x. passes (f x)) xs) || list_any passes ys)
    by_test true e = refl
    by_test false e = e

pub any_at :
    (name : List ℕ) (agents : List AgentType) (i : ℕ) (agent : AgentType) (b : Bool)
    → i < length agents
    → agent ≡ get_or agents i agent
    → b ≡ list_any (λ (function : Function). bytes_eq name function.name) agent.functions
    → list_any (λ place. bytes_eq name place.function.name) (functions_from i (drop i agents))
    ≡ (b || list_any (λ place. bytes_eq name place.function.name) (functions_from (i + 1) (drop (i + 1) agents)))
any_at name agents i agent b h is e =
    at_drop_more (λ l. list_any (λ place. bytes_eq name place.function.name) (functions_from i l)) agents i agent h
    ∙ ap (λ a. list_any (λ place. bytes_eq name place.function.name) (functions_from i (a ∷ drop (i + 1) agents))) (sym is)
    ∙ any_mapped (at_type i agent) (λ place. bytes_eq name place.function.name) agent.functions (functions_from (i + 1) (drop (i + 1) agents))
    ∙ ap (λ c. c || list_any (λ place. bytes_eq name place.function.name) (functions_from (i + 1) (drop (i + 1) agents))) (sym e)
