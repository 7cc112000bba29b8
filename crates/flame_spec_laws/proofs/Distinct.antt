-- Different names, from lists that look back.
use Rattle.std.proofs.Common.{◌≡◌, ℕ, zero, suc, ◌+◌, ◌<◌, List, [], ◌∷◌, ◌++◌, map, take, length, get_or, refl, sym}
use Rattle.std.proofs.Common.{ap, subst, ◌∙◌, Bool, false, true≢false, arith, add-zero, zero-add, codes}
use Rattle.std.specs.Prelude.{◌||◌, pos}
use Rattle.std.specs.Str.{bytes_eq}
use Rattle.std.proofs.lemmas.Slice.Eq.{bytes_eq-Decides}
use Rattle.std.proofs.lemmas.List.{take-map, length-map}
use Rattle.std.proofs.lemmas.Bool.{or_parts}
use Rattle.flame_rows.proofs.Lists.{append-is_nil_left, append-is_nil_right}
use Rattle.flame_spec.specs.declared.faults.NameKind.TheVariants.{Duplicate, Clash}
use Rattle.flame_spec.specs.declared.models.Model.{Model}
use Rattle.flame_spec.specs.declared.models.TimeUnit.{TimeUnit}
use Rattle.flame_spec.specs.declared.models.MessageType.{MessageType}
use Rattle.flame_spec.specs.declared.models.AgentType.{AgentType}
use Rattle.flame_spec.specs.Lists.{each, each_from}
use Rattle.flame_ops.specs.Ascii.{capitals}
use Rattle.flame_spec.specs.Capitals.{clashes}
use Rattle.flame_spec.specs.KnownNames.{is_among, unit_names, message_names, declared_by}
use Rattle.flame_spec.specs.Paths.{root, at_key, at_number}
use Rattle.flame_spec.specs.Refusals.{fault_where}
use Rattle.flame_spec.specs.UnitFaults.{unit_faults, units_faults, measure_faults}
use Rattle.flame_spec.specs.MessageFaults.{apart_faults, constant_faults, message_faults, messages_faults}
use Rattle.flame_spec.specs.MessageFaults.{variables_faults}
use Rattle.flame_spec.specs.NameFaults.{agent_faults, agents_faults, type_names, names_of_functions, environment_faults}
use Rattle.flame_spec.specs.NameFaults.{name_faults}
use Rattle.flame_spec_laws.specs.DistinctNames.{AreDistinct}
use Rattle.flame_spec.proofs.Alike.{clashes-new}
use Rattle.flame_spec.proofs.FaultTests.{name_fault_where-none}

-- where no member gives anything, each gives nothing
pub each_nothing : {X Y : Type 0} (f : ℕ → X → List Y) (i : ℕ) (xs : List X)
    → each_from f i xs ≡ []
    → (k : ℕ) (d : X)
    → k < length xs
    → f (i + k) (get_or xs k d) ≡ []
each_nothing f i [] h k d inside = absurd (omega arith)
each_nothing f i (x ∷ xs) h zero d inside =
    ap (λ n. f n x) (add-zero i) ∙ append-is_nil_left (f i x) (each_from f (i + 1) xs) h
each_nothing f i (x ∷ xs) h (suc k) d inside =
    let e : i + suc k ≡ (i + 1) + k = omega arith in
    ap (λ n. f n (get_or xs k d)) e
    ∙ each_nothing f (i + 1) xs (append-is_nil_right (f i x) (each_from f (i + 1) xs) h) k d (omega arith)

-- each name is none of the earlier ones
pub record LooksBack (names : List (List ℕ)) : Type 0 where
  pub new : (k : ℕ) → k < length names → is_among (get_or names k []) (take k names) ≡ false

not_first : (name x : List ℕ) (rest : Bool) → (bytes_eq name x || rest) ≡ false → x ≡ name → ⊥
not_first name x rest h e = true≢false (sym (ap (λ b. b || rest) ((bytes_eq-Decides name x).1 (sym e))) ∙ h)

apart : (name : List ℕ) (names : List (List ℕ)) (k : ℕ)
    → is_among name (take k names) ≡ false
    → (i : ℕ)
    → i < k
    → i < length names
    → get_or names i [] ≡ name
    → ⊥
apart name [] k h i below inside e = absurd (omega arith)
apart name (x ∷ names) zero h i below inside e = absurd (omega arith)
apart name (x ∷ names) (suc k) h zero below inside e = not_first name x (is_among name (take k names)) h e
apart name (x ∷ names) (suc k) h (suc i) below inside e =
    apart name names k (or_parts (bytes_eq name x) (is_among name (take k names)) h).1 i (omega arith) (omega arith) e

pub distinct : (names : List (List ℕ)) → LooksBack names → AreDistinct names
distinct names back = λ i k below inside e.
    apart (get_or names k []) names k (back.new k inside) i below (omega arith) e

pub get_or-map : {X : Type 0} (f : X → List ℕ) (d : X) (xs : List X) (k : ℕ)
    → f d ≡ []
    → get_or (map f xs) k [] ≡ f (get_or xs k d)
get_or-map f d [] k h = sym h
get_or-map f d (x ∷ xs) zero h = refl
get_or-map f d (x ∷ xs) (suc k) h = get_or-map f d xs k h

pub each_none : {X Y : Type 0} (f : ℕ → X → List Y) (xs : List X) (d : X)
    → each f xs ≡ []
    → (k : ℕ)
    → k < length xs
    → f k (get_or xs k d) ≡ []
each_none f xs d h k inside =
    ap (λ n. f n (get_or xs k d)) (sym (zero-add k)) ∙ each_nothing f 0 xs h k d inside

-- what each element is named, looking back at the elements
pub looks_back : {X : Type 0} (f : X → List ℕ) (d : X) (xs : List X)
    → f d ≡ []
    → ((k : ℕ) → k < length xs → is_among (f (get_or xs k d)) (map f (take k xs)) ≡ false)
    → LooksBack (map f xs)
looks_back f d xs h new = record {
  new = λ k inside.
      ap (λ n. is_among n (take k (map f xs))) (get_or-map f d xs k h)
      ∙ ap (is_among (f (get_or xs k d))) (take-map f k xs)
      ∙ new k (subst (λ n. k < n) (length-map xs f) inside);
}

-- a name is none of these, and not equal to one of them in capitals
pub record StandsApart (name : List ℕ) (names : List (List ℕ)) : Type 0 where
  pub new : is_among name names ≡ false
  pub alone : clashes name names ≡ false

-- names that differ, and differ in capitals
pub record IsApart (names : List (List ℕ)) : Type 0 where
  pub plain : LooksBack names
  pub shouted : LooksBack (map capitals names)

stands_apart : (earlier : List (List ℕ)) (path name : List ℕ) → apart_faults earlier path name ≡ []
    → StandsApart name earlier
stands_apart earlier path name h = record {
  new =
      name_fault_where-none
      (is_among name earlier)
      Duplicate
      path
      name
      (append-is_nil_left (fault_where (is_among name earlier) Duplicate path name)
      (fault_where (clashes name earlier) Clash path name) h);
  alone =
      name_fault_where-none
      (clashes name earlier)
      Clash
      path
      name
      (append-is_nil_right
      (fault_where (is_among name earlier) Duplicate path name)
      (fault_where (clashes name earlier) Clash path name)
      h);
}

pub is_apart : (names : List (List ℕ))
    → ((k : ℕ) → k < length names → StandsApart (get_or names k []) (take k names))
    → IsApart names
is_apart names facts = record {
  plain = record { new = λ k inside. (facts k inside).new };
  shouted =
      looks_back capitals [] names refl
      (λ k inside.
      sym (clashes-new (get_or names k []) (take k names) (facts k inside).new) ∙ (facts k inside).alone);
}

constants_apart : (path : List ℕ) (constants : List (List ℕ)) → constant_faults path constants ≡ [] → IsApart constants
constants_apart path constants h =
    is_apart
    constants
    (λ k inside.
    stands_apart
    (take k constants)
    (at_key (at_number path k) (codes "name"))
    (get_or constants k [])
    (each_none
    (λ i name. apart_faults (take i constants) (at_key (at_number path i) (codes "name")) name)
    constants
    []
    h
    k
    inside))

messages_apart : (path : List ℕ) (messages : List MessageType)
    → messages_faults path messages ≡ [] → IsApart (message_names messages)
messages_apart path messages h =
    is_apart
    (message_names messages)
    (λ k inside.
    let m : MessageType = record { name = []; variables = [] } in
    let at = subst (λ n. k < n) (length-map messages (λ message. message.name)) inside in
    let message = get_or messages k m in
    let none = append-is_nil_left
    (apart_faults (message_names (take k messages)) (at_key (at_number path k) (codes "name")) message.name)
    (variables_faults (at_key (at_number path k) (codes "variables")) message.variables)
    (each_none
    (λ i one. message_faults (message_names (take i messages)) (at_number path i) one)
    messages
    m
    h
    k
    at) in
    let facts = stands_apart
    (message_names (take k messages))
    (at_key (at_number path k) (codes "name"))
    message.name
    none in
    let name = get_or-map (λ one. one.name) m messages k refl in
    let earlier = take-map (λ one. one.name) k messages in
    record {
      new = ap (λ n. is_among n (take k (message_names messages))) name ∙ ap (is_among message.name) earlier
          ∙ facts.new;
      alone = ap (λ n. clashes n (take k (message_names messages))) name ∙ ap (clashes message.name) earlier
          ∙ facts.alone;
    })

types_back : (path : List ℕ) (model : Model) (types : List AgentType)
    → agents_faults (declared_by model) path types ≡ [] → LooksBack (type_names types)
types_back path model types h =
    let a : AgentType = record { name = []; memory = []; functions = [] } in
    looks_back
    (λ type. type.name)
    a
    types
    refl
    (λ k inside.
    name_fault_where-none
    (is_among (get_or types k a).name (type_names (take k types)))
    Duplicate
    (at_key (at_number path k) (codes "name"))
    (get_or types k a).name
    (append-is_nil_left
    (fault_where
    (is_among (get_or types k a).name (type_names (take k types)))
    Duplicate
    (at_key (at_number path k) (codes "name"))
    (get_or types k a).name)
    _
    (each_none
    (λ i type.
    agent_faults
    (declared_by model)
    (type_names (take i types))
    (λ name. is_among name (names_of_functions (take i types)))
    (at_number path i)
    type)
    types
    a
    h
    k
    inside)))

units_back : (path : List ℕ) (units : List TimeUnit) → units_faults path units ≡ [] → LooksBack (unit_names units)
units_back path units h = record { new = λ k inside. by k inside }
  where
    by : (k : ℕ) → k < length (unit_names units)
        → is_among (get_or (unit_names units) k []) (take k (unit_names units)) ≡ false
    by zero inside = refl
    by (suc k) inside =
        let u : TimeUnit = record { name = []; unit = []; period = pos 0 } in
        let at : k < length units = subst (λ n. k < n) (length-map units (λ unit. unit.name)) (omega arith) in
        let unit = get_or units k u in
        let new = name_fault_where-none
        (is_among unit.name (unit_names (take k units)))
        Duplicate
        (at_key (at_number path k) (codes "name"))
        unit.name
        (append-is_nil_left
        (fault_where
        (is_among unit.name (unit_names (take k units)))
        Duplicate
        (at_key (at_number path k) (codes "name"))
        unit.name)
        (measure_faults (take k units) (at_number path k) unit)
        (each_none (λ i one. unit_faults (take i units) (at_number path i) one) units u h k at)) in
        ap
        (λ n. is_among n (codes "iteration" ∷ take k (map (λ one. one.name) units)))
        (get_or-map (λ one. one.name) u units k refl)
        ∙ ap (λ names. is_among unit.name (codes "iteration" ∷ names)) (take-map (λ one. one.name) k units)
        ∙ new

abbrev xmodel : List ℕ
xmodel = at_key root (codes "xmodel")

abbrev environment : List ℕ
environment = at_key xmodel (codes "environment")

-- the parts of a model without name faults
environment_none : (model : Model) → name_faults model ≡ [] → environment_faults environment model ≡ []
environment_none model none = append-is_nil_left _ _ none

pub constants_differ : (model : Model) → name_faults model ≡ [] → IsApart model.constants
constants_differ model none =
    constants_apart
    (at_key environment (codes "constants"))
    model.constants
    (append-is_nil_left _ _ (environment_none model none))

abbrev pub units_path : List ℕ
units_path = at_key (at_key (at_key root (codes "xmodel")) (codes "environment")) (codes "timeUnits")

pub units_none : (model : Model) → name_faults model ≡ [] → units_faults units_path model.units ≡ []
units_none model none =
    append-is_nil_right
    (constant_faults (at_key environment (codes "constants")) model.constants)
    (units_faults units_path model.units)
    (environment_none model none)

pub units_differ : (model : Model) → name_faults model ≡ [] → LooksBack (unit_names model.units)
units_differ model none =
    units_back
    (at_key environment (codes "timeUnits"))
    model.units
    (append-is_nil_right
    (constant_faults (at_key environment (codes "constants")) model.constants)
    (units_faults (at_key environment (codes "timeUnits")) model.units)
    (environment_none model none))

behind : (model : Model) → name_faults model ≡ []
    → messages_faults (at_key xmodel (codes "messages")) model.messages
    ++ agents_faults (declared_by model) (at_key xmodel (codes "agents")) model.agents
    ≡ []
behind model none = append-is_nil_right (environment_faults environment model) _ none

pub messages_differ : (model : Model) → name_faults model ≡ [] → IsApart (message_names model.messages)
messages_differ model none =
    messages_apart
    (at_key xmodel (codes "messages"))
    model.messages
    (append-is_nil_left
    (messages_faults (at_key xmodel (codes "messages")) model.messages)
    (agents_faults (declared_by model) (at_key xmodel (codes "agents")) model.agents)
    (behind model none))

pub types_differ : (model : Model) → name_faults model ≡ [] → LooksBack (type_names model.agents)
types_differ model none =
    types_back
    (at_key xmodel (codes "agents"))
    model
    model.agents
    (append-is_nil_right
    (messages_faults (at_key xmodel (codes "messages")) model.messages)
    (agents_faults (declared_by model) (at_key xmodel (codes "agents")) model.agents)
    (behind model none))
