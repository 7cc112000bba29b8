-- The flat model of well formed files without faults is well formed.
use Rattle.std.proofs.Common.{◌≡◌, ℕ, ◌+◌, List, [], ◌∷◌, ◌++◌, length, take, map, refl, sym, ap, ◌∙◌, Bool, true, false, cond, not, append_assoc, length-append}
use Rattle.std.specs.Prelude.{◌&&◌, ◌||◌, IsTrue, slice_get, unwrap_or, is_some}
use Rattle.std.specs.List.{filter, flat_map, fold, list_all}
use Rattle.std.proofs.Math.Seq.{take-append_seam}
use Rattle.std.proofs.lemmas.List.Folds.{list_all-append, list_all-map}
use Rattle.std.proofs.lemmas.Bool.{and_parts, and_from, not-false, or_parts}
use Rattle.flame_rows.proofs.Lists.{append-is_nil}
use Rattle.flame_spec.specs.declared.wide.Wide.{Wide}
use Rattle.flame_spec.specs.declared.wide.WideVariable.{WideVariable}
use Rattle.flame_spec.specs.declared.wide.DataType.{DataType}
use Rattle.flame_spec.specs.declared.wide.WideMessage.{WideMessage}
use Rattle.flame_spec.specs.declared.wide.WideAgent.{WideAgent}
use Rattle.flame_spec.specs.Lists.{each_from}
use Rattle.flame_spec.specs.KnownNames.{is_among}
use Rattle.flame_spec.specs.Names.{is_filled, is_name}
use Rattle.flame_spec.specs.WellFormed.{is_well_formed, is_well_formed_unit, is_well_formed_variable, is_well_formed_message, is_well_formed_function, is_well_formed_agent}
use Rattle.flame_spec.specs.WideModels.{is_well_formed_wide, is_well_formed_type, is_well_formed_wide_variable, is_well_formed_wide_message, is_well_formed_wide_agent}
use Rattle.flame_nest.specs.declared.faults.NestFault.{NestFault}
use Rattle.flame_nest.specs.declared.faults.NestKind.TheVariants.{Differs, TwiceType, UnknownType, TypedArray, TooWide, LongName}
use Rattle.flame_nest.specs.FlatModels.{flat, flat_message, flat_agent, flat_variables, new_behind, with_new, joined_types, joined_messages}
use Rattle.flame_nest.specs.NestFaults.{is_int, is_wide, has_long, nest_where, nest_faults, file_faults, types_faults, type_faults, messages_faults, message_faults, agents_faults, variables_faults, variable_faults, meant_by, Given, given_by, types_given, messages_given, of_type, of_message, type_names}
use Rattle.flame_nest.proofs.Firsts.{none-false}
use Rattle.flame_nest.proofs.Joins.{joined_once-push}
use Rattle.flame_nest.proofs.Unfolding.{flat_variables-nil, flat_variables-append}
use Rattle.flame_nest.proofs.Walks.{messages-known}
use Rattle.flame_nest.proofs.Shapes.{list_all-flat_map, list_all-weaker, is_shaped, has_shape, variables_shaped, types_shaped, flat_formed}
use Rattle.flame_nest.proofs.LaterTypes.{is_known, are_named, types_with, later_same}

-- ---- joined lists

filter_cases : {X : Type 0} (p : X → Bool) (b : Bool) (x : X) (rest : List X)
    → p x ≡ true → list_all p rest ≡ true → list_all p (cond b (x ∷ rest) rest) ≡ true
filter_cases p true x rest h e = and_from (p x) (list_all p rest) h e
filter_cases p false x rest h e = e

list_all-filter : {X : Type 0} (p q : X → Bool) (xs : List X)
    → list_all p xs ≡ true → list_all p (filter q xs) ≡ true
list_all-filter p q [] h = refl
list_all-filter p q (x ∷ xs) h =
    filter_cases
    p
    (q x)
    x
    (filter q xs)
    (and_parts (p x) (list_all p xs) h).0
    (list_all-filter p q xs (and_parts (p x) (list_all p xs) h).1)

module _ {X : Type 0} (name_of : X → List ℕ) where
  pub with_new_all : (p : X → Bool) (earlier xs : List X)
      → list_all p earlier ≡ true
      → list_all p (new_behind name_of earlier xs) ≡ true
      → list_all p (with_new name_of earlier xs) ≡ true
  with_new_all p earlier xs h e =
      list_all-append p earlier (new_behind name_of earlier xs)
      ∙ and_from (list_all p earlier) (list_all p (new_behind name_of earlier xs)) h e

  fold_all : (p : X → Bool) (list_of : Wide → List X) (earlier : List X) (wides : List Wide)
      → list_all p earlier ≡ true
      → list_all (λ wide. list_all p (list_of wide)) wides ≡ true
      → list_all p (fold (λ joined wide. with_new name_of joined (list_of wide)) earlier wides) ≡ true
  fold_all p list_of earlier [] h e = h
  fold_all p list_of earlier (wide ∷ wides) h e =
      fold_all
      p
      list_of
      (with_new name_of earlier (list_of wide))
      wides
      (with_new_all
      p
      earlier
      (list_of wide)
      h
      (list_all-filter
      p
      (λ member. not (is_among (name_of member) (map name_of earlier)))
      (list_of wide)
      (and_parts (list_all p (list_of wide)) (list_all (λ wide. list_all p (list_of wide)) wides) e).0))
      (and_parts (list_all p (list_of wide)) (list_all (λ wide. list_all p (list_of wide)) wides) e).1

-- ---- parts of a well formed file

record IsFormed (wide : Wide) : Type 0 where
  constants : list_all is_name wide.constants ≡ true
  files : list_all is_filled wide.files ≡ true
  units : list_all is_well_formed_unit wide.units ≡ true
  types : list_all is_well_formed_type wide.types ≡ true
  messages : list_all is_well_formed_wide_message wide.messages ≡ true
  agents : list_all is_well_formed_wide_agent wide.agents ≡ true

formed : (wide : Wide) → is_well_formed_wide wide ≡ true → IsFormed wide
formed wide h =
    let g = list_all is_filled wide.nested in
    let f = list_all is_well_formed_wide_agent wide.agents && g in
    let e = list_all is_well_formed_wide_message wide.messages && f in
    let d = list_all is_well_formed_type wide.types && e in
    let c = list_all is_well_formed_unit wide.units && d in
    let b = list_all is_filled wide.files && c in
    let hb = (and_parts (list_all is_name wide.constants) b h).1 in
    let hc = (and_parts (list_all is_filled wide.files) c hb).1 in
    let hd = (and_parts (list_all is_well_formed_unit wide.units) d hc).1 in
    let he = (and_parts (list_all is_well_formed_type wide.types) e hd).1 in
    let hf = (and_parts (list_all is_well_formed_wide_message wide.messages) f he).1 in
    record {
      constants = (and_parts (list_all is_name wide.constants) b h).0;
      files = (and_parts (list_all is_filled wide.files) c hb).0;
      units = (and_parts (list_all is_well_formed_unit wide.units) d hc).0;
      types = (and_parts (list_all is_well_formed_type wide.types) e hd).0;
      messages = (and_parts (list_all is_well_formed_wide_message wide.messages) f he).0;
      agents = (and_parts (list_all is_well_formed_wide_agent wide.agents) g hf).0;
    }

-- ---- variables without a fault

-- what is flat alike before and behind
abbrev Same : List DataType → List DataType → Type 0
Same known all = (v : WideVariable) → is_known known v.kind ≡ true → flat_variables all (v ∷ []) ≡ flat_variables known (v ∷ [])

variable_formed : (file : List ℕ) (known all : List DataType) (v : WideVariable)
    → Same known all
    → list_all has_shape known ≡ true
    → is_shaped v ≡ true
    → variable_faults file (meant_by known) v ≡ []
    → list_all is_well_formed_variable (flat_variables all (v ∷ [])) ≡ true
variable_formed file known all v same shapes shaped none =
    let typed = is_among v.kind (type_names known) in
    let wide = is_wide (flat_variables known (v ∷ [])) in
    let long = has_long (flat_variables known (v ∷ [])) in
    let first = append-is_nil (nest_where (not (is_known known v.kind)) UnknownType file v.name) _ none in
    let second = append-is_nil (nest_where (typed && is_some v.length) TypedArray file v.name) _ first.1 in
    let third = append-is_nil (nest_where (typed && wide) TooWide file v.name) _ second.1 in
    let known_kind = not-false (is_known known v.kind) (none-false (not (is_known known v.kind)) UnknownType file v.name first.0) in
    ap (list_all is_well_formed_variable) (same v known_kind)
    ∙ flat_formed known (v ∷ []) shapes (ap (λ b. b && true) shaped) (none-false long LongName file v.name third.1)

variables_formed : (file : List ℕ) (known all : List DataType) (variables : List WideVariable)
    → Same known all
    → list_all has_shape known ≡ true
    → list_all is_shaped variables ≡ true
    → variables_faults file (meant_by known) variables ≡ []
    → list_all is_well_formed_variable (flat_variables all variables) ≡ true
variables_formed file known all [] same shapes shaped none =
    ap (list_all is_well_formed_variable) (flat_variables-nil all)
variables_formed file known all (v ∷ variables) same shapes shaped none =
    let parts = append-is_nil (variable_faults file (meant_by known) v) (variables_faults file (meant_by known) variables) none in
    ap (list_all is_well_formed_variable) (flat_variables-append all (v ∷ []) variables)
    ∙ list_all-append is_well_formed_variable (flat_variables all (v ∷ [])) (flat_variables all variables)
    ∙ and_from
    (list_all is_well_formed_variable (flat_variables all (v ∷ [])))
    (list_all is_well_formed_variable (flat_variables all variables))
    (variable_formed file known all v same shapes (and_parts (is_shaped v) (list_all is_shaped variables) shaped).0 parts.0)
    (variables_formed
    file
    known
    all
    variables
    same
    shapes
    (and_parts (is_shaped v) (list_all is_shaped variables) shaped).1
    parts.1)

-- ---- agents and messages of a file

agent_formed : (file : List ℕ) (known all : List DataType) (agent : WideAgent)
    → Same known all
    → list_all has_shape known ≡ true
    → is_well_formed_wide_agent agent ≡ true
    → variables_faults file (meant_by known) agent.memory ≡ []
    → is_well_formed_agent (flat_agent all agent) ≡ true
agent_formed file known all agent same shapes h none =
    let memory = list_all is_well_formed_wide_variable agent.memory in
    let functions = list_all is_well_formed_function agent.functions in
    let rest = (and_parts (is_name agent.name) (memory && functions) h).1 in
    and_from
    (is_name agent.name)
    (list_all is_well_formed_variable (flat_variables all agent.memory) && functions)
    (and_parts (is_name agent.name) (memory && functions) h).0
    (and_from
    (list_all is_well_formed_variable (flat_variables all agent.memory))
    functions
    (variables_formed file known all agent.memory same shapes (variables_shaped agent.memory (and_parts memory functions rest).0) none)
    (and_parts memory functions rest).1)

agents_formed : (file : List ℕ) (known all : List DataType) (agents : List WideAgent)
    → Same known all
    → list_all has_shape known ≡ true
    → list_all is_well_formed_wide_agent agents ≡ true
    → agents_faults file (meant_by known) agents ≡ []
    → list_all (λ agent. is_well_formed_agent (flat_agent all agent)) agents ≡ true
agents_formed file known all [] same shapes h none = refl
agents_formed file known all (a ∷ agents) same shapes h none =
    let parts = append-is_nil (variables_faults file (meant_by known) a.memory) (agents_faults file (meant_by known) agents) none in
    and_from
    (is_well_formed_agent (flat_agent all a))
    (list_all (λ agent. is_well_formed_agent (flat_agent all agent)) agents)
    (agent_formed
    file
    known
    all
    a
    same
    shapes
    (and_parts (is_well_formed_wide_agent a) (list_all is_well_formed_wide_agent agents) h).0
    parts.0)
    (agents_formed
    file
    known
    all
    agents
    same
    shapes
    (and_parts (is_well_formed_wide_agent a) (list_all is_well_formed_wide_agent agents) h).1
    parts.1)

message_formed : (file : List ℕ) (known all : List DataType) (message : WideMessage)
    → Same known all
    → list_all has_shape known ≡ true
    → is_well_formed_wide_message message ≡ true
    → variables_faults file (meant_by known) message.variables ≡ []
    → is_well_formed_message (flat_message all message) ≡ true
message_formed file known all message same shapes h none =
    let variables = list_all is_well_formed_wide_variable message.variables in
    and_from
    (is_name message.name)
    (list_all is_well_formed_variable (flat_variables all message.variables))
    (and_parts (is_name message.name) variables h).0
    (variables_formed
    file
    known
    all
    message.variables
    same
    shapes
    (variables_shaped message.variables (and_parts (is_name message.name) variables h).1)
    none)

message_cases : (b : Bool) (all : List DataType) (message : WideMessage) (rest : List WideMessage)
    → (b ≡ false → is_well_formed_message (flat_message all message) ≡ true)
    → list_all (λ message. is_well_formed_message (flat_message all message)) rest ≡ true
    → list_all (λ message. is_well_formed_message (flat_message all message)) (cond (not b) (message ∷ rest) rest) ≡ true
message_cases true all message rest h e = e
message_cases false all message rest h e =
    and_from
    (is_well_formed_message (flat_message all message))
    (list_all (λ message. is_well_formed_message (flat_message all message)) rest)
    (h refl)
    e

messages_formed : (file : List ℕ) (given : Given) (known all : List DataType) (kept messages : List WideMessage)
    → ((name : List ℕ) → is_among name (map (λ message. message.name) kept) ≡ given.has name)
    → Same known all
    → list_all has_shape known ≡ true
    → list_all is_well_formed_wide_message messages ≡ true
    → messages_faults file given (meant_by known) messages ≡ []
    → list_all
    (λ message. is_well_formed_message (flat_message all message))
    (new_behind (λ message. message.name) kept messages)
    ≡ true
messages_formed file given known all kept [] names same shapes h none = refl
messages_formed file given known all kept (m ∷ messages) names same shapes h none =
    let parts =
    append-is_nil
    (message_faults file given (meant_by known) m)
    (messages_faults file given (meant_by known) messages)
    none in
    let behind = append-is_nil (nest_where (given.differs (of_message m)) Differs file m.name) _ parts.0 in
    message_cases
    (is_among m.name (map (λ message. message.name) kept))
    all
    m
    (new_behind (λ message. message.name) kept messages)
    (λ new.
    message_formed
    file
    known
    all
    m
    same
    shapes
    (and_parts (is_well_formed_wide_message m) (list_all is_well_formed_wide_message messages) h).0
    (ap (λ b. cond b [] (variables_faults file (meant_by known) m.variables)) (sym new ∙ names m.name) ∙ behind.1))
    (messages_formed
    file
    given
    known
    all
    kept
    messages
    names
    same
    shapes
    (and_parts (is_well_formed_wide_message m) (list_all is_well_formed_wide_message messages) h).1
    parts.1)

-- ---- data types of a file

type_named : (file : List ℕ) (given : Given) (here : List (List ℕ)) (known : List DataType) (type : DataType)
    → type_faults file given here (meant_by known) type ≡ [] → not (is_int type.name) ≡ true
type_named file given here known type h =
    let behind = append-is_nil (nest_where (given.differs (of_type type)) Differs file type.name) _ h in
    let twice = append-is_nil (nest_where (is_int type.name || is_among type.name here) TwiceType file type.name) _ behind.1 in
    ap
    not
    ((or_parts (is_int type.name) (is_among type.name here) (none-false (is_int type.name || is_among type.name here) TwiceType file type.name twice.0)).0)

each_named : (f : ℕ → DataType → List NestFault) (i : ℕ) (types : List DataType)
    → ((i : ℕ) (type : DataType) → f i type ≡ [] → not (is_int type.name) ≡ true)
    → each_from f i types ≡ []
    → are_named types ≡ true
each_named f i [] named h = refl
each_named f i (type ∷ types) named h =
    let parts = append-is_nil (f i type) (each_from f (i + 1) types) h in
    and_from
    (not (is_int type.name))
    (are_named types)
    (named i type parts.0)
    (each_named f (i + 1) types named parts.1)

types_named : (file : List ℕ) (given : Given) (known types : List DataType)
    → types_faults file given known types ≡ [] → are_named types ≡ true
types_named file given known types h =
    each_named
    (λ i type.
    type_faults
    file
    given
    (type_names (take i types))
    (meant_by (with_new (λ type. type.name) known (take i types)))
    type)
    0
    types
    (λ i type.
    type_named
    file
    given
    (type_names (take i types))
    (with_new (λ type. type.name) known (take i types))
    type)
    h

-- ---- files

-- files behind these earlier ones, each without a fault
abbrev pub Walked : List Wide → List Wide → Type 0
Walked earlier [] = Unit {0}
Walked earlier (wide ∷ rest) =
    ((file : List ℕ) × (file_faults file earlier wide ≡ [])) × Walked (earlier ++ wide ∷ []) rest

pub walked_from : (files : List (List ℕ)) (all : List Wide) (i : ℕ) (earlier rest : List Wide)
    → i ≡ length earlier
    → all ≡ earlier ++ rest
    → each_from (λ i wide. file_faults (unwrap_or (slice_get files i) []) (take i all) wide) i rest ≡ []
    → Walked earlier rest
walked_from files all i earlier [] n e h = tt
walked_from files all i earlier (wide ∷ rest) n e h =
    let name = unwrap_or (slice_get files i) [] in
    let parts = append-is_nil (file_faults name (take i all) wide) _ h in
    let taken : take i all ≡ earlier =
    ap (take i) e ∙ ap (λ k. take k (earlier ++ wide ∷ rest)) n ∙ take-append_seam earlier (wide ∷ rest) in (
      (name, ap (λ l. file_faults name l wide) (sym taken) ∙ parts.0),
      walked_from
          files
          all
          (i + 1)
          (earlier ++ wide ∷ [])
          rest
          (ap (λ k. k + 1) n ∙ sym (length-append earlier (wide ∷ [])))
          (e ∙ sym (append_assoc earlier (wide ∷ []) rest))
          parts.1,
    )

walked_named : (earlier rest : List Wide)
    → Walked earlier rest → list_all (λ wide. are_named wide.types) rest ≡ true
walked_named earlier [] walked = refl
walked_named earlier (wide ∷ rest) walked =
    let file = walked.0.0 in
    let given = given_by (types_given earlier) in
    let parts = append-is_nil (types_faults file given (joined_types earlier) wide.types) _ walked.0.1 in
    and_from
    (are_named wide.types)
    (list_all (λ wide. are_named wide.types) rest)
    (types_named file given (joined_types earlier) wide.types parts.0)
    (walked_named (earlier ++ wide ∷ []) rest walked.1)

-- the messages of some files more
abbrev messages_with : List WideMessage → List Wide → List WideMessage
messages_with kept wides = fold (λ joined wide. with_new (λ message. message.name) joined wide.messages) kept wides

-- the flat messages are well formed
abbrev are_messages : List DataType → List WideMessage → Bool
are_messages all messages = list_all (λ message. is_well_formed_message (flat_message all message)) messages

-- the flat agents are well formed
abbrev are_agents : List DataType → List WideAgent → Bool
are_agents all agents = list_all (λ agent. is_well_formed_agent (flat_agent all agent)) agents

walked_all : (all : List DataType) (earlier rest : List Wide)
    → Walked earlier rest
    → all ≡ types_with (joined_types earlier) rest
    → list_all has_shape (joined_types earlier) ≡ true
    → list_all is_well_formed_wide rest ≡ true
    → are_messages all (joined_messages earlier) ≡ true
    → (list_all (λ wide. are_agents all wide.agents) rest ≡ true)
    × (are_messages all (messages_with (joined_messages earlier) rest) ≡ true)
walked_all all earlier [] walked e shapes h kept = (refl, kept)
walked_all all earlier (wide ∷ rest) walked e shapes h kept =
    let file = walked.0.0 in
    let now = formed wide (and_parts (is_well_formed_wide wide) (list_all is_well_formed_wide rest) h).0 in
    let known = joined_types (earlier ++ wide ∷ []) in
    let given = given_by (messages_given earlier) in
    let pushed = joined_once-push (λ type. type.name) (λ wide. wide.types) earlier wide in
    let joined = joined_once-push (λ message. message.name) (λ wide. wide.messages) earlier wide in
    let parts =
    append-is_nil
    (types_faults file (given_by (types_given earlier)) (joined_types earlier) wide.types)
    (messages_faults file given (meant_by known) wide.messages ++ agents_faults file (meant_by known) wide.agents)
    walked.0.1 in
    let others =
    append-is_nil
    (messages_faults file given (meant_by known) wide.messages)
    (agents_faults file (meant_by known) wide.agents)
    parts.1 in
    let behind : all ≡ types_with known rest = e ∙ ap (λ t. types_with t rest) (sym pushed) in
    let same : Same known all =
    λ v known_kind.
    ap (λ t. flat_variables t (v ∷ [])) behind
    ∙ later_same known rest v known_kind (walked_named (earlier ++ wide ∷ []) rest walked.1) in
    let fields : list_all has_shape known ≡ true =
    ap (list_all has_shape) pushed
    ∙ fold_all
    (λ type. type.name)
    has_shape
    (λ wide. wide.types)
    (joined_types earlier)
    (wide ∷ [])
    shapes
    (ap (λ b. b && true) (types_shaped wide.types now.types)) in
    let messages : are_messages all (joined_messages (earlier ++ wide ∷ [])) ≡ true =
    ap (are_messages all) joined
    ∙ with_new_all
    (λ message. message.name)
    (λ message. is_well_formed_message (flat_message all message))
    (joined_messages earlier)
    wide.messages
    kept
    (messages_formed
    file
    given
    known
    all
    (joined_messages earlier)
    wide.messages
    (λ name. messages-known earlier given name refl)
    same
    fields
    now.messages
    others.0) in
    let next =
    walked_all
    all
    (earlier ++ wide ∷ [])
    rest
    walked.1
    behind
    fields
    (and_parts (is_well_formed_wide wide) (list_all is_well_formed_wide rest) h).1
    messages in (
      and_from
          (are_agents all wide.agents)
          (list_all (λ wide. are_agents all wide.agents) rest)
          (agents_formed file known all wide.agents same fields now.agents others.1)
          next.0,
      ap (λ l. are_messages all (messages_with l rest)) (sym joined) ∙ next.1,
    )

-- ---- the model

pub model_formed : (files : List (List ℕ)) (wides : List Wide)
    → IsTrue (list_all is_well_formed_wide wides)
    → nest_faults files wides ≡ []
    → IsTrue (is_well_formed (flat wides))
model_formed files wides h none =
    let all = joined_types wides in
    let both = walked_all all [] wides (walked_from files wides 0 [] wides refl refl none) refl refl h refl in
    let each : (p : Wide → Bool) → ((wide : Wide) → IsFormed wide → p wide ≡ true) → list_all p wides ≡ true =
    λ p weaker. list_all-weaker is_well_formed_wide p (λ wide f. weaker wide (formed wide f)) wides h in
    let constants =
    list_all-flat_map
    is_name
    (λ wide. wide.constants)
    wides
    (each (λ wide. list_all is_name wide.constants) (λ wide f. f.constants)) in
    let names =
    fold_all
    (λ name. name)
    is_filled
    (λ wide. wide.files)
    []
    wides
    refl
    (each (λ wide. list_all is_filled wide.files) (λ wide f. f.files)) in
    let units =
    list_all-flat_map
    is_well_formed_unit
    (λ wide. wide.units)
    wides
    (each (λ wide. list_all is_well_formed_unit wide.units) (λ wide f. f.units)) in
    let messages = list_all-map is_well_formed_message (flat_message all) (joined_messages wides) ∙ both.1 in
    let agents =
    list_all-map is_well_formed_agent (flat_agent all) (flat_map (λ wide. wide.agents) wides)
    ∙ list_all-flat_map
    (λ agent. is_well_formed_agent (flat_agent all agent))
    (λ wide. wide.agents)
    wides
    both.0 in
    and_from _ _ constants (and_from _ _ names (and_from _ _ units (and_from _ _ messages agents)))
