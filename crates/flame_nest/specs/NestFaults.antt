-- The faults of data types and nested files, in the order in which the files are walked.
use Rattle.std.specs.Prelude.{ℕ, nat_eq, nat_lt, List, [], ◌∷◌, ◌++◌, length, map, take, codes, slice_get, unwrap_or, is_some, Bool, not, ◌&&◌, ◌||◌, if◌then◌else◌}
use Rattle.std.specs.List.{flat_map, list_any}
use Rattle.std.specs.Option.{option_eq}
use Rattle.std.specs.Cmp.Lexicographic.{pointwise}
use Rattle.std.specs.Str.{bytes_eq}
use Rattle.flame_spec.specs.declared.models.Variable.{Variable}
use Rattle.flame_spec.specs.declared.wide.Wide.{Wide}
use Rattle.flame_spec.specs.declared.wide.WideVariable.{WideVariable}
use Rattle.flame_spec.specs.declared.wide.DataType.{DataType}
use Rattle.flame_spec.specs.declared.wide.WideMessage.{WideMessage}
use Rattle.flame_spec.specs.declared.wide.WideAgent.{WideAgent}
use Rattle.flame_spec.specs.Lists.{each}
use Rattle.flame_spec.specs.Columns.{width}
use Rattle.flame_spec.specs.KnownNames.{is_among}
use Rattle.flame_nest.specs.declared.faults.NestFault.{NestFault}
use Rattle.flame_nest.specs.declared.faults.NestKind.{NestKind}
use Rattle.flame_nest.specs.declared.faults.NestKind.TheVariants.{Differs, TwiceType, UnknownType, TypedArray, TooWide, LongName}
use Rattle.flame_nest.specs.FlatModels.{with_new, joined_types, flat_variables}

-- the fault of this kind, in this file, of this name [own]
abbrev pub nest_fault : NestKind → List ℕ → List ℕ → NestFault
nest_fault kind file name = record { kind = kind; file = file; name = name }

-- that fault, where the test finds it [own]
abbrev pub nest_where : Bool → NestKind → List ℕ → List ℕ → List NestFault
nest_where test kind file name = if test then nest_fault kind file name ∷ [] else []

-- ---- variables

-- what the data types that stand before mean: which names they have, and the flat form of variables [own]
pub record Meant : Type 0 where
  pub is_type : List ℕ → Bool
  pub flat : List WideVariable → List Variable

-- the names of data types [own]
abbrev pub type_names : List DataType → List (List ℕ)
type_names types = map (λ type. type.name) types

-- what these data types mean [own]
abbrev pub meant_by : List DataType → Meant
meant_by types = record {
  is_type = λ name. is_among name (type_names types);
  flat = flat_variables types;
}

-- the name of the kind of all flat variables [XMML]
abbrev pub is_int : List ℕ → Bool
is_int name = bytes_eq name (codes "int")

-- more than 4,096 columns [own]
abbrev pub is_wide : List Variable → Bool
is_wide variables = nat_lt 4096 (width variables)

-- a name of more than 100 bytes [own]
abbrev pub has_long : List Variable → Bool
has_long variables = list_any (λ variable. nat_lt 100 (length variable.name)) variables

-- the faults of a variable: its kind is `int` or a data type that stands before; one of a data type is no array, and
-- flat it is not too wide; flat, no variable has a long name [own]
abbrev pub variable_faults : List ℕ → Meant → WideVariable → List NestFault
variable_faults file meant variable =
    nest_where (not (is_int variable.kind || meant.is_type variable.kind)) UnknownType file variable.name
    ++ (nest_where (meant.is_type variable.kind && is_some variable.length) TypedArray file variable.name
    ++ (nest_where
    (meant.is_type variable.kind && is_wide (meant.flat (variable ∷ [])))
    TooWide
    file
    variable.name
    ++ nest_where (has_long (meant.flat (variable ∷ []))) LongName file variable.name))

-- the faults of variables, one after another [own]
abbrev pub variables_faults : List ℕ → Meant → List WideVariable → List NestFault
variables_faults file meant variables = flat_map (variable_faults file meant) variables

-- ---- declarations that an earlier file has given

-- the same name, kind and length [own]
abbrev pub is_alike : WideVariable → WideVariable → Bool
is_alike variable other =
    bytes_eq variable.name other.name
    && (bytes_eq variable.kind other.kind
    && option_eq nat_eq variable.length other.length)

-- a message or a data type: its name and its variables [own]
pub record Declaration : Type 0 where
  pub name : List ℕ
  pub variables : List WideVariable

-- of a data type [own]
abbrev pub of_type : DataType → Declaration
of_type type = record { name = type.name; variables = type.variables }

-- of a message [own]
abbrev pub of_message : WideMessage → Declaration
of_message message = record { name = message.name; variables = message.variables }

-- one of these has the name, and other variables [own]
abbrev pub differs : List Declaration → Declaration → Bool
differs earlier declaration =
    list_any
    (λ other.
    bytes_eq declaration.name other.name && not (pointwise is_alike other.variables declaration.variables))
    earlier

-- one of these has the name [own]
abbrev pub is_given : List Declaration → List ℕ → Bool
is_given earlier name = is_among name (map (λ declaration. declaration.name) earlier)

-- what earlier files have given: which names, and which declarations have one of these and other variables [own]
pub record Given : Type 0 where
  pub has : List ℕ → Bool
  pub differs : Declaration → Bool

-- what these declarations have given [own]
abbrev pub given_by : List Declaration → Given
given_by earlier = record { has = is_given earlier; differs = differs earlier }

-- the data types that files give, passed over or not [own]
abbrev pub types_given : List Wide → List Declaration
types_given wides = flat_map (λ wide. map of_type wide.types) wides

-- the messages that files give, passed over or not [own]
abbrev pub messages_given : List Wide → List Declaration
messages_given wides = flat_map (λ wide. map of_message wide.messages) wides

-- ---- data types, messages and agents of a file

-- the faults inside a data type: of its variables, and of its own width [own]
abbrev pub fields_faults : List ℕ → Meant → DataType → List NestFault
fields_faults file meant type =
    variables_faults file meant type.variables
    ++ nest_where (is_wide (meant.flat type.variables)) TooWide file type.name

-- the faults of a data type, where earlier files have given these, and earlier ones of its file have these names: it
-- does not differ, it stands there once and is not named `int`; where it is passed over, nothing else is asked [own]
abbrev pub type_faults : List ℕ → Given → List (List ℕ) → Meant → DataType → List NestFault
type_faults file given here meant type =
    nest_where (given.differs (of_type type)) Differs file type.name
    ++ (nest_where (is_int type.name || is_among type.name here) TwiceType file type.name
    ++ (if given.has type.name then [] else fields_faults file meant type))

-- the faults of the data types of a file, where these are known from earlier files: before one stand these and the
-- earlier ones of its file [own]
abbrev pub types_faults : List ℕ → Given → List DataType → List DataType → List NestFault
types_faults file given known types =
    each
    (λ i type.
    type_faults
    file
    given
    (type_names (take i types))
    (meant_by (with_new (λ type. type.name) known (take i types)))
    type)
    types

-- the faults of a message, where earlier files have given these: it does not differ; where it is passed over, nothing
-- else is asked [own]
abbrev pub message_faults : List ℕ → Given → Meant → WideMessage → List NestFault
message_faults file given meant message =
    nest_where (given.differs (of_message message)) Differs file message.name
    ++ (if given.has message.name then [] else variables_faults file meant message.variables)

-- the faults of messages, one after another [own]
abbrev pub messages_faults : List ℕ → Given → Meant → List WideMessage → List NestFault
messages_faults file given meant messages = flat_map (message_faults file given meant) messages

-- the faults of agent types, one after another: those of their memory [own]
abbrev pub agents_faults : List ℕ → Meant → List WideAgent → List NestFault
agents_faults file meant agents = flat_map (λ agent. variables_faults file meant agent.memory) agents

-- ---- files

-- the faults of a model file of this name behind the earlier ones: of its data types, its messages and its agents;
-- before its messages and its agents stand all data types of the earlier files and of its own [own]
abbrev pub file_faults : List ℕ → List Wide → Wide → List NestFault
file_faults file earlier wide =
    types_faults file (given_by (types_given earlier)) (joined_types earlier) wide.types
    ++ (messages_faults
    file
    (given_by (messages_given earlier))
    (meant_by (joined_types (earlier ++ wide ∷ [])))
    wide.messages
    ++ agents_faults file (meant_by (joined_types (earlier ++ wide ∷ []))) wide.agents)

-- all faults of model files of these names, file by file [own]
abbrev pub nest_faults : List (List ℕ) → List Wide → List NestFault
nest_faults files wides =
    each (λ i wide. file_faults (unwrap_or (slice_get files i) []) (take i wides) wide) wides
