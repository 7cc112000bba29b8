-- What holds of flat models. [own]
use Rattle.std.specs.Prelude.{◌≡◌, ℕ, List, [], ◌∷◌, Bool, IsTrue}
use Rattle.std.specs.List.{flat_map, list_all}
use Rattle.flame_spec.specs.declared.models.Model.{Model}
use Rattle.flame_spec.specs.declared.wide.Wide.{Wide}
use Rattle.flame_spec.specs.declared.wide.WideVariable.{WideVariable}
use Rattle.flame_spec.specs.WellFormed.{is_well_formed}
use Rattle.flame_spec.specs.WideModels.{is_well_formed_wide}
use Rattle.flame_spec.specs.PlainFiles.{as_file}
use Rattle.flame_nest.specs.FlatModels.{flat, spread, joined_types, joined_messages}
use Rattle.flame_nest.specs.NestFaults.{is_int, nest_faults}

-- ---- files whose variables are all `int`

-- all variables are `int`
abbrev pub are_int : List WideVariable → Bool
are_int variables = list_all (λ variable. is_int variable.kind) variables

-- a file without data types, without variables of data types, and without nested files
pub record IsPlain (wide : Wide) : Type 0 where
  pub types : wide.types ≡ []
  pub messages : IsTrue (list_all (λ message. are_int message.variables) wide.messages)
  pub agents : IsTrue (list_all (λ agent. are_int agent.memory) wide.agents)
  pub nested : wide.nested ≡ []

-- ---- the laws

-- a plain file is flat as it stands: its flat model says what it says
abbrev pub PlainIsFlat : Type 0
PlainIsFlat = (wide : Wide) → IsPlain wide → as_file (flat (wide ∷ [])) ≡ wide

-- a plain file that is well formed has no fault
abbrev pub PlainHasNoFaults : Type 0
PlainHasNoFaults =
    (file : List ℕ) (wide : Wide)
    → IsPlain wide
    → IsTrue (is_well_formed_wide wide)
    → nest_faults (file ∷ []) (wide ∷ []) ≡ []

-- each model is flat: as a file it is plain, and it is the flat model of that file
abbrev pub ModelsArePlain : Type 0
ModelsArePlain = (model : Model) → IsPlain (as_file model)

abbrev pub ModelsAreFlat : Type 0
ModelsAreFlat = (model : Model) → flat (as_file model ∷ []) ≡ model

-- flattening twice changes nothing
abbrev pub FlatIsFlat : Type 0
FlatIsFlat = (wides : List Wide) → flat (as_file (flat wides) ∷ []) ≡ flat wides

-- the flat model of well formed files without faults is well formed
abbrev pub FlatIsWellFormed : Type 0
FlatIsWellFormed =
    (files : List (List ℕ)) (wides : List Wide)
    → IsTrue (list_all is_well_formed_wide wides)
    → nest_faults files wides ≡ []
    → IsTrue (is_well_formed (flat wides))

-- in files without faults each variable of a message that is kept is spread to variables of `int`
abbrev pub MessagesAreInt : Type 0
MessagesAreInt =
    (files : List (List ℕ)) (wides : List Wide)
    → nest_faults files wides ≡ []
    → IsTrue
    (list_all (λ message. are_int (spread (joined_types wides) message.variables)) (joined_messages wides))

-- and so is each variable of a memory
abbrev pub MemoriesAreInt : Type 0
MemoriesAreInt =
    (files : List (List ℕ)) (wides : List Wide)
    → nest_faults files wides ≡ []
    → IsTrue
    (list_all
    (λ agent. are_int (spread (joined_types wides) agent.memory))
    (flat_map (λ wide. wide.agents) wides))
