-- The tree of a population, as json reads its text.
use Rattle.std.specs.Prelude.{◌≡◌, ℕ, ℤ, pos, int_le, List, [], ◌∷◌, ◌++◌, length, map, replicate, unwrap_or, codes, Bool, true, false, Option, Some, None, IfSome}
use Rattle.std.specs.Str.{is_utf8}
use Rattle.json.specs.Token.{Token, begin_object, end_object}
use Rattle.json.specs.Json.{Json}
use Rattle.json.specs.Lex.{tokens}
use Rattle.json.specs.Tree.{json_tokens}
use Rattle.flame_rows.specs.Bags.{ascending}
use Rattle.flame_ops.specs.Integers.{is_int}
use Rattle.flame_spec.specs.declared.models.Model.{Model}
use Rattle.flame_spec.specs.declared.models.AgentType.{AgentType}
use Rattle.flame_tokens.specs.NumberTrees.{number_tree, row_tree}
use Rattle.flame_tokens.specs.MemberTrees.{object_tree, keyed, AllInts}
use Rattle.flame_tokens.specs.AgentTrees.{AreListed}
use Rattle.flame_tokens.specs.BagTrees.{AreBags}
use Rattle.flame_tokens.specs.PassedTrees.{IsPassed}

-- these constants by their names [own]
abbrev pub constant_trees : List (List ℕ) → List ℤ → List (List ℕ × Json)
constant_trees [] values = []
constant_trees (name ∷ names) [] = []
constant_trees (name ∷ names) (value ∷ values) = (name, number_tree value) ∷ constant_trees names values

-- the number of version 2, or of version 1 [own]
abbrev pub version_number : Bool → ℤ
version_number false = pos 1
version_number true = pos 2

-- the number of the version, where it stands there [own]
abbrev pub version_trees : Option Bool → List (List ℕ × Json)
version_trees None = []
version_trees (Some two) = (codes "version", number_tree (version_number two)) ∷ []

-- it is version 2 [own]
abbrev pub is_two : Option Bool → Bool
is_two version = unwrap_or version false

-- the number of the iteration, where it stands there [own]
abbrev pub itno_trees : Option ℤ → List (List ℕ × Json)
itno_trees None = []
itno_trees (Some itno) = (codes "itno", number_tree itno) ∷ []

-- the constants by their names, or in version 2 their row [own]
abbrev pub environment_tree : Bool → List (List ℕ) → List ℤ → Json
environment_tree false names values = object_tree (constant_trees names values)
environment_tree true names values = row_tree values

-- the environment, where it stands there [own]
abbrev pub environment_trees : Bool → List (List ℕ) → Option (List ℤ) → List (List ℕ × Json)
environment_trees two names None = []
environment_trees two names (Some values) = (codes "environment", environment_tree two names values) ∷ []

-- the boards, where they stand there [own]
abbrev pub boards_trees : Option Json → List (List ℕ × Json)
boards_trees None = []
boards_trees (Some boards) = (codes "boards", boards) ∷ []

-- what stands in the states beside the number of the iteration and the constants: which version it is, where that is named,
-- the agents, and the boards, where they stand there [own]
pub record Contents : Type 0 where
  pub version : Option Bool
  pub agents : Json
  pub boards : Option Json

-- the states [own]
abbrev pub states_trees :
    List (List ℕ) → Contents → Option ℤ → Option (List ℤ) → List (List ℕ × Json)
states_trees names contents itno constants =
    version_trees contents.version
    ++ (itno_trees itno
    ++ (environment_trees (is_two contents.version) names constants
    ++ (codes "agents", contents.agents) ∷ boards_trees contents.boards))

-- the whole [own]
abbrev pub population_tree : List (List ℕ) → Contents → Option ℤ → Option (List ℤ) → Json
population_tree names contents itno constants =
    object_tree ((codes "states", object_tree (states_trees names contents itno constants)) ∷ [])

-- the number of an iteration, within int and not below 0 [own]
pub record IsItno (itno : ℤ) : Type 0 where
  pub int : is_int itno ≡ true
  pub least : int_le (pos 0) itno ≡ true

-- as many values as there are names, with all numbers within int [own]
pub record AreConstants (names : List (List ℕ)) (values : List ℤ) : Type 0 where
  pub count : length values ≡ length names
  pub ints : AllInts values

-- the agents are listed one by one, or in version 2 by the rows of each type, and each type has these [own]
abbrev pub AreAgents : Bool → List AgentType → Json → List (List (List ℤ)) → Type 0
AreAgents false = AreListed
AreAgents true = AreBags

-- agents were read [own]
pub record HasAgents
    (two : Bool) (types : List AgentType) (old new : List Token) (dealt : List (List (List ℤ))) : Type 0 where
  pub tree : Json
  pub tokens : old ≡ json_tokens tree ++ new
  pub are : AreAgents two types tree dealt

-- behind the agents the boards were read, where they stand there, and the brace that closes the states; what stands in them is
-- whole numbers of int, texts, lists and objects, nested no deeper than 5 [own]
pub record HasBoards (old new : List Token) : Type 0 where
  pub boards : Option Json
  pub tokens : old ≡ keyed (boards_trees boards) ++ end_object ∷ new
  pub passed : IfSome boards (IsPassed 5)

-- what stands in the states is of the model, with these agents of each type [own]
pub record AreContents
    (model : Model) (contents : Contents) (itno : Option ℤ) (constants : Option (List ℤ)) (dealt : List (List (List ℤ)))
    : Type 0 where
  pub itno_is : IfSome itno IsItno
  pub constants_are : IfSome constants (AreConstants model.constants)
  pub agents_are : AreAgents (is_two contents.version) model.agents contents.agents dealt
  pub boards_are : IfSome contents.boards (IsPassed 5)

-- the states were read, behind the brace that opens them [own]
pub record AreStates
    (model : Model) (itno : Option ℤ) (constants : Option (List ℤ)) (dealt : List (List (List ℤ)))
    (old new : List Token) : Type 0 where
  pub contents : Contents
  pub tokens :
      begin_object ∷ old ≡ json_tokens (object_tree (states_trees model.constants contents itno constants)) ++ new
  pub are : AreContents model contents itno constants dealt

-- the tokens are those of a population of the model [own]
pub record IsWhole
    (model : Model) (itno : Option ℤ) (constants : Option (List ℤ)) (dealt : List (List (List ℤ))) (all_tokens : List Token)
    : Type 0 where
  pub contents : Contents
  pub is_read : all_tokens ≡ json_tokens (population_tree model.constants contents itno constants)
  pub are : AreContents model contents itno constants dealt

-- the number of the iteration, 0 where none stands there [FLAME User Manual]
abbrev pub number_or : Option ℤ → ℤ
number_or itno = unwrap_or itno (pos 0)

-- the constants, so many zeros where none stand there [FLAME User Manual]
abbrev pub values_or : ℕ → Option (List ℤ) → List ℤ
values_or count constants = unwrap_or constants (replicate count (pos 0))

-- the bytes are a population of the model with this number, these constants and these agents of each type: they are UTF-8,
-- with the tokens of a population from which these are made [own]
pub record IsPopulation
    (model : Model) (itno : ℤ) (constants : List ℤ) (agents : List (List (List ℤ))) (bytes : List ℕ) : Type 0 where
  pub utf8 : is_utf8 bytes ≡ true
  pub itno_read : Option ℤ
  pub constants_read : Option (List ℤ)
  pub dealt : List (List (List ℤ))
  pub itno_same : itno ≡ number_or itno_read
  pub constants_same : constants ≡ values_or (length model.constants) constants_read
  pub agents_same : agents ≡ map ascending dealt
  pub whole : IsWhole model itno_read constants_read dealt (tokens bytes)
