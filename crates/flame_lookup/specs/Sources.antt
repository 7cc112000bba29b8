-- What tables are made of, and where a body stands.
use Rattle.std.specs.Prelude.{ℕ, List, map, take, reverse, Option}
use Rattle.flame_spec.specs.declared.models.Model.{Model}
use Rattle.flame_spec.specs.declared.trees.Unit as file
use Rattle.flame_spec.specs.Definitions.{Definition, helpers}
use Rattle.flame_spec.specs.Functions.{Place}
use Rattle.flame_spec.specs.Scopes.{Context}

-- a model and its function files [own]
pub record Sources : Type 0 where
  pub model : Model
  pub units : List file.Unit

-- where a body stands: in these sources, for this function of the model or for none, in the file of this number [own]
pub record BodyPlace : Type 0 where
  pub sources : Sources
  pub runs : Option Place
  pub file : ℕ

-- where a body is checked that stands there [own]
abbrev pub context_at : BodyPlace → Context
context_at standing = record {
  model = standing.sources.model;
  helpers = helpers standing.sources.model standing.sources.units;
  runs = standing.runs;
  file = standing.file;
}

-- the names of the first so many C functions, the last of them first [own]
abbrev pub names_before : ℕ → List Definition → List (List ℕ)
names_before number ds = reverse (map (λ d. d.name) (take number ds))
