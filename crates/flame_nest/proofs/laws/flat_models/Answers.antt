use Rattle.flame_nest.specs.FlatModels.{flat}
use Rattle.flame_nest.proofs.PlainForms.{model_plain, model_flat}
use Rattle.flame_nest.proofs.laws.flat_models.Goals as goal

pub returns-clause-plain : goal.returns-clause-plain
returns-clause-plain c = model_plain

pub returns-clause-flat : goal.returns-clause-flat
returns-clause-flat c = model_flat

pub returns-clause-twice : goal.returns-clause-twice
returns-clause-twice c = λ wides. model_flat (flat wides)
