use Rattle.flame_spec_laws.proofs.Distinct.{units_path, units_none}
use Rattle.flame_spec_laws.proofs.Measures.{lengths_known}
use Rattle.flame_spec_laws.proofs.Periods.{lengths_multiply}
use Rattle.flame_spec_laws.proofs.name_laws.unit_lengths.Goals as goal

pub returns-clause-known : goal.returns-clause-known
returns-clause-known c =
    λ model none well k d inside. lengths_known units_path model.units (units_none model none) well k d inside

pub returns-clause-product : goal.returns-clause-product
returns-clause-product c = lengths_multiply
