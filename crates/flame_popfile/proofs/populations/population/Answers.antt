-- The model is that of the program.
use Rattle.std.proofs.Common.{sym, ap}
use Rattle.std.proofs.lemmas.Result.{IfOk-weaker}
use Rattle.serde_json.specs.View.{view}
use Rattle.flame_spec.specs.declared.outcomes.Source.{Source}
use Rattle.flame_world.specs.WorldFits.{FitsModel}
use Rattle.flame_world.specs.WorldLaws.{IsWorldOf}
use Rattle.flame_popfile.specs.PopulationFaults.{population_faults}
use Rattle.flame_popfile.specs.PopulationStarts.{start_of}
use Rattle.flame_popfile.specs.StartLaws.{LeavesRoom, IsStartOf}
use Rattle.flame_popfile.proofs.Firsts.{reads_none, reads_value, reads_first}
use Rattle.flame_popfile.proofs.FaultlessStarts.{reads_start}
use Rattle.flame_popfile.proofs.populations.population.Goals as goal

pub returns-clause-faultless : goal.returns-clause-faultless
returns-clause-faultless c =
    reads_none _ _ _ c.start_of.result
    (ap (λ (source : Source). population_faults source.model c.args.turns (view c.args.value.now))
    (sym c.source.ensures.same))
    c.start_of.ensures

pub returns-clause-start : goal.returns-clause-start
returns-clause-start c =
    reads_value _ _ _ c.start_of.result
    (ap (λ (source : Source). start_of source.model (view c.args.value.now)) c.source.ensures.same)
    c.start_of.ensures

pub returns-clause-fits : goal.returns-clause-fits
returns-clause-fits c =
    IfOk-weaker c.start_of.result (IsStartOf c.args.program.now.model c.args.turns)
    (λ start. FitsModel c.args.program.now.model start.world) (λ start is. is.fits)
    (reads_start c.args.program.now _ c.args.turns (view c.args.value.now) c.start_of.result c.source.ensures.same
    c.source.ensures.accepted c.start_of.ensures)

pub returns-clause-world : goal.returns-clause-world
returns-clause-world c =
    IfOk-weaker c.start_of.result (IsStartOf c.args.program.now.model c.args.turns)
    (λ start. IsWorldOf c.args.program.now.model start.world) (λ start is. is.world)
    (reads_start c.args.program.now _ c.args.turns (view c.args.value.now) c.start_of.result c.source.ensures.same
    c.source.ensures.accepted c.start_of.ensures)

pub returns-clause-number : goal.returns-clause-number
returns-clause-number c =
    IfOk-weaker c.start_of.result (IsStartOf c.args.program.now.model c.args.turns)
    (λ start. LeavesRoom c.args.turns start.itno) (λ start is. is.number)
    (reads_start c.args.program.now _ c.args.turns (view c.args.value.now) c.start_of.result c.source.ensures.same
    c.source.ensures.accepted c.start_of.ensures)

pub returns-clause-fault : goal.returns-clause-fault
returns-clause-fault c =
    reads_first _ _ _ c.start_of.result
    (ap (λ (source : Source). population_faults source.model c.args.turns (view c.args.value.now))
    (sym c.source.ensures.same))
    c.start_of.ensures
