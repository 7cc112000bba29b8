-- A run goes on from a file that it wrote as it goes on from the iteration itself.
use Rattle.std.specs.Prelude.{◌≡◌, ℕ, ◌+◌, List, [], ◌++◌, Some, None, slice_get}
use Rattle.serde_json.specs.Data.{Data}
use Rattle.flame_outside.specs.WhatIsTold.{files_by, printed_by}
use Rattle.flame_spec.specs.declared.outcomes.Source.{Source}
use Rattle.flame_spec.specs.Accepted.{IsAccepted}
use Rattle.flame_spec.specs.Definitions.{definitions}
use Rattle.flame_meaning.specs.RangeLaws.{AllWriteInts}
use Rattle.flame_world.specs.WorldLaws.{IsWorldOf}
use Rattle.flame_popfile.specs.declared.formats.Format.{Format}
use Rattle.flame_popfile.specs.declared.starts.Start.{Start}
use Rattle.flame_popfile.specs.IterationTexts.{text}
use Rattle.flame_popfile.specs.PopulationFaults.{population_faults}
use Rattle.flame_popfile.specs.PopulationStarts.{start_of}
use Rattle.flame_popfile.specs.StartLaws.{LeavesRoom}
use Rattle.flame_popfile.specs.WrittenLaws.{value_in}
use Rattle.flame_driver.specs.Runs.{Stage, Run, run}
use Rattle.flame_driver.specs.RunScripts.{Writing, acts_of}
use Rattle.flame_driver.specs.IteratedRuns.{and_then}

-- what the whole run writes is what the first run does, and then what the second does: its files, and its lines [own]
pub record WritesBoth (writing : Writing) (whole first second : Run) : Type 0 where
  pub files :
      files_by (acts_of writing whole.stages)
      ≡ files_by (acts_of writing first.stages) ++ files_by (acts_of writing second.stages)
  pub lines :
      printed_by (acts_of writing whole.stages)
      ≡ printed_by (acts_of writing first.stages) ++ printed_by (acts_of writing second.stages)

-- these bytes are a population of the model without a fault, from which so many more iterations may follow; and the run
-- of the first and these goes on behind the first as the run from that population does, however it is written [own]
pub record GoesOnFrom (source : Source) (fuel first more : ℕ) (start : Start) (bytes : List ℕ) : Type 0 where
  pub value : Data
  pub is_read : value_in bytes ≡ Some value
  pub faultless : population_faults source.model more value ≡ []
  pub goes_on :
      run source fuel (first + more) start
      ≡ and_then (run source fuel first start).stages (run source fuel more (start_of source.model value))
  pub written :
      (writing : Writing)
      → WritesBoth writing
      (run source fuel (first + more) start)
      (run source fuel first start)
      (run source fuel more (start_of source.model value))

-- of an accepted source whose function files write numbers of int alone, and from a world of its model, whose number is
-- 0 at least: where the first iterations have no fault, a run of more goes on behind them as it does from the file of
-- the last of them, in whichever version that was written [FLAME User Manual: a run begins from the file of any
-- iteration; the conditions: own]
abbrev pub RunsRestart : Type 0
RunsRestart =
    (source : Source) (fuel place more : ℕ) (start : Start) (last : Stage) (format : Format)
    → IsAccepted source
    → AllWriteInts (definitions source.units)
    → IsWorldOf source.model start.world
    → LeavesRoom (place + 1 + more) start.itno
    → (run source fuel (place + 1) start).fault ≡ None
    → slice_get (run source fuel (place + 1) start).stages place ≡ Some last
    → GoesOnFrom source fuel (place + 1) more start (text source.model format last.itno last.world last.boards)
