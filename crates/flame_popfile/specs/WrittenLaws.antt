-- What was written reads back, in each version. [own]
use Rattle.std.specs.Prelude.{◌≡◌, ℕ, ℤ, pos, int_le, ◌+ℤ◌, List, [], true, if◌then◌else◌, Option, Some, None}
use Rattle.std.specs.Str.{is_utf8}
use Rattle.serde_json.specs.Data.{Data}
use Rattle.serde_json.specs.Read.{read as read_text}
use Rattle.flame_spec.specs.declared.models.Model.{Model}
use Rattle.flame_spec.specs.declared.outcomes.Source.{Source}
use Rattle.flame_spec.specs.Accepted.{IsAccepted}
use Rattle.flame_world.specs.declared.worlds.World.{World}
use Rattle.flame_world.specs.declared.worlds.Boards.{Boards}
use Rattle.flame_world.specs.WorldLaws.{IsWorldOf, AreBoardsOf}
use Rattle.flame_popfile.specs.declared.formats.Format.{Format}
use Rattle.flame_popfile.specs.PopulationParts.{is_itno}
use Rattle.flame_popfile.specs.PopulationFaults.{population_faults}
use Rattle.flame_popfile.specs.PopulationStarts.{start_of}
use Rattle.flame_popfile.specs.IterationTexts.{text}

-- the value that the bytes of a file are, where serde_json reads them [JSON]
abbrev pub value_in : List ℕ → Option Data
value_in bytes = if is_utf8 bytes then read_text bytes else None

-- the value is a population of the model that holds this number and this world, whatever number of iterations is to
-- follow that the last number of an iteration allows [own]
abbrev pub Holds : Model → ℤ → World → Data → Type 0
Holds model itno world value =
    (turns : ℕ)
    → int_le (itno +ℤ pos turns) (pos 2147483647) ≡ true
    → (population_faults model turns value ≡ []) × (start_of model value ≡ record { itno = itno; world = world })

-- the bytes are a value that holds this number and this world [own]
pub record ReadBack (model : Model) (itno : ℤ) (world : World) (bytes : List ℕ) : Type 0 where
  pub value : Data
  pub is_read : value_in bytes ≡ Some value
  pub holds : Holds model itno world value

-- where the source is accepted, the text of an iteration whose number is from 0 to 2147483647, of a world and of boards
-- of the model, reads back in each version: it is a value, and that value holds the number and the world [own]
abbrev pub WrittenReadsBack : Type 0
WrittenReadsBack =
    (source : Source) (format : Format) (itno : ℤ) (world : World) (boards : Boards)
    → IsAccepted source
    → is_itno itno ≡ true
    → IsWorldOf source.model world
    → AreBoardsOf source.model boards
    → ReadBack source.model itno world (text source.model format itno world boards)
