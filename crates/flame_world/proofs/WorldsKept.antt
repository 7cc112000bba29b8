-- A world of a model stays one.
use Rattle.std.proofs.Common.{ℕ, ◌+◌, List, [], ◌∷◌, map, Option, Some, None, Ok, Err, Result}
use Rattle.std.specs.Prelude.{ℤ, slice_get, slice_index_or}
use Rattle.std.specs.List.{filter, AllZip, zip, flat_map}
use Rattle.flame_rows.specs.Order.{row_order}
use Rattle.flame_rows.specs.Sorted.{IsAscending}
use Rattle.flame_rows.specs.Bags.{merge}
use Rattle.flame_rows.proofs.BagLaws.{IsAscending-merge}
use Rattle.flame_spec.specs.declared.models.Model.{Model}
use Rattle.flame_spec.specs.declared.models.AgentType.{AgentType}
use Rattle.flame_spec.specs.declared.models.MessageType.{MessageType}
use Rattle.flame_spec.specs.declared.models.Input.{Input}
use Rattle.flame_spec.specs.declared.outcomes.Sent.{Sent}
use Rattle.flame_spec.specs.declared.outcomes.Born.{Born}
use Rattle.flame_spec.specs.declared.outcomes.Outcome.{Outcome}
use Rattle.flame_spec.specs.declared.outcomes.Outcome.TheVariants.{Ended, Faulted}
use Rattle.flame_spec.specs.Columns.{width}
use Rattle.flame_spec.specs.Definitions.{definitions}
use Rattle.flame_spec.specs.Functions.{Place, functions}
use Rattle.flame_spec.specs.Views.{is_read}
use Rattle.flame_meaning.specs.Outcomes.{readings_of, readings_at, reading_of, reading_by, place_of, message_named}
use Rattle.flame_meaning.specs.RangeLaws.{IsInt, AreInts, AllWriteInts, Each, OutcomeIsInts}
use Rattle.flame_meaning.proofs.RangesKept.{outcomes_are_ints}
use Rattle.flame_world.specs.declared.faults.SimFault.{SimFault}
use Rattle.flame_world.specs.declared.worlds.World.{World}
use Rattle.flame_world.specs.declared.worlds.Boards.{Boards}
use Rattle.flame_world.specs.Fields.{Field, joined_from, gathered}
use Rattle.flame_world.specs.Iterations.{Round, outcome_in, step_at, step, round_of}
use Rattle.flame_world.specs.WorldLaws.{IsRowOf, IsBagOf, IsWorldOf, AreBoardsOf, WorldsStayWorlds}
use Rattle.flame_world.proofs.Eachs.{mapped, each_also, each_both, if_both, zip_each, zip_both, zip_also}
use Rattle.flame_world.proofs.RowsKept.{BagsFor, HasRows, RowsAreLeft, IsSentOf, IsBornOf, LeavesRows, IfOk, unless_kept, opening_rows, step_rows, gathered_rows, iteration_kept}
use Rattle.flame_world.proofs.WidthsKept.{IsWide, leaves_wide}
use Rattle.flame_meaning.proofs.Eachs.{each_filter, each_sorted, each_index}

-- ---- what is read

reading_ints : (found : Option (ℕ × MessageType)) (type : AgentType) (memory : List ℤ) (boards : List (List (List ℤ))) (input : Input)
    → Each (Each AreInts) boards → Each AreInts (reading_by found type memory boards input)
reading_ints None type memory boards input ints = tt
reading_ints (Some found) type memory boards input ints =
    let board = slice_index_or boards found.0 [] in
    let passes = is_read type found.1 input.filter memory in
    each_sorted AreInts _ (filter passes board)
    (each_filter AreInts passes board (each_index (Each AreInts) [] boards found.0 tt ints))

readings_ints : (place : Option Place) (model : Model) (memory : List ℤ) (boards : List (List (List ℤ)))
    → Each (Each AreInts) boards → Each (Each AreInts) (readings_at place model memory boards)
readings_ints None model memory boards ints = tt
readings_ints (Some place) model memory boards ints =
    mapped (Each AreInts) (reading_of model place.type memory boards)
    (λ input. reading_ints (message_named model.messages input.message) place.type memory boards input ints)
    place.function.inputs

board_ints : (model : Model) (field : Field) → HasRows IsRowOf model field → Each (Each AreInts) field.boards
board_ints model field is =
    zip_each (λ (message : MessageType) bag. Each (IsRowOf (width message.variables)) bag) (Each AreInts)
    (λ message bag rows. each_also (IsRowOf (width message.variables)) AreInts (λ row is_row. is_row.1) bag rows)
    model.messages field.boards is.boards

-- ---- what one agent leaves

-- what is given with a round
record IsRound (round : Round) : Type 0 where
  written : AllWriteInts (definitions round.source.units)
  constants : AreInts round.constants
  iteration : IsInt round.iteration

wide_ints : (model : Model) (wide : ℕ) (o : Outcome) → LeavesRows IsWide model wide o → OutcomeIsInts o → LeavesRows IsRowOf model wide o
wide_ints model wide (Ended effect) widths ints = (
  if_both (IsWide wide) AreInts effect.memory widths.0 ints.0,
  each_both (IsSentOf IsWide model) (λ (s : Sent). AreInts s.row) (IsSentOf IsRowOf model)
      (λ s is row message at. (is message at, row)) effect.sent widths.1 ints.1,
  each_both (IsBornOf IsWide model) (λ (b : Born). AreInts b.row) (IsBornOf IsRowOf model)
      (λ b is row type at. (is type at, row)) effect.born widths.2 ints.2,
)
wide_ints model wide (Faulted fault) widths ints = tt

ints_left : (round : Round) → IsRound round → RowsAreLeft IsRowOf round
ints_left round given = record {
  left = λ function field memory wide is row.
      wide_ints round.source.model wide (outcome_in round function field memory)
      (leaves_wide round function field memory wide row.0)
      (outcomes_are_ints round.source function memory (readings_of round.source function memory field.boards)
      round.constants round.iteration round.fuel given.written row.1
      (readings_ints (place_of round.source function) round.source.model memory field.boards
      (board_ints round.source.model field is))
      given.constants given.iteration);
}

-- ---- bags

abbrev AreBags : List (List (List ℤ)) → Type 0
AreBags bags = Each (IsAscending row_order) bags

joined_bags : (rows : ℕ → List (List ℤ)) (i : ℕ) (bags : List (List (List ℤ))) → AreBags (joined_from i rows bags)
joined_bags rows i [] = tt
joined_bags rows i (bag ∷ bags) = (IsAscending-merge bag (rows i), joined_bags rows (i + 1) bags)

step_at_bags : (round : Round) (function : ℕ) (field : Field) (found : Option Place)
    → AreBags field.boards → IfOk (λ after. AreBags after.boards) (step_at found round function field)
step_at_bags round function field None bags = bags
step_at_bags round function field (Some place) bags =
    unless_kept (λ after. AreBags after.boards) _ _ (joined_bags _ 0 field.boards)

gathered_bags : (field : Field) → AreBags (gathered field)
gathered_bags field =
    mapped (IsAscending row_order) (λ (own, more). merge (flat_map (λ pool. pool) own) more)
    (λ both. IsAscending-merge (flat_map (λ pool. pool) both.0) both.1) (zip field.pools field.born)

empty_bags : {X : Type 0} (xs : List X) → AreBags (map (λ x. []) xs)
empty_bags xs = mapped (IsAscending row_order) (λ x. []) (λ x. tt) xs

bags_of : {X : Type 0} (wide : X → ℕ) (xs : List X) (bags : List (List (List ℤ)))
    → AreBags bags → BagsFor IsRowOf wide xs bags → AllZip (λ x bag. IsBagOf (wide x) bag) xs bags
bags_of wide xs bags all rows =
    zip_both (IsAscending row_order) (λ x bag. Each (IsRowOf (wide x)) bag) xs bags all rows

rows_of : {X : Type 0} (wide : X → ℕ) (xs : List X) (bags : List (List (List ℤ)))
    → AllZip (λ x bag. IsBagOf (wide x) bag) xs bags → BagsFor IsRowOf wide xs bags
rows_of wide xs bags all =
    zip_also (λ x bag. IsBagOf (wide x) bag) (λ x bag. Each (IsRowOf (wide x)) bag) (λ x bag is. is.1) xs bags all

-- ---- worlds

-- what holds throughout
record IsFieldOf (model : Model) (field : Field) : Type 0 where
  rows : HasRows IsRowOf model field
  bags : AreBags field.boards

both_ok : (model : Model) (r : Result Field SimFault)
    → IfOk (HasRows IsRowOf model) r → IfOk (λ after. AreBags after.boards) r → IfOk (IsFieldOf model) r
both_ok model (Ok field) rows bags = record { rows = rows; bags = bags }
both_ok model (Err fault) rows bags = tt

pub worlds_stay_worlds : WorldsStayWorlds
worlds_stay_worlds source world after number fuel boards written number_int is done =
    let model = source.model in
    let round = round_of source world number fuel in
    let wide = λ (t : AgentType). width t.memory in
    let given : IsRound round = record { written = written; constants = is.ints; iteration = number_int } in
    iteration_kept (IsFieldOf model) (λ (w : World) (b : Boards). IsWorldOf model w × AreBoardsOf model b)
    source world after number fuel boards
    (record { rows = opening_rows IsRowOf model world.agents (rows_of wide model.agents world.agents is.agents); bags = empty_bags model.messages })
    (λ function field here.
    both_ok model (step round function field)
    (step_rows IsRowOf round function field (ints_left round given) here.rows)
    (step_at_bags round function field (slice_get (functions model) function) here.bags))
    (λ field here. (
      record {
        count = is.count;
        ints = is.ints;
        agents = bags_of wide model.agents (gathered field) (gathered_bags field) (gathered_rows IsRowOf model field here.rows);
      },
      bags_of (λ (m : MessageType). width m.variables) model.messages field.boards here.bags here.rows.boards,
    ))
    done
