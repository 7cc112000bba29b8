-- What functions read is as wide as their codes see.
use Rattle.std.proofs.Common.{◌≡◌, ℕ, List, [], map, length, Option, Some, sym, ap, ◌∙◌, subst}
use Rattle.std.specs.Prelude.{ℤ, option_map, slice_get, slice_index_or}
use Rattle.std.specs.List.{AllZip}
use Rattle.std.specs.Str.{bytes_eq}
use Rattle.std.proofs.lemmas.List.{length-map}
use Rattle.std.proofs.lemmas.Option.{slice_get-map, get_or_from_slice_get}
use Rattle.flame_rows.proofs.Lists.{AllZip-at}
use Rattle.flame_spec.specs.declared.models.AgentType.{AgentType}
use Rattle.flame_spec.specs.declared.models.Input.{Input}
use Rattle.flame_spec.specs.declared.models.MessageType.{MessageType}
use Rattle.flame_spec.specs.declared.models.Model.{Model}
use Rattle.flame_spec.specs.declared.outcomes.Widths.{Widths}
use Rattle.flame_spec.specs.Columns.{width}
use Rattle.flame_spec.specs.Functions.{Place, functions}
use Rattle.flame_spec.specs.Views.{is_read, key_of}
use Rattle.flame_body.specs.FunctionBodies.{input_width}
use Rattle.flame_code.specs.InputRows.{HaveWidths}
use Rattle.flame_spec_laws.proofs.Readings.{viewed}
use Rattle.flame_lookup.proofs.Firsts.{slice_get-numbered}
use Rattle.flame_meaning.specs.Outcomes.{reading_by, reading_of, readings_at}
use Rattle.flame_meaning.specs.RangeLaws.{Each}
use Rattle.flame_program.specs.AcceptanceLaws.{ReadsMessage, IsRunnable}
use Rattle.flame_program.specs.InputWidths.{ReadingsFitCodes}
use Rattle.flame_program.proofs.Acceptances.{accepted-are-runnable}
use Rattle.flame_program.proofs.ProgramOutcomes.{code-at}
use Rattle.flame_program.proofs.SourceBodies.{mapped}
use Rattle.flame_program.proofs.Zips.{zip-there}
use Rattle.flame_meaning.proofs.Eachs.{each_at}

abbrev IsWide : ℕ → List ℤ → Type 0
IsWide wide row = length row ≡ wide

module _ (model : Model) (memory : List ℤ) (boards : List (List (List ℤ)))
    (all : AllZip (λ message rows. Each (λ row. length row ≡ width message.variables) rows) model.messages boards) where
  -- the board of a message
  board-wide :
      (n : ℕ) (message : MessageType)
      → slice_get model.messages n ≡ Some message
      → Each (IsWide (width message.variables)) (slice_index_or boards n [])
  board-wide n message at =
      let there = zip-there _ model.messages boards n message all at in
      let rows = AllZip-at _ model.messages boards n message there.0 all at there.1 in
      subst (Each (IsWide (width message.variables))) (sym (get_or_from_slice_get boards n there.0 [] there.1)) rows

  -- what one input gives
  reading-wide :
      (type : AgentType) (form : Input)
      → ReadsMessage model form
      → Each (IsWide (input_width model form)) (reading_of model type memory boards form)
  reading-wide type form reads =
      let found = reads.found in
      let Wide = IsWide (width found.1.variables) in
      let board = slice_index_or boards found.0 [] in
      let at =
      slice_get-numbered (λ (message : MessageType). bytes_eq message.name form.message) model.messages found.0 found.1
      reads.named in
      let rows : Each Wide (reading_by (Some found) type memory boards form) =
      viewed Wide (is_read type found.1 form.filter memory) (option_map (key_of found.1) form.sort) board
      (board-wide found.0 found.1 at) in
      subst (λ wide. Each (IsWide wide) (reading_of model type memory boards form)) (sym reads.wide)
      (subst (λ (o : Option (ℕ × MessageType)). Each Wide (reading_by o type memory boards form)) (sym reads.named) rows)

  -- what the inputs of a function give
  inputs-wide :
      (type : AgentType) (inputs : List Input)
      → ((input : ℕ) (form : Input) → slice_get inputs input ≡ Some form → ReadsMessage model form)
      → HaveWidths (map (input_width model) inputs) (map (reading_of model type memory boards) inputs)
  inputs-wide type inputs reads = record {
    count =
        length-map inputs (reading_of model type memory boards) ∙ sym (length-map inputs (input_width model));
    wide = λ input place rows row there at.
        let m = mapped (reading_of model type memory boards) inputs input rows there in
        let form : Input = m.from in
        let all_wide = subst (Each (IsWide (input_width model form))) (sym m.is) (reading-wide type form (reads input form m.there)) in
        let long : length row ≡ input_width model form = each_at (IsWide (input_width model form)) rows place row all_wide at in
        slice_get-map (input_width model) inputs input ∙ ap (option_map (input_width model)) m.there ∙ ap Some (sym long);
  }

pub readings-fit-codes : ReadingsFitCodes
readings-fit-codes source function code memory boards accepted at all =
    let model = source.model in
    let runs : IsRunnable source = accepted-are-runnable source accepted in
    let c = code-at source function code at in
    let place : Place = c.place in
    let wide =
    inputs-wide model memory boards all place.type place.function.inputs
    (λ input form here. runs.reads function input place form c.there here) in
    let seen : code.widths.inputs ≡ map (input_width model) place.function.inputs =
    ap (λ (w : Widths). w.inputs) (runs.widths function place code c.there at) in
    subst (λ widths. HaveWidths widths (readings_at (slice_get (functions model) function) model memory boards)) (sym seen)
    (subst
    (λ (o : Option Place). HaveWidths (map (input_width model) place.function.inputs) (readings_at o model memory boards))
    (sym c.there) wide)
