-- An agent more, and the end of the list.
use Rattle.std.proofs.Common.{[], sym, ap, ◌∙◌}
use Rattle.std.specs.Prelude.{replicate}
use Rattle.std.proofs.lemmas.List.{length-map}
use Rattle.json.proofs.Grammar.{closed_array}
use Rattle.flame_rows.specs.RowVectors.{rows_of}
use Rattle.flame_tokens.proofs.DealtRows.{none_begun, more_begun, all_read}
use Rattle.flame_tokens.proofs.agents.agents.Goals as goal

pub loop-turn-init : goal.loop-turn-init
loop-turn-init c =
    none_begun c.args.types.now c.args.reader.now c.begins.new.reader (rows_of c.in_ok-dealt.dealt)
    c.in_ok-begins.ensures
    (c.in_ok-dealt.ensures ∙ ap (λ n. replicate n []) c.count.ensures)

pub add_agent-requires : goal.add_agent-requires
add_agent-requires c = sym (length-map c.loop-turn.dealt.items _) ∙ c.loop-turn.invariant.dealt_are.count

pub loop-turn-preserved : goal.loop-turn-preserved
loop-turn-preserved c =
    more_begun c.args.types.now c.args.reader.now c.loop-turn.reader c.opens.new.reader c.add_agent.new.reader
    (rows_of c.loop-turn.dealt) (rows_of c.add_agent.new.dealt) c.loop-turn.invariant
    (sym c.if-take_end_array.ensures.1 ∙ c.in_ok-opens.ensures)
    c.in_ok-place.ensures

pub returns-then-take_end_array : goal.returns-then-take_end_array
returns-then-take_end_array c =
    all_read c.args.types.now c.args.reader.now c.loop-turn.reader c.take_end_array.new.self (rows_of c.loop-turn.dealt)
    c.loop-turn.invariant
    (closed_array c.loop-turn.reader c.take_end_array.new.self c.if-take_end_array.ensures)
