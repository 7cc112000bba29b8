-- An element or a member more, and the end.
use Rattle.std.proofs.Common.{◌≡◌, ◌∷◌, rules, arith}
use Rattle.json.specs.Token.{string, number}
use Rattle.json.specs.Json as json
use Rattle.json.proofs.Grammar.{closed_array}
use Rattle.flame_tokens.proofs.PassedLists.{item_read, items_read, member_read, members_read}
use Rattle.flame_tokens.proofs.passing.+pass.Goals as goal

pub pass-returns-in-String : goal.pass-returns-in-String
pass-returns-in-String t c =
    let text = c.in-String.field-0.now in
    let first : c.args.reader.now ≡ string text ∷ c.next.new.self = search rules in
    record { tree = json.string text; tokens = first; is = record { plain = tt; shallow = omega arith } }

pub pass-returns-in_ok-printed-in-Number : goal.pass-returns-in_ok-printed-in-Number
pass-returns-in_ok-printed-in-Number t c =
    let text = c.in-Number.text.now in
    let read = c.in_ok-printed-in-Number in
    let first : c.args.reader.now ≡ number text ∷ c.next.new.self = search rules in
    record {
      tree = json.number text;
      tokens = first;
      is = record {
        plain = record { number = read.field-0; same = read.ensures.text; int = read.ensures.int };
        shallow = omega arith;
      };
    }

pub pass_items-returns-then-take_end_array : goal.pass_items-returns-then-take_end_array
pass_items-returns-then-take_end_array t c =
    items_read c.args.deep c.args.reader.now c.loop-turn.reader c.take_end_array.new.self c.loop-turn.invariant
    (closed_array c.loop-turn.reader c.take_end_array.new.self c.if-take_end_array.ensures)

pub pass_items-loop-turn-preserved : goal.pass_items-loop-turn-preserved
pass_items-loop-turn-preserved t c =
    item_read c.args.deep c.args.reader.now c.take_end_array.new.self c.pass.new.reader
    (rw c.if-take_end_array.ensures.1 c.loop-turn.invariant)
    c.in_ok-pass.ensures

pub pass_members-returns-in_default : goal.pass_members-returns-in_default
pass_members-returns-in_default t c =
    members_read c.args.deep c.args.reader.now c.loop-turn.reader c.next_member.new.reader c.loop-turn.invariant
    (search rules)

pub pass_members-loop-turn-preserved : goal.pass_members-loop-turn-preserved
pass_members-loop-turn-preserved t c =
    member_read c.args.deep c.args.reader.now c.loop-turn.reader c.next_member.new.reader c.pass.new.reader
    c.in-Some.field-0.now c.loop-turn.invariant
    (search rules)
    c.in_ok-pass.ensures
