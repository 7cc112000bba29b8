use Rattle.std.proofs.Common.{List, ◌++◌, ◌∙◌, map, refl, ap, ap₂, ℕ}
use Rattle.std.specs.Prelude.{ℤ}
use Rattle.flame_spec.specs.declared.models.MessageType.{MessageType}
use Rattle.flame_popfile.specs.RowTexts.{bag_texts, bag_text}
use Rattle.std.proofs.lemmas.Slice.Zip.{either_empty_from_Zip}
use Rattle.flame_popfile.proofs.CommaLists.{pairs_more, pairs_all, mapped_ended}
use Rattle.flame_popfile.proofs.boards.push_message_bags.Goals as goal

abbrev text_of : List ℕ × List (List ℤ) → List ℕ
text_of (name, bag) = bag_text name bag

pub loop-message-preserved : goal.loop-message-preserved
loop-message-preserved g c =
    pairs_more text_of _ _ _ c.loop-message.more _ _ _ _ c.in-Some.message.now.name c.in-Some.bag.now
    (ap (map (λ (x : MessageType). x.name)) c.in-Some.ensures.steps.0) c.in-Some.ensures.steps.1 c.in_ok-push_comma.ensures
    (c.in_ok-push_bag.ensures
    ∙ ap₂ (λ name rows. c.push_comma.new.bytes.items ++ bag_text name rows) c.as_str.ensures c.rows.ensures.rows)
    ∙ c.loop-message.invariant

pub returns : goal.returns
returns g c =
    pairs_all (map text_of) c.args.bytes.now.items c.loop-message.bytes.items c.loop-message.more _ _
    (bag_texts (map (λ (x : MessageType). x.name) c.args.messages.now) c.args.bags.now) refl
    (mapped_ended (λ (x : MessageType). x.name) _ _
    (either_empty_from_Zip c.loop-message.message-iterator c.next.new.self _ c.in-None.is c.next.ensures.steps))
    c.loop-message.invariant
