-- One list after another joins its output.
use Rattle.std.proofs.Common.{◌<◌, ◌≤◌, ◌+◌, List, length, drop, sym, ap, ◌∙◌, subst, arith, add-one}
use Rattle.std.proofs.lemmas.List.{nil_from_length}
use Rattle.std.specs.Prelude.{slice_set, option_map}
use Rattle.std.specs.List.{AllZip}
use Rattle.std.specs.Vec.Iter.{into_iter_items}
use Rattle.flame_rows.specs.Bags.{merge}
use Rattle.flame_pieces.specs.declared.works.Output.{Output}
use Rattle.flame_pieces.specs.KeptWorks.{part_of, messages_in}
use Rattle.flame_pieces.proofs.Rooms.{Rows, Fits, map_kept, joining, joining_more, fit_behind, none_left, joined_all}
use Rattle.flame_pieces.proofs.works.put_parts.Goals as goal
use Rattle.flame_pieces.proofs.works.put_parts.Goals.{in-Some, in_default}

pub loop-i-preserved : goal.loop-i-preserved
loop-i-preserved c =
    let outputs = c.loop-i.outputs in
    let i = c.loop-i.i in
    let kept = c.loop-i.invariant in
    let rest = into_iter_items c.next.new.self in
    let within : i < length outputs = omega (arith, c.loop-i-test.true, c.loop-i.auto.outputs, c.loop-i.auto.i-end) in
    elim c.match-next.branch [
      | in-Some w ↦ record {
        counted = omega (arith, w.in-Some.ensures.cases.1, ap (length {A = Rows}) w.in-Some.ensures.cases.0, kept.counted);
        messages =
            ap messages_in w.outputs-is
            ∙ map_kept (λ (o : Output). o.message) outputs i w.index-outputs-i.result w.put.new.self within w.index-outputs-i.is
            (w.put.ensures.message ∙ ap (λ (o : Output). o.message) (sym w.index-outputs-i.is))
            ∙ kept.messages;
        fits =
            subst (λ (l : List Output). AllZip Fits rest (drop (i + 1) l)) (sym w.outputs-is)
            (subst (λ k. AllZip Fits rest (drop k (slice_set outputs i w.put.new.self))) (sym (add-one i))
            (fit_behind outputs i w.in-Some.rows rest w.put.new.self
            (subst (λ (l : List Rows). AllZip Fits l (drop i outputs)) w.in-Some.ensures.items kept.fits)));
        joins =
            ap (joining (i + 1) rest) w.outputs-is
            ∙ ap (λ k. joining k rest (slice_set outputs i w.put.new.self)) (add-one i)
            ∙ joining_more outputs i w.in-Some.rows rest w.index-outputs-i.result w.put.new.self within w.index-outputs-i.is
            (w.put.ensures.part ∙ ap (λ (o : Output). option_map (λ own. merge own w.in-Some.rows.items) (part_of o)) (sym w.index-outputs-i.is))
            ∙ ap (λ (l : List Rows). joining i l outputs) (sym w.in-Some.ensures.items)
            ∙ kept.joins;
      }
      | in_default w ↦
          let none = nil_from_length (into_iter_items c.loop-i.parts) (sym kept.counted ∙ w.in_default.ensures.cases.0) in
          absurd (none_left outputs i
          (subst (λ (l : List Rows). AllZip Fits l (drop i outputs)) none kept.fits) within)
    ]

pub returns-clause-parts : goal.returns-clause-parts
returns-clause-parts c =
    let over : length c.loop-i.outputs ≤ c.loop-i.i = omega (arith, c.loop-i-test.false, c.loop-i.auto.outputs, c.loop-i.auto.i-end) in
    sym (joined_all c.loop-i.outputs c.loop-i.i (into_iter_items c.loop-i.parts) over) ∙ c.loop-i.invariant.joins
