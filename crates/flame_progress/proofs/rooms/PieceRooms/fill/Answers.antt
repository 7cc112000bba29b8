-- One run after another is given to its piece.
use Rattle.std.proofs.Common.{◌≡◌, ◌+◌, ◌<◌, ◌≤◌, List, [], Vec, Global, suc, length, map, drop, sym, ap, ◌∙◌, subst, arith, add-one, length-set}
use Rattle.std.specs.Prelude.{ℤ, slice_set}
use Rattle.std.specs.List.{All}
use Rattle.std.specs.Vec.{vec_capacity}
use Rattle.std.specs.Vec.Iter.{into_iter_items}
use Rattle.flame_rows.specs.Order.{row_order}
use Rattle.flame_rows.specs.Sorted.{IsAscending}
use Rattle.flame_rows.specs.Bags.{ascending}
use Rattle.flame_rows.specs.Cuts.{piece_size, runs}
use Rattle.flame_rows.proofs.Subsequences.{IsAscending-drop}
use Rattle.flame_rows.proofs.BagLaws.{length-ascending}
use Rattle.flame_field.proofs.Written.{map-kept}
use Rattle.flame_events.specs.EventSteps.{fresh_work}
use Rattle.flame_pieces.specs.declared.works.Work as run
use Rattle.flame_pieces.specs.KeptWorks.{work_of, outputs_in}
use Rattle.flame_progress.proofs.Pieces.{given, giving, giving_more, given_all, given_runs, all_alike, run_in_order}
use Rattle.flame_progress.proofs.rooms.PieceRooms.fill.Goals as goal
use Rattle.flame_progress.proofs.rooms.PieceRooms.fill.Goals.{in-Some, in_default}

abbrev Room : Type 0
Room = Vec (List ℤ) Global

pub next_run-requires-clause-empty : goal.next_run-requires-clause-empty
next_run-requires-clause-empty c =
    let P : List Room → Type 0 = λ l. All (λ (room : Room). (room.items ≡ []) × (c.args.self.size ≤ vec_capacity room)) l in
    (subst P c.in-Some.ensures.items c.loop-i.invariant.has 0 c.in-Some.room (omega arith)).0

pub next_run-requires-clause-room : goal.next_run-requires-clause-room
next_run-requires-clause-room c =
    let P : List Room → Type 0 = λ l. All (λ (room : Room). (room.items ≡ []) × (c.args.self.size ≤ vec_capacity room)) l in
    (subst P c.in-Some.ensures.items c.loop-i.invariant.has 0 c.in-Some.room (omega arith)).1

pub give-requires : goal.give-requires
give-requires c =
    ap ascending c.next_run.ensures.run
    ∙ run_in_order c.args.self.size (into_iter_items c.loop-i.rest) c.loop-i.invariant.order
    ∙ sym c.next_run.ensures.run

pub loop-i-preserved : goal.loop-i-preserved
loop-i-preserved c =
    let kept = c.loop-i.invariant in
    let works = c.loop-i.works.items in
    let i = c.loop-i.i in
    let size = c.args.self.size in
    let rows = into_iter_items c.loop-i.rest in
    let within : i < length works = omega (arith, c.loop-i-test.true, c.loop-i.auto.i-end, c.len-i-end.ensures, kept.count) in
    let P : List Room → Type 0 = λ l. All (λ (room : Room). (room.items ≡ []) × (size ≤ vec_capacity room)) l in
    elim c.match-next.branch [
      | in-Some w ↦
          let next = ap (length {A = Room}) w.in-Some.ensures.items in
          let all = subst P w.in-Some.ensures.items kept.has in
          let after = w.give.new.work in
          let works_are = ap (λ (v : Vec run.Work Global). v.items) w.works-is in
          let rest_is = ap into_iter_items w.rest-is ∙ w.next_run.ensures.rest in
          let long = ap (length {A = run.Work}) works_are ∙ length-set works i after in
          record {
            counted = omega (arith, w.in-Some.ensures.cases.1, ap (length {A = Room}) w.in-Some.ensures.cases.0, kept.counted);
            count = long ∙ kept.count;
            has = λ k d less. all (suc k) d (omega (arith, less));
            order = subst (IsAscending row_order) (sym rest_is) (IsAscending-drop row_order size rows kept.order);
            enough = λ same. omega (arith, next, kept.enough same, long);
            outputs =
                ap (map outputs_in) works_are
                ∙ map-kept outputs_in works i w.index_mut.result.now after within w.index_mut.ensures.value w.give.ensures.outputs
                ∙ kept.outputs;
            gives = λ same.
                (λ j. giving (i + 1) size (rest_is j) (works_are j))
                ∙ ap (λ k. giving k size (drop size rows) (slice_set works i after)) (add-one i)
                ∙ giving_more works i size rows w.index_mut.result.now after within w.index_mut.ensures.value
                (w.give.ensures.work ∙ ap (λ agents. record (work_of w.index_mut.result.now) { agents = agents }) w.next_run.ensures.run)
                ∙ kept.gives same;
          }
      | in_default w ↦
          let none = w.in_default.ensures.cases in
          let next = ap (length {A = Room}) w.in_default.ensures.items in
          let works_are = ap (λ (v : Vec run.Work Global). v.items) w.works-is in
          record {
            counted = omega (arith, none.0, none.1, kept.counted, next);
            count = ap (length {A = run.Work}) works_are ∙ kept.count;
            has = λ k d less. absurd (omega (arith, less, none.0, kept.counted, next));
            order = subst (IsAscending row_order) (sym (ap into_iter_items w.rest-is)) kept.order;
            enough = λ same. absurd (omega (arith, kept.enough same, none.0, kept.counted, within));
            outputs = ap (map outputs_in) works_are ∙ kept.outputs;
            gives = λ same. absurd (omega (arith, kept.enough same, none.0, kept.counted, within));
          }
    ]

pub returns-clause-works : goal.returns-clause-works
returns-clause-works c = λ outputs pieces fits.
    let kept = c.loop-i.invariant in
    let works = c.loop-i.works.items in
    let i = c.loop-i.i in
    let self = c.args.self in
    let rows = ascending c.args.agents.items in
    let over : length works ≤ i = omega (arith, c.loop-i-test.false, c.loop-i.auto.i-end, c.len-i-end.ensures, kept.count) in
    let long = length-ascending c.args.agents.items in
    let size_is = fits.size ∙ ap (λ n. piece_size n pieces) (sym long) in
    let many = ap (λ n. length (runs pieces n rows)) size_is ∙ fits.pieces_are rows long ∙ sym fits.rooms in
    sym (given_all works i self.size (into_iter_items c.loop-i.rest) over)
    ∙ kept.gives fits.rooms
    ∙ ap (given self.size rows) fits.fresh
    ∙ given_runs outputs pieces self.size rows self.rooms.items many
    ∙ ap (λ n. map (fresh_work outputs) (runs pieces n rows)) size_is

pub returns-clause-outputs : goal.returns-clause-outputs
returns-clause-outputs c = λ outputs pieces fits.
    all_alike outputs_in outputs c.loop-i.works.items c.args.self.works.items c.loop-i.invariant.outputs fits.outputs_are
