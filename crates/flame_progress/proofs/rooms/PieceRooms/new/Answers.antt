-- One piece after another is made, until all agents have room.
use Rattle.std.proofs.Common.{◌≡◌, ◌+◌, ◌-◌, ◌<◌, List, [], ◌∷◌, ◌++◌, Vec, Global, length, map, replicate, sym, ap, ◌∙◌, subst, arith, add-one}
use Rattle.std.proofs.lemmas.List.{length-map, length-replicate}
use Rattle.std.specs.Prelude.{ℤ}
use Rattle.flame_rows.specs.Cuts.{piece_size, runs}
use Rattle.flame_events.specs.CoreStates.{Work}
use Rattle.flame_events.specs.EventSteps.{fresh_work}
use Rattle.flame_pieces.specs.declared.works.Work as run
use Rattle.flame_pieces.specs.KeptWorks.{work_of}
use Rattle.flame_progress.proofs.Pieces.{Counted, counted_none, counted_more, counted_over, counted_all, map_alike, one_more}
use Rattle.flame_progress.proofs.rooms.PieceRooms.new.Goals as goal

pub loop-piece-init : goal.loop-piece-init
loop-piece-init c = record {
  within = omega arith;
  size = c.piece_size.ensures;
  has = λ k d less. absurd (omega (arith, less, ap (length {A = Vec (List ℤ) Global}) c.new.ensures.items));
  rooms = ap (length {A = Vec (List ℤ) Global}) c.new.ensures.items;
  fresh = ap (map work_of) c.new-2.ensures.items;
  outputs_are = λ k d less. absurd (omega (arith, less, ap (length {A = run.Work}) c.new-2.ensures.items));
  counted = counted_none c.args.agents c.args.pieces (piece_size c.args.agents c.args.pieces);
}

pub returns-then-rest-eq0-clause-fits : goal.returns-then-rest-eq0-clause-fits
returns-then-rest-eq0-clause-fits c =
    let kept = c.loop-piece.invariant in
    let k = c.loop-piece._piece in
    let agents = c.args.agents in
    let pieces = c.args.pieces in
    let works = c.loop-piece.opening.works.items in
    let rooms = c.loop-piece.opening.rooms.items in
    let work : Work = fresh_work c.args.outputs.now [] in
    let long : length works ≡ k = sym (length-map works work_of) ∙ ap (length {A = Work}) kept.fresh ∙ length-replicate k work in
    record {
      size = kept.size;
      rooms = kept.rooms ∙ sym long;
      fresh = kept.fresh ∙ ap (λ n. replicate n work) (sym kept.rooms) ∙ sym (map_alike work rooms);
      outputs_are = kept.outputs_are;
      pieces_are = λ rows are.
          ap (λ n. length (runs pieces (piece_size n pieces) rows)) are
          ∙ counted_over agents pieces (piece_size agents pieces) k c.loop-piece.rest c.if-rest-eq0.true kept.counted rows are
          ∙ sym long;
    }

pub loop-piece-preserved : goal.loop-piece-preserved
loop-piece-preserved c =
    let kept = c.loop-piece.invariant in
    let k = c.loop-piece._piece in
    let rest = c.loop-piece.rest in
    let agents = c.args.agents in
    let pieces = c.args.pieces in
    let size = piece_size agents pieces in
    let work : Work = fresh_work c.args.outputs.now [] in
    let same = c.add.ensures.size ∙ kept.size in
    let left = c.saturating_sub-rest.ensures ∙ ap (λ n. rest - n) same in
    record {
      within = omega (arith, c.loop-piece-test.true);
      size = same;
      has = c.in_ok-add.ensures.has kept.has;
      rooms = c.in_ok-add.ensures.rooms ∙ ap (λ n. n + 1) kept.rooms;
      fresh =
          c.in_ok-add.ensures.works
          ∙ ap (λ l. l ++ work ∷ []) kept.fresh
          ∙ one_more work k
          ∙ ap (λ n. replicate n work) (sym (add-one k));
      outputs_are = c.in_ok-add.ensures.outputs kept.outputs_are;
      counted =
          subst (Counted agents pieces size (k + 1)) (sym left)
          (counted_more agents pieces size k rest c.loop-piece-test.true (omega (arith, c.if-rest-eq0.false)) kept.counted);
    }

pub returns-clause-fits : goal.returns-clause-fits
returns-clause-fits c =
    let kept = c.loop-piece.invariant in
    let k = c.loop-piece._piece in
    let rest = c.loop-piece.rest in
    let agents = c.args.agents in
    let pieces = c.args.pieces in
    let size = piece_size agents pieces in
    let works = c.loop-piece.opening.works.items in
    let rooms = c.loop-piece.opening.rooms.items in
    let work : Work = fresh_work c.args.outputs.now [] in
    let long : length works ≡ k = sym (length-map works work_of) ∙ ap (length {A = Work}) kept.fresh ∙ length-replicate k work in
    let all : k ≡ pieces = omega (arith, c.loop-piece-test.false, kept.within) in
    record {
      size = kept.size;
      rooms = kept.rooms ∙ sym long;
      fresh = kept.fresh ∙ ap (λ n. replicate n work) (sym kept.rooms) ∙ sym (map_alike work rooms);
      outputs_are = kept.outputs_are;
      pieces_are = λ rows are.
          ap (λ n. length (runs pieces (piece_size n pieces) rows)) are
          ∙ counted_all agents pieces size rest (subst (λ n. Counted agents pieces size n rest) all kept.counted) rows are
          ∙ sym all
          ∙ sym long;
    }
