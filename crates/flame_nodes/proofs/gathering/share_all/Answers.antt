use Rattle.std.proofs.Common.{◌≡◌, ◌++◌, ◌∷◌, ◌∙◌, [], List, ap, append_assoc, map, rules, sym, subst}
use Rattle.std.specs.List.{All}
use Rattle.std.proofs.lemmas.List.{map-append}
use Rattle.std.proofs.lemmas.List.Elements.{All-append, All-cons, All-nil, All-head, All-tail}
use Rattle.flame_world.specs.declared.pieces.Piece.{Piece}
use Rattle.flame_world.specs.declared.shares.Share.{Share}
use Rattle.flame_world.specs.Shares.{piece_of, setting_of}
use Rattle.flame_nodes.specs.GatheredShares.{DifferInNumber, IsFirstThatFits}
use Rattle.flame_nodes.specs.NodeWork.{CanRun, IsOf, IsUnder, StaysFirst}
use Rattle.flame_nodes.proofs.FirstShares.{kept-first, others-differ, others-stay}
use Rattle.flame_nodes.proofs.gathering.share_all.Goals as goal

pub share_of-requires : goal.share_of-requires
share_of-requires c =
    All-head (CanRun c.args.terms) c.in-Some.piece c.next.new.self.rest.items
    (subst (All (CanRun c.args.terms)) c.in-Some.ensures.steps.0 c.loop-piece.invariant.fit)

pub loop-piece-preserved : goal.loop-piece-preserved
loop-piece-preserved c =
    let kept = c.loop-piece.invariant in
    let first = c.in-Some.ensures.steps.0 in
    let shares = c.loop-piece.shares.items in
    let share = c.in_ok-share_of.field-0 in
    let piece = c.in-Some.piece in
    let rest = c.next.new.self.rest.items in
    let arrived = c.args.arrived.items in
    let before = c.loop-piece.left.items in
    let after = c.share_of.new.arrived.items in
    let P : Share → Type 0 = λ share. IsUnder c.args.terms (setting_of share) in
    let F : Share → Type 0 = λ share. IsFirstThatFits (IsOf c.args.terms (piece_of share)) arrived share in
    let S : Piece → Type 0 = λ piece. StaysFirst (IsOf c.args.terms piece) arrived before in
    record {
      pieces =
          ap (λ (all : List Share). map piece_of all ++ rest) c.in_ok-push.ensures.items
          ∙ ap (λ (all : List Piece). all ++ rest) (map-append piece_of shares (share ∷ []))
          ∙ append_assoc (map piece_of shares) (piece_of share ∷ []) rest
          ∙ ap (λ (piece : Piece). map piece_of shares ++ piece ∷ rest) c.in_ok-share_of.ensures.piece
          ∙ ap (λ (all : List Piece). map piece_of shares ++ all) (sym first)
          ∙ kept.pieces;
      settings =
          subst (All P) (sym c.in_ok-push.ensures.items)
          (All-append P shares (share ∷ []) kept.settings (All-cons P share [] c.in_ok-share_of.ensures.setting (All-nil P)));
      fit = All-tail (CanRun c.args.terms) piece rest (subst (All (CanRun c.args.terms)) first kept.fit);
      first =
          λ differ.
          subst (All F) (sym c.in_ok-push.ensures.items)
          (All-append F shares (share ∷ []) (kept.first differ)
          (All-cons F share []
          (kept-first (IsOf c.args.terms) arrived piece rest before share c.in_ok-share_of.ensures.piece
          (All-head S piece rest (subst (All S) first (kept.stay differ))) c.in_ok-share_of.ensures.first)
          (All-nil F)));
      differ =
          λ differ. others-differ (IsOf c.args.terms) arrived piece rest (subst DifferInNumber first (kept.differ differ));
      stay =
          λ differ.
          others-stay (IsOf c.args.terms) arrived piece rest before after (subst DifferInNumber first (kept.differ differ))
          c.share_of.ensures.others (subst (All S) first (kept.stay differ));
    }

pub loop-piece-init : goal.loop-piece-init
loop-piece-init c =
    let are = c.into_iter-piece-iterator.ensures.into_iter_gives.0 in
    record {
      pieces = search rules;
      settings = search rules;
      fit = subst (All (CanRun c.args.terms)) (sym are) c.requires;
      first = λ differ. search rules;
      differ = λ differ. subst DifferInNumber (sym are) differ;
      stay = λ differ k d there own first. first;
    }
