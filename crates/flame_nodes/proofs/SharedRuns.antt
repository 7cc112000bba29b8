-- Shares under one setting: in each agents run the function over the boards of all messages.
use Rattle.std.proofs.Common.{◌≡◌, ℕ, zero, suc, List, [], ◌∷◌, length, map, refl, sym, ap, ◌∙◌, arith}
use Rattle.std.specs.Prelude.{ℤ}
use Rattle.std.specs.List.{All}
use Rattle.std.proofs.lemmas.List.Elements.{All-cons, All-head, All-nil, All-tail}
use Rattle.flame_spec.specs.declared.outcomes.Outcome.{Outcome}
use Rattle.flame_spec.specs.declared.outcomes.Source.{Source}
use Rattle.flame_meaning.specs.Outcomes.{outcome, outputs_at, place_of}
use Rattle.flame_world.specs.declared.pieces.Piece.{Piece}
use Rattle.flame_world.specs.declared.settings.Setting.{Setting}
use Rattle.flame_world.specs.declared.shares.Share.{Share}
use Rattle.flame_world.specs.InputBoards.{boards_named}
use Rattle.flame_world.specs.Meaning.{outcome_under}
use Rattle.flame_world.specs.Settings.{boards_of}
use Rattle.flame_world.specs.Shares.{piece_of, setting_of}
use Rattle.flame_world.proofs.NamedBoards.{named_boards_are_enough}
use Rattle.flame_nodes.specs.GatheredShares.{IsSetting}
use Rattle.flame_nodes.specs.NodeLeavings.{IsOfRun}

module _ (source : Source) (constants : List ℤ) (read : List (List (List ℤ))) (iteration : ℤ) (fuel : ℕ)
    (function : ℕ) (all : List (List (List ℤ)))
    (named : read ≡ boards_named (place_of source function) source.model all) where
  abbrev pub run : List ℤ → Outcome
  run memory = outcome source function memory all constants iteration fuel

  abbrev pub outputs : List ℕ
  outputs = outputs_at (place_of source function) source.model

  is-of-run : (share : Share) → IsSetting source constants read iteration fuel (setting_of share)
      → (piece_of share).function ≡ function → IsOfRun iteration function run outputs share
  is-of-run share set own =
      let setting = setting_of share in
      let there : boards_of setting ≡ boards_named (place_of setting.source.now function) setting.source.now.model all =
      set.boards_are ∙ named ∙ ap (λ (s : Source). boards_named (place_of s function) s.model all) (sym set.source_is) in
      let each : (memory : List ℤ) → outcome_under setting function memory ≡ run memory =
      λ memory. named_boards_are_enough setting function memory all there
      ∙ (λ i. outcome (set.source_is i) function memory all (set.constants_are i) (set.iteration_is i) (set.fuel_is i)) in
      record {
        iteration_is = set.iteration_is;
        function_is = own;
        run_is = λ i memory. each memory i;
        outputs_are = ap (λ (s : Source). outputs_at (place_of s function) s.model) set.source_is;
      }

  pub all-of-run : (shares : List Share) → All (λ share. IsSetting source constants read iteration fuel (setting_of share)) shares
      → All (λ (piece : Piece). piece.function ≡ function) (map piece_of shares)
      → All (IsOfRun iteration function run outputs) shares
  all-of-run [] sets own = All-nil (IsOfRun iteration function run outputs)
  all-of-run (share ∷ shares) sets own =
      let P : Share → Type 0 = λ share. IsSetting source constants read iteration fuel (setting_of share) in
      let Q : Piece → Type 0 = λ piece. piece.function ≡ function in
      All-cons (IsOfRun iteration function run outputs) share shares
      (is-of-run share (All-head P share shares sets) (All-head Q (piece_of share) (map piece_of shares) own))
      (all-of-run shares (All-tail P share shares sets) (All-tail Q (piece_of share) (map piece_of shares) own))
