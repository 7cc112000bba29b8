-- What events ask for that are legal.
use Rattle.std.proofs.Common.{◌≡◌, ℕ, ◌<◌, Bool, true, false, length, refl, sym, ap, ◌∙◌, arith, ⊎_elim}
use Rattle.std.specs.Prelude.{not}
use Rattle.std.proofs.lemmas.Bool.{and_parts, cases_Bool, ltb-true, true≢false}
use Rattle.std.proofs.lemmas.List.{length-map}
use Rattle.std.proofs.lemmas.Option.{slice_get_within}
use Rattle.flame_rows.proofs.Lists.{slice_get-some}
use Rattle.flame_spec.specs.declared.models.Model.{Model}
use Rattle.flame_spec.specs.Before.{function_count}
use Rattle.flame_spec.specs.Below.{is_in}
use Rattle.flame_events.specs.CoreStates.{Core, is_shut, is_frozen, status_of, work_of, works_of}
use Rattle.flame_events.specs.LegalEvents.{may_freeze, may_hand_in, may_shut, outputs_of}
use Rattle.flame_events.proofs.Sound.{opens_with}
use Rattle.flame_events.proofs.Works.{kept_is_output}
use Rattle.flame_events.specs.CoreFits.{FitsCore, FitsWork}
use Rattle.flame_spec.specs.Functions.{functions}
use Rattle.flame_pieces.specs.Waiting.{thing_at}
use Rattle.flame_pieces.specs.KeptStatuses.{status_of as kept_status}
use Rattle.flame_progress.specs.declared.counts.Counts.{Counts}
use Rattle.flame_progress.specs.declared.progress.Progress.{Progress}
use Rattle.flame_progress.specs.KeptCores.{core_of, kept_at}
use Rattle.flame_progress.specs.KeptWorkEvents.{OutputsOnce}
use Rattle.flame_progress.specs.Tallying.{Tallies}
use Rattle.flame_progress.proofs.Known.{may_hand_in_is, may_shut_is, open_within, outputs_once}
use Rattle.flame_core.specs.KeptReady.{InOrder}
use Rattle.flame_core.proofs.Openings.{output_below}
use Rattle.flame_meaning.proofs.Eachs.{each_at}

module _ (model : Model) (progress : Progress) (counts : Counts) (tallies : Tallies model progress counts) where
  abbrev core : Core
  core = core_of progress

  -- ---- a function is shut

  pub record CanShut (f : ℕ) : Type 0 where
    pub known : f < length progress.statuses.items
    pub functions : (thing_at counts.functions.things f).done ≡ false
    pub outputs : (thing_at counts.outputs.things f).done ≡ false

  pub can_shut : (f : ℕ) → may_shut (outputs_of model f) (status_of core f) ≡ true → CanShut f
  can_shut f may =
      let is = may_shut_is (outputs_of model f) (status_of core f) may in
      let less : f < length progress.statuses.items =
      omega (arith, open_within core.statuses f (works_of (status_of core f)) is, length-map progress.statuses.items kept_status) in
      let below : f < function_count model = omega (arith, less, tallies.functions) in
      record {
        known = less;
        functions = tallies.counted.functions.which f below ∙ ap is_shut is;
        outputs = tallies.counted.outputs.which f below ∙ ap is_shut is;
      }

  -- ---- a board is frozen

  pub record CanFreeze (m : ℕ) : Type 0 where
    pub known : m < length progress.field.boards.items
    pub inputs : (thing_at counts.inputs.things m).done ≡ false

  pub can_freeze : (m : ℕ) → may_freeze model core m ≡ true → CanFreeze m
  can_freeze m may =
      let a = and_parts _ _ may in
      let b = and_parts _ _ a.0 in
      let below = ltb-true m (length model.messages) b.0 in
      record {
        known = omega (arith, below, tallies.messages);
        inputs = tallies.counted.inputs.which m below ∙ not_true (is_frozen core m) b.1;
      }
    where
      not_true : (b : Bool) → not b ≡ true → b ≡ false
      not_true true holds = sym holds
      not_true false holds = refl

  -- ---- messages are handed in

  pub record CanHandIn (f k m : ℕ) : Type 0 where
    pub known : f < length progress.statuses.items
    pub there : k < length (works_of (status_of core f))
    pub board : m < length progress.field.boards.items
    pub gathers : is_frozen core m ≡ false
    pub once : OutputsOnce (kept_at progress f)

  pub can_hand_in : (pieces f k m : ℕ) → FitsCore model core → InOrder model pieces core
      → may_hand_in (outputs_of model f) (work_of core f k) m ≡ true → CanHandIn f k m
  can_hand_in pieces f k m fits in_order may =
      let outputs = outputs_of model f in
      let hands = may_hand_in_is outputs (work_of core f k) m may in
      let is = opens_with (status_of core f) k hands.one hands.there in
      let less : f < length progress.statuses.items =
      omega (arith, open_within core.statuses f (works_of (status_of core f)) is, length-map progress.statuses.items kept_status) in
      let below : f < function_count model = omega (arith, less, tallies.functions) in
      let place = slice_get-some (functions model) f below in
      let work = each_at (FitsWork model f place.0.type) (works_of (status_of core f)) k hands.one (fits.works f place.0 place.1) hands.there in
      let among : is_in m outputs ≡ true = kept_is_output outputs hands.one.parts m hands.rows work.parts hands.part in
      record {
        known = less;
        there = slice_get_within (works_of (status_of core f)) k hands.one hands.there;
        board = omega (arith, output_below model f m below among, tallies.messages);
        gathers = ⊎_elim
            (λ (frozen : is_frozen core m ≡ true).
            absurd (true≢false (sym (in_order.written m f below frozen among) ∙ ap is_shut is)))
            (λ (gathers : is_frozen core m ≡ false). gathers)
            (cases_Bool (is_frozen core m));
        once = outputs_once (kept_at progress f) outputs (tallies.once f) (tallies.outputs f);
      }
