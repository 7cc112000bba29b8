-- There is less to do when a function that may be over was looked at.
use Rattle.std.proofs.Common.{◌≡◌, ℕ, ◌+◌, ◌<◌, ◌≤◌, Bool, true, false, cond, List, [], ◌∷◌, ◌++◌, length, refl, sym, ◌∙◌, arith, subst, length-append}
use Rattle.std.specs.Prelude.{◌==◌, slice_index, slice_index_or}
use Rattle.std.proofs.lemmas.Bool.{or_cases}
use Rattle.std.proofs.Common.{⊎_elim}
use Rattle.flame_spec.specs.declared.models.Model.{Model}
use Rattle.flame_spec.specs.Below.{is_in}
use Rattle.flame_spec.proofs.FirstBelow.{is_in_push}
use Rattle.flame_world.specs.Iterations.{Round}
use Rattle.flame_events.specs.declared.events.Event.TheVariants as event
use Rattle.flame_events.specs.CoreStates.{works_of, Core, status_of}
use Rattle.flame_events.specs.EventBounds.{events_left}
use Rattle.flame_events.specs.EventSteps.{after}
use Rattle.flame_events.specs.LegalEvents.{outputs_of, is_legal}
use Rattle.flame_events.proofs.RunningOut.{events_run_out}
use Rattle.flame_events.proofs.Serial.{is_in-self, is_in-later}
use Rattle.std.proofs.lemmas.Bool.{eqb-true}
use Rattle.flame_flow.specs.BegunPieces.{with_number}
use Rattle.flame_flow.specs.Goings.{Going, with_legal, with_frozen, with_pieces, with_one_opened, with_opened, with_behind, with_shut, GoesOn, work_left}
use Rattle.flame_flow.proofs.GoneOn.{Known, known_after, known_legal, less_legal}
use Rattle.flame_flow.proofs.Left.{left_more}

pub record Less (round : Round) (pieces : ℕ) (going last : Going) : Type 0 where
  pub known : Known round pieces last.core
  pub less : work_left last ≤ work_left going

module _ (round : Round) (pieces : ℕ) (some : 0 < pieces) where
  freeze_less : (messages : List ℕ) (core : Core) → Known round pieces core
      → (Known round pieces (with_frozen round pieces messages core)) × (events_left (with_frozen round pieces messages core) ≤ events_left core)
  freeze_less [] core known = (known, omega arith)
  freeze_less (m ∷ messages) core known =
      let rest = freeze_less messages (with_legal round pieces (event.Freeze m) core) (known_legal round pieces some (event.Freeze m) core known) in
      (rest.0, omega (arith, rest.1, less_legal round pieces some (event.Freeze m) core known refl))

  open_less : (ranks : List ℕ) (f : ℕ) (going : Going) → Known round pieces going.core → Less round pieces going (with_one_opened round pieces ranks f going)
  open_less ranks f going known = go (is_legal round.source.model going.core (event.Open f)) refl
    where
      go : (b : Bool) → is_legal round.source.model going.core (event.Open f) ≡ b
          → Less round pieces going (cond b (with_pieces ranks f (record going { core = after round pieces going.core (event.Open f) })) going)
      go false legal = record { known = known; less = omega arith }
      go true legal = pieces_of (length (works_of (status_of (after round pieces going.core (event.Open f)) f)) == 0)
        where
          once : events_left (after round pieces going.core (event.Open f)) + 1 ≡ events_left going.core
          once = events_run_out round pieces going.core (event.Open f) known.fits legal refl

          pieces_of : (c : Bool)
              → Less round pieces going
              (cond c (record going { core = after round pieces going.core (event.Open f); over = going.over ++ f ∷ [] })
              (record going { core = after round pieces going.core (event.Open f); due = with_number (slice_index ranks f) going.due }))
          pieces_of true = record { known = known_after round pieces going.core (event.Open f) known legal; less = omega (arith, once, length-append going.over (f ∷ [])) }
          pieces_of false = record { known = known_after round pieces going.core (event.Open f) known legal; less = omega (arith, once) }

  open_all_less : (ranks functions : List ℕ) (going : Going) → Known round pieces going.core → Less round pieces going (with_opened round pieces ranks functions going)
  open_all_less ranks [] going known = record { known = known; less = omega arith }
  open_all_less ranks (f ∷ functions) going known =
      let one = open_less ranks f going known in
      let all = open_all_less ranks functions (with_one_opened round pieces ranks f going) one.known in
      record { known = all.known; less = omega (arith, all.less, one.less) }

  pub shut_less : (ranks : List ℕ) (next : List (List ℕ)) (f : ℕ) (going : Going) → Known round pieces going.core
      → Less round pieces going (with_shut round pieces ranks next f going)
  shut_less ranks next f going known = go (is_legal round.source.model going.core (event.Shut f)) refl
    where
      last : Core
      last = after round pieces going.core (event.Shut f)

      go : (b : Bool) → is_legal round.source.model going.core (event.Shut f) ≡ b
          → Less round pieces going (cond b (with_behind round pieces ranks next f (record going { core = last })) going)
      go false legal = record { known = known; less = omega arith }
      go true legal =
          let frozen = freeze_less (outputs_of round.source.model f) last (known_after round pieces going.core (event.Shut f) known legal) in
          let opened = open_all_less ranks (slice_index_or next f []) (record going { core = with_frozen round pieces (outputs_of round.source.model f) last }) frozen.0 in
          record {
            known = opened.known;
            less = omega (arith, opened.less, frozen.1, events_run_out round pieces going.core (event.Shut f) known.fits legal refl);
          }

-- the last of those that may be over may stand first
pub last_first : (model : Model) (begun : List ℕ) (core : Core) (due over : List ℕ) (f : ℕ)
    → GoesOn model begun [] [] (record { core = core; due = due; over = over ++ f ∷ [] })
    → GoesOn model begun [] [] (record { core = core; due = due; over = f ∷ over })
last_first model begun core due over f goes = record {
  left = left_more model core (over ++ f ∷ []) [] [] (f ∷ over) [] [] (λ n is. turned n is) (λ n is. is) (λ n is. is) goes.left;
  whole = goes.whole;
  marks = goes.marks;
}
  where
    turned : (n : ℕ) → is_in n (over ++ f ∷ []) ≡ true → is_in n (f ∷ over) ≡ true
    turned n is = ⊎_elim
        (λ (old : is_in n over ≡ true). is_in-later n f over old)
        (λ (last : (f == n) ≡ true). subst (λ g. is_in n (g ∷ over) ≡ true) (sym (eqb-true f n last)) (is_in-self n over))
        (or_cases (is_in n over) (f == n) (sym (is_in_push n f over) ∙ is))
