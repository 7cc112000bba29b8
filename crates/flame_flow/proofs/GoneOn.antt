-- What holds while a core goes on by events of functions and boards.
use Rattle.std.proofs.Common.{◌≡◌, ℕ, ◌+◌, ◌<◌, ◌≤◌, Bool, true, false, cond, List, [], ◌∷◌, ◌++◌, length, Option, Some, None, refl, sym, ap, ◌∙◌, arith, length-append}
use Rattle.std.specs.Prelude.{◌==◌, slice_get, slice_index, slice_index_or}
use Rattle.std.proofs.lemmas.Bool.{eqb-true, eq-eqb, true≢false, false≢true}
use Rattle.std.proofs.lemmas.List.{nil_from_length}
use Rattle.std.proofs.lemmas.Option.{slice_get_within}
use Rattle.flame_spec.specs.declared.models.Model.{Model}
use Rattle.flame_spec.specs.Before.{before, function_count}
use Rattle.flame_spec.specs.Below.{is_in}
use Rattle.flame_spec.specs.Functions.{Place, functions}
use Rattle.flame_spec.specs.ModelOrder.{model_order}
use Rattle.flame_meaning.specs.Outcomes.{outputs_at}
use Rattle.flame_world.specs.Iterations.{Round}
use Rattle.flame_events.specs.declared.events.Event.{Event}
use Rattle.flame_events.specs.declared.events.Event.TheVariants as event
use Rattle.flame_events.specs.CoreStates.{works_of, Core, status_of}
use Rattle.flame_events.specs.CoreFits.{FitsCore}
use Rattle.flame_events.specs.CoreLaws.{EventsLeadTo}
use Rattle.flame_events.specs.EventBounds.{events_left, is_of_piece}
use Rattle.flame_events.specs.EventSteps.{after}
use Rattle.flame_events.specs.LegalEvents.{inputs_of, outputs_of, is_legal}
use Rattle.flame_events.proofs.CoreWidths.{fitting_cores_stay}
use Rattle.flame_events.proofs.RunningOut.{events_run_out}
use Rattle.flame_events.proofs.Serial.{is_in-self, is_in-later}
use Rattle.flame_events.proofs.Sound.{can_open}
use Rattle.flame_events.proofs.Spots.{writes_before}
use Rattle.flame_orders.proofs.Lasting.{led_on}
use Rattle.flame_flow.specs.BegunPieces.{with_number}
use Rattle.flame_flow.specs.Goings.{AreWaysOf, Going, with_legal, with_frozen, with_pieces, with_one_opened, with_opened, with_behind, with_shut, GoesOn, work_left}
use Rattle.flame_flow.proofs.Places.{stands_below}
use Rattle.flame_flow.proofs.Left.{left_no_shut, left_no_freeze, left_no_open, left_shut, left_freeze, left_open, left_empty}
use Rattle.flame_flow.proofs.Marked.{whole_open, whole_shut, marks_empty, marks_open, marks_shut, marks_freeze}

-- what a core is known by: events of the model led to it, and it fits
pub record Known (round : Round) (pieces : ℕ) (core : Core) : Type 0 where
  pub led : EventsLeadTo round pieces core
  pub fits : FitsCore round.source.model core

pub known_after : (round : Round) (pieces : ℕ) (core : Core) (e : Event) → Known round pieces core → is_legal round.source.model core e ≡ true → Known round pieces (after round pieces core e)
known_after round pieces core e known legal = record {
  led = led_on round pieces core e known.led legal;
  fits = fitting_cores_stay round pieces core e known.fits legal;
}

some_left_of : {X : Type 0} (xs : List X) → (length xs == 0) ≡ false → 0 < length xs
some_left_of [] is = absurd (true≢false (sym (eq-eqb 0 0 refl) ∙ is))
some_left_of (x ∷ xs) is = omega arith

not_none : {X : Type 0} (xs : List X) → (length xs == 0) ≡ false → xs ≡ [] → ⊥
not_none xs some none = true≢false (sym (ap (λ l. length l == 0) none) ∙ some)

-- what outputs a message is a function of the model
writer_below : (model : Model) (f m : ℕ) → is_in m (outputs_of model f) ≡ true → f < function_count model
writer_below model f m writes = go (slice_get (functions model) f) refl writes
  where
    go : (o : Option Place) → slice_get (functions model) f ≡ o → is_in m (outputs_at o model) ≡ true → f < function_count model
    go None is within = absurd (false≢true within)
    go (Some place) is within = slice_get_within (functions model) f place is

module _ (round : Round) (pieces : ℕ) (some : 0 < pieces) where
  abbrev model : Model
  model = round.source.model

  -- ---- one event that may be legal

  pub known_legal : (e : Event) (core : Core) → Known round pieces core → Known round pieces (with_legal round pieces e core)
  known_legal e core known = go (is_legal model core e) refl
    where
      go : (b : Bool) → is_legal model core e ≡ b → Known round pieces (cond b (after round pieces core e) core)
      go true legal = known_after round pieces core e known legal
      go false legal = known

  pub less_legal : (e : Event) (core : Core) → Known round pieces core → is_of_piece e ≡ false → events_left (with_legal round pieces e core) ≤ events_left core
  less_legal e core known kind = go (is_legal model core e) refl
    where
      go : (b : Bool) → is_legal model core e ≡ b → events_left (cond b (after round pieces core e) core) ≤ events_left core
      go true legal = omega (arith, events_run_out round pieces core e known.fits legal kind)
      go false legal = omega arith

  -- ---- boards

  freeze_one : (begun : List ℕ) (m : ℕ) (messages waiting : List ℕ) (going : Going) → Known round pieces going.core
      → ((g : ℕ) → g < function_count model → is_in m (inputs_of model g) ≡ true → is_in g waiting ≡ true)
      → GoesOn model begun (m ∷ messages) waiting going
      → GoesOn model begun messages waiting (record going { core = with_legal round pieces (event.Freeze m) going.core })
  freeze_one begun m messages waiting going known readers goes = go (is_legal model going.core (event.Freeze m)) refl
    where
      go : (b : Bool) → is_legal model going.core (event.Freeze m) ≡ b
          → GoesOn model begun messages waiting (record going { core = cond b (after round pieces going.core (event.Freeze m)) going.core })
      go true legal = record {
        left = left_freeze round pieces going.core known.led m going.over messages waiting legal readers goes.left;
        whole = goes.whole;
        marks = marks_freeze round pieces going.core begun going.due m goes.marks;
      }
      go false legal = record {
        left = left_no_freeze model going.core m going.over messages waiting legal goes.left;
        whole = goes.whole;
        marks = goes.marks;
      }

  -- what is known after all of them
  pub record Frozen (begun waiting : List ℕ) (messages : List ℕ) (going : Going) : Type 0 where
    pub known : Known round pieces (with_frozen round pieces messages going.core)
    pub less : events_left (with_frozen round pieces messages going.core) ≤ events_left going.core
    pub goes : GoesOn model begun [] waiting (record going { core = with_frozen round pieces messages going.core })

  pub freeze_all : (begun messages waiting : List ℕ) (going : Going) → Known round pieces going.core
      → ((m g : ℕ) → is_in m messages ≡ true → g < function_count model → is_in m (inputs_of model g) ≡ true → is_in g waiting ≡ true)
      → GoesOn model begun messages waiting going
      → Frozen begun waiting messages going
  freeze_all begun [] waiting going known readers goes = record { known = known; less = omega arith; goes = goes }
  freeze_all begun (m ∷ messages) waiting going known readers goes =
      let next : Going = record going { core = with_legal round pieces (event.Freeze m) going.core } in
      let all = freeze_all begun messages waiting next (known_legal (event.Freeze m) going.core known) (λ n g within. readers n g (later n m messages within))
      (freeze_one begun m messages waiting going known (λ g. readers m g (first m messages)) goes) in
      record {
        known = all.known;
        less = omega (arith, all.less, less_legal (event.Freeze m) going.core known refl);
        goes = all.goes;
      }
    where
      later : (n m : ℕ) (messages : List ℕ) → is_in n messages ≡ true → is_in n (m ∷ messages) ≡ true
      later n m messages within = is_in-later n m messages within

      first : (m : ℕ) (messages : List ℕ) → is_in m (m ∷ messages) ≡ true
      first m messages = is_in-self m messages

  -- ---- functions

  module _ (ranks : List ℕ) (next : List (List ℕ)) (ways : AreWaysOf model ranks next) where
    -- what is known when this came of that
    pub record Opens (begun waiting : List ℕ) (going last : Going) : Type 0 where
      pub known : Known round pieces last.core
      pub less : work_left last ≤ work_left going
      pub goes : GoesOn model begun [] waiting last

    open_one : (begun : List ℕ) (f : ℕ) (waiting : List ℕ) (going : Going) → Known round pieces going.core
        → GoesOn model begun [] (f ∷ waiting) going
        → Opens begun waiting going (with_one_opened round pieces ranks f going)
    open_one begun f waiting going known goes = go (is_legal model going.core (event.Open f)) refl
      where
        go : (b : Bool) → is_legal model going.core (event.Open f) ≡ b
            → Opens begun waiting going (cond b (with_pieces ranks f (record going { core = after round pieces going.core (event.Open f) })) going)
        go false legal = record {
          known = known;
          less = omega arith;
          goes = record { left = left_no_open model going.core f going.over [] waiting legal goes.left; whole = goes.whole; marks = goes.marks };
        }
        go true legal = pieces_of (length (works_of (status_of (after round pieces going.core (event.Open f)) f)) == 0) refl
          where
            rank_is : slice_get (model_order model) (slice_index ranks f) ≡ Some f
            rank_is = ways.ranks_are f (can_open model going.core f legal).below

            once : events_left (after round pieces going.core (event.Open f)) + 1 ≡ events_left going.core
            once = events_run_out round pieces going.core (event.Open f) known.fits legal refl

            pieces_of : (c : Bool) → (length (works_of (status_of (after round pieces going.core (event.Open f)) f)) == 0) ≡ c
                → Opens begun waiting going
                (cond c (record going { core = after round pieces going.core (event.Open f); over = going.over ++ f ∷ [] })
                (record going { core = after round pieces going.core (event.Open f); due = with_number (slice_index ranks f) going.due }))
            pieces_of true none = record {
              known = known_after round pieces going.core (event.Open f) known legal;
              less = omega (arith, once, length-append going.over (f ∷ []));
              goes = record {
                left = left_empty round pieces going.core known.led f going.over [] waiting legal goes.left;
                whole = whole_open round pieces going.core some known.led f legal goes.whole;
                marks = marks_empty round pieces going.core some known.led begun going.due f (slice_index ranks f) legal rank_is goes.marks
                    (nil_from_length (works_of (status_of (after round pieces going.core (event.Open f)) f)) (eqb-true _ 0 none));
              };
            }
            pieces_of false filled = record {
              known = known_after round pieces going.core (event.Open f) known legal;
              less = omega (arith, once);
              goes = record {
                left = left_open round pieces going.core known.led f going.over [] waiting legal
                    (not_none (works_of (status_of (after round pieces going.core (event.Open f)) f)) filled) goes.left;
                whole = whole_open round pieces going.core some known.led f legal goes.whole;
                marks = marks_open round pieces going.core some known.led begun going.due f (slice_index ranks f) legal rank_is goes.marks
                    (some_left_of (works_of (status_of (after round pieces going.core (event.Open f)) f)) filled);
              };
            }

    pub open_all : (begun functions : List ℕ) (going : Going) → Known round pieces going.core
        → GoesOn model begun [] functions going
        → Opens begun [] going (with_opened round pieces ranks functions going)
    open_all begun [] going known goes = record { known = known; less = omega arith; goes = goes }
    open_all begun (f ∷ functions) going known goes =
        let one = open_one begun f functions going known goes in
        let all = open_all begun functions (with_one_opened round pieces ranks f going) one.known one.goes in
        record { known = all.known; less = omega (arith, all.less, one.less); goes = all.goes }

    -- a function is shut, and what this allows comes
    pub shut_one : (begun : List ℕ) (f : ℕ) (core : Core) (due over : List ℕ) → Known round pieces core
        → GoesOn model begun [] [] (record { core = core; due = due; over = f ∷ over })
        → Opens begun [] (record { core = core; due = due; over = over }) (with_shut round pieces ranks next f (record { core = core; due = due; over = over }))
    shut_one begun f core due over known goes = go (is_legal model core (event.Shut f)) refl
      where
        last : Core
        last = after round pieces core (event.Shut f)

        shut : Going
        shut = record { core = last; due = due; over = over }

        leads : (f g : ℕ) → before model f g ≡ true → is_in g (slice_index_or next f []) ≡ true
        leads f g stands = ways.next_are f g (stands_below model f g stands).0 ∙ stands

        go : (b : Bool) → is_legal model core (event.Shut f) ≡ b
            → Opens begun [] (record { core = core; due = due; over = over })
            (cond b (with_behind round pieces ranks next f shut) (record { core = core; due = due; over = over }))
        go true legal =
            let frozen = freeze_all begun (outputs_of model f) (slice_index_or next f []) shut (known_after round pieces core (event.Shut f) known legal)
            (λ m g writes less reads. leads f g (writes_before model f g m (writer_below model f m writes) less writes reads))
            (record {
              left = left_shut round pieces core known.led f over [] [] (outputs_of model f) (slice_index_or next f []) legal (λ m within. within) (leads f) goes.left;
              whole = whole_shut round pieces core some known.led f legal goes.whole;
              marks = marks_shut round pieces core some known.led begun due f legal goes.marks;
            }) in
            let opened = open_all begun (slice_index_or next f []) (record shut { core = with_frozen round pieces (outputs_of model f) last }) frozen.known frozen.goes in
            record {
              known = opened.known;
              less = omega (arith, opened.less, frozen.less, events_run_out round pieces core (event.Shut f) known.fits legal refl);
              goes = opened.goes;
            }
        go false legal = record {
          known = known;
          less = omega arith;
          goes = record { left = left_no_shut model core f over [] [] legal goes.left; whole = goes.whole; marks = goes.marks };
        }
