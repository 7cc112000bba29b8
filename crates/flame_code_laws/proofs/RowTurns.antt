-- The turns of message loops.
use Rattle.std.proofs.Common.{◌≡◌, ℕ, zero, suc, ◌+◌, ◌<◌, ◌≤◌, ◌==◌, ◌||◌, Bool, true, false, cond, List, [], ◌∷◌, length, Some, refl, sym, ap, ◌∙◌, subst, arith, eq-eqb, lt-ltb}
use Rattle.std.specs.Prelude.{ℤ, slice_get, slice_set, slice_index_or, nat_lt, option_and_then}
use Rattle.std.specs.Option.{option_map_or}
use Rattle.std.proofs.lemmas.Bool.{eqb-true, eqb-false, ltb-true, or_left, or_right, ne_eqb}
use Rattle.std.proofs.lemmas.Option.{get_or_from_slice_get}
use Rattle.flame_rows.proofs.Lists.{slice_get-slice_set}
use Rattle.flame_spec.specs.declared.outcomes.Widths.{Widths}
use Rattle.flame_body.specs.BodyFits.{Around, in_input_loop, is_inside}
use Rattle.flame_code.specs.declared.instrs.Instr.TheVariants.{Next}
use Rattle.flame_code.specs.Feeds.{Fed, with_come, has_more, with_more, last_come, with_input, at_next}
use Rattle.flame_code.specs.InputRows.{rows_of}
use Rattle.flame_code.specs.Machine.{Config, deliver, next as next_at, pay_from as paid_from}
use Rattle.flame_code.proofs.InputMoves.{other-kept, rows-at_next, last_of-next}
use Rattle.flame_meaning.specs.Scenes.{Progress}
use Rattle.flame_meaning.specs.Ends.{End, went_on, broke, continued, returned, faulted, no_fuel}
use Rattle.flame_meaning.specs.Loops.{after_turn, pay_from}
use Rattle.flame_number_laws.specs.NumberedScenes.{standing_at}
use Rattle.flame_number_laws.specs.NumberedMeaning.{each_row}
use Rattle.flame_code_laws.specs.CodeRuns.{Running, HasAt, at}
use Rattle.flame_code_laws.specs.Likeness.{Current}
use Rattle.flame_code_laws.specs.Standings.{Frame, IsSound, Follows, Reached, Comes}
use Rattle.flame_code_laws.proofs.Going.{has_first, performed, failed}
use Rattle.flame_code_laws.proofs.Comings.{refuel, comes_led}
use Rattle.flame_code_laws.proofs.Turning.{Whole}

-- an input that is changed
pub changed_feed :
    (change : Fed → Fed) (input : ℕ) (feeds : List Fed) (fed : Fed)
    → slice_get feeds input ≡ Some fed
    → slice_get (with_input change input feeds) input ≡ Some (change fed)
changed_feed change input feeds fed e =
    ap (λ o. slice_get (option_map_or (λ x. slice_set feeds input (change x)) o feeds) input) e
    ∙ slice_get-slice_set feeds input (change fed) fed e

-- an input that is not open is none of those that are
pub not_open :
    (i input : ℕ) (around : Around)
    → is_inside input around ≡ false → is_inside i around ≡ true → i ≡ input → ⊥
not_open i input around closed within same =
    let bad : false ≡ true = sym closed ∙ sym (ap (λ k. is_inside k around) same) ∙ within in absurd (let worse : false
    ≡ true = bad in cc)

-- a row with so many come
abbrev pub come_to : List (List ℤ) → ℕ → Fed
come_to all come = record { rows = all; come = come }

-- one more comes where one is to come
more_come :
    (all : List (List ℤ)) (come : ℕ)
    → come < length all → with_more (come_to all come) ≡ come_to all (come + 1)
more_come all come less =
    ap (λ b. cond b (with_come (come + 1) (come_to all come)) (come_to all come)) (lt-ltb come (length all) less)

-- a row's frame
abbrev pub rowed : ℕ → List ℤ → List Fed → ℕ → ℕ → ℕ → ℕ → Frame → Frame
rowed input row feeds out again n k f = record f {
  around = in_input_loop input f.around;
  before = standing_at input row f.before;
  feeds = feeds;
  least = n;
  most = k;
  leave = out;
  again = again;
}

-- no row is to come
none_more : (all : List (List ℤ)) (come : ℕ) → come ≡ length all → nat_lt come (length all) ≡ false
none_more all come same =
    let go : (b : Bool) → nat_lt come (length all) ≡ b → b ≡ false =
    λ b. elim b as (λ b. nat_lt come (length all) ≡ b → b ≡ false) [
      | true ↦ λ is. let less : come < length all = ltb-true come (length all) is in
          absurd (omega (arith, less, same))
      | false ↦ λ is. refl
    ] in
    go (nat_lt come (length all)) refl

module _ (run : Running) (f : Frame) (sound : IsSound run f) (input : ℕ) (closed : is_inside input f.around ≡ false)
  where
    -- other feeds of the input that is not open
    pub feeds_follow :
        (s : Progress) (c : Config) (feeds : List Fed)
        → Follows f s c
        → rows_of feeds ≡ rows_of c.feeds
        → ((i : ℕ) → (i ≡ input → ⊥) → slice_get feeds i ≡ slice_get c.feeds i)
        → Follows f s (record c { feeds = feeds })
    feeds_follow s c feeds follows rows others = record {
      memory = follows.memory;
      locals = follows.locals;
      sent = follows.sent;
      born = follows.born;
      fuel = follows.fuel;
      readings = rows ∙ follows.readings;
      kept = λ i within. others i (not_open i input f.around closed within) ∙ follows.kept i within;
      least = follows.least;
      most = follows.most;
    }

    -- the input at whose row the body stands, and the others
    row_current :
        (s : Progress) (c : Config) (all : List (List ℤ)) (row : List ℤ) (come i : ℕ) (b : Bool)
        → Follows f s c
        → slice_get f.before.readings input ≡ Some all
        → slice_get all come ≡ Some row
        → slice_get c.feeds input ≡ Some (come_to all come)
        → come < length all
        → (input == i) ≡ b
        → (b || is_inside i f.around) ≡ true
        → Current (in_input_loop input f.around) (standing_at input row f.before) i (at_next input c.feeds)
    row_current s c all row come i true follows listed there fed less same within =
        let is : input ≡ i = eqb-true input i same in
        let come_fed : slice_get (at_next input c.feeds) i ≡ Some (come_to all (come + 1)) =
        ap (slice_get (at_next input c.feeds)) (sym is)
        ∙ changed_feed with_more input c.feeds (come_to all come) fed ∙ ap Some (more_come all come less) in
        let row_is : (standing_at input row f.before).current_rows i ≡ row =
        ap (λ b. cond b row (f.before.current_rows i)) (eq-eqb i input (sym is)) in
        let width : slice_get run.routine.widths.inputs input ≡ Some (length row) =
        sound.rows.wide input come all row listed there in
        record {
          last = ap (option_and_then last_come) come_fed ∙ last_of-next all come ∙ there ∙ ap Some (sym row_is);
          wide = ap length row_is
              ∙ sym (get_or_from_slice_get run.routine.widths.inputs input (length row) 0 width)
              ∙ sym (ap (λ (w : Widths). slice_index_or w.inputs input 0) sound.widths)
              ∙ ap (λ k. slice_index_or f.around.widths.inputs k 0) is;
        }
    row_current s c all row come i false follows listed there fed less other within =
        let apart : i ≡ input → ⊥ = λ same. eqb-false input i other (sym same) in
        let current = sound.current i within in
        let row_is : (standing_at input row f.before).current_rows i ≡ f.before.current_rows i =
        ap (λ b. cond b row (f.before.current_rows i)) (ne_eqb i input apart) in
        record {
          last = ap (option_and_then last_come) (other-kept with_more c.feeds input i apart ∙ follows.kept i within)
              ∙ current.last ∙ ap Some (sym row_is);
          wide = ap length row_is ∙ current.wide;
        }

    -- a row that came makes a sound frame
    row_sound :
        (s : Progress) (c : Config) (all : List (List ℤ)) (row : List ℤ) (come out again n k : ℕ)
        → Follows f s c
        → slice_get f.before.readings input ≡ Some all
        → slice_get all come ≡ Some row
        → slice_get c.feeds input ≡ Some (come_to all come)
        → come < length all
        → IsSound run (rowed input row (at_next input c.feeds) out again n k f)
    row_sound s c all row come out again n k follows listed there fed less = record {
      constants = sound.constants;
      iteration = sound.iteration;
      widths = sound.widths;
      same_widths = sound.same_widths;
      rows = sound.rows;
      current = λ i within. row_current s c all row come i (input == i) follows listed there fed less refl within;
      helps = record { answered = sound.helps.answered };
    }

    -- a place outside the body
    row_reached :
        (row : List ℤ) (c0 : Config) (out again n k : ℕ) (c : Config) (s t : Progress) (q : ℕ)
        → Follows f s c0
        → f.least ≤ n
        → k ≤ f.most
        → Reached run (rowed input row (at_next input c0.feeds) out again n k f) c t q
        → Reached run f c t q
    row_reached row c0 out again n k c s t q first least most reached = record {
      there = reached.there;
      follows = record {
        memory = reached.follows.memory;
        locals = reached.follows.locals;
        sent = reached.follows.sent;
        born = reached.follows.born;
        fuel = reached.follows.fuel;
        readings = reached.follows.readings;
        kept = λ i within.
            reached.follows.kept i (or_right (input == i) (is_inside i f.around) within)
            ∙ other-kept with_more c0.feeds input i (not_open i input f.around closed within)
            ∙ first.kept i within;
        least = omega (arith, least, reached.follows.least);
        most = omega (arith, most, reached.follows.most);
      };
      leads = reached.leads;
    }

    -- what follows the body of a turn
    after_row :
        (row : List ℤ) (c0 : Config) (e again n k : ℕ) (c : Config) (s : Progress) (x : End) (next : Progress → End)
        → Follows f s c0
        → f.least ≤ n
        → k ≤ f.most
        → Comes run (rowed input row (at_next input c0.feeds) e again n k f) c n again x × Whole n x
        → ((t : Progress) (d : Config) → Follows f t d → slice_get d.feeds input ≡ slice_get (at_next input c0.feeds)
        input
        → length t.locals ≡ n → Comes run f (at again f.stack d) n e (next t))
        → Comes run f c n e (after_turn x next)
    unfolding row_reached
    after_row row c0 e again n k c s (went_on t) next first least most (comes, whole) then =
        let here = row_reached row c0 e again n k c s t again first least most comes.0 in
        comes_led run f c (at again f.stack here.there) n e (next t) here.leads
        (then t here.there here.follows
        (comes.0.follows.kept input (or_left (input == input) (is_inside input f.around) (eq-eqb input input refl)))
        whole)
    after_row row c0 e again n k c s (broke t) next first least most (comes, whole) then =
        (row_reached row c0 e again n k c s t e first least most comes, whole)
    after_row row c0 e again n k c s (continued t) next first least most (comes, whole) then =
        let here = row_reached row c0 e again n k c s t again first least most comes in
        comes_led run f c (at again f.stack here.there) n e (next t) here.leads
        (then t here.there here.follows
        (comes.follows.kept input (or_left (input == input) (is_inside input f.around) (eq-eqb
        input input refl))) whole)
    after_row row c0 e again n k c s (returned v t) next first least most (comes, whole) then = record {
      there = comes.there;
      memory = comes.memory;
      sent = comes.sent;
      born = comes.born;
      fuel = comes.fuel;
      ends = comes.ends;
    }
    after_row row c0 e again n k c s (faulted fault) next first least most (comes, whole) then = comes

    -- the body of a turn comes to the next one, at each row
    abbrev pub RowsCome : List (List ℤ) → ℕ → ℕ → ℕ → (List ℤ → Progress → End) → Type 0
    RowsCome all e again n body =
        (k : ℕ) (s : Progress) (c : Config) (row : List ℤ) (t : Progress) (d : Config)
        → IsSound run (rowed input row (at_next input c.feeds) e again n k f)
        → Follows (rowed input row (at_next input c.feeds) e again n k f) t d
        → length t.locals ≡ n
        → Comes run (rowed input row (at_next input c.feeds) e again n k f) (at (again + 1) f.stack d) n again (body row
        t)
        × Whole n (body row t)

    -- a turn by the fuel
    row_by :
        (line e b n : ℕ) (all : List (List ℤ)) (row : List ℤ) (body : List ℤ → Progress → End) (next : Progress → End)
        (come : ℕ) (s : Progress) (c : Config) (fuel : ℕ)
        → f.least ≤ n
        → HasAt run b (Next line input e ∷ [])
        → RowsCome all e b n body
        → Follows f s c
        → length s.locals ≡ n
        → slice_get f.before.readings input ≡ Some all
        → slice_get all come ≡ Some row
        → slice_get c.feeds input ≡ Some (come_to all come)
        → come < length all
        → s.fuel ≡ fuel
        → ((t : Progress) (d : Config) → Follows f t d → slice_get d.feeds input ≡ Some (come_to all (come + 1))
        → length t.locals ≡ n → Comes run f (at b f.stack d) n e (next t))
        → Comes run f (at b f.stack c) n e (pay_from fuel line s (λ t. after_turn (body row t) next))
    row_by line e b n all row body next come s c zero least has bodies follows long listed there fed less fuel_is then =
        failed run (at b f.stack c) (Next line input e) (no_fuel line) (has_first run b (Next line input e) [] has)
        (ap (λ o. deliver (option_map_or has_more o false) line e (at b f.stack (record c {
          feeds = at_next input c.feeds;
        })))
        fed
        ∙ ap (λ z. deliver z line e (at b f.stack (record c { feeds = at_next input c.feeds })))
        (lt-ltb come (length all) less)
        ∙ ap (λ k. paid_from k line (at b f.stack (record c { feeds = at_next input c.feeds })) (λ
        d. next_at d.stack d))
        (follows.fuel ∙ fuel_is))
    row_by line e b n all row body next come s c (suc k) least has bodies follows long listed there
        fed less fuel_is then
        =
        let t : Progress = record s { fuel = k } in
        let feeds = at_next input c.feeds in
        let d = record (refuel k c) { feeds = feeds } in
        let inner : Follows (rowed input row feeds e b n k f) t d = record {
          memory = follows.memory;
          locals = follows.locals;
          sent = follows.sent;
          born = follows.born;
          fuel = refl;
          readings = rows-at_next input c.feeds ∙ follows.readings;
          kept = λ i within. refl;
          least = omega (arith, long);
          most = omega arith;
        } in
        let sound_row = row_sound s c all row come e b n k follows listed there fed less in
        comes_led run f (at b f.stack c) (at (b + 1) f.stack d) n e (after_turn (body row t) next)
        (performed run (at b f.stack c) (at (b + 1) f.stack d) (Next line input e)
        (has_first run b (Next line input e) [] has)
        (ap (λ o. deliver (option_map_or has_more o false) line e (at b f.stack (record c { feeds = feeds }))) fed
        ∙ ap (λ z. deliver z line e (at b f.stack (record c { feeds = feeds }))) (lt-ltb come (length all) less)
        ∙ ap (λ k. paid_from k line (at b f.stack (record c { feeds = feeds })) (λ d. next_at d.stack d))
        (follows.fuel ∙ fuel_is)))
        (after_row row c e b n k (at (b + 1) f.stack d) s (body row t) next follows least
        (omega (arith, fuel_is, follows.most))
        (bodies k s c row t d sound_row inner long)
        (λ u d2 there2 kept whole. then u d2 there2
        (kept ∙ changed_feed with_more input c.feeds (come_to all come) fed ∙ ap Some (more_come all come less)) whole))

    -- one turn for each row that is still to come
    pub rows_come :
        (line e b n : ℕ) (all : List (List ℤ)) (body : List ℤ → Progress → End)
        → f.least ≤ n
        → HasAt run b (Next line input e ∷ [])
        → RowsCome all e b n body
        → slice_get f.before.readings input ≡ Some all
        → (rows : List (List ℤ)) (come : ℕ) (s : Progress) (c : Config)
        → Follows f s c
        → length s.locals ≡ n
        → slice_get c.feeds input ≡ Some (come_to all come)
        → come + length rows ≡ length all
        → ((k : ℕ) (row : List ℤ) → slice_get rows k ≡ Some row → slice_get all (come + k) ≡ Some row)
        → Comes run f (at b f.stack c) n e (each_row line body rows s)
    rows_come line e b n all body least has bodies listed [] come s c follows long fed count found =
        let feeds = at_next input c.feeds in
        let d = record c { feeds = feeds } in (
          record {
            there = d;
            follows = feeds_follow s c feeds follows (rows-at_next input c.feeds)
                (λ i apart. other-kept with_more c.feeds input i apart);
            leads = performed run (at b f.stack c) (at e f.stack d) (Next line input e)
                (has_first run b (Next line input e) [] has)
                (ap (λ o. deliver (option_map_or has_more o false) line e (at b f.stack d)) fed
                ∙ ap (λ z. deliver z line e (at b f.stack d)) (none_more all come (omega (arith, count))));
          },
          long,
        )
    rows_come line e b n all body least has bodies listed (row ∷ rows) come s c follows long fed count found =
        let here : come + 0 ≡ come = omega arith in
        row_by line e b n all row body (each_row line body rows) come s c s.fuel least has bodies follows long listed
        (subst (λ k. slice_get all k ≡ Some row) here (found 0 row refl)) fed (omega (arith, count)) refl
        (λ t d there fed2 whole.
        rows_come line e b n all body least has bodies listed rows (come + 1) t d there whole fed2
        (omega (arith, count))
        (λ k r is.
        let next_place : come + suc k ≡ come + 1 + k = omega arith in
        subst (λ j. slice_get all j ≡ Some r) next_place (found (suc k) r is)))
