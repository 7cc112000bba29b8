-- Which piece is next, and that one is begun where none is.
use Rattle.std.proofs.Common.{◌≡◌, ℕ, zero, suc, ◌+◌, ◌<◌, ◌≤◌, ⊎_elim, Bool, true, false, cond, List, [], ◌∷◌, take, length, Option, Some, None, refl, sym, ap, ◌∙◌, arith, subst, get_or-set_same, get_or-set_other}
use Rattle.std.specs.Prelude.{◌==◌, ◌||◌, not, nat_lt, is_some, is_none, slice_get, slice_set, slice_index}
use Rattle.std.specs.List.{list_all, filter_map, cons_option}
use Rattle.std.proofs.lemmas.Bool.{and_parts, cases_Bool, cases_eq, cases_lt, eqb-true, eq-eqb, ne_eqb, ltb-true, ltb-false, lt-ltb, le-ltb, true≢false, false≢true}
use Rattle.std.proofs.lemmas.Option.{slice_get_within}
use Rattle.flame_rows.proofs.Lists.{slice_get-some}
use Rattle.flame_meaning.proofs.Eachs.{each_at}
use Rattle.flame_spec.specs.declared.models.Model.{Model}
use Rattle.flame_spec.specs.Below.{is_in}
use Rattle.flame_spec.specs.Lists.{first}
use Rattle.flame_spec.specs.ModelOrder.{model_order}
use Rattle.flame_world.specs.Iterations.{Round}
use Rattle.flame_events.specs.declared.events.Event.{Event}
use Rattle.flame_events.specs.declared.events.Event.TheVariants as event
use Rattle.flame_events.specs.CoreEnds.{is_complete, least_fault_rank, wanted}
use Rattle.flame_events.specs.CoreStates.{Work, is_waiting, works_of, has_left, part_in, Core, status_of, work_of}
use Rattle.flame_events.specs.CoreLaws.{EventsLeadTo}
use Rattle.flame_events.specs.EveryOrder.{IsOfWanted}
use Rattle.flame_events.specs.LegalEvents.{outputs_of, is_over, is_legal}
use Rattle.flame_events.proofs.GoingOn.{can_go_on}
use Rattle.flame_events.proofs.KeptCores.{KeptWork, kept_core}
use Rattle.flame_events.proofs.LeastRanks.{lower_ranks_are_wanted}
use Rattle.flame_events.proofs.Serial.{is_in-self, is_in-cases}
use Rattle.flame_events.proofs.Sound.{opens_with}
use Rattle.flame_events.proofs.Weights.{Rows}
use Rattle.flame_events.proofs.Works.{all_of_list, kept_is_output}
use Rattle.flame_orders.proofs.Lasting.{runs, Hands, hands, none_left}
use Rattle.flame_flow.specs.QuietCores.{IsQuiet, ArePiecesWhole}
use Rattle.flame_flow.specs.BegunPieces.{has_next, is_due, IsRising, AreMarksOf}
use Rattle.flame_flow.specs.FlowStates.{next_of, next_piece, HasBegun}
use Rattle.flame_flow.proofs.Lists.{first_least, first_once}
use Rattle.flame_flow.proofs.Marked.{one_rank}

-- ---- the first that passes

module _ {X : Type 0} (P : ℕ → Option X) where
  first_none : (fs : List ℕ) → ((s g : ℕ) → slice_get fs s ≡ Some g → P g ≡ None) → first (filter_map P fs) ≡ None
  first_none [] none = refl
  first_none (f ∷ fs) none =
      ap (λ o. first (cons_option o (filter_map P fs))) (none 0 f refl) ∙ first_none fs (λ s g at. none (suc s) g at)

  first_at : (fs : List ℕ) (r f : ℕ) (x : X) → slice_get fs r ≡ Some f → P f ≡ Some x → ((s g : ℕ) → s < r → slice_get fs s ≡ Some g → P g ≡ None)
      → first (filter_map P fs) ≡ Some x
  first_at [] r f x at is none = absurd cc
  first_at (g ∷ fs) zero f x at is none =
      let same : g ≡ f = cc in
      ap (λ o. first (cons_option o (filter_map P fs))) (ap P same ∙ is)
  first_at (g ∷ fs) (suc r) f x at is none =
      ap (λ o. first (cons_option o (filter_map P fs))) (none 0 g (omega arith) refl)
      ∙ first_at fs r f x at is (λ s h less there. none (suc s) h (omega arith) there)

  none_in : (fs : List ℕ) (f : ℕ) → first (filter_map P fs) ≡ None → is_in f fs ≡ true → P f ≡ None
  none_in [] f none within = absurd (false≢true within)
  none_in (g ∷ fs) f none within = go (λ rest. none_in fs f rest) (P g) refl none
    where
      go : (first (filter_map P fs) ≡ None → is_in f fs ≡ true → P f ≡ None) → (o : Option X) → P g ≡ o
          → first (cons_option o (filter_map P fs)) ≡ None → P f ≡ None
      go more None is none = ⊎_elim
          (λ (same : f ≡ g). ap P same ∙ is)
          (λ (later : is_in f fs ≡ true). more none later)
          (is_in-cases f g fs within)
      go more (Some x) is none = absurd cc

get_take : (n : ℕ) (xs : List ℕ) (i x : ℕ) → slice_get (take n xs) i ≡ Some x → (i < n) × (slice_get xs i ≡ Some x)
get_take zero xs i x at = absurd cc
get_take (suc n) [] i x at = absurd cc
get_take (suc n) (y ∷ xs) zero x at = (omega arith, at)
get_take (suc n) (y ∷ xs) (suc i) x at = let rest = get_take n xs i x at in (omega (arith, rest.0), rest.1)

take_get : (n : ℕ) (xs : List ℕ) (i x : ℕ) → i < n → slice_get xs i ≡ Some x → slice_get (take n xs) i ≡ Some x
take_get zero xs i x less at = absurd (omega arith)
take_get (suc n) [] i x less at = absurd cc
take_get (suc n) (y ∷ xs) zero x less at = at
take_get (suc n) (y ∷ xs) (suc i) x less at = take_get n xs i x (omega arith) at

-- ---- the next piece

no_next : (begun : List ℕ) (core : Core) (f : ℕ) → has_next begun core (Some f) ≡ false → next_of begun core f ≡ None
no_next begun core f none = ap (λ b. cond b (Some (f, slice_index begun f)) None) none

a_next : (begun : List ℕ) (core : Core) (f : ℕ) → has_next begun core (Some f) ≡ true → next_of begun core f ≡ Some (f, slice_index begun f)
a_next begun core f some = ap (λ b. cond b (Some (f, slice_index begun f)) None) some

-- both numbers
abbrev both : ℕ → ℕ → ℕ × ℕ
both f k = (f, k)

module _ (model : Model) (begun due : List ℕ) (core : Core) (marks : AreMarksOf model begun due core) where
  not_due : (s g : ℕ) → is_in s due ≡ false → slice_get (model_order model) s ≡ Some g → next_of begun core g ≡ None
  not_due s g out at = no_next begun core g (sym (ap (has_next begun core) at) ∙ sym (marks.due_are s) ∙ out)

  -- nothing is due: there is none
  pub next_none : due ≡ [] → next_piece model begun core ≡ None
  next_none none = go (least_fault_rank model core) refl
    where
      out : (s : ℕ) → is_in s due ≡ false
      out s = ap (is_in s) none

      go : (o : Option ℕ) → least_fault_rank model core ≡ o → next_piece model begun core ≡ None
      go None is =
          ap (λ fs. first (filter_map (next_of begun core) fs)) ((lower_ranks_are_wanted model core).1 is)
          ∙ first_none (next_of begun core) (model_order model) (λ s g at. not_due s g (out s) at)
      go (Some rank) is =
          ap (λ fs. first (filter_map (next_of begun core) fs)) ((lower_ranks_are_wanted model core).0 rank is)
          ∙ first_none (next_of begun core) (take rank (model_order model)) (λ s g at. not_due s g (out s) (get_take rank (model_order model) s g at).1)

  module _ (rank : ℕ) (rest : List ℕ) (is_due_list : due ≡ rank ∷ rest) where
    rising : IsRising (rank ∷ rest)
    rising = subst IsRising is_due_list marks.rising

    is_first : is_due model begun core rank ≡ true
    is_first = sym (marks.due_are rank) ∙ ap (is_in rank) is_due_list ∙ is_in-self rank rest

    earlier : (s : ℕ) → s < rank → is_in s due ≡ false
    earlier s less = ⊎_elim
        (λ (t : is_in s due ≡ true). let least = first_least rank s rest rising (sym (ap (is_in s) is_due_list) ∙ t) in absurd (omega arith))
        (λ (f : is_in s due ≡ false). f)
        (cases_Bool (is_in s due))

    -- the function of the first rank has one
    pub record HasFirst : Type 0 where
      pub function : ℕ
      pub at : slice_get (model_order model) rank ≡ Some function
      pub next : has_next begun core (Some function) ≡ true

    pub has_first : HasFirst
    has_first = go (slice_get (model_order model) rank) refl
      where
        go : (o : Option ℕ) → slice_get (model_order model) rank ≡ o → HasFirst
        go None is = absurd (false≢true (sym (ap (has_next begun core) is) ∙ is_first))
        go (Some f) is = record { function = f; at = is; next = sym (ap (has_next begun core) is) ∙ is_first }

    pub next_first : (f : ℕ) → slice_get (model_order model) rank ≡ Some f → least_fault_rank model core ≡ None → next_piece model begun core ≡ Some (f, slice_index begun f)
    next_first f at none =
        ap (λ fs. first (filter_map (next_of begun core) fs)) ((lower_ranks_are_wanted model core).1 none)
        ∙ first_at (next_of begun core) (model_order model) rank f (f, slice_index begun f) at
        (a_next begun core f (sym (ap (has_next begun core) at) ∙ is_first)) (λ s g less there. not_due s g (earlier s less) there)

    pub next_below : (f least : ℕ) → slice_get (model_order model) rank ≡ Some f → least_fault_rank model core ≡ Some least → rank < least
        → next_piece model begun core ≡ Some (f, slice_index begun f)
    next_below f least at some below =
        ap (λ fs. first (filter_map (next_of begun core) fs)) ((lower_ranks_are_wanted model core).0 least some)
        ∙ first_at (next_of begun core) (take least (model_order model)) rank f (f, slice_index begun f) (take_get least (model_order model) rank f below at)
        (a_next begun core f (sym (ap (has_next begun core) at) ∙ is_first))
        (λ s g less there. not_due s g (earlier s less) (get_take least (model_order model) s g there).1)

    pub next_above : (least : ℕ) → least_fault_rank model core ≡ Some least → least ≤ rank → next_piece model begun core ≡ None
    next_above least some above =
        ap (λ fs. first (filter_map (next_of begun core) fs)) ((lower_ranks_are_wanted model core).0 least some)
        ∙ first_none (next_of begun core) (take least (model_order model))
        (λ s g at. let found = get_take least (model_order model) s g at in not_due s g (earlier s (omega (arith, found.0))) found.1)

  -- what the next piece tells of what is due
  pub record Next (f k : ℕ) : Type 0 where
    pub rank : ℕ
    pub rest : List ℕ
    pub due_is : due ≡ rank ∷ rest
    pub at : slice_get (model_order model) rank ≡ Some f
    pub piece : slice_index begun f ≡ k
    pub below : k < length (works_of (status_of core f))

  pub next_is : (f k : ℕ) → next_piece model begun core ≡ Some (f, k) → Next f k
  next_is f k is = go due refl
    where
      pair : (g j : ℕ) → Some (both g j) ≡ Some (both f k) → (g ≡ f) × (j ≡ k)
      pair g j e = let same : both g j ≡ both f k = cc in (ap (λ (p : ℕ × ℕ). p.0) same, ap (λ (p : ℕ × ℕ). p.1) same)

      nothing : (o : Option (ℕ × ℕ)) → o ≡ None → o ≡ Some (both f k) → ⊥
      nothing o none some = cc

      with_first : (rank : ℕ) (rest : List ℕ) (list : due ≡ rank ∷ rest) → HasFirst rank rest list → (o : Option ℕ) → least_fault_rank model core ≡ o → Next f k
      with_first rank rest list has None none =
          let same = pair has.function (slice_index begun has.function) (sym (next_first rank rest list has.function has.at none) ∙ is) in
          record {
            rank = rank;
            rest = rest;
            due_is = list;
            at = has.at ∙ ap Some same.0;
            piece = ap (slice_index begun) (sym same.0) ∙ same.1;
            below = subst (λ j. j < length (works_of (status_of core f))) (ap (slice_index begun) (sym same.0) ∙ same.1)
                (ltb-true (slice_index begun f) (length (works_of (status_of core f))) (ap (λ g. has_next begun core (Some g)) (sym same.0) ∙ has.next));
          }
      with_first rank rest list has (Some least) some = ⊎_elim
          (λ (less : rank < least).
          let same = pair has.function (slice_index begun has.function) (sym (next_below rank rest list has.function least has.at some less) ∙ is) in
          record {
            rank = rank;
            rest = rest;
            due_is = list;
            at = has.at ∙ ap Some same.0;
            piece = ap (slice_index begun) (sym same.0) ∙ same.1;
            below = subst (λ j. j < length (works_of (status_of core f))) (ap (slice_index begun) (sym same.0) ∙ same.1)
                (ltb-true (slice_index begun f) (length (works_of (status_of core f))) (ap (λ g. has_next begun core (Some g)) (sym same.0) ∙ has.next));
          })
          (λ (more : least ≤ rank). absurd (nothing (next_piece model begun core) (next_above rank rest list least some more) is))
          (cases_lt rank least)

      go : (l : List ℕ) → due ≡ l → Next f k
      go [] none = absurd (nothing (next_piece model begun core) (next_none none) is)
      go (rank ∷ rest) list = with_first rank rest list (has_first rank rest list) (least_fault_rank model core) refl

-- ---- where there is none, and the core is not complete

module _ (round : Round) (pieces : ℕ) (core : Core) (led : EventsLeadTo round pieces core) (whole : ArePiecesWhole round.source.model core) where
  -- a piece of which none ran, or that is over
  pub unrun_left : (f k : ℕ) (work : Work) → work_of core f k ≡ Some work → has_left work ≡ true → work.ran ≡ 0
  unrun_left f k work there left = ⊎_elim
      (λ (none : work.ran ≡ 0). none)
      (λ (over : is_over (outputs_of round.source.model f) work ≡ true). absurd (true≢false (sym left ∙ none_left (outputs_of round.source.model f) work over)))
      (whole f k work there)

  pub left_unrun : (f k : ℕ) (work : Work) → work_of core f k ≡ Some work → work.ran ≡ 0 → has_left work ≡ true
  left_unrun f k work there none =
      let kept = each_at (KeptWork (outputs_of round.source.model f)) (works_of (status_of core f)) k work ((kept_core round pieces core led).works f).each there in
      lt-ltb work.ran (length work.agents) (omega (arith, none, kept.some))

  -- no messages may be handed in
  none_hands : (f k m : ℕ) → Hands (outputs_of round.source.model f) core f k m → ⊥
  none_hands f k m found = ⊎_elim
      (λ (none : found.work.ran ≡ 0). true≢false (sym (left_unrun f k found.work found.there none) ∙ found.over))
      (λ (over : is_over outs found.work ≡ true).
      let all = (and_parts (not (has_left found.work)) (list_all (λ m. is_none (part_in outs found.work.parts m)) outs) over).1 in
      let kept = each_at (KeptWork outs) (works_of (status_of core f)) k found.work ((kept_core round pieces core led).works f).each found.there in
      there (part_in outs found.work.parts m) refl found.part
      (λ rows is. all_of_list (λ m. is_none (part_in outs found.work.parts m)) outs m all (kept_is_output outs found.work.parts m rows kept.long is)))
      (whole f k found.work found.there)
    where
      outs : List ℕ
      outs = outputs_of round.source.model f

      there : (o : Option Rows) → part_in outs found.work.parts m ≡ o → is_some o ≡ true
          → ((rows : Rows) → part_in outs found.work.parts m ≡ Some rows → is_none (part_in outs found.work.parts m) ≡ true) → ⊥
      there None is some none = false≢true some
      there (Some rows) is some none = false≢true (sym (ap is_none is) ∙ none rows is)

  pub begun_where_idle : (begun : List ℕ) → IsQuiet round.source.model core → is_complete round.source.model core ≡ false → next_piece round.source.model begun core ≡ None
      → HasBegun round.source.model begun core
  begun_where_idle begun quiet going_on none =
      let on = can_go_on round.source.model core going_on in by on.0 on.1 on.2
    where
      by : (e : Event) → is_legal round.source.model core e ≡ true → IsOfWanted round.source.model core e → HasBegun round.source.model begun core
      by (event.Open f) legal own = absurd (false≢true (quiet (event.Open f) legal))
      by (event.Agent f k) legal own =
          let found = runs core f k legal in
          let out = none_in (next_of begun core) (wanted round.source.model core) f none own in
          let within : k < length (works_of (status_of core f)) = slice_get_within (works_of (status_of core f)) k found.work found.there in
          record {
            function = f;
            piece = k;
            is = record {
              is_wanted = own;
              work = found.work;
              there = found.there;
              unrun = unrun_left f k found.work found.there found.left;
              marked = ⊎_elim
                  (λ (more : nat_lt (slice_index begun f) (length (works_of (status_of core f))) ≡ true). absurd (never (sym (a_next begun core f more) ∙ out)))
                  (λ (less : nat_lt (slice_index begun f) (length (works_of (status_of core f))) ≡ false).
                  omega (arith, within, ltb-false (slice_index begun f) (length (works_of (status_of core f))) less))
                  (cases_Bool (nat_lt (slice_index begun f) (length (works_of (status_of core f)))));
            };
          }
        where
          never : Some (both f (slice_index begun f)) ≡ None → ⊥
          never e = cc
      by (event.HandIn f k m) legal own = absurd (none_hands f k m (hands (outputs_of round.source.model f) core f k m legal))
      by (event.Shut f) legal own = absurd (false≢true (quiet (event.Shut f) legal))
      by (event.Freeze m) legal own = absurd (false≢true (quiet (event.Freeze m) legal))

-- ---- a piece is begun

pub marks_begun : (model : Model) (begun due : List ℕ) (core : Core) (f k rank : ℕ) (rest : List ℕ)
    → AreMarksOf model begun due core → due ≡ rank ∷ rest → slice_get (model_order model) rank ≡ Some f → slice_index begun f ≡ k
    → k < length (works_of (status_of core f)) → f < length begun
    → AreMarksOf model (slice_set begun f (k + 1)) (cond (k + 1 == length (works_of (status_of core f))) rest due) core
marks_begun model begun due core f k rank rest marks list at was below inside = record {
  rising = elim (k + 1 == length (works_of (status_of core f))) as (λ b. IsRising (cond b rest due)) [ true ↦ rising.1 | false ↦ marks.rising ];
  due_are = λ s. ⊎_elim
      (λ (same : s ≡ rank).
      ap (λ n. is_in n (cond (k + 1 == length (works_of (status_of core f))) rest due)) same
      ∙ own ∙ ap (λ n. is_due model (slice_set begun f (k + 1)) core n) (sym same))
      (λ (away : s ≡ rank → ⊥).
      apart_in s away (k + 1 == length (works_of (status_of core f)))
      ∙ marks.due_are s
      ∙ apart_due s away (slice_get (model_order model) s) refl)
      (cases_eq s rank);
  fresh = λ g waits. ⊎_elim
      (λ (same : g ≡ f). absurd (waits_none (ap (λ h. is_waiting (status_of core h)) (sym same) ∙ waits)))
      (λ (away : g ≡ f → ⊥). get_or-set_other begun f g (k + 1) 0 away ∙ marks.fresh g waits)
      (cases_eq g f);
  ran = λ g j work there ran. ⊎_elim
      (λ (same : g ≡ f).
      let old : j < slice_index begun g = marks.ran g j work there ran in
      let is : slice_index (slice_set begun f (k + 1)) g ≡ k + 1 = ap (slice_index (slice_set begun f (k + 1))) same ∙ set_here in
      omega (arith, old, is, ap (slice_index begun) same, was))
      (λ (away : g ≡ f → ⊥). subst (λ n. j < n) (sym (get_or-set_other begun f g (k + 1) 0 away)) (marks.ran g j work there ran))
      (cases_eq g f);
}
  where
    rising : IsRising (rank ∷ rest)
    rising = subst IsRising list marks.rising

    set_here : slice_index (slice_set begun f (k + 1)) f ≡ k + 1
    set_here = get_or-set_same begun f (k + 1) 0 inside

    waits_none : is_waiting (status_of core f) ≡ true → ⊥
    waits_none waits =
        let found = slice_get-some (works_of (status_of core f)) k below in
        true≢false (sym waits ∙ ap is_waiting (opens_with (status_of core f) k found.0 found.1))

    in_rest : (s : ℕ) → (s ≡ rank → ⊥) → is_in s rest ≡ is_in s due
    in_rest s away = sym (ap (λ b. b || is_in s rest) (ne_eqb rank s (λ same. away (sym same)))) ∙ sym (ap (is_in s) list)

    apart_in : (s : ℕ) → (s ≡ rank → ⊥) → (b : Bool) → is_in s (cond b rest due) ≡ is_in s due
    apart_in s away true = in_rest s away
    apart_in s away false = refl

    apart_due : (s : ℕ) → (s ≡ rank → ⊥) → (o : Option ℕ) → slice_get (model_order model) s ≡ o → has_next begun core o ≡ has_next (slice_set begun f (k + 1)) core o
    apart_due s away None is = refl
    apart_due s away (Some g) is =
        ap (λ n. nat_lt n (length (works_of (status_of core g))))
        (sym (get_or-set_other begun f g (k + 1) 0 (λ same. away (one_rank model s rank f (is ∙ ap Some same) at))))

    not_all : (k + 1 == length (works_of (status_of core f))) ≡ false → k + 1 ≡ length (works_of (status_of core f)) → ⊥
    not_all some same = true≢false (sym (eq-eqb (k + 1) (length (works_of (status_of core f))) same) ∙ some)

    own : is_in rank (cond (k + 1 == length (works_of (status_of core f))) rest due) ≡ is_due model (slice_set begun f (k + 1)) core rank
    own =
        go (k + 1 == length (works_of (status_of core f))) refl
        ∙ sym (ap (λ n. nat_lt n (length (works_of (status_of core f)))) set_here)
        ∙ sym (ap (has_next (slice_set begun f (k + 1)) core) at)
      where
        go : (b : Bool) → (k + 1 == length (works_of (status_of core f))) ≡ b → is_in rank (cond b rest due) ≡ nat_lt (k + 1) (length (works_of (status_of core f)))
        go true all = first_once rank rest rising ∙ sym (le-ltb (k + 1) (length (works_of (status_of core f))) (omega (arith, eqb-true (k + 1) (length (works_of (status_of core f))) all)))
        go false some =
            ap (is_in rank) list ∙ is_in-self rank rest
            ∙ sym (lt-ltb (k + 1) (length (works_of (status_of core f))) (omega (arith, below, not_all some)))
