-- One function more.
use Rattle.std.proofs.Common.{◌≡◌, ℕ, [], ◌<◌, List, Option, length, get_or, map, ap, sym, ◌∙◌, subst, arith, true, false, Bool, None, refl, ⊎_elim}
use Rattle.std.specs.Prelude.{slice_get}
use Rattle.std.proofs.lemmas.Bool.{false≢true, cases_lt}
use Rattle.std.proofs.lemmas.List.{get_or_past, length-map}
use Rattle.std.proofs.lemmas.Option.{slice_get_past, slice_get_read}
use Rattle.flame_rows.proofs.Lists.{take-written}
use Rattle.flame_spec.specs.Functions.{Place}
use Rattle.flame_spec.specs.Below.{all_below, is_in}
use Rattle.flame_spec.specs.Before.{before_among}
use Rattle.flame_depend.specs.PlacedFunctions.{shown}
use Rattle.flame_graph.specs.Marks.{marked_where}
use Rattle.flame_depend.specs.Links.{IsOfTypes, adds_at, enters_at, listed_at, is_linked}
use Rattle.flame_depend.proofs.Gets.{shown_at}
use Rattle.flame_graph.proofs.Marking.{marked_more}
use Rattle.flame_depend.proofs.Linking.{linked_is, none_after}
use Rattle.flame_depend.proofs.links.link_all.Goals as goal

-- who stands under a name is one of the functions
within : (ps : List Place) (f : ℕ) (test : Option Place → Bool) → test None ≡ false → test (slice_get ps f) ≡ true → f < length ps
within ps f test none h = ⊎_elim (λ l. l) (λ l. absurd (false≢true (sym (ap test (slice_get_past ps f l) ∙ none) ∙ h))) (cases_lt f (length ps))

pub index-requires : goal.index-requires
index-requires c =
    let at = shown_at c.args.places.now c.loop-i.i c.index-places-i.result c.loop-i-test.true c.index-places-i.is in
    let P : Option Place → Type 0 = IsOfTypes c.args.types in
    let of : c.index-places-i.result.agent < c.args.types = subst P at (c.requires.within c.loop-i.i) in
    omega (arith, of, c.in_ok-entering.ensures.len)

pub link-requires-clause-entering : goal.link-requires-clause-entering
link-requires-clause-entering c = λ q f h.
    let ps = map shown c.args.places.now in
    let place = c.index-places-i.result in
    let at = shown_at c.args.places.now c.loop-i.i place c.loop-i-test.true c.index-places-i.is in
    let P : Option Place → Type 0 = IsOfTypes c.args.types in
    let of : place.agent < c.args.types = subst P at (c.requires.within c.loop-i.i) in
    let there = slice_get_read c.in_ok-entering.entering.items (length c.in_ok-entering.entering.items) place.agent c.index.result.now refl (omega (arith, of, c.in_ok-entering.ensures.len)) c.index.ensures in
    let enters : enters_at (slice_get ps f) place.agent q ≡ true = sym (c.in_ok-entering.ensures.at place.agent of q f) ∙ ap (λ o. is_in f (listed_at o q)) there ∙ h in
    omega (arith, within ps f (λ o. enters_at o place.agent q) refl enters, length-map c.args.places.now shown, c.deref_mut.ensures.len, c.loop-i.invariant.len)

pub link-requires-clause-adding : goal.link-requires-clause-adding
link-requires-clause-adding c = λ q f h.
    let ps = map shown c.args.places.now in
    let added : adds_at (slice_get ps f) q ≡ true = sym (c.in_ok-adding.ensures q f) ∙ h in
    omega (arith, within ps f (λ o. adds_at o q) refl added, length-map c.args.places.now shown, c.deref_mut.ensures.len, c.loop-i.invariant.len)

pub loop-i-preserved : goal.loop-i-preserved
loop-i-preserved c =
    let ps = map shown c.args.places.now in
    let i = c.loop-i.i in
    let place = c.index-places-i.result in
    let at = shown_at c.args.places.now i place c.loop-i-test.true c.index-places-i.is in
    let P : Option Place → Type 0 = IsOfTypes c.args.types in
    let of : place.agent < c.args.types = subst P at (c.requires.within i) in
    let there = slice_get_read c.in_ok-entering.entering.items (length c.in_ok-entering.entering.items) place.agent c.index.result.now refl (omega (arith, of, c.in_ok-entering.ensures.len)) c.index.ensures in
    let items = c.deref_mut.ensures.value in
    let same : length c.link.new.lists ≡ length c.loop-i.lists.items = c.link.auto.lists ∙ ap (length {A = List ℕ}) items in
    let lent = take-written c.link.new.lists c.loop-i.lists.items c.loop-i.lists.len same (omega arith) in
    record {
      len = ap (length {A = List ℕ}) lent ∙ same ∙ c.loop-i.invariant.len;
      at = λ f l.
          let linked = linked_is c.args.types ps c.in_ok-entering.entering.items c.index.result.now c.in_ok-adding.adding i (shown place) c.in_ok-entering.ensures c.in_ok-adding.ensures of at there f in
          ap (λ xs. get_or xs f []) lent
          ∙ c.in_ok-link.ensures f (omega (arith, l, ap (length {A = List ℕ}) items, c.loop-i.invariant.len))
          ∙ ap (marked_where i (is_linked (shown place) c.index.result.now c.in_ok-adding.adding f)) (ap (λ xs. get_or xs f []) items ∙ c.loop-i.invariant.at f l)
          ∙ marked_more (before_among ps f) i (is_linked (shown place) c.index.result.now c.in_ok-adding.adding f) linked;
    }

pub returns : goal.returns
returns c =
    let ps = map shown c.args.places.now in
    let n = length c.args.places.now in
    let lists = c.loop-i.lists.items in
    let end : c.loop-i.i ≡ n = omega (arith, c.loop-i-test.false, c.loop-i.auto.i-end) in
    record {
      len = c.loop-i.invariant.len;
      at = λ f. ⊎_elim
          (λ l. c.loop-i.invariant.at f l ∙ ap (all_below (before_among ps f)) end)
          (λ l. get_or_past lists f [] (omega (arith, l, c.loop-i.invariant.len)) ∙ sym (none_after ps f n (omega (arith, l, length-map c.args.places.now shown))))
          (cases_lt f n);
    }
