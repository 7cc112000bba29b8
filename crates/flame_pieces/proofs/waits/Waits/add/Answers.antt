-- One waits for a thing more.
use Rattle.std.proofs.Common.{◌≡◌, ◌+◌, ◌<◌, ℕ, List, Result, Ok, Err, OnErr, false, length, map, sym, ap, ◌∙◌, subst}
use Rattle.std.proofs.Common.{arith, length-set}
use Rattle.std.proofs.lemmas.List.{length-map}
use Rattle.std.specs.Prelude.{slice_index, slice_set}
use Rattle.flame_pieces.specs.Waiting.{Awaited, Waiting, awaited, thing_at, waited_by, AreCounts}
use Rattle.flame_pieces.proofs.Counting.{is_there, counts_added}
use Rattle.flame_pieces.proofs.Things.{at_zero, things_kept, things_changed}
use Rattle.flame_pieces.proofs.waits.Waits.add.Goals as goal

-- what holds anyway holds where there is an error
on_err : {A E P : Type 0} (r : Result A E) → P → OnErr r P
on_err (Ok a) holds = tt
on_err (Err e) holds = holds

pub invariant_of-self : goal.invariant_of-self
invariant_of-self c =
    let things = c.self.inside.things.items in
    let before : (thing_at (map awaited things) c.args.thing).done ≡ false =
    ap (λ (v : Waiting). (thing_at v.things c.args.thing).done) c.self.view_is ∙ c.requires.open in
    let there : c.args.thing < length things =
    omega (arith, is_there (map awaited things) c.args.thing before, length-map things awaited) in
    let P : List Awaited → Type 0 = λ l. AreCounts l c.self.inside.counts.items in
    subst P (sym (things_kept things c.args.thing c.index_mut.result.now c.add.new.self there c.index_mut.ensures.value
    c.in_err-add.ensures.err)) c.self.invariant

pub invariant_of-self-2 : goal.invariant_of-self-2
invariant_of-self-2 c =
    let things = c.self.inside.things.items in
    let counts = c.self.inside.counts.items in
    let before : (thing_at (map awaited things) c.args.thing).done ≡ false =
    ap (λ (v : Waiting). (thing_at v.things c.args.thing).done) c.self.view_is ∙ c.requires.open in
    let there : c.args.thing < length things =
    omega (arith, is_there (map awaited things) c.args.thing before, length-map things awaited) in
    let within : c.args.waiter < length counts =
    omega (arith, c.requires.within, ap (λ (v : Waiting). v.count) c.self.view_is) in
    let was = at_zero counts c.args.waiter c.index.result.now within c.index.ensures in
    let counted : slice_index counts c.args.waiter + 1 ≡ c.in-Some.count = ap (λ n. n + 1) (sym was)
    ∙ sym c.in-Some.ensures.1 in
    let P : List Awaited → List ℕ → Type 0 = λ l n. AreCounts l n in
    subst (λ l. P l (slice_set counts c.args.waiter c.in-Some.count))
    (sym (things_changed (waited_by c.args.waiter) things c.args.thing c.index_mut.result.now c.add.new.self there
    c.index_mut.ensures.value c.in_ok-add.ensures.ok))
    (subst (λ n. P (slice_set (map awaited things) c.args.thing
    (waited_by c.args.waiter (thing_at (map awaited things) c.args.thing))) (slice_set counts c.args.waiter n)) counted
    (counts_added (map awaited things) counts c.args.thing c.args.waiter c.self.invariant before within))

pub returns-in_err-add-clause-err : goal.returns-in_err-add-clause-err
returns-in_err-add-clause-err c =
    let things = c.self.inside.things.items in
    let before : (thing_at (map awaited things) c.args.thing).done ≡ false =
    ap (λ (v : Waiting). (thing_at v.things c.args.thing).done) c.self.view_is ∙ c.requires.open in
    let there : c.args.thing < length things =
    omega (arith, is_there (map awaited things) c.args.thing before, length-map things awaited) in
    let same = things_kept things c.args.thing c.index_mut.result.now c.add.new.self there c.index_mut.ensures.value
    c.in_err-add.ensures.err in
    let count = length c.self.inside.counts.items in
    let seen : List Awaited → Waiting = λ l. record { things = l; count = count } in
    on_err c.from_residual.result (ap seen same ∙ c.self.view_is)

pub returns-clause-ok : goal.returns-clause-ok
returns-clause-ok c =
    let things = c.self.inside.things.items in
    let counts = c.self.inside.counts.items in
    let before : (thing_at (map awaited things) c.args.thing).done ≡ false =
    ap (λ (v : Waiting). (thing_at v.things c.args.thing).done) c.self.view_is ∙ c.requires.open in
    let there : c.args.thing < length things =
    omega (arith, is_there (map awaited things) c.args.thing before, length-map things awaited) in
    let is = things_changed (waited_by c.args.waiter) things c.args.thing c.index_mut.result.now c.add.new.self there
    c.index_mut.ensures.value c.in_ok-add.ensures.ok
    ∙ ap (λ (v : Waiting). slice_set v.things c.args.thing (waited_by c.args.waiter (thing_at v.things c.args.thing)))
    c.self.view_is in
    let count = length-set counts c.args.waiter c.in-Some.count ∙ ap (λ (v : Waiting). v.count) c.self.view_is in
    λ i. record { things = is i; count = count i }
