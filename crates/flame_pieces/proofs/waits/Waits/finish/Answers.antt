-- A thing is done.
use Rattle.std.proofs.Common.{◌≡◌, ◌+◌, ◌<◌, ℕ, List, true, false, length, map, take, drop, ◌++◌, refl, sym, ap, ◌∙◌, subst, arith, get_or-set_same}
use Rattle.std.specs.Prelude.{slice_index, slice_set}
use Rattle.std.proofs.lemmas.List.{length-map}
use Rattle.flame_rows.proofs.Lists.{take-written}
use Rattle.flame_spec.specs.Below.{times}
use Rattle.flame_pieces.specs.Waiting.{Awaited, Waiting, awaited, thing_at, finished, AreCounts}
use Rattle.flame_pieces.specs.declared.waits.Awaited as run
use Rattle.flame_pieces.proofs.Counting.{is_there, counts_finished}
use Rattle.flame_pieces.proofs.Things.{thing_is, things_changed}
use Rattle.flame_pieces.proofs.waits.Waits.finish.Goals as goal

pub invariant_of-self : goal.invariant_of-self
invariant_of-self c =
    let things = c.self.inside.things.items in
    let counts = c.self.inside.counts.items in
    let thing = c.args.thing in
    let before : (thing_at (map awaited things) thing).done ≡ false =
    ap (λ (v : Waiting). (thing_at v.things thing).done) c.self.view_is ∙ c.requires in
    let there : thing < length things = omega (arith, is_there (map awaited things) thing before, length-map things awaited) in
    let is = thing_is things thing c.index_mut.result.now there c.index_mut.ensures.value in
    let after = things_changed finished things thing c.index_mut.result.now (record { waiters = c.index_mut.result.now.waiters; done = true }) there c.index_mut.ensures.value refl in
    let long : length c.lessen.new.counts ≡ length counts = c.lessen.auto.counts ∙ ap (length {A = ℕ}) c.deref_mut.ensures.value in
    let all = take-written c.lessen.new.counts counts c.self.inside.counts.len long (omega arith) in
    let read : c.index.result.now ≡ record { waiters = c.index_mut.result.now.waiters; done = true } =
    c.index.ensures
    ∙ get_or-set_same things thing (record { waiters = c.index_mut.result.now.waiters; done = true }) c.index.result.now there in
    let waiters : c.deref.result.now ≡ (thing_at (map awaited things) thing).waiters =
    c.deref.ensures.value ∙ ap (λ (t : run.Awaited). t.waiters.items) read ∙ ap (λ (t : Awaited). t.waiters) is in
    let less : (number : ℕ) → slice_index c.lessen.new.counts number + times number (thing_at (map awaited things) thing).waiters ≡ slice_index counts number =
    λ number.
    ap (λ l. slice_index c.lessen.new.counts number + times number l) (sym waiters)
    ∙ c.lessen.ensures number
    ∙ ap (λ l. slice_index l number) c.deref_mut.ensures.value in
    let P : List Awaited → List ℕ → Type 0 = λ l n. AreCounts l n in
    subst (λ l. P l (take c.self.inside.counts.len (c.lessen.new.counts ++ drop (length c.lessen.new.counts) counts))) (sym after)
    (subst (λ n. P (slice_set (map awaited things) thing (finished (thing_at (map awaited things) thing))) n) (sym all)
    (counts_finished (map awaited things) counts c.lessen.new.counts thing c.self.invariant before long less))

pub returns : goal.returns
returns c =
    let things = c.self.inside.things.items in
    let counts = c.self.inside.counts.items in
    let thing = c.args.thing in
    let before : (thing_at (map awaited things) thing).done ≡ false =
    ap (λ (v : Waiting). (thing_at v.things thing).done) c.self.view_is ∙ c.requires in
    let there : thing < length things = omega (arith, is_there (map awaited things) thing before, length-map things awaited) in
    let after = things_changed finished things thing c.index_mut.result.now (record { waiters = c.index_mut.result.now.waiters; done = true }) there c.index_mut.ensures.value refl
    ∙ ap (λ (v : Waiting). slice_set v.things thing (finished (thing_at v.things thing))) c.self.view_is in
    let long : length c.lessen.new.counts ≡ length counts = c.lessen.auto.counts ∙ ap (length {A = ℕ}) c.deref_mut.ensures.value in
    let all = ap (length {A = ℕ}) (take-written c.lessen.new.counts counts c.self.inside.counts.len long (omega arith)) in
    let count = all ∙ long ∙ ap (λ (v : Waiting). v.count) c.self.view_is in
    λ i. record { things = after i; count = count i }
