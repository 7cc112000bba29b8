use mir.Syntax.{w32}
use mir.Val.{to_z, of_z}
use Rattle.std.proofs.Common.{◌≡◌, ℤ, pos, ◌+ℤ◌, ◌+◌, [], ◌∷◌, ◌++◌, length, sym, ap, ◌∙◌, subst, rules}
use Rattle.std.proofs.lemmas.List.{length_push}
use Rattle.flame_index.specs.IndexBodies.{IsStartOf, AreStartsOf}
use Rattle.flame_index.proofs.Starting.{less_on, starts_push}
use Rattle.flame_index.proofs.starts.counted.Goals as goal

pub loop-place-preserved : goal.loop-place-preserved
loop-place-preserved c =
    let values = c.args.values.now in
    let place = c.loop-place.place in
    let old = c.loop-place.counts.items in
    let count = c.in_ok-number.field-0 in
    let least : ℤ = to_z w32 (of_z w32 c.args.least) in
    let here : IsStartOf (least +ℤ pos place) values c.start-at.result = search rules in
    let is : IsStartOf (least +ℤ pos (length old)) values count =
    subst (λ k. IsStartOf (least +ℤ pos k) values count) (sym c.loop-place.invariant.long)
    (subst (λ n. IsStartOf (least +ℤ pos place) values n) (sym c.in_ok-number.ensures) here) in
    let items : c.push.new.self.items ≡ old ++ count ∷ [] = c.in_ok-push.ensures.items in
    record {
      within = here.within;
      passed = less_on least place values c.start-at.result here;
      long = ap length items ∙ length_push old count ∙ ap (λ n. n + 1) c.loop-place.invariant.long;
      starts = subst (λ counts. AreStartsOf least counts values) (sym items) (starts_push least old count values c.loop-place.invariant.starts is);
    }
