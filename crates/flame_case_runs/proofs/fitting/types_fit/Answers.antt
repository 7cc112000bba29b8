use Rattle.std.proofs.Common.{◌≡◌, ◌∙◌, ◌+◌, ◌<◌, ◌++◌, [], ◌∷◌, List, Some, ap, arith, get_or, length, sym, subst, suc, take, zero, ℕ}
use Rattle.std.specs.Prelude.{ℤ, slice_get}
use Rattle.std.specs.List.{AllZip}
use Rattle.std.proofs.lemmas.List.{take_more}
use Rattle.flame_spec.specs.declared.models.AgentType.{AgentType}
use Rattle.flame_spec.specs.Columns.{width}
use Rattle.flame_world.specs.WorldFits.{AreWide}
use Rattle.flame_route.proofs.Places.{zip-taken}
use Rattle.flame_case_runs.proofs.fitting.types_fit.Goals as goal

get-there : {X : Type 0} (xs : List X) (k : ℕ) (x : X) → k < length xs → x ≡ get_or xs k x → slice_get xs k ≡ Some x
get-there [] k x within at = absurd (omega (arith, within))
get-there (y ∷ xs) zero x within at = ap Some (sym at)
get-there (y ∷ xs) (suc k) x within at = get-there xs k x (omega (arith, within)) at

pub loop-i-preserved : goal.loop-i-preserved
loop-i-preserved c =
    let types = c.args.types.now in
    let bags = c.args.bags.now in
    let i = c.loop-i.i in
    let type = c.index-types-i.result in
    let bag = c.index-bags-i.result in
    let more : take (i + 1) bags ≡ take i bags ++ bag ∷ [] =
    take_more bags i bag (omega (arith, c.loop-i-test.true, c.if-types-bags.false))
    ∙ ap (λ (b : List (List ℤ)). take i bags ++ b ∷ []) (sym c.index-bags-i.is) in
    let wide : AreWide (width type.memory) bag = c.in_ok-type_fits.ensures c.if-not-branch.false in
    subst (λ list. AllZip (λ (agent : AgentType) agents. AreWide (width agent.memory) agents) (take (i + 1) types) list) (sym more)
    (zip-taken (λ (agent : AgentType) agents. AreWide (width agent.memory) agents) types i (take i bags) type bag
    (get-there types i type c.loop-i-test.true c.index-types-i.is) c.loop-i.invariant wide)
