use Rattle.std.proofs.Common.{◌≡◌, ◌∙◌, ◌<◌, ◌++◌, ◌+◌, [], ◌∷◌, List, ap, append_assoc, arith, drop, get_or, length, length-append, map, sym, subst, refl, Vec}
use Rattle.std.specs.Prelude.{ℤ}
use Rattle.std.specs.Global.{Global}
use Rattle.std.specs.List.{zip}
use Rattle.std.specs.Vec.Iter.{into_iter_items, into_iter_len}
use Rattle.std.specs.Iterator.Adapters.{zip_first, zip_second}
use Rattle.std.specs.Slice.Iter.{iter_rest}
use Rattle.std.proofs.lemmas.List.{length-map, map-append}
use Rattle.std.proofs.lemmas.Option.{slice_get_read}
use Rattle.std.proofs.lemmas.Slice.Zip.{AllZip-long}
use Rattle.flame_rows.specs.Bags.{ascending}
use Rattle.flame_spec.specs.declared.models.AgentType.{AgentType}
use Rattle.flame_spec.specs.Choice.{functions_out}
use Rattle.flame_spec.specs.States.{is_entered, states}
use Rattle.flame_route.specs.ModelRoutes.{start_place}
use Rattle.flame_program.proofs.Acceptances.{accepted-are-runnable}
use Rattle.flame_world.specs.Fields.{begun, changed}
use Rattle.flame_field.specs.KeptPools.{pool_bags, pools_of}
use Rattle.flame_round.proofs.Beginnings.{next-type, nones, some-left, stands-alone}
use Rattle.flame_field.specs.declared.pools.Pool.{Pool}
use Rattle.flame_round.proofs.Dealt.{each-pushed, all-dealt, all-none, AllDealt, AnyDealt}
use Rattle.flame_round.proofs.opening.pools_begun.Goals as goal

pub loop-bag-init : goal.loop-bag-init
loop-bag-init c =
    let types = c.args.program.now.model.agents in
    let zipped = c.into_iter-bag-iterator.ensures.into_iter_gives in
    let all = into_iter_items (zip_first c.into_iter-bag-iterator.result) in
    let bags : all ≡ c.args.agents =
    ap (λ z. into_iter_items (zip_first z)) zipped
    ∙ ap into_iter_items c.zip-bag-items.ensures.first
    ∙ c.into_iter.ensures.rest
    ∙ c.into_items.ensures in
    let empty = c.new-pools.ensures.items in
    record {
      counted =
          ap (λ z. into_iter_len (zip_first z)) zipped
          ∙ ap into_iter_len c.zip-bag-items.ensures.first
          ∙ c.into_iter.ensures.len
          ∙ c.into_items.result.ok.0
          ∙ ap length (c.into_items.ensures ∙ sym bags);
      starts =
          ap (λ z. iter_rest (zip_second z)) zipped
          ∙ c.zip-bag-items.ensures.second.0
          ∙ c.items.ensures
          ∙ c.routes-routes.ensures.starts
          ∙ ap (λ ps. map start_place (drop (length ps) types)) (sym empty);
      many =
          ap length bags
          ∙ sym ((sym (AllZip-long _ types c.args.agents c.requires)))
          ∙ ap (λ ps. length (drop (length ps) types)) (sym empty);
      begins =
          (λ i. map (λ ((t, b) : AgentType × List (List ℤ)). begun t b) (zip types (sym bags i)))
          ∙ ap (λ ps. map pool_bags ps ++ map (λ ((t, b) : AgentType × List (List ℤ)). begun t b) (zip (drop (length ps) types) all)) (sym empty);
      dealt = all-none c.new-pools.result.items empty;
    }

pub begun-requires : goal.begun-requires
begun-requires c =
    let model = c.args.program.now.model in
    let types = model.agents in
    let k = length c.loop-bag.pools.items in
    let old = c.loop-bag.invariant in
    let steps = c.in-Some.ensures.steps in
    let within : k < length types = some-left types k _ (sym (ap length steps.0.0) ∙ old.many) in
    let next = next-type types k within in
    let type = next.item in
    let heads : c.in-Some.start.now ∷ _ ≡ start_place type ∷ map start_place (drop (k + 1) types) =
    sym steps.1 ∙ old.starts ∙ ap (map start_place) next.left in
    let start : c.in-Some.start.now ≡ start_place type = cc in
    let one = (accepted-are-runnable c.args.program.now c.source-source.ensures.accepted).starts k type next.there in
    let none : List (List ℤ) = [] in
    let alone = stands-alone (is_entered type.functions) none none (states type.functions) one.0 one.1 in
    let leaving = c.routes-routes.result.now.leaving in
    let lists = c.index-items-len.result in
    let at : lists ≡ get_or leaving k lists =
    c.index-items-len.is
    ∙ (λ i. get_or (c.items-in-loop-bag.ensures i) ((c.len.ensures ∙ c.loop-bag.pools.ok.0) i) lists) in
    let is = c.routes-routes.ensures.leaving.1 k type lists next.there
    (slice_get_read leaving (length leaving) k lists refl (omega (arith, within, c.routes-routes.ensures.leaving.0)) at) in
    omega (arith, start, alone.within, ap length c.items-states.ensures, ap length is, length-map (states type.functions) (functions_out model k))

pub loop-bag-preserved : goal.loop-bag-preserved
loop-bag-preserved c =
    let model = c.args.program.now.model in
    let types = model.agents in
    let k = length c.loop-bag.pools.items in
    let old = c.loop-bag.invariant in
    let steps = c.in-Some.ensures.steps in
    let bag = c.in-Some.bag in
    let bags = into_iter_items (zip_first c.next.new.self) in
    let within : k < length types = some-left types k _ (sym (ap length steps.0.0) ∙ old.many) in
    let next = next-type types k within in
    let type = next.item in
    let heads : c.in-Some.start.now ∷ iter_rest (zip_second c.next.new.self) ≡ start_place type ∷ map start_place (drop (k + 1) types) =
    sym steps.1 ∙ old.starts ∙ ap (map start_place) next.left in
    let start : c.in-Some.start.now ≡ start_place type = cc in
    let later : iter_rest (zip_second c.next.new.self) ≡ map start_place (drop (k + 1) types) = cc in
    let one = (accepted-are-runnable c.args.program.now c.source-source.ensures.accepted).starts k type next.there in
    let none : List (List ℤ) = [] in
    let alone = stands-alone (is_entered type.functions) (ascending bag) none (states type.functions) one.0 one.1 in
    let leaving = c.routes-routes.result.now.leaving in
    let lists = c.index-items-len.result in
    let at : lists ≡ get_or leaving k lists =
    c.index-items-len.is
    ∙ (λ i. get_or (c.items-in-loop-bag.ensures i) ((c.len.ensures ∙ c.loop-bag.pools.ok.0) i) lists) in
    let is = c.routes-routes.ensures.leaving.1 k type lists next.there
    (slice_get_read leaving (length leaving) k lists refl (omega (arith, within, c.routes-routes.ensures.leaving.0)) at) in
    let here : pool_bags c.in_ok-own.own ≡ begun type bag =
    c.in_ok-own.ensures.bags
    ∙ (λ i. changed (start i) (λ old. ascending bag) (map (λ state. none) ((c.items-states.ensures ∙ is) i)))
    ∙ ap (changed (start_place type) (λ old. ascending bag)) (nones (functions_out model k) none (states type.functions))
    ∙ alone.there in
    let more : length c.push.new.self.items ≡ k + 1 =
    ap length c.in_ok-push.ensures.items ∙ length-append c.loop-bag.pools.items (c.in_ok-own.own ∷ []) in
    record {
      counted = omega (arith, steps.0.1, ap length steps.0.0, old.counted);
      starts = later ∙ ap (λ n. map start_place (drop n types)) (sym more);
      many =
          (let counts : length bags ≡ length (drop (k + 1) types) = omega (arith, ap length steps.0.0, old.many, ap length next.left) in counts)
          ∙ ap (λ n. length (drop n types)) (sym more);
      begins =
          old.begins
          ∙ (λ i. pools_of c.loop-bag.pools ++ map (λ ((t, b) : AgentType × List (List ℤ)). begun t b) (zip (next.left i) (steps.0.0 i)))
          ∙ (λ i. pools_of c.loop-bag.pools ++ (sym here i ∷ map (λ ((t, b) : AgentType × List (List ℤ)). begun t b) (zip (drop (k + 1) types) bags)))
          ∙ sym (append_assoc (pools_of c.loop-bag.pools) (pool_bags c.in_ok-own.own ∷ []) (map (λ ((t, b) : AgentType × List (List ℤ)). begun t b) (zip (drop (k + 1) types) bags)))
          ∙ ap (λ ps. ps ++ map (λ ((t, b) : AgentType × List (List ℤ)). begun t b) (zip (drop (k + 1) types) bags))
          (sym (ap (map pool_bags) c.in_ok-push.ensures.items ∙ map-append pool_bags c.loop-bag.pools.items (c.in_ok-own.own ∷ [])))
          ∙ ap (λ n. pools_of c.push.new.self ++ map (λ ((t, b) : AgentType × List (List ℤ)). begun t b) (zip (drop n types) bags)) (sym more);
      dealt =
          subst AllDealt (sym c.in_ok-push.ensures.items)
          (each-pushed (λ (own : Vec Pool Global). AnyDealt own.items) c.loop-bag.pools.items c.in_ok-own.own old.dealt
          (λ state pool at choose. c.in_ok-own.ensures.dealt (λ s. choose) state pool at));
    }

pub returns-clause-dealt : goal.returns-clause-dealt
returns-clause-dealt c choose = all-dealt choose c.loop-bag.pools c.loop-bag.invariant.dealt
