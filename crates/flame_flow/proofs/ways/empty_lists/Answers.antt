-- One empty list more.
use Rattle.std.proofs.Common.{ℕ, List, ◌∷◌, ◌∙◌, [], length, map, ap, arith, length-append, Vec, Global}
use Rattle.std.specs.Prelude.{slice_index_or}
use Rattle.std.proofs.lemmas.List.{map-append}
use Rattle.flame_flow.proofs.Places.{empty_more}
use Rattle.flame_flow.proofs.ways.empty_lists.Goals as goal

pub loop-list-init : goal.loop-list-init
loop-list-init c = record {
  long = ap length c.new-lists.ensures.items;
  empty = λ place. ap (λ (l : List (Vec ℕ Global)). slice_index_or (map (λ list. list.items) l) place []) c.new-lists.ensures.items;
}

pub loop-list-preserved : goal.loop-list-preserved
loop-list-preserved c =
    let old : List (Vec ℕ Global) = c.loop-list.lists.items in
    let pushed = c.in_ok-push.ensures.items in
    record {
      long = omega (arith, ap length pushed, length-append old (c.new.result ∷ []), c.loop-list.invariant.long);
      empty = λ place.
          ap (λ (l : List (Vec ℕ Global)). slice_index_or (map (λ list. list.items) l) place []) pushed
          ∙ ap (λ l. slice_index_or l place []) (map-append (λ (list : Vec ℕ Global). list.items) old (c.new.result ∷ []))
          ∙ empty_more (map (λ (list : Vec ℕ Global). list.items) old) c.new.result.items c.new.ensures.items c.loop-list.invariant.empty place;
    }
