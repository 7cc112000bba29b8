use Rattle.std.proofs.Common.{◌≡◌, List, IfSome, All, sym, ap, ◌∙◌, subst}
use Rattle.std.specs.Prelude.{ℤ}
use Rattle.std.proofs.lemmas.List.Elements.{All-same}
use Rattle.flame_index.specs.FrozenBoards.{messages_on}
use Rattle.flame_index.specs.Indexes.{IsIndexOf}
use Rattle.flame_index.specs.IndexBodies.{indexes_in}
use Rattle.flame_index.proofs.boards.Frozen.ordered.Goals as goal

pub returns-in-Some-clause-stands : goal.returns-in-Some-clause-stands
returns-in-Some-clause-stands c =
    let bag : List (List ℤ) = c.self.inside.bag in
    let same : c.as_slice.result.now ≡ indexes_in c.self.inside.indexes = c.as_slice.ensures.value ∙ sym (ap indexes_in c.in-Some.is) in
    let all : All (λ index. IsIndexOf index bag) c.as_slice.result.now =
    All-same (λ index. IsIndexOf index bag) c.as_slice.result.now (indexes_in c.self.inside.indexes) same c.self.invariant in
    subst (λ rows. IfSome c.found.result (λ index. IsIndexOf index.now rows)) (ap messages_on c.self.view_is)
    (c.found.ensures.stands bag all)
