use Rattle.std.proofs.Common.{List, [], ◌∷◌, ◌++◌, All, sym, ap, ◌∙◌, subst}
use Rattle.std.specs.Prelude.{ℤ}
use Rattle.std.proofs.lemmas.List.Elements.{All-same, All-push}
use Rattle.flame_index.specs.FrozenBoards.{messages_on}
use Rattle.flame_index.specs.Indexes.{IndexTable, IsIndexOf}
use Rattle.flame_index.specs.IndexBodies.{indexes_in}
use Rattle.flame_index.proofs.boards.Frozen.put.Goals as goal

pub invariant_of-self : goal.invariant_of-self
invariant_of-self c =
    let bag : List (List ℤ) = c.self.inside.bag in
    let items : List IndexTable = c.in-Some.indexes.items in
    let all : All (λ index. IsIndexOf index bag) items =
    All-same (λ index. IsIndexOf index bag) items (indexes_in c.self.inside.indexes) (sym (ap indexes_in c.in-Some.is)) c.self.invariant in
    let one : IsIndexOf c.args.index bag = subst (IsIndexOf c.args.index) (sym (ap messages_on c.self.view_is)) c.requires in
    All-same (λ index. IsIndexOf index bag) c.push.new.self.items (items ++ c.args.index ∷ []) c.in_ok-push-in-Some.ensures.items
    (All-push (λ index. IsIndexOf index bag) items c.args.index all one)

pub invariant_of-self-in_err-push-in-Some : goal.invariant_of-self-in_err-push-in-Some
invariant_of-self-in_err-push-in-Some c =
    All-same (λ index. IsIndexOf index c.self.inside.bag) c.push.new.self.items (indexes_in c.self.inside.indexes)
    (c.in_err-push-in-Some.ensures.items ∙ sym (ap indexes_in c.in-Some.is)) c.self.invariant
