-- What a scope leaves: what was seen before it.
use Rattle.std.proofs.Common.{◌≡◌, List, [], ◌∷◌, refl, ap, ◌∙◌}
use Rattle.flame_spec.specs.Scopes.{Sight, Loop, in_scope, in_loop, after_items, after, after_all, after_name}
use Rattle.flame_spec.specs.Trees.{Declared}
use Rattle.flame_spec.specs.Trees.{Statement, empty, declare, assign, call, block, branch, while, for, do_while, loop_over, return, break, continue}
use Rattle.flame_spec.specs.Trees.{Statements, no_more, also}

-- the same but for the scope
pub record SameRound (s t : Sight) : Type 0 where
  pub outer : s.outer ≡ t.outer
  pub own : s.own ≡ t.own
  pub loops : s.loops ≡ t.loops

items-round : (s : Sight) (items : List Declared) → SameRound (after_items s items) s
items-round s [] = record { outer = refl; own = refl; loops = refl }
items-round s (item ∷ items) =
    let more = items-round (after_name s item.name) items in
    record { outer = more.outer; own = more.own; loops = more.loops }

after-round : (s : Sight) (st : Statement) → SameRound (after s st) s
after-round s (declare items) = items-round s items
after-round s empty = record { outer = refl; own = refl; loops = refl }
after-round s (assign a) = record { outer = refl; own = refl; loops = refl }
after-round s (call line word arguments) = record { outer = refl; own = refl; loops = refl }
after-round s (block body) = record { outer = refl; own = refl; loops = refl }
after-round s (branch arms otherwise) = record { outer = refl; own = refl; loops = refl }
after-round s (while line test body) = record { outer = refl; own = refl; loops = refl }
after-round s (for line first test step body) = record { outer = refl; own = refl; loops = refl }
after-round s (do_while line body test) = record { outer = refl; own = refl; loops = refl }
after-round s (loop_over line word body end_line end_word) = record { outer = refl; own = refl; loops = refl }
after-round s (return e) = record { outer = refl; own = refl; loops = refl }
after-round s (break line) = record { outer = refl; own = refl; loops = refl }
after-round s (continue line) = record { outer = refl; own = refl; loops = refl }

pub all-round : (s : Sight) (body : Statements) → SameRound (after_all s body) s
all-round s no_more = record { outer = refl; own = refl; loops = refl }
all-round s (also st body) =
    let more = all-round (after s st) body in
    let one = after-round s st in
    record { outer = more.outer ∙ one.outer; own = more.own ∙ one.own; loops = more.loops ∙ one.loops }

-- round what is seen at the end of a scope there is what was seen before it
pub scope-round :
    (s : Sight) (body : Statements) (t : Sight)
    → t ≡ after_all (in_scope s) body
    → t.outer ≡ s.scope ∷ s.outer
scope-round s body t is = ap (λ x. x.outer) is ∙ (all-round (in_scope s) body).outer

-- the same of the body of a loop
pub loop-round :
    (s : Sight) (over : Loop) (body : Statements) (t : Sight)
    → t ≡ after_all (in_loop over s) body
    → (t.outer ≡ s.scope ∷ s.outer) × (t.loops ≡ over ∷ s.loops)
loop-round s over body t is =
    let round = all-round (in_loop over s) body in (
      ap (λ x. x.outer) is ∙ round.outer,
      ap (λ x. x.loops) is ∙ round.loops,
    )

-- once the scope is left
pub scope-left :
    (s : Sight) (body : Statements) (t u : Sight)
    → t ≡ after_all (in_scope s) body
    → u ≡ record t { scope = s.scope; outer = s.outer }
    → u ≡ s
scope-left s body t u is left =
    let round = all-round (in_scope s) body in
    let own : t.own ≡ s.own = ap (λ x. x.own) is ∙ round.own in
    let loops : t.loops ≡ s.loops = ap (λ x. x.loops) is ∙ round.loops in
    left ∙ λ i. record { scope = s.scope; outer = s.outer; own = own i; loops = loops i }

-- once the loop is left
pub loop-left :
    (s : Sight) (over : Loop) (body : Statements) (t u : Sight)
    → t ≡ after_all (in_loop over s) body
    → u ≡ record t { scope = s.scope; outer = s.outer; loops = s.loops }
    → u ≡ s
loop-left s over body t u is left =
    let round = all-round (in_loop over s) body in
    let own : t.own ≡ s.own = ap (λ x. x.own) is ∙ round.own in
    left ∙ λ i. record { scope = s.scope; outer = s.outer; own = own i; loops = s.loops }
