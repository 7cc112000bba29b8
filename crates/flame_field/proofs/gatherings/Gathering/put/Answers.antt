use Rattle.std.proofs.Common.{◌≡◌, ◌+◌, ◌≤◌, Bool, true, false, cond, [], ◌++◌, inl, inr, ap, sym, ◌∙◌, arith}
use Rattle.std.specs.Vec.{vec_len, vec_capacity}
use Rattle.std.proofs.lemmas.Bool.{eqb-true, eq-eqb}
use Rattle.std.proofs.lemmas.List.{nil_from_length}
use Rattle.flame_rows.specs.Bags.{ascending, merge}
use Rattle.flame_field.specs.KeptGatherings.{bag_of}
use Rattle.flame_rows.proofs.Merging.{ascending-ascending, ascending-append, merge-ascending}
use Rattle.flame_field.proofs.gatherings.Gathering.put.Goals as goal

pub returns-then-is_empty : goal.returns-then-is_empty
returns-then-is_empty c =
    let own = c.args.self.now.rows in
    let more = c.args.rows.items in
    let none : own.items ≡ [] = nil_from_length own.items (omega (arith, own.ok.0, eqb-true own.len 0 (sym c.is_empty.ensures ∙ c.if-is_empty.true))) in
    sym (ascending-ascending more) ∙ ap (λ rows. merge (ascending rows) (ascending more)) (sym none)

pub returns : goal.returns
returns c =
    let own = c.args.self.now.rows.items in
    let more = c.args.rows.items in
    let room : vec_len c.args.self.now.rows + vec_len c.args.rows ≤ vec_capacity c.args.self.now.rows =
    elim c.requires [
      | inl none ↦ (let no : true ≡ false = sym (eq-eqb (vec_len c.args.self.now.rows) 0 none) ∙ sym c.is_empty.ensures ∙ c.if-is_empty.false in absurd (cc))
      | inr room ↦ room
    ] in
    let joined = c.append-room.ensures.items ∙ ap (λ (b : Bool). cond b (own ++ more) own) (c.append-room.ensures.succeeds room) in
    ap ascending joined ∙ ascending-append own more ∙ sym (merge-ascending (bag_of c.args.self.now) more)
