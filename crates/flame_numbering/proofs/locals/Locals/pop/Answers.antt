use Rattle.std.proofs.Common.{rules, ◌∙◌, sym, subst, arith, Some, None}
use Rattle.std.specs.Prelude.{reverse}
use Rattle.flame_numbering.specs.LocalTables.{names_kept, HidesRight, Finds}
use Rattle.flame_numbering.proofs.LocalLaws.{kept_push, hides_pop, finds_pop, newest_there}
use Rattle.flame_numbering.proofs.locals.Locals.pop.Goals as goal

pub invariant_of-self : goal.invariant_of-self
invariant_of-self c =
    let marks = c.pop.new.self.items in
    let mark = c.in-Some.mark in
    let all = subst (λ l. HidesRight (reverse l)) c.in-Some.ensures.items c.self.invariant.0 in
    let found = subst (Finds c.self.inside.newest) (kept_push marks mark)
    (subst (λ l. Finds c.self.inside.newest (names_kept l)) c.in-Some.ensures.items c.self.invariant.1) in (
      (hides_pop marks mark all).1,
      finds_pop c.self.inside.newest (c.get_mut.follows.lender c.in-Some-hides.number) mark.name.now (names_kept marks) (Some c.in-Some-hides.number)
          (sym c.in-Some-hides.is ∙ (hides_pop marks mark all).0)
          ((c.get_mut.follows.holds c.in-Some-hides.number).3 (search rules)) found,
      omega (arith, c.in-Some.ensures.len, c.self.invariant.2),
    )

pub invariant_of-self-in_default-get_mut : goal.invariant_of-self-in_default-get_mut
invariant_of-self-in_default-get_mut c =
    let marks = c.pop.new.self.items in
    let mark = c.in-Some.mark in
    let found = subst (Finds c.self.inside.newest) (kept_push marks mark)
    (subst (λ l. Finds c.self.inside.newest (names_kept l)) c.in-Some.ensures.items c.self.invariant.1) in
    let there = newest_there c.self.inside.newest mark.name.now (names_kept marks) found in
    let nothing = c.in_default-get_mut.ensures.value in
    absurd (cc)

pub invariant_of-self-in-None : goal.invariant_of-self-in-None
invariant_of-self-in-None c =
    let marks = c.pop.new.self.items in
    let mark = c.in-Some.mark in
    let all = subst (λ l. HidesRight (reverse l)) c.in-Some.ensures.items c.self.invariant.0 in
    let found = subst (Finds c.self.inside.newest) (kept_push marks mark)
    (subst (λ l. Finds c.self.inside.newest (names_kept l)) c.in-Some.ensures.items c.self.invariant.1) in (
      (hides_pop marks mark all).1,
      finds_pop c.self.inside.newest c.remove.new.self mark.name.now (names_kept marks) None
          (sym c.in-None.is ∙ (hides_pop marks mark all).0)
          c.remove.ensures.updates found,
      omega (arith, c.in-Some.ensures.len, c.self.invariant.2),
    )
