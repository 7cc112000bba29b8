use Rattle.std.proofs.Common.{rules, ◌≡◌, ◌∙◌, sym, subst, length, arith}
use Rattle.std.proofs.lemmas.List.{length-reverse, length-map}
use Rattle.std.specs.Prelude.{reverse}
use Rattle.flame_numbering.specs.declared.locals.Mark.{Mark}
use Rattle.flame_numbering.specs.LocalTables.{names_kept, HidesRight, Finds}
use Rattle.flame_numbering.proofs.LocalLaws.{kept_push, hides_push, finds_push}
use Rattle.flame_numbering.proofs.locals.Locals.push.Goals as goal

pub invariant_of-self-in-Ok : goal.invariant_of-self-in-Ok
invariant_of-self-in-Ok c =
    let marks = c.self.inside.marks.items in
    let mark : Mark = record { name = c.args.name; hides = c.copied-hides.result } in
    let long : length (names_kept marks) ≡ length marks =
    length-map (reverse marks) (λ mark. mark.name.now) ∙ length-reverse marks in
    let counted : c.len-number.result ≡ length marks = search rules in
    let number : c.len-number.result ≡ length (names_kept marks) = counted ∙ sym long in (
      subst (λ l. HidesRight (reverse l)) (sym c.in_ok-push.ensures.items)
          (hides_push marks mark (c.copied-hides.ensures ∙ c.get.ensures.value ∙ c.self.invariant.1 c.args.name.now) c.self.invariant.0),
      subst (λ l. Finds c.insert.new.self (names_kept l)) (sym c.in_ok-push.ensures.items)
          (subst (Finds c.insert.new.self) (sym (kept_push marks mark))
          (finds_push c.self.inside.newest c.insert.new.self c.args.name.now (names_kept marks) c.len-number.result number
          c.in-Ok.ensures.updates c.self.invariant.1)),
      omega (arith, c.in_ok-push.ensures.len),
    )
