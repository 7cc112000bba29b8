use Rattle.std.proofs.Common.{◌≤◌, ◌∙◌, ap, sym, length, arith}
use Rattle.std.specs.Prelude.{nat_le, ◌-◌}
use Rattle.flame_spec.specs.KnownNames.{is_among}
use Rattle.flame_numbering.proofs.SightLaws.{among-taken, stands_in}
use Rattle.flame_numbering.proofs.spot.Spot.is_declared.Goals as goal

pub returns-in-None : goal.returns-in-None
returns-in-None c =
    let s = c.self.inside in
    let few : s.here ≤ length s.locals = omega (arith, c.self.invariant) in
    ap (stands_in (length s.locals) s.here) (sym c.in-None.is ∙ c.number.ensures)
    ∙ sym (among-taken c.args.word.now s.locals s.here few)
    ∙ ap (λ sight. is_among c.args.word.now sight.scope) c.self.view_is

pub returns-in-Some : goal.returns-in-Some
returns-in-Some c =
    let s = c.self.inside in
    let few : s.here ≤ length s.locals = omega (arith, c.self.invariant) in
    ap (λ n. nat_le (n - s.here) c.in-Some.number) c.len.ensures
    ∙ ap (stands_in (length s.locals) s.here) (sym c.in-Some.is ∙ c.number.ensures)
    ∙ sym (among-taken c.args.word.now s.locals s.here few)
    ∙ ap (λ sight. is_among c.args.word.now sight.scope) c.self.view_is
