use Rattle.std.proofs.Common.{◌≡◌, sym, ap, ◌∙◌, subst, Some, None, rules, w32}
use Rattle.std.proofs.lemmas.Int.{to_z-of_z}
use Rattle.std.proofs.lemmas.List.{take_rest}
use mir.Val.{SFits}
use Rattle.flame_lex.specs.SourceWords.{IsPlain, IsWordKind}
use Rattle.flame_lex.specs.LexSteps.{known_in}
use Rattle.flame_lex.proofs.Defining.{not_plain, one_name_said}
use Rattle.flame_lex.proofs.directive.define_line.Goals as goal

pub returns-in_default : goal.returns-in_default
returns-in_default c = λ said d.
    let e : None ≡ Some said = (rw (take_rest c.args.line.now 7) at c.in_default.ensures.says) ∙ d.says in
    cc

pub returns-in_default-2 : goal.returns-in_default-2
returns-in_default-2 c = λ said d.
    let e = (rw (take_rest c.args.line.now 7) at c.in-Some.ensures.says) ∙ d.says in
    not_plain c.in_ok-name.field-0 c.in-Some.field-0.name.now c.in_default-2.not-Word c.in_ok-name.ensures
    (subst IsPlain (sym (one_name_said _ said e)) d.plain)

pub returns-in-Some-number : goal.returns-in-Some-number
returns-in-Some-number c = λ said d.
    let e = (rw (take_rest c.args.line.now 7) at c.in-Some.ensures.says) ∙ d.says in
    let word = subst (λ k. IsWordKind k c.in-Some.field-0.name.now) c.in-Word.is c.in_ok-name.ensures in
    let same : c.in-Word.name ≡ said.name = word.1 ∙ one_name_said _ said e in
    let impossible : Some c.in-Some-number.field-0 ≡ None =
    sym c.in-Some-number.is ∙ c.number.ensures ∙ ap (known_in c.args.defines.now) same ∙ d.once in
    cc

pub returns-in-None : goal.returns-in-None
returns-in-None c =
    let says = rw (take_rest c.args.line.now 7) at c.in-Some.ensures.says in
    let word = subst (λ k. IsWordKind k c.in-Some.field-0.name.now) c.in-Word.is c.in_ok-name.ensures in
    let fits : SFits w32 c.in-Some.field-0.value = search rules in
    rw (to_z-of_z w32 c.in-Some.field-0.value fits) (record {
      says = sym says
          ∙ ap (λ n. Some (record { name = n; value = c.in-Some.field-0.value })) (sym word.1);
      plain = subst IsPlain (sym word.1) word.0;
      once = sym c.number.ensures ∙ c.in-None.is;
    })
