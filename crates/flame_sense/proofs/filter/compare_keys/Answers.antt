use mir.Syntax.{w32}
use mir.Val.{SFits}
use Rattle.std.proofs.Common.{rules, ◌∙◌, sym}
use Rattle.flame_spec.specs.Views.{key_of}
use Rattle.flame_sense.proofs.Keys.{key_falls, key_rises, compared}
use Rattle.flame_sense.proofs.filter.compare_keys.Goals as goal

pub returns-then-sort : goal.returns-then-sort
returns-then-sort c =
    let left : SFits w32 c.key_value-left.result = search rules in
    let right : SFits w32 c.key_value-right.result = search rules in
    c.cmp.ensures
    ∙ compared _ _ _ _ right left c.key_value-right.ensures c.key_value-left.ensures
    ∙ sym (key_falls (key_of c.args.message.now c.args.sort.now) c.args.a.now c.args.b.now c.if-sort.true)

pub returns : goal.returns
returns c =
    let left : SFits w32 c.key_value-left.result = search rules in
    let right : SFits w32 c.key_value-right.result = search rules in
    c.cmp-2.ensures
    ∙ compared _ _ _ _ left right c.key_value-left.ensures c.key_value-right.ensures
    ∙ sym (key_rises (key_of c.args.message.now c.args.sort.now) c.args.a.now c.args.b.now c.if-sort.false)
