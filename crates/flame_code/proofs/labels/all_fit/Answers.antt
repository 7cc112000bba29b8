use Rattle.std.proofs.Common.{◌∙◌, ◌+◌, ◌&&◌, Bool, sym, ap, drop}
use Rattle.flame_code.specs.Labels.{all_fit}
use Rattle.flame_code.specs.Routines.{Routine}
use Rattle.flame_code.proofs.Labelling.{fit_more, lengths_differ}
use Rattle.flame_code.proofs.labels.all_fit.Goals as goal

pub returns-then-labels-instrs : goal.returns-then-labels-instrs
returns-then-labels-instrs c = sym (lengths_differ (record { instrs = c.args.instrs.now; widths = c.args.widths.now }) c.args.labels.now c.if-labels-instrs.true)

pub returns-then-not-place_fits : goal.returns-then-not-place_fits
returns-then-not-place_fits c =
    let r : Routine = record { instrs = c.args.instrs.now; widths = c.args.widths.now } in
    let more = fit_more r c.args.labels.now c.loop-place.place c.instr_at.result.now c.label_at.result.now c.instr_at.ensures c.label_at.ensures in
    let rest : Bool = all_fit r c.args.labels.now (c.loop-place.place + 1) (drop (c.loop-place.place + 1) c.args.instrs.now) (drop (c.loop-place.place + 1) c.args.labels.now) in
    sym (ap (λ b. b && rest) (sym c.place_fits.ensures ∙ c.if-not-place_fits.true)) ∙ sym more ∙ c.loop-place.invariant

pub loop-place-preserved : goal.loop-place-preserved
loop-place-preserved c =
    let r : Routine = record { instrs = c.args.instrs.now; widths = c.args.widths.now } in
    let more = fit_more r c.args.labels.now c.loop-place.place c.instr_at.result.now c.label_at.result.now c.instr_at.ensures c.label_at.ensures in
    let rest : Bool = all_fit r c.args.labels.now (c.loop-place.place + 1) (drop (c.loop-place.place + 1) c.args.instrs.now) (drop (c.loop-place.place + 1) c.args.labels.now) in
    sym (ap (λ b. b && rest) (sym c.place_fits.ensures ∙ c.if-not-place_fits.false)) ∙ sym more ∙ c.loop-place.invariant
