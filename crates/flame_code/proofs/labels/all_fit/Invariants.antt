use Rattle.std.proofs.Common.{◌≡◌, drop}
use Rattle.flame_code.specs.Labels.{all_fit}
use Rattle.flame_code.proofs.labels.all_fit.Given as goal

abbrev pub invariant-loop-place : goal.invariant-loop-place
invariant-loop-place l =
    all_fit (record { instrs = l.instrs; widths = l.widths }) l.labels l.place (drop l.place l.instrs) (drop l.place l.labels)
    ≡ all_fit (record { instrs = l.instrs; widths = l.widths }) l.labels 0 l.instrs l.labels
