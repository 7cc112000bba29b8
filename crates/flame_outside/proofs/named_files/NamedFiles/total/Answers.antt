-- At first all values are left, and they are fewer than 2^63.
use Rattle.std.proofs.Common.{◌≡◌, ◌+◌, ◌*◌, ◌^◌, ◌<◌, ◌≤◌, ℕ, length, ap, sym, ◌∙◌, arith, zero-add}
use Rattle.std.specs.Prelude.{sum_by, Vec}
use Rattle.std.specs.declared.alloc.Global.{Global}
use Rattle.flame_outside.specs.Memory.{total_of}
use Rattle.flame_outside.proofs.TotalLemmas.{total_of-stored}
use Rattle.flame_outside.proofs.named_files.NamedFiles.total.Goals as goal

few : (left all : ℕ) → left ≡ all → all < 2 ^ 63 → 0 + left * 2 ^ 64 ≤ 2 ^ 127
few left all is fits = omega arith

pub loop-bytes-init : goal.loop-bytes-init
loop-bytes-init c =
    let left = c.into_iter-bytes-iterator.ensures.into_iter_gives in
    let values = c.values-bytes-items.ensures in (
      zero-add _
          ∙ ap (sum_by (λ (bytes : Vec ℕ Global). length bytes.items)) (left ∙ values.rest)
          ∙ sym (total_of-stored c.self.inside.entries values.ordered)
          ∙ ap total_of c.self.view_is,
      few _ _ (ap length left ∙ values.len) values.fits,
    )
