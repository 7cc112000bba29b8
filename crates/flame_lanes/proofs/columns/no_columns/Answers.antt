use Rattle.std.proofs.Common.{◌∷◌, [], length, ap, sym, subst, arith, length-append}
use Rattle.flame_lanes.specs.LaneColumns.{AreNone}
use Rattle.flame_lanes.proofs.Columned.{none-more}
use Rattle.flame_lanes.proofs.columns.no_columns.Goals as goal

pub loop-column-preserved : goal.loop-column-preserved
loop-column-preserved c =
    let b = c.loop-column in
    let pushed = c.in_ok-push.ensures.items in
    record {
      none = subst AreNone (sym pushed) (none-more b.columns.items c.new.result b.invariant.none c.new.ensures.items);
      width = omega (arith, ap length pushed, length-append b.columns.items (c.new.result ∷ []), b.invariant.width);
    }
