use Rattle.std.proofs.Common.{◌≡◌, ℕ, ◌<◌, List, length, map}
use Rattle.std.specs.Prelude.{ℤ}
use Rattle.std.specs.List.{All}
use Rattle.std.specs.Vec.Iter.{into_iter_items, into_iter_len}
use Rattle.std.specs.Iterator.Adapters.{zip_first, zip_second}
use Rattle.flame_spec.specs.Before.{function_count}
use Rattle.flame_world.specs.Fields.{Field as Standing, HasPools}
use Rattle.flame_field.specs.KeptFields.{field_of}
use Rattle.flame_field.specs.KeptPools.{AreDealt}
use Rattle.flame_round.specs.KeptRounds.{round_of}
use Rattle.flame_layers.specs.LayerFields.{rank_of}
use Rattle.flame_lanes.specs.LayerGains.{AreGains}
use Rattle.flame_layerrun.specs.declared.openings.Reading.{Reading}
use Rattle.flame_layerrun.proofs.BroughtGains.{AreBrought}
use Rattle.flame_layerrun.proofs.bringing.bring_all.Given as goal

abbrev pub invariant-loop-reading : goal.invariant-loop-reading
invariant-loop-reading l =
    let readings = into_iter_items (zip_first l.reading-iterator) in
    let gains = into_iter_items (zip_second l.reading-iterator) in
    record {
      first : into_iter_len (zip_first l.reading-iterator) ≡ length readings;
      second : into_iter_len (zip_second l.reading-iterator) ≡ length gains;
      there : All (λ (reading : Reading). reading.function < function_count l.round.program.now.model) readings;
      ranks : All (λ (reading : Reading). reading.rank ≡ rank_of l.round.program.now.model reading.function) readings;
      fits : HasPools l.round.program.now.model (field_of l.field);
      boards : l.field.boards ≡ l.fn.field.boards;
      brought : (read : Standing) (takers : List (List (List ℤ)))
          → AreGains (round_of l.round) read (map (λ (reading : Reading). reading.function) l.fn.readings.items) takers l.fn.gains.items
          → AreBrought (round_of l.round) read (map (λ (reading : Reading). reading.function) l.fn.readings.items) takers (field_of l.fn.field)
          (map (λ (reading : Reading). reading.function) readings) gains (field_of l.field) l.stop;
      dealt : (choose : ℕ → ℕ → List ℤ → ℕ) → AreDealt choose l.fn.field.pools → AreDealt choose l.field.pools;
    }
