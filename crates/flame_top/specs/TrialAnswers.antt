-- The parts of a trial, and how they end.
use Rattle.std.specs.Prelude.{◌≡◌, ℕ, List, [], ◌∷◌, codes, decimal}
use Rattle.std.specs.List.{concat}
use Rattle.flame_outside.specs.Files.{Files}
use Rattle.flame_outside.specs.Devices.{SeenSink}
use Rattle.flame_words.specs.declared.orders.RunOrder.{RunOrder}
use Rattle.flame_spec.specs.declared.outcomes.Source.{Source}
use Rattle.flame_load.specs.InputReads.{Reading, known, ◌>>=◌}
use Rattle.flame_top.specs.declared.ending.Ending.{Ending}
use Rattle.flame_top.specs.declared.ending.Ending.TheVariants.{Done}
use Rattle.flame_top.specs.Reports.{Report}
use Rattle.flame_top.specs.OrderReports.{start_read, ordered_run}
use Rattle.flame_top.specs.Printing.{EndsPrint}

-- the run of a source, once its population is read [own]
abbrev pub started_run : Files → RunOrder → Source → Reading (List ℕ) Report
started_run told order source = do
  start ← start_read told source order.turns order.pop
  known (ordered_run order source start)

-- bytes T, of so many bytes [own]
abbrev pub total_line : ℕ → List ℕ
total_line bytes = concat (codes "bytes " ∷ decimal bytes ∷ codes "\n" ∷ [])

-- how a trial ends whose run ended so: where the run was carried out, this text is printed; else nothing is [own]
abbrev pub EndsTrial : Ending → List ℕ → SeenSink → SeenSink → Ending → Type 0
EndsTrial Done text old new ending = EndsPrint text old new ending
EndsTrial ended text old new ending = (ending ≡ ended) × (new ≡ old)
