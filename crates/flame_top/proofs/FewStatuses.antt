-- The statuses of reports.
use Rattle.std.proofs.Common.{◌≡◌, ◌≤◌, ℕ, List, Option, Some, None, Result, Ok, Err, map, string_bytes, codes, refl, ap, subst, arith}
use Rattle.flame_outside.specs.Files.{Files}
use Rattle.flame_words.specs.declared.orders.Order.{Order}
use Rattle.flame_words.specs.declared.orders.Order.TheVariants.{Run, Check, Graph, Code, Trial, Migrate, Trace, Replay}
use Rattle.flame_words.specs.declared.orders.RunOrder.{RunOrder}
use Rattle.flame_words.specs.declared.orders.TraceOrder.{TraceOrder}
use Rattle.flame_words.specs.declared.faults.Usage.{Usage}
use Rattle.flame_words.specs.CommandLines.{order_of}
use Rattle.flame_spec.specs.declared.outcomes.Source.{Source}
use Rattle.flame_spec.specs.declared.models.Model.{Model}
use Rattle.flame_world.specs.declared.faults.SimFault.{SimFault}
use Rattle.flame_world.specs.declared.verdicts.Verdict.{Verdict}
use Rattle.flame_world.specs.declared.verdicts.Verdict.TheVariants.{Yes, Form, OtherStart, Illegal, Incomplete, OtherEnd}
use Rattle.flame_report.specs.FaultLines.{usage_line, trace_line}
use Rattle.flame_report.specs.GraphTexts.{graph_lines}
use Rattle.flame_report.specs.CodeTexts.{code_lines}
use Rattle.flame_load.specs.InputReads.{Reading, known, refused, ◌>>=◌}
use Rattle.flame_load.specs.TextReads.{Reader}
use Rattle.flame_load.proofs.Leftovers.{given_by_both}
use Rattle.flame_trace.specs.TraceVerdicts.{verdict}
use Rattle.flame_driver.specs.Runs.{run}
use Rattle.flame_top.specs.Reports.{Report, refusal, carried_out, printing, fault_status, report_or, report_in}
use Rattle.flame_top.specs.TraceReports.{Traced, events_line, next_turn, fault_of, traced_with, traced, replayed}
use Rattle.flame_top.specs.OrderReports.{trace_read, trace_source, trace_reading, replay_start, replay_source, replay_reading}
use Rattle.flame_top.specs.OrderReports.{source_read, start_read, ordered_run, run_reading, accepted_line, text_reading, migrated, migrate_source, migrate_reading, meadow_files, meadow_order, trial_report, order_reading, ordered, reading}
use Rattle.flame_top.specs.TopLaws.{StatusesAreFew}

-- a report that is given has a status of at most 3
abbrev IsFew : Reading (List ℕ) Report → Type 0
IsFew reading = (report : Report) → reading.answer ≡ Ok report → report.status ≤ 3

abbrev ok_or : {X R : Type 0} → X → Result X R → X
ok_or x (Ok y) = y
ok_or x (Err refusal) = x

few_known : (report : Report) → report.status ≤ 3 → IsFew (known report)
few_known report few other given = subst (λ (r : Report). r.status ≤ 3) (ap (ok_or report) given) few

few_behind :
    {X : Type 0} (reading : Reading (List ℕ) X) (next : X → Reading (List ℕ) Report)
    → ((x : X) → IsFew (next x))
    → IsFew (reading >>= next)
few_behind reading next few report given =
    let both = given_by_both reading next report given in
    few both.0 report both.2

few_in : (reading : Reading (List ℕ) Report) → IsFew reading → (report_in reading).status ≤ 3
few_in reading few = go reading.answer refl
  where
    go : (answer : Result Report (List ℕ)) → reading.answer ≡ answer → (report_or answer).status ≤ 3
    go (Ok report) is = few report is
    go (Err line) is = omega arith

-- ---- orders

fault_few : (fault : Option SimFault) → fault_status fault ≤ 3
fault_few None = omega arith
fault_few (Some fault) = omega arith

traced_few : (model : Model) (out : List ℕ) (trace : Traced) (fault : Option SimFault) → (traced_with model out trace fault).status ≤ 3
traced_few model out trace None = omega arith
traced_few model out trace (Some fault) = omega arith

refused_few : (line : List ℕ) → IsFew (refused line)
refused_few line report given = absurd (cc)

replayed_few : (name : List ℕ) (found : Verdict) → IsFew (replayed name found)
replayed_few name (Yes events) = few_known (carried_out (printing (events_line (codes "replayed") events))) (omega arith)
replayed_few name (Form line) = refused_few (trace_line name (Form line))
replayed_few name (OtherStart line) = refused_few (trace_line name (OtherStart line))
replayed_few name (Illegal line) = refused_few (trace_line name (Illegal line))
replayed_few name (Incomplete line) = refused_few (trace_line name (Incomplete line))
replayed_few name (OtherEnd line) = refused_few (trace_line name (OtherEnd line))

module _ (read : Reader) (told : Files) where
  run_few : (order : RunOrder) → IsFew (run_reading read told order)
  run_few order =
      few_behind (source_read read told order.model)
      (λ source. start_read told source order.turns order.pop >>= (λ start. known (ordered_run order source start)))
      (λ source.
      few_behind (start_read told source order.turns order.pop) (λ start. known (ordered_run order source start))
      (λ start.
      few_known (ordered_run order source start) (fault_few (run source order.how.fuel order.turns start).fault)))

  text_few : (name : List ℕ) (text_of : Source → List ℕ) → IsFew (text_reading read told name text_of)
  text_few name text_of =
      few_behind (source_read read told name) (λ source. known (carried_out (printing (text_of source))))
      (λ source. few_known (carried_out (printing (text_of source))) (omega arith))

  migrate_few : (model pop out : List ℕ) → IsFew (migrate_reading read told model pop out)
  migrate_few model pop out =
      few_behind (source_read read told model) (λ source. migrate_source told source pop out)
      (λ source.
      few_behind (start_read told source 0 pop) (λ start. known (migrated out source start))
      (λ start. few_known (migrated out source start) (omega arith)))

  trace_few : (order : TraceOrder) (trace : Traced) → IsFew (trace_reading read told order trace)
  trace_few order trace =
      few_behind (source_read read told order.model) (λ source. trace_source told order source trace)
      (λ source.
      few_behind (start_read told source 1 order.pop) (λ start. known (traced order source start trace))
      (λ start.
      few_known (traced order source start trace)
      (traced_few source.model order.out trace (fault_of (next_turn order source start)))))

  replay_few : (model pop name : List ℕ) → IsFew (replay_reading read told model pop name)
  replay_few model pop name =
      few_behind (source_read read told model) (λ source. replay_source told source pop name)
      (λ source.
      few_behind (start_read told source 1 pop) (λ start. replay_start told source start name)
      (λ start.
      few_behind (trace_read told name) (λ bytes. replayed name (verdict source start bytes))
      (λ bytes. replayed_few name (verdict source start bytes))))

order_few : (read : Reader) (told : Files) (order : Order) (trace : Traced) → IsFew (order_reading read told order trace)
order_few read told (Run order) trace = run_few read told order
order_few read told (Check model) trace = text_few read told model (λ source. accepted_line source.model)
order_few read told (Graph model) trace = text_few read told model (λ source. graph_lines source.model)
order_few read told (Code model) trace = text_few read told model code_lines
order_few read told (Trial order) trace =
    few_known (trial_report read order)
    (few_in (run_reading read (meadow_files order.seed order.size) (meadow_order order))
    (run_few read (meadow_files order.seed order.size) (meadow_order order)))
order_few read told (Migrate model pop out) trace = migrate_few read told model pop out
order_few read told (Trace order) trace = trace_few read told order trace
order_few read told (Replay model pop name) trace = replay_few read told model pop name

ordered_few : (read : Reader) (told : Files) (order : Result Order Usage) (trace : Traced) → IsFew (ordered read told order trace)
ordered_few read told (Ok order) trace = order_few read told order trace
ordered_few read told (Err usage) trace = few_known (refusal (usage_line usage) 2) (omega arith)

pub statuses_are_few : StatusesAreFew
statuses_are_few read words told trace =
    few_in (reading read words told trace) (ordered_few read told (order_of (map string_bytes words)) trace)
