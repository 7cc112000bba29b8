-- A trace that is put, and then its events are counted, or its fault is told.
use Rattle.std.proofs.Common.{◌≡◌, ◌⊎◌, inl, inr, ℕ, List, [], ◌∷◌, codes, Option, Some, None, refl, sym, ap, ◌∙◌, subst}
use Rattle.flame_outside.specs.Files.{with_file, OthersStay}
use Rattle.flame_outside.specs.Devices.{SeenDepot, SeenSink}
use Rattle.flame_outside.specs.Frames.{OnlyPuts, Grows}
use Rattle.flame_outside.specs.Scripts.{puts, outside, told}
use Rattle.flame_outside.proofs.FrameLemmas.{puts_go_on}
use Rattle.flame_outside.proofs.ScriptLemmas.{put_stands, all_stand, nothing_stands, failed_put}
use Rattle.flame_spec.specs.declared.models.Model.{Model}
use Rattle.flame_world.specs.declared.faults.SimFault.{SimFault}
use Rattle.flame_report.specs.FaultLines.{sim_line}
use Rattle.flame_top.specs.declared.ending.Ending.{Ending}
use Rattle.flame_top.specs.declared.ending.Ending.TheVariants.{Done, RefusedWords, Refused, Faulted, ReadFault, FileFault, OutputFault, NoMemory}
use Rattle.flame_top.specs.InputAnswers.{IsReadFault}
use Rattle.flame_top.specs.Printing.{StopsPut, EndsPrint}
use Rattle.flame_top.specs.Reports.{Report}
use Rattle.flame_top.specs.Standing.{Stands, Keeps}
use Rattle.flame_top.specs.TraceAnswers.{EndsUnprinted, EndsTrace}
use Rattle.flame_top.specs.TraceReports.{Traced, events_line, traced_with}
use Rattle.flame_top.proofs.FileAndLine.{put_stops, line_stops, line_keeps, both_stand, done_keeps}
use Rattle.flame_top.proofs.ReportLines.{sim_is_line}

module _ (model : Model) (name : List ℕ) (trace : Traced) where
  -- the line of its events
  abbrev count_line : List ℕ
  count_line = events_line (codes "traced") trace.events

  -- the report of a fault
  abbrev faulted : SimFault → Report
  faulted fault = traced_with model name trace (Some fault)

  fault_put_stops :
      (fault : SimFault) (ending : Ending) (old new : SeenDepot) (out : SeenSink)
      → StopsPut name old new ending
      → OthersStay name old.files new.files
      → Stands ending 0 (faulted fault) (outside old out) (outside new out)
  fault_put_stops fault Done old new out s others = absurd s
  fault_put_stops fault (RefusedWords text) old new out s others = absurd s
  fault_put_stops fault (Refused text) old new out s others = absurd s
  fault_put_stops fault (Faulted text) old new out s others = absurd s
  fault_put_stops fault (ReadFault file) old new out s others = absurd s
  fault_put_stops fault (FileFault file) old new out s others = record {
    done = 0;
    has_done = record { stands = failed_put name trace.bytes [] old new out s.1 others; count = refl };
    ends = tt;
    whole = λ w. absurd w;
    blames = record {
      bytes = trace.bytes;
      fails = record {
        rest = [];
        next = ap (λ (n : List ℕ). puts n trace.bytes ∷ []) (sym s.0);
        failed = s.1;
      };
    };
  }
  fault_put_stops fault OutputFault old new out s others = absurd s
  fault_put_stops fault NoMemory old new out s others = record {
    done = 0;
    has_done = record {
      stands =
          nothing_stands (faulted fault).acts (outside old out) (outside new out)
          (ap (λ (depot : SeenDepot). told (outside depot out)) s);
      count = refl;
    };
    ends = tt;
    whole = λ w. absurd w;
    blames = tt;
  }

  -- the trace is not put
  pub trace_put_stops :
      (fault : Option SimFault) (ending : Ending) (old new : SeenDepot) (out : SeenSink)
      → StopsPut name old new ending
      → OthersStay name old.files new.files
      → Stands ending 0 (traced_with model name trace fault) (outside old out) (outside new out)
  trace_put_stops None ending old new out s others = put_stops name trace.bytes count_line ending old new out s others
  trace_put_stops (Some fault) ending old new out s others = fault_put_stops fault ending old new out s others

  module _ (depot depot' : SeenDepot) (old new : SeenSink) (put : depot'.files ≡ with_file name trace.bytes depot.files) (only : OnlyPuts depot depot') where
    counted :
        (ending : Ending)
        → EndsPrint count_line old new ending
        → Stands ending 1 (traced_with model name trace None) (outside depot old) (outside depot' new)
    counted Done p = both_stand name trace.bytes count_line depot depot' old new put p
    counted (RefusedWords text) p = absurd p
    counted (Refused text) p = absurd p
    counted (Faulted text) p = absurd p
    counted (ReadFault file) p = absurd p
    counted (FileFault file) p = absurd p
    counted OutputFault p = line_stops name trace.bytes count_line OutputFault depot depot' old new put only p
    counted NoMemory p = line_stops name trace.bytes count_line NoMemory depot depot' old new put only p

    told_fault :
        (fault : SimFault) (ending : Ending)
        → EndsUnprinted (Faulted (sim_line model fault)) ending old new
        → Stands ending 1 (faulted fault) (outside depot old) (outside depot' new)
    told_fault fault ending e = by e.ends
      where
        stands : told (outside depot' new) ≡ told (outside depot' old)
        stands = ap (λ (output : SeenSink). told (outside depot' output)) e.same

        by : (ending ≡ Faulted (sim_line model fault)) ⊎ (ending ≡ NoMemory) → Stands ending 1 (faulted fault) (outside depot old) (outside depot' new)
        by (inl is) =
            subst (λ (end : Ending). Stands end 1 (faulted fault) (outside depot old) (outside depot' new)) (sym is)
            (record {
              done = 1;
              has_done = record {
                stands =
                    all_stand (faulted fault).acts (outside depot old) (outside depot' new)
                    (stands ∙ put_stands name trace.bytes depot depot' old put);
                count = refl;
              };
              ends = (refl, refl);
              whole = λ w. refl;
              blames = tt;
            })
        by (inr is) =
            subst (λ (end : Ending). Stands end 1 (faulted fault) (outside depot old) (outside depot' new)) (sym is)
            (record {
              done = 1;
              has_done = record {
                stands =
                    all_stand (faulted fault).acts (outside depot old) (outside depot' new)
                    (stands ∙ put_stands name trace.bytes depot depot' old put);
                count = refl;
              };
              ends = tt;
              whole = λ w. absurd w;
              blames = tt;
            })

    -- the trace stands
    pub trace_stands :
        (fault : Option SimFault) (ending : Ending)
        → EndsTrace model trace.events fault old new ending
        → Stands ending 1 (traced_with model name trace fault) (outside depot old) (outside depot' new)
    trace_stands None ending e = counted ending e
    trace_stands (Some fault) ending e = told_fault fault ending e

-- ---- whatever the devices tell

module _ (model : Model) (events : ℕ) (depot depot' : SeenDepot) (old new : SeenSink) (only : OnlyPuts depot depot') (grows : Grows old new) where
  counted_keeps :
      (ending : Ending)
      → EndsPrint (events_line (codes "traced") events) old new ending
      → Keeps ending 1 (outside depot old) (outside depot' new)
  counted_keeps Done p = done_keeps 1 depot depot' old new only grows
  counted_keeps (RefusedWords text) p = absurd p
  counted_keeps (Refused text) p = absurd p
  counted_keeps (Faulted text) p = absurd p
  counted_keeps (ReadFault file) p = absurd p
  counted_keeps (FileFault file) p = absurd p
  counted_keeps OutputFault p =
      line_keeps (events_line (codes "traced") events) OutputFault 1 depot depot' old new p only grows
  counted_keeps NoMemory p =
      line_keeps (events_line (codes "traced") events) NoMemory 1 depot depot' old new p only grows

  fault_keeps :
      (fault : SimFault) (ending : Ending)
      → EndsUnprinted (Faulted (sim_line model fault)) ending old new
      → Keeps ending 1 (outside depot old) (outside depot' new)
  fault_keeps fault ending e = by e.ends
    where
      by : (ending ≡ Faulted (sim_line model fault)) ⊎ (ending ≡ NoMemory) → Keeps ending 1 (outside depot old) (outside depot' new)
      by (inl is) =
          subst (λ (end : Ending). Keeps end 1 (outside depot old) (outside depot' new)) (sym is)
          (record {
            caused = tt;
            ordered = λ refuses. refuses;
            line = sim_is_line model fault;
            input = λ of_input. absurd of_input;
            goes_on = puts_go_on depot depot' old new only grows;
          })
      by (inr is) =
          subst (λ (end : Ending). Keeps end 1 (outside depot old) (outside depot' new)) (sym is)
          (record {
            caused = tt;
            ordered = λ refuses. refuses;
            line = tt;
            input = λ of_input. absurd of_input;
            goes_on = puts_go_on depot depot' old new only grows;
          })

  pub trace_keeps :
      (fault : Option SimFault) (ending : Ending)
      → EndsTrace model events fault old new ending
      → Keeps ending 1 (outside depot old) (outside depot' new)
  trace_keeps None ending e = counted_keeps ending e
  trace_keeps (Some fault) ending e = fault_keeps fault ending e

module _ (model : Model) (events : ℕ) (old new : SeenSink) where
  counted_unread : (ending : Ending) → EndsPrint (events_line (codes "traced") events) old new ending → ¬ IsReadFault ending
  counted_unread Done p = λ is. is
  counted_unread (RefusedWords text) p = absurd p
  counted_unread (Refused text) p = absurd p
  counted_unread (Faulted text) p = absurd p
  counted_unread (ReadFault file) p = absurd p
  counted_unread (FileFault file) p = absurd p
  counted_unread OutputFault p = λ is. is
  counted_unread NoMemory p = λ is. is

  fault_unread :
      (fault : SimFault) (ending : Ending)
      → (ending ≡ Faulted (sim_line model fault)) ⊎ (ending ≡ NoMemory)
      → ¬ IsReadFault ending
  fault_unread fault ending (inl is) = subst (λ (end : Ending). ¬ IsReadFault end) (sym is) (λ read. read)
  fault_unread fault ending (inr is) = subst (λ (end : Ending). ¬ IsReadFault end) (sym is) (λ read. read)

  -- no input is to blame
  pub trace_unread :
      (fault : Option SimFault) (ending : Ending) → EndsTrace model events fault old new ending → ¬ IsReadFault ending
  trace_unread None ending e = counted_unread ending e
  trace_unread (Some fault) ending e = fault_unread fault ending e.ends
