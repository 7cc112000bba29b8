use Rattle.std.proofs.Common.{◌≡◌, ◌++◌, ◌∷◌, ◌∙◌, [], List, Vec, map, length, ap, sym, subst, arith, append_assoc, length-append}
use Rattle.std.specs.Global.{Global}
use Rattle.std.specs.Vec.Iter.{into_iter_items}
use Rattle.std.proofs.lemmas.List.{map-append}
use Rattle.flame_board.specs.declared.lanes.Lane.{Lane}
use Rattle.flame_lanes.specs.declared.jobs.Job.{Job}
use Rattle.flame_lanes.specs.declared.tasks.Task.{Task}
use Rattle.flame_lanes.specs.LaneColumns.{AreColumns}
use Rattle.flame_lanes.proofs.Columned.{dealt, dealt-all, longer-left, none-left}
use Rattle.flame_lanes.proofs.columns.jobs_of.Goals as goal

abbrev lanes_of : Job → List Lane
lanes_of job = job.lanes

abbrev tasks_of : Job → List Task
tasks_of job = job.tasks

pub deal-requires : goal.deal-requires
deal-requires c = λ k d less.
    let b = c.loop-load in
    let rest = into_iter_items c.next.new.self in
    omega (
      arith,
      b.invariant.left k d less,
      ap length b.invariant.rest,
      length-append b.yielded (into_iter_items b.load-iterator),
      ap length c.in-Some.ensures.steps.0,
    )

pub loop-load-preserved : goal.loop-load-preserved
loop-load-preserved c =
    let b = c.loop-load in
    let all = c.args.columns.items in
    let load = c.in-Some.load in
    let row = c.in_ok-lanes.lanes.items in
    let steps = c.in-Some.ensures.steps in
    let job : Job = record { tasks = c.of.result; lanes = c.of-in-loop-load.result } in
    let pushed : c.push.new.self.items ≡ b.jobs.items ++ job ∷ [] = c.in_ok-push.ensures.items in
    let one : map lanes_of c.push.new.self.items ≡ map lanes_of b.jobs.items ++ row ∷ [] =
    ap (map lanes_of) pushed ∙ map-append lanes_of b.jobs.items (job ∷ [])
    ∙ ap (λ (l : List Lane). map lanes_of b.jobs.items ++ l ∷ []) c.of-in-loop-load.ensures in
    record {
      lanes = λ rows are.
          subst (λ (z : List (List Lane)). AreColumns (z ++ rows) all) (sym one)
          (dealt (map lanes_of b.jobs.items) row b.columns.items c.deal.new.columns.items all b.invariant.lanes
          c.in_ok-lanes.ensures rows are);
      tasks = ap (map tasks_of) pushed ∙ map-append tasks_of b.jobs.items (job ∷ [])
          ∙ (λ i. b.invariant.tasks i ++ c.of.ensures i ∷ [])
          ∙ sym (map-append (λ (own : Vec Task Global). own.items) b.yielded (load ∷ []));
      left = longer-left c.deal.new.columns.items row b.columns.items (length c.args.loads.items) (length b.yielded) _
          c.in_ok-lanes.ensures (length-append b.yielded (load ∷ [])) b.invariant.left;
      rest = append_assoc b.yielded (load ∷ []) (into_iter_items c.next.new.self)
          ∙ ap (λ l. b.yielded ++ l) (sym steps.0) ∙ b.invariant.rest;
    }

pub returns-clause-lanes : goal.returns-clause-lanes
returns-clause-lanes c =
    let b = c.loop-load in
    let over : length b.yielded ≡ length c.args.loads.items = omega (
      arith,
      ap length b.invariant.rest,
      length-append b.yielded (into_iter_items b.load-iterator),
      b.load-iterator.rest.ok.0,
      c.in-None.ensures.steps.0,
    ) in
    dealt-all (map lanes_of b.jobs.items) b.columns.items c.args.columns.items b.invariant.lanes
    (none-left b.columns.items (length b.yielded) (length c.args.loads.items) b.invariant.left over)
