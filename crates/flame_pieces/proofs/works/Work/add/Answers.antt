-- What agents sent joins the parts.
use Rattle.std.proofs.Common.{◌+◌, ◌<◌, ◌^◌, List, length, map, ap, ◌∙◌, subst, arith}
use Rattle.std.specs.Option.{option_or}
use Rattle.std.specs.Prelude.{ℤ}
use Rattle.flame_rows.proofs.Lists.{take-written}
use Rattle.flame_pieces.specs.declared.works.Output.{Output}
use Rattle.flame_pieces.specs.KeptWorks.{part_of, with_lists}
use Rattle.flame_pieces.proofs.Rooms.{items_of}
use Rattle.flame_pieces.proofs.works.Work.add.Goals as goal

pub overflow_add-self : goal.overflow_add-self
overflow_add-self c =
    let fits : length c.args.self.now.agents < 2 ^ 64 =
    subst (λ (rows : List (List ℤ)). length rows < 2 ^ 64) (c.iter-agents.ensures.rest ∙ c.rows.ensures.rows) c.iter-agents.ensures.bound in
    omega (arith, c.requires.left, fits)

pub returns-clause-work : goal.returns-clause-work
returns-clause-work c =
    let work = c.args.self.now in
    let outputs = c.put_parts.new.outputs in
    let all_outputs = take-written outputs work.outputs.items work.outputs.len
    (c.put_parts.auto.outputs ∙ ap (length {A = Output}) c.deref_mut.ensures.value) (omega arith) in
    let parts = ap (map part_of) all_outputs
    ∙ c.put_parts.ensures.parts
    ∙ ap (λ l. with_lists (map items_of c.args.parts.items) (map part_of l)) c.deref_mut.ensures.value in
    let fault = c.or.ensures ∙ ap (λ one. option_or one c.args.fault) c.take-earlier.ensures.value in
    λ i. record { agents = work.agents; ran = work.ran + c.args.ran; parts = parts i; fault = fault i }
