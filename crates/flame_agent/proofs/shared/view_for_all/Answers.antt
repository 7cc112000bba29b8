-- The view is what every agent reads by the input.
use Rattle.std.proofs.Common.{◌∙◌, sym, subst}
use Rattle.std.specs.Option.{option_copied}
use Rattle.std.proofs.lemmas.Option.{same_Some}
use Rattle.flame_index.specs.FrozenBoards.{messages_on}
use Rattle.flame_agent.specs.ViewsForAll.{IsForAll}
use Rattle.flame_agent.proofs.ForAll.{for-all}
use Rattle.flame_agent.proofs.shared.view_for_all.Goals as goal

pub returns : goal.returns
returns c = λ view is.
    let source = c.args.program.now in
    subst (IsForAll source c.args.function c.args.input (messages_on c.args.board.now))
    (sym c.in_ok-view.ensures ∙ same_Some _ _ is)
    (for-all source c.args.function c.args.input (option_copied c.filter-filter.result) c.sort-sort.result _
    (messages_on c.args.board.now) (c.accepted_are_runnable.ensures source c.source-source.ensures.accepted)
    c.views_are_as_written.ensures c.unread_memory_tells_nothing.ensures c.filter-filter.ensures c.sort-sort.ensures
    (sym c.reads_memory.ensures ∙ c.if-reads_memory.false))
