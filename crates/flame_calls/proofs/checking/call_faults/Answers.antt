-- The faults by the lists are those of the calls.
use Rattle.std.proofs.Common.{◌≡◌, ℕ, [], List, length, map, ap, sym, ◌∙◌, subst, IfOk, IfErr}
use Rattle.std.proofs.lemmas.List.{length-map}
use Rattle.flame_spec.specs.declared.faults.CheckFault.{CheckFault}
use Rattle.flame_spec.specs.Definitions.{Definition, helpers}
use Rattle.flame_spec.specs.FirstFaults.{FailsFirst}
use Rattle.flame_lookup.specs.WordsFound.{definition_found}
use Rattle.flame_calls.proofs.Listing.{lists_ascend, faults_are}
use Rattle.flame_calls.proofs.checking.call_faults.Goals as goal

pub judge-requires-clause-ascending : goal.judge-requires-clause-ascending
judge-requires-clause-ascending c =
    let sources = c.args.tables.now in
    lists_ascend sources.model (helpers sources.model sources.units) c.in_ok-lists.lists.items c.deref.result.now c.in_ok-lists.ensures c.deref.ensures.value

pub judge-requires-clause-same : goal.judge-requires-clause-same
judge-requires-clause-same c =
    ap (length {A = List ℕ}) c.deref.ensures.value
    ∙ c.in_ok-lists.ensures.len
    ∙ sym (ap (length {A = Definition}) c.helpers-all.ensures)
    ∙ length-map c.helpers-all.result.now definition_found

pub returns-clause-none : goal.returns-clause-none
returns-clause-none c =
    let sources = c.args.tables.now in
    let P : List CheckFault → Type 0 = λ faults. IfOk c.judge.result (λ done. faults ≡ []) in
    subst P (faults_are sources.model (helpers sources.model sources.units) (map definition_found c.helpers-all.result.now) c.in_ok-lists.lists.items c.deref.result.now c.helpers-all.ensures c.in_ok-lists.ensures c.deref.ensures.value)
    c.judge.ensures.none

pub returns-clause-first : goal.returns-clause-first
returns-clause-first c =
    let sources = c.args.tables.now in
    let P : List CheckFault → Type 0 = λ faults. IfErr c.judge.result (FailsFirst faults) in
    subst P (faults_are sources.model (helpers sources.model sources.units) (map definition_found c.helpers-all.result.now) c.in_ok-lists.lists.items c.deref.result.now c.helpers-all.ensures c.in_ok-lists.ensures c.deref.ensures.value)
    c.judge.ensures.first
