use Rattle.std.proofs.Common.{◌∙◌, ◌++◌, ◌∷◌, [], List, ℕ, map, take, sym, ap}
use Rattle.std.proofs.lemmas.List.{map_more}
use Rattle.std.proofs.lemmas.Result.{err_from_is_err_and}
use Rattle.flame_spec.specs.KnownNames.{is_among}
use Rattle.flame_spec.specs.Paths.{at_number}
use Rattle.flame_spec.specs.FunctionFaults.{function_faults}
use Rattle.flame_spec.proofs.FaultLists.{FailsFirst-member}
use Rattle.flame_names.specs.PlacePaths.{text_of}
use Rattle.flame_names.specs.NameLooks.{transition_of}
use Rattle.flame_names.specs.TableScopes.{declared_of}
use Rattle.flame_names.specs.FunctionTitles.{function_at}
use Rattle.flame_names.proofs.Chains.{function-is}
use Rattle.flame_names.proofs.Rests.{none-member}
use Rattle.flame_names.proofs.functions.functions.Goals as goal

pub returns-in_err-add_function-clause-first : goal.returns-in_err-add_function-clause-first
returns-in_err-add_function-clause-first c =
    let p = err_from_is_err_and c.from_residual.result c.from_residual.ensures.1 in
    let declared = declared_of c.args.tables.now in
    let memory = c.args.memory.now in
    let is_taken = λ (name : List ℕ). is_among name c.args.shared.now in
    let path = text_of c.args.place.now in
    let functions = c.args.functions.now in
    let i = c.loop-i.i in
    let function = c.index-functions-i.result in
    rw
    (p.1, p.2)
    (FailsFirst-member
    _
    (λ i function. function_faults declared memory is_taken (take i functions) (at_number path i) function)
    functions
    i
    function
    _
    (function_at declared memory is_taken c.loop-i.earlier (at_number path i) function)
    c.loop-i-test.true
    c.loop-i.invariant.rest
    (ap (λ table. function_at declared memory is_taken table (at_number path i) function) c.loop-i.invariant.earlier
    ∙ function-is declared memory is_taken (take i functions) (at_number path i) function
    ∙ ap (function_faults declared memory is_taken (take i functions) (at_number path i)) c.index-functions-i.is)
    c.in_err-add_function.ensures.first)

pub loop-i-preserved : goal.loop-i-preserved
loop-i-preserved c =
    let declared = declared_of c.args.tables.now in
    let memory = c.args.memory.now in
    let is_taken = λ (name : List ℕ). is_among name c.args.shared.now in
    let path = text_of c.args.place.now in
    let functions = c.args.functions.now in
    let i = c.loop-i.i in
    let function = c.index-functions-i.result in
    record {
      earlier =
          c.in_ok-add_function.ensures.names
          ∙ ap (λ table. table ++ transition_of function ∷ []) c.loop-i.invariant.earlier
          ∙ ap (λ f. map transition_of (take i functions) ++ transition_of f ∷ []) c.index-functions-i.is
          ∙ sym (map_more transition_of functions i function c.loop-i-test.true);
      rest =
          c.loop-i.invariant.rest
          ∙ none-member
          (λ i function. function_faults declared memory is_taken (take i functions) (at_number path i) function)
          functions
          i
          function
          (function_at declared memory is_taken c.loop-i.earlier (at_number path i) function)
          c.loop-i-test.true
          (ap
          (λ table. function_at declared memory is_taken table (at_number path i) function)
          c.loop-i.invariant.earlier
          ∙ function-is declared memory is_taken (take i functions) (at_number path i) function
          ∙ ap (function_faults declared memory is_taken (take i functions) (at_number path i)) c.index-functions-i.is)
          c.in_ok-add_function.ensures.none;
    }
