-- One helper more has marked its calls; nobody past the last one calls.
use Rattle.std.proofs.Common.{◌≡◌, ℕ, ◌+◌, ◌≤◌, List, length, sym, ap, ◌∙◌, subst, false, Some, None}
use Rattle.std.specs.Prelude.{slice_get}
use Rattle.std.proofs.lemmas.Option.{slice_get_past}
use Rattle.flame_spec.specs.declared.models.Model.{Model}
use Rattle.flame_spec.specs.declared.trees.Stmt.{Stmt}
use Rattle.flame_spec.specs.Below.{all_below}
use Rattle.flame_spec.specs.Definitions.{Definition, helpers}
use Rattle.flame_spec.specs.HelperFaults.{statements_call, helper_context, caller_calls, is_called_by}
use Rattle.flame_spec.specs.Seen.{statements}
use Rattle.flame_lookup.specs.declared.found.CFunction.{CFunction}
use Rattle.flame_lookup.specs.Sources.{Sources, BodyPlace, context_at}
use Rattle.flame_lookup.specs.WordsFound.{definition_found}
use Rattle.flame_graph.specs.Graph.{AreSuccessors, follows, AreAscending}
use Rattle.flame_graph.specs.Marks.{marked_where}
use Rattle.flame_graph.proofs.Following.{follows_is, ascending_is}
use Rattle.flame_graph.proofs.Marking.{marked_more}
use Rattle.flame_calls.specs.FaultsOfCalls.{call_faults, faults_among}

uncalled : (model : Model) (hs : List Definition) (f g : ℕ) → length hs ≤ g → is_called_by model hs f g ≡ false
uncalled model hs f g l = ap (caller_calls model hs f) (slice_get_past hs g l)

pub lists_ascend : (model : Model) (hs : List Definition) (lists read : List (List ℕ)) → AreSuccessors (length hs) (is_called_by model hs) lists → read ≡ lists → AreAscending read
lists_ascend model hs lists read a e = subst AreAscending (sym e) (ascending_is (length hs) (is_called_by model hs) lists (uncalled model hs) a)

-- the faults by the lists are those of the calls
pub faults_are : (model : Model) (hs ds : List Definition) (lists read : List (List ℕ)) → ds ≡ hs → AreSuccessors (length hs) (is_called_by model hs) lists → read ≡ lists → faults_among ds (follows read) ≡ call_faults model hs
faults_are model hs ds lists read e a r =
    ap (λ d. faults_among d (follows read)) e
    ∙ ap (λ xs. faults_among hs (follows xs)) r
    ∙ ap (faults_among hs) (follows_is (length hs) (is_called_by model hs) lists (uncalled model hs) a)

-- a helper's words and body say what the definition says of it
pub listed_more : (sources : Sources) (i : ℕ) (helper : CFunction) (words : BodyPlace) (body : List Stmt) (f : ℕ) (old new : List ℕ)
    → slice_get (helpers sources.model sources.units) i ≡ Some (definition_found helper)
    → words ≡ record { sources = sources; runs = None; file = helper.file }
    → body ≡ helper.def.now.body
    → old ≡ all_below (is_called_by sources.model (helpers sources.model sources.units) f) i
    → new ≡ marked_where i (statements_call (context_at words) f (statements body)) old
    → new ≡ all_below (is_called_by sources.model (helpers sources.model sources.units) f) (i + 1)
listed_more sources i helper words body f old new there w b p q =
    let hs = helpers sources.model sources.units in
    let test = statements_call (context_at words) f (statements body) in
    let calls : test ≡ is_called_by sources.model hs f i =
    ap (λ standing. statements_call (context_at standing) f (statements body)) w
    ∙ ap (λ ss. statements_call (helper_context sources.model hs (definition_found helper)) f (statements ss)) b
    ∙ sym (ap (caller_calls sources.model hs f) there) in
    q ∙ ap (marked_where i test) p ∙ marked_more (is_called_by sources.model hs f) i test calls
