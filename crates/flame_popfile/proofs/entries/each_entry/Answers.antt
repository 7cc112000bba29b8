-- What an entry asks for is what its name asks for.
use Rattle.std.proofs.Common.{◌≡◌, ℕ, List, [], ◌++◌, ◌∙◌, ap, sym, subst, string_bytes}
use Rattle.std.specs.List.{flat_map}
use Rattle.serde_json.specs.Data.{Data}
use Rattle.serde_json.specs.View.{view, members_view}
use Rattle.flame_spec.specs.Paths.{at_key}
use Rattle.flame_spec.specs.FirstFaults.{FailsFirst}
use Rattle.flame_spec.proofs.FaultLists.{FailsFirst-append, Passes-same, Passes-passed}
use Rattle.flame_popfile.specs.declared.faults.PopFault.{PopFault}
use Rattle.flame_popfile.specs.PopulationParts.{entries}
use Rattle.flame_xmml.specs.ValuePlaces.{path_of}
use Rattle.flame_popfile.specs.PopulationTables.{asked_by}
use Rattle.flame_popfile.proofs.PlacePaths.{asked_at}
use Rattle.flame_popfile.proofs.entries.each_entry.Goals as goal

pub loop-key-preserved : goal.loop-key-preserved
loop-key-preserved c =
    let asks : List ℕ × Data → List PopFault =
    λ entry. asked_by c.args.unknown c.args.lengths.now entry.0 (at_key (path_of c.args.place.now) entry.0) entry.1 in
    let none : asks (string_bytes c.in-Some.key.now, view c.in-Some.inside.now) ≡ [] =
    asked_at c.args.unknown c.args.lengths.now c.args.place c.as_str-name.result _ (view c.in-Some.inside.now)
    c.as_str-name.ensures.value
    ∙ c.in_ok-asked.ensures in
    c.loop-key.invariant
    ∙ ap (λ es. flat_map asks (entries (members_view es))) c.in-Some.ensures.steps
    ∙ ap (λ faults. faults ++ flat_map asks (entries (members_view c.next.new.self))) none

pub returns-in_err-asked : goal.returns-in_err-asked
returns-in_err-asked c =
    let asks : List ℕ × Data → List PopFault =
    λ entry. asked_by c.args.unknown c.args.lengths.now entry.0 (at_key (path_of c.args.place.now) entry.0) entry.1 in
    let rest = flat_map asks (entries (members_view c.next.new.self)) in
    let first : FailsFirst (asks (string_bytes c.in-Some.key.now, view c.in-Some.inside.now)) c.in_err-asked.field-0.0 =
    subst (λ faults. FailsFirst faults c.in_err-asked.field-0.0)
    (sym
    (asked_at c.args.unknown c.args.lengths.now c.args.place c.as_str-name.result _ (view c.in-Some.inside.now)
    c.as_str-name.ensures.value))
    c.in_err-asked.ensures in
    Passes-same c.from_residual.result
    (c.loop-key.invariant ∙ ap (λ es. flat_map asks (entries (members_view es))) c.in-Some.ensures.steps)
    (Passes-passed _ _ c.from_residual.result c.from_residual.ensures.1
    (FailsFirst-append _ (asks (string_bytes c.in-Some.key.now, view c.in-Some.inside.now)) rest first))
