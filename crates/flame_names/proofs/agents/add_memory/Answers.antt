use Rattle.std.proofs.Common.{◌≡◌, ◌∙◌, ◌++◌, ◌&&◌, sym, ap, codes}
use Rattle.std.specs.Prelude.{nat_lt}
use Rattle.std.proofs.lemmas.Result.{IfErr-weaker, on_ok_weaker}
use Rattle.flame_spec.specs.declared.faults.NameKind.TheVariants.{TooWide}
use Rattle.flame_spec.specs.Columns.{width, is_array}
use Rattle.flame_spec.specs.MessageFaults.{width_faults}
use Rattle.flame_spec.specs.NameFaults.{memory_variable_faults}
use Rattle.flame_spec.specs.Paths.{at_key}
use Rattle.flame_spec.specs.Refusals.{fault_where}
use Rattle.flame_spec.proofs.FaultLists.{FailsFirst-same}
use Rattle.flame_names.specs.PlacePaths.{text_of}
use Rattle.flame_names.proofs.Widths.{wide-push}
use Rattle.flame_names.proofs.agents.add_memory.Goals as goal

-- a variable whose name has no faults has those of its width
width_is : (c : goal.After-refuse_wide)
    → memory_variable_faults c.args.constants.now c.args.earlier.now (text_of c.args.place.now) c.args.variable.now
    ≡ fault_where
    (is_array c.args.variable.now && nat_lt 4096 (width c.add_memory_name.new.earlier))
    TooWide
    (at_key (text_of c.args.place.now) (codes "length"))
    c.args.variable.now.name
width_is c =
    let path = text_of c.args.place.now in
    let variable = c.args.variable.now in
    ap (λ l. l ++ width_faults c.args.earlier.now path variable) c.in_ok-add_memory_name.ensures.none
    ∙ ap
    (λ b. fault_where b TooWide (at_key path (codes "length")) variable.name)
    (sym
    (ap (λ l. is_array variable && nat_lt 4096 (width l)) c.in_ok-add_memory_name.ensures.variables
    ∙ wide-push c.args.earlier.now variable))

pub returns-clause-none : goal.returns-clause-none
returns-clause-none c = on_ok_weaker c.refuse_wide.result (λ e. width_is c ∙ e) c.refuse_wide.ensures.none

pub returns-clause-first : goal.returns-clause-first
returns-clause-first c =
    IfErr-weaker c.refuse_wide.result _ _ (λ fail. FailsFirst-same fail _ _ (sym (width_is c))) c.refuse_wide.ensures.first
