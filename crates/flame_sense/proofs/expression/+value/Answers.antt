-- Each call and most ways out, by the laws of the trees where they are needed.
use Rattle.std.proofs.lemmas.Grind.{common_steps}
use Rattle.std.proofs.lemmas.Int.{to_z-of_z}
use Rattle.std.proofs.Common.{rules, arith}
use Rattle.flame_spec.specs.declared.trees.Expr.{the_lemmas}
use Rattle.flame_sense.proofs.expression.+value.Goals as goal

pub all_value-loop-part-init : goal.all_value-loop-part-init
all_value-loop-part-init t c = search rules

pub all_value-offset_bounds-parts-part-index : goal.all_value-offset_bounds-parts-part-index
all_value-offset_bounds-parts-part-index t c = search rules

pub all_value-bounds-parts-part-index : goal.all_value-bounds-parts-part-index
all_value-bounds-parts-part-index t c = search rules

pub all_value-value-requires : goal.all_value-value-requires
all_value-value-requires t c = search (rules, the_lemmas)

pub all_value-branch-value-requires : goal.all_value-branch-value-requires
all_value-branch-value-requires t c κs = search (rules, the_lemmas)

pub all_value-from_residual-requires : goal.all_value-from_residual-requires
all_value-from_residual-requires t c κs = search (rules, the_lemmas)

pub all_value-loop-part-smaller : goal.all_value-loop-part-smaller
all_value-loop-part-smaller t c = search (rules, the_lemmas)

pub any_value-loop-part-init : goal.any_value-loop-part-init
any_value-loop-part-init t c = search rules

pub any_value-offset_bounds-parts-part-index : goal.any_value-offset_bounds-parts-part-index
any_value-offset_bounds-parts-part-index t c = search rules

pub any_value-bounds-parts-part-index : goal.any_value-bounds-parts-part-index
any_value-bounds-parts-part-index t c = search rules

pub any_value-value-requires : goal.any_value-value-requires
any_value-value-requires t c = search (rules, the_lemmas)

pub any_value-branch-value-requires : goal.any_value-branch-value-requires
any_value-branch-value-requires t c κs = search (rules, the_lemmas)

pub any_value-from_residual-requires : goal.any_value-from_residual-requires
any_value-from_residual-requires t c κs = search (rules, the_lemmas)

pub any_value-loop-part-smaller : goal.any_value-loop-part-smaller
any_value-loop-part-smaller t c = search (rules, the_lemmas)

pub chain_value-loop-link-init : goal.chain_value-loop-link-init
chain_value-loop-link-init t c = search rules

pub chain_value-offset_bounds-links-link-index : goal.chain_value-offset_bounds-links-link-index
chain_value-offset_bounds-links-link-index t c = search rules

pub chain_value-bounds-links-link-index : goal.chain_value-bounds-links-link-index
chain_value-bounds-links-link-index t c = search rules

pub chain_value-value-requires : goal.chain_value-value-requires
chain_value-value-requires t c = search (rules, the_lemmas)

pub chain_value-branch-right-requires : goal.chain_value-branch-right-requires
chain_value-branch-right-requires t c κs = search (rules, the_lemmas)

pub chain_value-from_residual-requires : goal.chain_value-from_residual-requires
chain_value-from_residual-requires t c κs = search (rules, the_lemmas)

pub chain_value-apply-requires : goal.chain_value-apply-requires
chain_value-apply-requires t c = search (rules, the_lemmas)

pub chain_value-at_line-requires : goal.chain_value-at_line-requires
chain_value-at_line-requires t c = search (rules, the_lemmas)

pub chain_value-branch-value_so_far-requires : goal.chain_value-branch-value_so_far-requires
chain_value-branch-value_so_far-requires t c κs = search (rules, the_lemmas)

pub chain_value-from_residual-requires-in_err-value_so_far : goal.chain_value-from_residual-requires-in_err-value_so_far
chain_value-from_residual-requires-in_err-value_so_far t c κs = search (rules, the_lemmas)

pub chain_value-loop-link-smaller : goal.chain_value-loop-link-smaller
chain_value-loop-link-smaller t c = search (rules, the_lemmas)

pub value-as_str-requires : goal.value-as_str-requires
value-as_str-requires t c = search (rules, the_lemmas)

pub value-named-requires-text-word : goal.value-named-requires-text-word
value-named-requires-text-word t c κs = search (rules, the_lemmas)

pub value-named-requires : goal.value-named-requires
value-named-requires t c = search (rules, the_lemmas)

pub value-as_str-requires-in-Field : goal.value-as_str-requires-in-Field
value-as_str-requires-in-Field t c = search (rules, the_lemmas)

pub value-as_str-requires-in-Field-2 : goal.value-as_str-requires-in-Field-2
value-as_str-requires-in-Field-2 t c = search (rules, the_lemmas)

pub value-field_value-requires-text-word : goal.value-field_value-requires-text-word
value-field_value-requires-text-word t c κs = search (rules, the_lemmas)

pub value-field_value-requires-text-variable : goal.value-field_value-requires-text-variable
value-field_value-requires-text-variable t c κs = search (rules, the_lemmas)

pub value-field_value-requires : goal.value-field_value-requires
value-field_value-requires t c = search (rules, the_lemmas)

pub value-as_str-requires-in-Get : goal.value-as_str-requires-in-Get
value-as_str-requires-in-Get t c = search (rules, the_lemmas)

pub value-got-requires-text-word : goal.value-got-requires-text-word
value-got-requires-text-word t c κs = search (rules, the_lemmas)

pub value-got-requires : goal.value-got-requires
value-got-requires t c = search (rules, the_lemmas)

pub value-get-requires : goal.value-get-requires
value-get-requires t c κs = search (rules, the_lemmas)

pub value-value-requires : goal.value-value-requires
value-value-requires t c = search (rules, the_lemmas)

pub value-branch-index-requires : goal.value-branch-index-requires
value-branch-index-requires t c κs = search (rules, the_lemmas)

pub value-from_residual-requires : goal.value-from_residual-requires
value-from_residual-requires t c κs = search (rules, the_lemmas)

pub value-returns-in_err-index-in-At : goal.value-returns-in_err-index-in-At
value-returns-in_err-index-in-At t c = search (rules, the_lemmas)

pub value-as_str-requires-in-At : goal.value-as_str-requires-in-At
value-as_str-requires-in-At t c = search (rules, the_lemmas)

pub value-array_named-array-requires-text-word : goal.value-array_named-array-requires-text-word
value-array_named-array-requires-text-word t c κs = search (rules, the_lemmas)

pub value-array_named-array-requires : goal.value-array_named-array-requires
value-array_named-array-requires t c = search (rules, the_lemmas)

pub value-as_slice-requires : goal.value-as_slice-requires
value-as_slice-requires t c κs = search (rules, the_lemmas)

pub value-element-requires : goal.value-element-requires
value-element-requires t c = search (rules, the_lemmas)

pub value-get-requires-in-FieldAt : goal.value-get-requires-in-FieldAt
value-get-requires-in-FieldAt t c κs = search (rules, the_lemmas)

pub value-value-requires-in-FieldAt : goal.value-value-requires-in-FieldAt
value-value-requires-in-FieldAt t c = search (rules, the_lemmas)

pub value-branch-index-requires-in-FieldAt : goal.value-branch-index-requires-in-FieldAt
value-branch-index-requires-in-FieldAt t c κs = search (rules, the_lemmas)

pub value-from_residual-requires-in_err-index-in-FieldAt : goal.value-from_residual-requires-in_err-index-in-FieldAt
value-from_residual-requires-in_err-index-in-FieldAt t c κs = search (rules, the_lemmas)

pub value-returns-in_err-index-in-FieldAt : goal.value-returns-in_err-index-in-FieldAt
value-returns-in_err-index-in-FieldAt t c = search (rules, the_lemmas)

pub value-as_str-requires-in-FieldAt : goal.value-as_str-requires-in-FieldAt
value-as_str-requires-in-FieldAt t c = search (rules, the_lemmas)

pub value-as_str-requires-in-FieldAt-2 : goal.value-as_str-requires-in-FieldAt-2
value-as_str-requires-in-FieldAt-2 t c = search (rules, the_lemmas)

pub value-member_read-array-requires-text-word : goal.value-member_read-array-requires-text-word
value-member_read-array-requires-text-word t c κs = search (rules, the_lemmas)

pub value-member_read-array-requires-text-variable : goal.value-member_read-array-requires-text-variable
value-member_read-array-requires-text-variable t c κs = search (rules, the_lemmas)

pub value-member_read-array-requires : goal.value-member_read-array-requires
value-member_read-array-requires t c = search (rules, the_lemmas)

pub value-as_str-requires-in-FieldAt-3 : goal.value-as_str-requires-in-FieldAt-3
value-as_str-requires-in-FieldAt-3 t c = search (rules, the_lemmas)

pub value-row_read-row-requires-text-word : goal.value-row_read-row-requires-text-word
value-row_read-row-requires-text-word t c κs = search (rules, the_lemmas)

pub value-row_read-row-requires : goal.value-row_read-row-requires
value-row_read-row-requires t c = search (rules, the_lemmas)

pub value-element-requires-in-FieldAt : goal.value-element-requires-in-FieldAt
value-element-requires-in-FieldAt t c = search (rules, the_lemmas)

pub value-deref-requires : goal.value-deref-requires
value-deref-requires t c κs = search (rules, the_lemmas)

pub value-value-requires-in-Unary : goal.value-value-requires-in-Unary
value-value-requires-in-Unary t c = search (rules, the_lemmas)

pub value-branch-inner-requires : goal.value-branch-inner-requires
value-branch-inner-requires t c κs = search (rules, the_lemmas)

pub value-from_residual-requires-in_err-inner-in-Unary : goal.value-from_residual-requires-in_err-inner-in-Unary
value-from_residual-requires-in_err-inner-in-Unary t c κs = search (rules, the_lemmas)

pub value-returns-in_err-inner-in-Unary : goal.value-returns-in_err-inner-in-Unary
value-returns-in_err-inner-in-Unary t c = search (rules, the_lemmas)

pub value-items-requires : goal.value-items-requires
value-items-requires t c κs = search (rules, the_lemmas)

pub value-signs_value-requires : goal.value-signs_value-requires
value-signs_value-requires t c = search (rules, the_lemmas)

pub value-deref-requires-in-Chain : goal.value-deref-requires-in-Chain
value-deref-requires-in-Chain t c κs = search (rules, the_lemmas)

pub value-value-requires-in-Chain : goal.value-value-requires-in-Chain
value-value-requires-in-Chain t c = search (rules, the_lemmas)

pub value-branch-first-requires : goal.value-branch-first-requires
value-branch-first-requires t c κs = search (rules, the_lemmas)

pub value-from_residual-requires-in_err-first-in-Chain : goal.value-from_residual-requires-in_err-first-in-Chain
value-from_residual-requires-in_err-first-in-Chain t c κs = search (rules, the_lemmas)

pub value-returns-in_err-first-in-Chain : goal.value-returns-in_err-first-in-Chain
value-returns-in_err-first-in-Chain t c = search (rules, the_lemmas)

pub value-items-requires-in-Chain : goal.value-items-requires-in-Chain
value-items-requires-in-Chain t c κs = search (rules, the_lemmas)

pub value-chain_value-requires : goal.value-chain_value-requires
value-chain_value-requires t c = search (rules, the_lemmas)

pub value-items-requires-in-All : goal.value-items-requires-in-All
value-items-requires-in-All t c κs = search (rules, the_lemmas)

pub value-all_value-requires : goal.value-all_value-requires
value-all_value-requires t c = search (rules, the_lemmas)

pub value-items-requires-in-Any : goal.value-items-requires-in-Any
value-items-requires-in-Any t c κs = search (rules, the_lemmas)

pub value-any_value-requires : goal.value-any_value-requires
value-any_value-requires t c = search (rules, the_lemmas)

pub value-returns-in-Number : goal.value-returns-in-Number
value-returns-in-Number t c = search (rules, the_lemmas)

pub value-returns-in-Name : goal.value-returns-in-Name
value-returns-in-Name t c = search (rules, the_lemmas)

pub value-returns-in-Field : goal.value-returns-in-Field
value-returns-in-Field t c = search (rules, the_lemmas)

pub value-returns-in-Get : goal.value-returns-in-Get
value-returns-in-Get t c = search (rules, the_lemmas)

pub value-returns-in_ok-index-in-At : goal.value-returns-in_ok-index-in-At
value-returns-in_ok-index-in-At t c = search (rules, the_lemmas)

pub value-returns-in_ok-index-in-FieldAt : goal.value-returns-in_ok-index-in-FieldAt
value-returns-in_ok-index-in-FieldAt t c = search (rules, the_lemmas)

pub value-returns-in_ok-inner-in-Unary : goal.value-returns-in_ok-inner-in-Unary
value-returns-in_ok-inner-in-Unary t c = search (rules, the_lemmas)

pub value-returns-in_ok-first-in-Chain : goal.value-returns-in_ok-first-in-Chain
value-returns-in_ok-first-in-Chain t c = search (rules, the_lemmas)

pub value-returns-in-All : goal.value-returns-in-All
value-returns-in-All t c = search (rules, the_lemmas)

pub value-returns-in-Any : goal.value-returns-in-Any
value-returns-in-Any t c = search (rules, the_lemmas)

pub all_value-returns-in_err-value : goal.all_value-returns-in_err-value
all_value-returns-in_err-value t c = grind (arith, common_steps)

pub all_value-returns-then-branch-eq0 : goal.all_value-returns-then-branch-eq0
all_value-returns-then-branch-eq0 t c = grind (arith, common_steps)

pub all_value-loop-part-preserved : goal.all_value-loop-part-preserved
all_value-loop-part-preserved t c = grind (arith, common_steps)

pub all_value-returns : goal.all_value-returns
all_value-returns t c = grind (arith, common_steps)

pub any_value-returns-in_err-value : goal.any_value-returns-in_err-value
any_value-returns-in_err-value t c = grind (arith, common_steps)

pub any_value-returns-then-branch-ne0 : goal.any_value-returns-then-branch-ne0
any_value-returns-then-branch-ne0 t c = grind (arith, common_steps)

pub any_value-loop-part-preserved : goal.any_value-loop-part-preserved
any_value-loop-part-preserved t c = grind (arith, common_steps)

pub any_value-returns : goal.any_value-returns
any_value-returns t c = grind (arith, common_steps)

pub chain_value-returns-in_err-right : goal.chain_value-returns-in_err-right
chain_value-returns-in_err-right t c = grind (arith, common_steps)

pub chain_value-returns-in_err-value_so_far : goal.chain_value-returns-in_err-value_so_far
chain_value-returns-in_err-value_so_far t c = grind (arith, common_steps, to_z-of_z)

pub chain_value-loop-link-preserved : goal.chain_value-loop-link-preserved
chain_value-loop-link-preserved t c = grind (arith, common_steps, to_z-of_z)

pub chain_value-returns : goal.chain_value-returns
chain_value-returns t c = grind (arith, common_steps)
