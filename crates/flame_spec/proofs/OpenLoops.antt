-- Statements leave the loops that are open as they are.
use Rattle.std.proofs.Common.{◌≡◌, List, [], ◌∷◌, refl, ◌∙◌}
use Rattle.flame_spec.specs.Trees.{Declared, Statement, declare, Statements, no_more, also}
use Rattle.flame_spec.specs.Scopes.{Sight, after_name, after_items, after, after_all}

pub loops-after_items : (sight : Sight) (items : List Declared) → (after_items sight items).loops ≡ sight.loops
loops-after_items sight [] = refl
loops-after_items sight (item ∷ items) = loops-after_items (after_name sight item.name) items

pub loops-after : (sight : Sight) (statement : Statement) → (after sight statement).loops ≡ sight.loops
loops-after sight (declare items) = loops-after_items sight items
loops-after sight _ = refl

pub loops-after_all : (sight : Sight) (statements : Statements) → (after_all sight statements).loops ≡ sight.loops
loops-after_all sight no_more = refl
loops-after_all sight (also statement statements) =
    loops-after_all (after sight statement) statements ∙ loops-after sight statement
