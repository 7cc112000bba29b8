-- The members of lists.
use Rattle.std.proofs.Common.{◌≡◌, List, [], ◌∷◌, map, refl, ap}
use Rattle.serde_json.specs.declared.value.Value.{Value}
use Rattle.serde_json.specs.View.{view, items_view}
use Rattle.flame_spec.specs.Json.{items_list}

pub items_list_view : (values : List Value) → items_list (items_view values) ≡ map view values
items_list_view [] = refl
items_list_view (v ∷ values) = ap (λ datas. view v ∷ datas) (items_list_view values)
