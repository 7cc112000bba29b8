-- Keys that are kept, and the first index by a key.
use Rattle.std.proofs.Common.{◌≡◌, ℕ, ◌<◌, ◌≤◌, Bool, true, false, List, length, take, get_or, refl, sym, ap, ◌∙◌, take_all}
use Rattle.std.specs.List.{list_any}
use Rattle.std.proofs.lemmas.Option.{slice_get_read}
use Rattle.flame_rows.proofs.Lists.{list_any-at, list_any_map}
use Rattle.flame_spec.specs.Views.{Key}
use Rattle.flame_index.specs.FrozenBoards.{is_same_key}
use Rattle.flame_index.specs.Indexes.{IndexTable}
use Rattle.flame_index.specs.IndexBodies.{keys_of}

-- ---- the first index by a key

module _ (key : Key) (indexes : List IndexTable) where
  -- whether an index has the key
  abbrev has_key : IndexTable → Bool
  has_key index = is_same_key key index.key

  pub found_there : (k : ℕ) (index : IndexTable) → k < length indexes → index ≡ get_or indexes k index → has_key index ≡ true
      → true ≡ list_any (is_same_key key) (keys_of indexes)
  found_there k index within at same =
      sym (list_any_map (is_same_key key) (λ (one : IndexTable). one.key) indexes
      ∙ list_any-at has_key indexes k index (slice_get_read indexes (length indexes) k index refl within at) same)

  pub found_none : (k : ℕ) → length indexes ≤ k → list_any has_key (take k indexes) ≡ false → false ≡ list_any (is_same_key key) (keys_of indexes)
  found_none k all none =
      sym none
      ∙ ap (list_any has_key) (take_all k indexes all)
      ∙ sym (list_any_map (is_same_key key) (λ (one : IndexTable). one.key) indexes)
