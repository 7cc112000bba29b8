use Rattle.std.proofs.Common.{◌≡◌, ◌∙◌, ◌++◌, ◌∷◌, [], List, ℕ, sym, ap, map, subst, Bor, None, false, refl}
use Rattle.std.specs.Map.{lookup}
use Rattle.std.specs.Str.{bytes_eq}
use Rattle.std.proofs.lemmas.List.{map_push}
use Rattle.indexmap.proofs.CallerLemmas.{insert_entry-new}
use Rattle.flame_spec.specs.declared.models.Variable.{Variable}
use Rattle.flame_spec.specs.declared.wide.DataType.{DataType}
use Rattle.flame_spec.specs.KnownNames.{is_among}
use Rattle.flame_nest.specs.declared.kinds.Kind.{Kind}
use Rattle.flame_nest.specs.FlatModels.{flat_variables}
use Rattle.flame_nest.specs.NestFaults.{type_names, is_wide}
use Rattle.flame_nest.specs.KindTables.{IsKinds}
use Rattle.flame_name_sets.specs.NameTables.{names_of}
use Rattle.flame_nest.proofs.Entries.{look-missing}
use Rattle.flame_name_sets.proofs.Tables.{look-none}
use Rattle.flame_nest.proofs.Unfolding.{IsKinds-push, names_of-table}
use Rattle.flame_nest.proofs.kinds.Kinds.add.Goals as goal

abbrev shown : List (Bor (List ℕ) × Kind) → List (List ℕ × List Variable)
shown entries = map (λ entry. (entry.0.now, entry.1.fields)) entries

abbrev declared : List (Bor (List ℕ) × Kind) → List DataType
declared entries = map (λ entry. entry.1.declared.now) entries

-- a name that no data type has is not in the map
unknown : (name text : List ℕ) (types : List DataType) (entries : List (Bor (List ℕ) × Kind))
    → text ≡ name
    → declared entries ≡ types
    → IsKinds (declared entries) (shown entries)
    → is_among name (type_names types) ≡ false
    → lookup (λ key. bytes_eq text key.now) entries ≡ None
unknown name text types entries same view kinds new =
    look-missing
    text
    (λ kind. kind.fields)
    entries
    (look-none
    text
    (shown entries)
    (ap (λ t. is_among t (names_of (shown entries))) same
    ∙ ap (λ table. is_among name (names_of table)) kinds.same
    ∙ ap (is_among name) (names_of-table (declared entries))
    ∙ ap (λ l. is_among name (type_names l)) view
    ∙ new))

-- the map with one data type more
kept : (types : List DataType) (type : DataType) (key : Bor (List ℕ)) (kind : Kind)
    (entries more : List (Bor (List ℕ) × Kind))
    → more ≡ entries ++ (key, kind) ∷ []
    → key.now ≡ type.name
    → kind.declared.now ≡ type
    → declared entries ≡ types
    → IsKinds (declared entries) (shown entries)
    → is_among type.name (type_names types) ≡ false
    → kind.fields ≡ flat_variables types type.variables
    → is_wide kind.fields ≡ false
    → IsKinds (declared more) (shown more)
kept types type key kind entries more e name is view kinds new flat narrow =
    let P : List DataType → List (List ℕ × List Variable) → Type 0 = λ ts table. IsKinds ts table in
    let whole = IsKinds-push types (shown entries) type kind.fields
    (subst (λ ts. IsKinds ts (shown entries)) view kinds) new flat narrow in
    let left : types ++ type ∷ [] ≡ declared more =
    ap (λ l. l ++ type ∷ []) (sym view)
    ∙ ap (λ t. declared entries ++ t ∷ []) (sym is)
    ∙ sym (map_push (λ entry. entry.1.declared.now) entries (key, kind))
    ∙ ap declared (sym e) in
    let right : shown entries ++ (type.name, kind.fields) ∷ [] ≡ shown more =
    ap (λ n. shown entries ++ (n, kind.fields) ∷ []) (sym name)
    ∙ sym (map_push (λ entry. (entry.0.now, entry.1.fields)) entries (key, kind))
    ∙ ap shown (sym e) in
    subst (λ table. IsKinds (declared more) table) right (subst (λ ts. IsKinds ts (shown entries ++ (type.name, kind.fields) ∷ [])) left whole)

pub invariant_of-self-2 : goal.invariant_of-self-2
invariant_of-self-2 c =
    let entries = c.self.inside.kinds.entries in
    let none = unknown c.args.declared.now.name c.as_str-name.result.now c.args.self.now entries c.as_str-name.ensures
    c.self.view_is c.self.invariant c.requires.new in
    let put = c.in_ok-insert.ensures.entries
    ∙ insert_entry-new (λ x y. bytes_eq x.now y.now) c.self.inside.kinds c.as_str-name.result (record { declared = c.args.declared; fields = c.args.fields }) none in
    kept
    c.args.self.now
    c.args.declared.now
    c.as_str-name.result
    (record { declared = c.args.declared; fields = c.args.fields })
    entries
    c.insert.new.self.entries
    put
    c.as_str-name.ensures
    refl
    c.self.view_is
    c.self.invariant
    c.requires.new
    c.requires.flat
    c.requires.narrow

pub returns : goal.returns
returns c =
    let entries = c.self.inside.kinds.entries in
    let none = unknown c.args.declared.now.name c.as_str-name.result.now c.args.self.now entries c.as_str-name.ensures
    c.self.view_is c.self.invariant c.requires.new in
    let put = c.in_ok-insert.ensures.entries
    ∙ insert_entry-new (λ x y. bytes_eq x.now y.now) c.self.inside.kinds c.as_str-name.result (record { declared = c.args.declared; fields = c.args.fields }) none in
    ap declared put
    ∙ map_push (λ entry. entry.1.declared.now) entries (c.as_str-name.result, record { declared = c.args.declared; fields = c.args.fields })
    ∙ ap (λ l. l ++ c.args.declared.now ∷ []) c.self.view_is
