-- No foreign key acts on a change of the rows of one of the office's tables.
use Rattle.std.proofs.Common.{◌≡◌, ℕ, ◌==◌, Bool, true, false, not, ◌||◌, Option, Some, None, option_map, unwrap_or, List, [], ◌∷◌, map, inl, inr, refl, sym, ap, ap₂, subst, ◌∙◌}
use Rattle.std.specs.List.{list_all, list_any}
use Rattle.std.specs.Char.{to_ascii_lowercase}
use Rattle.std.specs.Ordering.{nat_cmp, is_eq}
use Rattle.std.specs.Cmp.Lexicographic.{slice_cmp}
use Rattle.std.proofs.lemmas.Bool.{eq-eqb, eqb-true}
use Rattle.std.proofs.lemmas.Map.Text.{is_eq-slice_cmp}
use Rattle.std.proofs.lemmas.Slice.Eq.{bytes_eq-Decides}
use Rattle.sqlite.specs.Schema.{Schema}
use Rattle.sqlite.specs.Table.{Table}
use Rattle.sqlite_schema.specs.declared.schema.Reference.{Reference}
use Rattle.sqlite_schema.specs.Names.{same_name}
use Rattle.sqlite_schema.specs.Rules.{ParentKey, parent_key}
use Rattle.sqlite_rules.specs.Lists.{Has}
use Rattle.sqlite_rules.proofs.ListLemmas.{has_kept, test_from, test_has}
use Rattle.sqlite_rules.proofs.PlaceLemmas.{named_parent}
use Rattle.wb_sql.specs.Changes.{does_nothing, refers_to_tree, never_acts_on}
use Rattle.wb_sql.specs.Tables.{office, arch, builder, source_record, source_state, scratch_source, scratch_binary, office_schema}
use Rattle.wb_sql.specs.Among.{HasTable, HasOffice, HasStates, table_in, tree_named, names_either, is_quiet, are_quiet}

-- what has the same name as a name has the same name as each that is the same
pub same_name_as : (name a b : List ℕ) → same_name a b ≡ true → same_name name a ≡ same_name name b
unfolding same_name
same_name_as name a b same =
    let lowered : map to_ascii_lowercase a ≡ map to_ascii_lowercase b =
    (bytes_eq-Decides (map to_ascii_lowercase a) (map to_ascii_lowercase b)).0 (sym (is_eq-slice_cmp (map to_ascii_lowercase a) (map to_ascii_lowercase b)) ∙ same) in
    ap (λ l. is_eq (slice_cmp nat_cmp (map to_ascii_lowercase name) l)) lowered

pub named_as : (tables : List Table) (a b : List ℕ) → same_name a b ≡ true → list_any (λ t. same_name t.name a) tables ≡ list_any (λ t. same_name t.name b) tables
named_as [] a b same = refl
named_as (t ∷ tables) a b same = ap₂ ◌||◌ (same_name_as t.name a b same) (named_as tables a b same)

-- a name like that of a table of either schema is one
pub either_as : (a b : List ℕ) → same_name a b ≡ true → names_either a ≡ names_either b
either_as a b same = ap₂ ◌||◌ (named_as office_schema.tables a b same) (same_name_as source_state.name a b same)

-- a reference to a table that is alone in its tree and has one of these names does nothing, if it is quiet
module _ (schema : Schema) (table : Table) (has : HasTable schema table) (named : names_either table.name ≡ true) where
  parent_named : (ref : Reference) (key : ParentKey) → parent_key schema.tables ref ≡ Some key → (key.0 == table.tree) ≡ true → names_either ref.parent ≡ true
  parent_named ref key found here =
      let p = named_parent schema.tables ref key found in
      let kept : Has (table ∷ []) p.0 =
      subst (λ ts. Has ts p.0) has.in_tree (has_kept (λ (t : Table). t.tree == table.tree) schema.tables p.0 p.1 (eq-eqb p.0.tree table.tree (p.2 ∙ eqb-true key.0 table.tree here))) in
      let is : p.0 ≡ table = elim kept [ inl same ↦ same | inr later ↦ absurd later ] in
      sym (either_as table.name ref.parent (subst (λ (t : Table). same_name t.name ref.parent ≡ true) is p.3)) ∙ named

  quiet_if : (ref : Reference) (here : Bool) → (not (names_either ref.parent) || does_nothing ref) ≡ true → (here ≡ true → names_either ref.parent ≡ true) → (not here || does_nothing ref) ≡ true
  quiet_if ref false quiet named = refl
  quiet_if ref true quiet named = rw (named refl) at quiet

  quiet_by : (ref : Reference) (key : Option ParentKey) → parent_key schema.tables ref ≡ key → (not (names_either ref.parent) || does_nothing ref) ≡ true
      → (not (unwrap_or (option_map (λ key. key.0 == table.tree) key) false) || does_nothing ref) ≡ true
  quiet_by ref None found quiet = refl
  quiet_by ref (Some key) found quiet = quiet_if ref (key.0 == table.tree) quiet (parent_named ref key found)

  -- a foreign key of a quiet schema that refers to the table does nothing
  quiet_in : are_quiet schema ≡ true → never_acts_on schema table.tree ≡ true
  quiet_in quiet =
      test_from (λ (t : Table). list_all (λ ref. not (refers_to_tree schema table.tree ref) || does_nothing ref) t.references) schema.tables (λ t there.
      test_from (λ ref. not (refers_to_tree schema table.tree ref) || does_nothing ref) t.references (λ ref among.
      quiet_by ref (parent_key schema.tables ref) refl
      (test_has (λ ref. not (names_either ref.parent) || does_nothing ref) t.references ref (test_has is_quiet schema.tables t quiet there) among)))

-- so it is with each of the office's tables that a command changes
pub office_quiet : (schema : Schema) → HasOffice schema → never_acts_on schema (tree_named schema office.name) ≡ true
unfolding same_name
office_quiet schema has = quiet_in schema (table_in schema office) has.office_is refl has.quiet

pub arch_quiet : (schema : Schema) → HasOffice schema → never_acts_on schema (tree_named schema arch.name) ≡ true
unfolding same_name
arch_quiet schema has = quiet_in schema (table_in schema arch) has.arch_is refl has.quiet

pub builder_quiet : (schema : Schema) → HasOffice schema → never_acts_on schema (tree_named schema builder.name) ≡ true
unfolding same_name
builder_quiet schema has = quiet_in schema (table_in schema builder) has.builder_is refl has.quiet

pub record_quiet : (schema : Schema) → HasOffice schema → never_acts_on schema (tree_named schema source_record.name) ≡ true
unfolding same_name
record_quiet schema has = quiet_in schema (table_in schema source_record) has.record_is refl has.quiet

pub source_quiet : (schema : Schema) → HasOffice schema → never_acts_on schema (tree_named schema scratch_source.name) ≡ true
unfolding same_name
source_quiet schema has = quiet_in schema (table_in schema scratch_source) has.source_is refl has.quiet

pub binary_quiet : (schema : Schema) → HasOffice schema → never_acts_on schema (tree_named schema scratch_binary.name) ≡ true
unfolding same_name
binary_quiet schema has = quiet_in schema (table_in schema scratch_binary) has.binary_is refl has.quiet

-- and with the table of the records of the first schema, where an office was upgraded
pub states_quiet : (schema : Schema) → HasOffice schema → HasStates schema → never_acts_on schema (tree_named schema source_state.name) ≡ true
unfolding same_name
states_quiet schema has states = quiet_in schema (table_in schema source_state) states.has refl has.quiet
