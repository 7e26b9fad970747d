-- The office's names are free in a schema that lacks the office.
use Rattle.std.proofs.Common.{◌≡◌, ℕ, ◌||◌, true, false, List, [], ◌∷◌, ◌++◌, refl, ap₂, None}
use Rattle.std.specs.List.{list_any, position_from}
use Rattle.std.proofs.lemmas.Bool.{false_from_ne_true}
use Rattle.sqlite.specs.Schema.{Schema}
use Rattle.sqlite.specs.Change.{is_used}
use Rattle.sqlite_schema.specs.declared.schema.Index.{Index}
use Rattle.sqlite_schema.specs.Names.{same_name}
use Rattle.wb_sql.specs.Tables.{office_schema, state_order}
use Rattle.wb_sql.specs.Among.{is_office_name, LacksOffice}
use Rattle.wb_sql.proofs.AppendLemmas.{all_so, none_of, each_fails}
use Rattle.wb_sql.proofs.CreatedLemmas.{free_from}
use Rattle.wb_sql.proofs.QuietLemmas.{same_name_as, either_as}

-- a name is like that of an index as each is that has the same name
index_as : (indexes : List Index) (a b : List ℕ) → same_name a b ≡ true → list_any (λ i. same_name i.name a) indexes ≡ list_any (λ i. same_name i.name b) indexes
index_as [] a b same = refl
index_as (i ∷ indexes) a b same = ap₂ ◌||◌ (same_name_as i.name a b same) (index_as indexes a b same)

-- a name that is none of the office's differs from one that is
not_office : (name other : List ℕ) → is_office_name other ≡ true → is_office_name name ≡ false → same_name name other ≡ false
not_office name other is none =
    false_from_ne_true _ (λ same.
    let like : is_office_name name ≡ is_office_name other =
    ap₂ ◌||◌ (either_as name other same) (index_as (office_schema.indexes ++ state_order ∷ []) name other same) in
    cc)

-- none of those whose names are none of the office's has a name that is
unlike_office : {X : Type 0} (f : X → List ℕ) (xs : List X) (name : List ℕ) → is_office_name name ≡ true → list_any (λ x. is_office_name (f x)) xs ≡ false
    → position_from (λ x. same_name (f x) name) 0 xs ≡ None
unlike_office f xs name is none =
    none_of (λ x. same_name (f x) name) 0 xs (all_so _ _ (λ x other. not_office (f x) name is other) xs (each_fails (λ x. is_office_name (f x)) xs none))

-- a name of the office is free in a schema that lacks the office
pub office_free : (base : Schema) → LacksOffice base → (name : List ℕ) → is_office_name name ≡ true → is_used base name ≡ false
office_free base lacks name is =
    free_from base name
    (unlike_office (λ t. t.name) base.tables name is lacks.free.tables)
    (unlike_office (λ i. i.name) base.indexes name is lacks.free.indexes)
    (unlike_office (λ v. v.name) base.views name is lacks.free.views)
