-- A schema with the tables of the first schema alone is one of a first office.
use Rattle.std.proofs.Common.{◌≡◌, false, List, [], ◌∷◌, refl, arith}
use Rattle.std.proofs.lemmas.Bool.{or_parts}
use Rattle.sqlite.specs.Schema.{Schema}
use Rattle.sqlite.specs.Table.{Table}
use Rattle.sqlite.specs.Change.{is_used}
use Rattle.sqlite_catalog.specs.Listing.{automatic}
use Rattle.sqlite_schema.specs.Names.{same_name}
use Rattle.sqlite_catalog.proofs.StepLemmas.{no_table}
use Rattle.wb_sql.specs.Among.{HasOffice, IsNumbered, LacksOffice}
use Rattle.wb_sql.specs.Tables.{office, arch, builder, source_record, source_state, state_order, scratch_source, scratch_binary, schema_of}
use Rattle.wb_sql.specs.Upgrading.{HasFirstOffice}
use Rattle.wb_sql.proofs.FreeLemmas.{office_free}

abbrev pub first_schema : Schema
first_schema =
    schema_of (office ∷ arch ∷ builder ∷ source_state ∷ scratch_source ∷ scratch_binary ∷ [])
    (automatic arch 0 (1 ∷ []) 2 ∷ automatic builder 0 (1 ∷ 2 ∷ []) 4 ∷ automatic source_state 0 (10 ∷ []) 6 ∷ automatic source_state 1 (1 ∷ 2 ∷ []) 7 ∷ state_order ∷ [])

pub first_office : HasFirstOffice first_schema
unfolding same_name
first_office = record {
  tables = record {
    office_is = record { has = record { at = 0; named = refl; listed = refl; in_tree = refl; stored = refl }; indexed = refl };
    archs_are = record { has = record { at = 1; named = refl; listed = refl; in_tree = refl; stored = refl }; indexed = refl };
    builders_are = record { has = record { at = 2; named = refl; listed = refl; in_tree = refl; stored = refl }; indexed = refl };
    states_are = record { has = record { at = 3; named = refl; listed = refl; in_tree = refl; stored = refl }; indexed = refl };
    sources_are = record { has = record { at = 4; named = refl; listed = refl; in_tree = refl; stored = refl }; indexed = refl };
    binaries_are = record { has = record { at = 5; named = refl; listed = refl; in_tree = refl; stored = refl }; indexed = refl };
  };
  free = refl;
  unreferred = refl;
  quiet = refl;
  counted = refl;
}

pub first_numbered : IsNumbered first_schema
first_numbered = record { bounded = omega arith; indexes = (omega arith, (omega arith, (omega arith, (omega arith, (omega arith, tt))))) }

-- ---- what it excludes

-- the second schema's table of records is not there
pub first_no_office : (schema : Schema) → HasFirstOffice schema → ¬ HasOffice schema
first_no_office schema first office =
    let free : is_used schema source_record.name ≡ false = (or_parts (is_used schema source_record.name) _ first.free).0 in
    let none = no_table schema source_record.name free in
    let some = office.record_is.named in
    cc

-- an office cannot be made beside it
pub first_no_lack : (schema : Schema) → HasFirstOffice schema → ¬ LacksOffice schema
unfolding same_name
first_no_lack schema first lacks =
    let none = no_table schema office.name (office_free schema lacks office.name refl) in
    let some = first.tables.office_is.has.named in
    cc
