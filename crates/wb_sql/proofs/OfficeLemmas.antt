-- The columns of the office's tables, at their places, as the queries show them.
use Rattle.std.proofs.Common.{refl, ℕ, List, [], ◌∷◌, codes, false}
use Rattle.sqlite_schema.specs.Names.{same_name}
use Rattle.sqlite_schema.specs.declared.schema.Column.{Column}
use Rattle.sqlite.specs.Kind.TheVariants.{Integer, Text}
use Rattle.wb_sql.specs.Tables.{text, number, typed, office, arch, builder, source_record, scratch_source, scratch_binary}
use Rattle.wb_sql.specs.Among.{table_at}
use Rattle.wb_sql.proofs.ShownLemmas.{AreColumns}

-- the columns of a record
abbrev pub record_columns : List (ℕ × Column)
record_columns =
    (0, text (codes "arch")) ∷ (1, text (codes "source")) ∷ (2, number (codes "state")) ∷ (3, text (codes "version")) ∷ (4, text (codes "priority"))
    ∷ (5, text (codes "section")) ∷ (6, number (codes "earlier")) ∷ (7, number (codes "number")) ∷ (8, typed Text false (codes "holder"))
    ∷ (9, typed Integer false (codes "take")) ∷ (10, text (codes "waits")) ∷ (11, typed Text false (codes "depends")) ∷ (12, text (codes "note"))
    ∷ (13, text (codes "message")) ∷ (14, number (codes "build_priority")) ∷ (15, number (codes "rank")) ∷ []

-- the column of a record's state
abbrev pub state_columns : List (ℕ × Column)
state_columns = (2, number (codes "state")) ∷ []

-- the column of a record's source package
abbrev pub source_columns : List (ℕ × Column)
source_columns = (1, text (codes "source")) ∷ []

-- the columns of an architecture
abbrev pub arch_columns : List (ℕ × Column)
arch_columns = (0, text (codes "name")) ∷ (1, text (codes "os")) ∷ (2, text (codes "cpu")) ∷ []

-- the columns of a pair of a builder and an architecture
abbrev pub builder_columns : List (ℕ × Column)
builder_columns = (0, text (codes "name")) ∷ (1, text (codes "arch")) ∷ []

-- the columns of the format and the two counts of the office
abbrev pub office_columns : List (ℕ × Column)
office_columns = (1, number (codes "format")) ∷ (2, number (codes "handed")) ∷ (3, number (codes "accepted")) ∷ []

-- the columns of the whole row of the office
abbrev pub whole_office_columns : List (ℕ × Column)
whole_office_columns = (0, typed Integer false (codes "id")) ∷ (1, number (codes "format")) ∷ (2, number (codes "handed")) ∷ (3, number (codes "accepted")) ∷ []

-- the columns of the place of a source or binary package of a merge
abbrev pub scratch_columns : List (ℕ × Column)
scratch_columns = (0, typed Integer false (codes "seq")) ∷ []

pub record_columns_are : (tree : ℕ) → AreColumns (table_at tree source_record) record_columns
unfolding same_name
record_columns_are tree = (
  record { named = refl; is = refl },
  (
    record { named = refl; is = refl },
    (
      record { named = refl; is = refl },
      (
        record { named = refl; is = refl },
        (
          record { named = refl; is = refl },
          (
            record { named = refl; is = refl },
            (
              record { named = refl; is = refl },
              (
                record { named = refl; is = refl },
                (
                  record { named = refl; is = refl },
                  (
                    record { named = refl; is = refl },
                    (
                      record { named = refl; is = refl },
                      (
                        record { named = refl; is = refl },
                        (record { named = refl; is = refl }, (record { named = refl; is = refl }, (record { named = refl; is = refl }, (record { named = refl; is = refl }, tt)))),
                      ),
                    ),
                  ),
                ),
              ),
            ),
          ),
        ),
      ),
    ),
  ),
)

pub state_columns_are : (tree : ℕ) → AreColumns (table_at tree source_record) state_columns
unfolding same_name
state_columns_are tree = (record { named = refl; is = refl }, tt)

pub source_columns_are : (tree : ℕ) → AreColumns (table_at tree source_record) source_columns
unfolding same_name
source_columns_are tree = (record { named = refl; is = refl }, tt)

pub arch_columns_are : (tree : ℕ) → AreColumns (table_at tree arch) arch_columns
unfolding same_name
arch_columns_are tree = (record { named = refl; is = refl }, (record { named = refl; is = refl }, (record { named = refl; is = refl }, tt)))

pub builder_columns_are : (tree : ℕ) → AreColumns (table_at tree builder) builder_columns
unfolding same_name
builder_columns_are tree = (record { named = refl; is = refl }, (record { named = refl; is = refl }, tt))

pub office_columns_are : (tree : ℕ) → AreColumns (table_at tree office) office_columns
unfolding same_name
office_columns_are tree = (record { named = refl; is = refl }, (record { named = refl; is = refl }, (record { named = refl; is = refl }, tt)))

pub whole_office_columns_are : (tree : ℕ) → AreColumns (table_at tree office) whole_office_columns
unfolding same_name
whole_office_columns_are tree = (
  record { named = refl; is = refl },
  (record { named = refl; is = refl }, (record { named = refl; is = refl }, (record { named = refl; is = refl }, tt))),
)

pub scratch_source_columns_are : (tree : ℕ) → AreColumns (table_at tree scratch_source) scratch_columns
unfolding same_name
scratch_source_columns_are tree = (record { named = refl; is = refl }, tt)

pub scratch_binary_columns_are : (tree : ℕ) → AreColumns (table_at tree scratch_binary) scratch_columns
unfolding same_name
scratch_binary_columns_are tree = (record { named = refl; is = refl }, tt)
