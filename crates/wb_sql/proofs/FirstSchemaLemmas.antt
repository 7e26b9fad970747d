-- The columns of the records of the first schema, at their places, as the queries show them.
use Rattle.std.proofs.Common.{refl, ℕ, List, [], ◌∷◌, codes, false}
use Rattle.sqlite_schema.specs.Names.{same_name}
use Rattle.sqlite_schema.specs.declared.schema.Column.{Column}
use Rattle.sqlite.specs.Kind.TheVariants.{Integer, Text}
use Rattle.wb_sql.specs.Tables.{text, number, typed, source_state}
use Rattle.wb_sql.specs.Among.{table_at}
use Rattle.wb_sql.proofs.ShownLemmas.{AreColumns}

-- the columns of a record of the first schema
abbrev pub state_columns : List (ℕ × Column)
state_columns =
    (0, text (codes "arch")) ∷ (1, text (codes "source")) ∷ (2, number (codes "state")) ∷ (3, text (codes "version")) ∷ (4, text (codes "priority"))
    ∷ (5, text (codes "section")) ∷ (6, number (codes "earlier")) ∷ (7, number (codes "number")) ∷ (8, typed Text false (codes "holder"))
    ∷ (9, typed Integer false (codes "take")) ∷ (10, text (codes "waits")) ∷ (11, typed Text false (codes "depends")) ∷ (12, text (codes "note"))
    ∷ (13, text (codes "message")) ∷ (14, number (codes "rank")) ∷ []

-- the column of its architecture
abbrev pub arch_columns : List (ℕ × Column)
arch_columns = (0, text (codes "arch")) ∷ []

pub state_columns_are : (tree : ℕ) → AreColumns (table_at tree source_state) state_columns
unfolding same_name
state_columns_are tree = (record { named = refl; is = refl }, (record { named = refl; is = refl }, (record { named = refl; is = refl }, (record { named = refl; is = refl }, (record { named = refl; is = refl }, (record { named = refl; is = refl }, (record { named = refl; is = refl }, (record { named = refl; is = refl }, (record { named = refl; is = refl }, (record { named = refl; is = refl }, (record { named = refl; is = refl }, (record { named = refl; is = refl }, (record { named = refl; is = refl }, (record { named = refl; is = refl }, (record { named = refl; is = refl }, tt)))))))))))))))

pub arch_columns_are : (tree : ℕ) → AreColumns (table_at tree source_state) arch_columns
unfolding same_name
arch_columns_are tree = (record { named = refl; is = refl }, tt)
