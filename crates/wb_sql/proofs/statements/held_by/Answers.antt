use Rattle.std.proofs.Common.{refl, None, ℕ, List, [], codes, false, map, ◌∷◌}
use Rattle.sqlite_tied.specs.Compute.{everything}
use Rattle.sqlite_schema.specs.declared.schema.Column.{Column}
use Rattle.sqlite_ast.specs.declared.Select.{Select}
use Rattle.wb_sql.specs.Among.{table_at}
use Rattle.wb_sql.specs.Tables.{source_record, text, typed}
use Rattle.wb_sql.specs.OfficeStatements.{held_by, no_limit}
use Rattle.wb_sql.proofs.SelectForm.{select_by}
use Rattle.wb_sql.proofs.SelectLemmas.{Test, asked_by_is, terms_from_zero, typed_from_zero, where_from_zero}
use Rattle.wb_sql.proofs.ShownLemmas.{name_of, outputs_after}
use Rattle.wb_sql.proofs.OfficeLemmas.{record_columns, record_columns_are}
use Rattle.wb_sql.proofs.AmongLemmas.{asks_by}
use Rattle.sqlite.specs.Kind.TheVariants.{Integer, Text}
use Rattle.sqlite_resolve.specs.Compile.{first}
use Rattle.wb_sql.proofs.statements.held_by.Goals as goal

-- the holder is the parameter
abbrev is_holder : Test
is_holder = (8, typed Text false (codes "holder"), 1)

-- there is a take number
abbrev has_take : ℕ × Column
has_take = (9, typed Integer false (codes "take"))

-- by architecture and source
abbrev by_key : List (ℕ × Column)
by_key = (0, text (codes "arch")) ∷ (1, text (codes "source")) ∷ []

abbrev select_held : Select
select_held =
    select_by (codes "source_record") (map name_of record_columns) (where_from_zero is_holder has_take)
    (codes "arch" ∷ codes "source" ∷ []) None

pub returns : goal.returns
unfolding first everything
returns c = asks_by source_record _ held_by (record {
  shown = λ tree. map (λ o. o.name) (outputs_after (table_at tree source_record) [] record_columns);
  statement = select_held;
  names = codes "?1" ∷ [];
  start = 0;
  stop = 211;
  tail = 211;
  ends = refl;
  counted = refl;
  first_is = refl;
  reads = λ schema tree has.
      asked_by_is schema (table_at tree source_record) select_held record_columns (where_from_zero is_holder has_take)
      (terms_from_zero (table_at tree source_record) is_holder has_take) by_key no_limit has
      (record {
        none = refl;
        others = refl;
        distinct = refl;
        shown = refl;
        from = refl;
        filter = refl;
        group = refl;
        having = refl;
        sorted = refl;
        paged = λ schema. refl;
      })
      (typed_from_zero (record {
        columns_are = record_columns_are tree;
        equal_is = record { column = record { named = refl; is = refl }; place = refl; plain = refl };
        from_zero_is = record { column = record { named = refl; is = refl }; place = refl; numeric = refl };
        order_is = (record { named = refl; is = refl }, (record { named = refl; is = refl }, tt));
        free = (refl, (refl, tt));
        enough = refl;
        small = refl;
        typed = refl;
      }));
})
