-- The source packages of an architecture that have a record, as their query answers them.
use Rattle.std.proofs.Common.{◌≡◌, ℕ, List, [], ◌∷◌, map, filter, bytes_eq, sym, ap, ◌∙◌}
use Rattle.std.specs.Prelude.{IsUtf8}
use Rattle.std.specs.List.{AllByRecursion}
use Rattle.std.specs.FinMap as finite
use Rattle.sqlite.specs.Effect.{Database}
use Rattle.sqlite.specs.Order.{Row}
use Rattle.sqlite.specs.declared.types.Value.TheVariants.{Text}
use Rattle.sqlite_keyed.proofs.ListLemmas.{all-filter, all_map, filter-map, map-map}
use Rattle.wb_merge.specs.Merged.{recorded_names}
use Rattle.wb_sql.specs.Among.{rows_in}
use Rattle.wb_sql.specs.OfficeStatements as sql
use Rattle.wb_sql.specs.Queries.{Answers}
use Rattle.wb_sql.specs.Tables as tables
use Rattle.wb_states.specs.Lookups.{is_of, rows_of}
use Rattle.wb_states.specs.Machine.{IsConsistent, Machine}
use Rattle.wb_states.specs.Queue.{Entry}
use Rattle.wb_rows.specs.Scratch.{name_cells}
use Rattle.wb_store.specs.Merging.{Scratch}
use Rattle.wb_store.specs.ScratchLookups.{AreNames}
use Rattle.wb_store.specs.Stands.{StandsWith}
use Rattle.wb_store.proofs.FormLemmas.{kept_readable}
use Rattle.wb_store.proofs.LookupLemmas.{names_answer}
use Rattle.wb_store.proofs.OrderLemmas.{all_from_in, map_injective}

abbrev source_of : Entry → List ℕ
source_of entry = entry.0.1

-- the source packages of the records of an architecture are those that a merge asks for
recorded : (machine : Machine) (arch : List ℕ) → map source_of
    (rows_of machine arch) ≡ recorded_names machine.records arch
unfolding rows_of
recorded machine arch =
    sym (ap (map (λ key. key.1)) (filter-map (λ key. bytes_eq key.0 arch) (λ (entry : Entry). entry.0)
    (finite.entries machine.records))
    ∙ map-map (λ key. key.1) (λ (entry : Entry). entry.0) (filter (is_of arch) (finite.entries machine.records)))

module _ (machine : Machine) {scratch : Scratch} (db : Database) (stands : StandsWith machine scratch db)
    (answer : List Row) (arch : List ℕ)
    (a : Answers sql.names_of_arch (Text arch ∷ []) (rows_in db tables.source_record) answer) where
  answer_is : answer ≡ map name_cells (map source_of (rows_of machine arch))
  answer_is = names_answer machine db stands answer arch a ∙ sym (map-map name_cells source_of (rows_of machine arch))

  -- the names that are read of the answer
  pub names_found : (found : List (List ℕ)) → answer ≡ map name_cells found → found ≡ recorded_names machine.records
      arch
  names_found found is = map_injective name_cells (λ one other same. cc) found (map source_of (rows_of machine arch))
      (sym is ∙ answer_is) ∙ recorded machine arch

  -- it can be read, if the office is consistent
  pub names_readable : IsConsistent machine → AreNames answer
  unfolding rows_of
  names_readable sound = (
    map source_of (rows_of machine arch),
    all_map IsUtf8 source_of
        (rows_of machine arch) all,
    answer_is,
  )
    where
      all : AllByRecursion (λ (entry : Entry). IsUtf8 (source_of entry)) (rows_of machine arch)
      all =
          all-filter (λ (entry : Entry). IsUtf8 (source_of entry)) (is_of arch) (finite.entries machine.records)
          (all_from_in (λ (entry : Entry). IsUtf8 (source_of entry)) (finite.entries machine.records) (λ entry within.
          (kept_readable machine sound entry within).source))
