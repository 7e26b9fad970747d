-- What each query on a scratch table answers of the rows of a merge.
use Rattle.std.proofs.Common.{◌≡◌, ℕ, ◌<◌, nat_cmp, bytes_eq, Bool, true, false, List, [], ◌∷◌, Option, None, Some, map}
use Rattle.std.proofs.Common.{filter, inl, inr, Result, Ok, Err, IfOk, IfErr, Vec, refl, sym, ap, subst, ◌∙◌, arith}
use Rattle.std.proofs.Common.{Less, IsPermutation}
use Rattle.std.specs.List.{list_all}
use Rattle.std.proofs.lemmas.List.Sorted.{IsPermutation-refl}
use Rattle.sqlite_trees.specs.declared.store.Store.{Ghosts}
use Rattle.sqlite.specs.Effect.{Database}
use Rattle.sqlite.specs.Held.{Held, state}
use Rattle.sqlite.specs.Order.{Row, column}
use Rattle.sqlite.specs.Query.{Output, output, output_cmp}
use Rattle.sqlite.specs.Term.{holds}
use Rattle.sqlite.specs.declared.types.Value.TheVariants.{Text}
use Rattle.sqlite_trees.specs.Tree.{IsAscending}
use Rattle.sqlite_value.specs.Order.{value_cmp}
use Rattle.sqlite_keyed.proofs.ListLemmas.{all-filter, ascending-filter, ascending-map, ascending_weaker, filter-map, filter_same, map-map}
use Rattle.wb_sql.specs.Among.{rows_in}
use Rattle.wb_sql.specs.OfficeStatements.{no_limit, none_skipped}
use Rattle.wb_sql.specs.Queries.{TableQuery, query_of, outputs, Answers}
use Rattle.wb_sql.specs.ScratchStatements as sql
use Rattle.wb_sql.specs.Tables as tables
use Rattle.wb_sql.proofs.AnswerLemmas.{rising_order, whole_answer}
use Rattle.wb_states.specs.declared.scratch.BinaryRow.{BinaryRow}
use Rattle.wb_states.specs.declared.scratch.SourceRow.{SourceRow}
use Rattle.wb_states.specs.declared.store_fault.StoreFault.{StoreFault}
use Rattle.wb_states.specs.Machine.{Machine}
use Rattle.wb_rows.specs.Cells.{flag, number}
use Rattle.wb_rows.specs.Scratch.{IsReadableBinary, IsReadableSource, binary_cells, own_number, source_cells}
use Rattle.wb_rows.specs.Scratch.{version_or_empty}
use Rattle.wb_rows.proofs.CellsLemmas.{number-same, text-same}
use Rattle.wb_store.specs.Faults.{IsUnfit}
use Rattle.wb_store.specs.Lookups.{ReadsTable}
use Rattle.wb_store.specs.Merging.{Scratch, binaries_named, binaries_of, sources_named, stored_binary, stored_source}
use Rattle.wb_store.specs.Queries.{AnswersTo, OfficeQuery, table_asked}
use Rattle.wb_store.specs.ScratchLookups.{AreBinaries, AreReadable, AreSources, LooksUpScratch}
use Rattle.wb_store.specs.Stands.{StandsWith}
use Rattle.wb_store.proofs.EqualLemmas.{and_true, are_equal, equal-Text, order-number, then_none}
use Rattle.wb_store.proofs.OrderLemmas.{map_injective}
use Rattle.wb_store.proofs.PlaceLemmas.{less_of}
use Rattle.wb_store.proofs.ReadLemmas.{AsksOf, answered, crash_over, fails_to_read, plain_over}

-- ---- a table in the order of the places, asked in that order

module _ {X : Type 0} (seq : X → ℕ) (stored columns : X → Row) (q : TableQuery) (params : Row) (test : X → Bool)
    (tests : (x : X) → list_all (holds (params ∷ stored x ∷ [])) q.filter ≡ test x)
    (shown : (x : X) → (output (query_of q) (params ∷ stored x ∷ [])).1 ≡ columns x)
    (order : (x y : X) → output_cmp (query_of q) (output (query_of q) (params ∷ stored x ∷ [])) (output (query_of q) (params ∷ stored y ∷ [])) ≡ nat_cmp (seq x) (seq y))
    (from_start : q.offset ≡ none_skipped) (unlimited : q.limit ≡ no_limit) (xs : List X) (up : IsAscending (λ a b. seq a < seq b) xs) where
  abbrev out : X → Output
  out x = output (query_of q) (params ∷ stored x ∷ [])

  chosen_is : outputs q params (map stored xs) ≡ map out (filter test xs)
  chosen_is =
      ap (map (λ row. output (query_of q) (params ∷ row ∷ []))) (filter-map (λ row. list_all (holds (params ∷ row ∷ [])) q.filter) stored xs)
      ∙ map-map (λ row. output (query_of q) (params ∷ row ∷ [])) stored (filter (λ x. list_all (holds (params ∷ stored x ∷ [])) q.filter) xs)
      ∙ ap (map out) (filter_same (λ x. list_all (holds (params ∷ stored x ∷ [])) q.filter) test tests xs)

  rises : IsAscending (λ x y. output_cmp (query_of q) x y ≡ Less) (map out (filter test xs))
  rises =
      ascending-map (λ x y. output_cmp (query_of q) x y ≡ Less) out (filter test xs)
      (ascending_weaker (λ a b. seq a < seq b) (λ a b. output_cmp (query_of q) (out a) (out b) ≡ Less) (λ a b less. order a b ∙ less_of (seq a) (seq b) less) (filter test xs)
      (ascending-filter (λ a b. seq a < seq b) test xs up))

  -- the answer has those that pass the test, in that order
  pub in_order : (rows answer : List Row) → rows ≡ map stored xs → Answers q params rows answer → answer ≡ map columns (filter test xs)
  in_order rows answer are a =
      let same : outputs q params rows ≡ map out (filter test xs) = ap (outputs q params) are ∙ chosen_is in
      let ordered : a.ordered ≡ map out (filter test xs) =
      rising_order q params rows answer a from_start (map out (filter test xs)) rises (subst (IsPermutation (map out (filter test xs))) (sym same) (IsPermutation-refl (map out (filter test xs)))) in
      whole_answer q params rows answer a from_start unlimited ∙ ap (map (λ (o : Output). o.1)) ordered ∙ map-map (λ (o : Output). o.1) out (filter test xs) ∙ (λ i. map (λ x. shown x i) (filter test xs))

-- ---- the cells of a row tell which package it is

flag-same : (a b : Bool) → flag a ≡ flag b → a ≡ b
flag-same true true e = refl
flag-same true false e = let same = number-same 1 0 e in absurd (omega arith)
flag-same false true e = let same = number-same 0 1 e in absurd (omega arith)
flag-same false false e = refl

pub source_cells-same : (a b : SourceRow) → source_cells a ≡ source_cells b → a ≡ b
source_cells-same a b e =
    λ i. record {
      seq = number-same a.seq b.seq (ap (λ row. column row 0) e) i;
      name = text-same a.name b.name (ap (λ row. column row 1) e) i;
      version = text-same a.version b.version (ap (λ row. column row 2) e) i;
      architecture = text-same a.architecture b.architecture (ap (λ row. column row 3) e) i;
      extra = flag-same a.extra b.extra (ap (λ row. column row 4) e) i;
      priority = text-same a.priority b.priority (ap (λ row. column row 5) e) i;
      section = text-same a.section b.section (ap (λ row. column row 6) e) i;
      depends = text-same a.depends b.depends (ap (λ row. column row 7) e) i;
      depends_arch = text-same a.depends_arch b.depends_arch (ap (λ row. column row 8) e) i;
    }

-- the text of a version and the number for it tell both the version, if there is one, and the flag
offer-same : (one other : Option (List ℕ)) (own same : Bool) → version_or_empty one ≡ version_or_empty other
    → own_number own one ≡ own_number same other
    → (one ≡ other) × (own ≡ same)
offer-same None None true true text number = (refl, refl)
offer-same None None true false text number = absurd (omega (arith, number))
offer-same None None false true text number = absurd (omega (arith, number))
offer-same None None false false text number = (refl, refl)
offer-same None (Some version) true true text number = absurd (omega (arith, number))
offer-same None (Some version) true false text number = absurd (omega (arith, number))
offer-same None (Some version) false true text number = absurd (omega (arith, number))
offer-same None (Some version) false false text number = absurd (omega (arith, number))
offer-same (Some version) None true true text number = absurd (omega (arith, number))
offer-same (Some version) None true false text number = absurd (omega (arith, number))
offer-same (Some version) None false true text number = absurd (omega (arith, number))
offer-same (Some version) None false false text number = absurd (omega (arith, number))
offer-same (Some version) (Some other) true true text number = (ap (λ (v : List ℕ). Some v) text, refl)
offer-same (Some version) (Some other) true false text number = absurd (omega (arith, number))
offer-same (Some version) (Some other) false true text number = absurd (omega (arith, number))
offer-same (Some version) (Some other) false false text number = (ap (λ (v : List ℕ). Some v) text, refl)

pub binary_cells-same : (a b : BinaryRow) → binary_cells a ≡ binary_cells b → a ≡ b
binary_cells-same a b e =
    let both = offer-same a.version b.version a.own b.own
    (text-same (version_or_empty a.version) (version_or_empty b.version) (ap (λ row. column row 2) e))
    (number-same (own_number a.own a.version) (own_number b.own b.version) (ap (λ row. column row 6) e)) in
    λ i. record {
      seq = number-same a.seq b.seq (ap (λ row. column row 0) e) i;
      name = text-same a.name b.name (ap (λ row. column row 1) e) i;
      version = both.0 i;
      source = text-same a.source b.source (ap (λ row. column row 3) e) i;
      source_version = text-same a.source_version b.source_version (ap (λ row. column row 4) e) i;
      number = number-same a.number b.number (ap (λ row. column row 5) e) i;
      own = both.1 i;
    }

-- ---- each query

module _ {machine : Machine} {scratch : Scratch} (db : Database) (stands : StandsWith machine scratch db) (answer : List Row) where
  sources_answer : (name : List ℕ) → Answers sql.sources_named (Text name ∷ []) (rows_in db tables.scratch_source) answer → answer ≡ map source_cells (sources_named name scratch)
  sources_answer name =
      in_order (λ (row : SourceRow). row.seq) stored_source source_cells sql.sources_named (Text name ∷ []) (λ row. bytes_eq row.name name)
      (λ row. and_true (are_equal (Text row.name) (Text name)) ∙ equal-Text row.name name) (λ row. refl)
      (λ a b. then_none (value_cmp (number a.seq) (number b.seq)) ∙ order-number a.seq b.seq) refl refl scratch.sources stands.order.sources (rows_in db tables.scratch_source) answer stands.sources

  built_answer : (source : List ℕ) → Answers sql.binaries_of_source (Text source ∷ []) (rows_in db tables.scratch_binary) answer → answer ≡ map binary_cells (binaries_of source scratch)
  built_answer source =
      in_order (λ (row : BinaryRow). row.seq) stored_binary binary_cells sql.binaries_of_source (Text source ∷ []) (λ row. bytes_eq row.source source)
      (λ row. and_true (are_equal (Text row.source) (Text source)) ∙ equal-Text row.source source) (λ row. refl)
      (λ a b. then_none (value_cmp (number a.seq) (number b.seq)) ∙ order-number a.seq b.seq) refl refl scratch.binaries stands.order.binaries (rows_in db tables.scratch_binary) answer stands.binaries

  named_answer : (name : List ℕ) → Answers sql.binaries_named (Text name ∷ []) (rows_in db tables.scratch_binary) answer → answer ≡ map binary_cells (binaries_named name scratch)
  named_answer name =
      in_order (λ (row : BinaryRow). row.seq) stored_binary binary_cells sql.binaries_named (Text name ∷ []) (λ row. bytes_eq row.name name)
      (λ row. and_true (are_equal (Text row.name) (Text name)) ∙ equal-Text row.name name) (λ row. refl)
      (λ a b. then_none (value_cmp (number a.seq) (number b.seq)) ∙ order-number a.seq b.seq) refl refl scratch.binaries stands.order.binaries (rows_in db tables.scratch_binary) answer stands.binaries

  -- what is read of an answer is what is asked
  pub sources_found : (name : List ℕ) (made : List SourceRow) → Answers sql.sources_named (Text name ∷ []) (rows_in db tables.scratch_source) answer → answer ≡ map source_cells made → made ≡ sources_named name scratch
  sources_found name made a is = map_injective source_cells source_cells-same made _ (sym is ∙ sources_answer name a)

  pub built_found : (source : List ℕ) (made : List BinaryRow) → Answers sql.binaries_of_source (Text source ∷ []) (rows_in db tables.scratch_binary) answer → answer ≡ map binary_cells made → made ≡ binaries_of source scratch
  built_found source made a is = map_injective binary_cells binary_cells-same made _ (sym is ∙ built_answer source a)

  pub named_found : (name : List ℕ) (made : List BinaryRow) → Answers sql.binaries_named (Text name ∷ []) (rows_in db tables.scratch_binary) answer → answer ≡ map binary_cells made → made ≡ binaries_named name scratch
  named_found name made a is = map_injective binary_cells binary_cells-same made _ (sym is ∙ named_answer name a)

  -- and it can be read, if the rows of the merge can
  module _ (readable : AreReadable scratch) where
    pub sources_readable : (name : List ℕ) → Answers sql.sources_named (Text name ∷ []) (rows_in db tables.scratch_source) answer → AreSources answer
    sources_readable name a = (sources_named name scratch, all-filter IsReadableSource (λ row. bytes_eq row.name name) scratch.sources readable.sources, sources_answer name a)

    pub built_readable : (source : List ℕ) → Answers sql.binaries_of_source (Text source ∷ []) (rows_in db tables.scratch_binary) answer → AreBinaries answer
    built_readable source a = (binaries_of source scratch, all-filter IsReadableBinary (λ row. bytes_eq row.source source) scratch.binaries readable.binaries, built_answer source a)

    pub named_readable : (name : List ℕ) → Answers sql.binaries_named (Text name ∷ []) (rows_in db tables.scratch_binary) answer → AreBinaries answer
    named_readable name a = (binaries_named name scratch, all-filter IsReadableBinary (λ row. bytes_eq row.name name) scratch.binaries readable.binaries, named_answer name a)

-- ---- a look-up

module _ {S : Type 0} {g : Ghosts S} {sql : List ℕ} {params : Row} {old new : Held S} {query : OfficeQuery} (asks : AsksOf sql params query) where
  -- a look-up whose query succeeded, and whose rows are read
  pub looks_up_rows : {A X : Type 0} {rows : Vec Row X} {Answer : Scratch → A → Type 0} (Fits : Type 0) (r : Result A StoreFault) → ReadsTable g (table_asked query) sql params old new (Ok rows)
      → ((machine : Machine) (scratch : Scratch) → StandsWith machine scratch (state g old).now → AnswersTo query (state g old).now rows.items → IfOk r (Answer scratch)) → IfErr r (IsUnfit (table_asked query) Fits)
      → ((machine : Machine) (scratch : Scratch) → AreReadable scratch → StandsWith machine scratch (state g old).now → AnswersTo query (state g old).now rows.items → Fits)
      → LooksUpScratch g query Answer old new r
  looks_up_rows Fits (Ok x) read finds fault fits = record {
    value = λ clean machine scratch stands. finds machine scratch stands (answered asks (state g old) stands.has (read.value clean));
    same = λ clean office. read.same clean (plain_over asks office);
    err = λ clean office. tt;
    survives = crash_over asks g old new read.survives;
  }
  looks_up_rows Fits (Err e) read finds fault fits = record {
    value = λ clean. tt;
    same = λ clean office. tt;
    err = λ clean office. elim fault [
      | inl memory ↦ inr (inl (memory, read.same clean (plain_over asks office)))
      | inr unfit ↦
          inr (inr (unfit.0, read.same clean (plain_over asks office), λ machine scratch readable stands. unfit.1 (fits machine scratch readable stands (answered asks (state g old) stands.has (read.value clean)))))
    ];
    survives = crash_over asks g old new read.survives;
  }

  -- a look-up whose query failed
  pub looks_up_nothing : {A X : Type 0} {fault : StoreFault} {Answer : Scratch → A → Type 0} {r : Result A StoreFault} → ReadsTable {X = X} g (table_asked query) sql params old new (Err fault) → r ≡ Err fault
      → LooksUpScratch g query Answer old new r
  looks_up_nothing {A} {Answer = Answer} read is = subst (λ (r : Result A StoreFault). LooksUpScratch g query Answer old new r) (sym is) (record {
    value = λ clean. tt;
    same = λ clean office. tt;
    err = λ clean office. inl (fails_to_read asks (read.err clean));
    survives = crash_over asks g old new read.survives;
  })
