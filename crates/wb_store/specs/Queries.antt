-- The queries on the office's tables: what each asks of which table, with which parameters.
use Rattle.std.specs.Prelude.{◌≡◌, ◌⊎◌, ⊤, ℕ, ◌^◌, ◌-◌, min, List, [], ◌∷◌, length}
use Rattle.sqlite.specs.Effect.{Database}
use Rattle.sqlite.specs.Order.{Row}
use Rattle.sqlite.specs.Schema.{Schema}
use Rattle.sqlite.specs.Table as stored
use Rattle.sqlite.specs.declared.types.Value.TheVariants.{Text}
use Rattle.wb_sql.specs.Queries.{TableQuery, Answers}
use Rattle.wb_sql.specs.Among.{AsksAmong, HasTable, rows_in, table_in}
use Rattle.wb_sql.specs.OfficeStatements as sql
use Rattle.wb_sql.specs.ScratchStatements as merge
use Rattle.wb_sql.specs.FirstSchema as first
use Rattle.wb_sql.specs.Tables as tables
use Rattle.wb_states.specs.declared.store_fault.Table.{Table}
use Rattle.wb_states.specs.declared.store_fault.Table.TheVariants as on
use Rattle.wb_states.specs.declared.state.State.{State}
use Rattle.wb_states.specs.Machine.{Key}
use Rattle.wb_states.specs.State.{code_of}
use Rattle.wb_rows.specs.Cells.{number}

-- the table as the database has it
abbrev pub table_of : Table → stored.Table
table_of on.Office = tables.office
table_of on.Arch = tables.arch
table_of on.Builder = tables.builder
table_of on.SourceRecord = tables.source_record
table_of on.ScratchSource = tables.scratch_source
table_of on.ScratchBinary = tables.scratch_binary
table_of on.SourceState = tables.source_state

-- it is a table of the second schema, which each office has
abbrev pub IsCurrent : Table → Type 0
IsCurrent on.SourceState = ⊥
IsCurrent _ = ⊤

-- a query on one of the office's tables
pub data OfficeQuery : Type 0 where
  -- the counts of the office, and its whole row
  Office : OfficeQuery
  OfficeRow : OfficeQuery
  -- all architectures, and that of a name
  Archs : OfficeQuery
  ArchNamed : List ℕ → OfficeQuery
  -- all pairs of a builder and an architecture, those of a builder, and one pair
  Builders : OfficeQuery
  PairsOf : List ℕ → OfficeQuery
  Pair : Key → OfficeQuery
  -- all records, those of an architecture, the states and the source packages of these, those of it in a state, its queue and the head of that
  Records : OfficeQuery
  RecordsOf : List ℕ → OfficeQuery
  StatesOf : List ℕ → OfficeQuery
  NamesOf : List ℕ → OfficeQuery
  InState : List ℕ → State → OfficeQuery
  QueueOf : List ℕ → OfficeQuery
  HeadOf : List ℕ → OfficeQuery
  -- the record at a key, that with a take number, and those that a builder holds
  RecordAt : Key → OfficeQuery
  TakenAs : ℕ → OfficeQuery
  HeldBy : List ℕ → OfficeQuery
  -- all source packages, and all binary packages, of a merge
  Sources : OfficeQuery
  Binaries : OfficeQuery
  -- one source package, and one binary package, of a merge
  OneSource : OfficeQuery
  OneBinary : OfficeQuery
  -- the names of the source packages of a merge, and those that have a name; its binary packages of a source package, and those that have a name
  SourceNames : OfficeQuery
  SourcesNamed : List ℕ → OfficeQuery
  BinariesOf : List ℕ → OfficeQuery
  BinariesNamed : List ℕ → OfficeQuery
  -- all records of the first schema, and one of them
  States : OfficeQuery
  OneState : OfficeQuery

-- the table that it is on
abbrev pub table_asked : OfficeQuery → Table
table_asked Office = on.Office
table_asked OfficeRow = on.Office
table_asked Archs = on.Arch
table_asked (ArchNamed name) = on.Arch
table_asked Builders = on.Builder
table_asked (PairsOf builder) = on.Builder
table_asked (Pair pair) = on.Builder
table_asked Records = on.SourceRecord
table_asked (RecordsOf arch) = on.SourceRecord
table_asked (StatesOf arch) = on.SourceRecord
table_asked (NamesOf arch) = on.SourceRecord
table_asked (InState arch state) = on.SourceRecord
table_asked (QueueOf arch) = on.SourceRecord
table_asked (HeadOf arch) = on.SourceRecord
table_asked (RecordAt key) = on.SourceRecord
table_asked (TakenAs take_number) = on.SourceRecord
table_asked (HeldBy builder) = on.SourceRecord
table_asked Sources = on.ScratchSource
table_asked Binaries = on.ScratchBinary
table_asked OneSource = on.ScratchSource
table_asked OneBinary = on.ScratchBinary
table_asked SourceNames = on.ScratchSource
table_asked (SourcesNamed name) = on.ScratchSource
table_asked (BinariesOf source) = on.ScratchBinary
table_asked (BinariesNamed name) = on.ScratchBinary
table_asked States = on.SourceState
table_asked OneState = on.SourceState

-- what it asks
abbrev pub query_asked : OfficeQuery → TableQuery
query_asked Office = sql.office_counts
query_asked OfficeRow = sql.office_row
query_asked Archs = sql.all_archs
query_asked (ArchNamed name) = sql.arch_of_name
query_asked Builders = sql.all_builders
query_asked (PairsOf builder) = sql.pairs_of_builder
query_asked (Pair pair) = sql.pair_of_builder
query_asked Records = sql.all_records
query_asked (RecordsOf arch) = sql.records_of_arch
query_asked (StatesOf arch) = sql.states_of_arch
query_asked (NamesOf arch) = sql.names_of_arch
query_asked (InState arch state) = sql.records_in_state
query_asked (QueueOf arch) = sql.queue_of
query_asked (HeadOf arch) = sql.head_of
query_asked (RecordAt key) = sql.record_of_key
query_asked (TakenAs take_number) = sql.record_of_take
query_asked (HeldBy builder) = sql.held_by
query_asked Sources = merge.all_sources
query_asked Binaries = merge.all_binaries
query_asked OneSource = sql.first_source
query_asked OneBinary = sql.first_binary
query_asked SourceNames = merge.source_names
query_asked (SourcesNamed name) = merge.sources_named
query_asked (BinariesOf source) = merge.binaries_of_source
query_asked (BinariesNamed name) = merge.binaries_named
query_asked States = first.all_states
query_asked OneState = first.first_state

-- its parameters: the queue has the records of the state of code 0, which wait for a builder, and a take number that is too great for SQL is
-- asked as the greatest number, 2^63 - 1, which no record has
abbrev pub given_to : OfficeQuery → Row
given_to Office = []
given_to OfficeRow = []
given_to Archs = []
given_to (ArchNamed name) = Text name ∷ []
given_to Builders = []
given_to (PairsOf builder) = Text builder ∷ []
given_to (Pair pair) = Text pair.0 ∷ Text pair.1 ∷ []
given_to Records = []
given_to (RecordsOf arch) = Text arch ∷ []
given_to (StatesOf arch) = Text arch ∷ []
given_to (NamesOf arch) = Text arch ∷ []
given_to (InState arch state) = Text arch ∷ number (code_of state) ∷ []
given_to (QueueOf arch) = Text arch ∷ number 0 ∷ []
given_to (HeadOf arch) = Text arch ∷ number 0 ∷ []
given_to (RecordAt key) = Text key.0 ∷ Text key.1 ∷ []
given_to (TakenAs take_number) = number (min take_number (2 ^ 63 - 1)) ∷ []
given_to (HeldBy builder) = Text builder ∷ []
given_to Sources = []
given_to Binaries = []
given_to OneSource = []
given_to OneBinary = []
given_to SourceNames = []
given_to (SourcesNamed name) = Text name ∷ []
given_to (BinariesOf source) = Text source ∷ []
given_to (BinariesNamed name) = Text name ∷ []
given_to States = []
given_to OneState = []

-- it is for one row of a table that has none in an office at rest: of a scratch table, or of the records of the first schema
abbrev pub IsForOne : OfficeQuery → Type 0
IsForOne query = (query ≡ OneSource) ⊎ ((query ≡ OneBinary) ⊎ (query ≡ OneState))

-- A look-up names its query, with the parameters, and a write the write (`IsTextOfWrite`): where one fails, the text
-- that failed is this one statement, with as many parameters as are given. Which queries a command runs is not named:
-- every look-up and loop would carry the list, and it would refuse no body but one that asks more than it needs. The
-- states between have the limit of steps that the connection has, so no query is said to be interrupted where there is
-- no limit; and a connection that was opened over files has none (`AreRefusedOver`).

-- over each schema that has the table, the text asks this, and has as many parameters as are given
abbrev pub IsTextOfQuery : OfficeQuery → List ℕ → Type 0
IsTextOfQuery query sql = AsksAmong (table_of (table_asked query)) sql (query_asked query) (length (given_to query))

-- the schema has the table that the query is on
abbrev pub HasAsked : OfficeQuery → Schema → Type 0
HasAsked query schema = HasTable schema (table_in schema (table_of (table_asked query)))

-- these rows are what a database answers to the query
abbrev pub AnswersTo : OfficeQuery → Database → List Row → Type 0
AnswersTo query db rows = Answers (query_asked query) (given_to query) (rows_in db (table_of (table_asked query))) rows
