-- What an opening tests of the office's tables, row by row.
use Rattle.std.specs.Prelude.{◌≡◌, ◌≢◌, ◌⊎◌, ◌++◌, ℕ, suc, ◌<◌, ◌≤◌, ⊤, Bool, false, ◌&&◌, ◌||◌, nat_eq, bytes_eq, IsTrue, List, [], ◌∷◌, length, map, find, Option, IfSome, Result, IfOk, IfErr, OnOk}
use Rattle.std.specs.Option.{option_map, IsSomeAnd}
use Rattle.std.specs.List.{AllByRecursion, list_any}
use Rattle.std.specs.FinMap as finite
use Rattle.sqlite_trees.specs.declared.store.Store.{Ghosts}
use Rattle.sqlite.specs.declared.types.Value.{Value}
use Rattle.sqlite.specs.Effect.{Database}
use Rattle.sqlite.specs.Held.{Held, state}
use Rattle.sqlite.specs.Order.{Row}
use Rattle.sqlite.specs.State.{State, HasCleanDisk, IsUnchanged, Survives}
use Rattle.wb_states.specs.declared.arch.OsCpu.{OsCpu}
use Rattle.wb_states.specs.declared.counts.Counts.{Counts}
use Rattle.wb_states.specs.declared.store_fault.StoreFault.{StoreFault}
use Rattle.wb_states.specs.declared.store_fault.StoreFault.TheVariants.{Damaged, Memory, NewerSchema, NotOffice}
use Rattle.wb_states.specs.declared.store_fault.Table.{Table}
use Rattle.wb_states.specs.declared.store_fault.Table.TheVariants.{Office}
use Rattle.wb_states.specs.Holds.{is_taken_as}
use Rattle.wb_states.specs.Limits.{count_limit}
use Rattle.wb_states.specs.Machine.{Key, Machine, AreWaits, HasDistinctTakes, IsArch, IsConsistent, IsRecord}
use Rattle.wb_states.specs.Machine.{with_words, builder_pairs}
use Rattle.wb_states.specs.Names.{is_arch_name, is_builder_name}
use Rattle.wb_states.specs.Queue.{Entry}
use Rattle.wb_states.specs.Record.{IsWellFormed}
use Rattle.deb_relations.specs.Names.{is_package_name}
use Rattle.deb_text.specs.Options.{has_value}
use Rattle.wb_rows.specs.Cells.{arch_cells, builder_cells, number}
use Rattle.wb_store.specs.Schemas.{IsKeptIn, cells_in, number_of, query_of_records, row_in, table_of_records}
use Rattle.wb_store.specs.Calls.{FailsToRead}
use Rattle.wb_store.specs.Lookups.{AreRowsOf}
use Rattle.wb_store.specs.declared.format.Format.{Format}
use Rattle.wb_store.specs.declared.format.Format.TheVariants.{Two}
use Rattle.wb_store.specs.Queries as ask
use Rattle.wb_store.specs.Queries.{AnswersTo, HasAsked, OfficeQuery}

-- the row has the columns of one that fits
abbrev pub IsRowOf : {X : Type 0} → (X → Row) → (X → Type 0) → Row → Type 0
IsRowOf {X} columns Fits row = (x : X) × Fits x × (row ≡ columns x)

-- the row at this place, counted from 1, is the first without the columns of one that fits
pub record IsFirstBad {X : Type 0} (columns : X → Row) (Fits : X → Type 0) (rows : List Row) (place : ℕ) : Type 0 where
  pub before : List Row
  pub row : Row
  pub rest : List Row
  pub all : rows ≡ before ++ row ∷ rest
  pub good : AreRowsOf columns Fits before
  pub bad : ¬ IsRowOf columns Fits row
  pub counted : place ≡ suc (length before)

-- the rows are those of these, which all fit
pub record Holds {X : Type 0} (columns : X → Row) (Fits : X → Type 0) (rows : List Row) (xs : List X) : Type 0 where
  pub same : rows ≡ map columns xs
  pub fit : AllByRecursion Fits xs

-- memory ran out, or the first row that does not fit is damaged
abbrev pub AreBadRows : {X : Type 0} → Table → (X → Row) → (X → Type 0) → List Row → StoreFault → Type 0
AreBadRows table columns Fits rows fault = (fault ≡ Memory) ⊎ ((place : ℕ) × (fault ≡ Damaged table place) × IsFirstBad columns Fits rows place)

-- why a test of the rows that a query answers fails: the query failed; or memory ran out or a row is damaged, and nothing is changed
abbrev pub FailsToTest : OfficeQuery → (List Row → StoreFault → Type 0) → State → State → StoreFault → Type 0
FailsToTest query Bad old new fault = FailsToRead query old new fault ⊎ (IsUnchanged old new × ((rows : List Row) × AnswersTo query old.now rows × Bad rows fault))

-- a test of the rows of a table, which a query answers: if it succeeds, they are good, and the database stays as it is; if it fails, it fails
-- for one of the reasons above; and a crash leaves no more than before
pub record Tests {S A : Type 0} (g : Ghosts S) (query : OfficeQuery) (Good : List Row → A → Type 0) (Bad : List Row → StoreFault → Type 0) (old new : Held S) (result : Result A StoreFault) : Type 0 where
  pub value : HasCleanDisk (state g new) → HasAsked query old.schema → IfOk result (λ x. (rows : List Row) × AnswersTo query (state g old).now rows × Good rows x)
  pub same : HasCleanDisk (state g new) → HasAsked query old.schema → OnOk result (IsUnchanged (state g old) (state g new))
  pub err : HasCleanDisk (state g new) → HasAsked query old.schema → IfErr result (FailsToTest query Bad (state g old) (state g new))
  pub survives : Survives (state g old) (state g new) (λ _. ¬ HasAsked query old.schema)

-- if this is true of the state, the table of a consistent office, which has its rows so, passes the test, with this outcome: it fails only if memory ran out
-- or its query failed
pub record PassesWith {S A : Type 0} (g : Ghosts S) (query : OfficeQuery) (Has : Machine → Database → Type 0) (Given : Machine → Type 0) (Outcome : Machine → A → Type 0) (old new : Held S) (result : Result A StoreFault) : Type 0 where
  pub value : HasCleanDisk (state g new) → HasAsked query old.schema → IfOk result (λ x. (machine : Machine) → Has machine (state g old).now → Outcome machine x)
  pub err : HasCleanDisk (state g new) → HasAsked query old.schema
      → IfErr result (λ fault. (machine : Machine) → IsConsistent machine → Has machine (state g old).now → Given machine
      → (fault ≡ Memory) ⊎ FailsToRead query (state g old) (state g new) fault)

-- the table of a consistent office passes the test, with this outcome
abbrev pub Passes : {S A : Type 0} → Ghosts S → OfficeQuery → (Machine → Database → Type 0) → (Machine → A → Type 0) → Held S → Held S → Result A StoreFault → Type 0
Passes g query Has = PassesWith g query Has (λ _. ⊤)

-- an architecture whose name and words have their forms
abbrev pub IsFormedArch : List ℕ × OsCpu → Type 0
IsFormedArch arch = IsArch arch.0 arch.1

-- the rows are those of these architectures
abbrev pub HoldsArchs : List Row → List (List ℕ × OsCpu) → Type 0
HoldsArchs = Holds arch_cells IsFormedArch

-- the architecture is one of these
abbrev pub has_arch : List (List ℕ × OsCpu) → List ℕ → Bool
has_arch archs name = list_any (λ arch. bytes_eq arch.0 name) archs

-- a builder whose name has its form, with one of these architectures
pub record IsFormedBuilder (archs : List (List ℕ × OsCpu)) (pair : Key) : Type 0 where
  pub name : IsTrue (is_builder_name pair.0)
  pub arch : IsTrue (is_arch_name pair.1)
  pub known : IsTrue (has_arch archs pair.1)

-- the rows are those of these builders
abbrev pub HoldsBuilders : List (List ℕ × OsCpu) → List Row → List Key → Type 0
HoldsBuilders archs = Holds builder_cells (IsFormedBuilder archs)

-- the row of an office of this format: the format, and a column for each of the two counts
abbrev pub HasFormat : ℕ → Row → Type 0
HasFormat format row = (handed : Value) × (accepted : Value) × (row ≡ number format ∷ handed ∷ accepted ∷ [])

-- the row of an office of a format with these counts, each within its limit
pub record IsOfficeRow (format : Format) (row : Row) (counts : Counts) : Type 0 where
  pub same : row ≡ row_in format counts.handed counts.accepted
  pub handed : counts.handed ≤ count_limit
  pub accepted : counts.accepted ≤ count_limit

-- there is one row, that of an office of the format with this number
abbrev pub AreOfFormat : ℕ → List Row → Type 0
AreOfFormat format rows = (row : Row) × HasFormat format row × (rows ≡ row ∷ [])

-- there is one row, that of an office of a format with these counts
abbrev pub HoldsCounts : Format → List Row → Counts → Type 0
HoldsCounts format rows counts = (row : Row) × IsOfficeRow format row counts × (rows ≡ row ∷ [])

-- the row of the office is damaged, because its counts are not within their limits
abbrev pub IsDamagedOffice : Format → Row → StoreFault → Type 0
IsDamagedOffice format row fault = (fault ≡ Damaged Office 1) × ((counts : Counts) → ¬ IsOfficeRow format row counts)

-- why rows are not the one row of an office of a format: they have none, or another one up to 2, or one that is newer than both, or counts beyond their limits
abbrev pub AreBadCounts : Format → List Row → StoreFault → Type 0
AreBadCounts format rows fault =
    ((fault ≡ NotOffice) × ((other : ℕ) → AreOfFormat other rows → (other ≤ 2) × (other ≢ number_of format)))
    ⊎ (((fault ≡ NewerSchema) × ((newer : ℕ) × (2 < newer) × AreOfFormat newer rows))
    ⊎ (AreOfFormat (number_of format) rows × ((row : Row) → rows ≡ row ∷ [] → IsDamagedOffice format row fault)))

-- a builder and an architecture are one of these pairs
abbrev pub has_pair : List Key → Key → Bool
has_pair builders pair = list_any (λ other. bytes_eq other.0 pair.0 && bytes_eq other.1 pair.1) builders

-- the words of the first of these architectures that has the name
abbrev pub words_among : List (List ℕ × OsCpu) → List ℕ → Option OsCpu
words_among archs name = option_map (λ arch. arch.1) (find (λ arch. bytes_eq arch.0 name) archs)

-- the names and the fields of a record have their forms
pub record HasForms (entry : Entry) : Type 0 where
  pub arch : IsTrue (is_arch_name entry.0.0)
  pub source : IsTrue (is_package_name entry.0.1)
  pub fields : IsWellFormed entry.1

-- a take number, if there is one, was given
abbrev pub IsGiven : ℕ → Option ℕ → Type 0
IsGiven handed take = IfSome take (λ take_number. (1 ≤ take_number) × (take_number ≤ handed))

-- a record has its form, the schema can keep it, its holder is one of these builders, for its architecture, its take number was given, and its architecture is one of
-- these, for which its waits are reduced
pub record IsFormedRecord (format : Format) (archs : List (List ℕ × OsCpu)) (builders : List Key) (handed : ℕ) (entry : Entry) : Type 0 where
  pub forms : HasForms entry
  pub kept : IsKeptIn format entry.1
  pub holder : IfSome entry.1.holder (λ holder. IsTrue (has_pair builders (holder, entry.0.0)))
  pub given : IsGiven handed entry.1.take
  pub waits : IsSomeAnd (words_among archs entry.0.0) (λ words. AreWaits (with_words entry.0.0 words) entry.1.waits)

-- no record of these has the take number of this one, if it has one
abbrev pub HasOwnTake : List Entry → Entry → Type 0
HasOwnTake before entry = IfSome entry.1.take (λ take_number. list_any (is_taken_as take_number) before ≡ false)

-- a record has its form, and no record before it has its take number
pub record FitsRecords (format : Format) (archs : List (List ℕ × OsCpu)) (builders : List Key) (handed : ℕ) (before : List Entry) (entry : Entry) : Type 0 where
  pub formed : IsFormedRecord format archs builders handed entry
  pub own_take : HasOwnTake before entry

-- a record has its form, and its take number, if it has one, is none of these
pub record FitsBeside (format : Format) (archs : List (List ℕ × OsCpu)) (builders : List Key) (handed : ℕ) (has_take : ℕ → Bool) (entry : Entry) : Type 0 where
  pub formed : IsFormedRecord format archs builders handed entry
  pub own_take : IfSome entry.1.take (λ take_number. has_take take_number ≡ false)

-- the row is that of a record that fits beside the take numbers before it; those after it are these and its own
pub record IsTestedRow (format : Format) (archs : List (List ℕ × OsCpu)) (builders : List Key) (handed : ℕ) (before after : ℕ → Bool) (row : Row) : Type 0 where
  pub entry : Entry
  pub same : row ≡ cells_in format entry
  pub fits : FitsBeside format archs builders handed before entry
  pub among : (n : ℕ) → after n ≡ (before n || has_value (nat_eq n) entry.1.take)

-- after these, each of those fits the ones before it
abbrev pub AllAfter : {X : Type 0} → (List X → X → Type 0) → List X → List X → Type 0
AllAfter Fits before [] = ⊤
AllAfter Fits before (x ∷ xs) = Fits before x × AllAfter Fits (before ++ x ∷ []) xs

-- the rows are those of some of which each fits the ones before it
abbrev pub HoldsEach : {X : Type 0} → (X → Row) → (List X → X → Type 0) → List Row → Type 0
HoldsEach {X} columns Fits rows = (xs : List X) × (rows ≡ map columns xs) × AllAfter Fits [] xs

-- the row at this place, counted from 1, is the first without the columns of one that fits the ones before it
pub record IsFirstBadAfter {X : Type 0} (columns : X → Row) (Fits : List X → X → Type 0) (rows : List Row) (place : ℕ) : Type 0 where
  pub before : List X
  pub row : Row
  pub rest : List Row
  pub all : rows ≡ map columns before ++ row ∷ rest
  pub good : AllAfter Fits [] before
  pub bad : ¬ IsRowOf columns (Fits before) row
  pub counted : place ≡ suc (length before)

-- memory ran out, or the first row that does not fit those before it is damaged
abbrev pub AreBadAfter : {X : Type 0} → Table → (X → Row) → (List X → X → Type 0) → List Row → StoreFault → Type 0
AreBadAfter table columns Fits rows fault = (fault ≡ Memory) ⊎ ((place : ℕ) × (fault ≡ Damaged table place) × IsFirstBadAfter columns Fits rows place)

-- the rows are those of records with their forms, no two of which have one take number
abbrev pub HoldsRecords : Format → List (List ℕ × OsCpu) → List Key → ℕ → List Row → Type 0
HoldsRecords format archs builders handed = HoldsEach (cells_in format) (FitsRecords format archs builders handed)

-- memory ran out, or the first row that is no record with its form, or that has the take number of a row before it, is damaged
abbrev pub AreBadRecords : Format → List (List ℕ × OsCpu) → List Key → ℕ → List Row → StoreFault → Type 0
AreBadRecords format archs builders handed = AreBadAfter (table_of_records format) (cells_in format) (FitsRecords format archs builders handed)

-- these architectures, pairs of builders and greatest take number are those of the state
pub record AreKept (archs : List (List ℕ × OsCpu)) (builders : List Key) (handed : ℕ) (machine : Machine) : Type 0 where
  pub archs_are : archs ≡ finite.entries machine.archs
  pub builders_are : builders ≡ builder_pairs machine
  pub handed_is : handed ≡ machine.handed

-- the records of a state are those of a consistent office, and no two have one take number
pub record HasGoodRecords (machine : Machine) : Type 0 where
  pub records : (arch source : List ℕ) → IfSome (finite.get machine.records (arch, source)) (IsRecord machine arch source)
  pub takes : HasDistinctTakes machine

-- the rows that a query shows of a database are good
abbrev pub ShowsGood : OfficeQuery → Database → (List Row → Type 0) → Type 0
ShowsGood query db Good = (rows : List Row) × AnswersTo query db rows × Good rows

-- the rows of the office's tables in a format are good, those of each table beside those of the others
pub record HasGoodRowsIn (format : Format) (db : Database) : Type 0 where
  pub counts : Counts
  pub archs : List (List ℕ × OsCpu)
  pub builders : List Key
  pub counts_held : ShowsGood ask.Office db (λ rows. HoldsCounts format rows counts)
  pub archs_held : ShowsGood ask.Archs db (λ rows. HoldsArchs rows archs)
  pub builders_held : ShowsGood ask.Builders db (λ rows. HoldsBuilders archs rows builders)
  pub records_held : ShowsGood (query_of_records format) db (HoldsRecords format archs builders counts.handed)

-- those of the second schema
abbrev pub HasGoodRows : Database → Type 0
HasGoodRows = HasGoodRowsIn Two
