-- What an opening tests of the tables of an office, in one call, and how it finds an office or makes one.
use Rattle.std.specs.Prelude.{◌≡◌, ◌⊎◌, ⊤, false, IsTrue, List, ℕ, [], Result, Err, IfOk, IfErr, IsErrAnd, OnOk, OnErr}
use Rattle.sqlite_trees.specs.declared.store.Store.{Ghosts}
use Rattle.sqlite.specs.declared.error.Error.{Error}
use Rattle.sqlite.specs.Change.{KeepsRows}
use Rattle.sqlite.specs.Effect.{Database}
use Rattle.sqlite.specs.Held.{Held, state}
use Rattle.sqlite.specs.Schema.{Schema}
use Rattle.sqlite.specs.State.{State, HasCleanDisk, IsUnchanged, Survives}
use Rattle.wb_sql.specs.Transactions.{IsKeptOrUndone}
use Rattle.wb_sql.specs.Upgrading.{HasFirstOffice}
use Rattle.wb_sql.specs.Among.{HasOffice, HasStates, LacksOffice, rows_in}
use Rattle.wb_sql.specs.Format.{HasFormatColumn}
use Rattle.wb_sql.specs.Tables.{scratch_binary, scratch_source}
use Rattle.wb_states.specs.declared.arch.OsCpu.{OsCpu}
use Rattle.wb_states.specs.declared.counts.Counts.{Counts}
use Rattle.wb_states.specs.declared.store_fault.StoreFault.{StoreFault}
use Rattle.wb_states.specs.declared.store_fault.StoreFault.TheVariants.{Damaged, Memory, NewerSchema, NotOffice}
use Rattle.wb_states.specs.declared.store_fault.Table.TheVariants.{Office, Arch, Builder}
use Rattle.wb_states.specs.Machine.{Key, Machine, IsConsistent, empty_office}
use Rattle.wb_rows.specs.Cells.{arch_cells, builder_cells}
use Rattle.wb_store.specs.Calls.{FailsToRead}
use Rattle.wb_store.specs.Faults.{fault_of}
use Rattle.wb_store.specs.Formats.{FailsToReadFormat, IsNewer, IsNoOffice, IsOtherFault}
use Rattle.wb_store.specs.Checks.{AreBadCounts, AreBadRecords, AreBadRows, FailsToTest, HasGoodRows, HasGoodRowsIn, HoldsArchs, HoldsBuilders, HoldsCounts, IsFormedArch, IsFormedBuilder, ShowsGood}
use Rattle.wb_store.specs.declared.format.Format.{Format}
use Rattle.wb_store.specs.declared.format.Format.TheVariants.{One, Two}
use Rattle.wb_store.specs.Others.{KeepsOthersOver}
use Rattle.wb_store.specs.Queries as ask
use Rattle.wb_store.specs.Queries.{OfficeQuery, table_asked, table_of}
use Rattle.wb_store.specs.Schemas.{query_of_records}
use Rattle.wb_store.specs.Scratch.{has_rows}
use Rattle.wb_store.specs.Settled.{IsBackAt, IsFirstOffice, IsSettled}
use Rattle.wb_store.specs.Upgrading.{FailsToReadFirst, FailsToUpgrade, HasFirst}
use Rattle.wb_store.specs.Stands.{AreEmptied, HasIn, StandsFor, StandsForFirst, StandsIn}
use Rattle.wb_store.specs.Finds.{StaysAs}
use Rattle.wb_store.specs.Preparing.{FailsToMake, IsBlank, IsFoundAt, LeavesFound, LeavesPrepared}

-- these counts are those of the state
abbrev pub AreCountsOf : Machine → Counts → Type 0
AreCountsOf machine counts = (counts.handed ≡ machine.handed) × (counts.accepted ≡ machine.accepted)

-- the office's row in a database is good in a format, with these counts
abbrev pub ShowsCounts : Format → Database → Counts → Type 0
ShowsCounts format db counts = ShowsGood ask.Office db (λ rows. HoldsCounts format rows counts)

-- the rows of the architectures in a database are good, and the architectures are these
abbrev pub ShowsArchs : Database → List (List ℕ × OsCpu) → Type 0
ShowsArchs db archs = ShowsGood ask.Archs db (λ rows. HoldsArchs rows archs)

-- the rows of the builders in a database are good beside these architectures, and the builders are these
abbrev pub ShowsBuilders : Database → List (List ℕ × OsCpu) → List Key → Type 0
ShowsBuilders db archs builders = ShowsGood ask.Builders db (λ rows. HoldsBuilders archs rows builders)

-- the rows of the office's tables in a format are good, with these counts
abbrev pub HasGoodRowsWith : Format → Database → Counts → Type 0
HasGoodRowsWith format db counts = (h : HasGoodRowsIn format db) × (h.counts ≡ counts)

-- the two scratch tables of a merge have no row
abbrev pub HasNoScratchRows : Database → Type 0
HasNoScratchRows db = (rows_in db scratch_source ≡ []) × (rows_in db scratch_binary ≡ [])

-- no merge left a row in them, and no upgrade one in the table of the records of the first schema
abbrev pub HasNoRowsLeft : Database → Type 0
HasNoRowsLeft db = HasNoScratchRows db × AreEmptied db

-- the test of the architectures fails, after a good row of the office
abbrev pub FailsOnArchs : Format → State → State → StoreFault → Type 0
FailsOnArchs format old new fault =
    (counts : Counts) × ShowsCounts format old.now counts
    × FailsToTest ask.Archs (AreBadRows Arch arch_cells IsFormedArch) old new fault

-- the test of the builders fails, after good rows of the office and of the architectures
abbrev pub FailsOnBuilders : Format → State → State → StoreFault → Type 0
FailsOnBuilders format old new fault =
    (counts : Counts) × (archs : List (List ℕ × OsCpu)) × ShowsCounts format old.now counts × ShowsArchs old.now archs
    × FailsToTest ask.Builders (AreBadRows Builder builder_cells (IsFormedBuilder archs)) old new fault

-- the test of the records fails, after good rows of all the other tables
abbrev pub FailsOnRecords : Format → State → State → StoreFault → Type 0
FailsOnRecords format old new fault =
    (counts : Counts) × (archs : List (List ℕ × OsCpu)) × (builders : List Key)
    × ShowsCounts format old.now counts × ShowsArchs old.now archs × ShowsBuilders old.now archs builders
    × FailsToTest (query_of_records format) (AreBadRecords format archs builders counts.handed) old new fault

-- why the tests of the rows fail: the first of the four that fails, after good rows of the tables before it
abbrev pub FailsOnRows : Format → State → State → StoreFault → Type 0
FailsOnRows format old new fault =
    FailsToTest ask.Office (AreBadCounts format) old new fault
    ⊎ (FailsOnArchs format old new fault ⊎ (FailsOnBuilders format old new fault ⊎ FailsOnRecords format old new fault))

-- why the test fails whether a table has no row, which is by this query: the query failed; or the table has a row, of which the first is damaged, and nothing
-- is changed
abbrev pub FailsOnRowsOf : OfficeQuery → State → State → StoreFault → Type 0
FailsOnRowsOf query old new fault =
    FailsToRead query old new fault ⊎ ((fault ≡ Damaged (table_asked query) 1) × IsTrue (has_rows (table_asked query) old.now) × IsUnchanged old new)

-- why the tests of the scratch tables fail: that of the source packages does, or, if that table has no row, that of the binary packages
abbrev pub FailsOnScratch : State → State → StoreFault → Type 0
FailsOnScratch old new fault =
    FailsOnRowsOf ask.OneSource old new fault ⊎ ((rows_in old.now scratch_source ≡ []) × FailsOnRowsOf ask.OneBinary old new fault)

-- why the test of the table of the records of the first schema fails, which is there
abbrev pub FailsOnStates : State → State → StoreFault → Type 0
FailsOnStates old new fault = HasStates old.now.schema × FailsOnRowsOf ask.OneState old new fault

-- why the tests fail whether rows are left: that of the scratch tables, or, if these have none, that of the table of the first schema
abbrev pub FailsOnLeft : State → State → StoreFault → Type 0
FailsOnLeft old new fault = FailsOnScratch old new fault ⊎ (HasNoScratchRows old.now × FailsOnStates old new fault)

-- why the tests of an office fail: one of the rows, or, after good rows, that of rows that are left
abbrev pub FailsOnOffice : State → State → StoreFault → Type 0
FailsOnOffice old new fault = FailsOnRows Two old new fault ⊎ (HasGoodRows old.now × FailsOnLeft old new fault)

-- a fault that comes for this reason, after tests that left the database as it was
abbrev pub ComesLater : {S : Type 0} → Ghosts S → (State → State → StoreFault → Type 0) → Held S → Held S → StoreFault → Type 0
ComesLater {S} g Why old new fault = (mid : Held S) × StaysAs g old mid × Why (state g mid) (state g new) fault

-- one of the queries failed with this fault
abbrev pub FailsToReadOne : State → State → StoreFault → Type 0
FailsToReadOne old new fault = (query : OfficeQuery) × FailsToRead query old new fault

-- memory ran out, or a query failed, after tests that left the database as it was
abbrev pub LacksMemoryOrQuery : {S : Type 0} → Ghosts S → Held S → Held S → StoreFault → Type 0
LacksMemoryOrQuery g old new fault = (fault ≡ Memory) ⊎ ComesLater g FailsToReadOne old new fault

-- tests, one after another, of a database with the office's tables, whose schema has them so, and which stands for a state so: if they succeed, it is good,
-- and stays as it is; if they fail, one of them did, after others that changed nothing; if this is true of the state, the tables of a consistent office pass
-- them, with this outcome, unless memory ran out or a query failed; and a crash leaves no more than before
pub record ChecksOver {S A : Type 0} (g : Ghosts S) (Has : Schema → Type 0) (Stands : Machine → Database → Type 0) (Given : Machine → Type 0) (Good : Database → A → Type 0)
    (Outcome : Machine → A → Type 0) (Why : State → State → StoreFault → Type 0) (old new : Held S) (result : Result A StoreFault) : Type 0 where
  pub good : HasCleanDisk (state g new) → Has old.schema → IfOk result (Good (state g old).now)
  pub same : HasCleanDisk (state g new) → Has old.schema → OnOk result (StaysAs g old new)
  pub err : HasCleanDisk (state g new) → Has old.schema → IfErr result (ComesLater g Why old new)
  pub kept : HasCleanDisk (state g new) → Has old.schema → OnErr result (IsKeptOrUndone (state g old) (state g new))
  pub told : HasCleanDisk (state g new) → Has old.schema → IfOk result (λ x. (machine : Machine) → Stands machine (state g old).now → Outcome machine x)
  pub fails : HasCleanDisk (state g new) → Has old.schema
      → IfErr result (λ fault. (machine : Machine) → IsConsistent machine → Stands machine (state g old).now → Given machine → LacksMemoryOrQuery g old new fault)
  pub survives : Survives (state g old) (state g new) (λ _. ¬ Has old.schema)

-- such tests of an office of the second schema
abbrev pub ChecksWith : {S A : Type 0} → Ghosts S → (Machine → Type 0) → (Database → A → Type 0) → (Machine → A → Type 0) → (State → State → StoreFault → Type 0) → Held S → Held S → Result A StoreFault
    → Type 0
ChecksWith g = ChecksOver g HasOffice StandsFor

-- the tests of the rows of the office's tables in a format
abbrev pub ChecksRows : {S : Type 0} → Ghosts S → Format → Held S → Held S → Result Counts StoreFault → Type 0
ChecksRows g format = ChecksOver g (HasIn format) (StandsIn format) (λ _. ⊤) (HasGoodRowsWith format) AreCountsOf (FailsOnRows format)

-- the test whether a table has no row, by this query
abbrev pub ChecksNoRowsOf : {S A : Type 0} → Ghosts S → (Schema → Type 0) → (Machine → Database → Type 0) → OfficeQuery → Held S → Held S → Result A StoreFault → Type 0
ChecksNoRowsOf g Has Stands query = ChecksOver g Has Stands (λ _. ⊤) (λ db _. rows_in db (table_of (table_asked query)) ≡ []) (λ _ _. ⊤) (FailsOnRowsOf query)

-- the tests of the scratch tables, in a format
abbrev pub ChecksScratch : {S A : Type 0} → Ghosts S → Format → Held S → Held S → Result A StoreFault → Type 0
ChecksScratch g format = ChecksOver g (HasIn format) (StandsIn format) (λ _. ⊤) (λ db _. HasNoScratchRows db) (λ _ _. ⊤) FailsOnScratch

-- the test of the table of the records of the first schema
abbrev pub ChecksStates : {S A : Type 0} → Ghosts S → Held S → Held S → Result A StoreFault → Type 0
ChecksStates g = ChecksWith g (λ _. ⊤) (λ db _. AreEmptied db) (λ _ _. ⊤) FailsOnStates

-- the tests whether rows are left
abbrev pub ChecksLeft : {S A : Type 0} → Ghosts S → Held S → Held S → Result A StoreFault → Type 0
ChecksLeft g = ChecksWith g (λ _. ⊤) (λ db _. HasNoRowsLeft db) (λ _ _. ⊤) FailsOnLeft

-- the test of a scratch table of the first schema fails, after good rows of the tables before it
abbrev pub FailsOnFirstScratch : State → State → StoreFault → Type 0
FailsOnFirstScratch old new fault =
    (counts : Counts) × (archs : List (List ℕ × OsCpu)) × (builders : List Key)
    × ShowsCounts One old.now counts × ShowsArchs old.now archs × ShowsBuilders old.now archs builders × FailsOnScratch old new fault

-- why the tests of an office of the first schema fail: the first of them that fails, after good rows of the tables before it; the table of the records is the last
abbrev pub FailsOnFirst : State → State → StoreFault → Type 0
FailsOnFirst old new fault =
    FailsToTest ask.Office (AreBadCounts One) old new fault
    ⊎ (FailsOnArchs One old new fault ⊎ (FailsOnBuilders One old new fault ⊎ (FailsOnFirstScratch old new fault ⊎ (HasNoScratchRows old.now × FailsOnRecords One old new fault))))

-- the tests of an office of the first schema
abbrev pub ChecksFirst : {S : Type 0} → Ghosts S → Held S → Held S → Result Counts StoreFault → Type 0
ChecksFirst g = ChecksOver g HasFirstOffice StandsForFirst (λ _. ⊤) (λ db counts. HasGoodRowsWith One db counts × HasNoScratchRows db) AreCountsOf FailsOnFirst

-- why an office of the first schema is not read: the first of its tests that fails, or, after all of them, its records are not read
abbrev pub FailsOnReading : State → State → StoreFault → Type 0
FailsOnReading old new fault = FailsOnFirst old new fault ⊎ (HasGoodRowsIn One old.now × FailsToReadFirst old new fault)

-- why an office of the first schema is not brought over: it is not read, after tests that left it as it was; or all its rows are good, no merge left one, and a
-- statement or the commit of the transaction fails
abbrev pub FailsToBring : {S : Type 0} → Ghosts S → Held S → Held S → StoreFault → Type 0
FailsToBring {S} g old new fault =
    ComesLater g FailsOnReading old new fault
    ⊎ (HasGoodRowsIn One (state g old).now × HasNoScratchRows (state g old).now
    × ((machine : Machine) → HasFirst machine (state g old) → (at : Held S) × StaysAs g old at × FailsToUpgrade g machine at fault))

-- the tests of a whole office: if they succeed, its rows are good, no row is left of a merge or an upgrade, and nothing is changed; a settled connection passes them, and
-- stays settled, or goes back to its state if memory ran out or a query failed; and no fault is given but that of a test
pub record Checks {S : Type 0} (g : Ghosts S) (old new : Held S) (result : Result Counts StoreFault) : Type 0 where
  pub was_clean : HasCleanDisk (state g new) → HasCleanDisk (state g old)
  pub good : HasCleanDisk (state g new) → HasOffice old.schema
      → IfOk result (λ counts. HasGoodRowsWith Two (state g old).now counts × HasNoRowsLeft (state g old).now × StaysAs g old new)
  pub passes : HasCleanDisk (state g new) → (machine : Machine) → IsConsistent machine → IsSettled machine (state g old)
      → IfOk result (λ counts. AreCountsOf machine counts × IsSettled machine (state g new))
  pub fails : HasCleanDisk (state g new) → (machine : Machine) → IsConsistent machine → IsSettled machine (state g old)
      → IfErr result (λ fault. IsBackAt machine (state g new) × LacksMemoryOrQuery g old new fault)
  pub refuses : HasCleanDisk (state g new) → HasOffice old.schema → IfErr result (ComesLater g FailsOnOffice old new)
  pub kept : HasCleanDisk (state g new) → HasOffice old.schema → OnErr result (IsKeptOrUndone (state g old) (state g new))
  pub survives : Survives (state g old) (state g new) (λ _. ¬ HasOffice old.schema)

-- no office is made in a database that lacks it: a statement or the commit failed, which is the fault of the office's table
abbrev pub IsFaultOfMaking : {S : Type 0} → Ghosts S → Held S → StoreFault → Type 0
IsFaultOfMaking g old fault = IsBlank (state g old) × ((e : Error) × FailsToMake g old e × (fault ≡ fault_of e Office))

-- an empty office was made in a database that lacked it, under the step limit that there was
abbrev pub IsMadeAt : {S : Type 0} → Ghosts S → Held S → Held S → Type 0
IsMadeAt g old at = IsBlank (state g old) × IsSettled empty_office (state g at) × ((state g at).step_limit ≡ (state g old).step_limit)

-- the tests of the office that was there, or of the one that was made, fail because memory ran out or a query failed
abbrev pub LacksAfter : {S : Type 0} → Ghosts S → Held S → Held S → StoreFault → Type 0
LacksAfter {S} g old new fault = (at : Held S) × ((old ≡ at) ⊎ IsMadeAt g old at) × LacksMemoryOrQuery g at new fault

-- an office of the first schema is not brought over
abbrev pub IsFaultOfUpgrade : {S : Type 0} → Ghosts S → Machine → Held S → StoreFault → Type 0
IsFaultOfUpgrade {S} g machine old fault = HasFirst machine (state g old) × ((at : Held S) × StaysAs g old at × FailsToUpgrade g machine at fault)

-- a database that has the tables of the first schema, with good rows, and in which no merge left one, stands for a state
abbrev pub StandsIfFirst : Database → Type 0
StandsIfFirst db = HasFirstOffice db.schema → HasGoodRowsIn One db → HasNoScratchRows db → (machine : Machine) × IsFirstOffice machine db

-- why a database is refused that shows a format above 2: that a newer program wrote it, and nothing is changed; or the query for the format failed, or
-- that for the row of an office with the tables of format 2
abbrev pub IsNewerFault : State → State → StoreFault → Type 0
IsNewerFault old new fault =
    ((fault ≡ NewerSchema) × IsUnchanged old new) ⊎ (FailsToReadFormat old new fault ⊎ FailsToRead ask.Office old new fault)

-- how a search for an office refuses: whatever its tables are, a database that shows a format above 2 is called newer; of an open connection no other
-- is, and one is called no office only if it is none; one that neither has the office's tables nor lacks them is refused by its format, and left as it
-- is if there is none to be read
pub record NamesFault {S : Type 0} (g : Ghosts S) (old new : Held S) (result : Result Counts StoreFault) : Type 0 where
  pub newer : HasCleanDisk (state g new) → IsNewer (state g old).now → IsErrAnd result (ComesLater g IsNewerFault old new)
  pub only_newer : HasCleanDisk (state g new) → IsTrue (state g old).is_open → StandsIfFirst (state g old).now → result ≡ Err NewerSchema → IsNewer (state g old).now
  pub no_office : HasCleanDisk (state g new) → IsTrue (state g old).is_open → StandsIfFirst (state g old).now → result ≡ Err NotOffice → IsNoOffice (state g old).now
  pub other : HasCleanDisk (state g new) → ¬ LacksOffice old.schema → ¬ HasOffice old.schema → ¬ HasFirstOffice old.schema → IsErrAnd result (IsOtherFault g old new)
  pub unread : ¬ LacksOffice old.schema → ¬ HasOffice old.schema → ¬ HasFormatColumn old.schema → (result ≡ Err NotOffice) × (new ≡ old)

-- an office is found, or made in a database that lacks it, each perhaps beside tables of others: if that succeeds, it is settled at its state, with its
-- counts; whatever it answers, a crash leaves that state; it fails only if it could not be made, or if memory ran out or a query failed; an office
-- that is found, in either schema, has good rows, or is refused by one of its tests, before anything is written; and whatever it answers over an open
-- connection, a crash leaves what it could leave before, or an empty office of a database that lacked one, or the same state in the second schema; where an
-- office is made, the tables that were there keep their rows, and where one of the first schema is brought over, those of others do, and the schema gets the tables and
-- indexes of the second and nothing else; no transaction is under way, and the limit of steps stays
pub record PreparesOffice {S : Type 0} (g : Ghosts S) (old new : Held S) (result : Result Counts StoreFault) : Type 0 where
  pub was_clean : HasCleanDisk (state g new) → HasCleanDisk (state g old)
  pub found : HasCleanDisk (state g new) → (machine : Machine) → IsConsistent machine → IsFoundAt machine (state g old)
      → IfOk result (λ counts. AreCountsOf machine counts × IsSettled machine (state g new))
  pub left : HasCleanDisk (state g new) → (machine : Machine) → IsFoundAt machine (state g old) → LeavesFound machine (state g new)
  pub fails : HasCleanDisk (state g new) → (machine : Machine) → IsConsistent machine → IsFoundAt machine (state g old)
      → IfErr result (λ fault. IsFaultOfMaking g old fault ⊎ (LacksAfter g old new fault ⊎ IsFaultOfUpgrade g machine old fault))
  pub good : HasCleanDisk (state g new) → HasOffice old.schema
      → IfOk result (λ counts. HasGoodRowsWith Two (state g old).now counts × HasNoRowsLeft (state g old).now × StaysAs g old new)
  pub good_first : HasCleanDisk (state g new) → HasFirstOffice old.schema
      → IfOk result (λ counts. HasGoodRowsWith One (state g old).now counts × HasNoScratchRows (state g old).now)
  pub refuses : HasCleanDisk (state g new) → HasOffice old.schema → IfErr result (ComesLater g FailsOnOffice old new)
  pub refuses_first : HasCleanDisk (state g new) → HasFirstOffice old.schema → IfErr result (FailsToBring g old new)
  pub known : IfOk result (λ counts. LacksOffice old.schema ⊎ (HasOffice old.schema ⊎ HasFirstOffice old.schema))
  pub names : NamesFault g old new result
  pub crash : HasCleanDisk (state g new) → IsTrue (state g old).is_open → StandsIfFirst (state g old).now → LeavesPrepared (state g old) (state g new)
  pub others : HasCleanDisk (state g new) → IsTrue (state g old).is_open → LacksOffice old.schema
      → OnOk result (KeepsRows old.schema.tables (state g old).now.trees (state g new).now.trees)
  pub others_first : HasCleanDisk (state g new) → (machine : Machine) → HasFirst machine (state g old) → OnOk result (KeepsOthersOver (state g old).now (state g new).now)
  pub idle : HasCleanDisk (state g new) → IsTrue (state g old).is_open → (state g new).in_transaction ≡ false
  pub limit : new.step_limit ≡ old.step_limit

-- an opening was refused, and its connection given up, in the state in which the search for the office left it
abbrev pub IsRefusedFrom : {S : Type 0} → Ghosts S → Held S → StoreFault → Type 0
IsRefusedFrom {S} g old fault = (at : Held S) × PreparesOffice g old at (Err fault)
