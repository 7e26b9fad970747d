-- Transactions of the office: what stands between them, what while one is under way, and what after each way to end one.
use Rattle.std.specs.Prelude.{◌≡◌, ◌⊎◌, true, false, Result, Err, IsTrue, OnOk}
use Rattle.sqlite_trees.specs.declared.store.Store.{Ghosts}
use Rattle.sqlite_catalog.specs.Listing.{IsSound}
use Rattle.sqlite_disk.specs.declared.Disk.{Ghosts as DiskGhosts}
use Rattle.sqlite_disk.specs.declared.Files.{Files}
use Rattle.sqlite.specs.Schema.{Schema}
use Rattle.sqlite.specs.Tree.{Trees}
use Rattle.sqlite.specs.Effect.{Database}
use Rattle.sqlite.specs.Held.{Held, state}
use Rattle.sqlite.specs.State.{State, HasCleanDisk}
use Rattle.wb_sql.specs.Transactions.{LeavesAlone}
use Rattle.wb_sql.specs.Settled.{AreSettled}
use Rattle.wb_states.specs.declared.store_fault.StoreFault.{StoreFault}
use Rattle.wb_states.specs.declared.store_fault.StoreFault.TheVariants.{Memory}
use Rattle.wb_states.specs.Machine.{Machine}
use Rattle.wb_store.specs.Merging.{Scratch, no_merge}
use Rattle.wb_store.specs.Stands.{StandsFor, StandsForFirst, StandsWith}

-- the trees hold the office's tables, beside those of others, as their catalogue lists them, with the rows of this state
pub record StandsForTrees (machine : Machine) (trees : Trees) : Type 0 where
  pub schema : Schema
  pub sound : IsSound schema trees
  pub stands : StandsFor machine (record { schema = schema; trees = trees })

-- the database is that of an office in this state, as its trees alone say, whose catalogue lists its schema
pub record IsOffice (machine : Machine) (db : Database) : Type 0 where
  pub sound : IsSound db.schema db.trees
  pub stands : StandsFor machine db

-- the database is an office of the first schema in this state, whose catalogue lists its schema
pub record IsFirstOffice (machine : Machine) (db : Database) : Type 0 where
  pub sound : IsSound db.schema db.trees
  pub stands : StandsForFirst machine db

-- the trees are those of such an office
pub record StandsForFirstTrees (machine : Machine) (trees : Trees) : Type 0 where
  pub schema : Schema
  pub office : IsFirstOffice machine (record { schema = schema; trees = trees })

-- a connection without a transaction, whose database stands for this state, and of which a crash leaves only that
pub record IsSettled (machine : Machine) (s : State) : Type 0 where
  pub is_open : IsTrue s.is_open
  pub idle : s.in_transaction ≡ false
  pub committed : s.now ≡ s.committed
  pub holds : IsOffice machine s.now
  pub alone : LeavesAlone s s.now.trees

-- a connection without a transaction, whose database is an office of the first schema in this state, and of which a crash leaves only that
pub record IsSettledFirst (machine : Machine) (s : State) : Type 0 where
  pub is_open : IsTrue s.is_open
  pub idle : s.in_transaction ≡ false
  pub committed : s.now ≡ s.committed
  pub holds : IsFirstOffice machine s.now
  pub alone : LeavesAlone s s.now.trees

-- a transaction under way: it began from the state `before`, which is committed and is all that a crash leaves, and its database stands for `now` with
-- these rows of a merge
pub record IsUnderWayWith (before now : Machine) (scratch : Scratch) (s : State) : Type 0 where
  pub is_open : IsTrue s.is_open
  pub inside : IsTrue s.in_transaction
  pub stands : StandsWith now scratch s.now
  pub began : IsOffice before s.committed
  pub alone : LeavesAlone s s.committed.trees

-- the same while no merge runs
abbrev pub IsUnderWay : Machine → Machine → State → Type 0
IsUnderWay before now s = IsUnderWayWith before now no_merge s

-- a crash leaves only a database that stands for this state
abbrev pub LeavesOnly : Machine → State → Type 0
LeavesOnly machine s = (db : Trees) → s.may_leave db → StandsForTrees machine db

-- a crash leaves only a database that stands for the one state or for the other
abbrev pub LeavesEither : Machine → Machine → State → Type 0
LeavesEither before now s = (db : Trees) → s.may_leave db → StandsForTrees before db ⊎ StandsForTrees now db

-- what a transaction wrote is taken back, to this state: a crash leaves only that, and if no fault shut the connection, it is settled
pub record IsBackAt (before : Machine) (s : State) : Type 0 where
  pub idle : s.in_transaction ≡ false
  pub left : LeavesOnly before s
  pub settled : IsTrue s.is_open → IsSettled before s

-- a commit settles what the transaction sees, and the connection shows the same after it; if memory runs out, nothing is committed, and the
-- transaction stays or is taken back; and whatever it answers, a crash leaves the state before it or the state that it saw
pub record SettlesBy {S A : Type 0} (g : Ghosts S) (old new : Held S) (result : Result A StoreFault) : Type 0 where
  pub ok : HasCleanDisk (state g new) → (before now : Machine) → IsUnderWay before now (state g old) → OnOk result (IsSettled now (state g new))
  pub shows : HasCleanDisk (state g new) → (before now : Machine) → IsUnderWay before now (state g old) → OnOk result ((state g new).now ≡ (state g old).now)
  pub memory : HasCleanDisk (state g new) → (before now : Machine) → IsUnderWay before now (state g old) → result ≡ Err Memory
      → IsUnderWay before now (state g new) ⊎ IsBackAt before (state g new)
  pub crash : HasCleanDisk (state g new) → (before now : Machine) → IsUnderWay before now (state g old) → LeavesEither before now (state g new)

-- a transaction under way, or taken back before, is taken back, also while a merge runs
pub record TakesBack {S : Type 0} (g : Ghosts S) (old new : Held S) : Type 0 where
  pub back : HasCleanDisk (state g new) → (before now : Machine) → IsUnderWay before now (state g old) ⊎ IsBackAt before (state g old) → IsBackAt before (state g new)
  pub beside : HasCleanDisk (state g new) → (before now : Machine) (scratch : Scratch) → IsUnderWayWith before now scratch (state g old) → IsBackAt before (state g new)

-- whatever a crash leaves of the files, it is one database, which stands for this state
abbrev pub AreSettledAt : {D : Type 0} → DiskGhosts D → Files D → Machine → Type 0
AreSettledAt g files machine = (db : Trees) × StandsForTrees machine db × AreSettled g files db

-- the connection in a transaction that has just begun
abbrev pub begun : {S : Type 0} → Held S → Held S
begun old = record old { in_transaction = true }
