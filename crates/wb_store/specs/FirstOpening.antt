-- An opening of an office of the first schema: it is tested, and brought over.
use Rattle.std.specs.Prelude.{◌≡◌, ◌⊎◌, ⊤, false, map, Result, IfOk, IfErr, OnOk, Vec}
use Rattle.sqlite_trees.specs.declared.store.Store.{Ghosts}
use Rattle.sqlite.specs.Held.{Held, state}
use Rattle.sqlite.specs.State.{HasCleanDisk}
use Rattle.wb_sql.specs.Upgrading.{HasFirstOffice}
use Rattle.wb_states.specs.declared.counts.Counts.{Counts}
use Rattle.wb_states.specs.declared.keyed.KeyedRecord.{KeyedRecord}
use Rattle.wb_states.specs.declared.store_fault.StoreFault.{StoreFault}
use Rattle.wb_states.specs.Lookups.{entry_of}
use Rattle.wb_states.specs.Machine.{IsConsistent, Machine}
use Rattle.wb_store.specs.Finds.{StaysAs}
use Rattle.wb_store.specs.Others.{KeepsOthersOver}
use Rattle.wb_store.specs.Opening.{AreCountsOf, ChecksOver, FailsOnReading, FailsToBring, HasGoodRowsWith, HasNoScratchRows, LacksMemoryOrQuery}
use Rattle.sqlite.specs.Tree.{Trees}
use Rattle.wb_store.specs.Checks.{HasGoodRowsIn}
use Rattle.wb_store.specs.Settled.{IsFirstOffice, IsSettled, StandsForTrees}
use Rattle.wb_store.specs.Stands.{StandsForFirst}
use Rattle.wb_store.specs.Upgrading.{AreRecordsOf, FailsToUpgrade, HasFirst, LeavesOrUpgrades}
use Rattle.wb_store.specs.declared.format.Format.TheVariants.{One}

-- an office of the first schema is tested, and its records are read, with its counts
abbrev pub ReadsOffice : {S X : Type 0} → Ghosts S → Held S → Held S → Result (Counts × Vec KeyedRecord X) StoreFault → Type 0
ReadsOffice g = ChecksOver g HasFirstOffice StandsForFirst (λ _. ⊤) (λ db read. HasGoodRowsWith One db read.0 × HasNoScratchRows db)
    (λ machine read. AreCountsOf machine read.0 × AreRecordsOf machine (map entry_of read.1.items)) FailsOnReading

-- an office of the first schema is tested and brought over: if that succeeds, it is settled at its state in the second, with its counts, the schema got the tables and
-- indexes of the second, and the tables of others keep their rows; it fails only if memory ran out, a query failed, or it could not be brought over; whatever it
-- answers, a crash leaves what it could leave before, or the state in the second; an office that has a row that is not good, or one that a merge left, is refused by
-- one of its tests, before anything is written, so that a crash leaves no more; and no transaction is under way then. The limit of steps stays
pub record BringsOver {S : Type 0} (g : Ghosts S) (old new : Held S) (result : Result Counts StoreFault) : Type 0 where
  pub was_clean : HasCleanDisk (state g new) → HasCleanDisk (state g old)
  pub limit : (state g new).step_limit ≡ (state g old).step_limit
  pub brought : HasCleanDisk (state g new) → (machine : Machine) → IsConsistent machine → HasFirst machine (state g old)
      → IfOk result (λ counts. AreCountsOf machine counts × IsSettled machine (state g new))
  pub others : HasCleanDisk (state g new) → (machine : Machine) → HasFirst machine (state g old) → OnOk result (KeepsOthersOver (state g old).now (state g new).now)
  pub fails : HasCleanDisk (state g new) → (machine : Machine) → IsConsistent machine → HasFirst machine (state g old)
      → IfErr result (λ fault. LacksMemoryOrQuery g old new fault ⊎ ((at : Held S) × StaysAs g old at × FailsToUpgrade g machine at fault))
  pub refuses : HasCleanDisk (state g new) → HasFirstOffice old.schema
      → IfErr result (FailsToBring g old new)
  pub crash : HasCleanDisk (state g new) → (machine : Machine) → HasFirst machine (state g old) → LeavesOrUpgrades machine (state g old) (state g new)
  pub leaves : HasCleanDisk (state g new) → HasFirstOffice old.schema
      → (HasGoodRowsIn One (state g old).now → HasNoScratchRows (state g old).now → (machine : Machine) × HasFirst machine (state g old))
      → (db : Trees) → (state g new).may_leave db → (state g old).may_leave db ⊎ ((machine : Machine) × IsFirstOffice machine (state g old).now × StandsForTrees machine db)
  pub good : HasCleanDisk (state g new) → HasFirstOffice old.schema → IfOk result (λ counts. HasGoodRowsWith One (state g old).now counts × HasNoScratchRows (state g old).now)
  pub idle : HasCleanDisk (state g new) → HasFirstOffice old.schema → (state g new).in_transaction ≡ false
