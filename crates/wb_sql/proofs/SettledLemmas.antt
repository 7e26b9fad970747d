-- What the files of a connection hold.
use Rattle.std.proofs.Common.{◌≡◌, [], length, inl, inr, IsTrue, ap, arith, sym, subst, ◌∙◌}
use Rattle.std.proofs.Math.Logic.{∥∥₁_elim, ∥∥₁_map}
use Rattle.sqlite_disk.specs.declared.Disk.{Ghosts}
use Rattle.sqlite_disk.specs.declared.Files.{Files}
use Rattle.sqlite_wal.specs.Reads.{AreClean}
use Rattle.sqlite_wal.proofs.LogLemmas.{SeenMayStay}
use Rattle.sqlite.specs.Tree.{Trees}
use Rattle.sqlite_trees.specs.Props.{Trees-set}
use Rattle.sqlite.specs.WalFiles.{outcomes}
use Rattle.sqlite_store.specs.declared.store.FileStore.{FileStore}
use Rattle.sqlite_store.specs.Laws.{settled_at}
use Rattle.sqlite.specs.Held.{Held}
use Rattle.sqlite.specs.Closing.{IsCopied}
use Rattle.sqlite.specs.Files.{file_state, Finds, IsEmpty, HoldsDatabase, image_of}
use Rattle.sqlite.specs.Held.{AreDatabases}
use Rattle.sqlite_trees.specs.View.{IsClean}
use Rattle.sqlite_trees.proofs.Doubt.{no_doubt}
use Rattle.sqlite_pool.proofs.StateLemmas.{clean_is, may_leave_is}
use Rattle.sqlite_store.specs.FileStore.{view, recovers}
use Rattle.sqlite_store.specs.FileStore as store
use Rattle.sqlite.proofs.Theorems.{opens_again}
use Rattle.wb_sql.specs.Transactions.{LeavesAlone}
use Rattle.wb_sql.specs.Settled.{AreSettled, LeaveOnly}

module _ {D : Type 0} {g : Ghosts D} (c : Held (FileStore D g)) (files : Files D) where
  pub settled_by_close : IsCopied c files → AreSettled g files (file_state c).committed.trees
  settled_by_close copied image may = (copied.left image may).both

  pub found_by_open : SeenMayStay g → Finds files c → (db : Trees) → AreSettled g files db → (file_state c).committed.trees ≡ db
  found_by_open stays found db settled = ∥∥₁_elim (settled (image_of g files) (stays files.log, stays files.db)) (Trees-set _ _) (λ holds. found.holds db holds)

  -- an opening finds one of the databases that a crash leaves
  pub found_left : SeenMayStay g → Finds files c → (Allowed : Trees → Type 0) → LeaveOnly g files Allowed → ∥ Allowed (file_state c).committed.trees ∥₁
  found_left stays found Allowed leave =
      ∥∥₁_map (leave (image_of g files) (stays files.log, stays files.db)) (λ one. subst Allowed (sym (found.holds one.0 one.2)) one.1)

  -- an opening finds an empty database where the database file is empty
  pub found_new : Finds files c → g.seen files.db ≡ [] → IsEmpty (file_state c).committed.trees
  found_new found none = elim found.reads [
    | inl read ↦ (let at = ap length none in absurd (omega (arith, at, read.3.found.present)))
    | inr nothing ↦ nothing.1
  ]

  pub settled_alone : SeenMayStay g → IsTrue (file_state c).is_open → LeavesAlone (file_state c) (file_state c).committed.trees
  settled_alone stays is_open db may = settled_at c.store stays db is_open may

-- a store is clean whose files are clean
pub clean_by : {D : Type 0} {g : Ghosts D} (it : FileStore D g) (files : Files D) → (files.log, files.db) ≡ store.files it → AreClean g files.log files.db → IsClean (view it)
clean_by {D} {g} it files same clean = no_doubt (view it).is_clean (clean_is it.pool ∙ subst (λ (p : D × D). AreClean g p.0 p.1) same clean)

-- the files of a store leave what the store could leave
pub left_by : {D : Type 0} {g : Ghosts D} (it : FileStore D g) (files : Files D) (P : Trees → Type 0) → (files.log, files.db) ≡ store.files it
    → (IsClean (view it) → IsTrue (view it).is_numbered) → (IsClean (view it) → AreDatabases (recovers it)) → ((db : Trees) → recovers it db → P db)
    → AreClean g files.log files.db → LeaveOnly g files P
left_by {D} {g} it files P same numbered sound fewer clean image may =
    let own : AreClean g (store.files it).0 (store.files it).1 = subst (λ (p : D × D). AreClean g p.0 p.1) same clean in
    let left : outcomes g (store.files it).0 (store.files it).1 image = subst (λ (p : D × D). outcomes g p.0 p.1 image) same may in
    let sure = clean_by it files same clean in
    ∥∥₁_map (opens_again it (numbered sure) (sound sure) image (may_leave_is it.pool image own left)) (λ found.
    let r : (db : Trees) × P db × HoldsDatabase image db = (found.0, fewer found.0 found.1, found.2) in r)
