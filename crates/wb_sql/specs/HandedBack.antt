-- What an opening or a closing of files that fails hands back: the files, with what they held.
use Rattle.std.specs.Prelude.{◌≡◌, ◌⊎◌, false, IsTrue}
use Rattle.sqlite_disk.specs.declared.Disk.{Ghosts}
use Rattle.sqlite_disk.specs.declared.Files.{Files}
use Rattle.sqlite_pool.specs.Stored.{is_summed}
use Rattle.sqlite_store.specs.Unopened.{state_of}
use Rattle.sqlite_store.specs.declared.store.FileStore.{FileStore}
use Rattle.sqlite_store.specs.FileStore.{view}
use Rattle.sqlite_store.specs.FileStore as store
use Rattle.sqlite_trees.specs.View.{IsClean}
use Rattle.sqlite.specs.Closing.{files_left}
use Rattle.sqlite.specs.declared.error.Error.{Error}
use Rattle.sqlite.specs.declared.file.Leftover.{Leftover}
use Rattle.sqlite.specs.declared.file.Leftover.TheVariants as left
use Rattle.sqlite.specs.Files.{FailsToClose, FailsToOpenFiles, HoldsDatabase, IsCleanLeft, IsClosed, LeavesFiles, file_state, image_of}
use Rattle.sqlite.specs.Held.{Held}
use Rattle.sqlite.specs.Recovery.{Image}
use Rattle.sqlite.specs.Tree.{Trees}
use Rattle.sqlite.specs.WalFiles.{outcomes}
use Rattle.sqlite.specs.WalReads.{AreClean}
use Rattle.wb_sql.specs.Settled.{LeaveOnly}

-- the two files hold a database whose pages end in sums
abbrev pub HoldsSummed : Image → Type 0
HoldsSummed image = ∥ ((db : Trees) × (held : HoldsDatabase image db) × IsTrue (is_summed held.0)) ∥₁

module _ {D : Type 0} {g : Ghosts D} where
  -- an opening that failed took pages with sums for pages without, or left a store whose tables are not numbered: the contracts of `sqlite` do not rule it out
  abbrev pub IsMistaken : Files D → Leftover D g → Type 0
  IsMistaken files (left.Files now) = ⊥
  IsMistaken files (left.Unopened now) = (is_summed (state_of now).page_size ≡ false) × HoldsSummed (image_of g files)
  IsMistaken files (left.Store now) = (view now).is_numbered ≡ false

-- each content that a crash leaves of the files that were handed back is one that it could leave before, or holds the database that the files held
abbrev pub KeepDatabase : {D : Type 0} → Ghosts D → Files D → Files D → Type 0
KeepDatabase g files back = (image : Image) → outcomes g back.log back.db image
    → outcomes g files.log files.db image ⊎ ((db : Trees) → HoldsDatabase (image_of g files) db → ∥ HoldsDatabase image db ∥₁)

-- files were not opened because of this error, and were handed back as they were left: unless the opening was mistaken, they keep their database; if they held none, they hold
-- none still, or an empty one
pub record IsUnopened {D : Type 0} (g : Ghosts D) (files : Files D) (error : Error) (back : Files D) : Type 0 where
  pub rest : Leftover D g
  pub given : (back.log, back.db) ≡ files_left rest
  pub clean : AreClean g back.log back.db → IsCleanLeft rest
  pub cause : IsCleanLeft rest → FailsToOpenFiles files rest error
  pub unharmed : IsCleanLeft rest → LeavesFiles files rest
  pub kept : AreClean g back.log back.db → ¬ IsMistaken files rest → KeepDatabase g files back

-- a connection was not closed because of this error, and its files were handed back: a crash of them finds what it could find of the connection, if the tables are
-- numbered still, as the contracts of `sqlite` do not say of a disk that failed
pub record IsUnclosed {D : Type 0} {g : Ghosts D} (conn : Held (FileStore D g)) (error : Error) (back : Files D) : Type 0 where
  pub last : FileStore D g
  pub given : (back.log, back.db) ≡ store.files last
  pub closed : IsClosed conn last
  pub cause : IsClean (view last) → FailsToClose conn last error
  pub kept : AreClean g back.log back.db → IsTrue (view last).is_numbered → LeaveOnly g back (file_state conn).may_leave
