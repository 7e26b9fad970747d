-- What files hold that an opening or a closing which failed handed back.
use Rattle.std.proofs.Common.{◌≡◌, ◌⊎◌, ◌≤◌, ℕ, ◌%◌, false, inl, inr, IsTrue, arith, eq-eqb, ne_eqb, refl, sym, subst, ◌∙◌}
use Rattle.std.proofs.Math.Logic.{∥∥₁_elim, ∥∥₁_map}
use Rattle.std.proofs.lemmas.Bool.{cases_Bool, cases_eq}
use Rattle.sqlite_disk.specs.declared.Disk.{Ghosts}
use Rattle.sqlite_disk.specs.declared.Files.{Files}
use Rattle.sqlite_wal.specs.Reads.{AreClean}
use Rattle.sqlite_wal.specs.Recovery.{IsIgnored, Recovers}
use Rattle.sqlite_wal.proofs.LogLemmas.{SeenMayStay}
use Rattle.sqlite_pool.specs.Stored.{StandsAs, is_summed, reserved, stored_size}
use Rattle.sqlite_pool.proofs.ProbeLemmas.{reserved_word, size_by_file, size_by_log}
use Rattle.sqlite_pool.proofs.StateLemmas.{clean_is, may_leave_is}
use Rattle.sqlite_store.specs.Unopened.{files_of, state_of}
use Rattle.sqlite_store.specs.declared.store.FileStore.{FileStore}
use Rattle.sqlite_store.specs.declared.store.open.Unopened.{Unopened}
use Rattle.sqlite_store.specs.FileStore.{recovers, state, view}
use Rattle.sqlite_store.specs.FileStore as store
use Rattle.sqlite_catalog.specs.Listing.{IsSound}
use Rattle.sqlite.specs.Closing.{files_left}
use Rattle.sqlite.specs.declared.file.Leftover.{Leftover}
use Rattle.sqlite.specs.declared.file.Leftover.TheVariants as left
use Rattle.sqlite.specs.Files.{HoldsDatabase, IsCleanLeft, LeavesFiles, NamesSize, SaysSums, image_of}
use Rattle.sqlite.specs.Held.{AreDatabases}
use Rattle.sqlite.specs.Recovery.{Image}
use Rattle.sqlite.specs.Tree.{Trees}
use Rattle.sqlite.specs.WalFiles.{outcomes}
use Rattle.sqlite.proofs.FileLemmas.{is_something}
use Rattle.sqlite.proofs.Theorems.{opens_again}
use Rattle.wb_sql.specs.HandedBack.{IsMistaken, KeepDatabase}
use Rattle.wb_sql.specs.Settled.{LeaveOnly}

-- ---- the size of the pages of a database is the one that its files name

module _ (image : Image) (db : Trees) (held : HoldsDatabase image db) (size : ℕ) (named : NamesSize image (stored_size size)) where
  large : 504 ≤ held.0
  large = let few : reserved held.0 ≤ 8 = grind arith in omega (arith, held.1.0)

  same_stored : stored_size held.0 ≡ stored_size size
  same_stored = elim (cases_eq (stored_size held.0) (stored_size size)) [
    | inl same ↦ same
    | inr other ↦
        let unread : ¬ (¬ IsIgnored image.log) = λ read. other (sym (size_by_log held.0 image held.2.pages held.2.found read) ∙ sym (named.0 read)) in
        absurd (unread (λ ignored. other (sym (size_by_file held.0 image held.2.pages held.2.found large held.2.ours.file.sound ignored) ∙ sym (named.1 ignored))))
  ]

  same_size : (IsTrue (is_summed size) → SaysSums (stored_size size) image) → ¬ ((is_summed size ≡ false) × IsTrue (is_summed held.0)) → held.0 ≡ size
  same_size says sure = elim (cases_eq (held.0 % 16) 8) [
    | inl on ↦ elim (cases_eq (size % 16) 8) [
      | inl both ↦ let r : reserved held.0 ≡ 8 = rw (eq-eqb _ 8 on) refl in let s : reserved size ≡ 8 = rw (eq-eqb _ 8 both) refl in omega (arith, same_stored)
      | inr off ↦ absurd (sure (rw (ne_eqb _ 8 off) refl, rw (eq-eqb _ 8 on) refl))
    ]
    | inr off ↦ elim (cases_eq (size % 16) 8) [
      | inl on ↦
          let first = reserved_word held.0 image held.2.pages held.2.found large held.2.ours.file.sound in
          let word = says (rw (eq-eqb _ 8 on) refl) held.2.found.stored first.0 (subst (λ n. Recovers n image held.2.found.stored) same_stored held.2.found.found) first.1 (first.2 ∙ same_stored) in
          let none : reserved held.0 ≡ 0 = rw (ne_eqb _ 8 off) refl in
          absurd (omega (arith, word, first.3))
      | inr both ↦ let r : reserved held.0 ≡ 0 = rw (ne_eqb _ 8 off) refl in let s : reserved size ≡ 0 = rw (ne_eqb _ 8 both) refl in omega (arith, same_stored)
    ]
  ]

-- a database is held by what stands for the files that held it
holds_on : (image new : Image) (db : Trees) (held : HoldsDatabase image db) (size : ℕ) → held.0 ≡ size → StandsAs size image new → HoldsDatabase new db
holds_on image new db held size same stands =
    let own = subst (λ n. StandsAs n image new) (sym same) stands in (
      held.0,
      held.1,
      record {
        pages = held.2.pages;
        wanted = held.2.wanted;
        schema = held.2.schema;
        found = own.1 held.2.pages held.2.found;
        ours = held.2.ours;
        reads = held.2.reads;
        sound = held.2.sound;
      },
    )

-- ---- what is left by an opening that failed

module _ {D : Type 0} {g : Ghosts D} (files : Files D) (image : Image) where
  left_unopened : (it : Unopened D g) → LeavesFiles files (left.Unopened it) → ¬ IsMistaken files (left.Unopened it) → (state_of it).may_leave image
      → outcomes g files.log files.db image ⊎ ((db : Trees) → HoldsDatabase (image_of g files) db → ∥ HoldsDatabase image db ∥₁)
  left_unopened it leaves sure may = elim leaves [
    | inl nothing ↦ inr (λ db held. absurd (is_something (image_of g files) db held nothing.0))
    | inr kept ↦ elim (kept.4 image may).same [
      | inl was ↦ inl was
      | inr stands ↦ inr (λ db held.
          let same = same_size (image_of g files) db held (state_of it).page_size kept.1 kept.3 (λ both. sure (both.0, ∣ (db, held, both.1) ∣₁)) in
          ∣ holds_on (image_of g files) image db held (state_of it).page_size same stands ∣₁)
    ]
  ]

  left_store : (it : FileStore D g) → LeavesFiles files (left.Store it) → IsTrue (view it).is_numbered → (state it).may_leave image
      → (db : Trees) → HoldsDatabase (image_of g files) db → ∥ HoldsDatabase image db ∥₁
  left_store it leaves numbered may db held =
      let sound : AreDatabases (recovers it) = λ other found. (held.2.schema, subst (IsSound held.2.schema) (sym ((leaves other found).1 db held)) held.2.sound) in
      ∥∥₁_map (opens_again it numbered sound image may) (λ found. subst (HoldsDatabase image) ((leaves found.0 found.1).1 db held) found.2)

-- files that are handed back are clean only if what the opening left is
pub clean_left : {D : Type 0} {g : Ghosts D} (rest : Leftover D g) (back : Files D) → (back.log, back.db) ≡ files_left rest → AreClean g back.log back.db → IsCleanLeft rest
clean_left {D} {g} (left.Files now) back same clean = subst (λ (p : D × D). AreClean g p.0 p.1) same clean
clean_left {D} {g} (left.Unopened it) back same clean = clean_is it.pool ∙ subst (λ (p : D × D). AreClean g p.0 p.1) same clean
clean_left {D} {g} (left.Store it) back same clean = clean_is it.pool ∙ subst (λ (p : D × D). AreClean g p.0 p.1) same clean

-- files that are handed back keep the database of the files
pub keep_database : {D : Type 0} {g : Ghosts D} (files back : Files D) (rest : Leftover D g) → (back.log, back.db) ≡ files_left rest → (IsCleanLeft rest → LeavesFiles files rest)
    → AreClean g back.log back.db → ¬ IsMistaken files rest → KeepDatabase g files back
keep_database {D} {g} files back (left.Files now) same leaves clean sure image may =
    inl (leaves (clean_left {g = g} (left.Files now) back same clean) image (subst (λ (p : D × D). outcomes g p.0 p.1 image) same may))
keep_database {D} {g} files back (left.Unopened it) same leaves clean sure image may =
    let own : AreClean g (files_of it).0 (files_of it).1 = subst (λ (p : D × D). AreClean g p.0 p.1) same clean in
    let taken : outcomes g (files_of it).0 (files_of it).1 image = subst (λ (p : D × D). outcomes g p.0 p.1 image) same may in
    left_unopened files image it (leaves (clean_left {g = g} (left.Unopened it) back same clean)) sure (may_leave_is it.pool image own taken)
keep_database {D} {g} files back (left.Store it) same leaves clean sure image may =
    let own : AreClean g (store.files it).0 (store.files it).1 = subst (λ (p : D × D). AreClean g p.0 p.1) same clean in
    let taken : outcomes g (store.files it).0 (store.files it).1 image = subst (λ (p : D × D). outcomes g p.0 p.1 image) same may in
    elim (cases_Bool (view it).is_numbered) [
      | inl numbered ↦ inr (left_store files image it (leaves (clean_left {g = g} (left.Store it) back same clean)) numbered (may_leave_is it.pool image own taken))
      | inr not_so ↦ absurd (sure not_so)
    ]

-- what keeps the database of files leaves only what they left
pub kept_allowed : {D : Type 0} (g : Ghosts D) → SeenMayStay g → (files back : Files D) → KeepDatabase g files back → (Allowed : Trees → Type 0) → LeaveOnly g files Allowed → LeaveOnly g back Allowed
kept_allowed g stays files back keep Allowed leave image may = elim (keep image may) [
  | inl was ↦ leave image was
  | inr holds ↦ ∥∥₁_elim (leave (image_of g files) (stays files.log, stays files.db)) squash₁ (λ held.
      ∥∥₁_map (holds held.0 held.2) (λ here. let r : (db : Trees) × Allowed db × HoldsDatabase image db = (held.0, held.1, here) in r))
]
