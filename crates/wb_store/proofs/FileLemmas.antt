-- An office over two files: closed and opened again, it stands for the state that it had.
use Rattle.std.proofs.Common.{◌≡◌, ◌⊎◌, inl, inr, None, Result, Ok, Err, IfOk, refl, sym, ap, subst, ◌∙◌}
use Rattle.std.proofs.Math.Logic.{∥∥₁_elim, ∥∥₁_map}
use Rattle.sqlite_disk.specs.declared.Disk.{Ghosts}
use Rattle.sqlite_disk.specs.declared.Files.{Files}
use Rattle.sqlite_wal.specs.Reads.{AreClean}
use Rattle.sqlite_wal.proofs.LogLemmas.{SeenMayStay}
use Rattle.sqlite_store.specs.declared.store.FileStore.{FileStore}
use Rattle.sqlite_store.specs.Laws.{stays_at}
use Rattle.sqlite_trees.specs.Objects.{catalog_tree}
use Rattle.sqlite_catalog.specs.Listing.{Lists}
use Rattle.sqlite_catalog.proofs.ReadLemmas.{lists_once}
use Rattle.sqlite.specs.Tree.{Trees}
use Rattle.sqlite.specs.Closing.{IsCopied}
use Rattle.sqlite.specs.Effect.{Database}
use Rattle.sqlite.specs.Held.{Held}
use Rattle.sqlite.specs.Files.{file_state, Finds, HoldsDatabase, IsOpened}
use Rattle.sqlite.specs.State.{HasCleanDisk, State}
use Rattle.sqlite.proofs.ListingLemmas.{empty_is_sound}
use Rattle.wb_sql.specs.Transactions.{LeavesAlone}
use Rattle.wb_sql.proofs.SettledLemmas.{settled_by_close, found_left, found_new}
use Rattle.wb_sql.proofs.HandedBackLemmas.{kept_allowed}
use Rattle.wb_sql.specs.HandedBack.{KeepDatabase}
use Rattle.wb_sql.specs.Settled.{AreSettled, LeaveOnly}
use Rattle.wb_sql.specs.Among.{HasOffice, LacksOffice}
use Rattle.wb_sql.proofs.GrowthLemmas.{empty_lacks}
use Rattle.wb_states.specs.declared.store_fault.StoreFault.{StoreFault}
use Rattle.wb_states.specs.Machine.{IsConsistent, Machine, empty_office}
use Rattle.wb_states.proofs.ConsistencyLemmas.{IsConsistent-empty_office}
use Rattle.wb_store.specs.Checks.{HasGoodRows, HasGoodRowsIn}
use Rattle.wb_store.specs.declared.format.Format.TheVariants.{One}
use Rattle.wb_sql.specs.Upgrading.{HasFirstOffice}
use Rattle.wb_store.specs.Settled.{AreSettledAt, StandsForTrees, IsSettled, IsBackAt, LeavesEither, IsSettledFirst, StandsForFirstTrees}
use Rattle.wb_store.proofs.OpeningSoundLemmas.{good_first_consistent, good_rows_consistent}
use Rattle.wb_store.specs.Files.{AreFoundAt, AreGivenUp, AreNew, AreRefusedOver, IsOver, KeepOffice, LeaveOffice}
use Rattle.wb_store.specs.Preparing.{AreBlank, HoldOffice, IsBlank, IsFoundAt}
use Rattle.wb_store.proofs.NumberedLemmas.{empty_schema}
use Rattle.sqlite.specs.Schema.{Schema}
use Rattle.wb_store.specs.Stands.{StandsFor, StandsForFirst}
use Rattle.wb_store.proofs.SettledLemmas.{office_trees}

module _ {D : Type 0} (g : Ghosts D) where
  -- files that hold the last commit of a settled connection hold its state
  pub files_settled : {machine : Machine} (c : Held (FileStore D g)) (files : Files D) → IsSettled machine (file_state c) → AreSettled g files (file_state c).committed.trees → AreSettledAt g files machine
  files_settled {machine = machine} c files h are =
      ((file_state c).committed.trees, subst (λ (d : Database). StandsForTrees machine d.trees) h.committed (office_trees (file_state c).now h.holds), are)

  -- a connection that was opened is settled at the state for which its database stands
  pub holds_settled : {machine : Machine} (c : Held (FileStore D g)) → StandsForTrees machine (file_state c).committed.trees → IsOpened c → LeavesAlone (file_state c) (file_state c).committed.trees → IsSettled machine (file_state c)
  holds_settled {machine = machine} c stands opened alone =
      let there : (file_state c).now.trees ≡ (file_state c).committed.trees = ap (λ (d : Database). d.trees) opened.0.clean in
      let sound = (opened.1 opened.0.is_open).0 in
      let same : (file_state c).now.schema ≡ stands.schema =
      lists_once ((file_state c).committed.trees catalog_tree) (file_state c).now.schema stands.schema (subst (λ (trees : Trees). Lists (trees catalog_tree) (file_state c).now.schema) there sound.lists) stands.sound.lists in
      let here : StandsFor machine (record { schema = stands.schema; trees = (file_state c).now.trees }) =
      subst (λ (trees : Trees). StandsFor machine (record { schema = stands.schema; trees = trees })) (sym there) stands.stands in
      record {
        is_open = opened.0.is_open;
        idle = opened.0.autocommit;
        committed = opened.0.clean;
        holds = record { sound = sound; stands = subst (λ (s : Schema). StandsFor machine (record { schema = s; trees = (file_state c).now.trees })) (sym same) here };
        alone = λ db may. alone db may ∙ sym there;
      }

  -- a connection that finds what such files hold is settled at their state
  pub found_settled : {machine : Machine} (c : Held (FileStore D g)) (files : Files D) → AreSettledAt g files machine → IsOpened c
      → ((db : Trees) → AreSettled g files db → (file_state c).committed.trees ≡ db) → LeavesAlone (file_state c) (file_state c).committed.trees → IsSettled machine (file_state c)
  found_settled {machine = machine} c files held opened found alone =
      holds_settled c (subst (StandsForTrees machine) (sym (found held.0 held.2)) held.1) opened alone

module _ {D : Type 0} (g : Ghosts D) {E : Type 0} where
  -- what `close` promises of its files, said of an office
  pub closes_settled : {machine : Machine} (c : Held (FileStore D g)) (r : Result (Files D) E) → IfOk r (λ files. AreClean g files.log files.db → AreSettled g files (file_state c).committed.trees)
      → IsSettled machine (file_state c) → IfOk r (λ files. AreClean g files.log files.db → AreSettledAt g files machine)
  closes_settled c (Ok files) h settled = λ clean. files_settled g c files settled (h clean)
  closes_settled c (Err e) h settled = tt

  -- what `open` promises of its connection, said of an office
  pub opens_settled : {machine : Machine} (files : Files D) (r : Result (Held (FileStore D g)) E) → IfOk r (λ c. HasCleanDisk (file_state c) → IsOpened c)
      → IfOk r (λ c. HasCleanDisk (file_state c) → (db : Trees) → AreSettled g files db → (file_state c).committed.trees ≡ db)
      → IfOk r (λ c. HasCleanDisk (file_state c) → LeavesAlone (file_state c) (file_state c).committed.trees)
      → AreSettledAt g files machine → IfOk r (λ c. HasCleanDisk (file_state c) → IsSettled machine (file_state c))
  opens_settled files (Ok c) opened found alone held = λ clean. found_settled g c files held (opened clean) (found clean) (alone clean)
  opens_settled files (Err e) opened found alone held = tt

-- ---- an office is opened over files, and closed

module _ {D : Type 0} (g : Ghosts D) (c : Held (FileStore D g)) (opened : IsOpened c) (alone : LeavesAlone (file_state c) (file_state c).committed.trees) where
  -- a database that lacks the office's tables
  holds_blank : AreBlank (file_state c).committed.trees → IsBlank (file_state c)
  holds_blank blank =
      let there : (file_state c).now.trees ≡ (file_state c).committed.trees = ap (λ (d : Database). d.trees) opened.0.clean in
      let sound = (opened.1 opened.0.is_open).0 in
      let same : (file_state c).now.schema ≡ blank.schema =
      lists_once ((file_state c).committed.trees catalog_tree) (file_state c).now.schema blank.schema (subst (λ (trees : Trees). Lists (trees catalog_tree) (file_state c).now.schema) there sound.lists) blank.sound.lists in
      record {
        is_open = opened.0.is_open;
        idle = opened.0.autocommit;
        committed = opened.0.clean;
        lacks = subst LacksOffice (sym same) blank.lacks;
        sound = sound;
        alone = λ other may. alone other may ∙ sym there;
      }

  -- an office of the first schema
  holds_first : {machine : Machine} → StandsForFirstTrees machine (file_state c).committed.trees → IsSettledFirst machine (file_state c)
  holds_first {machine = machine} first =
      let there : (file_state c).now.trees ≡ (file_state c).committed.trees = ap (λ (d : Database). d.trees) opened.0.clean in
      let sound = (opened.1 opened.0.is_open).0 in
      let same : (file_state c).now.schema ≡ first.schema =
      lists_once ((file_state c).committed.trees catalog_tree) (file_state c).now.schema first.schema (subst (λ (trees : Trees). Lists (trees catalog_tree) (file_state c).now.schema) there sound.lists) first.office.sound.lists in
      record {
        is_open = opened.0.is_open;
        idle = opened.0.autocommit;
        committed = opened.0.clean;
        holds = record {
          sound = sound;
          stands = subst (λ (s : Schema). StandsForFirst machine (record { schema = s; trees = (file_state c).now.trees })) (sym same)
              (subst (λ (trees : Trees). StandsForFirst machine (record { schema = first.schema; trees = trees })) (sym there) first.office.stands);
        };
        alone = λ other may. alone other may ∙ sym there;
      }

  -- the office that the database holds
  pub holds_office : {machine : Machine} → HoldOffice machine (file_state c).committed.trees → IsFoundAt machine (file_state c)
  holds_office (inl stands) = inl (holds_settled g c stands opened alone)
  holds_office (inr (inl blank)) = inr (inl (blank.0, holds_blank blank.1))
  holds_office (inr (inr first)) = inr (inr (holds_first first))

  -- what files hold is found
  pub found_over : (files : Files D) → ((db : Trees) → AreSettled g files db → (file_state c).committed.trees ≡ db) → {machine : Machine} → AreFoundAt g files machine → IsFoundAt machine (file_state c)
  found_over files found {machine = machine} (db, holds, are) = holds_office (subst (HoldOffice machine) (sym (found db are)) holds)

  -- an empty office is found in files in which no database was made
  pub found_in_new : (files : Files D) → Finds files c → AreNew g files → IsFoundAt empty_office (file_state c)
  found_in_new files finds new = inr (inl (refl, holds_blank (record { schema = empty_schema; sound = empty_is_sound (file_state c).committed.trees (found_new c files finds new).1; lacks = empty_lacks })))

  -- one of the offices is found that a crash leaves of the files
  pub found_one : (files : Files D) → SeenMayStay g → Finds files c → (one other : Machine) → LeaveOffice g files one other → ∥ (IsFoundAt one (file_state c) ⊎ IsFoundAt other (file_state c)) ∥₁
  found_one files stays finds one other leave =
      ∥∥₁_map (found_left c files stays finds (λ db. HoldOffice one db ⊎ HoldOffice other db) leave) (λ either. let r : IsFoundAt one (file_state c) ⊎ IsFoundAt other (file_state c) = elim either [
        | inl first ↦ inl (holds_office {machine = one} first)
        | inr second ↦ inr (holds_office {machine = other} second)
      ] in r)

-- an opened connection is over its files
pub is_over : {D : Type 0} (g : Ghosts D) (c : Held (FileStore D g)) (files : Files D) → (HasCleanDisk (file_state c) → IsOpened c)
    → (HasCleanDisk (file_state c) → (db : Trees) → AreSettled g files db → (file_state c).committed.trees ≡ db)
    → (HasCleanDisk (file_state c) → LeavesAlone (file_state c) (file_state c).committed.trees) → IsOver g files c
is_over g c files opened found alone clean = (opened clean, λ machine. found_over g c (opened clean) (alone clean) files (found clean))

-- files that are closed hold the state at which their office stood
pub closed_at : {D : Type 0} {g : Ghosts D} (c : Held (FileStore D g)) (files : Files D)
    → (AreClean g files.log files.db → IsCopied c files)
    → AreClean g files.log files.db → (machine : Machine) → IsBackAt machine (file_state c) → AreSettledAt g files machine
closed_at {g = g} c files copied clean machine back =
    let is = copied clean in
    files_settled g c files (back.settled is.was_open) (settled_by_close c files is)

-- files that are closed after a commit in doubt hold the state before it or the state after it
pub closed_at_one : {D : Type 0} {g : Ghosts D} (c : Held (FileStore D g)) (files : Files D) → SeenMayStay g
    → (AreClean g files.log files.db → IsCopied c files)
    → AreClean g files.log files.db → (before after : Machine) → LeavesEither before after (file_state c) → AreSettledAt g files before ⊎ AreSettledAt g files after
closed_at_one c files stays copied clean before after left =
    let is = copied clean in
    let db = (file_state c).committed.trees in
    elim (left db (stays_at c.store stays is.was_open)) [
      | inl stands ↦ inl (db, stands, settled_by_close c files is)
      | inr stands ↦ inr (db, stands, settled_by_close c files is)
    ]

-- the state of an office that an opening found is consistent, if the rows of its tables are good
pub found_consistent : {machine : Machine} (s : State) → IsFoundAt machine s → (HasOffice s.now.schema → HasGoodRows s.now) → (HasFirstOffice s.now.schema → HasGoodRowsIn One s.now) → IsConsistent machine
found_consistent {machine = machine} s (inl settled) good first = good_rows_consistent machine s.now settled.holds.stands (good settled.holds.stands.has)
found_consistent s (inr (inl blank)) good first = subst IsConsistent (sym blank.0) IsConsistent-empty_office
found_consistent {machine = machine} s (inr (inr settled)) good first = good_first_consistent machine s.now settled.holds.stands (first settled.holds.stands.has)

-- an office that was adopted over files stands at the state that they hold
pub stands_over : {X E : Type 0} {WasClean : Type 0} {Found Held : Machine → Type 0} (IsCleanAt : X → Type 0) (Stands : Machine → X → Type 0) (r : Result X E)
    → (WasClean → (machine : Machine) → Held machine → Found machine) → IfOk r (λ x. IsCleanAt x → WasClean)
    → IfOk r (λ x. IsCleanAt x → (machine : Machine) → Found machine → Stands machine x)
    → IfOk r (λ x. IsCleanAt x → (machine : Machine) → Held machine → Stands machine x)
stands_over IsCleanAt Stands (Ok x) over was found = λ clean machine held. found clean machine (over (was clean) machine held)
stands_over IsCleanAt Stands (Err e) over was found = tt

-- an office that was adopted over files stands at one of the states that a crash leaves of them
pub stands_over_one : {X E : Type 0} {WasClean : Type 0} {Found : Machine → Type 0} {Leave : Machine → Machine → Type 0} (IsCleanAt : X → Type 0) (Stands : Machine → X → Type 0) (r : Result X E)
    → (WasClean → (one other : Machine) → Leave one other → ∥ (Found one ⊎ Found other) ∥₁) → IfOk r (λ x. IsCleanAt x → WasClean)
    → IfOk r (λ x. IsCleanAt x → (machine : Machine) → Found machine → Stands machine x)
    → IfOk r (λ x. IsCleanAt x → (one other : Machine) → Leave one other → ∥ (Stands one x ⊎ Stands other x) ∥₁)
stands_over_one IsCleanAt Stands (Ok x) over was found = λ clean one other leave.
    ∥∥₁_map (over (was clean) one other leave) (λ either. let r : Stands one x ⊎ Stands other x = elim either [
      | inl first ↦ inl (found clean one first)
      | inr second ↦ inr (found clean other second)
    ] in r)
stands_over_one IsCleanAt Stands (Err e) over was found = tt

-- an office that was adopted over new files stands at the empty office
pub stands_over_new : {X E : Type 0} {WasClean IsNew : Type 0} (Found : Machine → Type 0) (IsCleanAt : X → Type 0) (Stands : Machine → X → Type 0) (r : Result X E)
    → (WasClean → IsNew → Found empty_office) → IfOk r (λ x. IsCleanAt x → WasClean)
    → IfOk r (λ x. IsCleanAt x → (machine : Machine) → Found machine → Stands machine x)
    → IfOk r (λ x. IsCleanAt x → IsNew → Stands empty_office x)
stands_over_new Found IsCleanAt Stands (Ok x) over was found = λ clean new. found clean empty_office (over (was clean) new)
stands_over_new Found IsCleanAt Stands (Err e) over was found = tt

-- files are clean of which an office was opened whose disk is clean
pub clean_over : {X E : Type 0} {WasClean AreClean : Type 0} (IsCleanAt : X → Type 0) (r : Result X E) → (WasClean → AreClean) → IfOk r (λ x. IsCleanAt x → WasClean)
    → IfOk r (λ x. IsCleanAt x → AreClean)
clean_over IsCleanAt (Ok x) over was = λ clean. over (was clean)
clean_over IsCleanAt (Err e) over was = tt

-- files of which a crash leaves only what is allowed leave only what is allowed by a wider account
pub leave_wider : {D : Type 0} (g : Ghosts D) (files : Files D) {Allowed Wider : Trees → Type 0} → ((db : Trees) → Allowed db → Wider db)
    → LeaveOnly g files Allowed → LeaveOnly g files Wider
leave_wider g files {Wider = Wider} wider leave image may = ∥∥₁_map (leave image may) (λ found.
    let r : (db : Trees) × Wider db × HoldsDatabase image db = (found.0, wider found.0 found.1, found.2) in r)

-- files that keep their database keep the office
pub keep_office : {D : Type 0} (g : Ghosts D) → SeenMayStay g → (files back : Files D) → KeepDatabase g files back → KeepOffice g files back
keep_office g stays files back keep one other = kept_allowed g stays files back keep (λ db. HoldOffice one db ⊎ HoldOffice other db)

module _ {D : Type 0} (g : Ghosts D) {c : Held (FileStore D g)} {fault : StoreFault} {back : Files D} (given : AreGivenUp c fault back) (clean : AreClean g back.log back.db) where
  -- the disk was clean when the office was opened
  given_clean : HasCleanDisk (file_state c)
  given_clean = given.refused.was_clean (given.clean clean)

  -- files of an office that was refused hold the state that was found
  given_found : (machine : Machine) → IsFoundAt machine (file_state c) → LeaveOnly g back (HoldOffice machine)
  given_found machine found image may = ∥∥₁_map (given.left clean image may) (λ here.
      let r : (db : Trees) × HoldOffice machine db × HoldsDatabase image db = (here.0, given.refused.left (given.clean clean) machine found here.0 here.1, here.2) in r)

-- an office that was refused over files that were opened
pub refused_over : {D : Type 0} (g : Ghosts D) → SeenMayStay g → (c : Held (FileStore D g)) (files : Files D) {fault : StoreFault} {back : Files D}
    → (HasCleanDisk (file_state c) → IsOpened c) → (HasCleanDisk (file_state c) → Finds files c)
    → (HasCleanDisk (file_state c) → (db : Trees) → AreSettled g files db → (file_state c).committed.trees ≡ db)
    → (HasCleanDisk (file_state c) → LeavesAlone (file_state c) (file_state c).committed.trees) → c.step_limit ≡ None
    → AreGivenUp c fault back → AreRefusedOver g files fault back
refused_over g stays c files {back = back} opened finds found alone unlimited given = record {
  conn = c;
  opened = is_over g c files opened found alone;
  unlimited = unlimited;
  given_up = given;
  clean = λ clean. (finds (given_clean g given clean)).honest;
  kept = λ clean one other leave image may.
      let was = given_clean g given clean in
      ∥∥₁_elim (found_one g c (opened was) (alone was) files stays (finds was) one other leave) squash₁ (λ which. elim which [
        | inl at ↦ leave_wider g back {Wider = λ db. HoldOffice one db ⊎ HoldOffice other db} (λ db holds. inl holds) (given_found g given clean one at) image may
        | inr at ↦ leave_wider g back {Wider = λ db. HoldOffice one db ⊎ HoldOffice other db} (λ db holds. inr holds) (given_found g given clean other at) image may
      ]);
  new = λ clean new.
      let was = given_clean g given clean in
      leave_wider g back {Wider = λ db. HoldOffice empty_office db ⊎ HoldOffice empty_office db} (λ db holds. inl holds)
      (given_found g given clean empty_office (found_in_new g c (opened was) (alone was) files (finds was) new));
}
