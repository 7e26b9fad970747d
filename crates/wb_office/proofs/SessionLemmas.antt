-- What a life of an office leaves of its files, and how it is led from what they held.
use Rattle.std.proofs.Common.{◌≡◌, ◌⊎◌, ℕ, inl, inr, false, List, [], ◌++◌, Option, None, Some, Result, Ok, Err, IfErr}
use Rattle.std.proofs.Common.{IfOk, IfSome, IsTrue, refl, sym, ap, subst, ◌∙◌}
use Rattle.std.proofs.Math.Logic.{∥∥₁_elim, ∥∥₁_map}
use Rattle.std.proofs.lemmas.Bool.{both_ways}
use Rattle.std.proofs.lemmas.Grind.{fold-append}
use Rattle.sqlite_disk.specs.declared.Disk.{Ghosts}
use Rattle.sqlite_disk.specs.declared.Files.{Files}
use Rattle.sqlite_store.specs.declared.store.FileStore.{FileStore}
use Rattle.sqlite_store.specs.FileStore.{view}
use Rattle.sqlite_wal.specs.Reads.{AreClean}
use Rattle.wb_sql.specs.Settled.{LeaveOnly}
use Rattle.wb_states.specs.declared.command.Command.{Command}
use Rattle.wb_states.specs.declared.store_fault.StoreFault.{StoreFault}
use Rattle.wb_states.specs.Machine.{Machine, empty_office}
use Rattle.wb_step.specs.Replay.{replay}
use Rattle.wb_step.specs.Step.{step}
use Rattle.wb_store.specs.Settled.{AreSettledAt, StandsForTrees}
use Rattle.sqlite.specs.Files.{HoldsDatabase, file_state, over_files}
use Rattle.sqlite.specs.Held.{Held}
use Rattle.sqlite.specs.State.{HasCleanDisk, Survives}
use Rattle.wb_sql.specs.Among.{HasOffice}
use Rattle.wb_rows.specs.declared.cell.TableRow.{TableRow}
use Rattle.wb_store.specs.TableRows.{FailsToShowOne}
use Rattle.sqlite.specs.Tree.{Trees}
use Rattle.std.specs.Result.{result_ok}
use Rattle.wb_store.specs.declared.refused.RefusedFiles.{RefusedFiles}
use Rattle.wb_store.specs.Files.{AreNew, AreUnclosed, LeaveOffice}
use Rattle.wb_store.specs.Preparing.{HoldOffice}
use Rattle.wb_store.proofs.FileLemmas.{leave_wider}
use Rattle.wb_store.proofs.StaysLemmas.{no_more}
use Rattle.wb_office.specs.declared.office.Office.{Office}
use Rattle.wb_office.proofs.LifeLemmas.{stands_wider}
use Rattle.wb_office.proofs.AskedLemmas.{asked_whole}
use Rattle.wb_office.specs.Asked.{AreAsked, IsLedThrough}
use Rattle.wb_office.specs.Lives.{Outcome, LeavesStanding, never_fails}
use Rattle.wb_office.specs.Files.{AreClosedFiles, AreOf, Ends, GivesUp, HasFailedWith, HoldOne, IsEither}
use Rattle.wb_office.specs.Files.{IsFaultOfLife, IsFound, IsGivenUp, IsLeftByLife, IsLife, IsOpenOver, IsSureLife}
use Rattle.wb_office.specs.Files.{IsUnshown, LeavesLife, LivesFound, LivesOn, IsSession}
use Rattle.wb_office.specs.Offices.{HasCleanFiles, HasLeftOne, IsAt}

module _ {D : Type 0} (g : Ghosts D) where
  -- what stands without a fault stands whatever faults are allowed
  never_stands : (machine : Machine) (commands : List Command) (outcomes : List Outcome) (standing : List Command) → LeavesStanding never_fails machine commands outcomes standing
      → LeavesStanding (HasFailedWith g (replay machine standing) (replay machine standing)) machine commands outcomes standing
  never_stands machine commands outcomes standing =
      stands_wider never_fails (HasFailedWith g (replay machine standing) (replay machine standing)) (λ fault none. absurd none) machine commands outcomes standing

  -- what stands with the faults of one office stands with those of some
  office_stands : (office : Office (FileStore D g)) (before after machine : Machine) (commands : List Command) (outcomes : List Outcome) (standing : List Command)
      → LeavesStanding (HasLeftOne office before after) machine commands outcomes standing → LeavesStanding (HasFailedWith g before after) machine commands outcomes standing
  office_stands office before after = stands_wider (HasLeftOne office before after) (HasFailedWith g before after) (λ fault failed. (office, failed))

-- commands, one list after another
pub replay_append : (machine : Machine) (first later : List Command) → replay machine (first ++ later) ≡ replay (replay machine first) later
replay_append machine first later = fold-append (λ m command. (step m command).1) machine first later

module _ {D : Type 0} (g : Ghosts D) (files : Files D) where
  pub left_alone : {machine : Machine} → LeaveOnly g files (StandsForTrees machine) → LeaveOffice g files machine machine
  left_alone {machine = machine} leave = leave_wider g files {Wider = λ db. HoldOffice machine db ⊎ HoldOffice machine db} (λ db stands. inl (inl stands)) leave

  pub left_either : {before after : Machine} → LeaveOnly g files (λ db. StandsForTrees before db ⊎ StandsForTrees after db) → LeaveOffice g files before after
  left_either {before = before} {after = after} leave =
      leave_wider g files {Wider = λ db. HoldOffice before db ⊎ HoldOffice after db} (λ db either. elim either [ inl stands ↦ inl (inl stands) | inr stands ↦ inr (inl stands) ]) leave

  -- the commands that stand after a life, with and without the one in doubt, and what the files hold
  pub holds_after : (office : Office (FileStore D g)) → AreOf g office files → AreClean g files.log files.db → (machine : Machine) (commands : List Command) (outcomes : List Outcome)
      → Ends g office commands outcomes machine
      → (kept left : List Command) × LeavesStanding (HasFailedWith g (replay machine kept) (replay machine left)) machine commands outcomes kept
      × LeavesStanding (HasFailedWith g (replay machine kept) (replay machine left)) machine commands outcomes left × LeaveOffice g files (replay machine kept) (replay machine left)
  holds_after office are clean machine commands outcomes (inl ended) =
      let stands = never_stands g machine commands outcomes ended.0 ended.1 in (ended.0, ended.0, stands, stands, left_alone (are.stands clean (replay machine ended.0) ended.2))
  holds_after office are clean machine commands outcomes (inr ended) =
      let wider = office_stands g office (replay machine ended.0) (replay machine ended.1) machine commands outcomes in
      (ended.0, ended.1, wider ended.0 ended.2, wider ended.1 ended.3, left_either (are.either clean (replay machine ended.0) (replay machine ended.1) ended.4.1.0))

  -- the same of the files of an office whose closing failed
  pub unclosed_after : (office : Office (FileStore D g)) (fault : StoreFault) (machine : Machine) (commands : List Command) (outcomes : List Outcome) → Ends g office commands outcomes machine
      → (kept left : List Command) × LeavesStanding (HasFailedWith g (replay machine kept) (replay machine left)) machine commands outcomes kept
      × LeavesStanding (HasFailedWith g (replay machine kept) (replay machine left)) machine commands outcomes left
      × ((why : (office.is_closed ≡ false) × AreUnclosed office.store fault files) → IsTrue (view why.1.unclosed.last).is_numbered → AreClean g files.log files.db
      → LeaveOffice g files (replay machine kept) (replay machine left))
  unclosed_after office fault machine commands outcomes (inl ended) =
      let stands = never_stands g machine commands outcomes ended.0 ended.1 in (
        ended.0,
        ended.0,
        stands,
        stands,
        λ why numbered clean. left_alone (leave_wider g files {Wider = StandsForTrees (replay machine ended.0)} (λ db may. ended.2.back.left db may) (why.1.unclosed.kept clean numbered)),
      )
  unclosed_after office fault machine commands outcomes (inr ended) =
      let wider = office_stands g office (replay machine ended.0) (replay machine ended.1) machine commands outcomes in
      (ended.0, ended.1, wider ended.0 ended.2, wider ended.1 ended.3, λ why numbered clean. absurd (both_ways office.is_closed why.0 ended.4.1.0.closed))

  left_by_ends : (office : Office (FileStore D g)) → AreOf g office files → AreClean g files.log files.db → (machine : Machine) {commands : List Command} {outcomes : List Outcome}
      → Ends g office commands outcomes machine → IsLeftByLife g machine machine commands outcomes files
  left_by_ends office are clean machine {commands} {outcomes} ended =
      let after = holds_after office are clean machine commands outcomes ended in
      record { began = machine; which = inl refl; first = after.0; second = after.1; first_stands = after.2; second_stands = after.3; left = after.4 }

  -- at which of two states an office was opened over files
  pub opened_at_one : {X : Type 0} (stands_at : X → Machine → Type 0) (office : X) → ((one other : Machine) → LeaveOffice g files one other → ∥ (stands_at office one ⊎ stands_at office other) ∥₁)
      → (AreNew g files → stands_at office empty_office) → (one other : Machine) → HoldOne g files one other → ∥ (stands_at office one ⊎ stands_at office other) ∥₁
  opened_at_one stands_at office left new one other (inl leave) = left one other leave
  opened_at_one stands_at office left new one other (inr is) = ∣ inl (subst (stands_at office) (sym is.0) (new is.1)) ∣₁

-- files that are settled at a state leave only that
settled_alone : {D : Type 0} (g : Ghosts D) (files : Files D) (machine : Machine) → AreSettledAt g files machine → LeaveOnly g files (StandsForTrees machine)
settled_alone g files machine is image may = ∥∥₁_map (is.2 image may) (λ holds. let r : (db : Trees) × StandsForTrees machine db × HoldsDatabase image db = (is.0, is.1, holds) in r)

-- what a closing gave back
pub given_back : {D : Type 0} (g : Ghosts D) (office : Office (FileStore D g)) (r : Result (Files D) (RefusedFiles D)) → office.is_closed ≡ false
    → IfOk r (λ files. AreClean g files.log files.db → (machine : Machine) → IsAt office machine → AreSettledAt g files machine)
    → IfOk r (AreClosedFiles g office)
    → IfOk r (λ files. AreClean g files.log files.db → HasCleanFiles office) → IfErr r (λ refused. AreUnclosed office.store refused.fault refused.files) → GivesUp g office r
given_back g office (Ok files) opened settled either clean err = record {
  files = record {
    clean = clean;
    stands = λ is machine at. settled_alone g files machine (settled is machine at);
    either = λ is before after one. elim (either is before after one.left) [
      | inl at ↦ leave_wider g files {Wider = λ db. StandsForTrees before db ⊎ StandsForTrees after db} (λ db stands. inl stands) (settled_alone g files before at)
      | inr at ↦ leave_wider g files {Wider = λ db. StandsForTrees before db ⊎ StandsForTrees after db} (λ db stands. inr stands) (settled_alone g files after at)
    ];
  };
  closed = λ was. either;
  unclosed = tt;
}
given_back g office (Err refused) opened settled either clean err = record { files = tt; closed = λ was. tt; unclosed = (opened, err) }

-- the files that were given back, if they were
files_of_given : {D E : Type 0} (P : Files D → Type 0) (r : Result (Files D) E) (left : Option (Files D)) → left ≡ result_ok r → IfOk r P → IfSome left P
files_of_given P (Ok files) left is so = subst (λ l. IfSome l P) (sym is) so
files_of_given P (Err e) left is so = subst (λ l. IfSome l P) (sym is) tt

-- what is so of the state, of two, at which an office was opened
pub of_either : {P Q : Machine → Type 0} {one other : Machine} → ((machine : Machine) → P machine → Q machine) → IsEither P one other → IsEither Q one other
of_either {P} {Q} {one} {other} so found = ∥∥₁_map found (λ which. let r : Q one ⊎ Q other = elim which [ inl at ↦ inl (so one at) | inr at ↦ inr (so other at) ] in r)

module _ {D : Type 0} (g : Ghosts D) where
  -- an office that was opened over the files
  pub open_over : (files : Files D) (office : Office (FileStore D g)) → office.is_closed ≡ false
      → office.store.step_limit ≡ None
      → (HasCleanFiles office → AreClean g files.log files.db)
      → (HasCleanFiles office → (one other : Machine) → LeaveOffice g files one other → IsEither (IsAt office) one other)
      → (HasCleanFiles office → AreNew g files → IsAt office empty_office) → IsOpenOver g files office
  open_over files office opened unlimited clean left new = record {
    opened = opened;
    unlimited = unlimited;
    clean = clean;
    stands = λ is. opened_at_one g files IsAt office (left is) (new is);
  }

  -- the rows of an office were not shown, and it was given up
  pub given_up_of : (office : Office (FileStore D g)) (ended : Held (FileStore D g)) {fault : StoreFault} {left : Files D} → office.is_closed ≡ false
      → (HasCleanDisk (file_state ended) → HasCleanFiles office)
      → (HasCleanDisk (file_state ended) → HasOffice office.store.schema → FailsToShowOne over_files office.store ended fault)
      → Survives (file_state office.store) (file_state ended) (λ _. ¬ HasOffice office.store.schema)
      → (AreClean g left.log left.db → HasCleanDisk (file_state ended)) → (AreClean g left.log left.db → LeaveOnly g left (file_state ended).may_leave) → IsGivenUp g office fault left
  given_up_of office ended {left = left} opened was_clean fails survives given leave = record {
    ended = ended;
    clean = was_clean;
    fails = λ is machine at. fails is (at.back.settled (at.is_open opened)).holds.stands.has;
    given = given;
    stands = λ clean machine at.
        let has = (at.back.settled (at.is_open opened)).holds.stands.has in
        leave_wider g left {Wider = StandsForTrees machine} (λ db may. at.back.left db (no_more over_files office.store ended survives has (given clean) db may)) (leave clean);
  }

  -- it had been opened over files
  pub unshown : {files : Files D} (office : Office (FileStore D g)) {fault : StoreFault} {left : Files D} → IsOpenOver g files office → IsGivenUp g office fault left → IsUnshown g files fault left
  unshown office {left = left} over given = record {
    office = office;
    over = over;
    given_up = given;
    kept = λ clean one other hold image may. ∥∥₁_elim (over.stands (given.clean (given.given clean)) one other hold) squash₁ (λ which. elim which [
      | inl at ↦ leave_wider g left {Wider = λ db. HoldOffice one db ⊎ HoldOffice other db} (λ db stands. inl (inl stands)) (given.stands clean one at) image may
      | inr at ↦ leave_wider g left {Wider = λ db. HoldOffice one db ⊎ HoldOffice other db} (λ db stands. inr (inl stands)) (given.stands clean other at) image may
    ]);
  }

  -- the files of a life that was refused keep the office
  pub life_keeps : (files : Files D) (fault : StoreFault) (left : Files D) (why : IsFaultOfLife g files fault left) → IsSureLife g files fault left why → AreClean g left.log left.db
      → (one other : Machine) → LeaveOffice g files one other → LeaveOffice g left one other
  life_keeps files fault left (inl memory) sure clean one other leave = subst (λ f. LeaveOffice g f one other) (sym memory.1) leave
  life_keeps files fault left (inr (inl (inl unopened))) sure clean one other leave = unopened.kept clean sure one other leave
  life_keeps files fault left (inr (inl (inr over))) sure clean one other leave = over.kept clean one other leave
  life_keeps files fault left (inr (inr unshown)) sure clean one other leave = unshown.kept clean one other (inl leave)

  -- a session, from the opening of its files on
  pub session_of : {files : Files D} {opened : Office (FileStore D g)} {commands : List Command} {outcomes : List Outcome} {all : Result (Files D) (RefusedFiles D)} {left : Option (Files D)} → IsOpenOver g files opened
      → LivesOn g opened commands outcomes all → left ≡ result_ok all → IsSession g files commands outcomes left
  session_of {opened = opened} {all = all} over lives is = record {
    opened = opened;
    office = lives.office;
    over = over;
    asked = lives.asked;
    clean = λ is. over.clean (lives.clean is);
    ends = λ is one other hold. of_either (lives.ends is) (over.stands (lives.clean is) one other hold);
    all = all;
    given = lives.gives;
    left_is = is;
  }

  -- a life, from the opening of its files on, after which the rows were shown
  pub life_of : {files : Files D} {opened : Office (FileStore D g)} {commands : List Command} {accepted : ℕ} {rows : List TableRow} {outcomes : List Outcome} {given : Result (Files D) (RefusedFiles D)}
      → IsOpenOver g files opened → LivesFound g opened commands accepted rows outcomes given → IsLife g files commands accepted rows outcomes given
  life_of {opened = opened} {commands = commands} {accepted = accepted} {rows = rows} {outcomes = outcomes} over found = record {
    opened = found.shown;
    office = found.lives.office;
    over = record {
      opened = found.still ∙ over.opened;
      unlimited = found.limit ∙ over.unlimited;
      clean = λ is. over.clean (found.clean is);
      stands = λ is one other hold. of_either {P = IsAt opened} {Q = IsAt found.shown} (λ machine at. (found.rows_are is machine at).1) (over.stands (found.clean is) one other hold);
    };
    asked = found.lives.asked;
    clean = λ is. over.clean (found.clean (found.lives.clean is));
    ends = λ is one other hold.
        let clean = found.lives.clean is in
        of_either {P = IsAt opened} {Q = λ machine. IsFound machine accepted rows × Ends g found.lives.office commands outcomes machine} (λ machine at.
        let seen = found.rows_are clean machine at in
        (record { consistent = at.consistent; count = found.count machine (found.clean clean) at; rows_are = seen.0 }, found.lives.ends is machine seen.1))
        (over.stands (found.clean clean) one other hold);
    gives = found.lives.gives;
  }

  -- what the files that a session gave back hold
  pub left_of_session : {files : Files D} {commands : List Command} {outcomes : List Outcome} (left : Option (Files D)) → IsSession g files commands outcomes left
      → IfSome left (λ left. AreClean g left.log left.db → (one other : Machine) → HoldOne g files one other → LeavesLife g one other commands outcomes left)
  left_of_session None session = tt
  left_of_session {commands = commands} {outcomes = outcomes} (Some left) session =
      let are : AreOf g session.office left = files_of_given (AreOf g session.office) session.all (Some left) session.left_is session.given.files in
      λ clean one other hold.
      ∥∥₁_map (session.ends (are.clean clean) one other hold) (λ which.
      let r : IsLeftByLife g one other commands outcomes left = elim which [
        | inl at ↦ from_one one other (left_by_ends g left session.office are clean one at)
        | inr at ↦ from_other one other (left_by_ends g left session.office are clean other at)
      ] in r)
    where
      from_one : (one other : Machine) → IsLeftByLife g one one commands outcomes left → IsLeftByLife g one other commands outcomes left
      from_one one other is = record {
        began = is.began;
        which = elim is.which [ inl same ↦ inl same | inr same ↦ inl same ];
        first = is.first;
        second = is.second;
        first_stands = is.first_stands;
        second_stands = is.second_stands;
        left = is.left;
      }

      from_other : (one other : Machine) → IsLeftByLife g other other commands outcomes left → IsLeftByLife g one other commands outcomes left
      from_other one other is = record {
        began = is.began;
        which = elim is.which [ inl same ↦ inr same | inr same ↦ inr same ];
        first = is.first;
        second = is.second;
        first_stands = is.first_stands;
        second_stands = is.second_stands;
        left = is.left;
      }

  -- an open office was asked commands, with no outcome before, and given up
  pub lives_on : {opened ended : Office (FileStore D g)} {commands : List Command} {before all : List Outcome} {given : Result (Files D) (RefusedFiles D)} → opened.is_closed ≡ false → before ≡ []
      → IsLedThrough over_files commands before all opened ended → GivesUp g ended given → LivesOn g opened commands all given
  lives_on {opened} {ended} {commands} {before} {all} was none (told, is, asked) gives =
      let same : told ≡ all = sym (is ∙ ap (λ (b : List Outcome). b ++ told) none) in
      let all_asked = subst (λ (os : List Outcome). AreAsked over_files commands os opened ended) same asked in
      let whole = asked_whole over_files commands all opened ended was all_asked in
      record { office = ended; asked = all_asked; clean = whole.0; ends = λ clean machine at. whole.1 machine clean at; gives = gives }
