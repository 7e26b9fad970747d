-- What the texts COMMIT and ROLLBACK and the empty text do, over any schema.
use Rattle.std.proofs.Common.{◌≡◌, inl, inr, ℕ, List, [], false, None, Ok, Err, Result, OnOk, OnErr, IsTrue, refl, sym, ap, subst, ◌∙◌, arith}
use Rattle.std.proofs.lemmas.Bool.{both_ways}
use Rattle.sqlite.specs.Order.{Row}
use Rattle.sqlite.specs.Tree.{Trees}
use Rattle.sqlite.specs.Schema.{Schema}
use Rattle.sqlite.specs.Command.{Command}
use Rattle.sqlite.specs.Command.TheVariants.{Commit, Rollback, Nothing}
use Rattle.sqlite_resolve.specs.declared.compiled.Compiled.{Compiled}
use Rattle.sqlite_resolve.specs.declared.error.CompileError.{CompileError}
use Rattle.sqlite_tied.specs.Compute.{everything}
use Rattle.sqlite.specs.declared.error.Error.{Error}
use Rattle.sqlite.specs.Given.{IsPlain}
use Rattle.sqlite.specs.Listing.{understood}
use Rattle.sqlite.specs.State.{State, Executes, ExecutesIn, CommitsBy, IsStatement, IsNotRun, IsUnchanged, IsRolledBack}
use Rattle.sqlite.proofs.Callers.{command_of, runs_as, unchanged_then}
use Rattle.sqlite.proofs.InsideLemmas.{fails_whole}
use Rattle.wb_sql.specs.Statements.{IsWriting}
use Rattle.wb_sql.specs.Transactions.{commit_text, rollback_text, IsKeptOrUndone, IsTakenBack, Commits}

abbrev tail_in : Result Compiled CompileError → ℕ
tail_in (Ok c) = c.tail
tail_in (Err e) = 0

abbrev names_in : Result Compiled CompileError → ℕ
names_in (Ok c) = Rattle.std.specs.Prelude.length c.names
names_in (Err e) = 1

module _ (schema : Schema) where
  commit_is : command_of (understood schema commit_text) ≡ Commit
  unfolding understood everything
  commit_is = refl

  commit_plain : IsPlain (understood schema commit_text)
  unfolding understood everything
  commit_plain = (refl, refl)

  rollback_is : command_of (understood schema rollback_text) ≡ Rollback
  unfolding understood everything
  rollback_is = refl

  rollback_plain : IsPlain (understood schema rollback_text)
  unfolding understood everything
  rollback_plain = (refl, refl)

  rollback_whole : (tail_in (understood schema rollback_text) ≡ 8) × (names_in (understood schema rollback_text) ≡ 0)
  unfolding understood everything
  rollback_whole = (refl, refl)

  empty_is : command_of (understood schema []) ≡ Nothing
  unfolding understood everything
  empty_is = refl

  empty_plain : IsPlain (understood schema [])
  unfolding understood everything
  empty_plain = (refl, refl)

-- a failure leaves all as it was, or takes the transaction back
pub kept_or_undone : (sql : List ℕ) (params : Row) (old new : State) (r : Result ℕ Error) → Executes sql params old new r → OnErr r (IsKeptOrUndone old new)
kept_or_undone sql params old new (Ok count) h = tt
kept_or_undone sql params old new (Err e) h = fails_whole old new false sql params e h

-- inside a transaction a statement that writes commits nothing
pub never_commits : (sql : List ℕ) (params : Row) (s : State) → IsTrue s.in_transaction → IsWriting s.now.schema sql → (db : Trees) → ¬ CommitsBy sql params s db
unfolding CommitsBy
never_commits sql params s inside writes db h = elim h.2 [
  | inl ends ↦ elim ends.0 [
    | inl commit ↦ absurd (let e = rw (h.1.is, commit) at writes in cc)
    | inr release ↦ absurd (let e = rw (h.1.is, release.2) at writes in cc)
  ]
  | inr outside ↦ both_ways _ outside.0 inside
]

-- what a text commits that is neither a write nor a release is what COMMIT commits
module _ (sql : List ℕ) (params : Row) (s : State) (command : Command) (is : command_of (understood s.now.schema sql) ≡ command) (plain : IsPlain (understood s.now.schema sql)) where
  command_is : (c : Compiled) → IsStatement s sql params c → (c.command ≡ command) × (c.returning ≡ None)
  command_is c it = (ap command_of (sym it.is) ∙ is, (subst IsPlain it.is plain).0)

commits_now : (params : Row) (s : State) (db : Trees) → CommitsBy commit_text params s db → db ≡ s.now.trees
unfolding CommitsBy
commits_now params s db h =
    let it = command_is commit_text params s Commit (commit_is s.now.schema) (commit_plain s.now.schema) h.0 h.1 in
    elim (rw (it.0, it.1) at h.2) [ inl ends ↦ ends.1 | inr writes ↦ absurd (let e = writes.3 in cc) ]

pub commits_as : (s : State) (db : Trees) → CommitsBy commit_text [] s db → db ≡ s.now.trees
commits_as = commits_now []

pub rollback_commits_nothing : (params : Row) (s : State) (db : Trees) → ¬ CommitsBy rollback_text params s db
unfolding CommitsBy
rollback_commits_nothing params s db h =
    let it = command_is rollback_text params s Rollback (rollback_is s.now.schema) (rollback_plain s.now.schema) h.0 h.1 in
    elim (rw (it.0, it.1) at h.2) [ inl ends ↦ elim ends.0 [ inl commit ↦ absurd (cc) | inr release ↦ absurd (let e = release.2 in cc) ] | inr writes ↦ absurd (let e = writes.3 in cc) ]

pub empty_commits_nothing : (params : Row) (s : State) (db : Trees) → ¬ CommitsBy [] params s db
unfolding CommitsBy
empty_commits_nothing params s db h =
    let it = command_is [] params s Nothing (empty_is s.now.schema) (empty_plain s.now.schema) h.0 h.1 in
    elim (rw (it.0, it.1) at h.2) [ inl ends ↦ elim ends.0 [ inl commit ↦ absurd (cc) | inr release ↦ absurd (let e = release.2 in cc) ] | inr writes ↦ absurd (let e = writes.3 in cc) ]

module _ (old new : State) where
  pub commits : (r : Result ℕ Error) → Executes commit_text [] old new r → OnOk r (Commits old new)
  commits (Err e) h = tt
  commits (Ok count) h =
      let ran = runs_as commit_text [] old new old.now.schema refl Commit (commit_is _) (commit_plain _) count h in
      record { under_way = ran.0; shown = ran.1; unmarked = ran.4 }

  pub rolls_back : (r : Result ℕ Error) → Executes rollback_text [] old new r → OnOk r (IsRolledBack old new)
  rolls_back (Err e) h = tt
  rolls_back (Ok count) h = (runs_as rollback_text [] old new old.now.schema refl Rollback (rollback_is _) (rollback_plain _) count h).1

  pub stays_usable : (r : Result ℕ Error) → Executes [] [] old new r → OnOk r (IsUnchanged old new)
  stays_usable (Err e) h = tt
  stays_usable (Ok count) h = (runs_as [] [] old new old.now.schema refl Nothing (empty_is _) (empty_plain _) count h).0

  -- a ROLLBACK that fails takes the transaction back, unless it was over
  pub fails_to_roll_back : (e : Error) → Executes rollback_text [] old new (Err e) → IsTakenBack old new
  unfolding ExecutesIn IsNotRun
  fails_to_roll_back e (inl (inl refused)) = absurd (elim refused.0 [
    | inl unread ↦ let tail = (rollback_whole old.now.schema).0 in let none = rw unread.1 at tail in cc
    | inr read ↦
        let whole = rw read.1 at (rollback_whole old.now.schema) in
        let plain = rw read.1 at (rollback_plain old.now.schema) in
        elim read.2 [
          | inl more ↦ more.0 (omega (arith, whole.0))
          | inr rest ↦ elim rest [ inl given ↦ given.0 (sym whole.1) | inr clock ↦ clock.0 plain.1 ]
        ]
  ])
  fails_to_roll_back e (inl (inr failed)) = inl failed.3
  fails_to_roll_back e (inr ran) =
      let it = command_is rollback_text [] old Rollback (rollback_is old.now.schema) (rollback_plain old.now.schema) ran.0 ran.1 in
      elim (rw (it.0, it.1) at ran.2) [
        | inr failed ↦ inl failed.3
        | inl refused ↦ elim refused.0 [
          | inr wrote ↦ absurd (elim wrote.0 [ inl write ↦ write | inr shows ↦ cc ])
          | inl misplaced ↦ elim misplaced [
            | inl ended ↦ elim ended.1 [ inl begins ↦ absurd (let e = begins.0 in cc) | inr over ↦ inr (over.1, refused.1) ]
            | inr unnamed ↦ absurd (elim unnamed.2 [ inl release ↦ let e = release in cc | inr back ↦ let e = back in cc ])
          ]
        ]
      ]

pub on_err : {A E P : Type 0} (r : Result A E) → P → OnErr r P
on_err (Ok x) h = tt
on_err (Err e) h = h

module _ (a b c : State) where
  undone_then_kept : IsRolledBack a b → IsUnchanged b c → IsRolledBack a c
  undone_then_kept p q = record {
    was_open = λ _. p.was_open q.0.was_open;
    undone = λ _. let u = p.undone q.0.was_open in (q.0.now_is ∙ u.0, q.0.committed_is ∙ u.1);
    autocommit = q.0.mode ∙ p.autocommit;
    unmarked = q.2 ∙ p.unmarked;
    counts = record { changes = q.1.changes ∙ p.counts.changes; last_rowid = q.1.last_rowid ∙ p.counts.last_rowid };
  }

  kept_then_undone : IsUnchanged a b → IsRolledBack b c → IsRolledBack a c
  kept_then_undone p q = record {
    was_open = λ _. p.0.was_open;
    undone = λ h. let u = q.undone h in (u.0 ∙ p.0.committed_is, u.1 ∙ p.0.committed_is);
    autocommit = q.autocommit;
    unmarked = q.unmarked;
    counts = record { changes = q.counts.changes ∙ p.1.changes; last_rowid = q.counts.last_rowid ∙ p.1.last_rowid };
  }

  undone_twice : IsRolledBack a b → IsRolledBack b c → IsRolledBack a c
  undone_twice p q = record {
    was_open = λ h. p.was_open (q.was_open h);
    undone = λ h. let u = q.undone h in let v = p.undone (q.was_open h) in (u.0 ∙ v.1, u.1 ∙ v.1);
    autocommit = q.autocommit;
    unmarked = q.unmarked;
    counts = record { changes = q.counts.changes ∙ p.counts.changes; last_rowid = q.counts.last_rowid ∙ p.counts.last_rowid };
  }

  -- a failure after a failure
  pub kept_or_undone_then : IsKeptOrUndone a b → IsKeptOrUndone b c → IsKeptOrUndone a c
  kept_or_undone_then (inl p) (inl q) = inl (unchanged_then a b c p q)
  kept_or_undone_then (inl p) (inr q) = inr (kept_then_undone p q)
  kept_or_undone_then (inr p) (inl q) = inr (undone_then_kept p q)
  kept_or_undone_then (inr p) (inr q) = inr (undone_twice p q)

  -- what a failure leaves of the last commit
  pub kept_commit : IsKeptOrUndone a c → IsTrue c.is_open → IsTrue a.is_open × (c.committed ≡ a.committed)
  kept_commit (inl p) h = (p.0.was_open, p.0.committed_is)
  kept_commit (inr p) h = (p.was_open h, (p.undone h).1)
