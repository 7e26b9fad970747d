use Rattle.std.proofs.Common.{rules, [], ◌≡◌, ◌∙◌, refl, sym, ap, subst, arith, Err}
use Rattle.sqlite.specs.declared.error.Error.{Error}
use Rattle.sqlite.specs.declared.error.Error.TheVariants.{SqliteFailure}
use Rattle.sqlite.specs.declared.error.ErrorCode.TheVariants.{OutOfMemory}
use Rattle.sqlite.specs.Effect.{Database}
use Rattle.sqlite.specs.State.{HasCleanDisk, Survives, Executes}
use Rattle.sqlite.specs.Held.{Held, state}
use Rattle.sqlite.specs.Tree.{Trees}
use Rattle.sqlite.proofs.StateLemmas.{survives_weaker, survives_then}
use Rattle.wb_sql.specs.Transactions.{commit_text, IsKeptOrUndone}
use Rattle.wb_sql.proofs.EndingLemmas.{commits, commits_as, kept_or_undone, kept_or_undone_then, kept_commit}
use Rattle.wb_sql.proofs.transaction.commit.Goals.{else-eq-via-then-eq+else-is_usable, else-eq-via-else-eq}
use Rattle.wb_sql.proofs.transaction.commit.Goals as goal

pub returns-in_default-clause-ok : goal.returns-in_default-clause-ok
returns-in_default-clause-ok g c clean = commits (state g.S.Store c.args.conn.now) (state g.S.Store c.execute.new.self) _ (c.in_default.ensures.runs clean)

pub returns-in_default-clause-alone : goal.returns-in_default-clause-alone
returns-in_default-clause-alone g c clean db may =
    let made = commits (state g.S.Store c.args.conn.now) (state g.S.Store c.execute.new.self) _ (c.in_default.ensures.runs clean) in
    g.met.S.Store.settled c.execute.new.self.store db made.shown.is_open may ∙ ap (λ (d : Database). d.trees) made.shown.committed_is

pub returns-in_default-clause-crash : goal.returns-in_default-clause-crash
returns-in_default-clause-crash g c =
    let old = state g.S.Store c.args.conn.now in
    survives_weaker old (state g.S.Store c.execute.new.self) _ _ (λ clean db made. commits_as old db made) c.execute.ensures.survives

pub returns-then-is_usable-clause-memory : goal.returns-then-is_usable-clause-memory
returns-then-is_usable-clause-memory g c clean memory db may =
    let old = state g.S.Store c.args.conn.now in
    let mid = state g.S.Store c.execute.new.self in
    let new = state g.S.Store c.is_usable.new.conn in
    let same = c.if-is_usable.ensures.open clean refl in
    let early : HasCleanDisk mid = omega (arith, c.is_usable.ensures.survives.clean) in
    let kept = kept_commit old mid mid (kept_or_undone _ [] old mid _ (c.in-Err.ensures.runs early)) same.0.was_open in
    let is : db ≡ old.committed.trees = g.met.S.Store.settled c.is_usable.new.conn.store db same.0.is_open may ∙ ap (λ (d : Database). d.trees) (same.0.committed_is ∙ kept.1) in
    subst (g.S.Store.recovers c.args.conn.now.store) (sym is) (g.met.S.Store.stays c.args.conn.now.store kept.0)

pub returns-then-is_usable-clause-err : goal.returns-then-is_usable-clause-err
returns-then-is_usable-clause-err g c clean =
    let old = state g.S.Store c.args.conn.now in
    let mid = state g.S.Store c.execute.new.self in
    let early : HasCleanDisk mid = omega (arith, c.is_usable.ensures.survives.clean) in
    kept_or_undone_then old mid (state g.S.Store c.is_usable.new.conn) (kept_or_undone _ [] old mid _ (c.in-Err.ensures.runs early)) (c.is_usable.ensures.unchanged clean)

pub returns-then-is_usable-clause-cause : goal.returns-then-is_usable-clause-cause
returns-then-is_usable-clause-cause g c clean =
    let old = state g.S.Store c.args.conn.now in
    let mid = state g.S.Store c.execute.new.self in
    let early : HasCleanDisk mid = omega (arith, c.is_usable.ensures.survives.clean) in
    let is : c.in-Err.error ≡ SqliteFailure OutOfMemory = search rules in
    (c.execute.new.self, subst (λ (e : Error). Executes commit_text [] old mid (Err e)) is (c.in-Err.ensures.runs early))

pub returns-then-is_usable-clause-crash : goal.returns-then-is_usable-clause-crash
returns-then-is_usable-clause-crash g c =
    let old = state g.S.Store c.args.conn.now in
    let mid = state g.S.Store c.execute.new.self in
    survives_then old mid (state g.S.Store c.is_usable.new.conn) _ _ _ (λ clean db made. commits_as old db made) (λ clean db none. absurd none) c.execute.ensures.survives c.is_usable.ensures.survives

pub returns-clause-err : goal.returns-clause-err
returns-clause-err g c clean =
    let old = state g.S.Store c.args.conn.now in
    let mid = state g.S.Store c.execute.new.self in
    elim c.else-eq.branch [
      | else-eq-via-then-eq+else-is_usable w ↦
          let late : HasCleanDisk (state g.S.Store w.is_usable.new.conn) = subst (λ (h : Held g.row.S.Denot). HasCleanDisk (state g.S.Store h)) w.conn-is clean in
          let early : HasCleanDisk mid = omega (arith, w.is_usable.ensures.survives.clean) in
          subst (λ (h : Held g.row.S.Denot). IsKeptOrUndone old (state g.S.Store h)) (sym w.conn-is)
          (kept_or_undone_then old mid (state g.S.Store w.is_usable.new.conn) (kept_or_undone _ [] old mid _ (c.in-Err.ensures.runs early)) (w.is_usable.ensures.unchanged late))
      | else-eq-via-else-eq w ↦
          let late : HasCleanDisk mid = subst (λ (h : Held g.row.S.Denot). HasCleanDisk (state g.S.Store h)) w.conn-is clean in
          subst (λ (h : Held g.row.S.Denot). IsKeptOrUndone old (state g.S.Store h)) (sym w.conn-is) (kept_or_undone _ [] old mid _ (c.in-Err.ensures.runs late))
    ]

pub returns-clause-cause : goal.returns-clause-cause
returns-clause-cause g c clean =
    let mid = state g.S.Store c.execute.new.self in
    elim c.else-eq.branch [
      | else-eq-via-then-eq+else-is_usable w ↦
          let late : HasCleanDisk (state g.S.Store w.is_usable.new.conn) = subst (λ (h : Held g.row.S.Denot). HasCleanDisk (state g.S.Store h)) w.conn-is clean in
          let early : HasCleanDisk mid = omega (arith, w.is_usable.ensures.survives.clean) in
          (c.execute.new.self, c.in-Err.ensures.runs early)
      | else-eq-via-else-eq w ↦
          let late : HasCleanDisk mid = subst (λ (h : Held g.row.S.Denot). HasCleanDisk (state g.S.Store h)) w.conn-is clean in
          (c.execute.new.self, c.in-Err.ensures.runs late)
    ]

pub returns-clause-crash : goal.returns-clause-crash
returns-clause-crash g c =
    let old = state g.S.Store c.args.conn.now in
    let mid = state g.S.Store c.execute.new.self in
    let P = λ (db : Trees). db ≡ old.now.trees in
    elim c.else-eq.branch [
      | else-eq-via-then-eq+else-is_usable w ↦
          subst (λ (h : Held g.row.S.Denot). Survives old (state g.S.Store h) P) (sym w.conn-is)
          (survives_then old mid (state g.S.Store w.is_usable.new.conn) _ _ _ (λ clean db made. commits_as old db made) (λ clean db none. absurd none) c.execute.ensures.survives w.is_usable.ensures.survives)
      | else-eq-via-else-eq w ↦
          subst (λ (h : Held g.row.S.Denot). Survives old (state g.S.Store h) P) (sym w.conn-is)
          (survives_weaker old mid _ _ (λ clean db made. commits_as old db made) c.execute.ensures.survives)
    ]
