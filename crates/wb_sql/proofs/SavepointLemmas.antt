-- What the texts of the savepoint do, over any schema.
use Rattle.std.proofs.Common.{◌≡◌, inl, inr, ℕ, ◌+◌, ◌<◌, ◌≤◌, nat_lt, List, [], ◌∷◌, ◌++◌, codes, length, take, Bool, true, false, None, Some, slice_get, slice_index_or, map, IsTrue, refl, sym, ap, subst, ◌∙◌, arith}
use Rattle.std.proofs.lemmas.Bool.{cases_Bool}
use Rattle.std.proofs.lemmas.Bool.Decides.{nat_tests}
use Rattle.std.proofs.lemmas.List.{length-append, length-map, map-append}
use Rattle.std.proofs.Math.Seq.{get_or-append_seam, take-append-add, take-append_seam}
use Rattle.sqlite_trees.specs.Sound.{same_name}
use Rattle.std.proofs.lemmas.Bool.{both_ways}
use Rattle.sqlite.specs.Tree.{Trees}
use Rattle.sqlite.specs.Schema.{Schema}
use Rattle.sqlite.specs.Effect.{Database}
use Rattle.sqlite.specs.Command.{Command}
use Rattle.sqlite.specs.Command.TheVariants.{Savepoint as Save, Release, RollbackTo}
use Rattle.sqlite_resolve.specs.declared.compiled.Compiled.{Compiled}
use Rattle.sqlite_tied.specs.Compute.{everything}
use Rattle.sqlite.specs.Given.{IsPlain}
use Rattle.sqlite.specs.Listing.{understood}
use Rattle.sqlite.specs.State.{State, Savepoint, Shows, CommitsBy, IsStatement, IsNewestNamed, names_in, begins_at}
use Rattle.sqlite.proofs.Callers.{command_of, runs_as}
use Rattle.wb_sql.specs.Calls.{RanInside}
use Rattle.wb_sql.specs.Savepoints.{save_text, back_text, release_text, part_of, IsSavedAs, IsSaved, Saves, GoesBack, Releases}

module _ (schema : Schema) where
  save_is : command_of (understood schema save_text) ≡ Save (codes "part")
  unfolding understood everything
  save_is = refl

  save_plain : IsPlain (understood schema save_text)
  unfolding understood everything
  save_plain = (refl, refl)

  back_is : command_of (understood schema back_text) ≡ RollbackTo (codes "part")
  unfolding understood everything
  back_is = refl

  back_plain : IsPlain (understood schema back_text)
  unfolding understood everything
  back_plain = (refl, refl)

  release_is : command_of (understood schema release_text) ≡ Release (codes "part")
  unfolding understood everything
  release_is = refl

  release_plain : IsPlain (understood schema release_text)
  unfolding understood everything
  release_plain = (refl, refl)

-- ---- the newest of some savepoints

at_seam : {X : Type 0} (xs : List X) (y : X) → slice_get (xs ++ y ∷ []) (length xs) ≡ Some y
at_seam [] y = refl
at_seam (x ∷ xs) y = at_seam xs y

same_part : same_name (codes "part") (codes "part") ≡ true
unfolding same_name
same_part = refl

-- the newest savepoint of this name is the last, if that has it
last_at : (before : List (List ℕ)) (names : List (List ℕ)) (at : ℕ) → names ≡ before ++ codes "part" ∷ [] → IsNewestNamed names (codes "part") at → at ≡ length before
last_at before names at are newest =
    let long : length names ≡ length before + 1 = ap length are ∙ length-append before (codes "part" ∷ []) in
    let here : slice_index_or names (length before) [] ≡ codes "part" = ap (λ (l : List (List ℕ)). slice_index_or l (length before) []) are ∙ get_or-append_seam before (codes "part") [] [] in
    let named : same_name (slice_index_or names (length before) []) (codes "part") ≡ true = ap (λ n. same_name n (codes "part")) here ∙ same_part in
    elim (cases_Bool (nat_lt at (length before))) [
      | inl earlier ↦
          let less : at < length before = grind (arith, nat_tests) in
          absurd (both_ways _ (newest.last (length before) less (omega (arith, long))) named)
      | inr later ↦
          let more : length before ≤ at = grind (arith, nat_tests) in
          omega (arith, more, long, newest.within)
    ]

-- where the newest savepoint stands
place_of : (s : State) (before : List Savepoint) (was : Database) (at : ℕ) → IsSavedAs before was s → IsNewestNamed (names_in s) (codes "part") at → at ≡ length before
place_of s before was at saved newest =
    last_at (map (λ (p : Savepoint). p.name) before) (names_in s) at (ap (map (λ (p : Savepoint). p.name)) saved ∙ map-append (λ (p : Savepoint). p.name) before (part_of was ∷ [])) newest
    ∙ length-map before (λ (p : Savepoint). p.name)

-- its release commits nothing
begins_not : (s : State) (before : List Savepoint) (was : Database) → IsSavedAs before was s → begins_at s (length before) ≡ false
begins_not s before was saved =
    ap (λ (l : List Savepoint). slice_index_or (map (λ (p : Savepoint). p.begins) l) (length before) false) saved
    ∙ ap (λ (l : List Bool). slice_index_or l (length before) false) (map-append (λ (p : Savepoint). p.begins) before (part_of was ∷ []))
    ∙ ap (λ n. slice_index_or (map (λ (p : Savepoint). p.begins) before ++ false ∷ []) n false) (sym (length-map before (λ (p : Savepoint). p.begins)))
    ∙ get_or-append_seam (map (λ (p : Savepoint). p.begins) before) false [] false

module _ (old new : State) where
  pub saves : RanInside save_text [] old new → Saves old new
  saves ran =
      let did = runs_as save_text [] old new old.now.schema refl (Save (codes "part")) (save_is _) (save_plain _) ran.1.0 ran.1.1 in
      record {
        shown = did.0.0;
        counts = did.0.1;
        saved = did.0.2 ∙ rw ran.0 refl;
      }

  pub goes_back : RanInside back_text [] old new → GoesBack old new
  goes_back ran before was saved =
      let did = runs_as back_text [] old new old.now.schema refl (RollbackTo (codes "part")) (back_is _) (back_plain _) ran.1.0 ran.1.1 in
      let at : did.0 ≡ length before = place_of old before was did.0 saved did.1 in
      let found : slice_get old.marks (length before) ≡ Some did.2.0 = subst (λ n. slice_get old.marks n ≡ Some did.2.0) at did.2.1 in
      let there : slice_get old.marks (length before) ≡ Some (part_of was) = ap (λ (l : List Savepoint). slice_get l (length before)) saved ∙ at_seam before (part_of was) in
      let it : did.2.0 ≡ part_of was = cc in
      record {
        shown = subst (λ (db : Database). Shows old new db old.committed true) (ap (λ (p : Savepoint). p.db) it) did.2.2;
        counts = did.2.3;
        marks = did.2.4 ∙ ap (λ n. take (n + 1) old.marks) at ∙ ap (take (length before + 1)) saved ∙ take-append-add before (part_of was ∷ []) 1 ∙ sym saved;
      }

  pub releases : IsSaved old → RanInside release_text [] old new → Releases old new
  releases some ran =
      let did = runs_as release_text [] old new old.now.schema refl (Release (codes "part")) (release_is _) (release_plain _) ran.1.0 ran.1.1 in
      elim did.2 [
        | inl commits ↦ absurd (both_ways _ (begins_not old some.0 some.1 some.2) (subst (λ n. IsTrue (begins_at old n)) (place_of old some.0 some.1 did.0 some.2 did.1) commits.0))
        | inr drops ↦ record {
          shown = drops.1.0;
          counts = drops.1.1;
          marks = λ before was saved. drops.1.2 ∙ ap (λ n. take n old.marks) (place_of old before was did.0 saved did.1) ∙ ap (take (length before)) saved ∙ take-append_seam before (part_of was ∷ []);
        }
      ]

-- what a text commits that is one statement on the savepoint is what that statement commits
module _ (sql : List ℕ) (s : State) (command : Command) (is : command_of (understood s.now.schema sql) ≡ command) (plain : IsPlain (understood s.now.schema sql)) where
  command_is : (c : Compiled) → IsStatement s sql [] c → (c.command ≡ command) × (c.returning ≡ None)
  command_is c it = (ap command_of (sym it.is) ∙ is, (subst IsPlain it.is plain).0)

pub save_commits_nothing : (s : State) (db : Trees) → ¬ CommitsBy save_text [] s db
unfolding CommitsBy
save_commits_nothing s db h =
    let it = command_is save_text s (Save (codes "part")) (save_is s.now.schema) (save_plain s.now.schema) h.0 h.1 in
    elim (rw (it.0, it.1) at h.2) [ inl ends ↦ elim ends.0 [ inl commit ↦ absurd (cc) | inr release ↦ absurd (let e = release.2 in cc) ] | inr writes ↦ absurd (let e = writes.3 in cc) ]

pub back_commits_nothing : (s : State) (db : Trees) → ¬ CommitsBy back_text [] s db
unfolding CommitsBy
back_commits_nothing s db h =
    let it = command_is back_text s (RollbackTo (codes "part")) (back_is s.now.schema) (back_plain s.now.schema) h.0 h.1 in
    elim (rw (it.0, it.1) at h.2) [ inl ends ↦ elim ends.0 [ inl commit ↦ absurd (cc) | inr release ↦ absurd (let e = release.2 in cc) ] | inr writes ↦ absurd (let e = writes.3 in cc) ]

pub release_commits_nothing : (s : State) (db : Trees) → IsSaved s → ¬ CommitsBy release_text [] s db
unfolding CommitsBy
release_commits_nothing s db saved h =
    let it = command_is release_text s (Release (codes "part")) (release_is s.now.schema) (release_plain s.now.schema) h.0 h.1 in
    elim (rw (it.0, it.1) at h.2) [
      | inl ends ↦ elim ends.0 [
        | inl commit ↦ absurd (cc)
        | inr release ↦
            let named : codes "part" ≡ release.0 = (let e = release.2 in cc) in
            let at : release.1 ≡ length saved.0 = place_of s saved.0 saved.1 release.1 saved.2 (subst (λ n. IsNewestNamed (names_in s) n release.1) (sym named) release.3) in
            both_ways _ (begins_not s saved.0 saved.1 saved.2) (subst (λ n. IsTrue (begins_at s n)) at release.4)
      ]
      | inr writes ↦ absurd (let e = writes.3 in cc)
    ]
