-- Lives of an office, one after another.
use Rattle.std.proofs.Common.{◌≡◌, ◌⊎◌, ℕ, inl, inr, true, false, List, [], ◌∷◌, Ok, Err, refl, sym, subst}
use Rattle.std.proofs.Math.Logic.{∥∥₁_elim, ∥∥₁_map}
use Rattle.sqlite_disk.specs.declared.Disk.{Ghosts}
use Rattle.sqlite_disk.specs.declared.Files.{Files}
use Rattle.sqlite_wal.specs.Reads.{AreClean}
use Rattle.wb_states.specs.declared.command.Command.{Command}
use Rattle.wb_states.specs.declared.store_fault.StoreFault.{StoreFault}
use Rattle.wb_states.specs.Machine.{Machine}
use Rattle.wb_step.specs.Replay.{replay}
use Rattle.wb_rows.specs.declared.cell.TableRow.{TableRow}
use Rattle.wb_store.specs.declared.refused.RefusedFiles.{RefusedFiles}
use Rattle.wb_store.specs.Files.{LeaveOffice}
use Rattle.wb_office.specs.declared.history.Found.{Found}
use Rattle.wb_office.specs.declared.history.Found.TheVariants.{Opened, Refused}
use Rattle.wb_office.specs.Files.{Ends, IsFaultOfLife, IsFound, IsLife}
use Rattle.wb_office.specs.History.{AreLived, AreLivedInTurn, Course, HasLived, IsCleanLast, IsCut, IsFoundAfter}
use Rattle.wb_office.specs.History.{IsLivedOnce, Last, Given, Unclosed, Unopened, onward, reached}
use Rattle.wb_office.specs.Lives.{Outcome}
use Rattle.wb_office.proofs.SessionLemmas.{holds_after, life_keeps, replay_append, unclosed_after}

-- one thing more was found, before others
opened_lived : {D : Type 0} {g : Ghosts D} (commands : List Command) (lives : List (List Command)) (accepted : ℕ) (rows : List TableRow) (outcomes : List Outcome) (more : List Found) (back : Files D) (last : Last g)
    → AreLived lives more back last → AreLived (commands ∷ lives) (Opened accepted rows outcomes ∷ more) back last
opened_lived commands lives accepted rows outcomes more back (Given files) lived = lived
opened_lived commands lives accepted rows outcomes more back (Unopened files fault left last) lived = lived
opened_lived commands lives accepted rows outcomes more back (Unclosed office refused last) lived = inr lived

module _ {D P : Type 0} (g : Ghosts D) (hands_back : P → Files D → Files D → P → Type 0) where
  -- what a crash leaves of files after a cut of the power is what it leaves of them before
  cut_leaves : (left back : Files D) (before after : P) (one other : Machine) → IsCut g hands_back left before back after → LeaveOffice g left one other → LeaveOffice g back one other
  cut_leaves left back before after one other cut leave image may = leave image (cut.2 image may)

  -- two courses, with some commands more
  leave_onward : (files : Files D) (at : Course) (kept left : List Command) → LeaveOffice g files (replay (reached at) kept) (replay (reached at) left)
      → LeaveOffice g files (reached (onward at kept)) (reached (onward at left))
  leave_onward files at kept left leave =
      subst (λ m. LeaveOffice g files m (reached (onward at left))) (sym (replay_append at.0 at.1 kept))
      (subst (λ m. LeaveOffice g files (replay (reached at) kept) m) (sym (replay_append at.0 at.1 left)) leave)

  -- no life
  lived_none : (files : Files D) → HasLived g files [] [] files
  lived_none files = record {
    last = Given files;
    lived = refl;
    clean = λ is. is;
    finds = λ is one other hold. ∣ record { first = one; second = other; finds = (refl, refl); left = hold } ∣₁;
  }

  -- a life that was refused is the last
  lived_refused : (files left back : Files D) (before after : P) (commands : List Command) (lives : List (List Command)) (fault : StoreFault) → IsFaultOfLife g files fault left
      → IsCut g hands_back left before back after → HasLived g files (commands ∷ lives) (Refused fault ∷ []) back
  lived_refused files left back before after commands lives fault why cut = record {
    last = Unopened files fault left back;
    lived = (refl, refl, refl, why);
    clean = λ is. is;
    finds = λ is one other hold. ∣ record {
      first = one;
      second = other;
      finds = (refl, refl);
      left = λ is_why sure clean. elim hold [
        | inl leave ↦ inl (cut_leaves left back before after (reached one) (reached other) cut (life_keeps g files fault left is_why sure (cut.1 clean) (reached one) (reached other) leave))
        | inr new ↦ inr new
      ];
    } ∣₁;
  }

  -- so is one whose office was not closed
  lived_unclosed : (files : Files D) (refused : RefusedFiles D) (back : Files D) (before after : P) (commands : List Command) (lives : List (List Command)) (accepted : ℕ) (rows : List TableRow) (outcomes : List Outcome)
      → IsLife g files commands accepted rows outcomes (Err refused) → IsCut g hands_back refused.files before back after
      → HasLived g files (commands ∷ lives) (Opened accepted rows outcomes ∷ []) back
  lived_unclosed files refused back before after commands lives accepted rows outcomes life cut = record {
    last = Unclosed life.office refused back;
    lived = inl (refl, refl, life.gives.unclosed);
    clean = life.clean;
    finds = λ is one other hold. ∥∥₁_map (life.ends is (reached one) (reached other) hold) (λ which.
        let r : IsFoundAfter one other (commands ∷ lives) (Opened accepted rows outcomes ∷ []) (Unclosed life.office refused back) = elim which [
          | inl found ↦ whole one other one (inl refl) found
          | inr found ↦ whole one other other (inr refl) found
        ] in r);
  }
    where
      whole : (one other at : Course) → (at ≡ one) ⊎ (at ≡ other) → IsFound (reached at) accepted rows × Ends g life.office commands outcomes (reached at)
          → IsFoundAfter one other (commands ∷ lives) (Opened accepted rows outcomes ∷ []) (Unclosed life.office refused back)
      whole one other at which found =
          let stand = unclosed_after g refused.files life.office refused.fault (reached at) commands outcomes found.1 in
          record {
            first = onward at stand.0;
            second = onward at stand.1;
            finds = (at, which, found.0, (stand.0, stand.1, stand.2, stand.3, (refl, refl)));
            left = λ why numbered clean.
                cut_leaves refused.files back before after (reached (onward at stand.0)) (reached (onward at stand.1)) cut (leave_onward refused.files at stand.0 stand.1 (stand.4 why numbered (cut.1 clean)));
          }

  -- a life that is the last
  lived_last : (files back : Files D) (before after : P) (commands : List Command) (lives : List (List Command)) (one : Found) → IsLivedOnce g hands_back files before commands one false back after
      → HasLived g files (commands ∷ lives) (one ∷ []) back
  lived_last files back before after commands lives (Refused fault) (is, rest) = lived_refused files rest.0 back before after commands lives fault rest.1 rest.2
  lived_last files back before after commands lives (Opened accepted rows outcomes) (Ok left, life, cut) = absurd (let ends = cut.0 in cc)
  lived_last files back before after commands lives (Opened accepted rows outcomes) (Err refused, life, cut) =
      lived_unclosed files refused back before after commands lives accepted rows outcomes life cut.1

  -- one life whose office was closed or given up, and then others
  lived_next : (files left next : Files D) (before after : P) (commands : List Command) (lives : List (List Command)) (accepted : ℕ) (rows : List TableRow) (outcomes : List Outcome) (more : List Found) (back : Files D)
      → IsLife g files commands accepted rows outcomes (Ok left) → IsCut g hands_back left before next after → HasLived g next lives more back
      → HasLived g files (commands ∷ lives) (Opened accepted rows outcomes ∷ more) back
  lived_next files left next before after commands lives accepted rows outcomes more back life cut later = record {
    last = later.last;
    lived = opened_lived commands lives accepted rows outcomes more back later.last later.lived;
    clean = λ is. life.clean (life.gives.files.clean (cut.1 (later.clean is)));
    finds = λ is one other hold.
        let clean = cut.1 (later.clean is) in
        ∥∥₁_elim (life.ends (life.gives.files.clean clean) (reached one) (reached other) hold) squash₁ (λ which. elim which [
          | inl found ↦ whole is clean one other one (inl refl) found
          | inr found ↦ whole is clean one other other (inr refl) found
        ]);
  }
    where
      whole : IsCleanLast later.last → AreClean g left.log left.db → (one other at : Course) → (at ≡ one) ⊎ (at ≡ other) → IsFound (reached at) accepted rows × Ends g life.office commands outcomes (reached at)
          → ∥ IsFoundAfter one other (commands ∷ lives) (Opened accepted rows outcomes ∷ more) later.last ∥₁
      whole is clean one other at which found =
          let stand = holds_after g left life.office life.gives.files clean (reached at) commands outcomes found.1 in
          let hold = cut_leaves left next before after (reached (onward at stand.0)) (reached (onward at stand.1)) cut (leave_onward left at stand.0 stand.1 stand.4) in
          ∥∥₁_map (later.finds is (onward at stand.0) (onward at stand.1) (inl hold)) (λ rest.
          let r : IsFoundAfter one other (commands ∷ lives) (Opened accepted rows outcomes ∷ more) later.last = record {
            first = rest.first;
            second = rest.second;
            finds = (at, which, found.0, (stand.0, stand.1, stand.2, stand.3, rest.finds));
            left = rest.left;
          } in r)

  -- one life, and then others
  lived_on : (files next : Files D) (before after : P) (commands : List Command) (lives : List (List Command)) (one : Found) (more : List Found) (back : Files D)
      → IsLivedOnce g hands_back files before commands one true next after → HasLived g next lives more back
      → HasLived g files (commands ∷ lives) (one ∷ more) back
  lived_on files next before after commands lives (Refused fault) more back life later = absurd (let ends = life.0 in cc)
  lived_on files next before after commands lives (Opened accepted rows outcomes) more back (Err refused, life, cut) later = absurd (let ends = cut.0 in cc)
  lived_on files next before after commands lives (Opened accepted rows outcomes) more back (Ok left, life, cut) later =
      lived_next files left next before after commands lives accepted rows outcomes more back life cut.1 later

  -- lives that were lived one after another, and what they found and left
  pub lived_in_turn : (files : Files D) (before : P) (lives : List (List Command)) (found : List Found) (back : Files D) (after : P)
      → AreLivedInTurn g hands_back files before lives found back after → HasLived g files lives found back
  lived_in_turn files before [] [] back after (is, same) = subst (λ b. HasLived g files [] [] b) (sym is) (lived_none files)
  lived_in_turn files before [] (one ∷ more) back after none = absurd none
  lived_in_turn files before (commands ∷ lives) [] back after none = absurd none
  lived_in_turn files before (commands ∷ lives) (one ∷ more) back after (inl (life, no_more)) =
      subst (λ (m : List Found). HasLived g files (commands ∷ lives) (one ∷ m) back) (sym no_more) (lived_last files back before after commands lives one life)
  lived_in_turn files before (commands ∷ lives) (one ∷ more) back after (inr (next, mid, life, later)) =
      lived_on files next before mid commands lives one more back life (lived_in_turn next mid lives more back after later)
