-- What lives find is fenced.
use Rattle.std.proofs.Common.{◌≡◌, ◌⊎◌, inl, inr, List, [], ◌∷◌, sym, ap, subst, ◌∙◌}
use Rattle.wb_states.specs.declared.command.Command.{Command}
use Rattle.wb_states.specs.declared.store_fault.StoreFault.{StoreFault}
use Rattle.wb_states.specs.Machine.{Machine}
use Rattle.wb_step.specs.Replay.{replay}
use Rattle.wb_step.proofs.HandOutLemmas.{ends, rise}
use Rattle.wb_office.specs.declared.history.Found.{Found}
use Rattle.wb_office.specs.declared.history.Found.TheVariants.{Opened, Refused}
use Rattle.wb_office.specs.Fencing.{AreFenced}
use Rattle.wb_office.specs.History.{Course, Finds, onward, reached}
use Rattle.wb_office.specs.Lives.{AreAccepted}
use Rattle.wb_office.proofs.CountLemmas.{accepted-append, replay-counted, standing-accepted}

-- a course that began where another did
began_at : {one other : Machine} (at first second : Course) → (at ≡ first) ⊎ (at ≡ second) → (first.0 ≡ one) ⊎ (first.0 ≡ other) → (second.0 ≡ one) ⊎ (second.0 ≡ other) → (at.0 ≡ one) ⊎ (at.0 ≡ other)
began_at at first second (inl is) which also = elim which [ inl same ↦ inl (ap (λ (c : Course). c.0) is ∙ same) | inr same ↦ inr (ap (λ (c : Course). c.0) is ∙ same) ]
began_at at first second (inr is) which also = elim also [ inl same ↦ inl (ap (λ (c : Course). c.0) is ∙ same) | inr same ↦ inr (ap (λ (c : Course). c.0) is ∙ same) ]

-- a course that goes on from another after commands that were accepted
onward_accepted : (at : Course) (later : List Command) → AreAccepted at.0 at.1 → AreAccepted (reached at) later → AreAccepted (onward at later).0 (onward at later).1
onward_accepted at later all more = accepted-append at.0 at.1 later all more

-- a course that is one of two of which the commands were accepted
accepted_at : (at first second : Course) → (at ≡ first) ⊎ (at ≡ second) → AreAccepted first.0 first.1 → AreAccepted second.0 second.1 → AreAccepted at.0 at.1
accepted_at at first second (inl is) all also = subst (λ (c : Course). AreAccepted c.0 c.1) (sym is) all
accepted_at at first second (inr is) all also = subst (λ (c : Course). AreAccepted c.0 c.1) (sym is) also

pub fenced : (Failed : Machine → Machine → StoreFault → Type 0) (one other : Machine) (first second : Course) → (first.0 ≡ one) ⊎ (first.0 ≡ other) → (second.0 ≡ one) ⊎ (second.0 ≡ other)
    → AreAccepted first.0 first.1 → AreAccepted second.0 second.1
    → (lives : List (List Command)) (found : List Found) (kept left : Course) → Finds Failed first second lives found kept left → AreFenced one other found
fenced Failed one other first second which also all both lives [] kept left finds = tt
fenced Failed one other first second which also all both [] (found ∷ more) kept left finds = absurd finds
fenced Failed one other first second which also all both (commands ∷ lives) (Refused fault ∷ more) kept left finds = tt
fenced Failed one other first second which also all both (commands ∷ lives) (Opened accepted rows outcomes ∷ more) kept left (at, is, found, (x, y, x_stands, y_stands, later)) =
    let failed = Failed (replay (reached at) x) (replay (reached at) y) in
    let began = began_at at first second is which also in
    let were = accepted_at at first second is all both in (
      record {
        began = at.0;
        which = began;
        standing = at.1;
        found = found;
        were_accepted = were;
        counted = found.count ∙ replay-counted at.0 at.1 were;
        rise = rise at.0 at.1;
        ended = λ sound before one between two after given again whole handed too same. ends at.0 before one between two given again sound handed too same;
      },
      fenced Failed one other (onward at x) (onward at y) began began (onward_accepted at x were (standing-accepted failed (reached at) commands outcomes x x_stands))
          (onward_accepted at y were (standing-accepted failed (reached at) commands outcomes y y_stands)) lives more kept left later,
    )
