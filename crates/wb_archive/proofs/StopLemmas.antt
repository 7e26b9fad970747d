-- Calls that succeeded, and then calls that stopped.
use Rattle.std.proofs.Common.{◌≡◌, Result, Ok, Err, refl, sym, subst, ◌∙◌}
use Rattle.std.specs.Prelude.{IfErr, IfOk, OnOk}
use Rattle.std.specs.Result.{result_map_both}
use Rattle.wb_archive.specs.declared.fault.MergeFault.{MergeFault}
use Rattle.wb_archive.specs.declared.fault.MergeFault.TheVariants.{Memory, Tables}
use Rattle.wb_archive.specs.Faults.{Advances, StopsAs}

pub stops-on : {T F : Type 0} (Follows : T → T → Type 0) (Fails : T → T → F → Type 0)
    → ((first second third : T) → Follows first second → Follows second third → Follows first third)
    → ((first second third : T) (fault : F) → Follows first second → Fails second third fault → Fails first third fault)
    → (first second third : T) (fault : MergeFault F) → Follows first second → StopsAs Follows Fails second third fault → StopsAs Follows Fails first third fault
stops-on Follows Fails follows_on fails_on first second third Memory before stops = follows_on first second third before stops
stops-on Follows Fails follows_on fails_on first second third (Tables fault) before stops = fails_on first second third fault before stops

-- calls after calls that succeeded
pub advances-on : {T X F : Type 0} (Follows : T → T → Type 0) (Fails : T → T → F → Type 0)
    → ((first second third : T) → Follows first second → Follows second third → Follows first third)
    → ((first second third : T) (fault : F) → Follows first second → Fails second third fault → Fails first third fault)
    → (first second third : T) (result : Result X (MergeFault F)) → Follows first second
    → Advances Follows (StopsAs Follows Fails) second third result → Advances Follows (StopsAs Follows Fails) first third result
advances-on Follows Fails follows_on fails_on first second third (Ok x) before after = record {
  follows = follows_on first second third before after.follows;
  stops = tt;
}
advances-on Follows Fails follows_on fails_on first second third (Err fault) before after = record {
  follows = tt;
  stops = stops-on Follows Fails follows_on fails_on first second third fault before after.stops;
}

-- ---- answers

module _ {X F : Type 0} where
  same-ok : (x y : X) → ◌≡◌ {A = Result X F} (Ok x) (Ok y) → x ≡ y
  same-ok x y e = cc

  -- what is so of what a call answered is so of what was asked
  pub asked-value : (P : X → Type 0) (answer : Result X F) (told : Result X (MergeFault F)) (x : X) → told ≡ result_map_both (λ x. x) Tables answer → told ≡ Ok x
      → IfOk answer P → P x
  asked-value P (Ok y) told x is ok h = subst P (same-ok y x (go y x (sym is ∙ ok))) h where
    go : (y x : X) → ◌≡◌ {A = Result X (MergeFault F)} (Ok y) (Ok x) → ◌≡◌ {A = Result X F} (Ok y) (Ok x)
    go y x e = cc
  asked-value P (Err fault) told x is ok h = absurd (go (sym is ∙ ok)) where
    go : ◌≡◌ {A = Result X (MergeFault F)} (Err (Tables fault)) (Ok x) → ⊥
    go e = cc

  pub asked-ok : (P : Type 0) (answer : Result X F) (told : Result X (MergeFault F)) (x : X) → told ≡ result_map_both (λ x. x) Tables answer → told ≡ Ok x → OnOk answer P → P
  asked-ok P (Ok y) told x is ok h = h
  asked-ok P (Err fault) told x is ok h = absurd (go (sym is ∙ ok)) where
    go : ◌≡◌ {A = Result X (MergeFault F)} (Err (Tables fault)) (Ok x) → ⊥
    go e = cc

  pub on-ok-just : (P : Type 0) (answer : Result X F) → P → OnOk answer P
  on-ok-just P (Ok x) h = h
  on-ok-just P (Err fault) h = tt

  pub on-ok-with : (P Q : Type 0) (answer : Result X F) → OnOk answer Q → (Q → OnOk answer P) → OnOk answer P
  on-ok-with P Q (Ok x) h step = step h
  on-ok-with P Q (Err fault) h step = tt

  pub if-ok-with : (P : X → Type 0) (Q : Type 0) (answer : Result X F) → OnOk answer Q → (Q → IfOk answer P) → IfOk answer P
  if-ok-with P Q (Ok x) h step = step h
  if-ok-with P Q (Err fault) h step = tt

  pub if-ok-map : (P Q : X → Type 0) (answer : Result X F) → ((x : X) → P x → Q x) → IfOk answer P → IfOk answer Q
  if-ok-map P Q (Ok x) step h = step x h
  if-ok-map P Q (Err fault) step h = tt

  pub if-err-map : (P Q : F → Type 0) (answer : Result X F) → ((fault : F) → P fault → Q fault) → IfErr answer P → IfErr answer Q
  if-err-map P Q (Ok x) step h = tt
  if-err-map P Q (Err fault) step h = step fault h

  pub if-ok-from : (R : X → Type 0) (answer : Result X F) → ((x : X) → answer ≡ Ok x → R x) → IfOk answer R
  if-ok-from R (Ok x) step = step x refl
  if-ok-from R (Err fault) step = tt

  pub on-ok-at : (P : Type 0) (answer : Result X F) (x : X) → answer ≡ Ok x → OnOk answer P → P
  on-ok-at P (Ok y) x e h = h
  on-ok-at P (Err fault) x e h = absurd cc

  pub if-ok-at : (P : X → Type 0) (answer : Result X F) (x : X) → answer ≡ Ok x → IfOk answer P → P x
  if-ok-at P (Ok y) x e h = subst P (same-ok y x e) h
  if-ok-at P (Err fault) x e h = absurd cc
