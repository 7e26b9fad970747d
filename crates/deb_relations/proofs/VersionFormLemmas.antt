-- The characters of a version.
use Rattle.std.proofs.Common.{◌≡◌, ℕ, ◌+◌, ◌≤◌, Bool, true, false, cond, not, ◌&&◌, ◌||◌, eqb, ltb, List, [], ◌∷◌, ◌++◌, length, refl, sym, ap, subst, arith, Option, Some, None}
use Rattle.std.specs.List.{list_all, position_or_len}
use Rattle.std.specs.Option.{option_or, option_map}
use Rattle.std.specs.Char.{is_ascii_digit}
use Rattle.std.proofs.lemmas.Bool.Decides.{nat_tests}
use Rattle.std.proofs.lemmas.Bool.{and_from, not-false}
use Rattle.deb_version.specs.declared.fault.VersionFault.{VersionFault}
use Rattle.deb_version.specs.declared.fault.VersionFault.TheVariants.{EpochEmpty, EpochNotNumber, UpstreamEmpty, UpstreamBad, RevisionEmpty, RevisionBad}
use Rattle.deb_version.specs.Syntax.{is_revision_char, is_upstream_char, has_epoch, epoch_text, has_revision, upstream_text, revision_text, upstream_start, upstream_end, fault_of, length_fault, number_fault, epoch_fault, upstream_fault, revision_fault, upstream_part_fault, revision_part_fault, rest_fault}
use Rattle.deb_version.proofs.LawLemmas.{text_parts}
use Rattle.deb_text.specs.Lists.{is_nonempty}
use Rattle.deb_relations.proofs.FrontLemmas.{all-both, all-weaker}

abbrev pub Fault : Type 0
Fault = Option VersionFault

or-none : (f g : Fault) → option_or f g ≡ None → (f ≡ None) × (g ≡ None)
or-none None g h = (refl, h)
or-none (Some fault) g h = absurd (cc)

-- a test that ends in no fault was not met
passed-by : (b : Bool) (fault : VersionFault) (more : Fault) → cond b (Some fault) more ≡ None → (b ≡ false) × (more ≡ None)
passed-by true fault more h = absurd (cc)
passed-by false fault more h = (refl, h)

number-digits : (digits : List ℕ) → number_fault digits ≡ None → list_all is_ascii_digit digits ≡ true
unfolding number_fault
number-digits digits h =
    let one = passed-by (eqb (length digits) 0) EpochEmpty _ h in
    let two = passed-by (not (list_all is_ascii_digit digits)) EpochNotNumber _ one.1 in
    not-false (list_all is_ascii_digit digits) two.0

-- where no item fails, all pass
all-from-len : (p : ℕ → Bool) (xs : List ℕ) → length xs ≤ position_or_len (λ c. not (p c)) xs → list_all p xs ≡ true
all-from-len p [] h = refl
all-from-len p (x ∷ xs) h =
    elim (p x) as (λ v. p x ≡ v → length (x ∷ xs) ≤ cond (not (not v)) (1 + position_or_len (λ c. not (p c)) xs) 0 → (v && list_all p xs) ≡ true) [
      | true ↦ λ e k. all-from-len p xs (omega arith)
      | false ↦ λ e k. absurd (omega arith)
    ] refl h

position-all : (p : ℕ → Bool) (xs : List ℕ) (b : Bool) → ltb (position_or_len (λ c. not (p c)) xs) (length xs) ≡ b → (bad : ℕ → VersionFault) → option_map bad (cond b (Some (position_or_len (λ c. not (p c)) xs)) None) ≡ None → list_all p xs ≡ true
position-all p xs true e bad h = absurd (cc)
position-all p xs false e bad h = all-from-len p xs (grind (arith, nat_tests))

upstream-chars : (start : ℕ) (part : List ℕ) → upstream_part_fault start part ≡ None → list_all is_upstream_char part ≡ true
unfolding upstream_part_fault
upstream-chars start part h =
    let one = passed-by (eqb (length part) 0) UpstreamEmpty _ h in
    position-all is_upstream_char part _ refl (λ place. UpstreamBad (start + place)) one.1

revision-chars : (start : ℕ) (part : List ℕ) → revision_part_fault start part ≡ None → list_all is_revision_char part ≡ true
unfolding revision_part_fault
revision-chars start part h =
    let one = passed-by (eqb (length part) 0) RevisionEmpty _ h in
    position-all is_revision_char part _ refl (λ place. RevisionBad (start + place)) one.1

digit-char : (c : ℕ) → is_ascii_digit c ≡ true → is_upstream_char c ≡ true
unfolding is_upstream_char is_revision_char
digit-char c h = grind (arith, nat_tests)

revision-char : (c : ℕ) → is_revision_char c ≡ true → is_upstream_char c ≡ true
unfolding is_upstream_char
revision-char c h = ap (λ b. b || (eqb c 45 || eqb c 58)) h

colon-char : is_upstream_char 58 ≡ true
unfolding is_upstream_char is_revision_char
colon-char = refl

hyphen-char : is_upstream_char 45 ≡ true
unfolding is_upstream_char is_revision_char
hyphen-char = refl

epoch-by : (b : Bool) (digits : List ℕ) → cond b (number_fault digits) None ≡ None → list_all is_upstream_char (cond b (digits ++ 58 ∷ []) []) ≡ true
epoch-by true digits h =
    all-both is_upstream_char digits (58 ∷ []) (all-weaker is_ascii_digit is_upstream_char digit-char digits (number-digits digits h)) (and_from (is_upstream_char 58) true colon-char refl)
epoch-by false digits h = refl

revision-by : (b : Bool) (start : ℕ) (part : List ℕ) → cond b (revision_part_fault start part) None ≡ None → list_all is_upstream_char (cond b (45 ∷ part) []) ≡ true
revision-by true start part h = and_from (is_upstream_char 45) _ hyphen-char (all-weaker is_revision_char is_upstream_char revision-char part (revision-chars start part h))
revision-by false start part h = refl

-- a version has its characters alone
pub version-form : (v : List ℕ) → fault_of v ≡ None → list_all is_upstream_char v ≡ true
unfolding fault_of epoch_fault rest_fault upstream_fault revision_fault
version-form v h =
    let one = or-none (length_fault v) _ h in
    let two = or-none (cond (has_epoch v) (number_fault (epoch_text v)) None) _ one.1 in
    let three = or-none (upstream_part_fault (upstream_start v) (upstream_text v)) _ two.1 in
    subst (λ (x : List ℕ). list_all is_upstream_char x ≡ true) (sym (text_parts v))
    (all-both is_upstream_char (cond (has_epoch v) (epoch_text v ++ 58 ∷ []) []) _ (epoch-by (has_epoch v) (epoch_text v) two.0)
    (all-both is_upstream_char (upstream_text v) _ (upstream-chars (upstream_start v) (upstream_text v) three.0)
    (revision-by (has_revision v) (upstream_end v + 1) (revision_text v) three.1)))

length-none : (v : List ℕ) → length_fault v ≡ None → is_nonempty v ≡ true
unfolding length_fault
length-none [] h = absurd (cc)
length-none (c ∷ cs) h = refl

-- and at least one of them
pub version-filled : (v : List ℕ) → fault_of v ≡ None → is_nonempty v ≡ true
unfolding fault_of
version-filled v h = length-none v (or-none (length_fault v) _ h).0
