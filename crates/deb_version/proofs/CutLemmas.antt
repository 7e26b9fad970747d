-- Lemmas on the cuts of a version's text.
use Rattle.std.proofs.Common.{◌≡◌, ℕ, ◌+◌, ◌-◌, ◌<◌, ◌≤◌, Bool, true, false, not, ◌||◌, cond, ltb, List, [], ◌∷◌, length, get_or, take, drop, reverse, refl, sym, ap, ◌∙◌, arith, length-take-le, length-drop, suc, Option, None, Some}
use Rattle.std.specs.List.{list_any, position, position_or_len, suffix_len}
use Rattle.std.specs.Option.{option_or}
use Rattle.std.proofs.lemmas.List.{length-reverse, get_or-reverse}
use Rattle.std.proofs.lemmas.List.Sums.{passes_at_first, prefix_len-le-length}
use Rattle.std.proofs.lemmas.List.Sorted.{list_any-IsPermutation, IsPermutation-reverse}
use Rattle.std.proofs.lemmas.Bool.Decides.{nat_tests}
use borrow.Author.Tests.{ltb-true}
use Rattle.deb_version.specs.declared.fault.VersionFault.{VersionFault}
use Rattle.deb_version.specs.Syntax.{is_colon, is_hyphen, has_epoch, epoch_text, epoch_of, epoch_fault, number_fault, value_of, rest_of, has_revision, upstream_text, revision_text, upstream_start, upstream_end, upstream_fault, revision_fault, upstream_part_fault, revision_part_fault}

any-step : (b a : Bool) (m n : ℕ) → a ≡ ltb m n → (b || a) ≡ ltb (cond (not b) (1 + m) 0) (suc n)
any-step true a m n h = grind (arith, nat_tests)
any-step false a m n h = grind (arith, nat_tests)

-- some element passes where the first place that passes is inside
pub list_any-first : (p : ℕ → Bool) (xs : List ℕ) → list_any p xs ≡ ltb (position_or_len p xs) (length xs)
list_any-first p [] = refl
list_any-first p (x ∷ xs) = any-step (p x) (list_any p xs) (position_or_len p xs) (length xs) (list_any-first p xs)

-- and where the last is
pub list_any-last : (p : ℕ → Bool) (xs : List ℕ) → list_any p xs ≡ ltb (suffix_len (λ x. not (p x)) xs) (length xs)
list_any-last p xs =
    list_any-IsPermutation p xs (reverse xs) (IsPermutation-reverse xs)
    ∙ list_any-first p (reverse xs)
    ∙ ap (ltb (suffix_len (λ x. not (p x)) xs)) (length-reverse xs)

-- the element before the longest end that lacks p passes it
pub last-passes : (p : ℕ → Bool) (xs : List ℕ) (k : ℕ) → k + suffix_len (λ x. not (p x)) xs + 1 ≡ length xs → p (get_or xs k 0) ≡ true
last-passes p xs k e =
    let n : ℕ = suffix_len (λ x. not (p x)) xs in
    let inside : n < length xs = omega (arith, e) in
    let place : length xs - 1 - n ≡ k = omega (arith, e) in
    let inside-2 : n < length (reverse xs) = omega (arith, length-reverse xs) in
    ap p (ap (λ i. get_or xs i 0) (sym place) ∙ sym (get_or-reverse xs n 0 inside)) ∙ passes_at_first p (reverse xs) 0 inside-2

rest-by : (b : Bool) (n : ℕ) (t : List ℕ) → n ≤ length t → cond b (drop (n + 1) t) t ≡ drop (cond b (length (take n t) + 1) 0) t
rest-by true n t h = ap (λ k. drop (k + 1) t) (sym (length-take-le n t h))
rest-by false n t h = refl

-- the rest is what stands from the place on where the upstream version begins
pub rest_of-drop : (t : List ℕ) → rest_of t ≡ drop (upstream_start t) t
unfolding rest_of upstream_start epoch_text has_epoch
rest_of-drop t =
    rest-by (list_any is_colon t) (position_or_len is_colon t) t (prefix_len-le-length (λ c. not (is_colon c)) t)

start-by : (b : Bool) (n : ℕ) (t : List ℕ) → n ≤ length t → b ≡ ltb n (length t) → cond b (length (take n t) + 1) 0 ≤ length t
start-by true n t h e = omega (arith, length-take-le n t h, ltb-true n (length t) (sym e))
start-by false n t h e = omega arith

pub upstream_start-le : (t : List ℕ) → upstream_start t ≤ length t
unfolding upstream_start epoch_text has_epoch
upstream_start-le t =
    start-by (list_any is_colon t) (position_or_len is_colon t) t (prefix_len-le-length (λ c. not (is_colon c)) t) (list_any-first is_colon t)

pub length-rest_of : (t : List ℕ) → length (rest_of t) + upstream_start t ≡ length t
length-rest_of t = omega (arith, ap length (rest_of-drop t), length-drop (upstream_start t) t, upstream_start-le t)

-- where the text has no colon
none-from_cond : (b : Bool) (m : ℕ) → cond b (Some m) None ≡ None → b ≡ false
none-from_cond true m e = cc
none-from_cond false m e = refl

has_epoch-none : (t : List ℕ) → position is_colon t ≡ None → has_epoch t ≡ false
unfolding has_epoch
has_epoch-none t e =
    list_any-first is_colon t ∙ none-from_cond (ltb (position_or_len is_colon t) (length t)) (position_or_len is_colon t) e

pub record NoEpoch (t : List ℕ) : Type 0 where
  pub number : 0 ≡ epoch_of t
  pub start : 0 ≡ upstream_start t
  pub fault : epoch_fault t ≡ None

pub no_epoch : (t : List ℕ) → position is_colon t ≡ None → NoEpoch t
unfolding epoch_of upstream_start epoch_fault
no_epoch t e =
    let n = has_epoch-none t e in record { number = rw n refl; start = rw n refl; fault = rw n refl }

-- where it has one
pub some-from_cond : (b : Bool) (m i : ℕ) → cond b (Some m) None ≡ Some i → (b ≡ true) × (m ≡ i)
some-from_cond true m i e = (refl, cc)
some-from_cond false m i e = cc

pub record EpochAt (t : List ℕ) (i : ℕ) : Type 0 where
  pub inside : i < length t
  pub number : epoch_of t ≡ value_of (take i t)
  pub start : i + 1 ≡ upstream_start t
  pub fault : epoch_fault t ≡ number_fault (take i t)

pub epoch_at : (t : List ℕ) (i : ℕ) → position is_colon t ≡ Some i → EpochAt t i
unfolding epoch_of upstream_start epoch_fault epoch_text has_epoch
epoch_at t i e =
    let p : ℕ = position_or_len is_colon t in
    let k = some-from_cond (ltb p (length t)) p i e in
    let written : list_any is_colon t ≡ true = list_any-first is_colon t ∙ k.0 in
    let within : p < length t = ltb-true p (length t) k.0 in
    record {
      inside = omega (arith, k.1);
      number = rw written (ap (λ n. value_of (take n t)) k.1);
      start = rw written (omega (arith, length-take-le p t (omega arith), k.1));
      fault = rw written (ap (λ n. number_fault (take n t)) k.1);
    }

-- the upstream version, where no revision is written
pub record NoRevision (t : List ℕ) : Type 0 where
  pub part : upstream_text t ≡ rest_of t
  pub end : upstream_end t ≡ length t
  pub fault : revision_fault t ≡ None
  pub upstream : upstream_fault t ≡ upstream_part_fault (upstream_start t) (rest_of t)

pub has_revision-is : (t : List ℕ) → has_revision t ≡ list_any is_hyphen (rest_of t)
unfolding has_revision
has_revision-is t = refl

pub no_revision : (t : List ℕ) → has_revision t ≡ false → NoRevision t
unfolding upstream_text upstream_end revision_fault upstream_fault
no_revision t n = record {
  part = rw n refl;
  end = rw n (omega (arith, length-rest_of t));
  fault = rw n refl;
  upstream = rw n refl;
}

-- and where one is written, after a hyphen at the place i of the rest
pub record RevisionAt (t : List ℕ) (i : ℕ) : Type 0 where
  pub part : upstream_text t ≡ take i (rest_of t)
  pub revision : revision_text t ≡ drop (i + 1) (rest_of t)
  pub end : upstream_end t ≡ upstream_start t + i
  pub inside : i < length (rest_of t)
  pub upstream : upstream_fault t ≡ upstream_part_fault (upstream_start t) (take i (rest_of t))
  pub fault : revision_fault t ≡ revision_part_fault (upstream_start t + i + 1) (drop (i + 1) (rest_of t))

-- how many bytes stand after the last hyphen
abbrev pub hyphens : List ℕ → ℕ
hyphens r = suffix_len (λ c. not (is_hyphen c)) r

pub revision_at : (t : List ℕ) (i : ℕ) → has_revision t ≡ true → i + hyphens (rest_of t) + 1 ≡ length (rest_of t) → RevisionAt t i
unfolding upstream_text upstream_end revision_fault upstream_fault revision_text
revision_at t i w e =
    let r : List ℕ = rest_of t in
    let front : length r - hyphens r - 1 ≡ i = omega (arith, e) in
    let back : length r - hyphens r ≡ i + 1 = omega (arith, e) in
    let len : length (take i r) ≡ i = length-take-le i r (omega (arith, e)) in
    record {
      part = rw w (ap (λ n. take n r) front);
      revision = ap (λ n. drop n r) back;
      end = rw w (ap (λ n. upstream_start t + length (take n r)) front ∙ ap (λ n. upstream_start t + n) len);
      inside = omega (arith, e);
      upstream = rw w (ap (λ n. upstream_part_fault (upstream_start t) (take n r)) front);
      fault =
          rw w (ap (λ n. revision_part_fault (upstream_start t + length (take n r) + 1) (drop (length r - hyphens r) r)) front
          ∙ ap (λ n. revision_part_fault (upstream_start t + n + 1) (drop (length r - hyphens r) r)) len
          ∙ ap (λ n. revision_part_fault (upstream_start t + i + 1) (drop n r)) back);
    }

option_or-None : (f : Option VersionFault) → option_or f None ≡ f
option_or-None None = refl
option_or-None (Some fault) = refl

-- the faults of the two parts, by the rest alone
pub cut_whole : (t r : List ℕ) → r ≡ rest_of t → list_any is_hyphen r ≡ false
    → (length t ≡ upstream_end t) × (option_or (upstream_fault t) (revision_fault t) ≡ upstream_part_fault (upstream_start t) r)
cut_whole t r e n =
    let facts = no_revision t (has_revision-is t ∙ ap (list_any is_hyphen) (sym e) ∙ n) in
    (sym facts.end, ap (option_or (upstream_fault t)) facts.fault ∙ option_or-None (upstream_fault t) ∙ facts.upstream ∙ ap (upstream_part_fault (upstream_start t)) (sym e))

pub record CutAt (t r : List ℕ) (i : ℕ) : Type 0 where
  pub end : upstream_start t + i ≡ upstream_end t
  pub inside : i < length r
  pub room : upstream_start t + length r ≡ length t
  pub upstream : upstream_fault t ≡ upstream_part_fault (upstream_start t) (take i r)
  pub revision : revision_fault t ≡ revision_part_fault (upstream_start t + i + 1) (drop (i + 1) r)

pub cut_at : (t r : List ℕ) (i : ℕ) → r ≡ rest_of t → (list_any is_hyphen r ≡ true) × (i + hyphens r + 1 ≡ length r) → CutAt t r i
cut_at t r i e h =
    let facts = revision_at t i (has_revision-is t ∙ ap (list_any is_hyphen) (sym e) ∙ h.0) (rw e at h.1) in
    record {
      end = sym facts.end;
      inside = omega (arith, ap length e, facts.inside);
      room = omega (arith, ap length e, length-rest_of t);
      upstream = facts.upstream ∙ ap (λ s. upstream_part_fault (upstream_start t) (take i s)) (sym e);
      revision = facts.fault ∙ ap (λ s. revision_part_fault (upstream_start t + i + 1) (drop (i + 1) s)) (sym e);
    }
