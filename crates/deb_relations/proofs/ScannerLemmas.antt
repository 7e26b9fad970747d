-- The pieces that the scanner gives, as the reader's words have them.
use Rattle.std.proofs.Common.{◌≡◌, ◌≢◌, ℕ, zero, suc, ◌<◌, ◌≤◌, ◌+◌, true, false, not, ◌&&◌, eqb, List, [], ◌∷◌, ◌++◌, length, take, drop, get_or, refl, sym, ap, subst, ◌∙◌, arith, Option, Some, None, MatchOption, Bor, IsOk, Err}
use Rattle.std.specs.List.{list_all, take_while}
use Rattle.std.specs.Option.{option_map, is_none}
use Rattle.std.specs.Str.{IsUtf8, IsCharBoundary}
use Rattle.std.proofs.lemmas.Str.{IsCharBoundary-start, IsCharBoundary-after_ascii}
use Rattle.std.proofs.lemmas.Bool.Decides.{nat_tests}
use Rattle.deb_version.specs.declared.fault.VersionFault.{VersionFault}
use Rattle.deb_version.specs.Syntax.{fault_of, reading_of, is_version_text}
use Rattle.deb_relations.specs.declared.scanner.Class.{Class}
use Rattle.deb_relations.specs.declared.scanner.Class.TheVariants.{White, Solid, Package, Arch, Profile, Op}
use Rattle.deb_relations.specs.declared.fault.RelationFault.{RelationFault}
use Rattle.deb_relations.specs.declared.fault.RelationFault.TheVariants as relation
use Rattle.deb_version.specs.declared.fault.VersionFault.TheVariants as version
use Rattle.deb_relations.specs.Faults.{fault_from_version}
use Rattle.deb_relations.specs.Grammar.{is_white, is_profile_char, is_op_char}
use Rattle.deb_relations.specs.Names.{is_lower_or_digit, is_package_char, is_arch_char}
use Rattle.deb_relations.specs.Reader.{skip, strip, cut, is_solid}
use Rattle.deb_relations.specs.Reading.{version_fault}
use Rattle.deb_relations.specs.Scanner.{test_of, text_of, halves_of}
use Rattle.deb_relations.proofs.FrontLemmas.{front-is}
use Rattle.deb_relations.proofs.CutLemmas.{strip-here, strip-other, cut-here, cut-none}
use Rattle.deb_version.proofs.ReadingLemmas.{fault_of-IsOk, fault_of-Err}

after-ascii : (t : List ℕ) (n : ℕ) → IsUtf8 t → n ≤ length t → ((k : ℕ) → k < n → get_or t k 0 < 128) → IsCharBoundary t n
after-ascii t zero u h p = IsCharBoundary-start t u
after-ascii t (suc m) u h p =
    let e : m + 1 ≡ suc m = omega arith in
    subst (IsCharBoundary t) e (IsCharBoundary-after_ascii t m u (omega arith) (p m (omega arith)))

white-ascii : (c : ℕ) → is_white c ≡ true → c < 128
unfolding is_white
white-ascii c h = grind (arith, nat_tests)

package-ascii : (c : ℕ) → is_package_char c ≡ true → c < 128
unfolding is_package_char is_lower_or_digit
package-ascii c h = grind (arith, nat_tests)

arch-ascii : (c : ℕ) → is_arch_char c ≡ true → c < 128
unfolding is_arch_char is_lower_or_digit
arch-ascii c h = grind (arith, nat_tests)

profile-ascii : (c : ℕ) → is_profile_char c ≡ true → c < 128
unfolding is_profile_char
profile-ascii c h = grind (arith, nat_tests)

op-ascii : (c : ℕ) → is_op_char c ≡ true → c < 128
unfolding is_op_char
op-ascii c h = grind (arith, nat_tests)

not-solid-white : (c : ℕ) → is_solid c ≡ false → is_white c ≡ true
unfolding is_solid
not-solid-white c h = elim (is_white c) as (λ v. not v ≡ false → v ≡ true) [ true ↦ λ e. refl | false ↦ λ e. absurd (cc) ] h

before-white : (t : List ℕ) (n : ℕ) → n ≤ length t → (n < length t → is_solid (get_or t n 0) ≡ false) → IsCharBoundary t n
before-white t n h s = (h, λ l k. absurd (omega (arith, white-ascii (get_or t n 0) (not-solid-white (get_or t n 0) (s l)))))

boundary : (class : Class) (t : List ℕ) (n : ℕ) → IsUtf8 t → n ≤ length t → ((k : ℕ) → k < n → test_of class (get_or t k 0) ≡ true) → (n < length t → test_of class (get_or t n 0) ≡ false) → IsCharBoundary t n
boundary White t n u h p s = after-ascii t n u h (λ k l. white-ascii _ (p k l))
boundary Solid t n u h p s = before-white t n h s
boundary Package t n u h p s = after-ascii t n u h (λ k l. package-ascii _ (p k l))
boundary Arch t n u h p s = after-ascii t n u h (λ k l. arch-ascii _ (p k l))
boundary Profile t n u h p s = after-ascii t n u h (λ k l. profile-ascii _ (p k l))
boundary Op t n u h p s = after-ascii t n u h (λ k l. op-ascii _ (p k l))

-- where the longest front of a class ends in a text
pub record EndsAt (class : Class) (t : List ℕ) (n : ℕ) : Type 0 where
  pub place : IsCharBoundary t n
  pub front : take n t ≡ take_while (test_of class) t
  pub back : drop n t ≡ skip (test_of class) t

pub ends-at : (class : Class) (bytes t : List ℕ) (n : ℕ) → bytes ≡ t → IsUtf8 t → n ≤ length bytes → ((k : ℕ) → k < n → test_of class (get_or bytes k 0) ≡ true) → (n < length bytes → test_of class (get_or bytes n 0) ≡ false) → EndsAt class t n
ends-at class bytes t n e u h p s =
    let u' : IsUtf8 bytes = subst IsUtf8 (sym e) u in
    let two = front-is (test_of class) bytes n h p s in
    subst (λ (x : List ℕ). EndsAt class x n) e (record { place = boundary class bytes n u' h p s; front = two.0; back = two.1 })

pub strip-is : (c : ℕ) (t : List ℕ) (r : Option (Bor (List ℕ))) → MatchOption r ((rest : List ℕ) → t ≢ c ∷ rest) (λ x. t ≡ c ∷ x.now) → option_map text_of r ≡ strip c t
strip-is c t None h = sym (strip-other c t h)
strip-is c t (Some x) h = sym (ap (strip c) h ∙ strip-here c x.now)

all-not : (c : ℕ) (xs : List ℕ) → ((i : ℕ) → i < length xs → get_or xs i 0 ≢ c) → list_all (λ x. not (eqb x c)) xs ≡ true
all-not c [] h = refl
all-not c (x ∷ xs) h =
    elim (eqb x c) as (λ v. eqb x c ≡ v → (not v && list_all (λ x. not (eqb x c)) xs) ≡ true) [
      | true ↦ λ e. absurd (h 0 (omega arith) (grind (arith, nat_tests)))
      | false ↦ λ e. all-not c xs (λ i l. h (suc i) (omega arith))
    ] refl

pub cut-parts : (c : ℕ) (t : List ℕ) (r : Option (Bor (List ℕ) × Bor (List ℕ)))
    → MatchOption r ((i : ℕ) → i < length t → get_or t i 0 ≢ c) (λ x. (t ≡ x.0.now ++ (c ∷ x.1.now)) × ((i : ℕ) → i < length x.0.now → get_or x.0.now i 0 ≢ c))
    → option_map halves_of r ≡ cut c t
cut-parts c t None h = sym (cut-none c t (all-not c t h))
cut-parts c t (Some x) h = sym (ap (cut c) h.0 ∙ cut-here c x.0.now x.1.now (all-not c x.0.now h.1))

pub version-read : (t : List ℕ) → IsOk (reading_of t) → is_version_text t ≡ true
unfolding is_version_text
version-read t h = ap is_none (fault_of-IsOk t h)

pub not-version : (t : List ℕ) (fault : VersionFault) → fault_of t ≡ Some fault → is_version_text t ≡ false
unfolding is_version_text
not-version t fault h = ap is_none h

pub fault_from_version-memory : (fault : VersionFault) → fault_from_version fault ≢ relation.Memory → fault ≢ version.Memory
fault_from_version-memory fault h e = h (ap fault_from_version e)

pub version-refused : (t : List ℕ) (fault : VersionFault) (r : RelationFault) → r ≡ fault_from_version fault → (fault ≢ version.Memory → reading_of t ≡ Err fault) → r ≢ relation.Memory → is_version_text t ≡ false
version-refused t fault r e h n = not-version t fault (fault_of-Err t fault (h (fault_from_version-memory fault (λ k. n (e ∙ k)))))

fault_from_version-wanted : (fault : VersionFault) → fault_from_version fault ≡ relation.Memory → fault ≡ version.Memory
fault_from_version-wanted version.Memory e = refl
fault_from_version-wanted _ e = cc

-- memory is wanted for a version alone
pub version-wanted : (t : List ℕ) (fault : VersionFault) (r : RelationFault) → r ≡ fault_from_version fault → (fault ≡ version.Memory → IsOk (reading_of t))
    → r ≡ relation.Memory → is_version_text t ≡ true
version-wanted t fault r e h memory = version-read t (h (fault_from_version-wanted fault (sym e ∙ memory)))

fault_from_version-bad : (fault : VersionFault) → fault ≢ version.Memory → fault_from_version fault ≡ relation.BadVersion fault
fault_from_version-bad version.Memory h = absurd (h refl)
fault_from_version-bad _ h = refl

pub version-told : (t : List ℕ) (fault : VersionFault) (r : RelationFault) → r ≡ fault_from_version fault → (fault ≢ version.Memory → reading_of t ≡ Err fault) → r ≢ relation.Memory → (place : ℕ) → r ≡ version_fault (fault_of t) place
version-told t fault r e h n place =
    let kept : fault ≢ version.Memory = fault_from_version-memory fault (λ k. n (e ∙ k)) in
    e ∙ fault_from_version-bad fault kept ∙ sym (ap (λ o. version_fault o place) (fault_of-Err t fault (h kept)))
