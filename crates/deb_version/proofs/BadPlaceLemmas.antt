-- A fault that names a bad character has its place in the whole text.
use Rattle.std.proofs.Common.{◌≡◌, ℕ, ◌+◌, ◌-◌, ◌<◌, ◌≤◌, ◌==◌, Bool, true, false, not, cond, ltb, List, length, get_or, drop, refl, sym, ap, ◌∙◌, arith, subst, length-take-le, length-drop, get_or-take, Option, None, Some, Err}
use Rattle.std.specs.List.{position, position_or_len}
use Rattle.std.specs.Option.{option_or, option_map}
use Rattle.std.proofs.lemmas.List.{get_or-drop}
use Rattle.std.proofs.lemmas.List.Sums.{passes_at_first}
use borrow.Author.Tests.{ltb-true}
use Rattle.deb_version.specs.declared.fault.VersionFault.{VersionFault}
use Rattle.deb_version.specs.declared.fault.VersionFault.TheVariants.{EpochEmpty, EpochNotNumber, EpochTooLarge, UpstreamBad, RevisionBad}
use Rattle.deb_version.specs.Syntax.{reading_of, fault_of, rest_fault, length_fault, epoch_fault, number_fault, upstream_fault, revision_fault, upstream_part_fault, revision_part_fault, has_revision, upstream_text, revision_text, upstream_start, upstream_end, has_epoch, epoch_text, all_digits, value_of, is_upstream_char, is_revision_char, version_limit, epoch_limit}
use Rattle.deb_version.proofs.CutLemmas.{some-from_cond}
use Rattle.deb_version.proofs.ReadingLemmas.{upstream_place, revision_place, fault_of-Err}

-- a fault that, where it names a bad character, has the place of one in the whole text
abbrev pub StandsIn : List ℕ → Option VersionFault → Type 0
StandsIn t (Some (UpstreamBad place)) = (place < length t) × (is_upstream_char (get_or t place 0) ≡ false)
StandsIn t (Some (RevisionBad place)) = (place < length t) × (is_revision_char (get_or t place 0) ≡ false)
StandsIn t _ = Unit {0}

either : (t : List ℕ) (f g : Option VersionFault) → StandsIn t f → StandsIn t g → StandsIn t (option_or f g)
either t None g p q = q
either t (Some fault) g p q = p

choice : (t : List ℕ) (b : Bool) (f g : Option VersionFault) → StandsIn t f → StandsIn t g → StandsIn t (cond b f g)
choice t true f g p q = p
choice t false f g p q = q

mapped : (t : List ℕ) (bad : ℕ → VersionFault) (o : Option ℕ) → ((place : ℕ) → o ≡ Some place → StandsIn t (Some (bad place)))
    → StandsIn t (option_map bad o)
mapped t bad None h = tt
mapped t bad (Some place) h = h place refl

not-not : (b : Bool) → not b ≡ true → b ≡ false
not-not true e = cc
not-not false e = refl

-- the first character of a part that does not pass stands in the whole text, where the part does from a place on
found : (t part : List ℕ) (start place : ℕ) (test : ℕ → Bool) → start + length part ≤ length t
    → ((i : ℕ) → i < length part → get_or part i 0 ≡ get_or t (start + i) 0)
    → position (λ c. not (test c)) part ≡ Some place
    → (start + place < length t) × (test (get_or t (start + place) 0) ≡ false)
found t part start place test fits same e =
    let n : ℕ = position_or_len (λ c. not (test c)) part in
    let k : (ltb n (length part) ≡ true) × (n ≡ place) = some-from_cond (ltb n (length part)) n place e in
    let inside : n < length part = ltb-true n (length part) k.0 in
    let bad : not (test (get_or part n 0)) ≡ true = passes_at_first (λ c. not (test c)) part 0 inside in
    let here : get_or part n 0 ≡ get_or t (start + place) 0 = same n inside ∙ ap (λ i. get_or t (start + i) 0) k.1 in
    (omega (arith, k.1), ap test (sym here) ∙ not-not _ bad)

upstream_part-stands : (t part : List ℕ) (start : ℕ) → start + length part ≤ length t
    → ((i : ℕ) → i < length part → get_or part i 0 ≡ get_or t (start + i) 0) → StandsIn t (upstream_part_fault start part)
unfolding upstream_part_fault
upstream_part-stands t part start fits same =
    choice t (length part == 0) _ _ tt
    (mapped t _ (position (λ c. not (is_upstream_char c)) part) (λ place. found t part start place is_upstream_char fits same))

revision_part-stands : (t part : List ℕ) (start : ℕ) → start + length part ≤ length t
    → ((i : ℕ) → i < length part → get_or part i 0 ≡ get_or t (start + i) 0) → StandsIn t (revision_part_fault start part)
unfolding revision_part_fault
revision_part-stands t part start fits same =
    choice t (length part == 0) _ _ tt
    (mapped t _ (position (λ c. not (is_revision_char c)) part) (λ place. found t part start place is_revision_char fits same))

upstream-stands : (t : List ℕ) → StandsIn t (upstream_fault t)
unfolding upstream_fault
upstream-stands t =
    let at = upstream_place t in
    let s : ℕ = upstream_start t in
    let n : ℕ = upstream_end t - s in
    let len : length (upstream_text t) ≡ n =
    sym (ap length at.part) ∙ length-take-le n (drop s t) (omega (arith, at.order, at.inside, length-drop s t)) in
    upstream_part-stands t (upstream_text t) s (omega (arith, len, at.order, at.inside))
    (λ i h. ap (λ xs. get_or xs i 0) (sym at.part) ∙ get_or-take n (drop s t) i 0 (omega (arith, h, len)) ∙ get_or-drop s t i 0)

revision-by : (t : List ℕ) (b : Bool) → has_revision t ≡ b
    → StandsIn t (cond b (revision_part_fault (upstream_end t + 1) (revision_text t)) None)
revision-by t false e = tt
revision-by t true e =
    let at = revision_place t e in
    revision_part-stands t (revision_text t) (upstream_end t + 1)
    (omega (arith, at.inside, ap length at.after, length-drop (upstream_end t + 1) t))
    (λ i h. ap (λ xs. get_or xs i 0) (sym at.after) ∙ get_or-drop (upstream_end t + 1) t i 0)

revision-stands : (t : List ℕ) → StandsIn t (revision_fault t)
unfolding revision_fault
revision-stands t = revision-by t (has_revision t) refl

length-stands : (t : List ℕ) → StandsIn t (length_fault t)
unfolding length_fault
length-stands t = choice t (length t == 0) _ _ tt (choice t (ltb version_limit (length t)) _ _ tt tt)

number-stands : (t digits : List ℕ) → StandsIn t (number_fault digits)
unfolding number_fault
number-stands t digits =
    let large : Option VersionFault = cond (ltb epoch_limit (value_of digits)) (Some EpochTooLarge) None in
    let good : Option VersionFault = cond (not (all_digits digits)) (Some EpochNotNumber) large in
    choice t (length digits == 0) (Some EpochEmpty) good tt
    (choice t (not (all_digits digits)) (Some EpochNotNumber) large tt
    (choice t (ltb epoch_limit (value_of digits)) (Some EpochTooLarge) None tt tt))

epoch-stands : (t : List ℕ) → StandsIn t (epoch_fault t)
unfolding epoch_fault
epoch-stands t = choice t (has_epoch t) (number_fault (epoch_text t)) None (number-stands t (epoch_text t)) tt

fault-stands : (t : List ℕ) → StandsIn t (fault_of t)
unfolding fault_of rest_fault
fault-stands t =
    either t (length_fault t) _ (length-stands t)
    (either t (epoch_fault t) _ (epoch-stands t) (either t (upstream_fault t) _ (upstream-stands t) (revision-stands t)))

-- the fault of a text without a reading
pub refused-stands : (t : List ℕ) (fault : VersionFault) → reading_of t ≡ Err fault → StandsIn t (Some fault)
refused-stands t fault e = subst (StandsIn t) (fault_of-Err t fault e) (fault-stands t)
