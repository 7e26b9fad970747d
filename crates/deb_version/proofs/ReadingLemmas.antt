-- Lemmas on the reading of a version's text.
use Rattle.std.proofs.Common.{◌≡◌, subst, ℕ, ◌+◌, ◌-◌, ◌<◌, ◌≤◌, Bool, true, false, cond, List, length, get_or, take, drop, refl, sym, ap, ◌∙◌, rules, arith, length-take-le, Option, None, Some, Err, IsOk, Ok}
use Rattle.std.specs.List.{list_any, slice_range, position_or_len}
use Rattle.std.specs.Option.{option_or, option_map}
use Rattle.std.specs.Str.{IsCharBoundary, IsUtf8}
use Rattle.std.proofs.lemmas.List.{get_or-drop, drop-drop, take_all}
use Rattle.std.proofs.lemmas.List.Sums.{passes_at_first}
use borrow.Author.Tests.{ltb-true, eqb-true}
use Rattle.std.proofs.lemmas.Str.{IsCharBoundary-before_ascii, IsCharBoundary-after_ascii, IsCharBoundary-end}
use Rattle.deb_version.specs.declared.fault.VersionFault.{VersionFault}
use Rattle.deb_version.specs.declared.fault.VersionFault.TheVariants.{Memory}
use Rattle.deb_version.specs.Syntax.{rest_fault, reading_of, fault_of, length_fault, epoch_fault, number_fault, upstream_fault, revision_fault, upstream_part_fault, revision_part_fault, has_epoch, has_revision, epoch_text, rest_of, upstream_text, revision_text, upstream_start, upstream_end, is_colon, is_hyphen, ok_unless, parts_of}
use Rattle.deb_version.proofs.CutLemmas.{rest_of-drop, length-rest_of, no_revision, revision_at, hyphens, last-passes, list_any-last, list_any-first, has_revision-is}

-- a value is given where there is no fault, and a fault is told where there is one
pub ok_unless-Ok : {X E : Type 0} (fault : Option E) (value found : X) → ok_unless fault value ≡ Ok found → (fault ≡ None) × (value ≡ found)
ok_unless-Ok None value found e = (refl, cc)
ok_unless-Ok (Some told) value found e = cc

pub ok_unless-IsOk : {X E : Type 0} (fault : Option E) (value : X) → IsOk (ok_unless fault value) → fault ≡ None
ok_unless-IsOk None value h = refl
ok_unless-IsOk (Some told) value h = cc

pub ok_unless-Err : {X E : Type 0} (fault : Option E) (value : X) (told : E) → ok_unless fault value ≡ Err told → fault ≡ Some told
ok_unless-Err None value told e = cc
ok_unless-Err (Some other) value told e = cc

pub reading_of-ok : (t : List ℕ) → fault_of t ≡ None → IsOk (reading_of t)
unfolding reading_of
reading_of-ok t e = rw e refl

pub reading_of-err : (t : List ℕ) (fault : VersionFault) → fault_of t ≡ Some fault → reading_of t ≡ Err fault
unfolding reading_of
reading_of-err t fault e = rw e refl

pub fault_of-IsOk : (t : List ℕ) → IsOk (reading_of t) → fault_of t ≡ None
unfolding reading_of
fault_of-IsOk t h = ok_unless-IsOk (fault_of t) (parts_of t) h

pub fault_of-Err : (t : List ℕ) (fault : VersionFault) → reading_of t ≡ Err fault → fault_of t ≡ Some fault
unfolding reading_of
fault_of-Err t fault e = ok_unless-Err (fault_of t) (parts_of t) fault e

-- no text has want of memory as its fault
abbrev is_memory : Option VersionFault → Bool
is_memory (Some Memory) = true
is_memory _ = false

either : (f g : Option VersionFault) → is_memory f ≡ false → is_memory g ≡ false → is_memory (option_or f g) ≡ false
either None g p q = q
either (Some fault) g p q = p

choice : (b : Bool) (f g : Option VersionFault) → is_memory f ≡ false → is_memory g ≡ false → is_memory (cond b f g) ≡ false
choice true f g p q = p
choice false f g p q = q

placed : (bad : ℕ → VersionFault) (o : Option ℕ) → ((place : ℕ) → is_memory (Some (bad place)) ≡ false) → is_memory (option_map bad o) ≡ false
placed bad None h = refl
placed bad (Some place) h = h place

length_fault-memory : (t : List ℕ) → is_memory (length_fault t) ≡ false
unfolding length_fault
length_fault-memory t = search (choice, rules)

number_fault-memory : (digits : List ℕ) → is_memory (number_fault digits) ≡ false
unfolding number_fault
number_fault-memory digits = search (choice, rules)

upstream_part_fault-memory : (start : ℕ) (part : List ℕ) → is_memory (upstream_part_fault start part) ≡ false
unfolding upstream_part_fault
upstream_part_fault-memory start part = search (choice, placed, rules)

revision_part_fault-memory : (start : ℕ) (part : List ℕ) → is_memory (revision_part_fault start part) ≡ false
unfolding revision_part_fault
revision_part_fault-memory start part = search (choice, placed, rules)

fault_of-memory : (t : List ℕ) → is_memory (fault_of t) ≡ false
unfolding fault_of rest_fault epoch_fault upstream_fault revision_fault
fault_of-memory t =
    search (either, choice, length_fault-memory, number_fault-memory, upstream_part_fault-memory, revision_part_fault-memory, rules)

pub fault_of-not_memory : (t : List ℕ) (fault : VersionFault) → fault_of t ≡ Some fault → fault ≡ Memory → ⊥
fault_of-not_memory t fault e m =
    let yes_memory : is_memory (fault_of t) ≡ true = ap is_memory (e ∙ ap Some m) in
    let no_memory : is_memory (fault_of t) ≡ false = fault_of-memory t in
    cc

-- the hyphen before the revision stands in the whole text where the upstream version ends
pub record RevisionPlace (t : List ℕ) : Type 0 where
  pub inside : upstream_end t < length t
  pub after : drop (upstream_end t + 1) t ≡ revision_text t
  pub mark : get_or t (upstream_end t) 0 ≡ 45
  pub part : slice_range t (upstream_start t) (upstream_end t) ≡ upstream_text t
  pub order : upstream_start t ≤ upstream_end t

pub revision_place : (t : List ℕ) → has_revision t ≡ true → RevisionPlace t
revision_place t w =
    let r : List ℕ = rest_of t in
    let s : ℕ = upstream_start t in
    let i : ℕ = length r - hyphens r - 1 in
    let here : list_any is_hyphen r ≡ true = sym (has_revision-is t) ∙ w in
    let short : hyphens r < length r = ltb-true (hyphens r) (length r) (sym (list_any-last is_hyphen r) ∙ here) in
    let place : i + hyphens r + 1 ≡ length r = omega arith in
    let at = revision_at t i w place in
    let hyphen = last-passes is_hyphen r i place in
    let dropped : drop s t ≡ r = sym (rest_of-drop t) in
    record {
      inside = omega (arith, at.end, length-rest_of t);
      after = ap (λ n. drop n t) (omega (arith, at.end)) ∙ sym (drop-drop (i + 1) s t) ∙ ap (drop (i + 1)) dropped ∙ sym at.revision;
      mark = ap (λ n. get_or t n 0) at.end ∙ sym (get_or-drop s t i 0) ∙ ap (λ xs. get_or xs i 0) dropped ∙ eqb-true _ _ hyphen;
      part = ap (λ n. take (n - s) (drop s t)) at.end ∙ ap (λ n. take n (drop s t)) (omega arith) ∙ ap (take i) dropped ∙ sym at.part;
      order = omega (arith, at.end);
    }

pub record WholePlace (t : List ℕ) : Type 0 where
  pub end : upstream_end t ≡ length t
  pub part : slice_range t (upstream_start t) (upstream_end t) ≡ upstream_text t
  pub order : upstream_start t ≤ upstream_end t

pub whole_place : (t : List ℕ) → has_revision t ≡ false → WholePlace t
whole_place t n =
    let facts = no_revision t n in
    let s : ℕ = upstream_start t in
    let dropped : drop s t ≡ rest_of t = sym (rest_of-drop t) in
    record {
      end = facts.end;
      part = ap (take (upstream_end t - s)) dropped ∙ take_all _ (rest_of t) (omega (arith, facts.end, length-rest_of t)) ∙ sym facts.part;
      order = omega (arith, facts.end, length-rest_of t);
    }

-- where the upstream version stands, whether or not a revision follows it
pub record UpstreamPlace (t : List ℕ) : Type 0 where
  pub order : upstream_start t ≤ upstream_end t
  pub inside : upstream_end t ≤ length t
  pub part : slice_range t (upstream_start t) (upstream_end t) ≡ upstream_text t

upstream_place-by : (t : List ℕ) (b : Bool) → has_revision t ≡ b → UpstreamPlace t
upstream_place-by t true e =
    let at = revision_place t e in record { order = at.order; inside = omega (arith, at.inside); part = at.part }
upstream_place-by t false e =
    let at = whole_place t e in record { order = at.order; inside = omega (arith, at.end); part = at.part }

pub upstream_place : (t : List ℕ) → UpstreamPlace t
upstream_place t = upstream_place-by t (has_revision t) refl

end_boundary-by : (t : List ℕ) (b : Bool) → has_revision t ≡ b → IsCharBoundary t (upstream_end t)
end_boundary-by t true e =
    let at = revision_place t e in IsCharBoundary-before_ascii t (upstream_end t) at.inside (omega (arith, at.mark))
end_boundary-by t false e = subst (IsCharBoundary t) (sym (whole_place t e).end) (IsCharBoundary-end t)

-- no cut falls inside a character
pub end_boundary : (t : List ℕ) → IsCharBoundary t (upstream_end t)
end_boundary t = end_boundary-by t (has_revision t) refl

pub revision_boundary : (t : List ℕ) → IsUtf8 t → has_revision t ≡ true → IsCharBoundary t (upstream_end t + 1)
revision_boundary t u e =
    let at = revision_place t e in IsCharBoundary-after_ascii t (upstream_end t) u at.inside (omega (arith, at.mark))

start_boundary-by : (t : List ℕ) (b : Bool) → IsUtf8 t → list_any is_colon t ≡ b → 0 < upstream_start t → IsCharBoundary t (upstream_start t)
unfolding upstream_start has_epoch epoch_text
start_boundary-by t true u e h =
    let i : ℕ = position_or_len is_colon t in
    let inside : i < length t = ltb-true i (length t) (sym (list_any-first is_colon t) ∙ e) in
    let mark : get_or t i 0 ≡ 58 = eqb-true _ _ (passes_at_first is_colon t 0 inside) in
    let place : upstream_start t ≡ i + 1 = rw e (omega (arith, length-take-le i t (omega arith))) in
    subst (IsCharBoundary t) (sym place) (IsCharBoundary-after_ascii t i u inside (omega (arith, mark)))
start_boundary-by t false u e h =
    let place : upstream_start t ≡ 0 = rw e refl in absurd (omega (arith, place, h))

pub start_boundary : (t : List ℕ) → IsUtf8 t → 0 < upstream_start t → IsCharBoundary t (upstream_start t)
start_boundary t u h = start_boundary-by t (list_any is_colon t) u refl h

-- a revision is written where the upstream version ends before the text does
has_revision-end_by : (t : List ℕ) (b : Bool) → has_revision t ≡ b → upstream_end t < length t → has_revision t ≡ true
has_revision-end_by t true e h = e
has_revision-end_by t false e h = absurd (omega (arith, (whole_place t e).end))

pub has_revision-end : (t : List ℕ) → upstream_end t < length t → has_revision t ≡ true
has_revision-end t h = has_revision-end_by t (has_revision t) refl h

has_revision-whole_by : (t : List ℕ) (b : Bool) → has_revision t ≡ b → length t ≤ upstream_end t → has_revision t ≡ false
has_revision-whole_by t true e h = absurd (omega (arith, (revision_place t e).inside))
has_revision-whole_by t false e h = e

pub has_revision-whole : (t : List ℕ) → length t ≤ upstream_end t → has_revision t ≡ false
has_revision-whole t h = has_revision-whole_by t (has_revision t) refl h
