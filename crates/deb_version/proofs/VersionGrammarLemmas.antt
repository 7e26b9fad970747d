-- Lemmas behind the law that a text is read where it is a version.
use Rattle.std.proofs.Common.{◌≡◌, subst, ℕ, ◌+◌, ◌-◌, ◌<◌, ◌≤◌, Bool, true, false, not, ◌||◌, ◌&&◌, cond, ltb, eqb, List, [], ◌∷◌, ◌++◌, length, take, drop, reverse, suc, refl, sym, ap, ◌∙◌, arith, append-nil, append_assoc, length-append, Option, None, Some, Ok}
use Rattle.std.specs.Prelude.{IfSome}
use Rattle.std.specs.Char.{is_ascii_digit}
use Rattle.std.specs.List.{list_any, list_all, position, position_or_len, suffix_len}
use Rattle.std.specs.Option.{option_map, option_or}
use Rattle.std.proofs.Math.Seq.{take-append_seam, drop-append-add}
use Rattle.std.proofs.lemmas.List.{reverse-append, length-reverse}
use Rattle.std.proofs.lemmas.List.Folds.{list_any-append}
use Rattle.std.proofs.lemmas.List.Sorted.{list_any-IsPermutation, IsPermutation-reverse}
use Rattle.std.proofs.lemmas.Bool.Decides.{nat_tests}
use Rattle.std.proofs.lemmas.Bool.{and_parts, not-true, not-false}
use borrow.Author.Tests.{ltb-false, eqb-true}
use Rattle.deb_version.specs.declared.fault.VersionFault.{VersionFault}
use Rattle.deb_version.specs.declared.fault.VersionFault.TheVariants.{Empty, EpochEmpty, EpochNotNumber, EpochTooLarge, UpstreamEmpty, UpstreamBad, RevisionEmpty, RevisionBad, TooLong}
use Rattle.deb_version.specs.Syntax.{Parts, is_colon, is_hyphen, is_upstream_char, is_revision_char, all_digits, value_of, has_epoch, epoch_text, epoch_of, rest_of, has_revision, upstream_text, revision_text, upstream_start, upstream_end, parts_of, length_fault, number_fault, upstream_part_fault, revision_part_fault, epoch_fault, upstream_fault, revision_fault, rest_fault, fault_of, ok_unless, reading_of, version_limit, epoch_limit}
use Rattle.deb_version.specs.Grammar.{epoch_part, revision_part, IsEpoch, IsUpstream, IsRevision, IsVersion}
use Rattle.deb_version.proofs.CutLemmas.{list_any-first}
use Rattle.deb_version.proofs.LawLemmas.{text_parts}
use Rattle.deb_version.proofs.ReadingLemmas.{ok_unless-Ok}

-- what no fault says
left-None : (f g : Option VersionFault) → option_or f g ≡ None → (f ≡ None) × (g ≡ None)
left-None None g e = (refl, e)
left-None (Some fault) g e = cc

cond-None : (b : Bool) (fault : VersionFault) (f : Option VersionFault) → cond b (Some fault) f ≡ None → (b ≡ false) × (f ≡ None)
cond-None true fault f e = cc
cond-None false fault f e = (refl, e)

fault-None : (b : Bool) (fault : VersionFault) (f : Option VersionFault) → b ≡ false → f ≡ None → cond b (Some fault) f ≡ None
fault-None b fault f e h = rw e h

some-length : (n : ℕ) → eqb n 0 ≡ false → 0 < n
some-length n e = grind (arith, nat_tests)

length-some : (n : ℕ) → 0 < n → eqb n 0 ≡ false
length-some n h = grind (arith, nat_tests)

all-by : (a l o : Bool) → l ≡ not o → (a && l) ≡ not (not a || o)
all-by true l o e = e
all-by false l o e = refl

-- all pass where none fails
list_all-none : (q : ℕ → Bool) (xs : List ℕ) → list_all q xs ≡ not (list_any (λ c. not (q c)) xs)
list_all-none q [] = refl
list_all-none q (x ∷ xs) = all-by (q x) (list_all q xs) (list_any (λ c. not (q c)) xs) (list_all-none q xs)

place-None : (bad : ℕ → VersionFault) (b : Bool) (place : ℕ) → option_map bad (cond b (Some place) None) ≡ None → b ≡ false
place-None bad true place e = cc
place-None bad false place e = refl

all-good : (bad : ℕ → VersionFault) (q : ℕ → Bool) (part : List ℕ) → option_map bad (position (λ c. not (q c)) part) ≡ None → list_all q part ≡ true
all-good bad q part e =
    let none = list_any-first (λ c. not (q c)) part ∙ place-None bad _ _ e in
    list_all-none q part ∙ ap not none

good-none : (bad : ℕ → VersionFault) (q : ℕ → Bool) (part : List ℕ) → list_all q part ≡ true → option_map bad (position (λ c. not (q c)) part) ≡ None
good-none bad q part e =
    let none : list_any (λ c. not (q c)) part ≡ false = not-true (list_any (λ c. not (q c)) part) (sym (list_all-none q part) ∙ e) in
    ap (λ b. option_map bad (cond b (Some (position_or_len (λ c. not (q c)) part)) None)) (sym (list_any-first (λ c. not (q c)) part) ∙ none)

upstream-is : (start : ℕ) (part : List ℕ) → upstream_part_fault start part ≡ None → IsUpstream part
unfolding upstream_part_fault
upstream-is start part e =
    let two = cond-None (eqb (length part) 0) UpstreamEmpty _ e in
    (some-length (length part) two.0, all-good (λ place. UpstreamBad (start + place)) is_upstream_char part two.1)

upstream-only : (start : ℕ) (part : List ℕ) → IsUpstream part → upstream_part_fault start part ≡ None
unfolding upstream_part_fault
upstream-only start part h =
    fault-None (eqb (length part) 0) UpstreamEmpty _ (length-some (length part) h.0) (good-none (λ place. UpstreamBad (start + place)) is_upstream_char part h.1)

revision-is : (start : ℕ) (part : List ℕ) → revision_part_fault start part ≡ None → IsRevision part
unfolding revision_part_fault
revision-is start part e =
    let two = cond-None (eqb (length part) 0) RevisionEmpty _ e in
    (some-length (length part) two.0, all-good (λ place. RevisionBad (start + place)) is_revision_char part two.1)

revision-only : (start : ℕ) (part : List ℕ) → IsRevision part → revision_part_fault start part ≡ None
unfolding revision_part_fault
revision-only start part h =
    fault-None (eqb (length part) 0) RevisionEmpty _ (length-some (length part) h.0) (good-none (λ place. RevisionBad (start + place)) is_revision_char part h.1)

epoch-is : (digits : List ℕ) → number_fault digits ≡ None → IsEpoch (Some digits) (value_of digits)
unfolding number_fault
epoch-is digits e =
    let first = cond-None (eqb (length digits) 0) EpochEmpty _ e in
    let second = cond-None (not (all_digits digits)) EpochNotNumber _ first.1 in
    let third = cond-None (ltb epoch_limit (value_of digits)) EpochTooLarge _ second.1 in
    (some-length (length digits) first.0, not-false (all_digits digits) second.0, refl, ltb-false _ _ third.0)

epoch-only : (digits : List ℕ) (number : ℕ) → IsEpoch (Some digits) number → number_fault digits ≡ None
unfolding number_fault
epoch-only digits number h =
    let small : value_of digits ≤ epoch_limit = omega (arith, h.2, h.3) in
    fault-None (eqb (length digits) 0) EpochEmpty _ (length-some (length digits) h.0)
    (fault-None (not (all_digits digits)) EpochNotNumber _ (ap not h.1)
    (fault-None (ltb epoch_limit (value_of digits)) EpochTooLarge None (grind (arith, nat_tests)) refl))

-- the cuts of what is joined
any-none : (b c : Bool) → (b || c) ≡ false → (b ≡ false) × (c ≡ false)
any-none true c e = cc
any-none false c e = (refl, e)

first-by : (b : Bool) (n m : ℕ) → b ≡ false → n ≡ m → cond (not b) (1 + n) 0 ≡ suc m
first-by true n m e h = cc
first-by false n m e h = omega (arith, h)

-- the first that passes stands behind a front in which none does
position_or_len-seam : (p : ℕ → Bool) (front back : List ℕ) (c : ℕ) → list_any p front ≡ false → p c ≡ true
    → position_or_len p (front ++ c ∷ back) ≡ length front
position_or_len-seam p [] back c e h = rw h refl
position_or_len-seam p (x ∷ xs) back c e h =
    let two = any-none (p x) (list_any p xs) e in
    first-by (p x) (position_or_len p (xs ++ c ∷ back)) (length xs) two.0 (position_or_len-seam p xs back c two.1 h)

-- and the last that passes before a back in which none does
suffix_len-seam : (p : ℕ → Bool) (front back : List ℕ) (c : ℕ) → list_any p back ≡ false → p c ≡ true
    → suffix_len (λ x. not (p x)) (front ++ c ∷ back) ≡ length back
suffix_len-seam p front back c e h =
    let turned : reverse (front ++ c ∷ back) ≡ reverse back ++ c ∷ reverse front =
    reverse-append front (c ∷ back)
    ∙ ap (λ xs. xs ++ reverse front) (reverse-append (c ∷ []) back)
    ∙ append_assoc (reverse back) (c ∷ []) (reverse front) in
    let none : list_any p (reverse back) ≡ false = sym (list_any-IsPermutation p back (reverse back) (IsPermutation-reverse back)) ∙ e in
    ap (position_or_len p) turned ∙ position_or_len-seam p (reverse back) (reverse front) c none h ∙ length-reverse back

any-joined : (b c : Bool) → c ≡ true → (b || c) ≡ true
any-joined true c e = refl
any-joined false c e = e

any-apart : (b c : Bool) → b ≡ false → c ≡ false → (b || c) ≡ false
any-apart true c e h = cc
any-apart false c e h = h

list_any-seam : (p : ℕ → Bool) (front back : List ℕ) (c : ℕ) → p c ≡ true → list_any p (front ++ c ∷ back) ≡ true
list_any-seam p front back c h =
    list_any-append p front (c ∷ back) ∙ any-joined (list_any p front) (p c || list_any p back) (ap (λ b. b || list_any p back) h)

-- none of a list passes where each has what no passing one has
none-by : (q p : ℕ → Bool) → ((c : ℕ) → q c ≡ true → p c ≡ false) → (xs : List ℕ) → list_all q xs ≡ true → list_any p xs ≡ false
none-by q p f [] h = refl
none-by q p f (x ∷ xs) h =
    let two = and_parts (q x) (list_all q xs) h in
    any-apart (p x) (list_any p xs) (f x two.0) (none-by q p f xs two.1)

apart-by : (q : ℕ → Bool) (n c : ℕ) (b : Bool) → q n ≡ false → eqb c n ≡ b → q c ≡ true → eqb c n ≡ false
apart-by q n c true e h good = let same : c ≡ n = eqb-true c n h in let k : q c ≡ q n = ap q same in cc
apart-by q n c false e h good = h

digit-no_colon : (c : ℕ) → is_ascii_digit c ≡ true → is_colon c ≡ false
digit-no_colon c h = apart-by is_ascii_digit 58 c (eqb c 58) refl refl h

revision-no_colon : (c : ℕ) → is_revision_char c ≡ true → is_colon c ≡ false
unfolding is_revision_char
revision-no_colon c h = apart-by is_revision_char 58 c (eqb c 58) refl refl h

revision-no_hyphen : (c : ℕ) → is_revision_char c ≡ true → is_hyphen c ≡ false
unfolding is_revision_char
revision-no_hyphen c h = apart-by is_revision_char 45 c (eqb c 45) refl refl h

-- the epoch and the rest of what is joined
record EpochCut (text rest : List ℕ) (number : ℕ) : Type 0 where
  pub behind : rest_of text ≡ rest
  pub value : epoch_of text ≡ number
  pub fault : epoch_fault text ≡ None

epoch-cut : (text rest : List ℕ) (written : Option (List ℕ)) (number : ℕ) → text ≡ epoch_part written ++ rest → IsEpoch written number
    → (written ≡ None → list_any is_colon rest ≡ false) → EpochCut text rest number
unfolding rest_of epoch_of epoch_fault has_epoch epoch_text
epoch-cut text rest None number e h none =
    let no : list_any is_colon text ≡ false = ap (list_any is_colon) e ∙ none refl in
    record { behind = rw no e; value = rw no (sym h); fault = rw no refl }
epoch-cut text rest (Some digits) number e h none =
    let whole : text ≡ digits ++ 58 ∷ rest = e ∙ append_assoc digits (58 ∷ []) rest in
    let free : list_any is_colon digits ≡ false = none-by is_ascii_digit is_colon digit-no_colon digits h.1 in
    let has : list_any is_colon text ≡ true = ap (list_any is_colon) whole ∙ list_any-seam is_colon digits rest 58 refl in
    let place : position_or_len is_colon text ≡ length digits = ap (position_or_len is_colon) whole ∙ position_or_len-seam is_colon digits rest 58 free refl in
    let front : take (position_or_len is_colon text) text ≡ digits = ap (λ n. take n text) place ∙ ap (take (length digits)) whole ∙ take-append_seam digits (58 ∷ rest) in
    record {
      behind = rw has (ap (λ n. drop (n + 1) text) place ∙ ap (drop (length digits + 1)) whole ∙ drop-append-add digits (58 ∷ rest) 1);
      value = rw has (ap value_of front ∙ sym h.2);
      fault = rw has (ap number_fault front ∙ epoch-only digits number h);
    }

-- the upstream version and the revision of what is joined
record RevisionCut (text upstream : List ℕ) (revision : Option (List ℕ)) : Type 0 where
  pub front : upstream_text text ≡ upstream
  pub back : cond (has_revision text) (Some (revision_text text)) None ≡ revision
  pub fault : revision_fault text ≡ None

revision-cut : (text upstream : List ℕ) (revision : Option (List ℕ)) → rest_of text ≡ upstream ++ revision_part revision
    → (revision ≡ None → list_any is_hyphen upstream ≡ false) → IfSome revision IsRevision → RevisionCut text upstream revision
unfolding has_revision upstream_text revision_text revision_fault
revision-cut text upstream None e none h =
    let whole : rest_of text ≡ upstream = e ∙ append-nil upstream in
    let no : list_any is_hyphen (rest_of text) ≡ false = ap (list_any is_hyphen) whole ∙ none refl in
    record { front = rw no whole; back = rw no refl; fault = rw no refl }
revision-cut text upstream (Some revision) e none h =
    let free : list_any is_hyphen revision ≡ false = none-by is_revision_char is_hyphen revision-no_hyphen revision h.1 in
    let has : list_any is_hyphen (rest_of text) ≡ true = ap (list_any is_hyphen) e ∙ list_any-seam is_hyphen upstream revision 45 refl in
    let size : length (rest_of text) ≡ length upstream + suc (length revision) = ap length e ∙ length-append upstream (45 ∷ revision) in
    let last : suffix_len (λ c. not (is_hyphen c)) (rest_of text) ≡ length revision =
    ap (suffix_len (λ c. not (is_hyphen c))) e ∙ suffix_len-seam is_hyphen upstream revision 45 free refl in
    let until : length (rest_of text) - suffix_len (λ c. not (is_hyphen c)) (rest_of text) - 1 ≡ length upstream = omega (arith, size, last) in
    let from : length (rest_of text) - suffix_len (λ c. not (is_hyphen c)) (rest_of text) ≡ length upstream + 1 = omega (arith, size, last) in
    let before = ap (λ n. take n (rest_of text)) until ∙ ap (take (length upstream)) e ∙ take-append_seam upstream (45 ∷ revision) in
    let after = ap (λ n. drop n (rest_of text)) from ∙ ap (drop (length upstream + 1)) e ∙ drop-append-add upstream (45 ∷ revision) 1 in
    record {
      front = rw has before;
      back = rw has (ap Some after);
      fault = rw has (ap (revision_part_fault _) after ∙ revision-only _ revision h);
    }

epoch_part-cond : (b : Bool) (digits : List ℕ) → cond b (digits ++ 58 ∷ []) [] ≡ epoch_part (cond b (Some digits) None)
epoch_part-cond true digits = refl
epoch_part-cond false digits = refl

revision_part-cond : (b : Bool) (revision : List ℕ) → cond b (45 ∷ revision) [] ≡ revision_part (cond b (Some revision) None)
revision_part-cond true revision = refl
revision_part-cond false revision = refl

epoch-cond : (b : Bool) (digits : List ℕ) → cond b (number_fault digits) None ≡ None → IsEpoch (cond b (Some digits) None) (cond b (value_of digits) 0)
epoch-cond true digits e = epoch-is digits e
epoch-cond false digits e = refl

revision-cond : (b : Bool) (start : ℕ) (revision : List ℕ) → cond b (revision_part_fault start revision) None ≡ None → IfSome (cond b (Some revision) None) IsRevision
revision-cond true start revision e = revision-is start revision e
revision-cond false start revision e = tt

none-cond : (b : Bool) (text : List ℕ) → cond b (Some text) None ≡ None → b ≡ false
none-cond true text e = cc
none-cond false text e = refl

size-is : (text : List ℕ) → length_fault text ≡ None → length text ≤ version_limit
unfolding length_fault
size-is text e =
    let two = cond-None (eqb (length text) 0) Empty _ e in
    ltb-false _ _ (cond-None (ltb version_limit (length text)) TooLong None two.1).0

size-only : (text : List ℕ) → 0 < length text → length text ≤ version_limit → length_fault text ≡ None
unfolding length_fault
size-only text some small =
    fault-None (eqb (length text) 0) Empty _ (length-some (length text) some)
    (fault-None (ltb version_limit (length text)) TooLong None (grind (arith, nat_tests)) refl)

-- where no epoch is written the upstream version has no colon
upstream-no_colon : (text : List ℕ) → has_epoch text ≡ false → list_any is_colon (upstream_text text) ≡ false
unfolding has_epoch
upstream-no_colon text e =
    let behind : List ℕ = cond (has_revision text) (45 ∷ revision_text text) [] in
    let whole : text ≡ upstream_text text ++ behind =
    text_parts text ∙ ap (λ b. cond b (epoch_text text ++ 58 ∷ []) [] ++ (upstream_text text ++ behind)) e in
    let none : (list_any is_colon (upstream_text text) || list_any is_colon behind) ≡ false =
    sym (list_any-append is_colon (upstream_text text) behind) ∙ ap (list_any is_colon) (sym whole) ∙ e in
    (any-none (list_any is_colon (upstream_text text)) (list_any is_colon behind) none).0

upstream-no_hyphen : (text : List ℕ) → has_revision text ≡ false → list_any is_hyphen (upstream_text text) ≡ false
unfolding has_revision upstream_text
upstream-no_hyphen text e = rw e e

parts-are : (text : List ℕ) → fault_of text ≡ None → IsVersion text (parts_of text)
unfolding fault_of rest_fault parts_of epoch_of epoch_fault upstream_fault revision_fault
parts-are text e =
    let first = left-None (length_fault text) _ e in
    let second = left-None (epoch_fault text) _ first.1 in
    let third = left-None (upstream_fault text) (revision_fault text) second.1 in
    record {
      written = cond (has_epoch text) (Some (epoch_text text)) None;
      joined = text_parts text
          ∙ ap (λ xs. xs ++ (upstream_text text ++ cond (has_revision text) (45 ∷ revision_text text) [])) (epoch_part-cond (has_epoch text) (epoch_text text))
          ∙ ap (λ xs. epoch_part (cond (has_epoch text) (Some (epoch_text text)) None) ++ (upstream_text text ++ xs)) (revision_part-cond (has_revision text) (revision_text text));
      size = size-is text first.0;
      epoch = epoch-cond (has_epoch text) (epoch_text text) second.0;
      upstream = upstream-is (upstream_start text) (upstream_text text) third.0;
      no_colon = λ none. upstream-no_colon text (none-cond (has_epoch text) (epoch_text text) none);
      no_hyphen = λ none. upstream-no_hyphen text (none-cond (has_revision text) (revision_text text) none);
      revision = revision-cond (has_revision text) (upstream_end text + 1) (revision_text text) third.1;
    }

pub versions-is : (text : List ℕ) (parts : Parts) → reading_of text ≡ Ok parts → IsVersion text parts
unfolding reading_of
versions-is text parts e =
    let two = ok_unless-Ok (fault_of text) (parts_of text) parts e in subst (IsVersion text) two.1 (parts-are text two.0)

abbrev made : ℕ → List ℕ → Option (List ℕ) → Parts
made epoch upstream revision = record { epoch = epoch; upstream = upstream; revision = revision }

same-parts : (text : List ℕ) (parts : Parts) → epoch_of text ≡ parts.epoch → upstream_text text ≡ parts.upstream
    → cond (has_revision text) (Some (revision_text text)) None ≡ parts.revision → parts_of text ≡ parts
unfolding parts_of
same-parts text parts e f g =
    let revision : Option (List ℕ) = cond (has_revision text) (Some (revision_text text)) None in
    ap (λ n. made n (upstream_text text) revision) e ∙ ap (λ xs. made parts.epoch xs revision) f ∙ ap (made parts.epoch parts.upstream) g

no-fault : (f g h i : Option VersionFault) → f ≡ None → g ≡ None → h ≡ None → i ≡ None → option_or f (option_or g (option_or h i)) ≡ None
no-fault f g h i a b c d = rw (a, b, c) d

rest-no_colon : (upstream : List ℕ) (revision : Option (List ℕ)) → list_any is_colon upstream ≡ false → IfSome revision IsRevision
    → list_any is_colon (upstream ++ revision_part revision) ≡ false
rest-no_colon upstream None e h = list_any-append is_colon upstream [] ∙ any-apart (list_any is_colon upstream) false e refl
rest-no_colon upstream (Some revision) e h =
    list_any-append is_colon upstream (45 ∷ revision)
    ∙ any-apart (list_any is_colon upstream) (list_any is_colon revision) e (none-by is_revision_char is_colon revision-no_colon revision h.1)

pub versions-only : (text : List ℕ) (parts : Parts) → IsVersion text parts → reading_of text ≡ Ok parts
unfolding reading_of fault_of rest_fault upstream_fault
versions-only text parts v =
    let rest : List ℕ = parts.upstream ++ revision_part parts.revision in
    let front = epoch-cut text rest v.written parts.epoch v.joined v.epoch (λ none. rest-no_colon parts.upstream parts.revision (v.no_colon none) v.revision) in
    let back = revision-cut text parts.upstream parts.revision front.behind v.no_hyphen v.revision in
    let some : 0 < length text =
    omega (arith, v.upstream.0, ap length v.joined, length-append (epoch_part v.written) rest, length-append parts.upstream (revision_part parts.revision)) in
    let good : upstream_part_fault (upstream_start text) (upstream_text text) ≡ None =
    ap (upstream_part_fault (upstream_start text)) back.front ∙ upstream-only (upstream_start text) parts.upstream v.upstream in
    let faultless : fault_of text ≡ None =
    no-fault (length_fault text) (epoch_fault text) _ (revision_fault text) (size-only text some v.size) front.fault good back.fault in
    ap (λ f. ok_unless f (parts_of text)) faultless ∙ ap Ok (same-parts text parts front.value back.front back.back)
