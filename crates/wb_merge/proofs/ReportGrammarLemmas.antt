-- A line that can be read is written as its words, and so is no other.
use Rattle.std.proofs.Common.{◌≡◌, ◌↔◌, inl, inr, ℕ, suc, ◌+◌, ◌≤◌, Bool, true, false, cond, not, ◌&&◌, List, [], ◌∷◌, ◌++◌, length, take, drop, bytes_eq, nat_le, codes, Option, Some, None, refl, sym, ap, subst, ◌∙◌, arith}
use Rattle.std.specs.List.{list_all, list_any, prefix_len, position_or_len, before_first, after_first}
use Rattle.std.proofs.Math.Seq.{drop-append_seam, take-append_seam}
use Rattle.std.proofs.lemmas.Bool.{and_parts, or_parts}
use Rattle.std.proofs.lemmas.Bool.Decides.{nat_tests}
use Rattle.std.proofs.lemmas.List.{append-nil, append_assoc, drop_all, length-append, take-append-drop, take_all}
use Rattle.std.proofs.lemmas.Slice.Eq.{bytes_eq-Decides}
use Rattle.deb_control.specs.Lines.{is_blank, trim_start, trim}
use Rattle.deb_control.proofs.BlankLemmas.{trim_start-kept, trim_start-blank}
use Rattle.deb_text.specs.Lists.{is_nonempty}
use Rattle.deb_text.specs.Text.{is_empty_text}
use Rattle.deb_version.specs.Syntax.{is_version_text, fault_of, length_fault}
use Rattle.deb_relations.specs.Names.{is_package_name}
use Rattle.wb_states.specs.Limits.{note_limit}
use Rattle.wb_merge.specs.declared.report.ReportLine.{ReportLine}
use Rattle.wb_merge.specs.Report.{BeginsWith, IsWritten, SaysReason, word_of, after_word, reason_of, line_with, line_of}
use Rattle.wb_merge.proofs.ReportFormLemmas.{cut-at, split-and}

-- ---- the first blank of a text

place-none : (text : List ℕ) → list_any is_blank text ≡ false → position_or_len is_blank text ≡ length text
place-none [] none = refl
place-none (c ∷ cs) none =
    let parts = or_parts (is_blank c) (list_any is_blank cs) none in
    ap (λ (b : Bool). cond (not b) (1 + position_or_len is_blank cs) 0) parts.0 ∙ omega (arith, place-none cs parts.1)

place-first : (word : List ℕ) (c : ℕ) (rest : List ℕ) → list_any is_blank word ≡ false → is_blank c ≡ true
    → position_or_len is_blank (word ++ c ∷ rest) ≡ length word
place-first [] c rest none blank = ap (λ (b : Bool). cond (not b) (1 + position_or_len is_blank rest) 0) blank
place-first (d ∷ ds) c rest none blank =
    let parts = or_parts (is_blank d) (list_any is_blank ds) none in
    ap (λ (b : Bool). cond (not b) (1 + position_or_len is_blank (ds ++ c ∷ rest)) 0) parts.0 ∙ omega (arith, place-first ds c rest parts.1 blank)

at-none : (text : List ℕ) → list_any is_blank text ≡ false → (before_first is_blank text ≡ text) × (after_first is_blank text ≡ [])
at-none text none =
    let place = place-none text none in
    (ap (λ n. take n text) place ∙ take_all (length text) text (omega arith), drop_all (position_or_len is_blank text + 1) text (omega (arith, place)))

at-cut : (text word : List ℕ) (c : ℕ) (rest : List ℕ) → text ≡ word ++ c ∷ rest → list_any is_blank word ≡ false → is_blank c ≡ true
    → (before_first is_blank text ≡ word) × (after_first is_blank text ≡ rest)
at-cut text word c rest is none blank =
    let place : position_or_len is_blank text ≡ length word = ap (position_or_len is_blank) is ∙ place-first word c rest none blank in
    let behind : drop (length word + 1) (word ++ c ∷ rest) ≡ rest =
    ap (λ n. drop n (word ++ c ∷ rest)) (sym (length-append word (c ∷ []))) ∙ ap (drop (length (word ++ c ∷ []))) (sym (append_assoc word (c ∷ []) rest))
    ∙ drop-append_seam (word ++ c ∷ []) rest in
    ((λ i. take (place i) (is i)) ∙ take-append_seam word (c ∷ rest), (λ i. drop (place i + 1) (is i)) ∙ behind)

-- ---- the first word of a text

skip-blanks : (blanks text : List ℕ) → list_all is_blank blanks ≡ true → trim_start (blanks ++ text) ≡ trim_start text
skip-blanks [] text blank = refl
skip-blanks (b ∷ bs) text blank =
    let parts = and_parts (is_blank b) (list_all is_blank bs) blank in
    sym (trim_start-blank (b ∷ bs ++ text) parts.0) ∙ skip-blanks bs text parts.1

keep-word : (word rest : List ℕ) → is_nonempty word ≡ true → list_any is_blank word ≡ false → trim_start (word ++ rest) ≡ word ++ rest
keep-word [] rest filled none = absurd cc
keep-word (c ∷ cs) rest filled none = trim_start-kept (c ∷ cs ++ rest) (or_parts (is_blank c) (list_any is_blank cs) none).0

word-is : (text word rest : List ℕ) → BeginsWith text word rest → (word_of text ≡ word) × (after_word text ≡ rest)
word-is text word rest is = elim is.stands [
  | inl last ↦
      let start : trim_start text ≡ word =
      ap trim_start (last.0 ∙ ap (λ (xs : List ℕ). is.blanks ++ xs) (sym (append-nil word))) ∙ skip-blanks is.blanks (word ++ []) is.blank
      ∙ keep-word word [] is.filled is.whole ∙ append-nil word in
      let cut = at-none word is.whole in
      (ap (before_first is_blank) start ∙ cut.0, ap (after_first is_blank) start ∙ cut.1 ∙ sym last.1)
  | inr more ↦
      let start : trim_start text ≡ word ++ more.0 ∷ rest =
      ap trim_start more.2 ∙ skip-blanks is.blanks (word ++ more.0 ∷ rest) is.blank ∙ keep-word word (more.0 ∷ rest) is.filled is.whole in
      at-cut (trim_start text) word more.0 rest start is.whole more.1
]

and-both : (a b : Bool) → a ≡ true → b ≡ true → (a && b) ≡ true
and-both true b e f = f
and-both false b e f = absurd cc

front-blank : (text : List ℕ) → list_all is_blank (take (prefix_len is_blank text) text) ≡ true
front-blank [] = refl
front-blank (c ∷ cs) =
    (elim (is_blank c) as (λ b. is_blank c ≡ b → list_all is_blank (take (cond b (1 + prefix_len is_blank cs) 0) (c ∷ cs)) ≡ true) [
      | true ↦ λ e.
          let next : 1 + prefix_len is_blank cs ≡ suc (prefix_len is_blank cs) = omega arith in
          ap (λ n. list_all is_blank (take n (c ∷ cs))) next ∙ and-both (is_blank c) (list_all is_blank (take (prefix_len is_blank cs) cs)) e (front-blank cs)
      | false ↦ λ _. refl
    ]) refl

begins : (text : List ℕ) → is_nonempty (word_of text) ≡ true → BeginsWith text (word_of text) (after_word text)
begins text filled =
    let start : List ℕ = trim_start text in
    let front : List ℕ = take (prefix_len is_blank text) text in
    let whole : text ≡ front ++ start = sym (take-append-drop (prefix_len is_blank text) text) in
    elim (cut-at is_blank start) [
      | inl none ↦
          let cut = at-none start none in
          record {
            blanks = front;
            blank = front-blank text;
            filled = filled;
            whole = subst (λ xs. list_any is_blank xs ≡ false) (sym cut.0) none;
            stands = inl (whole ∙ ap (λ (xs : List ℕ). front ++ xs) (sym cut.0), cut.1);
          }
      | inr more ↦
          let cut = at-cut start more.0 more.1 more.2 more.3 more.4 more.5 in
          record {
            blanks = front;
            blank = front-blank text;
            filled = filled;
            whole = subst (λ xs. list_any is_blank xs ≡ false) (sym cut.0) more.4;
            stands = inr (more.1, more.5, whole ∙ ap (λ (xs : List ℕ). front ++ xs) (more.3 ∙ (λ i. sym cut.0 i ++ more.1 ∷ sym cut.1 i)));
          }
    ]

-- ---- what stands after the version

empty-is : (text : List ℕ) → is_empty_text text ≡ true → text ≡ []
empty-is [] e = refl
empty-is (c ∷ cs) e = absurd cc

reason-said : (word rest : List ℕ) (reason : Option (List ℕ)) → reason_of word rest ≡ Some reason → SaysReason word rest reason
reason-said word rest reason is =
    (elim (bytes_eq word (codes "installable") && is_empty_text rest) as (λ a. (bytes_eq word (codes "installable") && is_empty_text rest) ≡ a
    → cond a (Some None) (cond (bytes_eq word (codes "uninstallable") && nat_le (length rest) note_limit) (Some (Some rest)) None) ≡ Some reason
    → SaysReason word rest reason) [
      | true ↦ λ both e.
          let none : None ≡ reason = cc in
          let parts = split-and (bytes_eq word (codes "installable")) (is_empty_text rest) both in
          subst (SaysReason word rest) none ((bytes_eq-Decides word (codes "installable")).0 parts.0, empty-is rest parts.1)
      | false ↦ λ _. second
    ]) refl is
  where
    second : cond (bytes_eq word (codes "uninstallable") && nat_le (length rest) note_limit) (Some (Some rest)) None ≡ Some reason → SaysReason word rest reason
    second e =
        (elim (bytes_eq word (codes "uninstallable") && nat_le (length rest) note_limit) as (λ a. (bytes_eq word (codes "uninstallable") && nat_le (length rest) note_limit) ≡ a
        → cond a (Some (Some rest)) None ≡ Some reason → SaysReason word rest reason) [
          | true ↦ λ both f.
              let some : Some rest ≡ reason = cc in
              let parts = split-and (bytes_eq word (codes "uninstallable")) (nat_le (length rest) note_limit) both in
              let within : length rest ≤ note_limit = grind (arith, nat_tests) in
              subst (SaysReason word rest) some ((bytes_eq-Decides word (codes "uninstallable")).0 parts.0, refl, within)
          | false ↦ λ _ f. absurd cc
        ]) refl e

said-reason : (word rest : List ℕ) (reason : Option (List ℕ)) → SaysReason word rest reason → reason_of word rest ≡ Some reason
said-reason word rest None is = λ i. reason_of (is.0 i) (is.1 i)
said-reason word rest (Some reason) is =
    let small : nat_le (length reason) note_limit ≡ true = grind (arith, nat_tests) in
    (λ i. reason_of (is.0 i) (is.1 i)) ∙ ap (λ b. cond b (Some (Some reason)) None) small

word-filled : (word rest : List ℕ) (reason : Option (List ℕ)) → SaysReason word rest reason → is_nonempty word ≡ true
word-filled word rest None is = ap is_nonempty is.0
word-filled word rest (Some reason) is = ap is_nonempty is.0

-- ---- a line

name-filled : (name : List ℕ) → is_package_name name ≡ true → is_nonempty name ≡ true
unfolding is_package_name
name-filled [] good = absurd cc
name-filled (c ∷ cs) good = refl

good-filled : (version : List ℕ) → is_version_text version ≡ true → is_nonempty version ≡ true
unfolding is_version_text fault_of length_fault
good-filled [] good = absurd cc
good-filled (c ∷ cs) good = refl

-- the parts of a line that is read
record Parts (source version : List ℕ) (outcome : Option (Option (List ℕ))) (read : ReportLine) : Type 0 where
  source_is : source ≡ read.source
  version_is : version ≡ read.version
  reason_is : outcome ≡ Some read.reason
  good_source : is_package_name source ≡ true
  good_version : is_version_text version ≡ true

parts-of : (source version : List ℕ) (outcome : Option (Option (List ℕ))) (read : ReportLine) → line_with source version outcome ≡ Some read → Parts source version outcome read
parts-of source version None read is = absurd cc
parts-of source version (Some reason) read is =
    (elim (is_package_name source && is_version_text version) as (λ a. (is_package_name source && is_version_text version) ≡ a
    → cond a (Some (record { source = source; version = version; reason = reason })) None ≡ Some read → Parts source version (Some reason) read) [
      | true ↦ λ both f.
          let made : ◌≡◌ {A = ReportLine} (record { source = source; version = version; reason = reason }) read = cc in
          let two = split-and (is_package_name source) (is_version_text version) both in
          record {
            source_is = ap (λ (r : ReportLine). r.source) made;
            version_is = ap (λ (r : ReportLine). r.version) made;
            reason_is = ap (λ (r : ReportLine). Some r.reason) made;
            good_source = two.0;
            good_version = two.1;
          }
      | false ↦ λ _ f. absurd cc
    ]) refl is

with-parts : (read : ReportLine) → is_package_name read.source ≡ true → is_version_text read.version ≡ true
    → line_with read.source read.version (Some read.reason) ≡ Some read
with-parts read good_source good_version = (λ i. cond (good_source i && good_version i) (Some read) None)

pub line-written : (line : List ℕ) (read : ReportLine) → (line_of line ≡ Some read) ↔ IsWritten line read
unfolding line_of
line-written line read = (there, back) where
  there : line_with (word_of line) (word_of (after_word line)) (reason_of (word_of (after_word (after_word line))) (trim (after_word (after_word (after_word line))))) ≡ Some read
      → IsWritten line read
  there is =
      let outcome : List ℕ = after_word (after_word line) in
      let parts = parts-of (word_of line) (word_of (after_word line)) (reason_of (word_of outcome) (trim (after_word outcome))) read is in
      let said = reason-said (word_of outcome) (trim (after_word outcome)) read.reason parts.reason_is in
      record {
        after_source = after_word line;
        after_version = outcome;
        word = word_of outcome;
        rest = after_word outcome;
        source = subst (λ xs. BeginsWith line xs (after_word line)) parts.source_is (begins line (name-filled (word_of line) parts.good_source));
        version = subst (λ xs. BeginsWith (after_word line) xs outcome) parts.version_is (begins (after_word line) (good-filled (word_of (after_word line)) parts.good_version));
        outcome = begins outcome (word-filled (word_of outcome) (trim (after_word outcome)) read.reason said);
        said = said;
        good_source = ap is_package_name (sym parts.source_is) ∙ parts.good_source;
        good_version = ap is_version_text (sym parts.version_is) ∙ parts.good_version;
      }

  back : IsWritten line read
      → line_with (word_of line) (word_of (after_word line)) (reason_of (word_of (after_word (after_word line))) (trim (after_word (after_word (after_word line))))) ≡ Some read
  back w =
      let source = word-is line read.source w.after_source w.source in
      let version = word-is w.after_source read.version w.after_version w.version in
      let outcome = word-is w.after_version w.word w.rest w.outcome in
      let second : word_of (after_word line) ≡ read.version = ap word_of source.1 ∙ version.0 in
      let behind : after_word (after_word line) ≡ w.after_version = ap after_word source.1 ∙ version.1 in
      let third : word_of (after_word (after_word line)) ≡ w.word = ap word_of behind ∙ outcome.0 in
      let last : after_word (after_word (after_word line)) ≡ w.rest = ap after_word behind ∙ outcome.1 in
      (λ i. line_with (source.0 i) (second i) (reason_of (third i) (trim (last i))))
      ∙ ap (line_with read.source read.version) (said-reason w.word (trim w.rest) read.reason w.said)
      ∙ with-parts read w.good_source w.good_version
