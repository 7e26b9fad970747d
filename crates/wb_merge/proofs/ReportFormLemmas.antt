-- The lines that are read of a UTF-8 text have their forms.
use Rattle.std.proofs.Common.{◌≡◌, ◌⊎◌, inl, inr, ℕ, zero, suc, ◌+◌, ◌<◌, ◌≤◌, Bool, true, false, cond, ◌&&◌, ◌||◌, List, [], ◌∷◌, ◌++◌, length, reverse, drop, get_or, bytes_eq, position, nat_le, codes, Option, Some, None, IfSome, Ok, refl, sym, ap, subst, ◌∙◌, arith}
use Rattle.std.specs.List.{list_any, filter_map, cons_option, slice_split}
use Rattle.std.specs.Str.{IsUtf8}
use Rattle.std.specs.FinMap as finite
use Rattle.std.proofs.Math.Seq.{get_or-append_seam, drop-append_seam, take-append_seam}
use Rattle.std.proofs.lemmas.Bool.Decides.{nat_tests}
use Rattle.std.proofs.lemmas.List.{length-append, append_assoc, reverse-append, reverse-reverse}
use Rattle.std.proofs.lemmas.Str.{IsUtf8-nil, IsUtf8-take, IsUtf8-drop, IsCharBoundary-before_ascii, IsCharBoundary-after_ascii}
use Rattle.deb_control.specs.Lines.{is_blank, trim_start, trim_end, trim}
use Rattle.deb_control.proofs.BlankLemmas.{trim_start-kept, trim_start-blank}
use Rattle.deb_text.specs.Lines.{is_line_feed}
use Rattle.deb_text.specs.Lists.{IsIn}
use Rattle.deb_text.specs.Text.{IsTextWithin, is_empty_text}
use Rattle.deb_text.proofs.ListLemmas.{slice_split-run, slice_split-end}
use Rattle.deb_version.specs.Syntax.{is_version_text}
use Rattle.deb_relations.specs.Names.{is_package_name}
use Rattle.wb_states.specs.Limits.{note_limit}
use Rattle.wb_merge.specs.declared.report.ReportLine.{ReportLine}
use Rattle.wb_merge.specs.Report.{Lines, IsWellFormedLine, word_of, after_word, reason_of, line_with, line_of, lines_in, report_of}
use Rattle.wb_merge.proofs.ReportLineLemmas.{has-blank, no_blank-rest}
use Rattle.wb_merge.proofs.ReportReadLemmas.{report-has}

-- ---- where a text is cut at a byte below 128, both sides are UTF-8

module _ (xs : List ℕ) (c : ℕ) (ys : List ℕ) (utf8 : IsUtf8 (xs ++ c ∷ ys)) (low : c < 128) where
  inside : length xs < length (xs ++ c ∷ ys)
  inside = omega (arith, length-append xs (c ∷ ys))

  here : get_or (xs ++ c ∷ ys) (length xs) 0 < 128
  here = subst (λ n. n < 128) (sym (get_or-append_seam xs c ys 0)) low

  utf8-before : IsUtf8 xs
  utf8-before = subst IsUtf8 (take-append_seam xs (c ∷ ys)) (IsUtf8-take (xs ++ c ∷ ys) (length xs) utf8 (IsCharBoundary-before_ascii (xs ++ c ∷ ys) (length xs) inside here))

  utf8-behind : IsUtf8 ys
  utf8-behind =
      let rest : drop (length xs + 1) (xs ++ c ∷ ys) ≡ ys =
      ap (λ n. drop n (xs ++ c ∷ ys)) (sym (length-append xs (c ∷ []))) ∙ ap (drop (length (xs ++ c ∷ []))) (sym (append_assoc xs (c ∷ []) ys))
      ∙ drop-append_seam (xs ++ c ∷ []) ys in
      subst IsUtf8 rest (IsUtf8-drop (xs ++ c ∷ ys) (length xs + 1) utf8 (IsCharBoundary-after_ascii (xs ++ c ∷ ys) (length xs) utf8 inside here))

blank-low : (c : ℕ) → is_blank c ≡ true → c < 128
blank-low c h = grind (arith, nat_tests)

-- ---- where a text is cut at the first byte that passes a test

pub cut-at : (test : ℕ → Bool) (text : List ℕ) → (list_any test text ≡ false)
    ⊎ ((line : List ℕ) × (c : ℕ) × (rest : List ℕ) × (text ≡ line ++ c ∷ rest) × (list_any test line ≡ false) × (test c ≡ true))
cut-at test [] = inl refl
cut-at test (c ∷ cs) =
    (elim (test c) as (λ b. test c ≡ b → (list_any test (c ∷ cs) ≡ false)
    ⊎ ((line : List ℕ) × (d : ℕ) × (rest : List ℕ) × (c ∷ cs ≡ line ++ d ∷ rest) × (list_any test line ≡ false) × (test d ≡ true))) [
      | true ↦ λ e. inr ([], c, cs, refl, refl, e)
      | false ↦ λ e. elim (cut-at test cs) [
        | inl none ↦ inl (ap (λ b. b || list_any test cs) e ∙ none)
        | inr cut ↦ inr (c ∷ cut.0, cut.1, cut.2, ap (λ (xs : List ℕ). c ∷ xs) cut.3, ap (λ b. b || list_any test cut.0) e ∙ cut.4, cut.5)
      ]
    ]) refl

-- ---- the words of a UTF-8 text

trim_start-utf8 : (text : List ℕ) → IsUtf8 text → IsUtf8 (trim_start text)
trim_start-utf8 [] utf8 = utf8
trim_start-utf8 (c ∷ cs) utf8 =
    (elim (is_blank c) as (λ b. is_blank c ≡ b → IsUtf8 (trim_start (c ∷ cs))) [
      | true ↦ λ e. subst IsUtf8 (trim_start-blank (c ∷ cs) e) (trim_start-utf8 cs (utf8-behind [] c cs utf8 (blank-low c e)))
      | false ↦ λ e. subst IsUtf8 (sym (trim_start-kept (c ∷ cs) e)) utf8
    ]) refl

backwards-utf8 : (text : List ℕ) → IsUtf8 (reverse text) → IsUtf8 (reverse (trim_start text))
backwards-utf8 [] utf8 = utf8
backwards-utf8 (c ∷ cs) utf8 =
    (elim (is_blank c) as (λ b. is_blank c ≡ b → IsUtf8 (reverse (trim_start (c ∷ cs)))) [
      | true ↦ λ e. subst (λ xs. IsUtf8 (reverse xs)) (trim_start-blank (c ∷ cs) e)
          (backwards-utf8 cs (utf8-before (reverse cs) c [] (subst IsUtf8 (reverse-append (c ∷ []) cs) utf8) (blank-low c e)))
      | false ↦ λ e. subst (λ xs. IsUtf8 (reverse xs)) (sym (trim_start-kept (c ∷ cs) e)) utf8
    ]) refl

trim-utf8 : (text : List ℕ) → IsUtf8 text → IsUtf8 (trim text)
unfolding trim trim_end
trim-utf8 text utf8 =
    backwards-utf8 (reverse (trim_start text)) (subst IsUtf8 (sym (reverse-reverse (trim_start text))) (trim_start-utf8 text utf8))

after-utf8 : (text : List ℕ) → IsUtf8 text → IsUtf8 (after_word text)
after-utf8 text utf8 =
    let start : List ℕ = trim_start text in
    let good : IsUtf8 start = trim_start-utf8 text utf8 in
    (elim (position is_blank start) as (λ o. position is_blank start ≡ o → IsUtf8 (after_word text)) [
      | None ↦ λ none. subst IsUtf8 (no_blank-rest start start refl none) IsUtf8-nil
      | Some at ↦ λ found.
          let blank = has-blank start start at refl good found in
          subst (λ n. IsUtf8 (drop (n + 1) start)) (sym blank.place) (IsUtf8-drop start (at + 1) good blank.behind)
    ]) refl

-- ---- the lines of a UTF-8 text

feed-low : (c : ℕ) → is_line_feed c ≡ true → c < 128
feed-low c h = grind (arith, nat_tests)

lines-utf8 : (n : ℕ) (text : List ℕ) → length text < n → IsUtf8 text → (part : List ℕ) → IsIn part (lines_in text) → IsUtf8 part
unfolding lines_in
lines-utf8 zero text small utf8 part is = absurd (omega (arith, small))
lines-utf8 (suc n) text small utf8 part is = elim (cut-at is_line_feed text) [
  | inl none ↦ only (subst (IsIn part) (slice_split-end is_line_feed text none) is)
  | inr cut ↦
      let whole : IsUtf8 (cut.0 ++ cut.1 ∷ cut.2) = subst IsUtf8 cut.3 utf8 in
      let low : cut.1 < 128 = feed-low cut.1 cut.5 in
      let less : length cut.2 < n = omega (arith, small, ap length cut.3, length-append cut.0 (cut.1 ∷ cut.2)) in
      either cut.0 cut.2 (utf8-before cut.0 cut.1 cut.2 whole low) (lines-utf8 n cut.2 less (utf8-behind cut.0 cut.1 cut.2 whole low) part)
      (subst (IsIn part) (ap (slice_split is_line_feed) cut.3 ∙ slice_split-run is_line_feed cut.0 cut.1 cut.2 cut.4 cut.5) is)
]
  where
    only : IsIn part (text ∷ []) → IsUtf8 part
    only (inl same) = subst IsUtf8 (sym same) utf8
    only (inr none) = absurd none

    either : (line rest : List ℕ) → IsUtf8 line → (IsIn part (slice_split is_line_feed rest) → IsUtf8 part) → IsIn part (line ∷ slice_split is_line_feed rest) → IsUtf8 part
    either line rest first others (inl same) = subst IsUtf8 (sym same) first
    either line rest first others (inr there) = others there

-- ---- a line that is read

pub split-and : (a b : Bool) → (a && b) ≡ true → (a ≡ true) × (b ≡ true)
split-and true b e = (refl, e)
split-and false b e = absurd cc

reason-form : (word rest : List ℕ) (reason : Option (List ℕ)) → IsUtf8 rest → reason_of word rest ≡ Some reason → IfSome reason (IsTextWithin note_limit)
reason-form word rest reason utf8 is =
    (elim (bytes_eq word (codes "installable") && is_empty_text rest) as (λ a. cond a (Some None) (cond (bytes_eq word (codes "uninstallable") && nat_le (length rest) note_limit) (Some (Some rest)) None) ≡ Some reason
    → IfSome reason (IsTextWithin note_limit)) [
      | true ↦ λ e. let none : None ≡ reason = cc in subst (λ o. IfSome o (IsTextWithin note_limit)) none tt
      | false ↦ second
    ]) is
  where
    second : cond (bytes_eq word (codes "uninstallable") && nat_le (length rest) note_limit) (Some (Some rest)) None ≡ Some reason → IfSome reason (IsTextWithin note_limit)
    second e =
        (elim (bytes_eq word (codes "uninstallable") && nat_le (length rest) note_limit) as (λ a. (bytes_eq word (codes "uninstallable") && nat_le (length rest) note_limit) ≡ a
        → cond a (Some (Some rest)) None ≡ Some reason → IfSome reason (IsTextWithin note_limit)) [
          | true ↦ λ both f.
              let some : Some rest ≡ reason = cc in
              let small : nat_le (length rest) note_limit ≡ true = (split-and (bytes_eq word (codes "uninstallable")) (nat_le (length rest) note_limit) both).1 in
              let within : length rest ≤ note_limit = grind (arith, nat_tests) in
              subst (λ o. IfSome o (IsTextWithin note_limit)) some (record { utf8 = utf8; within = within })
          | false ↦ λ _ f. absurd cc
        ]) refl e

with-form : (source version : List ℕ) (outcome : Option (Option (List ℕ))) (read : ReportLine)
    → ((reason : Option (List ℕ)) → outcome ≡ Some reason → IfSome reason (IsTextWithin note_limit)) → line_with source version outcome ≡ Some read → IsWellFormedLine read
with-form source version None read form is = absurd cc
with-form source version (Some reason) read form is =
    (elim (is_package_name source && is_version_text version) as (λ a. (is_package_name source && is_version_text version) ≡ a
    → cond a (Some (record { source = source; version = version; reason = reason })) None ≡ Some read → IsWellFormedLine read) [
      | true ↦ λ both f.
          let made : ◌≡◌ {A = ReportLine} (record { source = source; version = version; reason = reason }) read = cc in
          let two = split-and _ _ both in
          subst IsWellFormedLine made (record { source = two.0; version = two.1; reason = form reason refl })
      | false ↦ λ _ f. absurd cc
    ]) refl is

line-form : (line : List ℕ) (read : ReportLine) → IsUtf8 line → line_of line ≡ Some read → IsWellFormedLine read
unfolding line_of
line-form line read utf8 is =
    let outcome : List ℕ = after_word (after_word line) in
    let last : IsUtf8 (trim (after_word outcome)) = trim-utf8 (after_word outcome) (after-utf8 outcome (after-utf8 _ (after-utf8 line utf8))) in
    with-form (word_of line) (word_of (after_word line)) (reason_of (word_of outcome) (trim (after_word outcome))) read
    (λ reason. reason-form (word_of outcome) (trim (after_word outcome)) reason last) is

read-from : (lines : List (List ℕ)) (read : ReportLine) → IsIn read (filter_map line_of lines) → (line : List ℕ) × IsIn line lines × (line_of line ≡ Some read)
read-from [] read is = absurd is
read-from (x ∷ xs) read is =
    (elim (line_of x) as (λ o. line_of x ≡ o → IsIn read (cons_option o (filter_map line_of xs)) → (line : List ℕ) × IsIn line (x ∷ xs) × (line_of line ≡ Some read)) [
      | None ↦ λ _ there. let found = read-from xs read there in (found.0, inr found.1, found.2)
      | Some one ↦ λ e there. elim there [
        | inl same ↦ (x, inl refl, e ∙ ap (λ r. Some r) (sym same))
        | inr later ↦ let found = read-from xs read later in (found.0, inr found.1, found.2)
      ]
    ]) refl is

pub report-form : (text : List ℕ) (lines : Lines) (source : List ℕ) (read : ReportLine) → IsUtf8 text → report_of text ≡ Ok lines → finite.get lines source ≡ Some read
    → IsWellFormedLine read
report-form text lines source read utf8 is found =
    let from = read-from (lines_in text) read ((report-has text lines source read is).0 found).0 in
    let small : length text < suc (length text) = omega arith in
    line-form from.0 read (lines-utf8 (suc (length text)) text small utf8 from.0 from.1) from.2
