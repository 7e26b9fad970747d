-- The first bad line of a report, and which lines a report has that has none.
use Rattle.std.proofs.Common.{◌≡◌, ◌↔◌, ◌⊎◌, inl, inr, ℕ, ◌+◌, true, false, cond, List, [], ◌∷◌, ◌++◌, length, Some, None, is_some, Result, Ok, Err, refl, sym, ap, subst, ◌∙◌, arith}
use Rattle.std.specs.List.{filter_map, cons_option}
use Rattle.std.specs.Option.{option_map}
use Rattle.std.specs.Ordering.{eq_by_cmp}
use Rattle.std.specs.Cmp.{eq_by_cmp_equiv}
use Rattle.std.specs.FinMap as finite
use Rattle.std.proofs.lemmas.List.{length-append, append_assoc, append-nil}
use Rattle.std.proofs.lemmas.List.Elements.{filter_map-append}
use Rattle.wb_states.proofs.InStateLemmas.{clash}
use Rattle.deb_text.specs.Lists.{IsIn}
use Rattle.deb_text.specs.Options.{ok_unless}
use Rattle.deb_text.specs.Text.{text_cmp}
use Rattle.deb_text.proofs.KeyLemmas.{text_cmp_total, text_cmp-same, eq_by_cmp-same}
use Rattle.wb_merge.specs.declared.report.ReportLine.{ReportLine}
use Rattle.wb_merge.specs.declared.report.ReportFault.{ReportFault}
use Rattle.wb_merge.specs.declared.report.ReportFault.TheVariants.{BadReport}
use Rattle.wb_merge.specs.Report.{Lines, AreGoodLines, IsFirstBadLine, line_of, lines_in, by_source, is_bad_line, first_bad_line, read_lines, report_of}
use Rattle.wb_merge.proofs.ReportLemmas.{by_source-more, unread-adds, read-adds, read-bad}

-- ---- the first bad line

-- lines of which none is bad after others and those before it
abbrev GoodFrom : List (List ℕ) → List (List ℕ) → Type 0
GoodFrom before later =
    (front : List (List ℕ)) (line : List ℕ) (back : List (List ℕ)) → later ≡ front ++ line ∷ back → is_bad_line (by_source (before ++ front)) line ≡ false

no-cut : {X : Type 0} (front : List X) (x : X) (back : List X) → [] ≡ front ++ x ∷ back → ⊥
no-cut [] x back e = cc
no-cut (f ∷ fs) x back e = cc

no-value : {X : Type 0} (x : X) → Some x ≡ None → ⊥
no-value x e = cc

none-good : (before : List (List ℕ)) → GoodFrom before []
none-good before front line back e = absurd (no-cut front line back e)

module _ (before : List (List ℕ)) (line : List ℕ) (later : List (List ℕ)) where
  good-head : GoodFrom before (line ∷ later) → is_bad_line (by_source before) line ≡ false
  good-head good = subst (λ xs. is_bad_line (by_source xs) line ≡ false) (append-nil before) (good [] line later refl)

  good-tail : GoodFrom before (line ∷ later) → GoodFrom (before ++ line ∷ []) later
  good-tail good front next back e =
      subst (λ xs. is_bad_line (by_source xs) next ≡ false) (sym (append_assoc before (line ∷ []) front))
      (good (line ∷ front) next back (ap (λ (xs : List (List ℕ)). line ∷ xs) e))

  good-both : is_bad_line (by_source before) line ≡ false → GoodFrom (before ++ line ∷ []) later → GoodFrom before (line ∷ later)
  good-both head tail [] next back e =
      let same : line ≡ next = cc in
      subst (λ xs. is_bad_line (by_source xs) next ≡ false) (sym (append-nil before)) (sym (ap (is_bad_line (by_source before)) same) ∙ head)
  good-both head tail (f ∷ fs) next back e =
      let same : line ≡ f = cc in
      let rest : later ≡ fs ++ next ∷ back = cc in
      subst (λ xs. is_bad_line (by_source xs) next ≡ false) (append_assoc before (line ∷ []) fs ∙ ap (λ (x : List ℕ). before ++ x ∷ fs) same) (tail fs next back rest)

none-is : (before later : List (List ℕ)) → first_bad_line before later ≡ None → GoodFrom before later
none-is before [] none = none-good before
none-is before (x ∷ xs) none =
    (elim (is_bad_line (by_source before) x) as (λ b. is_bad_line (by_source before) x ≡ b
    → cond b (Some (length before + 1)) (first_bad_line (before ++ x ∷ []) xs) ≡ None → GoodFrom before (x ∷ xs)) [
      | true ↦ λ _ e. absurd (no-value (length before + 1) e)
      | false ↦ λ good e. good-both before x xs good (none-is (before ++ x ∷ []) xs e)
    ]) refl none

is-none : (before later : List (List ℕ)) → GoodFrom before later → first_bad_line before later ≡ None
is-none before [] good = refl
is-none before (x ∷ xs) good =
    ap (λ b. cond b (Some (length before + 1)) (first_bad_line (before ++ x ∷ []) xs)) (good-head before x xs good)
    ∙ is-none (before ++ x ∷ []) xs (good-tail before x xs good)

-- the first bad line of some after others
record FirstFrom (before later : List (List ℕ)) (number : ℕ) : Type 0 where
  front : List (List ℕ)
  line : List ℕ
  back : List (List ℕ)
  stands : later ≡ front ++ line ∷ back
  good : GoodFrom before front
  bad : is_bad_line (by_source (before ++ front)) line ≡ true
  counted : number ≡ length before + length front + 1

some-is : (before later : List (List ℕ)) (number : ℕ) → first_bad_line before later ≡ Some number → FirstFrom before later number
some-is before [] number found = absurd (no-value number (sym found))
some-is before (x ∷ xs) number found =
    (elim (is_bad_line (by_source before) x) as (λ b. is_bad_line (by_source before) x ≡ b
    → cond b (Some (length before + 1)) (first_bad_line (before ++ x ∷ []) xs) ≡ Some number → FirstFrom before (x ∷ xs) number) [
      | true ↦ λ bad e.
          let count : length before + 1 ≡ number = cc in
          record {
            front = [];
            line = x;
            back = xs;
            stands = refl;
            good = none-good before;
            bad = subst (λ ys. is_bad_line (by_source ys) x ≡ true) (sym (append-nil before)) bad;
            counted = omega (arith, count);
          }
      | false ↦ λ good e.
          let next = some-is (before ++ x ∷ []) xs number e in
          record {
            front = x ∷ next.front;
            line = next.line;
            back = next.back;
            stands = ap (λ (ys : List (List ℕ)). x ∷ ys) next.stands;
            good = good-both before x next.front good next.good;
            bad = subst (λ ys. is_bad_line (by_source ys) next.line ≡ true) (append_assoc before (x ∷ []) next.front) next.bad;
            counted = omega (arith, next.counted, length-append before (x ∷ []));
          }
    ]) refl found

is-some : (front before : List (List ℕ)) (line : List ℕ) (back : List (List ℕ)) → GoodFrom before front → is_bad_line (by_source (before ++ front)) line ≡ true
    → first_bad_line before (front ++ line ∷ back) ≡ Some (length before + length front + 1)
is-some [] before line back good bad =
    let count : length before + 1 ≡ length before + length {A = List ℕ} [] + 1 = omega arith in
    ap (λ b. cond b (Some (length before + 1)) (first_bad_line (before ++ line ∷ []) back)) (subst (λ ys. is_bad_line (by_source ys) line ≡ true) (append-nil before) bad)
    ∙ ap (λ (n : ℕ). Some n) count
is-some (f ∷ fs) before line back good bad =
    let count : length (before ++ f ∷ []) + length fs + 1 ≡ length before + length (f ∷ fs) + 1 = omega (arith, length-append before (f ∷ [])) in
    ap (λ b. cond b (Some (length before + 1)) (first_bad_line (before ++ f ∷ []) (fs ++ line ∷ back))) (good-head before f fs good)
    ∙ is-some fs (before ++ f ∷ []) line back (good-tail before f fs good)
    (subst (λ ys. is_bad_line (by_source ys) line ≡ true) (sym (append_assoc before (f ∷ []) fs)) bad)
    ∙ ap (λ (n : ℕ). Some n) count

-- ---- a report

ok-is : (one other : Lines) → ◌≡◌ {A = Result Lines ReportFault} (Ok one) (Ok other) → one ≡ other
ok-is one other e = cc

no-ok : (number : ℕ) (lines : Lines) → ◌≡◌ {A = Result Lines ReportFault} (Err (BadReport number)) (Ok lines) → ⊥
no-ok number lines e = cc

bad-is : (one other : ℕ) → ◌≡◌ {A = Result Lines ReportFault} (Err (BadReport one)) (Err (BadReport other)) → one ≡ other
bad-is one other e = cc

pub report-read : (text : List ℕ) (lines : Lines) → (report_of text ≡ Ok lines) ↔ (AreGoodLines (lines_in text) × (lines ≡ by_source (lines_in text)))
unfolding report_of
report-read text lines = (there, back) where
  there : ok_unless (option_map BadReport (first_bad_line [] (lines_in text))) (by_source (lines_in text)) ≡ Ok lines
      → AreGoodLines (lines_in text) × (lines ≡ by_source (lines_in text))
  there is =
      (elim (first_bad_line [] (lines_in text)) as (λ o. first_bad_line [] (lines_in text) ≡ o
      → ok_unless (option_map BadReport o) (by_source (lines_in text)) ≡ Ok lines → AreGoodLines (lines_in text) × (lines ≡ by_source (lines_in text))) [
        | None ↦ λ none e. (none-is [] (lines_in text) none, sym (ok-is _ lines e))
        | Some number ↦ λ _ e. absurd (no-ok number lines e)
      ]) refl is

  back : AreGoodLines (lines_in text) × (lines ≡ by_source (lines_in text))
      → ok_unless (option_map BadReport (first_bad_line [] (lines_in text))) (by_source (lines_in text)) ≡ Ok lines
  back is = ap (λ o. ok_unless (option_map BadReport o) (by_source (lines_in text))) (is-none [] (lines_in text) is.0) ∙ ap (λ m. Ok m) (sym is.1)

pub report-refused : (text : List ℕ) (number : ℕ) → (report_of text ≡ Err (BadReport number)) ↔ IsFirstBadLine (lines_in text) number
unfolding report_of
report-refused text number = (there, back) where
  first : FirstFrom [] (lines_in text) number → IsFirstBadLine (lines_in text) number
  first is = record {
    before = is.front;
    line = is.line;
    behind = is.back;
    stands = is.stands;
    good = is.good;
    bad = is.bad;
    counted = omega (arith, is.counted);
  }

  there : ok_unless (option_map BadReport (first_bad_line [] (lines_in text))) (by_source (lines_in text)) ≡ Err (BadReport number)
      → IsFirstBadLine (lines_in text) number
  there is =
      (elim (first_bad_line [] (lines_in text)) as (λ o. first_bad_line [] (lines_in text) ≡ o
      → ok_unless (option_map BadReport o) (by_source (lines_in text)) ≡ Err (BadReport number) → IsFirstBadLine (lines_in text) number) [
        | None ↦ λ none e. absurd (no-ok number _ (sym e))
        | Some found ↦ λ some e. first (some-is [] (lines_in text) number (some ∙ ap (λ (n : ℕ). Some n) (bad-is found number e)))
      ]) refl is

  back : IsFirstBadLine (lines_in text) number
      → ok_unless (option_map BadReport (first_bad_line [] (lines_in text))) (by_source (lines_in text)) ≡ Err (BadReport number)
  back is =
      let count : 0 + length is.before + 1 ≡ number = omega (arith, is.counted) in
      ap (λ o. ok_unless (option_map BadReport o) (by_source (lines_in text)))
      (ap (first_bad_line []) is.stands ∙ is-some is.before [] is.line is.behind is.good is.bad ∙ ap (λ (n : ℕ). Some n) count)

-- ---- the lines of a report

module _ {X : Type 0} (x : X) where
  in-left : (xs ys : List X) → IsIn x xs → IsIn x (xs ++ ys)
  in-left [] ys is = absurd is
  in-left (z ∷ zs) ys (inl e) = inl e
  in-left (z ∷ zs) ys (inr is) = inr (in-left zs ys is)

  in-right : (xs ys : List X) → IsIn x ys → IsIn x (xs ++ ys)
  in-right [] ys is = is
  in-right (z ∷ zs) ys is = inr (in-right zs ys is)

  in-either : (xs ys : List X) → IsIn x (xs ++ ys) → IsIn x xs ⊎ IsIn x ys
  in-either [] ys is = inr is
  in-either (z ∷ zs) ys (inl e) = inl (inl e)
  in-either (z ∷ zs) ys (inr is) = elim (in-either zs ys is) [
    | inl before ↦ inl (inr before)
    | inr behind ↦ inr behind
  ]

-- a map has these lines, each under its source, and no other
abbrev Has : Lines → List ReportLine → Type 0
Has lines reads = (source : List ℕ) (read : ReportLine) → (finite.get lines source ≡ Some read) ↔ (IsIn read reads × (read.source ≡ source))

module _ (lines : Lines) (reads : List ReportLine) (new : ReportLine) (has : Has lines reads) (absent : finite.contains_key lines new.source ≡ false) where
  same-here : (source : List ℕ) → eq_by_cmp text_cmp source new.source ≡ true → source ≡ new.source
  same-here source e = eq_by_cmp-same text_cmp-same source new.source e

  not-here : (read : ReportLine) → IsIn read reads → eq_by_cmp text_cmp read.source new.source ≡ true → ⊥
  not-here read is e =
      let found : finite.get lines new.source ≡ Some read = (has new.source read).1 (is, same-here read.source e) in
      clash (is_some (finite.get lines new.source)) (ap is_some found) absent

  has-more : Has (finite.insert lines new.source new) (reads ++ new ∷ [])
  has-more source read = (there, back) where
    there : finite.get (finite.insert lines new.source new) source ≡ Some read → IsIn read (reads ++ new ∷ []) × (read.source ≡ source)
    there is =
        (elim (eq_by_cmp text_cmp source new.source) as (λ b. eq_by_cmp text_cmp source new.source ≡ b → cond b (Some new) (finite.get lines source) ≡ Some read
        → IsIn read (reads ++ new ∷ []) × (read.source ≡ source)) [
          | true ↦ λ e f.
              let same : read ≡ new = cc in
              (in-right read reads (new ∷ []) (inl same), ap (λ (r : ReportLine). r.source) same ∙ sym (same-here source e))
          | false ↦ λ _ f. (in-left read reads (new ∷ []) ((has source read).0 f).0, ((has source read).0 f).1)
        ]) refl (sym (finite.get-insert text_cmp_total lines new.source new source) ∙ is)

    before : IsIn read reads → read.source ≡ source → finite.get (finite.insert lines new.source new) source ≡ Some read
    before is named =
        finite.get-insert text_cmp_total lines new.source new source
        ∙ (elim (eq_by_cmp text_cmp source new.source) as (λ b. eq_by_cmp text_cmp source new.source ≡ b → cond b (Some new) (finite.get lines source) ≡ Some read) [
          | true ↦ λ e. absurd (not-here read is (ap (λ s. eq_by_cmp text_cmp s new.source) named ∙ e))
          | false ↦ λ _. (has source read).1 (is, named)
        ]) refl

    last : IsIn read (new ∷ []) → read.source ≡ source → finite.get (finite.insert lines new.source new) source ≡ Some read
    last (inl same) named =
        finite.get-insert text_cmp_total lines new.source new source
        ∙ ap (λ b. cond b (Some new) (finite.get lines source))
        (ap (λ s. eq_by_cmp text_cmp s new.source) (sym named ∙ ap (λ (r : ReportLine). r.source) same) ∙ (eq_by_cmp_equiv text_cmp_total).refl new.source)
        ∙ ap (λ r. Some r) (sym same)
    last (inr none) named = absurd none

    back : IsIn read (reads ++ new ∷ []) × (read.source ≡ source) → finite.get (finite.insert lines new.source new) source ≡ Some read
    back is = elim (in-either read reads (new ∷ []) is.0) [
      | inl there ↦ before there is.1
      | inr there ↦ last there is.1
    ]

-- one line more
has-line : (before : List (List ℕ)) (line : List ℕ) → Has (by_source before) (filter_map line_of before) → is_bad_line (by_source before) line ≡ false
    → Has (by_source (before ++ line ∷ [])) (filter_map line_of (before ++ line ∷ []))
has-line before line has good =
    (elim (line_of line) as (λ o. o ≡ line_of line → Has (by_source (before ++ line ∷ [])) (filter_map line_of (before ++ line ∷ []))) [
      | None ↦ λ is.
          let lines : by_source before ≡ by_source (before ++ line ∷ []) = unread-adds (by_source before) line None is refl ∙ sym (by_source-more before line) in
          let reads : filter_map line_of before ≡ filter_map line_of (before ++ line ∷ []) =
          sym (filter_map-append line_of before (line ∷ []) ∙ ap (λ o. filter_map line_of before ++ cons_option o []) (sym is) ∙ append-nil (filter_map line_of before)) in
          subst (λ m. Has m (filter_map line_of (before ++ line ∷ []))) lines (subst (Has (by_source before)) reads has)
      | Some read ↦ λ is.
          let lines : finite.insert (by_source before) read.source read ≡ by_source (before ++ line ∷ []) =
          read-adds (by_source before) line (Some read) read is refl ∙ sym (by_source-more before line) in
          let reads : filter_map line_of before ++ read ∷ [] ≡ filter_map line_of (before ++ line ∷ []) =
          sym (filter_map-append line_of before (line ∷ []) ∙ ap (λ o. filter_map line_of before ++ cons_option o []) (sym is)) in
          subst (λ m. Has m (filter_map line_of (before ++ line ∷ []))) lines
          (subst (Has (finite.insert (by_source before) read.source read)) reads
          (has-more (by_source before) (filter_map line_of before) read has (sym (read-bad (by_source before) line (Some read) read is refl) ∙ good)))
    ]) refl

has-all : (before later : List (List ℕ)) → Has (by_source before) (filter_map line_of before) → GoodFrom before later
    → Has (by_source (before ++ later)) (filter_map line_of (before ++ later))
has-all before [] has good = subst (λ xs. Has (by_source xs) (filter_map line_of xs)) (sym (append-nil before)) has
has-all before (x ∷ xs) has good =
    subst (λ ys. Has (by_source ys) (filter_map line_of ys)) (append_assoc before (x ∷ []) xs)
    (has-all (before ++ x ∷ []) xs (has-line before x has (good-head before x xs good)) (good-tail before x xs good))

has-none : Has finite.empty []
has-none source read = (λ is. absurd (no-value read (sym is ∙ finite.get-empty text_cmp source)), λ is. absurd is.0)

pub report-has : (text : List ℕ) (lines : Lines) (source : List ℕ) (read : ReportLine) → report_of text ≡ Ok lines
    → (finite.get lines source ≡ Some read) ↔ (IsIn read (read_lines text) × (read.source ≡ source))
report-has text lines source read is =
    let good = (report-read text lines).0 is in
    subst (λ m. (finite.get m source ≡ Some read) ↔ (IsIn read (read_lines text) × (read.source ≡ source))) (sym good.1)
    (has-all [] (lines_in text) has-none good.0 source read)
