-- A line more of a report: what the lines before it become, and whether it is bad.
use Rattle.std.proofs.Common.{◌≡◌, ◌≢◌, ℕ, suc, ◌+◌, ◌≤◌, ◌<◌, Bool, true, false, cond, not, ◌||◌, List, [], ◌∷◌, ◌++◌, length, get_or, eqb, Option, Some, None, Ok, Err, MatchOption, Bor, IsSome, IsTrue, is_some, refl, sym, ap, ap₂, ◌∙◌, lit<, arith}
use Prim.Native.Char.{code}
use Rattle.std.specs.Option.{option_map, option_map_or}
use Rattle.std.specs.List.{list_any, slice_split}
use Rattle.std.specs.FinMap as finite
use Rattle.std.proofs.lemmas.List.{length-append, append_assoc}
use Rattle.std.proofs.lemmas.List.Folds.{list_any-append}
use Rattle.std.proofs.lemmas.List.Sums.{fold-append}
use Rattle.std.proofs.lemmas.Bool.Decides.{nat_tests}
use Rattle.std.proofs.lemmas.Str.Pattern.{IsSplitOnceResult, split_parts}
use Rattle.deb_text.specs.Lines.{is_blank_line, is_line_feed}
use Rattle.deb_text.specs.Options.{ok_unless}
use Rattle.deb_text.proofs.ListLemmas.{slice_split-run, slice_split-end}
use Rattle.wb_merge.specs.declared.report.ReportLine.{ReportLine}
use Rattle.wb_merge.specs.declared.report.ReportFault.TheVariants.{BadReport}
use Rattle.wb_merge.specs.Report.{Lines, line_of, lines_in, with_line, by_source, is_bad_line, first_bad_line, report_of, report_takes_memory}

module _ (lines : Lines) (line : List ℕ) where
  -- a line that cannot be read adds nothing, and is bad if it is not blank
  pub unread-adds : (found : Option ReportLine) → found ≡ line_of line → found ≡ None → lines ≡ with_line lines line
  unfolding with_line
  unread-adds found is none = ap (λ o. option_map_or (λ read. finite.insert lines read.source read) o lines) (sym none ∙ is)

  pub unread-bad : (found : Option ReportLine) → found ≡ line_of line → found ≡ None → (bytes : List ℕ) (b : Bool) → bytes ≡ line → b ≡ is_blank_line bytes
      → is_bad_line lines line ≡ not b
  unfolding is_bad_line
  unread-bad found is none bytes b same blank =
      ap (λ o. option_map_or (λ read. finite.contains_key lines read.source) o (not (is_blank_line line))) (sym is ∙ none)
      ∙ sym (ap not (blank ∙ ap is_blank_line same))

  -- a line that can be read stands under its source, and is bad if one stands there already
  pub read-adds : (found : Option ReportLine) (read : ReportLine) → found ≡ line_of line → found ≡ Some read
      → finite.insert lines read.source read ≡ with_line lines line
  unfolding with_line
  read-adds found read is some = ap (λ o. option_map_or (λ read. finite.insert lines read.source read) o lines) (sym some ∙ is)

  pub read-bad : (found : Option ReportLine) (read : ReportLine) → found ≡ line_of line → found ≡ Some read
      → is_bad_line lines line ≡ finite.contains_key lines read.source
  unfolding is_bad_line
  read-bad found read is some =
      ap (λ o. option_map_or (λ read. finite.contains_key lines read.source) o (not (is_blank_line line))) (sym is ∙ some)

-- ---- a report of which some lines were read, and others are left

-- one line after others
pub by_source-more : (before : List (List ℕ)) (line : List ℕ) → by_source (before ++ line ∷ []) ≡ with_line (by_source before) line
by_source-more before line = fold-append with_line finite.empty before (line ∷ [])

-- where a reader of a report stands: the lines before are read and good, and this text is left
pub record Stands (lines : Lines) (number : ℕ) (left text : List ℕ) : Type 0 where
  pub before : List (List ℕ)
  pub whole : lines_in text ≡ before ++ lines_in left
  pub read : lines ≡ by_source before
  pub count : number ≡ length before + 1
  pub good : first_bad_line [] (lines_in text) ≡ first_bad_line before (lines_in left)
  pub fits : number + length left ≤ length text + 1

pub at-start : (lines : Lines) (text : List ℕ) → lines ≡ finite.empty → Stands lines 1 text text
at-start lines text none = record {
  before = [];
  whole = refl;
  read = none;
  count = omega arith;
  good = refl;
  fits = omega arith;
}

or-first : (a b c : Bool) → b ≡ true → (a || (b || c)) ≡ true
or-first true b c h = refl
or-first false b c h = rw h refl

abbrev can_be_read : List ℕ → Bool
can_be_read line = is_some (line_of line)

module _ {lines : Lines} {number : ℕ} {left text : List ℕ} (line : List ℕ) (stands : Stands lines number left text) where
  -- the next line is bad
  pub at-bad : (later : List (List ℕ)) → lines_in left ≡ line ∷ later → is_bad_line lines line ≡ true → report_of text ≡ Err (BadReport number)
  unfolding report_of
  at-bad later is bad =
      let found : first_bad_line [] (lines_in text) ≡ Some number =
      stands.good ∙ ap (first_bad_line stands.before) is
      ∙ ap (λ b. cond b (Some (length stands.before + 1)) (first_bad_line (stands.before ++ line ∷ []) later)) (ap (λ m. is_bad_line m line) (sym stands.read) ∙ bad)
      ∙ ap (λ (n : ℕ). Some n) (sym stands.count) in
      ap (λ o. ok_unless (option_map BadReport o) (by_source (lines_in text))) found

  -- memory is taken for the next line
  pub at-memory : (later : List (List ℕ)) → lines_in left ≡ line ∷ later → IsSome (line_of line) → IsTrue (report_takes_memory text)
  unfolding report_takes_memory
  at-memory later is takes =
      ap (list_any can_be_read) (stands.whole ∙ ap (λ (xs : List (List ℕ)). stands.before ++ xs) is)
      ∙ list_any-append can_be_read stands.before (line ∷ later)
      ∙ or-first (list_any can_be_read stands.before) (can_be_read line) (list_any can_be_read later) takes

module _ {lines new : Lines} {number : ℕ} {left text : List ℕ} (line : List ℕ) (stands : Stands lines number left text) where
  -- the next line is good
  pub at-next : (rest : List ℕ) → left ≡ line ++ (code "\n" ∷ rest) → lines_in left ≡ line ∷ lines_in rest → is_bad_line lines line ≡ false → new ≡ with_line lines line
      → Stands new (number + 1) rest text
  at-next rest cut is good more = record {
    before = stands.before ++ line ∷ [];
    whole = stands.whole ∙ ap (λ (xs : List (List ℕ)). stands.before ++ xs) is ∙ sym (append_assoc stands.before (line ∷ []) (lines_in rest));
    read = more ∙ ap (λ m. with_line m line) stands.read ∙ sym (by_source-more stands.before line);
    count = omega (arith, stands.count, length-append stands.before (line ∷ []));
    good = stands.good ∙ ap (first_bad_line stands.before) is
        ∙ ap (λ b. cond b (Some (length stands.before + 1)) (first_bad_line (stands.before ++ line ∷ []) (lines_in rest))) (ap (λ m. is_bad_line m line) (sym stands.read) ∙ good);
    fits = omega (arith, stands.fits, ap length cut, length-append line (code "\n" ∷ rest));
  }

  -- the next line is good, and the last
  pub at-end : lines_in left ≡ line ∷ [] → is_bad_line lines line ≡ false → new ≡ with_line lines line → report_of text ≡ Ok new
  unfolding report_of
  at-end is good more =
      let found : first_bad_line [] (lines_in text) ≡ None =
      stands.good ∙ ap (first_bad_line stands.before) is
      ∙ ap (λ b. cond b (Some (length stands.before + 1)) None) (ap (λ m. is_bad_line m line) (sym stands.read) ∙ good) in
      let all : by_source (lines_in text) ≡ new =
      ap by_source (stands.whole ∙ ap (λ (xs : List (List ℕ)). stands.before ++ xs) is) ∙ by_source-more stands.before line
      ∙ sym (more ∙ ap (λ m. with_line m line) stands.read) in
      ap₂ (λ o m. ok_unless (option_map BadReport o) m) found all

no-feed : (xs : List ℕ) → ((i : ℕ) → i < length xs → get_or xs i 0 ≢ code "\n") → list_any is_line_feed xs ≡ false
no-feed [] h = refl
no-feed (x ∷ xs) h =
    elim (eqb x (code "\n")) as (λ v. eqb x (code "\n") ≡ v → (v || list_any is_line_feed xs) ≡ false) [
      | true ↦ λ e. absurd (h 0 (omega arith) (grind (arith, nat_tests)))
      | false ↦ λ e. no-feed xs (λ i l. h (suc i) (omega arith))
    ] refl

-- the first line of a text, and that there is none but it
pub lines_in-cut : (text : List ℕ) (found : Option (Bor (List ℕ) × Bor (List ℕ))) → IsSplitOnceResult (code "\n") text found
    → MatchOption found (lines_in text ≡ text ∷ []) (λ cut. (text ≡ cut.0.now ++ (code "\n" ∷ cut.1.now)) × (lines_in text ≡ cut.0.now ∷ lines_in cut.1.now))
unfolding lines_in
lines_in-cut text None is = slice_split-end is_line_feed text (no-feed text (split_parts (code "\n") text None is (lit< tt)))
lines_in-cut text (Some cut) is =
    let parts = split_parts (code "\n") text (Some cut) is (lit< tt) in
    (parts.0, ap (slice_split is_line_feed) parts.0 ∙ slice_split-run is_line_feed cut.0.now (code "\n") cut.1.now (no-feed cut.0.now parts.1) refl)
