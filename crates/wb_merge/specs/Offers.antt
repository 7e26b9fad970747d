-- What the rows of the archive's lists add to a listing, one after another.
use Rattle.std.specs.Prelude.{◌≡◌, ℕ, ◌+◌, ◌<◌, ◌^◌, true, List, [], length, bytes_eq, Option, is_some, Result, Ok, Err, if◌then◌else◌}
use Rattle.std.specs.List.{fold}
use Rattle.std.specs.Option.{option_map_or}
use Rattle.std.specs.declared.cmp.Ordering.{Ordering}
use Rattle.std.specs.FinMap as finite
use Rattle.deb_control.specs.Paragraphs.{ReaderState}
use Rattle.deb_relations.specs.declared.arch.ArchWords.{ArchWords}
use Rattle.deb_text.specs.Text.{text_cmp}
use Rattle.deb_relations.specs.Satisfaction.{Pairs}
use Rattle.wb_states.specs.declared.refusal.Refusal.{Refusal}
use Rattle.wb_states.specs.declared.refusal.ListKind.{ListKind}
use Rattle.wb_states.specs.declared.refusal.ListingFault.{ListingFault}
use Rattle.wb_merge.specs.declared.listing.Listed.{Listed}
use Rattle.wb_merge.specs.declared.listing.Built.{Built}
use Rattle.wb_merge.specs.Rows.{SourceParagraph, BinaryParagraph, rows_behind, onto_rows}
use Rattle.wb_merge.specs.Listing.{is_better, is_listed, listed_cmp, listed_as, built_cmp, built_as, is_installable_on, offers_of, with_offer}

-- ---- what a row adds

-- the values at names, to which one more is offered: it is kept if it is better than what is there
abbrev pub offered : {X : Type 0} → (X → X → Ordering) → finite.FinMap text_cmp X → List ℕ → X → finite.FinMap text_cmp X
offered R best name next = if is_better R (finite.get best name) next then finite.insert best name next else best

-- what is listed, with a row more
unfoldable pub with_listed : ArchWords → finite.FinMap text_cmp Listed → SourceParagraph → finite.FinMap text_cmp Listed
with_listed arch listed row = if is_listed arch row then offered listed_cmp listed row.name (listed_as arch row) else listed

-- what is built, with a row more
unfoldable pub with_build : ArchWords → finite.FinMap text_cmp Built → BinaryParagraph → finite.FinMap text_cmp Built
with_build arch built row = if bytes_eq arch.name row.arch then offered built_cmp built row.source (built_as row) else built

-- what is available, with a row more
unfoldable pub with_package : ArchWords → Pairs → BinaryParagraph → Pairs
with_package arch available row = if is_installable_on arch row then fold with_offer available (offers_of row) else available

-- what is built and what is available
abbrev pub PackageOffers : Type 0
PackageOffers = finite.FinMap text_cmp Built × Pairs

-- what is built and what is available, with a row more
abbrev pub with_binary : ArchWords → PackageOffers → BinaryParagraph → PackageOffers
with_binary arch found row = (with_build arch found.0 row, with_package arch found.1 row)

-- what rows add one after another, if there are rows
abbrev pub after_rows : {S X : Type 0} → (S → X → S) → S → Result (List X) Refusal → Result S Refusal
after_rows add start (Err refusal) = Err refusal
after_rows add start (Ok rows) = Ok (fold add start rows)

-- ---- where a reader stands

-- the rows that a reader of paragraphs has ahead, or the refusal for the first faulty paragraph
abbrev pub rows_at : {X : Type 0} → (List (List ℕ) → Result X ListingFault) → ListKind → ReaderState → Result (List X) Refusal
rows_at row_of which place = option_map_or (rows_behind row_of which place.passed) place.ahead (Ok [])

-- how many paragraphs are ahead
abbrev pub number_of : Option (List (List (List ℕ))) → ℕ
number_of ahead = option_map_or length ahead 0

-- a reader that went through so many paragraphs, and can count those ahead
pub record HasPassed (place : ReaderState) (passed : ℕ) : Type 0 where
  pub count : passed ≡ place.passed
  pub goes_on : is_some place.ahead ≡ true
  pub fits : passed + number_of place.ahead < 2 ^ 64

-- a reader that went on by one paragraph, of which this is the row
pub record GivesRow {X : Type 0} (row_of : List (List ℕ) → Result X ListingFault) (which : ListKind) (old : ReaderState) (row : X) (new : ReaderState) : Type 0 where
  pub rows : rows_at row_of which old ≡ onto_rows (Ok row) (rows_at row_of which new)
  pub count : new.passed ≡ old.passed + 1
  pub fewer : number_of old.ahead ≡ number_of new.ahead + 1
  pub goes_on : is_some new.ahead ≡ true
