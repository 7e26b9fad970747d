-- What is taken of the bytes of a reader: pieces of lines, lines and paragraphs, after Debian Policy 5.1.
use Rattle.std.specs.Prelude.{◌≡◌, ◌≢◌, ℕ, ◌+◌, ◌<◌, ◌≤◌, Bool, true, false, List, [], ◌∷◌, ◌++◌, length, take, drop, Option, Some, IfSome, ⊤, codes}
use Rattle.std.specs.List.{list_any, list_all, concat}
use Rattle.std.specs.Io.KnownBytes.{Consumes}
use Rattle.deb_control.specs.Source.{Source, Gives, IfKnown, Takes, IsCut}
use Rattle.deb_control.specs.Unfinished.{IsSmall, StopsUnfinished}
use Rattle.deb_control.specs.declared.source.Shown.{Shown}
use Rattle.deb_control.specs.declared.source.Shown.TheVariants.{Failed, End, Part, Line}
use Rattle.deb_control.specs.declared.source.LineEnd.{LineEnd}
use Rattle.deb_control.specs.declared.source.LineEnd.TheVariants.{Ended, Last, Full, Cut}
use Rattle.deb_control.specs.declared.source.LineRead.{LineRead}
use Rattle.deb_control.specs.declared.source.LineRead.TheVariants.{Failed as FailedLine, End as NoLine, Separator, Whole, Long}
use Rattle.deb_control.specs.declared.source.RunRead.{RunRead}
use Rattle.deb_control.specs.declared.source.RunRead.TheVariants.{Failed as FailedRun, End as NoRun, Paragraph, TooLarge}
use Rattle.deb_control.specs.Lines.{is_line_feed, is_blank, IsLine, is_separator, lines_of, paragraphs_in, IsFirstParagraph}
use Rattle.deb_control.specs.Fields.{paragraph_limit}

-- a text that ends with its one line feed
abbrev pub IsEnded : List ℕ → Type 0
IsEnded text = (body : List ℕ) × (list_any is_line_feed body ≡ false) × (text ≡ body ++ codes "\n")

-- what was taken of bytes that a reader shows, of which there is one at least, by how much that is
abbrev pub IsLook : Shown → ℕ → List ℕ → Type 0
IsLook Part most piece = (list_any is_line_feed piece ≡ false) × (0 < most → 0 < length piece)
IsLook Line most piece = IsEnded piece
IsLook _ most piece = ⊥

-- what was taken of the bytes that a reader had, and what it has left, by how much that is: at most so many, and none after a line feed
abbrev pub IsPiece : Shown → ℕ → Option (List ℕ) → Option (List ℕ) → List ℕ → Type 0
IsPiece Failed most old new piece = piece ≡ []
IsPiece End most old new piece = (piece ≡ []) × IfKnown old new (λ _ rest. rest ≡ [])
IsPiece Part most old new piece = (list_any is_line_feed piece ≡ false) × (0 < most → 0 < length piece) × IfSome old (λ left. 0 < length left)
IsPiece Line most old new piece = IsEnded piece

-- a piece of what a reader has left was appended to a text
pub record TakesPiece (shown : Shown) (most : ℕ) (text_before text_after : List ℕ) (old new : Option (List ℕ)) : Type 0 where
  pub piece : List ℕ
  pub appended : text_after ≡ text_before ++ piece
  pub taken : Consumes old new piece
  pub size : length piece ≤ most
  pub kind : IsPiece shown most old new piece

-- whether a look met a failed reader, or more bytes than may be read
abbrev pub is_failed_look : Shown → Bool
is_failed_look Failed = true
is_failed_look _ = false

-- what was taken of a line, by how much that is
abbrev pub IsLinePiece : Shown → Source → Source → List ℕ → Type 0
IsLinePiece Failed old new piece = piece ≡ []
IsLinePiece End old new piece = (list_any is_line_feed piece ≡ false) × (new.bytes ≡ Some [])
IsLinePiece Part old new piece = (list_any is_line_feed piece ≡ false) × (0 < length piece)
IsLinePiece Line old new piece = IsEnded piece

-- a piece of a line of a reader was appended to a text
pub record AddsPiece (shown : Shown) (text_before text_after : List ℕ) (old new : Source) : Type 0 where
  pub piece : List ℕ
  pub appended : text_after ≡ text_before ++ piece
  pub taken : Takes old new piece
  pub kind : IsLinePiece shown old new piece

-- a text is a line and what stands after it
pub record BeginsWith (line text rest : List ℕ) : Type 0 where
  pub joined : text ≡ line ++ rest
  pub line_is : IsLine line rest

-- what a read of a line takes of a text, and what it makes of the lines before it (Policy 5.1)
abbrev pub TakesLine : LineRead → List ℕ → List ℕ → List ℕ → List ℕ → Type 0
TakesLine Whole before after text rest =
    (line : List ℕ) × BeginsWith line text rest × (is_separator line ≡ false) × (after ≡ before ++ line)
TakesLine Separator before after text rest =
    (line : List ℕ) × BeginsWith line text rest × (is_separator line ≡ true)
TakesLine NoLine before after text rest = (text ≡ []) × (rest ≡ [])
TakesLine Long before after text rest =
    (line : List ℕ) × (behind : List ℕ) × BeginsWith line text behind × (is_separator line ≡ false) × (paragraph_limit < length before + length line)
TakesLine FailedLine before after text rest =
    (piece : List ℕ) × (text ≡ piece ++ rest) × (list_any is_line_feed piece ≡ false) × IsSmall (length before) piece

-- whether a read of a line failed, by what it gave: a line that is too long may have been cut too
abbrev pub FailsLine : LineRead → Source → Source → Type 0
FailsLine FailedLine old new = IsCut old new
FailsLine Long old new = ⊤
FailsLine _ old new = new.failed ≡ old.failed

-- what a read of a line makes of the text before it, and that it takes some bytes or meets the end: a text with a line is small enough for a paragraph
abbrev pub IsReadLine : LineRead → List ℕ → List ℕ → Source → Source → Type 0
IsReadLine Whole before after old new = (length after ≤ paragraph_limit) × (new.room < old.room)
IsReadLine Separator before after old new = (after ≡ before) × (new.room < old.room)
IsReadLine NoLine before after old new = (after ≡ before) × (new.bytes ≡ Some [])
IsReadLine _ before after old new = ⊤

-- a line was read: what it is of the bytes that the reader gave, whatever may be left after them
pub record ReadsLine (read : LineRead) (before after : List ℕ) (old new : Source) : Type 0 where
  pub value : Gives old new (TakesLine read before after)
  pub size : IsReadLine read before after old new
  pub failed : FailsLine read old new

-- what becomes of a line that stands after so many bytes of a text, over the limit already or not (Policy 5.1)
abbrev pub EndsLine : LineRead → ℕ → Bool → List ℕ → List ℕ → Type 0
EndsLine Separator start over old new = (is_separator (drop start old) ≡ true) × (new ≡ take start old)
EndsLine Whole start over old new = (is_separator (drop start old) ≡ false) × (new ≡ old) × (over ≡ false) × (length old ≤ paragraph_limit)
EndsLine Long start over old new = (is_separator (drop start old) ≡ false) × (over ≡ false → paragraph_limit < length old)
EndsLine _ start over old new = ⊥

-- what the pieces of a line gave
abbrev pub FillsLine : LineEnd → List ℕ → List ℕ → Source → Source → List ℕ → Type 0
FillsLine Ended before after old new piece = IsEnded piece
FillsLine Last before after old new piece = (list_any is_line_feed piece ≡ false) × (new.bytes ≡ Some [])
FillsLine Full before after old new piece = (list_any is_line_feed piece ≡ false) × (paragraph_limit < length after)
FillsLine Cut before after old new piece = (list_any is_line_feed piece ≡ false) × (length after ≤ paragraph_limit)

-- a line of a reader, or as much of it as there is room for, was appended to a text
pub record AddsLine (filled : LineEnd) (before after : List ℕ) (old new : Source) : Type 0 where
  pub piece : List ℕ
  pub appended : after ≡ before ++ piece
  pub taken : Takes old new piece
  pub kind : FillsLine filled before after old new piece

-- whether a line was cut off by a failed reader, or by the end of what may be read
abbrev pub is_cut_line : LineEnd → Bool
is_cut_line Cut = true
is_cut_line _ = false

-- what becomes of the last line, which may be none
abbrev pub EndsLast : LineRead → ℕ → Bool → List ℕ → List ℕ → Type 0
EndsLast NoLine start over old new = (length old ≡ start) × (over ≡ false) × (new ≡ old)
EndsLast read start over old new = ((over ≡ false → length old ≢ start)) × EndsLine read start over old new

-- what becomes of a line that was cut: it is too long already, or may still be small
abbrev pub EndsCut : LineRead → ℕ → Bool → List ℕ → Type 0
EndsCut Long start over old = (over ≡ true) × (list_all is_blank (drop start old) ≡ false)
EndsCut FailedLine start over old = over ≡ true → list_all is_blank (drop start old) ≡ true
EndsCut _ start over old = ⊥

-- the first paragraph of a text is too large (Policy 5.1)
abbrev pub HasLargeParagraph : List ℕ → Type 0
HasLargeParagraph text =
    (lines : List (List ℕ)) × (later : List (List (List ℕ))) × (paragraphs_in (lines_of text) ≡ lines ∷ later) × (paragraph_limit < length (concat lines))

-- what a read of a paragraph takes of a text (Policy 5.1)
abbrev pub TakesRun : RunRead → List ℕ → List ℕ → Type 0
TakesRun NoRun text rest = (paragraphs_in (lines_of text) ≡ []) × (rest ≡ [])
TakesRun (Paragraph bytes) text rest = IsFirstParagraph text bytes.items rest
TakesRun TooLarge text rest = HasLargeParagraph text
TakesRun FailedRun text rest = StopsUnfinished text rest

-- whether a read of a paragraph failed, by what it gave: a paragraph that is too large may have been cut too
abbrev pub FailsRun : RunRead → Source → Source → Type 0
FailsRun FailedRun old new = IsCut old new
FailsRun TooLarge old new = ⊤
FailsRun _ old new = new.failed ≡ old.failed

-- a paragraph that was read is small enough, and took some bytes; there is none at the end of the input
abbrev pub IsReadRun : RunRead → Source → Source → Type 0
IsReadRun (Paragraph bytes) old new = (length bytes.items ≤ paragraph_limit) × (new.room < old.room)
IsReadRun NoRun old new = new.bytes ≡ Some []
IsReadRun _ old new = ⊤

-- a paragraph was read: what it is of the bytes that the reader gave, whatever may be left after them
pub record ReadsRun (read : RunRead) (old new : Source) : Type 0 where
  pub value : Gives old new (TakesRun read)
  pub size : IsReadRun read old new
  pub failed : FailsRun read old new
