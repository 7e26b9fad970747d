-- Lines: of an input, each ended by a line feed or the last, and as they are read and written.
use Rattle.std.specs.Prelude.{◌≡◌, ◌⊎◌, ℕ, ◌-◌, ◌≤◌, Bool, true, false, nat_lt, if◌then◌else◌, List, [], ◌∷◌, ◌++◌, length, take, Option, codes}
use Rattle.std.specs.List.{flat_map, slice_split}
use Rattle.std.specs.Io.KnownBytes.{Consumes, IsAtEnd}
use Rattle.deb_text.specs.Lines.{is_line_feed, IsOneLine}
use Rattle.wb_streams.specs.declared.line.LineRead.{LineRead}
use Rattle.wb_streams.specs.declared.line.LineRead.TheVariants.{Ended, Last, TooLong, Failed}
use Rattle.wb_streams.specs.declared.line.ByteRead.{ByteRead}
use Rattle.wb_streams.specs.declared.line.ByteRead.TheVariants as byte

-- the greatest length of a line, its line feed not counted
abbrev pub line_limit : ℕ
line_limit = 65536

-- a text and the line feed after it
abbrev pub with_line_feed : List ℕ → List ℕ
with_line_feed text = text ++ codes "\n"

-- texts, each with the line feed after it
abbrev pub with_line_feeds : List (List ℕ) → List ℕ
with_line_feeds texts = flat_map with_line_feed texts

-- a line that is too long
abbrev pub is_long : List ℕ → Bool
is_long line = nat_lt line_limit (length line)

-- the lines up to the first that is too long, and with that one
abbrev pub through_long : List (List ℕ) → List (List ℕ)
through_long [] = []
through_long (line ∷ lines) = line ∷ (if is_long line then [] else through_long lines)

-- the lines of an input: line feeds separate them, and one that is too long is the last
unfoldable pub input_lines : List ℕ → List (List ℕ)
input_lines input = through_long (slice_split is_line_feed input)

-- the lines that are ended by a line feed
unfoldable pub ended_in : List ℕ → List (List ℕ)
ended_in text = take (length (slice_split is_line_feed text) - 1) (slice_split is_line_feed text)

-- the bytes that a read of one byte took
abbrev pub bytes_of : ByteRead → List ℕ
bytes_of (byte.Byte c) = c ∷ []
bytes_of byte.End = []
bytes_of byte.Failed = []

-- what a read took from the reader: a line and its line feed, the last line, more than a line may have, or what came
-- before a read that failed
abbrev pub TookLine : List ℕ → Option (List ℕ) → Option (List ℕ) → LineRead → Type 0
TookLine room old new (Ended len) = (len ≤ line_limit) × IsOneLine (take len room) × Consumes old new (with_line_feed (take len room))
TookLine room old new (Last len) = (len ≤ line_limit) × IsOneLine (take len room) × Consumes old new (take len room) × IsAtEnd new
TookLine room old new TooLong = (line : List ℕ) × (is_long line ≡ true) × IsOneLine line × Consumes old new line
TookLine room old new Failed = (line : List ℕ) × IsOneLine line × Consumes old new line

-- whether a read of one byte failed
abbrev pub is_failed_byte : ByteRead → Bool
is_failed_byte (byte.Byte c) = false
is_failed_byte byte.End = false
is_failed_byte byte.Failed = true

-- whether a read of one line failed
abbrev pub is_failed_line : LineRead → Bool
is_failed_line (Ended len) = false
is_failed_line (Last len) = false
is_failed_line TooLong = false
is_failed_line Failed = true
