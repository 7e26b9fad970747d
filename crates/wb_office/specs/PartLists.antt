-- Where the reader of a list in memory stands.
use Rattle.std.specs.Prelude.{◌≡◌}
use Rattle.deb_control.specs.Paragraphs.{ReaderState}

-- a reader of a text in memory stands at its own place, and at no other
abbrev pub Stands : ReaderState → ReaderState → Type 0
Stands reader place = reader ≡ place
