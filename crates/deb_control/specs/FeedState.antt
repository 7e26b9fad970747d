-- What is seen of a feed.
use Rattle.std.specs.Prelude.{ℕ, Bool, false, List, Option}
use Rattle.deb_control.specs.Source.{Source}

-- what is seen of a feed: how many paragraphs it went through, whether it has refused, and its reader
pub record FeedState : Type 0 where
  pub passed : ℕ
  pub ended : Bool
  pub source : Source

-- the greatest number of bytes that a feed reads (this project's own)
abbrev pub feed_limit : ℕ
feed_limit = 2147483648

-- a feed before its first call, over a reader that has these bytes, if they are known
abbrev pub fresh : Option (List ℕ) → FeedState
fresh bytes = record { passed = 0; ended = false; source = record { bytes = bytes; room = feed_limit; failed = false } }
