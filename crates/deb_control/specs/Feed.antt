-- What a feed answers, call by call, after Debian Policy 5.1.
use Rattle.std.specs.Prelude.{◌≡◌, ℕ, ◌+◌, ◌<◌, Bool, true, false, List, [], ◌∷◌, length, Option, None, Some, IfSome, Ok, Err}
use Rattle.deb_control.specs.declared.fault.ControlFault.{ControlFault}
use Rattle.deb_control.specs.declared.fault.ControlFaultKind.{ControlFaultKind}
use Rattle.deb_control.specs.Lines.{lines_of, paragraphs_in}
use Rattle.deb_control.specs.Fields.{FieldText, reading_of}
use Rattle.deb_control.specs.Paragraphs.{ReaderState, Answer, step}
use Rattle.deb_control.specs.Source.{Gives, IfKnown, IsCut, MayBeLeft}
use Rattle.deb_control.specs.FeedState.{FeedState}
use Rattle.deb_control.specs.Unfinished.{StopsUnfinished}

-- the paragraphs ahead in these bytes, or none once a feed has refused
abbrev pub ahead_in : Bool → List ℕ → Option (List (List (List ℕ)))
ahead_in true text = None
ahead_in false text = Some (paragraphs_in (lines_of text))

-- where a feed stands if its reader has these bytes left
abbrev pub place_in : FeedState → List ℕ → ReaderState
place_in feed text = record { passed = feed.passed; ahead = ahead_in feed.ended text }

-- a call answers as a reader of the bytes that are left does, and goes on as it does, if these bytes are known (Policy 5.1)
abbrev pub AnswersAs : Answer → FeedState → FeedState → Type 0
AnswersAs answer old new = IfKnown old.source.bytes new.source.bytes (λ text rest. step (place_in old text) ≡ (answer, place_in new rest))

-- a call answers for the bytes that its reader gave and whatever may be left after them, and goes on from what is left (Policy 5.1)
abbrev pub AnswersFor : Answer → FeedState → FeedState → Type 0
AnswersFor answer old new = Gives old.source new.source (λ text rest. step (place_in old text) ≡ (answer, place_in new rest))

-- where a feed may stand: before the paragraphs of bytes that may be left (Policy 5.1)
abbrev pub MayStandAt : FeedState → ReaderState → Type 0
MayStandAt feed place = (text : List ℕ) × MayBeLeft feed.source.bytes text × (place ≡ place_in feed text)

-- calls of a feed, one after the other, gave these answers, each of them for the bytes that its reader gave
abbrev pub HaveAnswersFor : List Answer → FeedState → FeedState → Type 0
HaveAnswersFor [] old new = new ≡ old
HaveAnswersFor (answer ∷ later) old new = (next : FeedState) × AnswersFor answer old next × HaveAnswersFor later next new

-- calls of a feed, one after the other, gave these answers, each of them an answer for the bytes
abbrev pub HaveAnswers : List Answer → FeedState → FeedState → Type 0
HaveAnswers [] old new = new ≡ old
HaveAnswers (answer ∷ later) old new = (next : FeedState) × AnswersAs answer old next × HaveAnswers later next new

-- a call that was not refused before ends the feed at the paragraph that was next
pub record Refuses (old : FeedState) (fault : ControlFault) (new : FeedState) : Type 0 where
  pub going : old.ended ≡ false
  pub paragraph : fault.paragraph ≡ old.passed + 1
  pub passed : new.passed ≡ old.passed + 1
  pub ended : new.ended ≡ true

-- a call that could not read on: a read failed, or as much was read as may be and more follows, and no paragraph had ended
pub record ReadEnds (old : FeedState) (fault : ControlFault) (new : FeedState) : Type 0 where
  pub refuses : Refuses old fault new
  pub cut : IsCut old.source new.source
  pub unfinished : IfKnown old.source.bytes new.source.bytes StopsUnfinished

-- a call that ran out of memory: the reader had bytes left, which take memory, and no read failed
pub record FeedMemoryEnds (old : FeedState) (fault : ControlFault) (new : FeedState) : Type 0 where
  pub refuses : Refuses old fault new
  pub left : IfSome old.source.bytes (λ text. 0 < length text)
  pub kept : new.source.failed ≡ old.source.failed

-- the next paragraph of a text has these fields, or there is none, and what stands after it (Policy 5.1)
abbrev pub GivesNext : Option (List FieldText) → List ℕ → List ℕ → Type 0
GivesNext None text rest = (paragraphs_in (lines_of text) ≡ []) × (rest ≡ [])
GivesNext (Some fields) text rest =
    (lines : List (List ℕ)) × (paragraphs_in (lines_of text) ≡ lines ∷ paragraphs_in (lines_of rest)) × (reading_of lines ≡ Ok fields)

-- the next paragraph of a text has this fault (Policy 5.1)
abbrev pub RefusesNext : ControlFaultKind → List ℕ → Type 0
RefusesNext kind text =
    (lines : List (List ℕ)) × (later : List (List (List ℕ))) × (paragraphs_in (lines_of text) ≡ lines ∷ later) × (reading_of lines ≡ Err kind)
