-- Where a feed may stand, and what it answers from there.
use Rattle.std.proofs.Common.{◌≡◌, ◌≢◌, ◌∙◌, sym, ap, refl, ℕ, length, List, [], ◌∷◌, ◌++◌, ◌⊎◌, inl, inr, Option, None, Some, subst, append-nil}
use Rattle.deb_control.specs.declared.fault.ControlFaultKind.{ControlFaultKind}
use Rattle.deb_control.specs.declared.fault.ControlFaultKind.TheVariants.{TooLarge, NotUtf8, Orphan, NoColon, BadName, Duplicate, Read, Memory, Ended}
use Rattle.deb_control.specs.Lines.{lines_of, paragraphs_in}
use Rattle.deb_control.specs.Paragraphs.{Answer, ReaderState, begun, step, answers_of}
use Rattle.deb_control.specs.Source.{Gives, MayBeLeft, Takes}
use Rattle.deb_control.specs.FeedState.{FeedState, fresh}
use Rattle.deb_control.specs.Feed.{AnswersFor, HaveAnswersFor, MayStandAt, place_in}
use Rattle.deb_control.proofs.GivesLemmas.{gives-same, gives-then, left-before}

-- some bytes may be left
some-left : (bytes : Option (List ℕ)) → (text : List ℕ) × MayBeLeft bytes text
some-left None = ([], tt)
some-left (Some known) = (known, refl)

-- a feed may stand somewhere
pub stands-somewhere : (feed : FeedState) → (place : ReaderState) × MayStandAt feed place
stands-somewhere feed = let left = some-left feed.source.bytes in (place_in feed left.0, (left.0, left.1, refl))

-- wherever a feed may stand, it went through as many paragraphs
pub stands-counted : (feed : FeedState) (place : ReaderState) → MayStandAt feed place → place.passed ≡ feed.passed
stands-counted feed place here = ap (λ (p : ReaderState). p.passed) here.2

-- wherever a feed may stand after a call, it may have stood at a place that leads there
pub stood-before : (answer : Answer) (old new : FeedState) → AnswersFor answer old new → (after : ReaderState) → MayStandAt new after
    → (before : ReaderState) × (MayStandAt old before × (step before ≡ (answer, after)))
stood-before answer old new gives after here = (
  place_in old (gives.piece ++ here.0),
  (
    (gives.piece ++ here.0, left-before old.source.bytes new.source.bytes gives.piece here.0 gives.taken.bytes here.1, refl),
    gives.value here.0 here.1 ∙ ap (λ (p : ReaderState). (answer, p)) (sym here.2),
  ),
)

-- what a feed answered is the answer of a place at which it may have stood
pub stood-answering : (answer : Answer) (old new : FeedState) → AnswersFor answer old new → (before : ReaderState) × (MayStandAt old before × ((step before).0 ≡ answer))
stood-answering answer old new gives =
    let after = stands-somewhere new in
    let before = stood-before answer old new gives after.0 after.1 in
    (before.0, (before.1.0, ap (λ (v : Answer × ReaderState). v.0) before.1.1))

-- from a feed that stands at a place of a text
given-from : (answers : List Answer) (old last : FeedState) → HaveAnswersFor answers old last
    → Gives old.source last.source (λ text _. answers ≡ answers_of (length answers) (place_in old text))
given-from [] old last have =
    subst (λ (n : FeedState). Gives old.source n.source (λ text _. [] ≡ answers_of 0 (place_in old text))) (sym have)
    (gives-same old.source (λ text _. [] ≡ answers_of 0 (place_in old text)) (λ text. refl))
given-from (answer ∷ later) old last have =
    gives-then old.source have.0.source last.source (λ text rest. step (place_in old text) ≡ (answer, place_in have.0 rest))
    (λ text _. later ≡ answers_of (length later) (place_in have.0 text)) (λ text _. answer ∷ later ≡ answers_of (length (answer ∷ later)) (place_in old text))
    have.1 (given-from later have.0 last have.2)
    (λ x y z one more. ap (λ (v : List Answer). answer ∷ v) more ∙ ap (λ (v : Answer × ReaderState). v.0 ∷ answers_of (length later) v.1) (sym one))

pub answers-of-given : (bytes : Option (List ℕ)) (answers : List Answer) (last : FeedState) → HaveAnswersFor answers (fresh bytes) last
    → Gives (fresh bytes).source last.source (λ text _. answers ≡ answers_of (length answers) (begun (paragraphs_in (lines_of text))))
answers-of-given bytes answers last have = given-from answers (fresh bytes) last have

-- at the end of the input, for all that was given
pub answers-of-whole : (bytes : Option (List ℕ)) (answers : List Answer) (last : FeedState) → HaveAnswersFor answers (fresh bytes) last → last.source.bytes ≡ Some []
    → (text : List ℕ) × (Takes (fresh bytes).source last.source text × (answers ≡ answers_of (length answers) (begun (paragraphs_in (lines_of text)))))
answers-of-whole bytes answers last have at_end =
    let given = answers-of-given bytes answers last have in (
      given.piece,
      (
        given.taken,
        subst (λ (v : List ℕ). answers ≡ answers_of (length answers) (begun (paragraphs_in (lines_of v)))) (append-nil given.piece)
            (given.value [] (subst (λ (b : Option (List ℕ)). MayBeLeft b []) (sym at_end) refl)),
      ),
    )

-- a fault is that of a read or another
pub is-read-or-not : (kind : ControlFaultKind) → (kind ≡ Read) ⊎ (kind ≢ Read)
is-read-or-not Read = inl refl
is-read-or-not TooLarge = inr (λ is. absurd cc)
is-read-or-not NotUtf8 = inr (λ is. absurd cc)
is-read-or-not Orphan = inr (λ is. absurd cc)
is-read-or-not NoColon = inr (λ is. absurd cc)
is-read-or-not BadName = inr (λ is. absurd cc)
is-read-or-not Duplicate = inr (λ is. absurd cc)
is-read-or-not Memory = inr (λ is. absurd cc)
is-read-or-not Ended = inr (λ is. absurd cc)
