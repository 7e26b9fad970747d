-- What the calls of a feed answer, one after the other.
use Rattle.std.proofs.Common.{◌≡◌, ◌∙◌, sym, ap, refl, ℕ, ◌+◌, ◌<◌, true, length, List, [], ◌∷◌, ◌++◌, ◌⊎◌, inl, inr, arith, Option, None, Some, subst}
use Rattle.std.specs.Io.KnownBytes.{Consumes}
use Rattle.std.proofs.lemmas.List.{length-append}
use Rattle.deb_control.specs.declared.fault.ControlFault.{ControlFault}
use Rattle.deb_control.specs.Lines.{lines_of, paragraphs_in}
use Rattle.deb_control.specs.Paragraphs.{Answer, ReaderState, begun, step, answers_of}
use Rattle.deb_control.specs.Source.{IfKnown, IsCut, TakesSome}
use Rattle.deb_control.specs.FeedState.{FeedState, feed_limit, fresh}
use Rattle.deb_control.specs.Feed.{HaveAnswers, ReadEnds, place_in}
use Rattle.deb_control.proofs.SourceLemmas.{takes-then}

-- from a feed that has these bytes left
answers-from : (answers : List Answer) (text : List ℕ) (old last : FeedState) → old.source.bytes ≡ Some text → HaveAnswers answers old last
    → answers ≡ answers_of (length answers) (place_in old text)
answers-from [] text old last is have = refl
answers-from (answer ∷ later) text old last is have =
    one-more answer later text old have.0 have.0.source.bytes refl
    (subst (λ (b : Option (List ℕ)). IfKnown b have.0.source.bytes (λ t r. step (place_in old t) ≡ (answer, place_in have.0 r))) is have.1)
    (λ rest same. answers-from later rest have.0 last same have.2)
  where
    one-more : (answer : Answer) (later : List Answer) (text : List ℕ) (old next : FeedState) (bytes : Option (List ℕ)) → next.source.bytes ≡ bytes
        → IfKnown (Some text) bytes (λ t r. step (place_in old t) ≡ (answer, place_in next r))
        → ((rest : List ℕ) → next.source.bytes ≡ Some rest → later ≡ answers_of (length later) (place_in next rest))
        → answer ∷ later ≡ answers_of (length (answer ∷ later)) (place_in old text)
    one-more answer later text old next None same known more = absurd known
    one-more answer later text old next (Some rest) same known more =
        ap (λ (v : List Answer). answer ∷ v) (more rest same) ∙ ap (λ (v : Answer × ReaderState). v.0 ∷ answers_of (length later) v.1) (sym known)

pub answers-of-feed : (text : List ℕ) (answers : List Answer) (last : FeedState) → HaveAnswers answers (fresh (Some text)) last
    → answers ≡ answers_of (length answers) (begun (paragraphs_in (lines_of text)))
answers-of-feed text answers last have = answers-from answers text (fresh (Some text)) last refl have

-- what is left over once as much was read as may be
over : (text front : List ℕ) (bytes left : Option (List ℕ)) (piece : List ℕ) → Consumes (Some text) bytes piece → Consumes (Some text) left front
    → IfKnown bytes left (λ _ rest. 0 < length rest) → length front < length text
over text front None left piece taken lost some = absurd taken
over text front (Some now) None piece taken lost some = absurd lost
over text front (Some now) (Some rest) piece taken lost some = omega (arith, some, ap length lost, length-append front rest)

pub read-needs : (text : List ℕ) (old new : FeedState) (fault : ControlFault) → TakesSome (fresh (Some text)).source old.source → TakesSome old.source new.source → ReadEnds old fault new
    → (new.source.failed ≡ true) ⊎ (feed_limit < length text)
read-needs text old new fault first second read = by read.cut
  where
    by : IsCut old.source new.source → (new.source.failed ≡ true) ⊎ (feed_limit < length text)
    by (inl failed) = inl failed
    by (inr stops) =
        let all = takes-then (fresh (Some text)).source old.source new.source first.0 second.0 first.1 second.1 in
        let more : length (first.0 ++ second.0) < length text = over text (first.0 ++ second.0) old.source.bytes new.source.bytes first.0 first.1.bytes all.bytes stops.1 in
        let limit : feed_limit ≡ length (first.0 ++ second.0) + new.source.room = all.room in
        inr (omega (arith, more, limit, stops.0))
