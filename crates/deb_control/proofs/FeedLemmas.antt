-- What a feed answers, by what it reads.
use Rattle.std.proofs.Common.{◌≡◌, ◌≢◌, ◌∙◌, sym, ap, refl, ℕ, ◌+◌, ◌<◌, true, false, length, map, List, [], Option, None, Some, Result, Ok, Err, subst, arith}
use Rattle.std.specs.Prelude.{nat_lt, if◌then◌else◌, IfErr}
use Rattle.std.specs.Result.{IsErrAnd}
use Rattle.std.specs.List.{concat}
use Rattle.std.specs.Str.{is_utf8}
use Rattle.std.proofs.lemmas.Bool.{cond-true}
use Rattle.std.proofs.lemmas.Bool.Decides.{nat_tests}
use Rattle.deb_control.specs.declared.fault.ControlFaultKind.{ControlFaultKind}
use Rattle.deb_control.specs.declared.fault.ControlFaultKind.TheVariants.{TooLarge, NotUtf8, Read, Memory, Ended}
use Rattle.deb_control.specs.Lines.{body_of, lines_of, paragraphs_in, IsFirstParagraph}
use Rattle.deb_control.specs.Fields.{fields_of, first_fault, paragraph_limit, fault_of, outcome, reading_of}
use Rattle.deb_control.specs.Paragraphs.{Answer, step}
use Rattle.deb_control.specs.Source.{Source, Gives, IsCut}
use Rattle.deb_control.specs.Unfinished.{StopsUnfinished}
use Rattle.deb_control.specs.Pieces.{HasLargeParagraph}
use Rattle.deb_control.specs.FeedState.{FeedState}
use Rattle.deb_control.specs.Feed.{AnswersAs, AnswersFor, GivesNext, ReadEnds, RefusesNext, place_in}
use Rattle.deb_control.proofs.GivesLemmas.{gives-map, known-of}
use Rattle.deb_control.proofs.BadLineLemmas.{reading_of-Read, reading_of-Ended}
use Rattle.deb_control.proofs.RunLemmas.{paragraphs_in-empty}

below : (a b : ℕ) → a < b → nat_lt a b ≡ true
below a b less = grind (arith, nat_tests)

large-reading : (lines : List (List ℕ)) → paragraph_limit < length (concat lines) → reading_of lines ≡ Err TooLarge
unfolding reading_of fault_of
large-reading lines over =
    ap (λ (v : Option ControlFaultKind). outcome v (fields_of (map body_of lines)))
    (cond-true (nat_lt paragraph_limit (length (concat lines))) (Some TooLarge) (if is_utf8 (concat lines) then first_fault [] (map body_of lines) else Some NotUtf8)
    (below paragraph_limit (length (concat lines)) over))

-- a paragraph that is too large is refused
pub refuses-large : (old new : Source) → Gives old new (λ text _. HasLargeParagraph text) → Gives old new (λ text _. RefusesNext TooLarge text)
refuses-large old new gives =
    gives-map old new (λ text _. HasLargeParagraph text) (λ text _. RefusesNext TooLarge text) gives (λ text _ large. (large.0, large.1, large.2, large-reading large.0 large.3))

-- so is a paragraph that has a fault
pub refuses-first : {X : Type 0} → (old new : Source) (bytes : List ℕ) (result : Result X ControlFaultKind) (kind : ControlFaultKind) → IsErrAnd result (λ k. k ≡ kind)
    → Gives old new (λ text rest. IsFirstParagraph text bytes rest) → (kind ≢ Memory → reading_of (lines_of bytes) ≡ Err kind)
    → IfErr result (λ k. k ≢ Memory → k ≢ Read → Gives old new (λ text _. RefusesNext k text))
refuses-first old new bytes (Ok x) kind is gives refused = tt
refuses-first old new bytes (Err k) kind is gives refused = λ other _.
    gives-map old new (λ text rest. IsFirstParagraph text bytes rest) (λ text _. RefusesNext k text) gives
    (λ text rest first. (lines_of bytes, paragraphs_in (lines_of rest), first, rw is (refused (λ memory. other (is ∙ memory)))))

no-paragraphs : paragraphs_in (lines_of []) ≡ []
no-paragraphs = paragraphs_in-empty [] refl

-- at the end of the input a feed answers none, and stays there
pub answers-none : (old new : FeedState) (inside : FeedState) → inside ≡ old → inside.ended ≡ false → new.ended ≡ inside.ended → new.passed ≡ inside.passed
    → Gives inside.source new.source (GivesNext None) → AnswersFor (Ok None) old new
answers-none old new inside is going same passed gives =
    subst (λ (o : FeedState). AnswersFor (Ok None) o new) is
    (gives-map inside.source new.source (GivesNext None) (λ text rest. step (place_in inside text) ≡ (Ok None, place_in new rest)) gives
    (λ text rest next.
    let nothing : paragraphs_in (lines_of rest) ≡ [] = ap (λ (v : List ℕ). paragraphs_in (lines_of v)) next.1 ∙ no-paragraphs in
    rw (same, going, passed, next.0, nothing) refl))

-- a paragraph that has a fault ends the feed
pub refuses-next : (old new : FeedState) (inside : FeedState) (kind : ControlFaultKind) → inside ≡ old → inside.ended ≡ false → new.ended ≡ true → new.passed ≡ inside.passed + 1
    → Gives inside.source new.source (λ text _. RefusesNext kind text) → AnswersFor (Err (record { paragraph = inside.passed + 1; kind = kind })) old new
refuses-next old new inside kind is going ended passed gives =
    subst (λ (o : FeedState). AnswersFor (Err (record { paragraph = inside.passed + 1; kind = kind })) o new) is
    (gives-map inside.source new.source (λ text _. RefusesNext kind text)
    (λ text rest. step (place_in inside text) ≡ (Err (record { paragraph = inside.passed + 1; kind = kind }), place_in new rest)) gives
    (λ text rest next. rw (going, ended, passed, next.2, next.3) refl))

-- so does a text of which no more can be read
pub read-ends : (old new : FeedState) (inside : FeedState) (kind : ControlFaultKind) → inside ≡ old → inside.ended ≡ false → new.ended ≡ true → new.passed ≡ inside.passed + 1
    → IsCut inside.source new.source × Gives inside.source new.source StopsUnfinished → ReadEnds old (record { paragraph = inside.passed + 1; kind = kind }) new
read-ends old new inside kind is going ended passed stops =
    subst (λ (o : FeedState). ReadEnds o (record { paragraph = inside.passed + 1; kind = kind }) new) is (record {
      refuses = record { going = going; paragraph = refl; passed = passed; ended = ended };
      cut = stops.0;
      unfinished = known-of inside.source new.source StopsUnfinished stops.1;
    })

-- if the bytes are known, the answer is one for these
pub known-answer : (answer : Answer) (old new : FeedState) → AnswersFor answer old new → AnswersAs answer old new
known-answer answer old new gives = known-of old.source new.source (λ text rest. step (place_in old text) ≡ (answer, place_in new rest)) gives

-- a fault of a text is not that of a failed read, nor that of a reader that has ended
pub no-Read : (lines : List (List ℕ)) (kind : ControlFaultKind) → (kind ≢ Memory → reading_of lines ≡ Err kind) → kind ≢ Read
no-Read lines kind refused is = reading_of-Read lines (refused other ∙ ap (λ (k : ControlFaultKind). Err k) is)
  where
    other : kind ≢ Memory
    other memory = let e : Read ≡ Memory = sym is ∙ memory in cc

pub no-Ended : (lines : List (List ℕ)) (kind : ControlFaultKind) → (kind ≢ Memory → reading_of lines ≡ Err kind) → kind ≢ Ended
no-Ended lines kind refused is = reading_of-Ended lines (refused other ∙ ap (λ (k : ControlFaultKind). Err k) is)
  where
    other : kind ≢ Memory
    other memory = let e : Ended ≡ Memory = sym is ∙ memory in cc
