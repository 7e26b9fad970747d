-- A feed, as a reader of a list.
use Rattle.std.proofs.Common.{◌≡◌, ◌≢◌, ◌+◌, ◌∙◌, Option, None, Some, Result, Ok, Err, refl, inl, inr, ◌⊎◌, List, [], ◌++◌}
use Rattle.std.specs.Prelude.{IfErr, IfOk, OnOk}
use Rattle.std.specs.Option.{option_map}
use Rattle.deb_control.specs.declared.fault.ControlFault.{ControlFault}
use Rattle.deb_control.specs.declared.fault.ControlFaultKind.{ControlFaultKind}
use Rattle.deb_control.specs.declared.fault.ControlFaultKind.TheVariants.{BadName, Duplicate, Ended, Memory, NoColon, NotUtf8, Orphan, Read, TooLarge}
use Rattle.deb_control.specs.Fields.{FieldText}
use Rattle.deb_control.specs.Feed.{AnswersFor, MayStandAt, ReadEnds}
use Rattle.deb_control.specs.FeedState.{FeedState}
use Rattle.deb_control.specs.Paragraphs.{step}
use Rattle.deb_control.specs.Source.{TakesSome}
use Rattle.deb_control.proofs.SourceLemmas.{takes-nil, takes-then}
use Rattle.deb_control.proofs.StandLemmas.{stood-answering, stood-before}
use Rattle.wb_archive.specs.Feeds.{IsFeedBreak}
use Rattle.wb_archive.specs.Reads.{AnswersFrom, MayStandWhere}

-- a fault is a failed read or another
is-read : (kind : ControlFaultKind) → (kind ≡ Read) ⊎ (kind ≢ Read)
is-read Read = inl refl
is-read TooLarge = inr (λ e. cc)
is-read NotUtf8 = inr (λ e. cc)
is-read Orphan = inr (λ e. cc)
is-read NoColon = inr (λ e. cc)
is-read BadName = inr (λ e. cc)
is-read Duplicate = inr (λ e. cc)
is-read Memory = inr (λ e. cc)
is-read Ended = inr (λ e. cc)

same-found : (found : Option (List FieldText)) → found ≡ option_map (λ fields. fields) found
same-found None = refl
same-found (Some fields) = refl

-- what a feed found is the answer from where it may have stood
pub feed-answers : (result : Result (Option (List FieldText)) ControlFault) (old new : FeedState) → IfOk result (λ found. AnswersFor (Ok found) old new)
    → IfOk result (λ found. AnswersFrom MayStandAt old new (Ok (option_map (λ fields. fields) found)))
feed-answers (Ok found) old new gives = λ after here.
    let before = stood-before (Ok found) old new gives after here in
    (before.0, (before.1.0, before.1.1 ∙ (λ i. (Ok (same-found found i), after))))
feed-answers (Err fault) old new gives = tt

-- a feed refuses what stands where it may have stood, or breaks
pub feed-refuses : (result : Result (Option (List FieldText)) ControlFault) (old new : FeedState)
    → IfErr result (λ fault. fault.kind ≡ Read → ReadEnds old fault new)
    → IfErr result (λ fault. fault.kind ≢ Memory → fault.kind ≢ Read → AnswersFor (Err fault) old new)
    → IfErr result (λ fault. fault.kind ≢ Memory → TakesSome old.source new.source)
    → IfErr result (λ fault. fault.kind ≢ Memory
    → (IsFeedBreak old fault × (fault.paragraph ≡ old.passed + 1)) ⊎ MayStandWhere MayStandAt old (λ place. (step place).0 ≡ Err fault))
feed-refuses (Ok found) old new ends refuses lost = tt
feed-refuses (Err fault) old new ends refuses lost = λ memory. by (is-read fault.kind) memory where
  by : (fault.kind ≡ Read) ⊎ (fault.kind ≢ Read) → fault.kind ≢ Memory
      → (IsFeedBreak old fault × (fault.paragraph ≡ old.passed + 1)) ⊎ MayStandWhere MayStandAt old (λ place. (step place).0 ≡ Err fault)
  by (inl read) memory =
      inl (record { kind = read; before = old; read = ([], takes-nil old.source); last = new; taken = lost memory; ends = ends read }, (ends read).refuses.paragraph)
  by (inr other) memory = inr (stood-answering (Err fault) old new (refuses memory other))

-- a feed that breaks after a call breaks when it is read on from before it
pub feed-earlier : (result : Result (Option (List FieldText)) ControlFault) (old new : FeedState) → OnOk result (TakesSome old.source new.source)
    → OnOk result ((fault : ControlFault) → IsFeedBreak new fault → IsFeedBreak old fault)
feed-earlier (Ok found) old new taken = λ fault broke. record {
  kind = broke.kind;
  before = broke.before;
  read = (taken.0 ++ broke.read.0, takes-then old.source new.source broke.before.source taken.0 broke.read.0 taken.1 broke.read.1);
  last = broke.last;
  taken = broke.taken;
  ends = broke.ends;
}
feed-earlier (Err fault) old new taken = tt
