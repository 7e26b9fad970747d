-- What a single command leaves of the office.
use Rattle.std.proofs.Common.{ℕ, List, Option, inl, inr, refl, sym, subst}
use Rattle.wb_states.specs.Machine.{Machine}
use Rattle.wb_step.specs.Offices.{Standing, IsSoOfEach}
use Rattle.wb_lists.specs.Lists.{MayRead}
use Rattle.wb_daemon.specs.Single.{LeavesStep, asked_in}
use Rattle.wb_daemon.specs.Turn.{Answers, StopsAt}
use Rattle.wb_daemon.specs.declared.message.Cause.{Cause}
use Rattle.wb_daemon.specs.declared.message.Cause.TheVariants as why
use Rattle.wb_daemon.proofs.ReplayedLemmas.{asked-leaves, refused-leaves_each}

-- what an answer leaves
pub answers-leaves : (may_read : MayRead) (words : List (List ℕ)) (before after : Machine) (old new : Option (List ℕ)) (status : ℕ)
    → Answers may_read (asked_in words) before after old new status → LeavesStep may_read words before after
answers-leaves may_read words before after old new status h = asked-leaves may_read before (asked_in words) _ h.1

-- what is left if the words were not answered to the end, or were refused by the store
pub stops-leaves : (may_read : MayRead) (words : List (List ℕ)) (before after : Machine) (standing : Standing) (old new : Option (List ℕ)) (cause : Cause)
    → StopsAt may_read (asked_in words) before after standing old new cause → IsSoOfEach (LeavesStep may_read words before) after standing
stops-leaves may_read words before after standing old new why.Read h = absurd h
stops-leaves may_read words before after standing old new why.Write (response, inl said, is, front) =
    subst (λ s. IsSoOfEach (LeavesStep may_read words before) after s) (sym said.1)
    (subst (LeavesStep may_read words before) (sym is) (asked-leaves may_read before (asked_in words) response said.0))
stops-leaves may_read words before after standing old new why.Write (response, inr refused, is, front) =
    refused-leaves_each may_read (LeavesStep may_read words before) before after (asked_in words) response standing refused is (inl refl)
    (λ command invokes. inr (command, invokes, refl))
stops-leaves may_read words before after standing old new why.Reply (h, still) =
    subst (λ s. IsSoOfEach (LeavesStep may_read words before) after s) (sym still) (inr (h.0, h.1, h.2.1))
stops-leaves may_read words before after standing old new why.Store (response, refused, is, wrote) =
    refused-leaves_each may_read (LeavesStep may_read words before) before after (asked_in words) response standing refused is (inl refl)
    (λ command invokes. inr (command, invokes, refl))
stops-leaves may_read words before after standing old new why.Lines h = absurd h
stops-leaves may_read words before after standing old new why.Room h = absurd h
