-- Which commands stand after a life without a command in doubt.
use Rattle.std.proofs.Common.{◌≡◌, ◌⊎◌, inl, inr, List, [], ◌∷◌, ◌++◌, Ok, Err, refl, sym, ap, subst, ◌∙◌}
use Rattle.std.specs.List.{AllByRecursion}
use Rattle.wb_states.specs.declared.command.Command.{Command}
use Rattle.wb_states.specs.declared.refusal.Refusal.TheVariants.{UnknownArch, UnknownBuilder, WrongArch, UnknownSource}
use Rattle.wb_states.specs.declared.refusal.Refusal.TheVariants.{OtherVersion, WrongState, QueueEmpty, NotHeld}
use Rattle.wb_states.specs.declared.refusal.Refusal.TheVariants.{AfterAhead, AlreadyThere, BadName, BadVersion}
use Rattle.wb_states.specs.declared.refusal.Refusal.TheVariants.{BadRelations, BadNumber, BadListing, BadReport}
use Rattle.wb_states.specs.declared.refusal.Refusal.TheVariants.{TextTooLong, Spent, RepeatedArch, Closed, Store}
use Rattle.wb_states.specs.declared.refusal.Refusal.TheVariants.{StillHeld, Memory}
use Rattle.wb_states.specs.declared.store_fault.StoreFault.{StoreFault}
use Rattle.wb_states.specs.Machine.{Machine}
use Rattle.wb_step.specs.Step.{step}
use Rattle.wb_office.specs.Lives.{AreClosed, IsSure, LeavesStanding, Outcome, acknowledged}

module _ (Failed : StoreFault → Type 0) where
  -- of commands that a closed office was asked none stands
  none_stands : (machine : Machine) (commands : List Command) (outcomes : List Outcome) (standing : List Command) → AreClosed commands outcomes → LeavesStanding Failed machine commands outcomes standing → standing ≡ []
  none_stands machine [] [] standing closed stands = stands
  none_stands machine [] (outcome ∷ outcomes) standing closed stands = absurd closed
  none_stands machine (command ∷ commands) [] standing closed stands = absurd closed
  none_stands machine (command ∷ commands) (outcome ∷ outcomes) standing closed stands =
      absurd (subst (λ x. LeavesStanding Failed machine (command ∷ commands) (x ∷ outcomes) standing) closed.0 stands)

  -- one list stands
  pub one_stands : (machine : Machine) (commands : List Command) (outcomes : List Outcome) (one other : List Command) → AllByRecursion IsSure outcomes → LeavesStanding Failed machine commands outcomes one
      → LeavesStanding Failed machine commands outcomes other → one ≡ other
  one_stands machine [] [] one other sure is also = is ∙ sym also
  one_stands machine [] (outcome ∷ outcomes) one other sure is also = absurd is
  one_stands machine (command ∷ commands) [] one other sure is also = absurd is
  one_stands machine (command ∷ commands) (Ok reply ∷ outcomes) one other sure is also =
      is.1 ∙ ap (λ later. acknowledged command reply ++ later) (one_stands (step machine command).1 commands outcomes is.0 also.0 sure.1 is.3 also.3) ∙ sym also.1
  one_stands machine (command ∷ commands) (Err (Store fault) ∷ outcomes) one other sure is also = absurd (sure.0 fault refl)
  one_stands machine (command ∷ commands) (Err Closed ∷ outcomes) one other sure is also = absurd is
  one_stands machine (command ∷ commands) (Err Memory ∷ outcomes) one other sure is also =
      by_memory (λ stands too. one_stands machine commands outcomes one other sure.1 stands too) is.1 also.1
    where
      by_memory : (LeavesStanding Failed machine commands outcomes one → LeavesStanding Failed machine commands outcomes other → one ≡ other)
          → LeavesStanding Failed machine commands outcomes one ⊎ (AreClosed commands outcomes × (one ≡ [])) → LeavesStanding Failed machine commands outcomes other ⊎ (AreClosed commands outcomes × (other ≡ []))
          → one ≡ other
      by_memory same (inl stands) (inl too) = same stands too
      by_memory same (inl stands) (inr none) = none_stands machine commands outcomes one none.0 stands ∙ sym none.1
      by_memory same (inr none) (inl too) = none.1 ∙ sym (none_stands machine commands outcomes other none.0 too)
      by_memory same (inr none) (inr too) = none.1 ∙ sym too.1
  one_stands machine (command ∷ commands) (Err UnknownArch ∷ outcomes) one other sure is also = one_stands machine commands outcomes one other sure.1 is.1 also.1
  one_stands machine (command ∷ commands) (Err UnknownBuilder ∷ outcomes) one other sure is also = one_stands machine commands outcomes one other sure.1 is.1 also.1
  one_stands machine (command ∷ commands) (Err WrongArch ∷ outcomes) one other sure is also = one_stands machine commands outcomes one other sure.1 is.1 also.1
  one_stands machine (command ∷ commands) (Err UnknownSource ∷ outcomes) one other sure is also = one_stands machine commands outcomes one other sure.1 is.1 also.1
  one_stands machine (command ∷ commands) (Err (OtherVersion have) ∷ outcomes) one other sure is also = one_stands machine commands outcomes one other sure.1 is.1 also.1
  one_stands machine (command ∷ commands) (Err (WrongState state) ∷ outcomes) one other sure is also = one_stands machine commands outcomes one other sure.1 is.1 also.1
  one_stands machine (command ∷ commands) (Err QueueEmpty ∷ outcomes) one other sure is also = one_stands machine commands outcomes one other sure.1 is.1 also.1
  one_stands machine (command ∷ commands) (Err NotHeld ∷ outcomes) one other sure is also = one_stands machine commands outcomes one other sure.1 is.1 also.1
  one_stands machine (command ∷ commands) (Err (AfterAhead handed) ∷ outcomes) one other sure is also = one_stands machine commands outcomes one other sure.1 is.1 also.1
  one_stands machine (command ∷ commands) (Err AlreadyThere ∷ outcomes) one other sure is also = one_stands machine commands outcomes one other sure.1 is.1 also.1
  one_stands machine (command ∷ commands) (Err BadName ∷ outcomes) one other sure is also = one_stands machine commands outcomes one other sure.1 is.1 also.1
  one_stands machine (command ∷ commands) (Err (BadVersion fault) ∷ outcomes) one other sure is also = one_stands machine commands outcomes one other sure.1 is.1 also.1
  one_stands machine (command ∷ commands) (Err (BadRelations fault) ∷ outcomes) one other sure is also = one_stands machine commands outcomes one other sure.1 is.1 also.1
  one_stands machine (command ∷ commands) (Err BadNumber ∷ outcomes) one other sure is also = one_stands machine commands outcomes one other sure.1 is.1 also.1
  one_stands machine (command ∷ commands) (Err (BadListing which paragraph fault) ∷ outcomes) one other sure is also = one_stands machine commands outcomes one other sure.1 is.1 also.1
  one_stands machine (command ∷ commands) (Err (BadReport line) ∷ outcomes) one other sure is also = one_stands machine commands outcomes one other sure.1 is.1 also.1
  one_stands machine (command ∷ commands) (Err TextTooLong ∷ outcomes) one other sure is also = one_stands machine commands outcomes one other sure.1 is.1 also.1
  one_stands machine (command ∷ commands) (Err Spent ∷ outcomes) one other sure is also = one_stands machine commands outcomes one other sure.1 is.1 also.1
  one_stands machine (command ∷ commands) (Err RepeatedArch ∷ outcomes) one other sure is also = one_stands machine commands outcomes one other sure.1 is.1 also.1
  one_stands machine (command ∷ commands) (Err StillHeld ∷ outcomes) one other sure is also = one_stands machine commands outcomes one other sure.1 is.1 also.1
