-- What a run of exchanges leaves.
use Rattle.std.specs.Prelude.{◌≡◌, ◌⊎◌, ℕ, List, [], ◌∷◌, Option, IsOk}
use Rattle.std.proofs.Common.{inl, inr}
use Rattle.wb_states.specs.Machine.{Machine}
use Rattle.wb_states.specs.declared.command.Command.{Command}
use Rattle.wb_step.specs.Offices.{Standing, Failed, InDoubt, Open, Shut}
use Rattle.wb_step.specs.Step.{step}
use Rattle.wb_api.specs.declared.request.Received.{Received}
use Rattle.wb_api.specs.declared.request.Received.TheVariants as received
use Rattle.wb_keys.specs.declared.access.Access.{Access}
use Rattle.wb_lists.specs.Lists.{MayRead}
use Rattle.wb_api.specs.Exchange.{AsksFor, ExchangesWith, TellsOk}
use Rattle.wb_api.specs.declared.serve.Served.{Served}

-- one exchange of a run: what was received, and how the exchange ended
pub record Exchange : Type 0 where
  pub received : Received
  pub ended : Served

-- exchanges one after another take the office from one state to another, by who may ask for what and what lists may be
-- read as, and it stands so after the last; before each it stands open
abbrev pub Serves : Access → MayRead → List Exchange → Machine → Machine → Standing → Type 0
Serves access may_read [] before after standing = (after ≡ before) × (standing ≡ Open)
Serves access may_read (one ∷ others) before after standing =
    (between : Machine) × (stands : Standing) × (old new : Option (List ℕ))
    × ExchangesWith access may_read one.received before between stands old new one.ended
    × (((others ≡ []) × (after ≡ between) × (standing ≡ stands))
    ⊎ ((stands ≡ Open) × Serves access may_read others between after standing))

-- the state in which an office may be found besides, if a command is in doubt: the one that this command leaves
abbrev pub states_in_doubt : Machine → Standing → List Machine
states_in_doubt machine Open = []
states_in_doubt machine Shut = []
states_in_doubt machine (InDoubt command fault) = (step machine command).1 ∷ []
states_in_doubt machine (Failed fault) = []

-- the states of a run after its first: the one after each exchange, and last the one that a command in doubt leaves
abbrev pub states_after : (access : Access) (may_read : MayRead) (exchanges : List Exchange) (before after : Machine)
    (standing : Standing) → Serves access may_read exchanges before after standing → List Machine
states_after access may_read [] before after standing served = []
states_after access may_read (one ∷ others) before after standing (between, stands, old, new, did, inl last) =
    between ∷ states_in_doubt between stands
states_after access may_read (one ∷ others) before after standing (between, stands, old, new, did, inr later) =
    between ∷ states_after access may_read others between after standing later.1

-- what was received asks for this command: it is the command, or the merge that the lists which it names may be read as
abbrev pub IsAskedFor : MayRead → Received → Command → Type 0
IsAskedFor may_read (received.Asked shown asked) command = AsksFor may_read asked command
IsAskedFor may_read came command = ⊥

-- a command was answered with status 200, or with a front of such an answer
abbrev pub IsAcknowledged : MayRead → Exchange → Command → Type 0
IsAcknowledged may_read one command = IsAskedFor may_read one.received command × TellsOk one.ended

-- the commands that exchanges from this state had the office accept, in their order; none that was acknowledged is
-- missing
abbrev pub AreAccepted : MayRead → Machine → List Exchange → List Command → Type 0
AreAccepted may_read machine [] commands = commands ≡ []
AreAccepted may_read machine (one ∷ others) commands =
    (((command : Command) → ¬ (IsAcknowledged may_read one command)) × AreAccepted may_read machine others commands)
    ⊎ ((command : Command) × (later : List Command) × (commands ≡ command ∷ later)
    × IsAskedFor may_read one.received command × IsOk (step machine command).0
    × AreAccepted may_read (step machine command).1 others later)
