-- What is asked for where a command stands on a number that may not be one.
use Rattle.std.proofs.Common.{◌≡◌, ℕ, List, refl}
use Rattle.std.specs.Prelude.{Option, Some, None, option_map}
use Rattle.std.specs.Option.{option_or}
use Rattle.wb_states.specs.declared.command.Command.{Command}
use Rattle.wb_states.specs.Forms.{Next}
use Rattle.wb_words.specs.Words.{or_asked}
use Rattle.wb_words.specs.declared.words.Invocation.TheVariants as invocation

-- a builder's command is asked for where there is one
pub builder-invocation : (command : ℕ → Command) (number : Option ℕ) → or_asked (option_map command number) None
    ≡ option_map (λ n. invocation.Command (command n)) number
builder-invocation command None = refl
builder-invocation command (Some n) = refl

-- an operator's command is asked for where there is one
pub operator-invocation : {N : Type 0} (command : N → Command) (number : Option N)
    → or_asked (option_or (option_map command number) None) None ≡ option_map (λ n. invocation.Command (command n)) number
operator-invocation command None = refl
operator-invocation command (Some n) = refl

-- a builder asks for the next source package after a number where there is one
pub next-invocation : (arch builder : List ℕ) (number : Option ℕ)
    → or_asked (option_map (λ after. Next arch builder after) (option_map (λ n. Some n) number)) None
    ≡ option_map (λ n. invocation.Command (Next arch builder (Some n))) number
next-invocation arch builder None = refl
next-invocation arch builder (Some n) = refl
