-- How a part ends.
use Rattle.std.proofs.Common.{◌≡◌, ◌++◌, List, [], ◌∷◌, false, refl}
use Rattle.std.specs.List.{AllByRecursion}
use Rattle.wb_states.specs.declared.refusal.Refusal.{Refusal}
use Rattle.wb_states.specs.declared.refusal.Refusal.TheVariants.{BadListing, UnknownArch}
use Rattle.wb_states.specs.declared.reply.PartReply.{PartReply}
use Rattle.wb_states.specs.Refusals.{is_of_store}
use Rattle.wb_archive.specs.Parts.{IsPartEnd, IsPartRefusal}

-- the refusal of a part closes no office
pub kinds_of_store : (refusal : Refusal) → IsPartRefusal refusal → is_of_store refusal ≡ false
kinds_of_store UnknownArch is = refl
kinds_of_store (BadListing which paragraph fault) is = refl
kinds_of_store refusal is = absurd is

-- one reply more
pub ends-more : (replies : List PartReply) (reply : PartReply) → AllByRecursion (λ reply. IsPartEnd reply.end) replies → IsPartEnd reply.end
    → AllByRecursion (λ reply. IsPartEnd reply.end) (replies ++ reply ∷ [])
ends-more [] reply are is = (is, tt)
ends-more (first ∷ replies) reply are is = (are.0, ends-more replies reply are.1 is)
