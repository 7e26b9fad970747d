-- What is appended, with what is still to be appended, is what was there and all parts after the first.
use Rattle.std.proofs.Common.{◌≡◌, ◌++◌, drop}
use Rattle.std.specs.Prelude.{codes}
use Rattle.std.specs.String.{string_bytes}
use Rattle.std.specs.List.{flat_map}
use Rattle.wb_states.specs.declared.reply.PartReply.{PartReply}
use Rattle.wb_journal.specs.Changes.{part_text}
use Rattle.wb_journal.proofs.entry.push_replies.Given as goal

abbrev pub invariant-loop-reply : goal.invariant-loop-reply
invariant-loop-reply l =
    string_bytes l.out
    ++ flat_map (λ (other : PartReply). codes "," ++ part_text l.changes other.arch) (drop l.reply-index l.others)
    ≡ string_bytes l.initial.out
    ++ flat_map (λ (other : PartReply). codes "," ++ part_text l.changes other.arch) l.others
