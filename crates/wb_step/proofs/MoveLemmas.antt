-- A record that was found is moved, or the move is refused.
use Rattle.std.proofs.Common.{◌≡◌, ◌+◌, true, false, Some, None, Ok, Err, sym, ◌∙◌, nat_le}
use Rattle.std.specs.FinMap as map
use Rattle.std.specs.Option.{option_or}
use Rattle.deb_text.proofs.OptionLemmas.{ok_unless-Ok, ok_unless-Err}
use Rattle.wb_states.specs.declared.moves.Move.{Move}
use Rattle.wb_states.specs.declared.record.Record.{Record}
use Rattle.wb_states.specs.declared.refusal.Refusal.{Refusal}
use Rattle.wb_states.specs.declared.refusal.Refusal.TheVariants.{Spent}
use Rattle.wb_states.specs.declared.reply.Reply.{Reply}
use Rattle.wb_states.specs.declared.reply.Reply.TheVariants.{Done}
use Rattle.wb_states.specs.Limits.{count_limit}
use Rattle.wb_states.specs.Machine.{Machine}
use Rattle.wb_states.specs.Moves.{move_refusal, move_outcome, record_after_move}
use Rattle.wb_states.specs.Queue.{Entry}
use Rattle.wb_states.specs.declared.keyed.KeyedRecord.{KeyedRecord}
use Rattle.wb_states.specs.Lookups.{entry_of}
use Rattle.wb_step.specs.Checks.{when}
use Rattle.wb_step.specs.Outcomes.{outcome_unless, move_step}
use Rattle.wb_step.specs.Step.{counted, after_move}

pub move_outcome-Ok : (move : Move) (current after : Record) → move_outcome move current ≡ Ok after
    → (move_refusal move current ≡ None) × (after ≡ record_after_move move current)
unfolding move_outcome
move_outcome-Ok move current after is =
    let parts = ok_unless-Ok (move_refusal move current) (record_after_move move current) after is in (parts.0, sym parts.1)

pub move_outcome-Err : (move : Move) (current : Record) (refusal : Refusal) → move_outcome move current ≡ Err refusal
    → move_refusal move current ≡ Some refusal
unfolding move_outcome
move_outcome-Err move current refusal is = ok_unless-Err (move_refusal move current) (record_after_move move current) refusal is

pub move_step-refused : (machine : Machine) (entry : Entry) (move : Move) (refusal : Refusal)
    → move_refusal move entry.1 ≡ Some refusal → move_step machine entry move ≡ (Err refusal, machine)
unfolding move_step
move_step-refused machine entry move refusal is =
    λ i. outcome_unless (option_or (is i) (option_or (when (nat_le count_limit machine.accepted) Spent) None)) machine
    (Ok (Done (machine.accepted + 1)), counted machine (after_move machine (Some (entry, move))))

pub move_step-Spent : (machine : Machine) (entry : Entry) (move : Move)
    → move_refusal move entry.1 ≡ None → nat_le count_limit machine.accepted ≡ true → move_step machine entry move ≡ (Err Spent, machine)
unfolding move_step
move_step-Spent machine entry move is full =
    λ i. outcome_unless (option_or (is i) (option_or (when (full i) Spent) None)) machine
    (Ok (Done (machine.accepted + 1)), counted machine (after_move machine (Some (entry, move))))

pub move_step-Ok : (machine new : Machine) (entry : Entry) (move : Move) (reply : Reply)
    → move_refusal move entry.1 ≡ None → nat_le count_limit machine.accepted ≡ false
    → reply ≡ Done (machine.accepted + 1)
    → new ≡ counted machine (record machine { records = map.insert machine.records entry.0 (record_after_move move entry.1) })
    → move_step machine entry move ≡ (Ok reply, new)
unfolding move_step
move_step-Ok machine new entry move reply is room replied left =
    (λ i. outcome_unless (option_or (is i) (option_or (when (room i) Spent) None)) machine
    (Ok (Done (machine.accepted + 1)), counted machine (after_move machine (Some (entry, move)))))
    ∙ (λ i. (Ok (sym replied i), sym left i))

-- a record after a move is written, and the command is counted
pub move_step-made : (machine new : Machine) (entry : Entry) (move : Move) (made : KeyedRecord) (reply : Reply)
    → move_refusal move entry.1 ≡ None → nat_le count_limit machine.accepted ≡ false
    → entry_of made ≡ (entry.0, record_after_move move entry.1)
    → reply ≡ Done (machine.accepted + 1)
    → new ≡ counted machine (record machine { records = map.insert machine.records (made.arch, made.source) made.current })
    → move_step machine entry move ≡ (Ok reply, new)
move_step-made machine new entry move made reply is room value replied left =
    move_step-Ok machine new entry move reply is room replied
    (left ∙ (λ i. counted machine (record machine { records = map.insert machine.records (value i).0 (value i).1 })))
