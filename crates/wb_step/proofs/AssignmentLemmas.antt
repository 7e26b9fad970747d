-- A record that was found is handed to a builder, or the builder is refused.
use Rattle.std.proofs.Common.{◌≡◌, ℕ, ◌+◌, ◌||◌, true, false, List, Some, None, Ok, Err, refl, sym, ◌∙◌, nat_le}
use Rattle.std.specs.FinMap as map
use Rattle.std.specs.Option.{option_or}
use Rattle.wb_states.specs.declared.moves.Move.TheVariants as to
use Rattle.wb_states.specs.declared.record.Record.{Record}
use Rattle.wb_states.specs.declared.refusal.Refusal.{Refusal}
use Rattle.wb_states.specs.declared.refusal.Refusal.TheVariants.{Spent}
use Rattle.wb_states.specs.declared.reply.Assignment.{Assignment}
use Rattle.wb_states.specs.declared.reply.Reply.{Reply}
use Rattle.wb_states.specs.declared.reply.Reply.TheVariants.{Job}
use Rattle.wb_states.specs.Limits.{count_limit}
use Rattle.wb_states.specs.Machine.{Machine}
use Rattle.wb_states.specs.Moves.{move_refusal, record_after_move, may_go}
use Rattle.wb_states.specs.Queue.{Entry}
use Rattle.wb_states.specs.declared.keyed.KeyedRecord.{KeyedRecord}
use Rattle.wb_states.specs.Lookups.{entry_of}
use Rattle.wb_step.specs.Checks.{when}
use Rattle.wb_step.specs.Outcomes.{outcome_unless, assignment_step, take_move}
use Rattle.wb_step.specs.Step.{assignment_of, counted, after_take, assignment_reply}

-- whether a record can be taken does not depend on the take number
pub take-any : (builder : List ℕ) (one other : ℕ) (current : Record)
    → move_refusal (to.Take builder one) current ≡ move_refusal (to.Take builder other) current
unfolding move_refusal may_go
take-any builder one other current = refl

pub assignment_step-refused : (machine : Machine) (builder : List ℕ) (entry : Entry) (refusal : Refusal)
    → move_refusal (take_move machine builder) entry.1 ≡ Some refusal → assignment_step machine builder entry ≡ (Err refusal, machine)
unfolding assignment_step
assignment_step-refused machine builder entry refusal is =
    λ i. outcome_unless (option_or (is i) (option_or (when (nat_le count_limit machine.accepted || nat_le count_limit machine.handed) Spent) None)) machine
    (Ok (assignment_reply machine (Some entry)), counted machine (after_take machine (Some (entry, take_move machine builder))))

pub assignment_step-Spent : (machine : Machine) (builder : List ℕ) (entry : Entry)
    → move_refusal (take_move machine builder) entry.1 ≡ None → (nat_le count_limit machine.accepted || nat_le count_limit machine.handed) ≡ true
    → assignment_step machine builder entry ≡ (Err Spent, machine)
unfolding assignment_step
assignment_step-Spent machine builder entry is full =
    λ i. outcome_unless (option_or (is i) (option_or (when (full i) Spent) None)) machine
    (Ok (assignment_reply machine (Some entry)), counted machine (after_take machine (Some (entry, take_move machine builder))))

pub assignment_step-Ok : (machine new : Machine) (builder : List ℕ) (entry : Entry) (assignment : Assignment) (reply : Reply)
    → move_refusal (take_move machine builder) entry.1 ≡ None → (nat_le count_limit machine.accepted || nat_le count_limit machine.handed) ≡ false
    → assignment ≡ assignment_of entry (machine.handed + 1)
    → reply ≡ Job (machine.accepted + 1) assignment
    → new ≡ record machine {
      records = map.insert machine.records entry.0 (record_after_move (take_move machine builder) entry.1);
      handed = machine.handed + 1;
      accepted = machine.accepted + 1;
    }
    → assignment_step machine builder entry ≡ (Ok reply, new)
unfolding assignment_step
assignment_step-Ok machine new builder entry assignment reply is room given replied left =
    (λ i. outcome_unless (option_or (is i) (option_or (when (room i) Spent) None)) machine
    (Ok (assignment_reply machine (Some entry)), counted machine (after_take machine (Some (entry, take_move machine builder)))))
    ∙ (λ i. (Ok (Job (machine.accepted + 1) (sym given i)), sym left i))
    ∙ (λ i. (Ok (sym replied i), new))

-- a record that was handed out is written, and both counts are raised
pub assignment_step-kept : (machine new : Machine) (builder : List ℕ) (entry : Entry) (made : KeyedRecord) (assignment : Assignment) (reply : Reply)
    → move_refusal (take_move machine builder) entry.1 ≡ None → (nat_le count_limit machine.accepted || nat_le count_limit machine.handed) ≡ false
    → entry_of made ≡ (entry.0, record_after_move (take_move machine builder) entry.1)
    → assignment ≡ assignment_of entry (machine.handed + 1)
    → reply ≡ Job (machine.accepted + 1) assignment
    → new ≡ record machine {
      records = map.insert machine.records (made.arch, made.source) made.current;
      handed = machine.handed + 1;
      accepted = machine.accepted + 1;
    }
    → assignment_step machine builder entry ≡ (Ok reply, new)
assignment_step-kept machine new builder entry made assignment reply is room value given replied left =
    assignment_step-Ok machine new builder entry assignment reply is room given replied
    (left ∙ (λ i. record machine {
      records = map.insert machine.records (value i).0 (value i).1;
      handed = machine.handed + 1;
      accepted = machine.accepted + 1;
    }))
