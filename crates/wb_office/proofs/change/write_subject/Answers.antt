use Rattle.std.proofs.Common.{◌≡◌, ◌∙◌, inl, inr, sym, subst, false, Some, Ok, refl, ◌↔◌, IsTrue}
use Rattle.std.proofs.lemmas.Bool.{false≢true}
use Rattle.wb_states.specs.declared.command.Command.TheVariants as of
use Rattle.wb_states.specs.Machine.{Machine}
use Rattle.wb_office.specs.Changed.{LacksFittingNumbers, IsStepOf, IsThere, Writes, before_counts, found_at}
use Rattle.wb_office.specs.Changed.{IsEntering, IsWriteOf}
use Rattle.wb_office.proofs.StepOfLemmas.{adds_arch, adds_builder, forgets, found_there, puts, removes_builder}
use Rattle.wb_office.proofs.WriteLemmas.{writes_change, writes_nothing, writes_same, record_written}
use Rattle.wb_office.proofs.change.write_subject.Goals as goal
use Rattle.wb_office.proofs.change.write_subject.Goals.{in-Enter, in_default-matches}

pub returns-in-AddArch-clause-writes : goal.returns-in-AddArch-clause-writes
returns-in-AddArch-clause-writes g c =
    subst (λ command. Writes g.S.Store (IsWriteOf command c.args.key.now c.args.after.now) (LacksFittingNumbers c.args.after.now c.args.key.now) (λ whole. IsStepOf whole command c.args.key.now c.args.after.now) (before_counts command) c.args.writing.now.store.now c.write_arch.new.writing.store.now c.write_arch.result)
    (sym c.in-AddArch.is) (writes_same (λ it is. subst (IsWriteOf (of.AddArch c.in-AddArch.command) c.args.key.now c.args.after.now) (sym is) refl) (λ e full. inl (inl full)) (λ whole h. adds_arch c.in-AddArch.command h) c.write_arch.ensures.writes)

pub returns-in-AddBuilder-clause-writes : goal.returns-in-AddBuilder-clause-writes
returns-in-AddBuilder-clause-writes g c =
    subst (λ command. Writes g.S.Store (IsWriteOf command c.args.key.now c.args.after.now) (LacksFittingNumbers c.args.after.now c.args.key.now) (λ whole. IsStepOf whole command c.args.key.now c.args.after.now) (before_counts command) c.args.writing.now.store.now c.add_builder.new.self.store.now c.add_builder.result)
    (sym c.in-AddBuilder.is) (writes_same (λ it is. is) (λ e none. absurd none) (λ whole h. adds_builder c.in-AddBuilder.command h)
    (writes_change {Is = IsWriteOf (of.AddBuilder c.in-AddBuilder.command) c.args.key.now c.args.after.now} {Fits = λ _. ⊥} refl c.add_builder.ensures.changes))

pub returns-in-RemoveBuilder-clause-writes : goal.returns-in-RemoveBuilder-clause-writes
returns-in-RemoveBuilder-clause-writes g c =
    subst (λ command. Writes g.S.Store (IsWriteOf command c.args.key.now c.args.after.now)
    (LacksFittingNumbers c.args.after.now c.args.key.now)
    (λ whole. IsStepOf whole command c.args.key.now c.args.after.now) (before_counts command)
    c.args.writing.now.store.now c.remove_builder.new.self.store.now c.remove_builder.result)
    (sym c.in-RemoveBuilder.is) (writes_same (λ it is. is) (λ e none. absurd none)
    (λ whole h. (tt, removes_builder c.in-RemoveBuilder.command h))
    (writes_change {Is = IsWriteOf (of.RemoveBuilder c.in-RemoveBuilder.command) c.args.key.now c.args.after.now}
    {Fits = λ _. ⊥} refl c.remove_builder.ensures.changes))

pub returns-in-Forget-clause-writes : goal.returns-in-Forget-clause-writes
returns-in-Forget-clause-writes g c =
    subst (λ command. Writes g.S.Store (IsWriteOf command c.args.key.now c.args.after.now)
    (LacksFittingNumbers c.args.after.now c.args.key.now)
    (λ whole. IsStepOf whole command c.args.key.now c.args.after.now) (before_counts command)
    c.args.writing.now.store.now c.remove.new.self.store.now c.remove.result)
    (sym c.in-Forget.is) (writes_same (λ it is. is) (λ e none. absurd none)
    (λ whole h. (tt, forgets c.in-Forget.command h))
    (writes_change {Is = IsWriteOf (of.Forget c.in-Forget.command) c.args.key.now c.args.after.now} {Fits = λ _. ⊥}
    (c.in-Forget.command.version, refl) c.remove.ensures.changes))

pub returns-after-matches-clause-writes : goal.returns-after-matches-clause-writes
returns-after-matches-clause-writes g c =
    subst (λ key. Writes g.S.Store (IsWriteOf c.args.command.now key c.args.after.now) (LacksFittingNumbers c.args.after.now key) (λ whole. IsStepOf whole c.args.command.now key c.args.after.now) (before_counts c.args.command.now) c.args.writing.now.store.now c.write_record.new.writing.store.now c.write_record.result)
    (sym c.in-Some.is) (writes_same (record_written c.args.command.now (Some (c.in-Some.arch, c.in-Some.source)) c.args.after.now c.match-matches.matches entered) (λ e unfit. inr unfit)
    (λ whole h. (
      there whole h,
      puts c.args.command.now (λ fields. c.in_default.not-AddArch fields)
          (λ fields. c.in_default.not-AddBuilder fields) (λ fields. c.in_default.not-RemoveBuilder fields)
          (λ fields. c.in_default.not-Forget fields) h,
    )) c.write_record.ensures.writes)
  where
    entered : IsTrue c.match-matches.matches ↔ IsEntering c.args.command.now
    entered = elim c.match-matches.branch [
      | in-Enter w ↦ (λ is_new. (w.in-Enter.field-0, w.in-Enter.is), λ entering. w.matches-is)
      | in_default-matches w ↦ (λ is_new. absurd (false≢true (sym w.matches-is ∙ is_new)), λ entering. absurd (w.in_default-matches.not-Enter entering.0 entering.1))
    ]

    there : (whole : Machine) → IsStepOf whole c.args.command.now (Some (c.in-Some.arch, c.in-Some.source)) c.args.after.now → c.match-matches.matches ≡ false
        → IsThere whole (found_at c.args.after.now (Some (c.in-Some.arch, c.in-Some.source)))
    there whole h not_new = elim c.match-matches.branch [
      | in-Enter w ↦ absurd (false≢true (sym not_new ∙ w.matches-is))
      | in_default-matches w ↦ found_there c.args.command.now h (λ fields. w.in_default-matches.not-Enter fields)
          (λ fields. c.in_default.not-Forget fields)
    ]

pub returns-in-None-clause-writes : goal.returns-in-None-clause-writes
returns-in-None-clause-writes g c =
    subst (λ key. Writes g.S.Store (IsWriteOf c.args.command.now key c.args.after.now) (LacksFittingNumbers c.args.after.now key) (λ whole. IsStepOf whole c.args.command.now key c.args.after.now) (before_counts c.args.command.now) c.args.writing.now.store.now c.args.writing.now.store.now (Ok tt))
    (sym c.in-None.is) (writes_nothing (λ whole h. puts c.args.command.now (λ fields. c.in_default.not-AddArch fields)
    (λ fields. c.in_default.not-AddBuilder fields) (λ fields. c.in_default.not-RemoveBuilder fields)
    (λ fields. c.in_default.not-Forget fields) h))
