use Rattle.std.proofs.Common.{◌∙◌, sym, ap, ◌++◌, ℕ, List, append_assoc, append-nil}
use Rattle.std.specs.Prelude.{codes}
use Rattle.std.specs.List.{flat_map}
use Rattle.std.specs.String.{string_bytes}
use Rattle.wb_merge.specs.declared.changes.RecordChange.{RecordChange}
use Rattle.wb_journal.specs.Changes.{change_text}
use Rattle.wb_journal.proofs.ChangeLemmas.{named-first, named-none}
use Rattle.wb_journal.proofs.changes.push_changes.Goals as goal

pub loop-name-init : goal.loop-name-init
loop-name-init c =
    let start = string_bytes c.args.out.now in
    let first : List ℕ × RecordChange = (c.in-Some.first.now, c.in-Some.change.now) in
    let others = c.next.new.self in
    let after = flat_map (λ (named : List ℕ × RecordChange). codes "," ++ change_text named) in
    ap (λ left. string_bytes c.push_change.new.out ++ after left) c.into_iter-name-iterator.ensures.into_iter_gives
    ∙ ap (λ text. text ++ after others) c.in_ok-push_change.ensures.ok
    ∙ append_assoc start (change_text first) (after others)
    ∙ ap (λ text. start ++ text) (sym (named-first c.args.changes.now.entries others first c.iter-others.ensures.ordered
    (sym c.iter-others.ensures.rest ∙ c.in-Some.ensures.steps)))

pub returns-in_default : goal.returns-in_default
returns-in_default c =
    let start = string_bytes c.args.out.now in
    record {
      ok = sym (ap (λ text. start ++ text) (named-none c.args.changes.now.entries c.iter-others.ensures.ordered
          (sym c.iter-others.ensures.rest ∙ c.in_default.ensures.steps.0)) ∙ append-nil start);
    }
