use Rattle.std.proofs.Common.{◌≡◌, ◌∙◌, ℕ, List, sym, ap}
use Rattle.std.specs.FinMap as finite
use Rattle.deb_text.specs.Text.{text_cmp}
use Rattle.deb_text.proofs.KeyLemmas.{text_cmp_total, text_cmp-same}
use Rattle.deb_text.proofs.MapLemmas.{one-inserted}
use Rattle.wb_merge.specs.Changes.{Changes, with_change}
use Rattle.wb_merge.proofs.changes.add_change.Goals as goal

pub returns-in_ok-insert : goal.returns-in_ok-insert
returns-in_ok-insert c = record {
  value =
      let old : Changes = finite.from_entries {R = text_cmp} c.args.changes.now.entries in
      let name : c.in_ok-clone.field-0 ≡ c.args.name.now = c.in_ok-clone.ensures.cases in
      one-inserted text_cmp_total text_cmp-same c.args.changes.now.entries c.insert.new.self.entries
      c.in_ok-clone.field-0 c.in-Some.change
      c.in_ok-insert.ensures.updates.0
      ∙ ap (λ (n : List ℕ). finite.insert old n c.in-Some.change) name
      ∙ ap (with_change old c.args.name.now) (sym c.in-Some.is ∙ c.in_ok-change.ensures.value);
}
