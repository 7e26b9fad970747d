use Rattle.std.proofs.Common.{sym, ap, ◌∙◌, map as each, option_map}
use Rattle.wb_states.specs.Machine.{Machine}
use Rattle.wb_states.specs.Lookups.{entry_of}
use Rattle.wb_step.specs.Named.{listed}
use Rattle.wb_office.specs.Sought.{entries_found, with_entries, with_pairs}
use Rattle.wb_office.proofs.SoughtLemmas.{office_made, with_entries-joined}
use Rattle.wb_office.proofs.named.part.part_of.Goals as goal

pub returns-clause-value : goal.returns-clause-value
returns-clause-value c =
    let found = c.args.found in
    let first = option_map entry_of found.first in
    let others = each entry_of found.others.items in
    let counts = found.counts in
    c.in_ok-add_first.ensures.ok ∙ ap (λ m. with_entries m (listed first)) c.in_ok-add_rows.ensures.ok
    ∙ sym (with_entries-joined c.add_pairs.new.store first others)
    ∙ ap (λ m. with_entries m (entries_found found)) c.in_ok-add_pairs.ensures.ok
    ∙ ap (λ m. with_entries (with_pairs m found.pairs.items) (entries_found found)) c.in_ok-add_archs.ensures.ok
    ∙ office_made found c.set_counts.new.self
    (c.set_counts.ensures.ok ∙ ap (λ (m : Machine). record m { handed = counts.handed; accepted = counts.accepted }) c.new-store.ensures.value)
