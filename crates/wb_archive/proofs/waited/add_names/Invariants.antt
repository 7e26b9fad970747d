use Rattle.std.proofs.Common.{◌≡◌, ℕ, ◌||◌, List, drop}
use Rattle.std.specs.BTreeSet.{contains}
use Rattle.deb_relations.specs.Satisfaction.{is_among}
use Rattle.deb_text.specs.Text.{text_cmp}
use Rattle.wb_archive.proofs.waited.add_names.Given as goal

abbrev pub invariant-loop-name : goal.invariant-loop-name
invariant-loop-name l =
    (name : List ℕ) → (is_among name (drop l.name-index l.names) || contains text_cmp l.waited name) ≡ (is_among name l.names || contains text_cmp l.fn.waited name)
