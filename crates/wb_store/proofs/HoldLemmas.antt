-- What a builder holds, sorted by take number.
use Rattle.std.proofs.Common.{◌≡◌, ℕ, List, map, filter, sym, ap, ◌∙◌, nat_cmp, unwrap_or}
use Rattle.std.specs.FinMap as finite
use Rattle.std.specs.List.Sorted.{IsNonDecreasingBy, IsStableByKey}
use Rattle.wb_states.specs.Machine.{Machine}
use Rattle.wb_states.specs.Holds.{held_of, take_cmp}
use Rattle.wb_states.specs.Queue.{Entry}
use Rattle.wb_states.specs.declared.keyed.KeyedRecord.{KeyedRecord}
use Rattle.wb_states.specs.Lookups.{entry_of}
use Rattle.deb_text.specs.Lists.{sorted_by}
use Rattle.wb_states.proofs.SortLemmas.{sorted-is, sorted_by-map}
use Rattle.wb_store.specs.Lookups.{AreHeld, is_held_with_take}
use Rattle.wb_store.proofs.LookupLemmas.{held_whole}

-- the take number of a record, where none counts as 0
abbrev pub number_of : KeyedRecord → ℕ
number_of row = unwrap_or row.current.take 0

-- a stable sort by take number gives the entries in that order
sorted_rows : (chosen : List Entry) (xs ys : List KeyedRecord) → IsNonDecreasingBy number_of ys
    → IsStableByKey number_of nat_cmp xs ys → map entry_of xs ≡ chosen → map entry_of ys ≡ sorted_by take_cmp chosen
sorted_rows chosen xs ys rises stable all =
    ap (map entry_of) (sorted-is number_of xs ys rises stable) ∙ sym (sorted_by-map entry_of take_cmp xs)
    ∙ ap (sorted_by take_cmp) all

-- what the query finds, sorted by take number, is what the builder holds
pub are_held : (machine : Machine) (builder : List ℕ) (xs ys : List KeyedRecord) → IsNonDecreasingBy number_of ys
    → IsStableByKey number_of nat_cmp xs ys
    → map entry_of xs ≡ filter (is_held_with_take builder) (finite.entries machine.records)
    → AreHeld machine builder (map entry_of ys)
unfolding held_of
are_held machine builder xs ys rises stable all = record {
  with_take = sorted_rows _ xs ys rises stable all;
  whole = λ sound. sorted_rows _ xs ys rises stable (all ∙ held_whole machine sound builder);
}
