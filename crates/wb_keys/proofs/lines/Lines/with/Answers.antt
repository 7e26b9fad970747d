-- The line goes last, by its hash, and so does its name.
use Rattle.std.proofs.Common.{◌≡◌, ◌∙◌, ap, subst, sym, List, [], ◌∷◌, ◌++◌, map, ℕ}
use Rattle.std.specs.List.{list_any}
use Rattle.std.specs.Map.{keys_of, values_of}
use Rattle.std.specs.String.{string_bytes}
use Rattle.wb_keys.specs.declared.keys.KeyLine.{KeyLine}
use Rattle.wb_keys.specs.KeyFile.{has_hash, has_name}
use Rattle.wb_keys.proofs.LineLemmas.{hashes-more, lines-more, names-more}
use Rattle.wb_keys.proofs.lines.Lines.with.Goals as goal

pub invariant_of-result : goal.invariant_of-result
invariant_of-result c =
    let line = c.args.line in
    let kept = c.self.inside in
    let P : List (List ℕ × KeyLine) → Type 0 = λ entries. keys_of entries
    ≡ map (λ (one : KeyLine). one.hash) (values_of entries) in
    record {
      hashes = subst P (sym c.in_ok-insert-2.ensures.entries)
          (hashes-more kept.by_hash line c.self.invariant.hashes
          (ap (list_any (has_hash line.hash)) c.self.view_is ∙ c.requires.hash));
      names = ap (map string_bytes) c.in_ok-insert.ensures.keys
          ∙ (names-more c.from.result kept.names.keys (values_of kept.by_hash.entries) line c.self.invariant.names
          (c.from.ensures ∙ c.in_ok-clone.ensures.cases)
          (ap (list_any (has_name line.name)) c.self.view_is ∙ c.requires.name)
          ∙ ap (map (λ (one : KeyLine). one.name))
          (sym (ap values_of c.in_ok-insert-2.ensures.entries
          ∙ lines-more kept.by_hash line c.self.invariant.hashes
          (ap (list_any (has_hash line.hash)) c.self.view_is ∙ c.requires.hash))));
    }

pub returns : goal.returns
returns c = ap values_of c.in_ok-insert-2.ensures.entries
    ∙ (lines-more c.self.inside.by_hash c.args.line c.self.invariant.hashes
    (ap (list_any (has_hash c.args.line.hash)) c.self.view_is ∙ c.requires.hash)
    ∙ ap (λ lines. lines ++ c.args.line ∷ []) c.self.view_is)
