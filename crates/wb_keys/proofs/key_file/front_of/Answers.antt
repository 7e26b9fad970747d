-- The words but the last, as a slice has them.
use Rattle.std.proofs.Common.{ap, sym, ◌∙◌, ◌-◌, length, map, take}
use Rattle.std.proofs.lemmas.List.{length-map, take-map}
use Rattle.wb_keys.proofs.key_file.front_of.Goals as goal

pub returns : goal.returns
returns c =
    let words = c.args.words.now in
    ap (λ n. map (λ w. w.now) (take n words)) (c.saturating_sub.ensures
    ∙ ap (λ n. n - 1) (sym (length-map words (λ w. w.now))))
    ∙ sym (take-map (λ w. w.now) (length (map (λ w. w.now) words) - 1) words)
