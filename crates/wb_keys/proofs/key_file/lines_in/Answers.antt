-- The parts of a file between line feeds.
use Rattle.std.proofs.Common.{rules, tests}
use Rattle.std.proofs.lemmas.Iterator.Consumers.{map_from_collect}
use Rattle.std.proofs.lemmas.Iterator.Splits.{YieldsList-from_slice_split}
use Rattle.deb_text.specs.Lines.{is_line_feed}
use Rattle.wb_keys.proofs.key_file.lines_in.Goals as goal

pub returns : goal.returns
returns c = map_from_collect _ c.collect.ensures.ran
    (YieldsList-from_slice_split _ is_line_feed c.args.file.now c.split.ensures.rest c.split.ensures.done
    c.split.ensures.closure (λ x b q k. search (rules, tests)))
