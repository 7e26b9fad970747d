-- The word is put before the last.
use Rattle.std.proofs.Common.{refl}
use Rattle.wb_words.proofs.EscapeLemmas.{escaped-put}
use Rattle.wb_words.proofs.escape.escaped.Goals as goal

pub returns : goal.returns
returns c = record {
  value = escaped-put c.args.words.now c.in_ok-read.read.items c.insert.new.self.items c.saturating_sub-last.result _
      c.in_ok-insert.ensures.items c.in_ok-read.ensures.items c.saturating_sub-last.ensures refl;
}
