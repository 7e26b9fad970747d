-- Words that are read, and others.
use Rattle.std.proofs.Common.{◌∙◌, sym}
use Rattle.wb_daemon.proofs.WordsLemmas.{IsReadAs-words, are_read-long, are_read-some, has_word-none, has_word-some, kind_of_words-unread}
use Rattle.wb_daemon.proofs.read.invocation_of_words.Goals as goal
use Rattle.wb_daemon.proofs.read.invocation_of_words.Goals.{then-is_empty-via-then-is_empty, then-is_empty-via-else-is_empty+then-are_long}

pub returns-then-is_empty : goal.returns-then-is_empty
returns-then-is_empty c = record {
  value = kind_of_words-unread _ (elim c.then-is_empty.branch [
    | then-is_empty-via-then-is_empty w ↦ has_word-none c.args.words.now (sym c.is_empty.ensures ∙ w.if-is_empty.true)
    | then-is_empty-via-else-is_empty+then-are_long w ↦ are_read-long _ (sym w.are_long.ensures.value ∙ w.if-are_long.true)
  ]);
}

pub returns : goal.returns
returns c = record {
  value = IsReadAs-words _ c.invocation_of.result
      (are_read-some _ (has_word-some c.args.words.now (sym c.is_empty.ensures ∙ c.if-is_empty.false)) (sym c.are_long.ensures.value ∙ c.if-are_long.false))
      c.invocation_of.ensures.value c.invocation_of.ensures.refused;
}
