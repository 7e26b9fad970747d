use Rattle.wb_archive.proofs.FeedReadLemmas.{feed-answers, feed-earlier, feed-refuses}
use Rattle.wb_archive.proofs.paragraphs.FeedReadParagraphs.next.Goals as goal

pub returns-clause-ok : goal.returns-clause-ok
returns-clause-ok g c = feed-answers c.next.result c.args.self.now c.next.new.self c.next.ensures.gave

pub returns-clause-refused : goal.returns-clause-refused
returns-clause-refused g c = feed-refuses c.next.result c.args.self.now c.next.new.self c.next.ensures.read c.next.ensures.refuses c.next.ensures.lost

pub returns-clause-earlier : goal.returns-clause-earlier
returns-clause-earlier g c = feed-earlier c.next.result c.args.self.now c.next.new.self c.next.ensures.taken
